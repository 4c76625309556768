-- Laws of the line of an answer.
use Rattle.std.proofs.Common.{◌≡◌, refl, sym, Bool, ◌++◌, Some, None, ℕ, zero, suc, ◌+◌, ◌-◌, ◌^◌, ◌≤◌, ◌<◌, arith}
use Rattle.protocol.specs.Kinds.{Form}
use Rattle.protocol.specs.Marked.{is_clean}
use Rattle.protocol.specs.Told.{Told}
use Rattle.protocol.specs.Typed.{typed}
use Rattle.protocol.specs.Printed.{Printing, item_text, next_of, past_of, items_text, print_start, format_of, head_text, end_text, answer_text}
use Rattle.protocol.specs.declared.output.Output.{Output}
use Rattle.protocol.proofs.TypedLaws.{typed_both}

module _ (t : Told) (o : Output) where
  -- one item more
  pub print_more : (k i : ℕ) (p : Printing) {q r : Printing} {v : Output} → i < k → next_of t p ≡ Some q → v ≡ typed o (item_text t q) → r ≡ past_of q
      → typed o (items_text (k - i) t p) ≡ typed v (items_text (k - (i + 1)) t r)
  unfolding items_text
  print_more k i p {q} {r} {v} h e f g =
      let n : k - i ≡ suc (k - (i + 1)) = omega arith in
      rw (n, items_text, e, g) (sym (typed_both o (item_text t q) (items_text (k - (i + 1)) t (past_of q)) f refl refl))

  pub print_over : (k : ℕ) (p : Printing) → next_of t p ≡ None → typed o (items_text k t p) ≡ o
  unfolding items_text typed
  print_over zero p e = refl
  print_over (suc k) p e = rw (items_text, e) refl

  pub print_end : (k i : ℕ) (p : Printing) → k ≤ i → typed o (items_text (k - i) t p) ≡ o
  unfolding items_text typed
  print_end k i p h =
      let n : k - i ≡ 0 = omega arith in
      rw n refl

-- head, items and end, one behind the other
pub answer_typed : (t : Told) (own : Bool) (o : Output) (f : Form) {g : Form} {clean : Bool} {u v w : Output}
    → g ≡ format_of t.answer.refusal f → clean ≡ is_clean own t.answer t.bytes t.ends t.numbers → u ≡ typed o (head_text t.answer.refusal)
    → v ≡ typed u (items_text (2 ^ 64 - 1) t (print_start g)) → w ≡ typed v (end_text clean) → w ≡ typed o (answer_text t f own)
unfolding answer_text
answer_typed t own o f {g} {clean} {u} {v} {w} e n a b c =
    let items = items_text (2 ^ 64 - 1) t (print_start g) in
    rw (← e, ← n)
    (typed_both o (head_text t.answer.refusal) (items ++ end_text clean) a (typed_both u items (end_text clean) b c refl) refl)
