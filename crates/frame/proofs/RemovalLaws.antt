-- The operating points that have a removal time: counted one after another, and AV1's loop over them.
use Prim.Native.Nat.{ℕ, suc}
use mathlib.Core.Path.{◌≡◌, refl, ap, ◌∙◌}
use mathlib.Core.List.{List, [], ◌∷◌}
use mathlib.Core.Bool.{Bool, true, false, cond as pick}
use native.Mathlib.Omega.{arith}
use Rattle.bitio.specs.Bits.{Reading, fails, reads, and_then, read_bits}
use Rattle.std.specs.Prelude.{count_by, take}
use Rattle.std.proofs.lemmas.List.Recursion.{is_count_by}
use Rattle.obu.specs.Unit.{count}
use Rattle.syntax.specs.Syntax.{Syntax, field, read_over, run}
use Rattle.syntax.specs.Repeat.{times}
use Rattle.header.specs.SequencePoints.{point_count}
use Rattle.header.specs.Sequence.{sequence_in}
use Rattle.header.specs.declared.seq_header.OperatingPoint.{OperatingPoint}
use Rattle.header.specs.declared.seq_header.SequenceObu.{SequenceObu}
use Rattle.frame.specs.Frame.{modelled, removals}

-- a count as the library has it
pub count_is : {A : Type 0} (has : A → Bool) (xs : List A) → count has xs ≡ count_by has xs
unfolding count
count_is has xs = is_count_by (count has) has refl (λ x xs. ap (λ (n : ℕ). pick (has x) n (count has xs)) (omega arith)) xs

-- counted over the operating points that a header has, it is the header's
pub removals-counted : (x : SequenceObu) {n : ℕ} {ps : List OperatingPoint} → n ≡ count modelled ps → ps ≡ take (point_count x.header.opening) x.operating_points
    → n ≡ removals modelled (sequence_in x)
removals-counted x e p = e ∙ ap (count modelled) p

-- ---- AV1's loop

-- AV1 5.9.2: for each operating point in turn, a removal time of n bits if it has one
unfoldable pub removal_loop : (OperatingPoint → Bool) → ℕ → List OperatingPoint → Syntax (Unit {0})
removal_loop has n [] = read_over
removal_loop has n (x ∷ xs) = field (has x) n (λ time. removal_loop has n xs)

over-then : (r : Reading ℕ) (f g : ℕ → Reading (Unit {0})) → ((q : ℕ) → f q ≡ g q) → and_then r (λ v q. f q) ≡ and_then {A = Unit {0}} (and_then r (λ v q. reads tt q)) (λ v q. g q)
over-then (fails k) f g h = refl
over-then (reads a q) f g h = h q

-- it reads as many times as there are such points
pub loop-counts : (has : OperatingPoint → Bool) (n : ℕ) (xs : List OperatingPoint) (s : List ℕ) (p : ℕ)
    → run (removal_loop has n xs) s p ≡ run (times (count has xs) (field true n (λ time. read_over))) s p
unfolding run removal_loop times count
loop-counts has n [] s p = refl
loop-counts has n (x ∷ xs) s p = by-point (has x) (λ q. loop-counts has n xs s q)
  where
    by-point : (b : Bool) → ((q : ℕ) → run (removal_loop has n xs) s q ≡ run (times (count has xs) (field true n (λ time. read_over))) s q)
        → and_then (pick b (read_bits s p n) (reads 0 p)) (λ v q. run (removal_loop has n xs) s q) ≡ run (times (pick b (suc (count has xs)) (count has xs)) (field true n (λ time. read_over))) s p
    by-point true rest = over-then (read_bits s p n) (λ q. run (removal_loop has n xs) s q) (λ q. run (times (count has xs) (field true n (λ time. read_over))) s q) rest
    by-point false rest = rest p
