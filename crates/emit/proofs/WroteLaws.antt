-- Laws of bits written one field after the other.
use mathlib.Core.Path.{◌≡◌, refl, sym, ap, ap₂, ◌∙◌}
use Prim.Native.Nat.{ℕ, zero, suc, ◌+◌, ◌-◌, ◌*◌, ◌/◌, ◌%◌, ◌≤◌, ◌<◌}
use native.Mathlib.Decide.{ℕ_discrete}
use native.Mathlib.Omega.{arith}
use mathlib.Core.List.{List, [], ◌∷◌, ◌++◌, append_assoc, append-nil}
use native.Mathlib.Numerals.{add-one}
use lib.ListN.{length, length-append, get_or, take}
use lib.Seq.{take-suc, get_or-set_same, get_or-set_other}
use Rattle.std.specs.Prelude.{Result, Ok, Err}
use Rattle.std.specs.Result.{result_unwrap_or}
use Rattle.bitio.specs.Bits.{Bytes}
use Rattle.bitio.specs.Lent.{pasted}
use Rattle.bitio.specs.Write.{bits_of, unpack, with_bit, set_bit, put_bits, bits_placed, bits_lent, writing}
use Rattle.bitio.specs.declared.refusal.Refusal.{Refusal}
use Rattle.bitio.specs.declared.writer.BitWriter.{BitWriter}
use Rattle.bitio.proofs.LentLaws.{pasted-take-end}
use Rattle.bitio.proofs.UnpackLaws.{length-bits, length-unpack}
use Rattle.bitio.proofs.WriteLaws.{with_code, with-fits, put-length, unpack-put, placed-there, lent-there}
use Rattle.emittable.specs.PutFields.{put}
use Rattle.emittable.specs.PutSequence.{put_point, put_points}
use Rattle.emit.specs.code.WroteBits.{WroteBits}
use Rattle.header.specs.declared.seq_header.Opening.{Opening}
use Rattle.header.specs.declared.seq_header.OperatingPoint.{OperatingPoint}

-- nothing
pub wrote_none : (d : List ℕ) (p : ℕ) → WroteBits d p d p (λ l. l)
wrote_none d p =
    record { apart = λ l. refl; added = λ room. record { len = refl; bytes = λ b. b; place = omega arith; adds = sym (append-nil (take p (unpack d))) } }

-- one field after the other
pub wrote_then : {d e g : List ℕ} {p q r : ℕ} {f h : List ℕ → List ℕ} → WroteBits d p e q f → WroteBits e q g r h → WroteBits d p g r (λ l. f (h l))
wrote_then {d} {e} {g} {p} {q} {r} {f} {h} x y =
    let both = x.apart (h []) in
    let size : length (f (h [])) ≡ length (f []) + length (h []) = ap length both ∙ length-append (f []) (h []) in
    record {
      apart = λ l. x.apart (h l) ∙ ap (λ z. f [] ++ z) (y.apart l) ∙ sym (append_assoc (f []) (h []) l) ∙ ap (λ z. z ++ l) (sym both);
      added = λ room.
          let a = x.added (omega arith) in
          let b = y.added (omega (arith, a.len, a.place)) in
          record {
            len = b.len ∙ a.len;
            bytes = λ k. b.bytes (a.bytes k);
            place = omega (arith, a.place, b.place);
            adds = b.adds ∙ ap (λ z. z ++ h []) a.adds ∙ append_assoc (take p (unpack d)) (f []) (h []) ∙ ap (λ z. take p (unpack d) ++ z) (sym both);
          };
    }

-- the same bits, said another way
pub wrote_as : {d e : List ℕ} {p q : ℕ} {f g : List ℕ → List ℕ} → ((l : List ℕ) → f l ≡ g l) → WroteBits d p e q f → WroteBits d p e q g
wrote_as {d} {e} {p} {q} {f} {g} same x =
    record {
      apart = λ l. sym (same l) ∙ x.apart l ∙ ap (λ z. z ++ l) (same []);
      added = λ room. rw (same []) at (x.added (rw (same []) room));
    }

-- bytes stay bytes
put-bytes : (s : List ℕ) (p v n : ℕ) → p + n ≤ 8 * length s → Bytes s → Bytes (put_bits s p v n)
unfolding put_bits set_bit
put-bytes s p v zero l b i = b i
put-bytes s p v (suc n) l b i =
    let t = put_bits s p (v / 2) n in
    let h = put-bytes s p (v / 2) n (omega arith) b in
    let z = put-length s p (v / 2) n in
    let w = with_bit (get_or t ((p + n) / 8) 0) (7 - (p + n) % 8) (v % 2) in
    elim (ℕ_discrete i ((p + n) / 8)) [
      | yes e ↦
          let x = get_or t ((p + n) / 8) 0 in
          let k = 7 - (p + n) % 8 in
          rw (e, get_or-set_same t ((p + n) / 8) w 0 (omega arith))
          (rw (with_code x k (v % 2) (omega arith)) at (with-fits x k (v % 2) (h ((p + n) / 8)) (omega arith) (omega arith)))
      | no m ↦ rw (get_or-set_other t ((p + n) / 8) i w 0 m) (h i)
    ]

-- with room, the writer does not refuse, and stands behind what it has written
module _ (d : List ℕ) (p n : ℕ) (size : length d ≡ 400) where
  ends : p + n ≤ 8 * length d → (r : Result BitWriter Refusal) (w : BitWriter) → writing r ≡ bits_placed d p n → (result_unwrap_or r w).pos ≡ p + n
  ends room (Ok x) w e = let f = placed-there d p n (omega arith) in cc
  ends room (Err k) w e =
      let f = placed-there d p n (omega arith) in
      let z : ◌≡◌ {A = ℕ} 0 1 = cc in
      absurd (omega arith)

  pub wrote-bits : {e : List ℕ} {w : BitWriter} (r : Result BitWriter Refusal) (u : BitWriter) (v : ℕ) → writing r ≡ bits_placed d p n → e ≡ bits_lent d p v n → w ≡ result_unwrap_or r u
      → WroteBits d p e w.pos (put n v)
  unfolding put
  wrote-bits {e} {w} r u v s t b =
      let none = append-nil (bits_of n v) in
      let k = length-bits n v in
      record {
        apart = λ l. ap (λ x. x ++ l) (sym none);
        added = λ long.
            let room : p + n ≤ 8 * length d = omega (arith, long, ap length none) in
            let at : w.pos ≡ p + n = ap (λ (x : BitWriter). x.pos) b ∙ ends room r u s in
            let o : e ≡ put_bits d p v n = t ∙ lent-there d p v n (omega arith) in
            let l = length-unpack d in
            let x : unpack e ≡ pasted (unpack d) p (bits_of n v) = ap unpack o ∙ unpack-put d p v n room in
            let j : w.pos ≡ p + length (bits_of n v) = at ∙ ap (λ j. p + j) (sym k) in
            record {
              len = ap length o ∙ put-length d p v n;
              bytes = λ b. rw o (put-bytes d p v n room b);
              place = j ∙ ap (λ y. p + length y) (sym none);
              adds = ap₂ take j x ∙ pasted-take-end (unpack d) p (bits_of n v) (omega arith) ∙ ap (λ y. take p (unpack d) ++ y) (sym none);
            };
      }

-- ---- operating points

put_last : (o : Opening) (xs : List OperatingPoint) (x : OperatingPoint) (l : List ℕ) → put_points o xs (put_point o x l) ≡ put_points o (xs ++ (x ∷ [])) l
unfolding put_points
put_last o [] x l = refl
put_last o (y ∷ xs) x l = ap (put_point o y) (put_last o xs x l)

-- none so far
pub wrote-first : (d : List ℕ) (p : ℕ) (o : Opening) → WroteBits d p d p (put_points o [])
unfolding put_points
wrote-first d p o = wrote_none d p

-- one more
pub wrote-point : {d e g : List ℕ} {p q r : ℕ} (o : Opening) (xs : List OperatingPoint) (x : OperatingPoint) (i : ℕ) → i < length xs
    → WroteBits d p e q (put_points o (take i xs)) → WroteBits e q g r (put_point o (get_or xs i x)) → WroteBits d p g r (put_points o (take (i + 1) xs))
wrote-point o xs x i h a b =
    wrote_as (λ l. put_last o (take i xs) (get_or xs i x) l ∙ ap (λ ys. put_points o ys l) (sym (ap (λ j. take j xs) (add-one i) ∙ take-suc xs i x h)))
    (wrote_then a b)
