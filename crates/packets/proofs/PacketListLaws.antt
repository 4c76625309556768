-- Laws of packets in lent memory: the units that their ends give.
use Prim.Native.Nat.{ℕ, zero, suc, ◌+◌, ◌-◌, ◌^◌, ◌≤◌, ◌<◌}
use native.Mathlib.Omega.{arith}
use mathlib.Core.Path.{◌≡◌, refl, ◌∙◌}
use mathlib.Core.List.{List, [], ◌∷◌}
use mathlib.Core.Bool.{Bool, true, false, not, cond as pick}
use lib.ListN.{length, get_or}
use lib.Seq.{slice, slice_empty}
use lib.Dec.{leb, eqb}
use borrow.Author.Tests.{eq-eqb, ne_eqb}
use Rattle.std.specs.Prelude.{Option, Some, None}
use Rattle.std.specs.List.{find, range_with_len}
use Rattle.bitio.specs.Parse.{Answer, refused, accepted, answer}
use Rattle.bitio.specs.Every.{Every}
use Rattle.bitio.specs.Every.Every.{nothing, also}
use Rattle.bitio.specs.Limits.{limit}
use Rattle.obu.specs.Obu.{Obu}
use Rattle.obu.specs.Unit.{is_frame, count, of_unit}
use Rattle.obu.proofs.UnitLaws.{has-count}
use Rattle.container.specs.Stream.{has_frame}
use Rattle.container.specs.Units.{units_at}
use Rattle.container.specs.Lists.{listed, accepts}
use Rattle.container.proofs.ListLaws.{units-listed, listed-length, listed-short}
use Rattle.packets.specs.PacketLists.{stamped, packets_at, bytes_of, times_of}
use Rattle.packets.specs.code.PacketRuns.{closes, next_close, Next, NextClose, first_full, Full, FirstFull, packets_of}
use Rattle.packets.proofs.SliceLaws.{slice_at}
use Rattle.packets.proofs.PacketLaws.{Short, waits}

-- ---- units that wait, and units without bytes

-- whether a unit closes, by its count of frames
pub closes-counted : (x : Answer (List Obu)) (n : ℕ) → answer (count is_frame) x ≡ accepted n → leb 1 n ≡ of_unit true has_frame x
closes-counted (refused j) n e = let z : ◌≡◌ {A = ℕ} 0 1 = cc in absurd (omega arith)
closes-counted (accepted os) n e = let q : count is_frame os ≡ n = cc in rw (← q) (has-count is_frame os)

-- ---- the first unit that is looked for

module _ (us : List (List ℕ)) where
  slice-head : (a c : ℕ) → a < c → c ≤ length us → slice a c us ≡ get_or us a [] ∷ slice (a + 1) c us
  slice-head a c h k = slice_at a a c us [] (omega arith) h k ∙ rw (slice_empty a us) refl

  next-wider : (a c : ℕ) → closes (get_or us a []) ≡ false → Next us (a + 1) c → Next us a c
  next-wider a c p n =
      record {
        order = omega (arith, n.order);
        within = n.within;
        wait = rw (slice-head a c (omega (arith, n.order)) n.within) (also (waits (get_or us a []) p) n.wait);
        close = n.close;
      }

  next-behind : (a : ℕ) → closes (get_or us a []) ≡ false → (o : Option ℕ) → NextClose us (a + 1) o → NextClose us a o
  next-behind a p None n = next-wider a (length us) p n
  next-behind a p (Some c) n = (next-wider a c p n.0, n.1)

  next-from : (k a : ℕ) → a + k ≡ length us → (o : Option ℕ) → o ≡ find (λ i. closes (get_or us i [])) (range_with_len a k) → NextClose us a o
  next-from zero a e o q =
      let l : length us ≡ a = omega arith in
      rw q (record { order = omega arith; within = omega arith; wait = rw (l, slice_empty a us) nothing; close = λ h. absurd (omega arith) })
  next-from (suc k) a e o q = go (next-from k (a + 1) (omega arith) o) (closes (get_or us a [])) refl q
    where
      more : Option ℕ
      more = find (λ i. closes (get_or us i [])) (range_with_len (a + 1) k)

      go : (o ≡ more → NextClose us (a + 1) o) → (t : Bool) → closes (get_or us a []) ≡ t → o ≡ pick t (Some a) more → NextClose us a o
      go m true p f = rw f (record { order = omega arith; within = omega arith; wait = rw (slice_empty a us) nothing; close = λ _. p }, omega arith)
      go m false p f = next-behind a p o (m f)

  module _ (b : ℕ) (k : b ≤ length us) where
    full-wider : (a i : ℕ) → length (get_or us a []) ≡ 0 → a < b → Full us (a + 1) b i → Full us a b i
    full-wider a i p l f =
        record {
          order = omega (arith, f.order);
          within = f.within;
          empty = rw (slice-head a i (omega (arith, f.order)) (omega (arith, f.within))) (also p f.empty);
          full = f.full;
        }

    full-behind : (a : ℕ) → length (get_or us a []) ≡ 0 → a < b → (o : Option ℕ) → FirstFull us (a + 1) b o → FirstFull us a b o
    full-behind a p l None f = full-wider a b p l f
    full-behind a p l (Some i) f = (full-wider a i p l f.0, f.1)

    full-from : (m a : ℕ) → a + m ≡ b → (o : Option ℕ) → o ≡ find (λ i. not (eqb (length (get_or us i [])) 0)) (range_with_len a m) → FirstFull us a b o
    full-from zero a e o q =
        let l : b ≡ a = omega arith in
        rw q (record { order = omega arith; within = omega arith; empty = rw (l, slice_empty a us) nothing; full = λ h. absurd (omega arith) })
    full-from (suc m) a e o q = go (full-from m (a + 1) (omega arith) o) (length (get_or us a [])) refl q
      where
        more : Option ℕ
        more = find (λ i. not (eqb (length (get_or us i [])) 0)) (range_with_len (a + 1) m)

        go : (o ≡ more → FirstFull us (a + 1) b o) → (n : ℕ) → length (get_or us a []) ≡ n → o ≡ pick (not (eqb n 0)) (Some a) more → FirstFull us a b o
        go h zero p f = full-behind a p (omega arith) o (h f)
        go h (suc n) p f =
            let g : o ≡ Some a = rw (ne_eqb (suc n) 0 (λ e. omega arith)) at f in
            rw g (record { order = omega arith; within = omega arith; empty = rw (slice_empty a us) nothing; full = λ _. omega arith }, omega arith)

module _ (s es : List ℕ) where
  pub next-found : (a : ℕ) → a ≤ length es → (o : Option ℕ) → o ≡ next_close (listed s es) a (length es) → NextClose (listed s es) a o
  next-found a h o q = next-from (listed s es) (length es - a) a (omega (arith, listed-length 0 s es)) o q

  pub full-found : (a b : ℕ) → a ≤ b → b ≤ length es → (o : Option ℕ) → o ≡ first_full (listed s es) a b → FirstFull (listed s es) a b o
  full-found a b h k o q = full-from (listed s es) b (omega (arith, listed-length 0 s es)) (b - a) a (omega arith) o q

-- ---- the packets

pub stamped-bytes : (ts : List ℕ) (us : List (List ℕ)) → length us ≡ length ts → bytes_of (stamped ts us) ≡ us
unfolding bytes_of stamped
stamped-bytes [] [] e = refl
stamped-bytes [] (u ∷ us) e = absurd (omega arith)
stamped-bytes (t ∷ ts) [] e = absurd (omega arith)
stamped-bytes (t ∷ ts) (u ∷ us) e = rw (stamped-bytes ts us (omega arith))

pub stamped-times : (ts : List ℕ) (us : List (List ℕ)) → length us ≡ length ts → times_of (stamped ts us) ≡ ts
unfolding times_of stamped
stamped-times [] [] e = refl
stamped-times [] (u ∷ us) e = absurd (omega arith)
stamped-times (t ∷ ts) [] e = absurd (omega arith)
stamped-times (t ∷ ts) (u ∷ us) e = rw (stamped-times ts us (omega arith))

stamped-short : (n : ℕ) (ts : List ℕ) (us : List (List ℕ)) → n < 2 ^ 56 → Every (λ u. length u ≤ n) us → Every Short (stamped ts us)
unfolding stamped
stamped-short n [] us h e = nothing
stamped-short n (t ∷ ts) [] h e = nothing
stamped-short n (t ∷ ts) (u ∷ us) h (also p ps) = also {a = record { time = t; bytes = u }} (omega arith) (stamped-short n ts us h ps)

module _ (s es ts : List ℕ) where
  pub packets-unmatched : (length es ≡ length ts → ⊥) → packets_at s es ts ≡ refused 36
  unfolding packets_at
  packets-unmatched n = rw (ne_eqb (length es) (length ts) n)

  module _ (m : length es ≡ length ts) where
    packets-given : packets_at s es ts ≡ answer (stamped ts) (units_at s es)
    unfolding packets_at
    packets-given = rw (eq-eqb (length es) (length ts) m)

    pub packets-wrong : {k : ℕ} → units_at s es ≡ refused k → packets_at s es ts ≡ refused k
    packets-wrong r = packets-given ∙ rw r

    pub packets-there : accepts (units_at s es) ≡ true → packets_at s es ts ≡ accepted (packets_of s es ts)
    packets-there r = packets-given ∙ rw (units-listed s es r)

    pub packets-bytes : bytes_of (packets_of s es ts) ≡ listed s es
    packets-bytes = stamped-bytes ts (listed s es) (listed-length 0 s es ∙ m)

    pub packets-times : times_of (packets_of s es ts) ≡ ts
    packets-times = stamped-times ts (listed s es) (listed-length 0 s es ∙ m)

    pub packets-short : length s ≤ limit → Every Short (packets_of s es ts)
    packets-short l = stamped-short (length s) ts (listed s es) (omega arith) (listed-short 0 s es)
