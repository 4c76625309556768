-- Laws of one output packet, measured and written.
use Prim.Native.Nat.{ℕ, ◌+◌, ◌≤◌, ◌<◌}
use native.Mathlib.Omega.{arith}
use mathlib.Core.Path.{◌≡◌, refl, ap, ◌∙◌}
use mathlib.Core.List.{List, [], ◌∷◌, ◌++◌}
use mathlib.Core.Bool.{true, false}
use lib.ListN.{length, length-append}
use lib.Seq.{slice}
use Rattle.bitio.specs.Parse.{Answer, refused, accepted}
use Rattle.bitio.specs.Lent.{pasted, Wrote}
use Rattle.bitio.specs.Every.Every.{also}
use Rattle.bitio.proofs.EveryLaws.{every_append}
use Rattle.bitio.proofs.LentLaws.{wrote-length, wrote-more}
use Rattle.obu.specs.Obu.{Obu, obus}
use Rattle.obu.specs.Unit.{of_unit}
use Rattle.obu.proofs.ObuLaws.{obus-nil}
use Rattle.bitio.specs.Limits.{capped}
use Rattle.container.specs.Stream.{lead, others, either}
use Rattle.container.specs.code.Ranges.{Range, here, more, kept_bytes}
use Rattle.container.proofs.StreamLaws.{bytes-append}
use Rattle.container.proofs.RangeLaws.{range-end}
use Rattle.container.specs.Lists.{listed, unit_of}
use Rattle.packets.specs.code.PacketRuns.{all_parsed, parsed, lead_of, piece, Parses, Full, Run, RunRoom, HeadAt, found, missing, LeadAt, waiting, closing, behind, parses_unit, Piece, Joins}
use Rattle.packets.proofs.SliceLaws.{slice_at, every-or}
use Rattle.container.proofs.ListLaws.{listed-length, listed-short}
use Rattle.packets.proofs.PacketSteps.{first-obu, lead-found, lead-missing}
use Rattle.packets.proofs.PacketRunLaws.{lead-empty, run_bytes, parsed-append}

-- ---- whether a unit parses

pub parses-is : (u : List ℕ) → parses_unit u ≡ true → Parses u
parses-is u e = go (obus u) refl e
  where
    go : (x : Answer (List Obu)) → obus u ≡ x → of_unit false (λ os. true) x ≡ true → Parses u
    go (refused k) q e = let z : ◌≡◌ {A = ℕ} 0 1 = cc in absurd (omega arith)
    go (accepted os) q e = record { os = os; reads = q }

pub parses-not : (u : List ℕ) → parses_unit u ≡ false → (k : ℕ) × (obus u ≡ refused k)
parses-not u e = go (obus u) refl e
  where
    go : (x : Answer (List Obu)) → obus u ≡ x → of_unit false (λ os. true) x ≡ false → (k : ℕ) × (obus u ≡ refused k)
    go (refused k) q e = (k, q)
    go (accepted os) q e = let z : ◌≡◌ {A = ℕ} 0 1 = cc in absurd (omega arith)

-- ---- the delimiter that moves to the front

-- the head of a unit that parses
pub lead-parsed : (u : List ℕ) → Parses u → lead_of u ≡ lead (parsed u)
lead-parsed [] p = rw (obus-nil, lead-empty)
lead-parsed (b ∷ u) p =
    let g = first-obu (b ∷ u) p.os (omega arith) p.reads in
    rw (p.reads, g.list, g.head)

module _ {s es : List ℕ} {a b i : ℕ} (r : Run s es a b) (f : Full (listed s es) a b i) where
  inside : b ≤ length (listed s es)
  inside = omega (arith, listed-length 0 s es, r.within)

  head-found : i < b → lead_of (unit_of s es i) ≡ lead (all_parsed (slice a b (listed s es)))
  head-found l = lead-found (listed s es) a b i inside f l r.parse

  head-missing : b ≤ i → lead_of [] ≡ lead (all_parsed (slice a b (listed s es)))
  head-missing l =
      let e : i ≡ b = omega (arith, f.within) in
      rw (lead-empty, lead-missing (listed s es) a b i inside f e)

head-leads : {s es : List ℕ} {a b : ℕ} {u : List ℕ} → Run s es a b → HeadAt s es a b u → lead_of u ≡ lead (all_parsed (slice a b (listed s es)))
head-leads x (found f l) = head-found x f l
head-leads x (missing f l) = head-missing x f l

range-nil : {s : List ℕ} {a b : ℕ} {l : List Obu} → Range s a b l → l ≡ [] → a ≡ b
range-nil (here l) e = refl
range-nil (more p r) e = let z : ◌≡◌ {A = ℕ} 0 1 = cc in absurd (omega arith)

module _ {u : List ℕ} {e : ℕ} (r : Range u 0 e (lead_of u)) where
  -- a delimiter stands there
  pub lead-yes : 0 < e → lead_of u ≡ [] → ⊥
  lead-yes l n = let z = range-nil r n in omega arith

  -- none does
  pub lead-no : e ≤ 0 → lead_of u ≡ []
  lead-no l = range-end r l

-- packets are no longer than the bytes
unit-short : (s es : List ℕ) (i : ℕ) → length (unit_of s es i) ≤ length s
unit-short s es i = every-or (λ x. length x ≤ length s) i (listed s es) [] (omega arith) (listed-short 0 s es)

head-short : {s es : List ℕ} {a b : ℕ} {u : List ℕ} → HeadAt s es a b u → length u ≤ length s
head-short {s} {es} (found {i} f l) = unit-short s es i
head-short (missing f l) = omega arith

pub lead-short : {s es : List ℕ} {a c b : ℕ} {u : List ℕ} → LeadAt s es a c b u → length u ≤ length s
lead-short (waiting h n) = head-short h
lead-short {s} {es} {c} (closing h n m) = unit-short s es c
lead-short (behind h n m k) = head-short k

-- ---- the runs of a piece

module _ {s es : List ℕ} {a c b : ℕ} (p : Piece s es a c b) where
  pub front-run : Run s es a c
  front-run = record { short = p.short; within = omega (arith, p.after, p.within); order = p.order; parse = p.front }

  pub back-run : Run s es (c + 1) b
  back-run = record { short = p.short; within = p.within; order = omega (arith, p.after); parse = p.back }

  whole : slice a b (listed s es) ≡ slice a c (listed s es) ++ (unit_of s es c ∷ slice (c + 1) b (listed s es))
  whole = slice_at a c b (listed s es) [] p.order p.after (omega (arith, listed-length 0 s es, p.within))

  pub whole_run : Parses (unit_of s es c) → Run s es a b
  whole_run m =
      record {
        short = p.short;
        within = p.within;
        order = omega (arith, p.order, p.after);
        parse = rw whole (every_append {P = Parses} p.front (also m p.back));
      }

  whole-held : all_parsed (slice a b (listed s es)) ≡ all_parsed (slice a c (listed s es)) ++ (parsed (unit_of s es c) ++ all_parsed (slice (c + 1) b (listed s es)))
  unfolding all_parsed
  whole-held = ap all_parsed whole ∙ parsed-append (slice a c (listed s es)) (unit_of s es c ∷ slice (c + 1) b (listed s es))

  -- the packet that closes parses
  pub piece-joined : (m : Parses (unit_of s es c)) (x : List Obu)
      → x ≡ either (lead (all_parsed (slice a c (listed s es)))) (either (lead (parsed (unit_of s es c))) (lead (all_parsed (slice (c + 1) b (listed s es)))))
      → piece (listed s es) a c b ≡ kept_bytes true x ++ run_bytes false (listed s es) a b
  unfolding piece
  piece-joined m x e =
      let w = all_parsed (slice a c (listed s es)) in
      let t = all_parsed (slice (c + 1) b (listed s es)) in
      rw (e, whole-held, m.reads) (bytes-append (either (lead w) (either (lead m.os) (lead t))) (others (w ++ (m.os ++ t))))

  -- it does not
  pub piece-apart : (k : ℕ) → obus (unit_of s es c) ≡ refused k
      → piece (listed s es) a c b ≡ run_bytes true (listed s es) a c ++ (unit_of s es c ++ run_bytes true (listed s es) (c + 1) b)
  unfolding piece
  piece-apart k e = rw e

-- ---- the three places where the delimiter may stand

module _ (s es : List ℕ) (a c b : ℕ) (j : Joins s es a c b) where
  abbrev first : List Obu
  first = lead (all_parsed (slice a c (listed s es)))

  abbrev second : List Obu
  second = lead (parsed (unit_of s es c))

  abbrev third : List Obu
  third = lead (all_parsed (slice (c + 1) b (listed s es)))

  either-some : (x y : List Obu) → (x ≡ [] → ⊥) → x ≡ either x y
  either-some [] y n = absurd (n refl)
  either-some (o ∷ x) y n = refl

  lead-leads : {u : List ℕ} → LeadAt s es a c b u → lead_of u ≡ either first (either second third)
  lead-leads (waiting {u} h n) =
      either-some (lead_of u) (either second third) n ∙ ap (λ y. either y (either second third)) (head-leads (front-run j.all) h)
  lead-leads (closing h n m) =
      rw (← head-leads (front-run j.all) h, n)
      (either-some (lead_of (unit_of s es c)) third m ∙ ap (λ y. either y third) (lead-parsed (unit_of s es c) j.mid))
  lead-leads (behind h n m k) =
      rw (← head-leads (front-run j.all) h, n, ← lead-parsed (unit_of s es c) j.mid, m) (head-leads (back-run j.all) k)

  -- ---- where the packet that closes parses

  module _ (u : List ℕ) (h : LeadAt s es a c b u) where
    split : piece (listed s es) a c b ≡ kept_bytes true (lead_of u) ++ run_bytes false (listed s es) a b
    split = piece-joined j.all j.mid (lead_of u) (lead-leads h)

    split-length : length (piece (listed s es) a c b) ≡ length (kept_bytes true (lead_of u)) + length (run_bytes false (listed s es) a b)
    split-length = ap length split ∙ length-append (kept_bytes true (lead_of u)) (run_bytes false (listed s es) a b)

    pub joined-size : {m n k : ℕ} → m ≡ length (kept_bytes true (lead_of u)) → n ≡ capped (length (run_bytes false (listed s es) a b)) → k ≡ capped (m + n)
        → k ≡ capped (length (piece (listed s es) a c b))
    joined-size p q r = omega (arith, split-length)

    pub joined-head : (d : List ℕ) (to : ℕ) → to + length (piece (listed s es) a c b) ≤ length d → to + length (kept_bytes true (lead_of u)) ≤ length d
    joined-head d to room = omega (arith, split-length)

    module _ {d : List ℕ} {to : ℕ} (room : to + length (piece (listed s es) a c b) ≤ length d) where
      module _ {o : List ℕ} {w : ℕ} (x : Wrote d to (kept_bytes true (lead_of u)) w o) where
        pub joined-room : RunRoom s es a b false o w
        joined-room =
            record {
              run = whole_run j.all j.mid;
              room = omega (arith, split-length, x.next, wrote-length x (joined-head d to room));
            }

        pub joined-wrote : {p : List ℕ} {v : ℕ} → Wrote o w (run_bytes false (listed s es) a b) v p → Wrote d to (piece (listed s es) a c b) v p
        joined-wrote y = rw split (wrote-more x (omega arith) y)

-- ---- where it does not

module _ (s es : List ℕ) (a c b : ℕ) (j : Piece s es a c b) (k : ℕ) (bad : obus (unit_of s es c) ≡ refused k) where
  abbrev front : List ℕ
  front = run_bytes true (listed s es) a c

  abbrev back : List ℕ
  back = run_bytes true (listed s es) (c + 1) b

  apart : piece (listed s es) a c b ≡ front ++ (unit_of s es c ++ back)
  apart = piece-apart j k bad

  apart-length : length (piece (listed s es) a c b) ≡ length front + (length (unit_of s es c) + length back)
  apart-length = ap length apart ∙ length-append front (unit_of s es c ++ back) ∙ ap (λ n. length front + n) (length-append (unit_of s es c) back)

  pub apart-size : {m n x y r : ℕ} → m ≡ capped (length front) → n ≡ length (unit_of s es c) → x ≡ capped (m + n) → y ≡ capped (length back) → r ≡ capped (x + y)
      → r ≡ capped (length (piece (listed s es) a c b))
  apart-size p q u v w = omega (arith, apart-length)

  module _ {d : List ℕ} {to : ℕ} (room : to + length (piece (listed s es) a c b) ≤ length d) where
    pub apart-front : RunRoom s es a c true d to
    apart-front = record { run = front-run j; room = omega (arith, apart-length) }

    module _ {o : List ℕ} {w : ℕ} (x : Wrote d to front w o) where
      pub apart-mid : w + length (unit_of s es c) ≤ length o
      apart-mid = omega (arith, apart-length, x.next, wrote-length x apart-front.room)

      module _ {p : List ℕ} {v : ℕ} (y : Wrote o w (unit_of s es c) v p) where
        pub apart-back : RunRoom s es (c + 1) b true p v
        apart-back =
            record {
              run = back-run j;
              room = omega (arith, apart-length, x.next, y.next, wrote-length x apart-front.room, wrote-length y apart-mid);
            }

        pub apart-wrote : {f : List ℕ} {g : ℕ} → Wrote p v back g f → Wrote d to (piece (listed s es) a c b) g f
        apart-wrote z = rw apart (wrote-more x (omega arith) (wrote-more y (omega (arith, apart-mid)) z))

-- a copy of u, which is v
pub wrote-copy : {u v d o : List ℕ} {to w : ℕ} → u ≡ v → w ≡ to + length u → o ≡ pasted d to u → Wrote d to v w o
wrote-copy {u} {v} {d} {o} {to} {w} q e f = rw (← q) (record { next = e; out = f })
