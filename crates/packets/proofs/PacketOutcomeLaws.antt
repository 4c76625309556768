-- Laws of merge_frameless_packets: its outcomes.
use Prim.Native.Nat.{ℕ, ◌+◌, ◌≤◌, ◌<◌}
use native.Mathlib.Omega.{arith}
use mathlib.Core.Path.{◌≡◌, sym, ap, ap₂, ◌∙◌}
use mathlib.Core.List.{List, [], ◌∷◌, append-nil}
use mathlib.Core.Bool.{true, false, ◌&&◌}
use lib.ListN.{length, get_or, set}
use lib.Dec.{leb}
use borrow.Author.Tests.{le-leb, lt-leb, leb-true}
use Rattle.bitio.specs.Parse.{refused, accepted, answer, and_next}
use Rattle.bitio.proofs.LentLaws.{pasted-nil, pasted-one}
use Rattle.bitio.proofs.ParseLaws.{and_both}
use Rattle.obu.specs.Obu.{unit_bytes}
use Rattle.bitio.specs.Limits.{limit, capped}
use Rattle.container.specs.Stream.{flat, stream_bytes}
use Rattle.packets.specs.Packets.{Packet}
use Rattle.bitio.specs.Lent.{Wrote}
use Rattle.container.specs.Units.{units_at, ends_of, sizes_of, bytes_after, ends_after}
use Rattle.std.specs.Prelude.{Result, Ok, Err}
use Rattle.bitio.specs.Refusal.{number, says}
use Rattle.bitio.specs.declared.refusal.Refusal.{Refusal}
use Rattle.bitio.specs.declared.refusal.Refusal.TheVariants.{NoRoom, NotAList}
use Rattle.container.specs.declared.units.Sizes.{Sizes}
use Rattle.packets.specs.PacketLists.{packets_at, bytes_of, times_of, PacketRoom, lent_room, fits_packets, fit_packets, merged_at, times_after}
use Rattle.container.specs.Lists.{listed}
use Rattle.packets.specs.code.PacketRuns.{all_parsed, Next, Full, Run, RunRoom, packets_of, merged_of, Totals, Closing, MergeRoom, WroteMerged, Given, NoneCloses, OneCloses, Outcome}
use Rattle.packets.proofs.RoomLaws.{fits-capped}
use Rattle.packets.proofs.SliceLaws.{slice-rest}
use Rattle.container.proofs.ListLaws.{listed-length}
use Rattle.packets.proofs.PacketListLaws.{packets-bytes, packets-times, packets-unmatched, packets-wrong, packets-there}
use Rattle.packets.proofs.PacketSteps.{length-bytes_of, alone-some, alone-none}
use Rattle.packets.proofs.PacketRunLaws.{run_bytes}
use Rattle.packets.proofs.PacketMergeLaws.{all-parse}

-- ---- room

packets-capped : (x u : ℕ) (room : PacketRoom) → fits_packets (capped x) u room ≡ fits_packets x u room
packets-capped x u room = ap (λ b. b && leb u room.times) (fits-capped x u (record { bytes = room.bytes; ends = room.ends }))

record Fits (n u : ℕ) (room : PacketRoom) : Type 0 where
  small : n ≤ limit
  bytes : n ≤ room.bytes
  ends : u ≤ room.ends
  times : u ≤ room.times

fits_all : (n u : ℕ) (room : PacketRoom) → fits_packets n u room ≡ true → Fits n u room
fits_all n u room e =
    let p = and_both (leb n limit && (leb n room.bytes && leb u room.ends)) (leb u room.times) e in
    let q = and_both (leb n limit) (leb n room.bytes && leb u room.ends) p.0 in
    let r = and_both (leb n room.bytes) (leb u room.ends) q.1 in
    record {
      small = leb-true n limit q.0;
      bytes = leb-true n room.bytes r.0;
      ends = leb-true u room.ends r.1;
      times = leb-true u room.times p.1;
    }

-- ---- the outcomes

module _ (s es ts o e t : List ℕ) where
  refuse : (r : Refusal) → merged_at (lent_room o e t) s es ts ≡ refused (number r) → Outcome s es ts o e t (Err r) o e t
  refuse r q = record { answers = rw q; bytes = rw q; ends = rw q; times = rw q }

  at_long : {k : ℕ} → (limit < length s) × (k ≡ 34) → merged_at (lent_room o e t) s es ts ≡ refused k
  unfolding merged_at and_next
  at_long (l, q) = rw (lt-leb (length s) limit l, q)

  at_none : {k : ℕ} → length s ≤ limit → packets_at s es ts ≡ refused k → merged_at (lent_room o e t) s es ts ≡ refused k
  unfolding merged_at and_next
  at_none l q = rw (le-leb (length s) limit l, q)

  pub out-long : (r : Refusal) → (limit < length s) × (number r ≡ 34) → Outcome s es ts o e t (Err r) o e t
  out-long r l = refuse r (at_long l)

  pub out-unmatched : length s ≤ limit → (length es ≡ length ts → ⊥) → Outcome s es ts o e t (Err NotAList) o e t
  out-unmatched l n = refuse NotAList (at_none l (packets-unmatched s es ts n))

  pub out-wrong : (r : Refusal) → length s ≤ limit → length es ≡ length ts → units_at s es ≡ refused (number r) → Outcome s es ts o e t (Err r) o e t
  out-wrong r l m q = refuse r (at_none l (packets-wrong s es ts m q))

  module _ (g : Given s es ts) where
    at-fit : merged_at (lent_room o e t) s es ts ≡ fit_packets (lent_room o e t) (merged_of s es ts)
    unfolding merged_at and_next
    at-fit = rw (le-leb (length s) limit g.short, packets-there s es ts g.match g.listed)

    module _ (n u : ℕ) (z : Totals s es ts n u) where
      abbrev total : ℕ
      total = length (stream_bytes (bytes_of (merged_of s es ts)))

      same-fit : fits_packets n u (lent_room o e t) ≡ fits_packets total (length (merged_of s es ts)) (lent_room o e t)
      same-fit = ap₂ (λ x y. fits_packets x y (lent_room o e t)) z.bytes z.count ∙ packets-capped total (length (merged_of s es ts)) (lent_room o e t)

      pub out-full : fits_packets n u (lent_room o e t) ≡ false → Outcome s es ts o e t (Err NoRoom) o e t
      out-full f = refuse NoRoom (at-fit ∙ rw (sym same-fit ∙ f))

      module _ (f : fits_packets n u (lent_room o e t) ≡ true) where
        fit : Fits total (length (merged_of s es ts)) (lent_room o e t)
        fit = fits_all total (length (merged_of s es ts)) (lent_room o e t) (sym same-fit ∙ f)

        pub out-room : MergeRoom s es ts o e t
        out-room = record { small = fit.small; bytes = fit.bytes; ends = fit.ends; times = fit.times }

        pub out-size : n ≡ total
        out-size = omega (arith, z.bytes, fit.small)

        at_there : merged_at (lent_room o e t) s es ts ≡ accepted (merged_of s es ts)
        at_there = at-fit ∙ rw (sym same-fit ∙ f)

        pub out-there : {o' e' t' : List ℕ} → WroteMerged s es ts o e t o' e' t' → Outcome s es ts o e t (Ok (record { bytes = n; units = u })) o' e' t'
        out-there w =
            let c : u ≡ length (bytes_of (merged_of s es ts)) = z.count ∙ sym (length-bytes_of (merged_of s es ts)) in
            record {
              answers = rw (at_there, out-size, c);
              bytes = rw at_there w.bytes;
              ends = rw at_there w.ends;
              times = rw at_there w.times;
            }

-- ---- frameless packets alone

module _ (s es ts : List ℕ) (g : NoneCloses s es ts) where
  abbrev qs : List Packet
  qs = packets_of s es ts

  eb : bytes_of qs ≡ listed s es
  eb = packets-bytes s es ts g.given.match

  long : length (bytes_of qs) ≡ length ts
  long = ap length eb ∙ listed-length 0 s es ∙ g.given.match

  next : Next (bytes_of qs) 0 (length (bytes_of qs))
  next = rw (long, ← g.given.match, eb) g.next

  pub none-run : Run s es 0 (length ts)
  none-run =
      record {
        short = g.given.short;
        within = omega (arith, g.given.match);
        order = omega arith;
        parse = all-parse (rw g.given.match at g.next.wait);
      }

  whole : run_bytes true (listed s es) 0 (length ts) ≡ unit_bytes (all_parsed (listed s es))
  whole =
      let k : length ts ≡ length (listed s es) = sym (listed-length 0 s es ∙ g.given.match) in
      rw k (ap (λ l. unit_bytes (all_parsed l)) (slice-rest 0 (listed s es)))

  module _ (i : ℕ) (f : Full (listed s es) 0 (length ts) i) where
    full : Full (bytes_of qs) 0 (length (bytes_of qs)) i
    full = rw (long, eb) f

    merged-none : length ts ≤ i → merged_of s es ts ≡ []
    merged-none l = alone-none qs next i full (omega (arith, f.within, length-bytes_of qs, long))

    totals-none : length ts ≤ i → Totals s es ts 0 0
    unfolding bytes_of stream_bytes flat
    totals-none l = let m = merged-none l in record { bytes = rw m (omega arith); count = rw m }

    written_none : length ts ≤ i → (o e t : List ℕ) → WroteMerged s es ts o e t o e t
    unfolding bytes_of times_of stream_bytes flat ends_of
    written_none l o e t =
        let m = merged-none l in
        record { bytes = rw m (sym (pasted-nil o 0)); ends = rw m (sym (pasted-nil e 0)); times = rw m (sym (pasted-nil t 0)) }

    none-fits : (room : PacketRoom) → fits_packets 0 0 room ≡ true
    none-fits room = rw (le-leb 0 limit (omega arith), le-leb 0 room.bytes (omega arith), le-leb 0 room.ends (omega arith), le-leb 0 room.times (omega arith))

    pub out_none : length ts ≤ i → (o e t : List ℕ) → Outcome s es ts o e t (Ok (record { bytes = 0; units = 0 })) o e t
    out_none l o e t = out-there s es ts o e t g.given 0 0 (totals-none l) (none-fits (lent_room o e t)) (written_none l o e t)

    module _ (l : i < length ts) where
      abbrev one : Packet
      one = record { time = get_or ts i 0; bytes = unit_bytes (all_parsed (listed s es)) }

      merged-one : merged_of s es ts ≡ one ∷ []
      merged-one = rw (eb, packets-times s es ts g.given.match) at (alone-some qs next i full (omega (arith, length-bytes_of qs, long)))

      one-bytes : stream_bytes (bytes_of (merged_of s es ts)) ≡ run_bytes true (listed s es) 0 (length ts)
      unfolding bytes_of stream_bytes flat
      one-bytes = ap (λ x. stream_bytes (bytes_of x)) merged-one ∙ append-nil (unit_bytes (all_parsed (listed s es))) ∙ sym whole

      pub one-totals : {n : ℕ} → n ≡ capped (length (run_bytes true (listed s es) 0 (length ts))) → Totals s es ts n 1
      one-totals p = record { bytes = rw one-bytes p; count = rw merged-one }

      pub one-room : {o e t : List ℕ} → MergeRoom s es ts o e t → RunRoom s es 0 (length ts) true o 0
      one-room r = record { run = none-run; room = omega (arith, r.bytes, ap length one-bytes) }

      pub one-slots : {o e t : List ℕ} → MergeRoom s es ts o e t → (0 < length e) × (0 < length t)
      one-slots r = let k = ap length merged-one in (omega (arith, r.ends), omega (arith, r.times))

      one_end : {n : ℕ} → n ≡ length (stream_bytes (bytes_of (merged_of s es ts))) → ends_of 0 (bytes_of (merged_of s es ts)) ≡ n ∷ []
      unfolding bytes_of ends_of
      one_end {n} q =
          let k : 0 + length (unit_bytes (all_parsed (listed s es))) ≡ n = omega (arith, ap length one-bytes, ap length whole) in
          rw (merged-one, k)

      one_time : times_of (merged_of s es ts) ≡ get_or ts i 0 ∷ []
      unfolding times_of
      one_time = rw merged-one

      pub one_written : {o e t : List ℕ} → MergeRoom s es ts o e t → {n w : ℕ} {o' : List ℕ} → n ≡ length (stream_bytes (bytes_of (merged_of s es ts)))
          → Wrote o 0 (run_bytes true (listed s es) 0 (length ts)) w o' → WroteMerged s es ts o e t o' (set e 0 n) (set t 0 (get_or ts i 0))
      one_written {o} {e} {t} r {n} q x =
          let k = one-slots r in
          record {
            bytes = rw one-bytes x.out;
            ends = rw (one_end q) (pasted-one e 0 n k.0);
            times = rw one_time (pasted-one t 0 (get_or ts i 0) k.1);
          }

pub some-closing : {s es ts : List ℕ} {c : ℕ} → OneCloses s es ts c → Closing s es ts c
some-closing k = record { short = k.given.short; match = k.given.match; next = k.next; some = k.some }

-- none closes
pub none-closes : {s es ts : List ℕ} → Given s es ts → Next (listed s es) 0 (length (listed s es)) → NoneCloses s es ts
none-closes {s} {es} g n = record { given = g; next = rw (listed-length 0 s es) at n }

-- an outcome, as four clauses ask for it
pub four : {s es ts o e t o' e' t' : List ℕ} {r : Result Sizes Refusal} → Outcome s es ts o e t r o' e' t'
    → (says r ≡ sizes_of (answer bytes_of (merged_at (lent_room o e t) s es ts)))
    × ((o' ≡ bytes_after (answer bytes_of (merged_at (lent_room o e t) s es ts)) o)
    × ((e' ≡ ends_after (answer bytes_of (merged_at (lent_room o e t) s es ts)) e) × (t' ≡ times_after (merged_at (lent_room o e t) s es ts) t)))
four x = (x.answers, (x.bytes, (x.ends, x.times)))
