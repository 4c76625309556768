-- Laws of packets by their index: the output packet that a run of them makes.
use Prim.Native.Nat.{ℕ, ◌+◌, ◌≤◌, ◌<◌}
use native.Mathlib.Omega.{arith}
use native.Mathlib.Numerals.{add-one}
use mathlib.Core.Path.{◌≡◌, refl, sym, ap, ◌∙◌}
use mathlib.Core.List.{List, [], ◌∷◌, ◌++◌, append-nil}
use mathlib.Core.Bool.{true}
use lib.ListN.{length, drop, get_or, length-map, get_or-map}
use lib.Seq.{slice, slice_empty, drop-cons}
use Rattle.bitio.specs.Parse.{Answer, refused, accepted, Head, stop, item, onto}
use Rattle.bitio.specs.Every.Every.{nothing, also}
use Rattle.bitio.proofs.ParseLaws.{length_none}
use Rattle.bitio.proofs.EveryLaws.{every_drop}
use Rattle.obu.specs.Obu.{Obu, head_obu, obus, unit_bytes}
use Rattle.obu.specs.Unit.{has}
use Rattle.obu.proofs.ObuLaws.{obus-nil, obus-item, obus-stop}
use Rattle.container.specs.Stream.{lead}
use Rattle.packets.specs.Packets.{Packet, alone, merge_packets}
use Rattle.packets.specs.PacketLists.{bytes_of, times_of}
use Rattle.bitio.specs.Every.{Every}
use Rattle.packets.specs.code.PacketRuns.{closes, all_parsed, lead_of, piece, Parses, Waits, Next, Empty, Full}
use Rattle.packets.proofs.SliceLaws.{slice-split, slice-rest, slice_at, map-slice, every_map, every-slice, every-at, every-seam}
use Rattle.packets.proofs.PacketLaws.{Waiting, Short, alone-run, merge-more, merge-last}

-- ---- a unit with bytes, and units without

pub record First (u : List ℕ) (os : List Obu) : Type 0 where
  pub o : Obu
  pub rest : List Obu
  pub behind : List ℕ
  pub head : head_obu u ≡ item o behind
  pub list : os ≡ o ∷ rest

-- a unit with bytes that parses has an OBU
pub first-obu : (u : List ℕ) (os : List Obu) → 0 < length u → obus u ≡ accepted os → First u os
first-obu u os l e = go (head_obu u) refl
  where
    with_rest : (o : Obu) (r : List ℕ) (x : Answer (List Obu)) → head_obu u ≡ item o r → onto o x ≡ accepted os → First u os
    with_rest o r (refused k) h q = let z : ◌≡◌ {A = ℕ} 0 1 = cc in absurd (omega arith)
    with_rest o r (accepted ls) h q = record { o = o; rest = ls; behind = r; head = h; list = cc }

    go : (x : Head Obu) → head_obu u ≡ x → First u os
    go (stop k) h = let z : ◌≡◌ {A = ℕ} 0 1 = cc (obus-stop u k l h) in absurd (omega arith)
    go (item o r) h = with_rest o r (obus r) h (sym (obus-item u o r h) ∙ e)

parsed-empty : {us : List (List ℕ)} → Every Empty us → (vs : List (List ℕ)) → all_parsed (us ++ vs) ≡ all_parsed vs
unfolding all_parsed
parsed-empty nothing vs = refl
parsed-empty (also {a = u} h hs) vs = rw (length_none u h, obus-nil) (parsed-empty hs vs)

-- ---- the delimiter at the head of a run

module _ (us : List (List ℕ)) (a b i : ℕ) (in-us : b ≤ length us) (f : Full us a b i) where
  pub lead-found : i < b → Every Parses (slice a b us) → lead_of (get_or us i []) ≡ lead (all_parsed (slice a b us))
  unfolding all_parsed
  lead-found l ps =
      let u = get_or us i [] in
      let e = slice_at a i b us [] f.order l in-us in
      let p : Parses u = every-seam Parses (slice a i us) u (slice (i + 1) b us) (rw e at ps) in
      let g = first-obu u p.os (f.full l) p.reads in
      rw (e, parsed-empty f.empty (u ∷ slice (i + 1) b us), p.reads, g.list, g.head)

  pub lead-missing : i ≡ b → all_parsed (slice a b us) ≡ []
  unfolding all_parsed
  lead-missing e = rw (← e) (ap all_parsed (sym (append-nil (slice a i us))) ∙ parsed-empty f.empty [])

-- ---- the packets as a whole

abbrev nil : Packet
nil = record { time = 0; bytes = [] }

module _ (qs : List Packet) where
  pub length-bytes_of : length (bytes_of qs) ≡ length qs
  unfolding bytes_of
  length-bytes_of = length-map qs (λ p. p.bytes)

  bytes-at : (i : ℕ) → get_or (bytes_of qs) i [] ≡ (get_or qs i nil).bytes
  unfolding bytes_of
  bytes-at i = get_or-map (λ p. p.bytes) qs i nil

  times-at : (i : ℕ) → get_or (times_of qs) i 0 ≡ (get_or qs i nil).time
  unfolding times_of
  times-at i = get_or-map (λ p. p.time) qs i nil

  bytes-slice : (a b : ℕ) → bytes_of (slice a b qs) ≡ slice a b (bytes_of qs)
  unfolding bytes_of
  bytes-slice a b = map-slice (λ p. p.bytes) a b qs

  slice-waits : (a b : ℕ) → Every Waits (slice a b (bytes_of qs)) → Waiting (slice a b qs)
  unfolding bytes_of
  slice-waits a b e = every_map Waits (λ p. p.bytes) (slice a b qs) (rw (bytes-slice a b) e)

  -- what closes next
  split : (a c : ℕ) → Next (bytes_of qs) a c → c < length qs → drop a qs ≡ slice a c qs ++ (get_or qs c nil ∷ drop (c + 1) qs)
  split a c n l = slice-split a c qs n.order (omega arith) ∙ ap (λ r. slice a c qs ++ r) (drop-cons qs c nil l ∙ rw (add-one c))

  closes_at : (a c : ℕ) → Next (bytes_of qs) a c → c < length qs → closes (get_or qs c nil).bytes ≡ true
  closes_at a c n l = rw (bytes-at c) at (n.close (omega (arith, length-bytes_of)))

  -- the packet that goes out
  abbrev made : ℕ → ℕ → ℕ → Packet
  made a c b = record { time = get_or (times_of qs) c 0; bytes = piece (bytes_of qs) a c b }

  module _ (a c : ℕ) (n : Next (bytes_of qs) a c) (l : c < length qs) where
    pub step-more : (d : ℕ) → Next (bytes_of qs) (c + 1) d → d < length qs → merge_packets (drop a qs) ≡ made a c (c + 1) ∷ merge_packets (drop (c + 1) qs)
    unfolding piece all_parsed
    step-more d m k =
        let e = split (c + 1) d m k in
        rw (split a c n l, e, times-at c, bytes-at c, slice_empty (c + 1) (bytes_of qs), ← bytes-slice a c)
        (merge-more (slice-waits a c n.wait) (get_or qs c nil) (closes_at a c n l) (slice-waits (c + 1) d m.wait) (get_or qs d nil) (drop (d + 1) qs) (closes_at (c + 1) d m k))

    pub step-last : Every Short qs → Next (bytes_of qs) (c + 1) (length (bytes_of qs)) → merge_packets (drop a qs) ≡ made a c (length (bytes_of qs)) ∷ []
    unfolding piece
    step-last sh m =
        let w : Every Waits (slice (c + 1) (length qs) (bytes_of qs)) = rw (← length-bytes_of) m.wait in
        let v = slice-waits (c + 1) (length qs) w in
        let r = slice-rest (c + 1) qs in
        rw (split a c n l, ← r, times-at c, bytes-at c, length-bytes_of, ← bytes-slice a c, ← bytes-slice (c + 1) (length qs))
        (merge-last (slice-waits a c n.wait) (get_or qs c nil) (closes_at a c n l) (every-slice Short a c qs sh) (every-at Short c qs nil l sh) v)

-- ---- frameless packets alone

-- empty packets vanish
alone-empty : {es : List Packet} → Every (λ q. Empty q.bytes) es → (t : ℕ) (qs : List Packet) → (t' : ℕ) × (alone t [] (es ++ qs) ≡ alone t' [] qs)
unfolding alone has
alone-empty nothing t qs = (t, refl)
alone-empty (also {a = q} h hs) t qs =
    let r = alone-empty hs q.time qs in
    (r.0, rw (length_none q.bytes h, obus-nil) r.1)

packets-empty : {es : List Packet} → Every (λ q. Empty q.bytes) es → (qs : List Packet) → all_parsed (bytes_of (es ++ qs)) ≡ all_parsed (bytes_of qs)
unfolding all_parsed bytes_of
packets-empty nothing qs = refl
packets-empty (also {a = q} h hs) qs = rw (length_none q.bytes h, obus-nil) (packets-empty hs qs)

-- the first with bytes is q
alone-split : {es : List Packet} → Every (λ q. Empty q.bytes) es → (q : Packet) → 0 < length q.bytes → Waits q.bytes → {rs : List Packet} → Waiting rs
    → merge_packets (es ++ (q ∷ rs)) ≡ record { time = q.time; bytes = unit_bytes (all_parsed (bytes_of (es ++ (q ∷ rs)))) } ∷ []
unfolding merge_packets alone all_parsed bytes_of
alone-split {es} em q l w {rs} ws =
    let r = alone-empty em 0 (q ∷ rs) in
    let g = first-obu q.bytes w.os l w.reads in
    r.1
    ∙ rw (packets-empty em (q ∷ rs), w.reads, w.none, g.list) (alone-run ws q.time g.o g.rest)

module _ (qs : List Packet) (n : Next (bytes_of qs) 0 (length (bytes_of qs))) (i : ℕ) (f : Full (bytes_of qs) 0 (length (bytes_of qs)) i) where
  all-wait : Every Waits (bytes_of qs)
  all-wait = rw (slice-rest 0 (bytes_of qs)) at n.wait

  every_one : (l : List Packet) → Every Waits (bytes_of l) → Waiting l
  unfolding bytes_of
  every_one l e = every_map Waits (λ p. p.bytes) l e

  empties : Every (λ q. Empty q.bytes) (slice 0 i qs)
  unfolding bytes_of
  empties = every_map Empty (λ p. p.bytes) (slice 0 i qs) (rw (bytes-slice qs 0 i) f.empty)

  -- all go out as one, with the time of the first that has bytes
  pub alone-some : i < length qs → merge_packets qs ≡ record { time = get_or (times_of qs) i 0; bytes = unit_bytes (all_parsed (bytes_of qs)) } ∷ []
  alone-some l =
      let k = length-bytes_of qs in
      let e : qs ≡ slice 0 i qs ++ (get_or qs i nil ∷ drop (i + 1) qs) =
      slice-split 0 i qs (omega arith) (omega arith) ∙ ap (λ r. slice 0 i qs ++ r) (drop-cons qs i nil l ∙ rw (add-one i)) in
      let b : 0 < length (get_or qs i nil).bytes = rw (bytes-at qs i) at (f.full (omega arith)) in
      let ws = every_one qs all-wait in
      let p = alone-split empties (get_or qs i nil) b (every-at (λ q. Waits q.bytes) i qs nil l ws) (every_drop (λ q. Waits q.bytes) (i + 1) qs ws) in
      rw (times-at qs i) (ap merge_packets e ∙ p ∙ sym (ap (λ l. record { time = (get_or qs i nil).time; bytes = unit_bytes (all_parsed (bytes_of l)) } ∷ []) e))

  pub alone-none : i ≡ length qs → merge_packets qs ≡ []
  unfolding merge_packets alone
  alone-none e =
      let em : Every (λ q. Empty q.bytes) qs = rw (e, slice-rest 0 qs) at empties in
      let r = alone-empty em 0 [] in
      ap (alone 0 []) (sym (append-nil qs)) ∙ r.1
