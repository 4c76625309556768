-- Laws of packets joined: one output packet after another.
use Prim.Native.Nat.{ℕ, ◌^◌, ◌<◌}
use native.Mathlib.Omega.{arith}
use mathlib.Core.Path.{◌≡◌, refl, sym, ap, ◌∙◌}
use mathlib.Core.List.{List, [], ◌∷◌, ◌++◌, flat_map, append_assoc, append-nil}
use mathlib.Core.Bool.{true, false}
use lib.ListN.{length}
use Rattle.bitio.specs.Parse.{Answer, refused, accepted}
use Rattle.bitio.specs.Every.{Every}
use Rattle.bitio.specs.Every.Every.{nothing, also}
use Rattle.bitio.proofs.EveryLaws.{every_append}
use Rattle.obu.specs.Obu.{Obu, obus, unit_bytes}
use Rattle.obu.specs.Unit.{of_unit}
use Rattle.obu.proofs.ObuLaws.{Allowed, obus-unit, obus-behind, obus-allowed}
use Rattle.container.specs.Stream.{has_frame, lead, others, either, join}
use Rattle.packets.specs.Packets.{Packet, out, meet, tailed, behind_p, first_time, alone, merge_packets}
use Rattle.container.proofs.StreamLaws.{either-nil}
use Rattle.container.proofs.LeadLaws.{others-append, join-twice, join-every}
use Rattle.packets.specs.PacketLists.{bytes_of}
use Rattle.packets.specs.code.PacketRuns.{closes, all_parsed, piece_of, Waits}

-- ---- joining three parts

either-assoc : (a b c : List Obu) → either (either a b) c ≡ either a (either b c)
either-assoc [] b c = refl
either-assoc (o ∷ a) b c = refl

pub join-two : (a b : List Obu) → join a b ≡ either (lead a) (either (lead b) []) ++ others (a ++ (b ++ []))
unfolding join
join-two a b = sym (rw (either-nil (lead b), append-nil b, others-append a b))

pub join-three : (a b c : List Obu) → join (join a b) c ≡ either (lead a) (either (lead b) (lead c)) ++ others (a ++ (b ++ c))
join-three a b c = join-twice a b c ∙ ap (λ l. l ++ others (a ++ (b ++ c))) (either-assoc (lead a) (lead b) (lead c))

-- ---- packets that wait, and packets that close

pub waits : (u : List ℕ) → closes u ≡ false → Waits u
waits u e = go (obus u) refl e
  where
    go : (x : Answer (List Obu)) → obus u ≡ x → of_unit true has_frame x ≡ false → Waits u
    go (refused k) p e = let z : ◌≡◌ {A = ℕ} 0 1 = cc in absurd (omega arith)
    go (accepted os) p e = record { os = os; reads = p; none = e }

-- the packet that goes out where one closes
abbrev gone : List Obu → Packet → Answer (List Obu) → Packet
gone w q (refused k) = record { time = q.time; bytes = unit_bytes w ++ q.bytes }
gone w q (accepted os) = record { time = q.time; bytes = unit_bytes (join w os) }

meet-closes : (w : List Obu) (q : Packet) (x : Answer (List Obu)) → of_unit true has_frame x ≡ true → meet w q x ≡ out (gone w q x)
meet-closes w q (refused k) e = refl
meet-closes w q (accepted os) e = rw e

abbrev pub Waiting : List Packet → Type 0
Waiting ws = Every (λ q. Waits q.bytes) ws

behind-run : {ws : List Packet} → Waiting ws → (p : Packet) (w : List Obu) (qs : List Packet) → behind_p p w (ws ++ qs) ≡ behind_p p (w ++ all_parsed (bytes_of ws)) qs
unfolding behind_p all_parsed bytes_of
behind-run nothing p w qs = simp append-nil
behind-run (also {a = q} {l = ws} h hs) p w qs = rw (h.reads, h.none) (behind-run hs p (w ++ h.os) qs ∙ rw append_assoc)

-- what waits, alone, with the time of the first
pub alone-run : {ws : List Packet} → Waiting ws → (t : ℕ) (o : Obu) (w : List Obu) → alone t (o ∷ w) ws ≡ record { time = t; bytes = unit_bytes ((o ∷ w) ++ all_parsed (bytes_of ws)) } ∷ []
unfolding alone all_parsed bytes_of
alone-run nothing t o w = simp append-nil
alone-run (also {a = q} {l = ws} h hs) t o w = rw (h.reads, h.none) (alone-run hs t o (w ++ h.os) ∙ rw append_assoc)

module _ (q : Packet) (qs : List Packet) (c : closes q.bytes ≡ true) where
  alone-close : {ws : List Packet} → Waiting ws → (t : ℕ) (w : List Obu) → alone t w (ws ++ (q ∷ qs)) ≡ behind_p (gone (w ++ all_parsed (bytes_of ws)) q (obus q.bytes)) [] qs
  unfolding alone all_parsed bytes_of
  alone-close nothing t w = rw (append-nil w, meet-closes w q (obus q.bytes) c)
  alone-close (also {a = p} {l = ws} h hs) t w = rw (h.reads, h.none) (alone-close hs (first_time w t p.time) (w ++ h.os) ∙ rw append_assoc)

  behind-close : (p : Packet) (w : List Obu) → behind_p p w (q ∷ qs) ≡ p ∷ behind_p (gone w q (obus q.bytes)) [] qs
  unfolding behind_p
  behind-close p w = rw (meet-closes w q (obus q.bytes) c)

  -- behind a packet that goes out, where another one closes
  behind_more : {ws : List Packet} → Waiting ws → (p : Packet) → behind_p p [] (ws ++ (q ∷ qs)) ≡ p ∷ merge_packets (ws ++ (q ∷ qs))
  unfolding merge_packets
  behind_more {ws} hs p =
      behind-run hs p [] (q ∷ qs) ∙ behind-close p (all_parsed (bytes_of ws)) ∙ ap (λ l. p ∷ l) (sym (alone-close hs 0 []))

behind-end : (p : Packet) (w : List Obu) → behind_p p w [] ≡ tailed p w (obus p.bytes) ∷ []
unfolding behind_p
behind-end p w = refl

behind-last : {vs : List Packet} → Waiting vs → (p : Packet) → behind_p p [] vs ≡ tailed p (all_parsed (bytes_of vs)) (obus p.bytes) ∷ []
behind-last {vs} hs p = ap (behind_p p []) (sym (append-nil vs)) ∙ behind-run hs p [] [] ∙ behind-end p (all_parsed (bytes_of vs))

-- ---- what goes out

abbrev AllAllowed : Answer (List Obu) → Type 0
AllAllowed (refused k) = Unit
AllAllowed (accepted os) = Every Allowed os

module _ (q : Packet) where
  abbrev pub sent_with : List Obu → List Obu → Answer (List Obu) → Packet
  sent_with w t x = record { time = q.time; bytes = piece_of w q.bytes t x }

  gone-more : (w : List Obu) (x : Answer (List Obu)) → gone w q x ≡ sent_with w [] x
  unfolding unit_bytes flat_map
  gone-more w (refused k) = rw (append-nil q.bytes)
  gone-more w (accepted os) = ap (λ l. record { time = q.time; bytes = unit_bytes l }) (join-two w os)

  gone-last : (w t : List Obu) (x : Answer (List Obu)) → obus q.bytes ≡ x → Every Allowed w → AllAllowed x
      → tailed (gone w q x) t (obus (gone w q x).bytes) ≡ sent_with w t x
  gone-last w t (refused k) e a f = rw (obus-behind a q.bytes, e, append_assoc (unit_bytes w) q.bytes (unit_bytes t))
  gone-last w t (accepted os) e a f = rw (obus-unit (join-every a f)) (ap (λ l. record { time = q.time; bytes = unit_bytes l }) (join-three w os t))

-- ---- one packet after another

abbrev pub Short : Packet → Type 0
Short q = length q.bytes < 2 ^ 56

parsed-allowed : {ws : List Packet} → Waiting ws → Every Short ws → Every Allowed (all_parsed (bytes_of ws))
unfolding all_parsed bytes_of
parsed-allowed nothing nothing = nothing
parsed-allowed (also {a = q} h hs) (also l ls) = rw h.reads (every_append (obus-allowed q.bytes h.os l h.reads) (parsed-allowed hs ls))

packet-allowed : (q : Packet) → Short q → (x : Answer (List Obu)) → obus q.bytes ≡ x → AllAllowed x
packet-allowed q l (refused k) e = tt
packet-allowed q l (accepted os) e = obus-allowed q.bytes os l e

module _ {ws : List Packet} (w : Waiting ws) (q : Packet) (c : closes q.bytes ≡ true) where
  merge-close : (qs : List Packet) → merge_packets (ws ++ (q ∷ qs)) ≡ behind_p (gone (all_parsed (bytes_of ws)) q (obus q.bytes)) [] qs
  unfolding merge_packets
  merge-close qs = alone-close q qs c w 0 []

  -- another one closes behind it
  pub merge-more : {vs : List Packet} → Waiting vs → (r : Packet) (rs : List Packet) → closes r.bytes ≡ true
      → merge_packets (ws ++ (q ∷ (vs ++ (r ∷ rs)))) ≡ sent_with q (all_parsed (bytes_of ws)) [] (obus q.bytes) ∷ merge_packets (vs ++ (r ∷ rs))
  merge-more {vs} v r rs d =
      merge-close (vs ++ (r ∷ rs))
      ∙ behind_more r rs d v (gone (all_parsed (bytes_of ws)) q (obus q.bytes))
      ∙ ap (λ p. p ∷ merge_packets (vs ++ (r ∷ rs))) (gone-more q (all_parsed (bytes_of ws)) (obus q.bytes))

  -- none closes behind it
  pub merge-last : Every Short ws → Short q → {vs : List Packet} → Waiting vs
      → merge_packets (ws ++ (q ∷ vs)) ≡ sent_with q (all_parsed (bytes_of ws)) (all_parsed (bytes_of vs)) (obus q.bytes) ∷ []
  merge-last l k {vs} v =
      merge-close vs
      ∙ behind-last v (gone (all_parsed (bytes_of ws)) q (obus q.bytes))
      ∙ ap (λ p. p ∷ []) (gone-last q (all_parsed (bytes_of ws)) (all_parsed (bytes_of vs)) (obus q.bytes) refl (parsed-allowed w l) (packet-allowed q k (obus q.bytes) refl))
