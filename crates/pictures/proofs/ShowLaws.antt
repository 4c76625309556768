-- Laws of the show bytes, written one segment after the other.
use Prim.Native.Nat.{ℕ, ◌+◌, ◌-◌, ◌*◌, ◌≤◌, ◌<◌}
use native.Mathlib.Omega.{arith}
use mathlib.Core.Path.{◌≡◌, refl, sym, ap, ap₂, ◌∙◌}
use mathlib.Core.List.{List, [], ◌∷◌, ◌++◌, flat_map}
use mathlib.Core.Bool.{Bool, false}
use lib.ListN.{length}
use lib.Dec.{eqb}
use borrow.Author.Tests.{eqb-false}
use Rattle.bitio.specs.Parse.{Answer, refused, accepted, and_next}
use Rattle.bitio.specs.Lent.{pasted}
use Rattle.bitio.proofs.ParseLaws.{pick-both, pick-cases}
use Rattle.bitio.proofs.LentLaws.{pasted-nil, pasted-more, pasted_length}
use Rattle.obu.specs.Obu.{obus}
use Rattle.header.specs.Sequence.{Sequence}
use Rattle.frame.specs.FrameType.{is_key}
use Rattle.obu.proofs.WriteLaws.{copied-there}
use borrow.Rule.Slice.PartMut.{put_mid}
use Rattle.frame.specs.Frame.{parse_frame}
use Rattle.frame.specs.declared.frame_header.FrameHeaderInfo.{FrameHeaderInfo}
use Rattle.frame.specs.declared.frame_header.FrameHeaderInfo.TheVariants.{Existing, Frame}
use Rattle.frame.proofs.FrameLaws.{HeaderIs, header_is}
use Rattle.blocks.specs.Numbers.{segment_count, key_at, golden_at, frames_at}
use Rattle.pictures.specs.Segments.{Segment}
use Rattle.frame.specs.UnitFrame.{frame_payload, unit_frame}
use Rattle.pictures.specs.Prepare.{key_ok, golden_flags, show_unit}
use Rattle.pictures.specs.Flat.{all_segments, readable, judged, answer_or, slots_of}
use Rattle.pictures.proofs.PrepareLaws.{length-all}
use Rattle.pictures.proofs.SlotLaws.{slot-refreshed}
use Rattle.pictures.proofs.SegmentLaws.{segments_behind, segments-start, segments-end, segments-next}

-- ---- a slot that is named is below 8

-- P holds of what is accepted
abbrev Accepts : {A : Type 0} → (A → Type 0) → Answer A → Type 0
Accepts P (refused k) = Unit
Accepts P (accepted a) = P a

by_answer : {A : Type 0} (P : A → Type 0) (x : Answer A) → ((a : A) → x ≡ accepted a → P a) → Accepts P x
by_answer P (refused k) h = tt
by_answer P (accepted a) h = h a refl

next-accepts : {A B : Type 0} (P : A → Type 0) (Q : B → Type 0) (x : Answer A) (f : A → Answer B) → Accepts P x → ((a : A) → P a → Accepts Q (f a)) → Accepts Q (and_next x f)
unfolding and_next
next-accepts P Q (refused k) f p h = tt
next-accepts P Q (accepted a) f p h = h a p

next-any : {A B : Type 0} (Q : B → Type 0) (x : Answer A) (f : A → Answer B) → ((a : A) → Accepts Q (f a)) → Accepts Q (and_next x f)
unfolding and_next
next-any Q (refused k) f h = tt
next-any Q (accepted a) f h = h a

frame-accepts : (q : Sequence) (u : List ℕ) → Accepts HeaderIs (unit_frame false q u)
unfolding unit_frame
frame-accepts q u =
    next-any HeaderIs (obus u) _ (λ os. next-any HeaderIs (frame_payload false os) _ (λ f. by_answer HeaderIs (parse_frame q f) (λ x e. header_is q f e)))

abbrev Flags : ℕ → Type 0
Flags n = (0 < n) × (n < 256)

flags-accepts : (x : FrameHeaderInfo) → HeaderIs x → Accepts Flags (golden_flags x)
flags-accepts (Existing slot) i = tt
flags-accepts (Frame f) i =
    pick-both (Accepts Flags) f.show_frame (
    pick-both (Accepts Flags) (is_key f.frame_type) tt (
    pick-cases (Accepts Flags) (eqb f.refresh_frame_flags 0) (λ e. tt) (λ e. let n = eqb-false f.refresh_frame_flags 0 e in (omega arith, i.flags)))) tt

judged-accepts : (q : Sequence) (rewriting : Bool) (k g : List ℕ) → Accepts (λ n. n < 8) (judged q rewriting k g)
unfolding judged
judged-accepts q rewriting k g =
    next-any (λ n. n < 8) (readable rewriting k) _ (λ _.
    next-any (λ n. n < 8) (readable rewriting g) _ (λ _.
    next-any (λ n. n < 8) (unit_frame false q k) _ (λ y.
    next-any (λ n. n < 8) (key_ok y) _ (λ _.
    next-accepts HeaderIs (λ n. n < 8) (unit_frame false q g) _ (frame-accepts q g) (λ z i.
    next-accepts Flags (λ n. n < 8) (golden_flags z) _ (flags-accepts z i) (λ flags b. (slot-refreshed flags b.0 b.1).below))))))

pub slot_small : (q : Sequence) (rewriting : Bool) (k g : List ℕ) → answer_or 0 (judged q rewriting k g) < 8
slot_small q rewriting k g = go (judged q rewriting k g) (judged-accepts q rewriting k g)
  where
    go : (a : Answer ℕ) → Accepts (λ n. n < 8) a → answer_or 0 a < 8
    go (refused n) h = omega arith
    go (accepted n) h = h

-- ---- a show unit, byte by byte

-- five bytes copied to their place
pub put-five : (d : List ℕ) (at slot : ℕ) {ys : List ℕ} → at + 5 ≤ length d → ys ≡ show_unit slot → put_mid at (at + 5 - at) d ys ≡ pasted d at (show_unit slot)
put-five d at slot h e = copied-there d (show_unit slot) at e

-- ---- the show units of i segments stand there

abbrev pub shows_from : Sequence → Bool → List Segment → List ℕ
shows_from q rewriting xs = flat_map show_unit (slots_of q rewriting xs)

shows-none : (q : Sequence) (rewriting : Bool) → shows_from q rewriting [] ≡ []
unfolding flat_map
shows-none q rewriting = refl

shows_more : (q : Sequence) (rewriting : Bool) (x : Segment) (xs : List Segment)
    → shows_from q rewriting (x ∷ xs) ≡ show_unit (answer_or 0 (judged q rewriting x.key x.golden)) ++ shows_from q rewriting xs
unfolding flat_map
shows_more q rewriting x xs = refl

pub record Showing (q : Sequence) (rewriting : Bool) (s rs d₀ d : List ℕ) (i : ℕ) : Type 0 where
  pub within : i ≤ segment_count rs
  pub shows : pasted d (5 * i) (shows_from q rewriting (segments_behind s rs i)) ≡ pasted d₀ 0 (shows_from q rewriting (all_segments s rs))
  pub len : length d ≡ length d₀

pub show-start : (q : Sequence) (rewriting : Bool) (s rs d : List ℕ) → Showing q rewriting s rs d d 0
show-start q rewriting s rs d =
    record { within = omega arith; shows = ap (λ (xs : List Segment). pasted d 0 (shows_from q rewriting xs)) (segments-start s rs); len = refl }

module _ {q : Sequence} {rewriting : Bool} {s rs d₀ d : List ℕ} {i : ℕ} (r : Showing q rewriting s rs d₀ d i) where
  pub show-end : segment_count rs ≤ i → d ≡ pasted d₀ 0 (shows_from q rewriting (all_segments s rs))
  show-end h =
      sym (pasted-nil d (5 * i)) ∙ ap (pasted d (5 * i)) (sym (ap (shows_from q rewriting) (segments-end s rs i h) ∙ shows-none q rewriting)) ∙ r.shows

  module _ (h : i < segment_count rs) (room : 5 * length (all_segments s rs) ≤ length d₀) where
    pub show-room : 5 * i + 5 ≤ length d
    show-room = omega (arith, r.len, length-all s rs)

    pub show-turn : (d' key golden : List ℕ) (slot : ℕ) → key ≡ key_at s rs i → golden ≡ golden_at s rs i
        → slot ≡ answer_or 0 (judged q rewriting key golden) → d' ≡ pasted d (5 * i) (show_unit slot) → Showing q rewriting s rs d₀ d' (i + 1)
    show-turn d' key golden slot is_key is-golden is put =
        let n : 5 * (i + 1) ≡ 5 * i + 5 = omega arith in
        let rest = shows_from q rewriting (segments_behind s rs (i + 1)) in
        record {
          within = omega arith;
          shows =
              ap₂ (λ (l : List ℕ) (m : ℕ). pasted l m rest) put n
              ∙ pasted-more d (5 * i) (show_unit slot) (omega (arith, show-room)) rest
              ∙ ap (λ (m : ℕ). pasted d (5 * i) (show_unit m ++ rest)) is
              ∙ ap (pasted d (5 * i)) (sym (ap (shows_from q rewriting) (segments-next s rs i h key golden is_key is-golden) ∙ shows_more q rewriting (record { key = key; golden = golden; frames = frames_at rs i }) (segments_behind s rs (i + 1))))
              ∙ r.shows;
          len = ap length put ∙ pasted_length d (5 * i) (show_unit slot) show-room ∙ r.len;
        }
