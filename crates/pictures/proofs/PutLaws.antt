-- Laws of the picture bytes and their ends written one segment after the other.
use Prim.Native.Nat.{ℕ, suc, ◌+◌, ◌*◌, ◌≤◌, ◌<◌}
use native.Mathlib.Omega.{arith}
use mathlib.Core.Path.{◌≡◌, refl, sym, ap, ap₂, ◌∙◌}
use mathlib.Core.List.{List, [], ◌∷◌, ◌++◌, flat_map}
use mathlib.Core.Option.{Option}
use lib.ListN.{length, set, length-append}
use Rattle.bitio.specs.Lent.{pasted}
use Rattle.bitio.proofs.LentLaws.{pasted-nil, pasted-sets, pasted-more, pasted_length}
use Rattle.blocks.specs.Numbers.{segment_count, key_at, golden_at}
use Rattle.pictures.specs.Segments.{Segment}
use Rattle.pictures.specs.Assemble.{picture_of, ends_from}
use Rattle.pictures.specs.Flat.{all_segments, sent_bytes, all_sent}
use Rattle.pictures.proofs.PrepareLaws.{length-all}
use Rattle.pictures.proofs.SegmentLaws.{segments_behind, segments-start, segments-end, segments-next}

-- ---- one segment

-- two units, one behind the other
pub two-units : (d d₁ d₂ key_bytes golden_bytes : List ℕ) (at m : ℕ) → at + length (key_bytes ++ golden_bytes) ≤ length d → m ≡ at + length key_bytes → d₁ ≡ pasted d at key_bytes → d₂ ≡ pasted d₁ m golden_bytes → d₂ ≡ pasted d at (key_bytes ++ golden_bytes)
two-units d d₁ d₂ key_bytes golden_bytes at m h n e f = f ∙ ap₂ (λ (l : List ℕ) (j : ℕ). pasted l j golden_bytes) e n ∙ pasted-more d at key_bytes (omega arith) golden_bytes

-- their ends
pub two_ends : (e : List ℕ) (w x y z : ℕ) → w + 2 ≤ length e → x ≡ z → set (set e w x) (w + 1) y ≡ pasted e w (z ∷ y ∷ [])
two_ends e w x y z h n =
    let a : w + 1 ≡ suc w = omega arith in
    rw a (pasted-sets e w (x ∷ y ∷ []) (omega arith) ∙ ap (λ (j : ℕ). pasted e w (j ∷ y ∷ [])) n)

-- ---- all segments

-- the units of i segments stand there, and their ends
pub record Putting (new : Option (List ℕ)) (s rs d₀ e₀ d e : List ℕ) (i at : ℕ) : Type 0 where
  pub within : i ≤ segment_count rs
  pub pictures : pasted d at (picture_of (all_sent new (segments_behind s rs i))) ≡ pasted d₀ 0 (picture_of (all_sent new (all_segments s rs)))
  pub ends : pasted e (2 * i) (ends_from at (all_sent new (segments_behind s rs i))) ≡ pasted e₀ 0 (ends_from 0 (all_sent new (all_segments s rs)))
  pub place : at + length (picture_of (all_sent new (segments_behind s rs i))) ≡ length (picture_of (all_sent new (all_segments s rs)))
  pub pictures-len : length d ≡ length d₀
  pub ends-len : length e ≡ length e₀

pub put-start : (new : Option (List ℕ)) (s rs d e : List ℕ) → Putting new s rs d e d e 0 0
put-start new s rs d e =
    let b = segments-start s rs in
    record {
      within = omega arith;
      pictures = ap (λ (xs : List Segment). pasted d 0 (picture_of (all_sent new xs))) b;
      ends = ap (λ (xs : List Segment). pasted e 0 (ends_from 0 (all_sent new xs))) b;
      place = omega (arith, ap (λ (xs : List Segment). length (picture_of (all_sent new xs))) b);
      pictures-len = refl;
      ends-len = refl;
    }

module _ {new : Option (List ℕ)} {s rs d₀ e₀ d e : List ℕ} {i at : ℕ} (r : Putting new s rs d₀ e₀ d e i at) where
  pub put-end : segment_count rs ≤ i → (d ≡ pasted d₀ 0 (picture_of (all_sent new (all_segments s rs)))) × (e ≡ pasted e₀ 0 (ends_from 0 (all_sent new (all_segments s rs))))
  unfolding flat_map ends_from
  put-end h =
      let b = sym (segments-end s rs i h) in (
        sym (pasted-nil d at) ∙ ap (λ (xs : List Segment). pasted d at (picture_of (all_sent new xs))) b ∙ r.pictures,
        sym (pasted-nil e (2 * i)) ∙ ap (λ (xs : List Segment). pasted e (2 * i) (ends_from at (all_sent new xs))) b ∙ r.ends,
      )

  module _ (h : i < segment_count rs) (key golden : List ℕ) (is_key : key ≡ key_at s rs i) (is-golden : golden ≡ golden_at s rs i) where
    abbrev key_bytes : List ℕ
    key_bytes = sent_bytes new key

    abbrev golden_bytes : List ℕ
    golden_bytes = sent_bytes new golden

    abbrev segment_bytes : List ℕ
    segment_bytes = key_bytes ++ golden_bytes

    abbrev later_bytes : List ℕ
    later_bytes = picture_of (all_sent new (segments_behind s rs (i + 1)))

    picture-split : picture_of (all_sent new (segments_behind s rs i)) ≡ segment_bytes ++ later_bytes
    unfolding flat_map
    picture-split = ap (λ (xs : List Segment). picture_of (all_sent new xs)) (segments-next s rs i h key golden is_key is-golden)

    ends-split : ends_from at (all_sent new (segments_behind s rs i)) ≡ (at + length key_bytes) ∷ (at + length key_bytes + length golden_bytes) ∷ ends_from (at + length key_bytes + length golden_bytes) (all_sent new (segments_behind s rs (i + 1)))
    unfolding ends_from
    ends-split = ap (λ (xs : List Segment). ends_from at (all_sent new xs)) (segments-next s rs i h key golden is_key is-golden)

    -- the units of this segment are a part of the whole
    pub put_front : at + length segment_bytes ≤ length (picture_of (all_sent new (all_segments s rs)))
    put_front = omega (arith, r.place, ap length picture-split, length-append segment_bytes later_bytes)

    pub put-ends : 2 * length (all_segments s rs) ≤ length e₀ → 2 * i + 2 ≤ length e
    put-ends w = omega (arith, r.ends-len, length-all s rs)

    pub put-turn : length (picture_of (all_sent new (all_segments s rs))) ≤ length d₀ → 2 * length (all_segments s rs) ≤ length e₀ → (d' e' : List ℕ) (at' : ℕ)
        → at' ≡ at + length key_bytes + length golden_bytes → d' ≡ pasted d at segment_bytes → e' ≡ pasted e (2 * i) ((at + length key_bytes) ∷ at' ∷ []) → Putting new s rs d₀ e₀ d' e' (i + 1) at'
    put-turn room ends-room d' e' at' next put ended =
        let n : at' ≡ at + length segment_bytes = omega (arith, next, length-append key_bytes golden_bytes) in
        let m : 2 * (i + 1) ≡ 2 * i + 2 = omega arith in
        let w : at + length segment_bytes ≤ length d = omega (arith, put_front, r.pictures-len) in
        let v : 2 * i + 2 ≤ length e = put-ends ends-room in
        let more = ends_from at' (all_sent new (segments_behind s rs (i + 1))) in
        record {
          within = omega arith;
          pictures =
              ap₂ (λ (l : List ℕ) (j : ℕ). pasted l j later_bytes) put n ∙ pasted-more d at segment_bytes (omega arith) later_bytes ∙ ap (pasted d at) (sym picture-split) ∙ r.pictures;
          ends =
              ap₂ (λ (l : List ℕ) (j : ℕ). pasted l j more) ended m ∙ pasted-more e (2 * i) ((at + length key_bytes) ∷ at' ∷ []) (omega arith) more
              ∙ ap (λ (j : ℕ). pasted e (2 * i) ((at + length key_bytes) ∷ j ∷ ends_from j (all_sent new (segments_behind s rs (i + 1))))) next
              ∙ ap (pasted e (2 * i)) (sym ends-split) ∙ r.ends;
          place = omega (arith, n, r.place, ap length picture-split, length-append segment_bytes later_bytes);
          pictures-len = ap length put ∙ pasted_length d at segment_bytes w ∙ r.pictures-len;
          ends-len = ap length ended ∙ pasted_length e (2 * i) ((at + length key_bytes) ∷ at' ∷ []) v ∙ r.ends-len;
        }
