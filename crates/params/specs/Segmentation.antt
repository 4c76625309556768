-- AV1 5.9.14 segmentation_params, of which each segment's SEG_LVL_ALT_Q is kept, as its nine bits stand. That AV1 clips it to 255
-- either way is left out: a lone -256 takes any base to 0, as -255 does.
use Rattle.std.specs.Prelude.{ℕ, List, Bool, true, not, ◌&&◌, ◌||◌, cond as pick, eqb, set, replicate}
use Rattle.syntax.specs.Syntax.{Syntax, done, field, sub}
use Rattle.syntax.specs.Repeat.{repeat}

-- feature_enabled and feature_value in so many bits, a sign with them; 0 where not enabled
unfoldable pub feature : ℕ → Syntax ℕ
feature bits =
    field true 1 (λ enabled.
    field (eqb enabled 1) bits (λ v.
    done v))

-- the features of a segment in their order, Segmentation_Feature_Bits and Segmentation_Feature_Signed together
unfoldable pub segment : Syntax ℕ
segment =
    sub (feature 9) (λ alt-q.
    sub (feature 7) (λ lf-y-v.
    sub (feature 7) (λ lf-y-h.
    sub (feature 7) (λ lf-u.
    sub (feature 7) (λ lf-v.
    sub (feature 3) (λ reference.
    sub (feature 0) (λ skip.
    sub (feature 0) (λ global.
    done alt-q))))))))

-- the first n segments; nothing is taken over from another frame for the others
unfoldable pub segments : ℕ → Syntax (List ℕ)
segments n =
    sub (repeat (λ i kept. sub segment (λ alt-q. done (set kept i alt-q))) 0 n (replicate 8 0)) (λ kept.
    done kept)

-- AV1 5.9.14. none: primary_ref_frame is PRIMARY_REF_NONE
unfoldable pub segmentation_params : Bool → Syntax (List ℕ)
segmentation_params none =
    field true 1 (λ enabled.
    field (eqb enabled 1 && not none) 1 (λ update-map.
    field (eqb update-map 1) 1 (λ temporal-update.
    field (eqb enabled 1 && not none) 1 (λ update-data.
    sub (segments (pick (eqb enabled 1 && (none || eqb update-data 1)) 8 0)) (λ kept.
    done kept)))))
