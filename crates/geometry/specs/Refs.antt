-- AV1 5.9.2 uncompressed_header: the references of an inter frame.
use Rattle.std.specs.Prelude.{ℕ, List, [], ◌∷◌, Bool, true, ◌&&◌, cond as pick, eqb, set}
use Rattle.syntax.specs.Syntax.{Syntax, done, field, refuse, sub}
use Rattle.syntax.specs.Repeat.{repeat}

-- before any is read
abbrev pub no_refs : List ℕ
no_refs = 0 ∷ 0 ∷ 0 ∷ 0 ∷ 0 ∷ 0 ∷ 0 ∷ []

-- AV1 5.9.2 ref_frame_idx[ i ]
unfoldable pub ref_frame_idx : ℕ → List ℕ → Syntax (List ℕ)
ref_frame_idx i idx =
    field true 3 (λ slot.
    done (set idx i slot))

-- AV1 5.9.2 frame_refs_short_signaling to ref_frame_idx; on: the frame is not intra; 41: short signalling
unfoldable pub frame_refs : Bool → Bool → Syntax (List ℕ)
frame_refs on enable_order_hint =
    field (on && enable_order_hint) 1 (λ short.
    field (eqb short 1) 3 (λ last.
    field (eqb short 1) 3 (λ gold.
    refuse (eqb short 1) 41 (
    sub (repeat ref_frame_idx 0 (pick on 7 0) no_refs) (λ idx.
    done idx)))))
