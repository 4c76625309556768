-- AV1 5.9.20 lr_params, of which nothing is kept.
use Rattle.std.specs.Prelude.{ℕ, Bool, not, ◌&&◌, ◌||◌, eqb}
use Rattle.syntax.specs.Syntax.{Syntax, read_over, field}
use Rattle.params.specs.declared.restoration.Restoration.{Restoration}

-- uses_chroma_lr: lr_type 0, and no other, is RESTORE_NONE; a plane that is not read has 0
abbrev pub uses_chroma_lr : ℕ → ℕ → Bool
uses_chroma_lr u v = not (eqb u 0 && eqb v 0)

-- AV1 5.9.20
unfoldable pub lr_params : Restoration → Syntax (Unit {0})
lr_params x =
    field x.on 2 (λ y.
    field (x.on && x.color) 2 (λ u.
    field (x.on && x.color) 2 (λ v.
    field (not (eqb y 0) || uses_chroma_lr u v) 1 (λ unit-shift.
    field (eqb unit-shift 1 && not x.use_128x128_superblock) 1 (λ unit-extra-shift.
    field (x.subsampled && uses_chroma_lr u v) 1 (λ uv-shift.
    read_over))))))
