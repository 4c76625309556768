-- AV1 5.9.19 cdef_params, of which nothing is kept.
use Rattle.std.specs.Prelude.{◌^◌, Bool, true, cond as pick}
use Rattle.syntax.specs.Syntax.{Syntax, done, read_over, field, sub}
use Rattle.syntax.specs.Repeat.{times}

-- a primary and a secondary strength for luma, and for chroma where there is color
unfoldable pub strengths : Bool → Syntax (Unit {0})
strengths color =
    field true 4 (λ y-pri.
    field true 2 (λ y-sec.
    field color 4 (λ uv-pri.
    field color 2 (λ uv-sec.
    read_over))))

-- AV1 5.9.19. on: neither lossless nor intra block copy, and enable_cdef; color: more than one plane
unfoldable pub cdef_params : Bool → Bool → Syntax (Unit {0})
cdef_params on color =
    field on 2 (λ damping.
    field on 2 (λ bits.
    sub (times (pick on (2 ^ bits) 0) (strengths color)) (λ nothing.
    done nothing)))
