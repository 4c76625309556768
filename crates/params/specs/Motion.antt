-- AV1 5.9.24 global_motion_params, of which nothing is kept.
use Rattle.std.specs.Prelude.{ℕ, zero, suc, ◌+◌, ◌-◌, ◌*◌, ◌^◌, Bool, true, not, ◌||◌, cond as pick, eqb, leb}
use Rattle.syntax.specs.Syntax.{Syntax, done, field, branch, sub, read_over}
use Rattle.syntax.specs.Near.{ns}
use Rattle.syntax.specs.Repeat.{times}

-- b2 of decode_subexp, whose k is 3
abbrev pub subexp_bits : ℕ → ℕ
subexp_bits i = pick (eqb i 0) 3 (i + 2)

-- AV1 5.9.28 decode_subexp of n numbers, from its turn i on, for so many turns at most
unfoldable pub decode_subexp : ℕ → ℕ → ℕ → ℕ → Syntax ℕ
decode_subexp zero n i mk = done 0
decode_subexp (suc turns) n i mk =
    branch (leb n (mk + 3 * 2 ^ subexp_bits i))
    (sub (ns (n - mk)) (λ v.
    done (v + mk)))
    (field true 1 (λ more.
    branch (eqb more 1)
    (decode_subexp turns n (i + 1) (mk + 2 ^ subexp_bits i))
    (field true (subexp_bits i) (λ v.
    done (v + mk)))
    (λ v. done v)))
    (λ v. done v)

-- AV1 5.9.25 read_global_param, where on, of n numbers. More turns would change nothing up to n = 2 ^ 14 (`enough`)
unfoldable pub read_global_param : Bool → ℕ → Syntax ℕ
read_global_param on n = branch on (decode_subexp 16 n 0 0) (done 0) (λ v. done v)

-- the numbers from - 2 ^ bits to 2 ^ bits
abbrev pub numbers : ℕ → ℕ
numbers bits = 2 * 2 ^ bits + 1

-- the parameters of a reference that has motion. fine: allow_high_precision_mv. GM_ABS_ALPHA_BITS and GM_ABS_TRANS_BITS are 12,
-- GM_ABS_TRANS_ONLY_BITS is 9
unfoldable pub gm_params : Bool → Syntax (Unit {0})
gm_params fine =
    field true 1 (λ rot-zoom.
    field (not (eqb rot-zoom 1)) 1 (λ translation.
    sub (read_global_param (not (eqb translation 1)) (numbers 12)) (λ p2.
    sub (read_global_param (not (eqb translation 1)) (numbers 12)) (λ p3.
    sub (read_global_param (not (eqb rot-zoom 1 || eqb translation 1)) (numbers 12)) (λ p4.
    sub (read_global_param (not (eqb rot-zoom 1 || eqb translation 1)) (numbers 12)) (λ p5.
    sub (read_global_param true (pick (eqb translation 1) (pick fine (numbers 9) (numbers 8)) (numbers 12))) (λ p0.
    sub (read_global_param true (pick (eqb translation 1) (pick fine (numbers 9) (numbers 8)) (numbers 12))) (λ p1.
    read_over))))))))

-- a reference: is_global, and its parameters where it is 1
unfoldable pub motion : Bool → Syntax (Unit {0})
motion fine =
    field true 1 (λ global.
    branch (eqb global 1) (gm_params fine) read_over (λ v. done v))

-- AV1 5.9.24. on: the frame is no intra frame
unfoldable pub global_motion_params : Bool → Bool → Syntax (Unit {0})
global_motion_params on fine =
    sub (times (pick on 7 0) (motion fine)) (λ nothing.
    done nothing)
