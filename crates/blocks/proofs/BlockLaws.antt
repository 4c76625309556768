-- Laws of blocks and of the list: as many units as frames, and the numbers of kinds.
use Prim.Native.Nat.{ℕ, zero, suc, ◌-◌, ◌≤◌, ◌<◌, min}
use native.Mathlib.Omega.{arith}
use mathlib.Core.Path.{◌≡◌, refl, ap}
use mathlib.Core.List.{List, [], ◌∷◌}
use mathlib.Core.Bool.{Bool, false, not, ◌||◌}
use lib.ListN.{length, length-append, length-map, length-replicate}
use lib.Dec.{leb}
use Rattle.blocks.specs.Blocks.{Kind, Key, Golden, Show, block, blocks, code, layout, total}

-- ---- as many units as frames

pub length-block : (key : Bool) (c : ℕ) → length (block key c) ≡ c
length-block key zero = refl
length-block key (suc zero) = refl
length-block key (suc (suc c)) = ap (λ (n : ℕ). suc (suc n)) (length-replicate c Show)

pub length-blocks : (f gop : ℕ) (after : Bool) (left : ℕ) → 1 ≤ gop → left ≤ f → length (blocks f gop after left) ≡ left
unfolding blocks
length-blocks zero gop after left g h = omega arith
length-blocks (suc f) gop after left g h =
    let c = min left gop in
    let ih = length-blocks f gop (after || leb 2 c) (left - c) g (omega arith) in
    rw (length-append, length-block (not after || leb 2 c) c, ih) (omega arith)

pub length-layout : (gop i : ℕ) (ns : List ℕ) → 1 ≤ gop → length (layout gop i ns) ≡ total ns
unfolding layout total
length-layout gop i [] g = refl
length-layout gop i (m ∷ ns) g =
    rw (length-append, length-map, length-blocks m gop false m g (omega arith), length-layout gop (suc i) ns g)

-- ---- an entry's kind is below 3

pub code-small : (k : Kind) → code k < 3
code-small Key = omega arith
code-small Golden = omega arith
code-small Show = omega arith
