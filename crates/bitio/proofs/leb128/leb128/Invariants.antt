use Rattle.std.proofs.Common.{◌≡◌, ◌*◌, ◌<◌, ◌^◌}
use Rattle.bitio.proofs.LebTurns.{NumberLeft}
use Rattle.bitio.proofs.leb128.leb128.Given as goal

-- i bytes are read, v is their value, w the weight of the next, and what is left, with these, is the whole
abbrev pub invariant-loop-i : goal.invariant-loop-i
invariant-loop-i l = record { weight : l.w ≡ 2 ^ (7 * l.i); small : l.v < l.w; left : NumberLeft l.s l.v l.w l.i }
