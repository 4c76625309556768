use Rattle.std.proofs.Common.{◌≡◌, ◌-◌, ◌/◌, ◌^◌, length}
use Rattle.bitio.specs.Write.{put_bits}
use Rattle.bitio.proofs.writer.put_bits.Given as goal

abbrev pub invariant-loop-i : goal.invariant-loop-i
invariant-loop-i l = record { same_length : length l.out ≡ length l.fn.out; put : l.out ≡ put_bits l.fn.out l.pos (l.v / 2 ^ (l.n - l.i)) l.i }
