use Rattle.std.proofs.Common.{◌≡◌, ◌+◌, ◌<◌, ◌^◌, length}
use Rattle.std.proofs.Math.Seq.{sets}
use Rattle.bitio.specs.Leb.{leb_bytes}
use Rattle.bitio.proofs.leb128.put_leb128.Given as goal

-- storing the bytes of x from i on makes what storing those of v at `at` would have made
abbrev pub invariant-loop-x : goal.invariant-loop-x
invariant-loop-x l =
    record {
      fits : l.x < 2 ^ 64;
      same_length : length l.out ≡ length l.fn.out;
      place : l.i + length (leb_bytes l.x) ≡ l.at + length (leb_bytes l.v);
      stored : sets l.out l.i (leb_bytes l.x) ≡ sets l.fn.out l.at (leb_bytes l.v);
    }

abbrev pub decreases-loop-x : goal.decreases-loop-x
decreases-loop-x l = l.x
