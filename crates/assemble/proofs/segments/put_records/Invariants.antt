use Rattle.std.proofs.Common.{◌≡◌, ◌*◌, length, drop}
use Rattle.bitio.specs.Lent.{pasted}
use Rattle.blocks.specs.Numbers.{width}
use Rattle.assemble.specs.Records.{numbers_of}
use Rattle.assemble.proofs.segments.put_records.Given as goal

-- what is left from here is the whole from the start
abbrev pub invariant-loop-i : goal.invariant-loop-i
invariant-loop-i l = record {
  left : pasted l.numbers (width * l.i) (numbers_of (drop l.i l.segments)) ≡ pasted l.fn.numbers 0 (numbers_of l.segments);
  len : length l.numbers ≡ length l.fn.numbers;
}
