use Rattle.bitio.proofs.UvlcLaws.{ZerosLeft}
use Rattle.bitio.proofs.reader.BitReader.uvlc.Given as goal

abbrev pub invariant-loop-zeros : goal.invariant-loop-zeros
invariant-loop-zeros l = ZerosLeft l.s l.initial.reader.pos l.zeros l.reader.pos
