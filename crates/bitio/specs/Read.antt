-- What a reader of bits answers, by 01's numbers.
use Rattle.std.specs.Prelude.{Result, Ok, Err}
use Rattle.bitio.specs.Bits.{Reading, fails, reads}
use Rattle.bitio.specs.Refusal.{number}
use Rattle.bitio.specs.declared.reader.BitReader.{BitReader}
use Rattle.bitio.specs.declared.refusal.Refusal.{Refusal}

abbrev pub reading : {A : Type 0} → Result (A × BitReader) Refusal → Reading A
reading (Ok x) = reads x.0 x.1.pos
reading (Err e) = fails (number e)
