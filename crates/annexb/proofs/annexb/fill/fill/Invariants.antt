use Rattle.std.specs.Iterator.Adapters.{enumerate_source, enumerate_count}
use Rattle.annexb.proofs.FillLaws.{All}
use Rattle.annexb.proofs.annexb.fill.fill.Given as goal

abbrev pub invariant-loop-u : goal.invariant-loop-u
invariant-loop-u l = All l.data (enumerate_source l.u-iterator).rest.now l.initial.out l.initial.ends l.out l.ends l.w (enumerate_count l.u-iterator)
