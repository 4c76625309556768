use Rattle.std.proofs.Common.{◌+◌, ◌∙◌, rules}
use Rattle.bitio.specs.Bits.{read_bits}
use Rattle.syntax.proofs.TurnsLaws.{fields_turns}
use Rattle.syntax.proofs.over.read_over.Goals as goal

pub returns : goal.returns
returns c =
    let a = c.args in
    c.times.ensures (λ p. read_bits a.s.now p (a.less + 1)) (record { same = λ r out e. search rules }) ∙ fields_turns a.s.now (a.less + 1) a.n a.r.pos
