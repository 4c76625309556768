use Rattle.std.proofs.Common.{sym, ◌∙◌}
use Rattle.container.proofs.StreamTurns.{roomy-most}
use Rattle.container.proofs.stream.is_roomy.Goals as goal

pub returns-then-have_room : goal.returns-then-have_room
returns-then-have_room c = c.if-have_room.true ∙ roomy-most _ c.requires (rw c.max.ensures at (sym c.have_room.ensures ∙ c.if-have_room.true))

pub measure-requires : goal.measure-requires
measure-requires c = c.requires.stream
