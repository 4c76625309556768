use Rattle.std.proofs.Common.{ap, ◌∙◌, option_map}
use Rattle.replay_requests.specs.Rows.{row, row_of}
use Rattle.replay_requests.proofs.RowLaws.{found_rows}
use Rattle.replay_requests.proofs.rows.row_of.Goals as goal

pub returns : goal.returns
unfolding row_of
returns c = ap (option_map row) c.find.ensures ∙ found_rows c.args.name.now _
