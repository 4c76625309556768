use Rattle.protocol.proofs.AnswerLaws.{tells_then}
use Rattle.replay_headers.proofs.sequence_fields.put_coding.Goals as goal

pub returns : goal.returns
returns c =
    let size = rw c.size_fields.ensures at c.put_list.ensures in
    let ids = rw c.id_fields.ensures at c.put_list-2.ensures in
    let tools = rw c.tool_fields.ensures at c.put_list-3.ensures in
    let screen = rw c.screen_fields-screen.ensures at c.put_list-4.ensures in
    let filters = rw c.filter_fields.ensures at c.put_list-5.ensures in
    let color = rw c.color_fields.ensures at c.put_list-6.ensures in
    let sampling = rw (c.sampling_fields-sampling.ensures, c.range_of-range.ensures) at c.put_list-7.ensures in
    tells_then _ _ _ (tells_then _ _ _ (tells_then _ _ _ (tells_then _ _ _ (tells_then _ _ _ (tells_then _ _ _ size ids) tools) screen) filters) color) sampling
