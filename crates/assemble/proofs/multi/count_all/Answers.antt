use Rattle.std.proofs.Common.{ℕ, refl, ap, ◌*◌}
use Rattle.blocks.specs.Numbers.{frames_in}
use Rattle.assemble.proofs.MultiLaws.{units-are, same-counts}
use Rattle.assemble.proofs.multi.count_all.Goals as goal

pub returns : goal.returns
returns c =
    let a = c.args in
    let k = c.segment_count-count.ensures in
    same-counts (units-are a.gop (frames_in a.segments.all.numbers.now) _ c.requires.gop c.requires.small c.total_frames.ensures) c.count_cues.ensures refl (ap (λ (n : ℕ). 2 * n) k) (ap (λ (n : ℕ). 5 * n) k) c.header_len.ensures c.first_slot.ensures
