use Rattle.std.proofs.Common.{◌≡◌, ◌-◌, ◌*◌}
use Rattle.bitio.specs.Lent.{pasted}
use Rattle.blocks.specs.Numbers.{width, segment_count}
use Rattle.replay_lists.specs.Lists.{segment_records}
use Rattle.replay_lists.proofs.assemble_ops.put_segments.Given as goal

-- what is left from here is the whole from the start
abbrev pub invariant-loop-i : goal.invariant-loop-i
invariant-loop-i l =
    pasted l.segments (width * l.i) (segment_records l.ends l.numbers l.i (segment_count l.fn.segments - l.i))
    ≡ pasted l.fn.segments 0 (segment_records l.ends l.numbers 0 (segment_count l.fn.segments))
