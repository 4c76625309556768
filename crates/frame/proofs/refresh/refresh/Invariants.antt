use Rattle.std.proofs.Common.{◌≡◌, length, ◌/◌, ◌^◌}
use Rattle.frame.specs.Refresh.{refresh}
use Rattle.frame.proofs.RefreshLaws.{sweep}
use Rattle.frame.proofs.refresh.refresh.Given as goal

-- what is left of the flags refreshes the slots from i on
abbrev pub invariant-loop-i : goal.invariant-loop-i
invariant-loop-i g l = record { size : length l.slots ≡ 8; left : sweep l.i (l.flags / 2 ^ l.i) l.new l.slots ≡ refresh l.flags l.new l.fn.slots }
