use Rattle.std.proofs.Common.{◌≡◌, List}
use Rattle.bitio.specs.Refusal.{says}
use Rattle.obu.specs.Obu.{Obu}
use Rattle.obu.proofs.WalkLaws.{Passed}
use Rattle.player.specs.Player.{keep_as}
use Rattle.player.specs.Values.{kept_of}
use Rattle.player.proofs.keep.keep_headers.Given as goal

-- the OBUs passed, and what is kept behind them
abbrev pub invariant-loop-found : goal.invariant-loop-found
invariant-loop-found l = (front : List Obu) × Passed l.unit l.found-iterator front × (says l.last ≡ keep_as kept_of l.fn.kept front)
