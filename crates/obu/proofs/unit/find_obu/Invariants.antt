use Rattle.std.proofs.Common.{◌≡◌, List}
use Rattle.std.specs.Prelude.{Ok}
use Rattle.bitio.specs.Parse.{accepted}
use Rattle.obu.specs.Unit.{Located, is_kind, sought, sought_says}
use Rattle.obu.proofs.UnitLaws.{Searched}
use Rattle.obu.proofs.WalkLaws.{Over}
use Rattle.obu.proofs.unit.find_obu.Given as goal

-- the OBUs passed, and what is sought among them
abbrev pub invariant-loop-found : goal.invariant-loop-found
invariant-loop-found l =
    let it = l.found-iterator in
    (front : List Located) × Over l.s it × Searched l.s it.at front × (sought_says l.s (Ok l.kept) ≡ accepted (sought l.last (λ o. is_kind l.k o.obu) front))
