use Rattle.std.proofs.Common.{◌≡◌, ◌≤◌, List}
use Rattle.obu.specs.Obu.{Obu}
use Rattle.obu.specs.Unit.{count, is_kind}
use Rattle.obu.proofs.WalkLaws.{Passed}
use Rattle.obu.proofs.unit.count_obus.Given as goal

-- the OBUs passed, and how many of them are of the kind
abbrev pub invariant-loop-found : goal.invariant-loop-found
invariant-loop-found l = (front : List Obu) × Passed l.s l.found-iterator front × (l.n ≤ l.found-iterator.at) × (l.n ≡ count (is_kind l.k) front)
