use Rattle.std.proofs.Common.{◌≡◌, List, None}
use Rattle.bitio.specs.Parse.{accepted}
use Rattle.obu.specs.Obu.{Obu}
use Rattle.obu.proofs.WalkLaws.{Passed}
use Rattle.boardscan.specs.Scans.{scan_obus}
use Rattle.boardscan.proofs.scan.scan_frames.Given as goal

-- the OBUs passed, scanned
abbrev pub invariant-loop-found : goal.invariant-loop-found
invariant-loop-found l =
    (front : List Obu) × Passed l.unit l.found-iterator front
    × (accepted (record { first = l.first; slots = l.behind }) ≡ scan_obus l.sequence (record { first = None; slots = l.fn.slots }) front)
