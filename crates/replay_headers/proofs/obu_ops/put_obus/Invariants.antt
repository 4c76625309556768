use Rattle.std.proofs.Common.{◌≡◌, List}
use Rattle.obu.specs.Obu.{Obu}
use Rattle.obu.proofs.WalkLaws.{Passed}
use Rattle.protocol.specs.Answers.{line}
use Rattle.protocol.specs.Told.{told_in, SameMemory}
use Rattle.replay_headers.specs.Headers.{tell_obus}
use Rattle.replay_headers.proofs.obu_ops.put_obus.Given as goal

-- the OBUs passed are told
abbrev pub invariant-loop-found : goal.invariant-loop-found
invariant-loop-found l =
    (front : List Obu) × Passed l.s l.found-iterator front × (told_in (line l.answer) l.memory ≡ tell_obus (told_in (line l.fn.so_far) l.fn.memory) front)
    × SameMemory l.fn.memory l.memory
