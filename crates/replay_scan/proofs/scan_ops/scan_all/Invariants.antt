use Rattle.std.proofs.Common.{◌≡◌, drop}
use Rattle.uheader.specs.Scan.{empty_slots}
use Rattle.protocol.specs.Answers.{parts_of, numbered, numbers_told, with_numbers}
use Rattle.replay_scan.specs.Scans.{frames_fields}
use Rattle.replay_scan.proofs.scan_ops.scan_all.Given as goal

-- what is left from here is the whole from the start
abbrev pub invariant-loop-i : goal.invariant-loop-i
invariant-loop-i l = record {
  left : with_numbers (numbers_told l.told) (frames_fields l.sequence l.s l.ends l.slots l.i (drop l.i l.ends))
      ≡ with_numbers (numbered (parts_of 0 0) l.fn.numbers) (frames_fields l.sequence l.s l.ends empty_slots 1 (drop 1 l.ends));
  lent : l.told.numbers.ghost_name ≡ l.initial.told.numbers.ghost_name;
}
