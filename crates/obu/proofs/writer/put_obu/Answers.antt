use Rattle.std.proofs.Common.{arith, sym, ◌+◌, ◌<◌, length}
use Rattle.obu.specs.Place.{extension_says}
use Rattle.obu.specs.Write.{obu_length}
use Rattle.obu.proofs.writer.put_obu.Goals.{then-out-at-via-then-out-at, then-out-at-via-else-out-at+then-out-at-2}
use Rattle.obu.proofs.WriteLaws.{obu-wrong, obu-full, obu-there}
use Rattle.obu.proofs.writer.put_obu.Goals as goal

pub returns-then-not-is_known_type : goal.returns-then-not-is_known_type
returns-then-not-is_known_type c = let h = obu-wrong _ _ _ _ _ (sym c.if-not-is_known_type.ensures) in record { result_value = h.0; out_after = h.1 }

-- there is no room, wherever that showed
full : (c : goal.Joined-then-out-at) → length c.args.out.now < c.args.at + obu_length (extension_says c.args.extension) (length c.args.payload.now)
full c =
    elim c.then-out-at.branch [
      | then-out-at-via-then-out-at w ↦ omega arith
      | then-out-at-via-else-out-at+then-out-at-2 w ↦ omega arith
    ]

pub returns-then-out-at : goal.returns-then-out-at
returns-then-out-at c = let h = obu-full c.args.out.now c.args.at _ _ _ (sym c.if-not-is_known_type.ensures) (full c) in record { result_value = h.0; out_after = h.1 }

pub returns : goal.returns
returns c = let w = c.put_measured.ensures in let h = obu-there _ _ _ _ _ (sym c.if-not-is_known_type.ensures) (omega arith) w.0 w.1 in record { result_value = h.0; out_after = h.1 }
