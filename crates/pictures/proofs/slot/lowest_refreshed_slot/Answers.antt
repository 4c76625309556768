use Rattle.pictures.specs.Prepare.{slot_of}
use Rattle.pictures.proofs.SlotLaws.{looked-up}
use Rattle.pictures.proofs.slot.lowest_refreshed_slot.Goals as goal

-- 02: one check of the table's 256 entries, as the code has them
pub returns : goal.returns
unfolding slot_of
returns c = search looked-up
