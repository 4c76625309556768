-- Laws of frames scanned one after the other, and of the slots behind them.
use Prim.Native.Nat.{ℕ, ◌+◌, ◌≤◌, ◌<◌}
use native.Mathlib.Numerals.{add-one}
use mathlib.Core.Path.{◌≡◌, sym, ap, ◌∙◌}
use mathlib.Core.List.{List, [], ◌++◌}
use Rattle.std.specs.List.{flat_map}
use lib.ListN.{length, get_or, take, drop, drop_of_length-le}
use lib.Seq.{drop-cons}
use Rattle.std.proofs.lemmas.List.{take_more, flat_map_more}
use Rattle.obu.specs.Place.{part_in}
use Rattle.geometry.specs.declared.slots.RefSlot.{RefSlot}
use Rattle.uheader.specs.Scan.{scan_payloads, slots_after}
use Rattle.protocol.specs.Answers.{Numbered, with_numbers}
use Rattle.protocol.proofs.AnswerLaws.{numbers_more}
use Rattle.replay_scan.specs.Scans.{frame_fields, slot_fields, slots_fields, frames_fields}

-- one slot more
pub slot_more : (xs : List RefSlot) (i : ℕ) (d : RefSlot) → i < length xs
    → flat_map slot_fields (take i xs) ++ slot_fields (get_or xs i d) ≡ flat_map slot_fields (take (i + 1) xs)
slot_more xs i d h = flat_map_more slot_fields [] (take i xs) (get_or xs i d) ∙ ap (flat_map slot_fields) (sym (take_more xs i d h))

-- ---- the frames, under the sequence payload q: those from byte string i on are left

module _ (q s es : List ℕ) (t : Numbered) (slots : List RefSlot) (i : ℕ) where
  -- one more, from these slots on
  pub scan-next : i < length es
      → let x = scan_payloads q slots (part_in s es i) in
      with_numbers (with_numbers t (frame_fields x)) (frames_fields q s es (slots_after slots x) (i + 1) (drop (i + 1) es))
      ≡ with_numbers t (frames_fields q s es slots i (drop i es))
  unfolding frames_fields
  scan-next h =
      let x = scan_payloads q slots (part_in s es i) in
      numbers_more t (frame_fields x) (frames_fields q s es (slots_after slots x) (i + 1) (drop (i + 1) es))
      ∙ ap (with_numbers t) (rw (add-one i, drop-cons es i 0 h))

  pub scan-end : length es ≤ i → with_numbers t (slots_fields slots) ≡ with_numbers t (frames_fields q s es slots i (drop i es))
  unfolding frames_fields
  scan-end h = rw (drop_of_length-le es {i = i} h)
