-- Laws of units played one after the other.
use Rattle.std.proofs.Common.{◌≡◌, List, ℕ, ◌+◌, ◌≤◌, ◌<◌, length, get_or, drop, ap, ◌∙◌, add-one, drop-cons}
use lib.ListN.{drop_of_length-le}
use Rattle.obu.specs.Place.{part_in}
use Rattle.player.specs.Player.{State, state_after}
use Rattle.protocol.specs.Answers.{Numbered, with_numbers}
use Rattle.protocol.proofs.AnswerLaws.{numbers_more}
use Rattle.replay_lists.specs.Plays.{shown_fields, shown_by, play_fields}

module _ (s es : List ℕ) (t : Numbered) (st : State) (i : ℕ) (ps : List ℕ) where
  -- one more position, from the state st
  pub play_next : i < length ps
      → let u = part_in s es i in
      with_numbers (with_numbers t (shown_fields (shown_by st (get_or ps i 0) u))) (play_fields s es (state_after st (get_or ps i 0) u) (i + 1) (drop (i + 1) ps))
      ≡ with_numbers t (play_fields s es st i (drop i ps))
  unfolding play_fields
  play_next h =
      let u = part_in s es i in
      numbers_more t (shown_fields (shown_by st (get_or ps i 0) u)) (play_fields s es (state_after st (get_or ps i 0) u) (i + 1) (drop (i + 1) ps))
      ∙ ap (with_numbers t) (rw (add-one i, drop-cons ps i 0 h))

  pub play_end : length ps ≤ i → t ≡ with_numbers t (play_fields s es st i (drop i ps))
  unfolding play_fields with_numbers
  play_end h = rw (drop_of_length-le ps {i = i} h)
