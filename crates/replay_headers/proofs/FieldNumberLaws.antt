-- Laws of fields told as numbers.
use Prim.Native.Nat.{ℕ, ◌+◌, ◌<◌}
use native.Mathlib.Numerals.{add-one}
use mathlib.Core.Path.{◌≡◌, sym, ap, ◌∙◌}
use mathlib.Core.List.{List, [], ◌∷◌, ◌++◌, append_assoc, append-nil, flat_map}
use lib.ListN.{length, get_or, take}
use lib.Seq.{take-suc}
use Rattle.header.specs.declared.seq_header.OperatingPoint.{OperatingPoint}
use Rattle.protocol.specs.Answers.{Tells}
use Rattle.protocol.specs.declared.answer.Numbers.{Numbers}
use Rattle.protocol.proofs.AnswerLaws.{tells_none, tells_then}
use Rattle.replay_headers.specs.Fields.{point_fields, points_fields}

-- ---- operating points

points-next : (ps : List OperatingPoint) (x : OperatingPoint) → points_fields (ps ++ (x ∷ [])) ≡ points_fields ps ++ point_fields x
unfolding points_fields flat_map
points-next [] x = append-nil (point_fields x)
points-next (p ∷ ps) x = ap (λ l. point_fields p ++ l) (points-next ps x) ∙ sym (append_assoc (point_fields p) (points_fields ps) (point_fields x))

pub points_none : (t : Numbers) (ps : List OperatingPoint) → Tells t t (points_fields (take 0 ps))
unfolding points_fields flat_map
points_none t ps = tells_none t

pub points-more : (t : Numbers) (ps : List OperatingPoint) (x : OperatingPoint) (i : ℕ) {u w : Numbers} → i < length ps
    → Tells t u (points_fields (take i ps)) → Tells u w (point_fields (get_or ps i x)) → Tells t w (points_fields (take (i + 1) ps))
points-more t ps x i h e j =
    let k = points-next (take i ps) (get_or ps i x) in
    let n : take i ps ++ (get_or ps i x ∷ []) ≡ take (i + 1) ps = sym (ap (λ k. take k ps) (add-one i) ∙ take-suc ps i x h) in
    rw (sym k ∙ ap points_fields n) at (tells_then t (points_fields (take i ps)) (point_fields (get_or ps i x)) e j)
