-- The row under a name, by the code's rows.
use Rattle.std.proofs.Common.{◌≡◌, refl, Bool, true, false, cond as pick, Some, option_map, ℕ, List, [], ◌∷◌, map}
use Rattle.std.specs.List.{find}
use Rattle.std.specs.Str.{bytes_eq}
use Rattle.replay_requests.specs.Rows.{row, named_row, found, first_row}
use Rattle.replay_requests.specs.declared.rows.Row.{Row as CodeRow}

pub found_rows : (name : List ℕ) (rs : List CodeRow)
    → option_map row (first_row name rs) ≡ found name (map named_row rs)
unfolding first_row
found_rows name [] = refl
found_rows name (r ∷ rs) = go (bytes_eq r.name.now name) (found_rows name rs)
  where
    go : (t : Bool) → option_map row (find (λ r. bytes_eq r.name.now name) rs) ≡ found name (map named_row rs)
        → option_map row (pick t (Some r) (find (λ r. bytes_eq r.name.now name) rs)) ≡ pick t (Some (row r)) (found name (map named_row rs))
    go true e = refl
    go false e = e
