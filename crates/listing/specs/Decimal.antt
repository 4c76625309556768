-- Decimal numbers as text, in ASCII codes.
use Rattle.std.specs.Prelude.{ℕ, zero, suc, ◌+◌, ◌/◌, ◌%◌, List, [], ◌∷◌, ◌++◌, cond as pick, ltb}

-- the digits of n, at most k + 1
unfoldable pub digits_in : ℕ → ℕ → List ℕ
digits_in zero n = (48 + n) ∷ []
digits_in (suc k) n = pick (ltb n 10) ((48 + n) ∷ []) (digits_in k (n / 10) ++ ((48 + n % 10) ∷ []))

-- the decimal digits of n, with no leading zero
unfoldable pub decimal : ℕ → List ℕ
decimal n = digits_in n n

-- n, and a character behind it
abbrev pub field : ℕ → ℕ → List ℕ
field n last = decimal n ++ (last ∷ [])

-- a word, n, and a character behind it
abbrev pub counted : List ℕ → ℕ → ℕ → List ℕ
counted word n last = word ++ field n last
