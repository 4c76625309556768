-- Text typed into a buffer of 65,536 bytes, which is written out whenever it is full.
use Rattle.std.specs.Prelude.{ℕ, zero, suc, ◌+◌, ◌/◌, List, [], ◌∷◌, cond as pick, replicate, set, leb, ltb}
use Rattle.io.specs.Digits.{last_digits}
use Rattle.protocol.specs.Text.{hex_text}
use Rattle.protocol.specs.declared.output.Output.{Output}

-- nothing waits yet
abbrev pub start_output : Output
start_output = record { buffer = replicate 65536 0; at = 0 }

-- where the next character goes: at the start of a buffer that was written out
unfoldable pub next_place : ℕ → ℕ
next_place at = pick (leb 65536 at) 0 at

-- one character
abbrev pub typed_one : Output → ℕ → Output
typed_one t c = record { buffer = set t.buffer (next_place t.at) c; at = next_place t.at + 1 }

unfoldable pub typed : Output → List ℕ → Output
typed t [] = t
typed t (c ∷ s) = typed (typed_one t c) s

-- ---- values as text

-- how many decimal digits n has, at most k + 1
unfoldable pub places_in : ℕ → ℕ → ℕ
places_in zero n = 1
places_in (suc k) n = pick (ltb n 10) 1 (suc (places_in k (n / 10)))

-- the decimal digits of a u64, with no leading zero
abbrev pub decimal_text : ℕ → List ℕ
decimal_text n = last_digits 10 (places_in 19 n) n

-- bytes in hexadecimal, - for none
abbrev pub bytes_text : List ℕ → List ℕ
bytes_text [] = 45 ∷ []
bytes_text (b ∷ s) = hex_text (b ∷ s)
