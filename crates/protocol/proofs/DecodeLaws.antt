-- What putting a byte string into memory comes to.
use Rattle.std.proofs.Common.{◌≡◌, refl, sym, ap, ◌∙◌, List, [], ◌∷◌, ◌++◌, Bool, true, false, ◌&&◌, cond as pick, Option, Some, None, option_map, nat_eq, eqb, ℕ, ◌+◌, ◌-◌, ◌/◌, ◌%◌, ◌≤◌, ◌<◌, length, take, arith}
use Rattle.std.proofs.Math.Seq.{drop-drop}
use borrow.Rule.Slice.PartMut.{put_mid}
use Rattle.std.specs.Str.{bytes_eq}
use borrow.Author.Tests.{le-leb, lt-leb}
use Rattle.bitio.specs.Lent.{has_room, pasted, lent}
use Rattle.protocol.specs.Text.{ascii, all_hex, hex_bytes, pairs, byte_string, decoded_to, decoded_in}
use Rattle.protocol.proofs.TextLaws.{bytes_length}

module _ (d : List ℕ) (w : ℕ) where
  pub to_none : (m : Option (List ℕ)) → option_map length m ≡ None → decoded_to d w m ≡ None
  unfolding decoded_to
  to_none None e = refl
  to_none (Some xs) e = cc

  pub in_none : (m : Option (List ℕ)) → option_map length m ≡ None → decoded_in d w m ≡ d
  unfolding decoded_in
  in_none None e = refl
  in_none (Some xs) e = cc

  pub to_full : (m : Option (List ℕ)) (n : ℕ) → option_map length m ≡ Some n → length d < w + n → decoded_to d w m ≡ None
  unfolding decoded_to has_room
  to_full None n e h = cc
  to_full (Some xs) n e h = let l : length xs ≡ n = cc in rw (l, lt-leb (w + n) (length d) h) refl

  pub in_full : (m : Option (List ℕ)) (n : ℕ) → option_map length m ≡ Some n → length d < w + n → decoded_in d w m ≡ d
  unfolding decoded_in has_room lent
  in_full None n e h = cc
  in_full (Some xs) n e h = let l : length xs ≡ n = cc in rw (l, lt-leb (w + n) (length d) h) refl

  pub to_room : (m : Option (List ℕ)) (n : ℕ) → option_map length m ≡ Some n → w + n ≤ length d → decoded_to d w m ≡ Some (w + n)
  unfolding decoded_to has_room
  to_room None n e h = cc
  to_room (Some xs) n e h = let l : length xs ≡ n = cc in rw (l, le-leb (w + n) (length d) h) refl

-- - has no bytes
dash : (s : List ℕ) → bytes_eq s (ascii "-") ≡ true → hex_bytes s ≡ []
unfolding hex_bytes
dash [] h = refl
dash (c ∷ []) h = refl
dash (c ∷ d ∷ s) h = go (nat_eq c 45) h
  where
    go : (t : Bool) → t && false ≡ true → hex_bytes (c ∷ d ∷ s) ≡ []
    go true e = cc
    go false e = cc

-- the bytes of a byte string are those of its digits
bytes_are : (s xs : List ℕ) → byte_string s ≡ Some xs → xs ≡ hex_bytes s
unfolding byte_string pairs
bytes_are s xs e = go (bytes_eq s (ascii "-")) refl (eqb (length s) 0) (eqb (length s % 2) 0 && all_hex s) e
  where
    go : (b : Bool) → bytes_eq s (ascii "-") ≡ b → (x y : Bool) → pick b (Some []) (pick x None (pick y (Some (hex_bytes s)) None)) ≡ Some xs → xs ≡ hex_bytes s
    go true p x y q = let r : xs ≡ [] = cc in r ∙ sym (dash s p)
    go false p true y q = cc
    go false p false true q = cc
    go false p false false q = cc

module _ (s : List ℕ) (n : ℕ) (e : option_map length (byte_string s) ≡ Some n) where
  pub count_is : n ≡ length s / 2
  count_is = go (byte_string s) refl e
    where
      go : (m : Option (List ℕ)) → byte_string s ≡ m → option_map length m ≡ Some n → n ≡ length s / 2
      go None p q = cc
      go (Some xs) p q = let l : length xs ≡ n = cc in let b = ap length (bytes_are s xs p) in omega (arith, bytes_length s)

  pub in_room : (d : List ℕ) (w : ℕ) → w + n ≤ length d → decoded_in d w (byte_string s) ≡ pasted d w (hex_bytes s)
  unfolding decoded_in has_room lent
  in_room d w h = go (byte_string s) refl e
    where
      go : (m : Option (List ℕ)) → byte_string s ≡ m → option_map length m ≡ Some n → decoded_in d w m ≡ pasted d w (hex_bytes s)
      go None p q = cc
      go (Some xs) p q = let l : length xs ≡ n = cc in rw (l, le-leb (w + n) (length d) h) (ap (pasted d w) (bytes_are s xs p))

  -- as a loan of that part gives it back
  pub put_is : (d : List ℕ) (w : ℕ) {j : ℕ} {xs : List ℕ} → j ≡ w + n → w + n ≤ length d → xs ≡ hex_bytes s
      → put_mid w (j - w) d xs ≡ decoded_in d w (byte_string s)
  unfolding pasted
  put_is d w {j} {xs} i h x =
      let k : j - w ≡ n = omega arith in
      let l : length (hex_bytes s) ≡ n = omega (arith, count_is, bytes_length s) in
      rw (k, x, in_room d w h, l) (ap (λ (r : List ℕ). take w d ++ (hex_bytes s ++ r)) (drop-drop n w d))
