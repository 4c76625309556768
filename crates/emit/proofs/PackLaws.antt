-- Laws of bits as bytes.
use mathlib.Core.Path.{◌≡◌, refl, sym, ap, ap₂, ◌∙◌}
use Prim.Native.Nat.{ℕ, zero, suc, ◌+◌, ◌*◌, ◌/◌, ◌%◌, ◌^◌, ◌<◌, ◌≤◌}
use native.Mathlib.Omega.{arith}
use native.Mathlib.Nat.{pow-suc}
use lib.Dec.{lit<}
use lib.Arith.{digits_div}
use lib.Pow.{pow_mono}
use mathlib.Core.List.{List, [], ◌∷◌, ◌++◌}
use lib.ListN.{length, take, drop, length-take, length-drop, take-append-drop}
use lib.Seq.{length-take-le}
use Rattle.bitio.specs.Bits.{Bytes}
use Rattle.bitio.specs.Every.{Every}
use Rattle.bitio.specs.Every.Every.{nothing, also}
use Rattle.bitio.specs.Write.{bits_of, unpack}
use Rattle.bitio.proofs.EveryLaws.{every_append, every_take, every_drop}
use Rattle.bitio.proofs.UnpackLaws.{bits-join, bits-low, length-unpack, unpack-same}
use Rattle.emit.specs.Emit.{of_bits, pack_n, pack}

-- 0 or 1
abbrev IsBit : ℕ → Type 0
IsBit b = b < 2

abbrev pub AreBits : List ℕ → Type 0
AreBits l = Every IsBit l

pub are-bits : (n v : ℕ) → AreBits (bits_of n v)
unfolding bits_of
are-bits zero v = nothing
are-bits (suc n) v = every_append (are-bits n (v / 2)) (also (omega arith) nothing)

pub are-unpack : (s : List ℕ) → AreBits (unpack s)
unfolding unpack
are-unpack [] = nothing
are-unpack (x ∷ s) = every_append (are-bits 8 x) (are-unpack s)

-- a number of n bits is below 2 ^ n
of_lt : {l : List ℕ} → AreBits l → of_bits l < 2 ^ length l
unfolding of_bits
of_lt nothing = lit< tt
of_lt (also {a = b} {l} h r) = small b (2 ^ length l) (of_bits l) (2 ^ suc (length l)) h (of_lt r) (pow-suc 2 (length l))
  where
    small : (b c v d : ℕ) → b < 2 → v < c → d ≡ c * 2 → b * c + v < d
    small zero c v d h k e = omega arith
    small (suc zero) c v d h k e = omega arith
    small (suc (suc b)) c v d h k e = absurd (omega arith)

-- no bits
no_bits : (v : ℕ) → bits_of 0 v ≡ []
unfolding bits_of
no_bits v = refl

-- a bit
pub one_bit : (b : ℕ) → b < 2 → bits_of 1 b ≡ b ∷ []
unfolding bits_of
one_bit b h = let e : b % 2 ≡ b = omega arith in ap (λ x. x ∷ []) e

-- and its bits are those that it was made of
of-bits : {l : List ℕ} → AreBits l → bits_of (length l) (of_bits l) ≡ l
unfolding of_bits
of-bits nothing = no_bits 0
of-bits (also {a = b} {l} h r) =
    let n = length l in
    let s : suc n ≡ 1 + n = omega arith in
    ap (λ j. bits_of j (b * 2 ^ n + of_bits l)) s ∙ bits-join 1 n (b * 2 ^ n + of_bits l)
    ∙ ap₂ ◌++◌ (ap (bits_of 1) (digits_div b (of_lt r)) ∙ one_bit b h) (bits-low n b (of_bits l) ∙ of-bits r)

-- the bits of packed bits are these bits
unpack-n : (n : ℕ) {l : List ℕ} → AreBits l → length l ≡ 8 * n → unpack (pack_n n l) ≡ l
unfolding pack_n unpack
unpack-n zero nothing e = refl
unpack-n zero (also h r) e = absurd (omega arith)
unpack-n (suc n) {l} k e =
    let t : length (take 8 l) ≡ 8 = length-take-le 8 l (omega arith) in
    let d : length (drop 8 l) ≡ 8 * n = length-drop 8 l ∙ omega arith in
    ap₂ ◌++◌ (ap (λ j. bits_of j (of_bits (take 8 l))) (sym t) ∙ of-bits (every_take IsBit 8 l k)) (unpack-n n (every_drop IsBit 8 l k) d)
    ∙ take-append-drop 8 l

pub unpack-pack : {l : List ℕ} → AreBits l → length l % 8 ≡ 0 → unpack (pack l) ≡ l
unfolding pack
unpack-pack {l} k e = unpack-n (length l / 8) k (omega arith)

length-n : (n : ℕ) (l : List ℕ) → length (pack_n n l) ≡ n
unfolding pack_n
length-n zero l = refl
length-n (suc n) l = ap suc (length-n n (drop 8 l))

-- eight bits a byte
pub length-pack : (l : List ℕ) → length (pack l) ≡ length l / 8
unfolding pack
length-pack l = length-n (length l / 8) l

-- a byte of bits is a byte
byte-lt : {l : List ℕ} → AreBits l → of_bits (take 8 l) < 256
byte-lt {l} k =
    let t = length-take 8 l in
    let h : length (take 8 l) ≤ 8 = omega arith in
    omega (arith, of_lt (every_take IsBit 8 l k), pow_mono h)

bytes-n : (n : ℕ) {l : List ℕ} → AreBits l → Bytes (pack_n n l)
unfolding pack_n
bytes-n zero k i = lit< tt
bytes-n (suc n) k zero = byte-lt k
bytes-n (suc n) {l} k (suc i) = bytes-n n (every_drop IsBit 8 l k) i

pub pack-bytes : {l : List ℕ} → AreBits l → Bytes (pack l)
unfolding pack
pack-bytes {l} k = bytes-n (length l / 8) k

-- bytes are the packing of their bits
pub pack-unpack : (s : List ℕ) → Bytes s → pack (unpack s) ≡ s
pack-unpack s b =
    let k = are-unpack s in
    let n = length-unpack s in
    unpack-same (pack (unpack s)) s (pack-bytes k) b (unpack-pack k (omega arith))
