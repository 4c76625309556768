-- Laws of items told by numbers.
use Rattle.std.proofs.Common.{◌≡◌, refl, true, ℕ, ◌+◌, ◌*◌, ◌/◌, ◌%◌, ◌^◌, ◌<◌, ◌≤◌, arith}
use lib.Pow.{pow-add, pow_mono}
use Rattle.protocol.specs.Kinds.{kind_code, before_code, item_code, kind_of, before_of, item_of, is_told}
use Rattle.protocol.specs.declared.kinds.Kind.{Kind}
use Rattle.protocol.specs.declared.kinds.Kind.TheVariants.{Bytes, Number, Number32, Byte, OptionalByte, Count, Named, Refused, Told, Negative, Slots}
use Rattle.protocol.specs.declared.kinds.Before.{Before}
use Rattle.protocol.specs.declared.kinds.Before.TheVariants.{Space, Colon, Comma}
use Rattle.protocol.specs.declared.kinds.Item.{Item}

kind_small : (k : Kind) → kind_code k < 16
kind_small Bytes = omega arith
kind_small Number = omega arith
kind_small Number32 = omega arith
kind_small Byte = omega arith
kind_small OptionalByte = omega arith
kind_small Count = omega arith
kind_small Named = omega arith
kind_small Refused = omega arith
kind_small Told = omega arith
kind_small Negative = omega arith
kind_small Slots = omega arith

before_small : (b : Before) → before_code b < 16
before_small Space = omega arith
before_small Colon = omega arith
before_small Comma = omega arith

pub code_small : (i : Item) → item_code i < 256
code_small i = omega (arith, kind_small i.kind, before_small i.before)

kind_back : (k : Kind) → is_told k ≡ true → kind_of (kind_code k) ≡ k
unfolding kind_of
kind_back Bytes e = refl
kind_back Number e = refl
kind_back Number32 e = cc
kind_back Byte e = cc
kind_back OptionalByte e = refl
kind_back Count e = refl
kind_back Named e = refl
kind_back Refused e = refl
kind_back Told e = cc
kind_back Negative e = refl
kind_back Slots e = refl

before_back : (b : Before) → before_of (before_code b) ≡ b
unfolding before_of
before_back Space = refl
before_back Colon = refl
before_back Comma = refl

-- an item that is told comes back as it was
pub item_back : (i : Item) → is_told i.kind ≡ true → item_of (item_code i) ≡ i
item_back i e =
    let k : item_code i % 16 ≡ kind_code i.kind = omega (arith, kind_small i.kind) in
    let b : item_code i / 16 % 16 ≡ before_code i.before = omega (arith, kind_small i.kind, before_small i.before) in
    rw (k, b, kind_back i.kind e, before_back i.before) refl

-- as many items behind one as m
pub packed_small : (a p m n : ℕ) → m + 1 ≡ n → a < 256 → p < 2 ^ (8 * m) → a + 256 * p < 2 ^ (8 * n)
packed_small a p m n e h k =
    let f : 8 * n ≡ 8 * m + 8 = omega arith in
    rw f (omega (arith, pow-add 2 (8 * m) 8))

pub packed_fits : (p m : ℕ) → m ≤ 7 → p < 2 ^ (8 * m) → 256 * p + 255 < 2 ^ 64
packed_fits p m h k = omega (arith, pow_mono {i = 8 * m} {j = 56} (omega arith))
