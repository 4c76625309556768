-- Laws of positions in a list, and of an entry's number.
use Prim.Native.Nat.{ℕ, suc, ◌+◌, ◌-◌, ◌/◌, ◌%◌, ◌≤◌, ◌<◌}
use native.Mathlib.Omega.{arith}
use mathlib.Core.Path.{◌≡◌, refl, ◌∙◌}
use mathlib.Core.List.Memᴰ
use mathlib.Core.List.{List, [], ◌∷◌, map, Memᴰ}
use mathlib.Core.Bool.{Bool, true, false, cond}
use lib.ListN.{length, get_or}
use lib.Dec.{eqb}
use borrow.Author.Tests.{eqb-true, eqb-false}
use Rattle.bitio.specs.Every.{Every}
use Rattle.bitio.specs.Every.Every.{nothing, also}
use Rattle.blocks.proofs.BlockLaws.{code-small}
use Rattle.blocks.specs.Blocks.{Entry, code, number, positions, is_key_entry, cues_of}
use Rattle.blocks.specs.declared.blocks.Kind.{Kind}
use Rattle.blocks.specs.declared.blocks.Kind.TheVariants.{Key, Golden, Show}
use Rattle.demand.specs.Demand.{Rising}
use Rattle.demand.proofs.Following.{first}

-- ---- maps

pub map_both : {A B C : Type 0} (f : B → C) (g : A → B) (h : A → C) (l : List A) (d : A) → ((k : ℕ) → k < length l → f (g (get_or l k d)) ≡ h (get_or l k d)) → map f (map g l) ≡ map h l
map_both f g h [] d e = refl
map_both f g h (x ∷ l) d e = rw (e 0 (omega arith), map_both f g h l d (λ k w. e (suc k) (omega arith)))

-- ---- positions

pub positions-map : {A B : Type 0} (is : B → Bool) (f : A → B) (p : ℕ) (l : List A) → positions is p (map f l) ≡ positions (λ a. is (f a)) p l
unfolding positions
positions-map is f p [] = refl
positions-map is f p (a ∷ l) = rw (positions-map is f (suc p) l)

pub positions-ext : {A : Type 0} (is is' : A → Bool) (p : ℕ) (l : List A) (d : A) → ((k : ℕ) → k < length l → is (get_or l k d) ≡ is' (get_or l k d))
    → positions is p l ≡ positions is' p l
unfolding positions
positions-ext is is' p [] d h = refl
positions-ext is is' p (a ∷ l) d h =
    rw (h 0 (omega arith), positions-ext is is' (suc p) l d (λ k w. h (suc k) (omega arith)))

-- p is one of them: it is the position of an element that passes
pub record Passes {A : Type 0} (is : A → Bool) (p : ℕ) (l : List A) (d : A) (c : ℕ) : Type 0 where
  pub low : p ≤ c
  pub high : c < p + length l
  pub holds : is (get_or l (c - p) d) ≡ true

passes-head : {A : Type 0} (is : A → Bool) (p : ℕ) (a : A) (l : List A) (d : A) (c : ℕ) → is a ≡ true → c ≡ p → Passes is p (a ∷ l) d c
passes-head is p a l d c e w =
    let z : c - p ≡ 0 = omega arith in
    record { low = omega arith; high = omega arith; holds = rw z e }

passes-tail : {A : Type 0} (is : A → Bool) (p : ℕ) (a : A) (l : List A) (d : A) (c : ℕ) → Passes is (suc p) l d c → Passes is p (a ∷ l) d c
passes-tail is p a l d c h =
    let w = h.low in
    let z : c - p ≡ suc (c - suc p) = omega arith in
    record { low = omega arith; high = omega (arith, h.high); holds = rw z h.holds }

passes-down : {A : Type 0} (is : A → Bool) (p : ℕ) (a : A) (l : List A) (d : A) (c : ℕ) → Passes is p (a ∷ l) d c → (c ≡ p → ⊥) → Passes is (suc p) l d c
passes-down is p a l d c h n =
    let w = h.low in
    let z : c - p ≡ suc (c - suc p) = omega arith in
    record { low = omega arith; high = omega (arith, h.high); holds = rw z at h.holds }

pub positions-pass : {A : Type 0} (is : A → Bool) (p : ℕ) (l : List A) (d : A) (c : ℕ) → Memᴰ c (positions is p l) → Passes is p l d c
unfolding positions
positions-pass is p [] d c m = absurd (Memᴰ.not-nil m)
positions-pass {A} is p (a ∷ l) d c m = go (λ m. positions-pass is (suc p) l d c m) (is a) refl m
  where
    go : (Memᴰ c (positions is (suc p) l) → Passes is (suc p) l d c) → (t : Bool) → is a ≡ t
        → Memᴰ c (cond t (p ∷ positions is (suc p) l) (positions is (suc p) l)) → Passes is p (a ∷ l) d c
    go more true e (Memᴰ.head w) = passes-head is p a l d c e w
    go more true e (Memᴰ.tail m) = passes-tail is p a l d c (more m)
    go more false e m = passes-tail is p a l d c (more m)

pub pass-positions : {A : Type 0} (is : A → Bool) (p : ℕ) (l : List A) (d : A) (c : ℕ) → Passes is p l d c → Memᴰ c (positions is p l)
unfolding positions
pass-positions is p [] d c h = absurd (omega (arith, h.low, h.high))
pass-positions {A} is p (a ∷ l) d c h = go (λ w. pass-positions is (suc p) l d c w) (is a) refl (eqb c p) refl
  where
    go : (Passes is (suc p) l d c → Memᴰ c (positions is (suc p) l)) → (t : Bool) → is a ≡ t → (s : Bool) → eqb c p ≡ s
        → Memᴰ c (cond t (p ∷ positions is (suc p) l) (positions is (suc p) l))
    go more true e true w = Memᴰ.head (eqb-true c p w)
    go more true e false w = Memᴰ.tail (more (passes-down is p a l d c h (eqb-false c p w)))
    go more false e true w =
        let v = eqb-true c p w in
        let z : c - p ≡ 0 = omega arith in
        let y : is a ≡ true = rw z at h.holds in
        cc
    go more false e false w = more (passes-down is p a l d c h (eqb-false c p w))

rising-lower : (lo hi : ℕ) (l : List ℕ) → lo ≤ hi → Rising hi l → Rising lo l
unfolding Rising
rising-lower lo hi [] h r = tt
rising-lower lo hi (x ∷ l) h r = (omega (arith, r.0), r.1)

pub positions-rising : {A : Type 0} (is : A → Bool) (p : ℕ) (l : List A) → Rising p (positions is p l)
unfolding positions Rising
positions-rising is p [] = tt
positions-rising is p (a ∷ l) = go (is a) (positions-rising is (suc p) l)
  where
    go : (t : Bool) → Rising (suc p) (positions is (suc p) l) → Rising p (cond t (p ∷ positions is (suc p) l) (positions is (suc p) l))
    go true r = (omega arith, r)
    go false r = rising-lower p (suc p) (positions is (suc p) l) (omega arith) r

-- ---- an entry's number

abbrev pub key_kind : Kind → Bool
key_kind Key = true
key_kind Golden = false
key_kind Show = false

pub number-kind : (e : Entry) → number e % 4 ≡ code e.kind
number-kind e = let k = code-small e.kind in omega arith

pub number-segment : (e : Entry) → number e / 4 ≡ e.segment
number-segment e = let k = code-small e.kind in omega arith

key-number : (e : Entry) → is_key_entry (number e) ≡ key_kind e.kind
key-number e = rw (number-kind e) (go e.kind)
  where
    go : (k : Kind) → eqb (code k) 0 ≡ key_kind k
    go Key = refl
    go Golden = refl
    go Show = refl

pub cues-are : (es : List Entry) → cues_of (map number es) ≡ positions (λ e. key_kind e.kind) 1 es
cues-are es = positions-map is_key_entry number 1 es ∙ positions-ext _ _ 1 es first (λ k w. key-number (get_or es k first))

-- ---- every

pub every-from : {A : Type 0} {P : A → Type 0} (l : List A) (d : A) → ((k : ℕ) → k < length l → P (get_or l k d)) → Every P l
every-from [] d h = nothing
every-from (x ∷ l) d h = also (h 0 (omega arith)) (every-from l d (λ k w. h (suc k) (omega arith)))
