-- What demand 3 needs of a list's entries, whatever blocks they come from: `Following`, and its consequences.
use Prim.Native.Nat.{ℕ, zero, suc, ◌+◌, ◌-◌, ◌≤◌, ◌<◌}
use native.Mathlib.Omega.{arith}
use mathlib.Core.Path.{◌≡◌, refl, sym, ap, subst, ◌∙◌}
use mathlib.Core.List.{List, [], ◌∷◌}
use mathlib.Core.Logic.{◌⊎◌, inl, inr}
use mathlib.Core.Bool.{Bool, true, false, cond}
use mathlib.Core.Option.{Option, none, some}
use lib.ListN.{length, get_or, take, length-take}
use lib.Seq.{get_or-take}
use lib.Dec.{ltb}
use borrow.Author.Tests.{ltb-true, ltb-false}
use Rattle.blocks.specs.Blocks.{Entry, total}
use Rattle.blocks.specs.declared.blocks.Kind.{Kind}
use Rattle.blocks.specs.declared.blocks.Kind.TheVariants.{Key, Golden, Show}
use Rattle.demand.specs.Kinds.{segment_behind}

abbrev pub entry : ℕ → Kind → Entry
entry i k = record { segment = i; kind = k }

abbrev pub first : Entry
first = entry 0 Key

-- ---- which entry may stand behind which

-- A golden stands directly behind a key, a show entry behind a golden or a show entry, of its own segment; a key anywhere.
-- So a list, and every segment in it, starts with a key.
abbrev pub Behind : Option Entry → ℕ → Kind → Type 0
Behind b i Key = Unit
Behind b i Golden = b ≡ some (entry i Key)
Behind b i Show = (b ≡ some (entry i Golden)) ⊎ (b ≡ some (entry i Show))

-- b: the entry before, if there is one
unfoldable pub Ordered : Option Entry → List Entry → Type 0
Ordered b [] = Unit
Ordered b (x ∷ xs) = (Behind b x.segment x.kind) × (Ordered (some x) xs)

-- the entries es are those of segments with the frames ns, or the first of them
pub record Following (ns : List ℕ) (es : List Entry) : Type 0 where
  pub within : length es ≤ total ns
  pub segments : (k : ℕ) → k < length es → (get_or es k first).segment ≡ segment_behind ns k
  pub order : Ordered none es

-- ---- the first of them

pub ordered-take : (b : Option Entry) (es : List Entry) (k : ℕ) → Ordered b es → Ordered b (take k es)
unfolding Ordered
ordered-take b es zero f = tt
ordered-take b [] (suc k) f = tt
ordered-take b (x ∷ es) (suc k) f = (f.0, ordered-take (some x) es k f.1)

pub following-take : {ns : List ℕ} {es : List Entry} → Following ns es → (k : ℕ) → Following ns (take k es)
following-take {es} l k =
    let n = length-take k es in
    record {
      within = omega (arith, l.within);
      segments = λ j h. ap (λ (x : Entry). x.segment) (get_or-take k es j first (omega arith)) ∙ l.segments j (omega arith);
      order = ordered-take none es k l.order;
    }

-- ---- a list starts with a key

pub first_key : (es : List Entry) → Ordered none es → (get_or es 0 first).kind ≡ Key
unfolding Ordered
first_key [] f = refl
first_key (x ∷ es) f = go x.kind f.0
  where
    go : (k : Kind) → Behind none x.segment k → k ≡ Key
    go Key b = refl
    go Golden b = cc
    go Show (inl b) = cc
    go Show (inr b) = cc

-- ---- whose segment a position is

pub segment-in : (ns : List ℕ) (k : ℕ) → k < total ns → segment_behind ns k < length ns
unfolding segment_behind total
segment-in [] k h = absurd (omega arith)
segment-in (m ∷ ns) k h = go (λ j w. segment-in ns j w) (ltb k m) refl
  where
    go : ((j : ℕ) → j < total ns → segment_behind ns j < length ns) → (t : Bool) → ltb k m ≡ t → cond t 0 (suc (segment_behind ns (k - m))) < suc (length ns)
    go more true e = omega arith
    go more false e = let w = ltb-false k m e in let ih = more (k - m) (omega arith) in omega arith

-- ---- every show entry follows its segment's golden, with show entries of that segment between

-- e gives the entry at each position: q holds the golden of segment i, and show entries of that segment stand between q and p
pub record Since (e : ℕ → Entry) (i q p : ℕ) : Type 0 where
  pub below : q < p
  pub golden : e q ≡ entry i Golden
  pub shows : (r : ℕ) → q < r → r < p → e r ≡ entry i Show

module _ (e : ℕ → Entry) where
  since-golden : (i p : ℕ) → e p ≡ entry i Golden → Since e i p (suc p)
  since-golden i p g = record { below = omega arith; golden = g; shows = λ r a b. absurd (omega arith) }

  since-show : (i q p : ℕ) → Since e i q p → e p ≡ entry i Show → Since e i q (suc p)
  since-show i q p s w = record { below = omega (arith, s.below); golden = s.golden; shows = λ r a b. go r a b (ltb r p) refl }
    where
      go : (r : ℕ) → q < r → r < suc p → (t : Bool) → ltb r p ≡ t → e r ≡ entry i Show
      go r a b true t = s.shows r a (ltb-true r p t)
      go r a b false t = let u = ltb-false r p t in let v : r ≡ p = omega arith in rw v w

  -- what is known of the golden, where a show entry may come next at position p
  abbrev Known : Option Entry → ℕ → Type 0
  Known b p = (i : ℕ) → Behind b i Show → (q : ℕ) × Since e i q p

  known-none : (p : ℕ) → Known none p
  known-none p i (inl b) = cc
  known-none p i (inr b) = cc

  known_next : (x : Entry) (p : ℕ) (b : Option Entry) → e p ≡ x → Known b p → Behind b x.segment x.kind → Known (some x) (suc p)
  known_next x p b at kn f i (inl g) = let v : x ≡ entry i Golden = cc in (p, since-golden i p (at ∙ v))
  known_next x p b at kn f i (inr g) =
      let v : x ≡ entry i Show = cc in
      let (q, s) = kn i (subst (λ (y : Entry). Behind b y.segment y.kind) v f) in
      (q, since-show i q p s (at ∙ v))

  led-from : (xs : List Entry) (p : ℕ) (b : Option Entry) → Ordered b xs → ((k : ℕ) → k < length xs → e (p + k) ≡ get_or xs k first)
      → Known b p → (k : ℕ) → k < length xs → (e (p + k)).kind ≡ Show → (q : ℕ) × Since e (e (p + k)).segment q (p + k)
  unfolding Ordered
  led-from [] p b f at kn k h w = absurd (omega arith)
  led-from (x ∷ xs) p b f at kn zero h w =
      let n : p + 0 ≡ p = omega arith in
      let a : e p ≡ x = ap e (omega arith) ∙ at 0 (omega arith) in
      let v : x.kind ≡ Show = ap (λ (y : Entry). y.kind) (sym a) ∙ (rw n at w) in
      rw (n, a) (kn x.segment (subst (λ (k : Kind). Behind b x.segment k) v f.0))
  led-from (x ∷ xs) p b f at kn (suc k) h w =
      let a : e p ≡ x = ap e (omega arith) ∙ at 0 (omega arith) in
      let n : p + suc k ≡ suc p + k = omega arith in
      rw n (led-from xs (suc p) (some x) f.1 (λ j b. ap e (omega arith) ∙ at (suc j) (omega arith)) (known_next x p b a kn f.0) k (omega arith) (rw n at w))

  -- the first entry stands at p
  pub show-led : (xs : List Entry) (p : ℕ) → Ordered none xs → ((k : ℕ) → k < length xs → e (p + k) ≡ get_or xs k first)
      → (k : ℕ) → k < length xs → (e (p + k)).kind ≡ Show → (q : ℕ) × Since e (e (p + k)).segment q (p + k)
  show-led xs p f at = led-from xs p none f at (known-none p)
