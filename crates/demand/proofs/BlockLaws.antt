-- The entries of segments one behind the other are `Following`, whatever their blocks, and so are today's.
use Prim.Native.Nat.{ℕ, zero, suc, ◌+◌, ◌-◌, ◌≤◌, ◌<◌, min}
use native.Mathlib.Omega.{arith}
use mathlib.Core.Path.{◌≡◌, refl, ap, subst, ◌∙◌}
use mathlib.Core.List.{List, [], ◌∷◌, ◌++◌, map}
use mathlib.Core.Logic.{◌⊎◌, inl, inr}
use mathlib.Core.Bool.{Bool, true, false, not, cond, ◌||◌}
use mathlib.Core.Option.{Option, none, some}
use lib.ListN.{length, get_or, replicate, length-append, length-map, get_or-append}
use lib.Seq.{get_or-append-add}
use lib.Dec.{leb, ltb}
use borrow.Author.Tests.{ltb-true, ltb-false}
use Rattle.bitio.specs.Every.{Every}
use Rattle.bitio.specs.Every.Every.{nothing, also}
use Rattle.blocks.proofs.BlockLaws.{length-blocks}
use Rattle.blocks.specs.Blocks.{block, blocks, kinds, Entry, layout, total}
use Rattle.blocks.specs.declared.blocks.Kind.{Kind}
use Rattle.blocks.specs.declared.blocks.Kind.TheVariants.{Key, Golden, Show}
use Rattle.demand.specs.Kinds.{segment_behind}
use Rattle.demand.proofs.Following.{entry, first, Behind, Ordered, Following}
use Rattle.std.proofs.lemmas.List.{get_or-map}

-- ---- one segment's units

-- a golden or a show unit, behind which a show unit may stand
abbrev pub Led : Option Kind → Type 0
Led b = (b ≡ some Golden) ⊎ (b ≡ some Show)

abbrev Next : Option Kind → Kind → Type 0
Next b Key = Unit
Next b Golden = b ≡ some Key
Next b Show = Led b

-- b: the unit before, if there is one in the segment
unfoldable pub proper : Option Kind → List Kind → Type 0
proper b [] = Unit
proper b (k ∷ ks) = (Next b k) × (proper (some k) ks)

-- ---- segments one behind the other, the first being segment i

unfoldable pub stacked : ℕ → List (List Kind) → List Entry
stacked i [] = []
stacked i (ks ∷ kss) = map (entry i) ks ++ stacked (suc i) kss

abbrev pub lengths : List (List Kind) → List ℕ
lengths kss = map (λ ks. length ks) kss

pub length-stacked : (i : ℕ) (kss : List (List Kind)) → length (stacked i kss) ≡ total (lengths kss)
unfolding stacked total
length-stacked i [] = refl
length-stacked i (ks ∷ kss) = rw (length-append, length-map, length-stacked (suc i) kss)

segment-is : (i : ℕ) (kss : List (List Kind)) (k : ℕ) (d : Entry) → k < total (lengths kss) → (get_or (stacked i kss) k d).segment ≡ i + segment_behind (lengths kss) k
unfolding stacked segment_behind total
segment-is i [] k d h = absurd (omega arith)
segment-is i (ks ∷ kss) k d h = go (λ j w. segment-is (suc i) kss j d w) (ltb k (length ks)) refl
  where
    size : length (map (entry i) ks) ≡ length ks
    size = length-map ks (entry i)

    go : ((j : ℕ) → j < total (lengths kss) → (get_or (stacked (suc i) kss) j d).segment ≡ suc i + segment_behind (lengths kss) j) → (t : Bool) → ltb k (length ks) ≡ t
        → (get_or (map (entry i) ks ++ stacked (suc i) kss) k d).segment ≡ i + cond t 0 (suc (segment_behind (lengths kss) (k - length ks)))
    go more true e =
        let w = ltb-true k (length ks) e in
        let x = get_or-append (map (entry i) ks) (stacked (suc i) kss) d k (omega (arith, size)) in
        let y = get_or-map (entry i) ks k Key d w in
        ap (λ (z : Entry). z.segment) (x ∙ y) ∙ omega arith
    go more false e =
        let w = ltb-false k (length ks) e in
        let n : k ≡ length (map (entry i) ks) + (k - length ks) = omega (arith, size) in
        let x = get_or-append-add (map (entry i) ks) (stacked (suc i) kss) (k - length ks) d in
        let ih = more (k - length ks) (omega arith) in
        ap (λ (j : ℕ). (get_or (map (entry i) ks ++ stacked (suc i) kss) j d).segment) n ∙ ap (λ (z : Entry). z.segment) x ∙ ih ∙ omega arith

-- b and b': the unit and the entry before
ordered-map : (i : ℕ) (ks : List Kind) (b : Option Kind) (b' : Option Entry) (rest : List Entry) → ((k : Kind) → b ≡ some k → b' ≡ some (entry i k))
    → proper b ks → ((c : Option Entry) → Ordered c rest) → Ordered b' (map (entry i) ks ++ rest)
unfolding proper Ordered
ordered-map i [] b b' rest l p h = h b'
ordered-map i (k ∷ ks) b b' rest l p h =
    (entry-behind k p.0, ordered-map i ks (some k) (some (entry i k)) rest (λ k' e. ap (λ (x : Option Kind). lift x) e) p.1 h)
  where
    lift : Option Kind → Option Entry
    lift none = none
    lift (some k) = some (entry i k)

    entry-behind : (k : Kind) → Next b k → Behind b' i k
    entry-behind Key n = tt
    entry-behind Golden n = l Key n
    entry-behind Show (inl n) = inl (l Golden n)
    entry-behind Show (inr n) = inr (l Show n)

ordered-stacked : (i : ℕ) (kss : List (List Kind)) → Every (proper none) kss → (b : Option Entry) → Ordered b (stacked i kss)
unfolding stacked Ordered
ordered-stacked i [] nothing b = tt
ordered-stacked i (ks ∷ kss) (also p ps) b =
    ordered-map i ks none b (stacked (suc i) kss) (λ k e. cc) p (ordered-stacked (suc i) kss ps)

-- where each segment's units are proper, all entries are
pub following-stacked : (kss : List (List Kind)) → Every (proper none) kss → Following (lengths kss) (stacked 0 kss)
following-stacked kss ps =
    let n = length-stacked 0 kss in
    record {
      within = omega arith;
      segments = λ k h. segment-is 0 kss k first (omega arith) ∙ omega arith;
      order = ordered-stacked 0 kss ps none;
    }

-- ---- blocks are proper

proper-shows : (c : ℕ) (b : Option Kind) (rest : List Kind) → Led b → ((b' : Option Kind) → Led b' → proper b' rest) → proper b (replicate c Show ++ rest)
unfolding proper
proper-shows zero b rest a h = h b a
proper-shows (suc c) b rest a h = (a, proper-shows c (some Show) rest (inr refl) h)

pub proper-block : (c : ℕ) (after : Bool) (b : Option Kind) (rest : List Kind) → (after ≡ true → Led b)
    → ((b' : Option Kind) → ((after || leb 2 c) ≡ true → Led b') → proper b' rest) → proper b (block (not after || leb 2 c) c ++ rest)
unfolding proper
proper-block zero true b rest a h = h b a
proper-block zero false b rest a h = h b a
proper-block (suc zero) true b rest a h = (a refl, h (some Show) (λ _. inr refl))
proper-block (suc zero) false b rest a h = (tt, h (some Key) (λ e. cc))
proper-block (suc (suc c)) after b rest a h = (tt, (refl, proper-shows c (some Golden) rest (inl refl) (λ b' w. h b' (λ _. w))))

-- ---- today's blocks

proper-blocks : (f gop : ℕ) (after : Bool) (left : ℕ) (b : Option Kind) → (after ≡ true → Led b) → proper b (blocks f gop after left)
unfolding blocks proper
proper-blocks zero gop after left b a = tt
proper-blocks (suc f) gop after left b a =
    let c = min left gop in
    proper-block c after b _ a (λ b' a'. proper-blocks f gop (after || leb 2 c) (left - c) b' a')

proper-kinds : (gop : ℕ) (ns : List ℕ) → Every (proper none) (map (kinds gop) ns)
proper-kinds gop [] = nothing
proper-kinds gop (n ∷ ns) = also (proper-blocks n gop false n none (λ e. cc)) (proper-kinds gop ns)

lengths-kinds : (gop : ℕ) (ns : List ℕ) → 1 ≤ gop → lengths (map (kinds gop) ns) ≡ ns
lengths-kinds gop [] g = refl
lengths-kinds gop (n ∷ ns) g = rw (length-blocks n gop false n g (omega arith), lengths-kinds gop ns g)

layout-stacked : (gop i : ℕ) (ns : List ℕ) → layout gop i ns ≡ stacked i (map (kinds gop) ns)
unfolding layout stacked
layout-stacked gop i [] = refl
layout-stacked gop i (n ∷ ns) = rw (layout-stacked gop (suc i) ns)

pub following-layout : (gop : ℕ) (ns : List ℕ) → 1 ≤ gop → Following ns (layout gop 0 ns)
following-layout gop ns g =
    subst (λ (l : List ℕ). Following l (layout gop 0 ns)) (lengths-kinds gop ns g)
    (rw (layout-stacked gop 0 ns) (following-stacked (map (kinds gop) ns) (proper-kinds gop ns)))
