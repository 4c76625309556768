-- Laws of the list and the cues laid out: what a block is, and what is left after a part of it.
use Prim.Native.Nat.{ℕ, zero, suc, ◌+◌, ◌*◌, ◌-◌, ◌%◌, ◌≤◌, ◌<◌, min}
use native.Mathlib.Omega.{arith}
use native.Mathlib.Numerals.{add-one}
use mathlib.Core.Path.{◌≡◌, refl, sym, ap, ap₂, subst, ◌∙◌}
use mathlib.Core.List.{List, [], ◌∷◌, ◌++◌}
use mathlib.Core.Bool.{Bool, true, false, not, cond as pick, ◌||◌}
use lib.ListN.{length, set, replicate, length-append, length-map}
use lib.Dec.{leb}
use borrow.Author.Tests.{le-leb}
use Rattle.bitio.specs.Lent.{pasted}
use Rattle.bitio.proofs.LentLaws.{pasted-nil, pasted-one, pasted-more, pasted_length, pasted-set}
use Rattle.blocks.proofs.BlockLaws.{length-block}
use Rattle.blocks.specs.Blocks.{Kind, Key, Show, code, block, blocks, positions, is_key_entry}
use Rattle.blocks.specs.declared.block.Block.{Block}
use Rattle.blocks.specs.declared.block.Blocks.{Blocks}
use Rattle.blocks.specs.code.Steps.{units_left, IsNext}
use Rattle.blocks.specs.code.Lay.{entries_of, cues_from, block_cue, CanLay, Laid}

-- ---- stores

-- two stores and what is put behind them
pub two-and-more : (d : List ℕ) (w x y : ℕ) (zs : List ℕ) → w + 2 + length zs ≤ length d
    → pasted (set (set d w x) (w + 1) y) (w + 2) zs ≡ pasted d w (x ∷ y ∷ zs)
two-and-more d w x y zs h =
    let a : set d w x ≡ pasted d w (x ∷ []) = pasted-one d w x (omega arith) in
    let b : set (pasted d w (x ∷ [])) (w + 1) y ≡ pasted d w (x ∷ y ∷ []) = pasted-set d w (x ∷ []) y (omega arith) in
    ap (λ (l : List ℕ). pasted (set l (w + 1) y) (w + 2) zs) a ∙ ap (λ (l : List ℕ). pasted l (w + 2) zs) b ∙ pasted-more d w (x ∷ y ∷ []) (omega arith) zs

-- ---- a block

pub entries-shows : (i n : ℕ) → entries_of i (replicate n Show) ≡ replicate n (i * 4 + 2)
entries-shows i zero = refl
entries-shows i (suc n) = ap (λ (l : List ℕ). (i * 4 + 2) ∷ l) (entries-shows i n)

pub block_one : (i n : ℕ) (key : Bool) → 1 ≤ n → n < 2 → (i * 4 + code (pick key Key Show)) ∷ [] ≡ entries_of i (block key n)
block_one i zero key h k = absurd (omega arith)
block_one i (suc zero) key h k = refl
block_one i (suc (suc n)) key h k = absurd (omega arith)

pub block_more : (i n : ℕ) (key : Bool) → 2 ≤ n → (i * 4) ∷ (i * 4 + 1) ∷ replicate (n - 2) (i * 4 + 2) ≡ entries_of i (block key n)
block_more i zero key h = absurd (omega arith)
block_more i (suc zero) key h = absurd (omega arith)
block_more i (suc (suc n)) key h =
    let e : i * 4 ≡ i * 4 + 0 = omega arith in
    let k : suc (suc n) - 2 ≡ n = omega arith in
    ap₂ (λ (x y : ℕ). x ∷ (i * 4 + 1) ∷ replicate y (i * 4 + 2)) e k ∙ ap (λ (l : List ℕ). (i * 4 + 0) ∷ (i * 4 + 1) ∷ l) (sym (entries-shows i n))

-- ---- a cue

module _ (key : Bool) (c at : ℕ) where
  pub cue-room : (n : ℕ) → key ≡ true → c + length (block_cue key at) ≤ n → c < n
  cue-room n e h = let k : length (block_cue key at) ≡ 1 = rw e in omega (arith, k)

  pub cue-put : (d : List ℕ) → key ≡ true → c < length d → set d c (at + 1) ≡ pasted d c (block_cue key at)
  cue-put d e h = rw e (ap (set d c) (add-one at) ∙ pasted-one d c (suc at) h)

  pub cue-none : (d : List ℕ) → key ≡ false → (d ≡ pasted d c (block_cue key at)) × (c ≡ c + length (block_cue key at))
  cue-none d e = rw e (sym (pasted-nil d c), omega arith)

-- ---- entries

pub length-entries : (i : ℕ) (ks : List Kind) → length (entries_of i ks) ≡ length ks
length-entries i ks = rw (length-map, length-map)

pub length-block-entries : (i n : ℕ) (key : Bool) → length (entries_of i (block key n)) ≡ n
length-block-entries i n key = length-entries i (block key n) ∙ length-block key n

-- ---- positions

pub positions-append : {A : Type 0} (is : A → Bool) (p : ℕ) (l m : List A) → positions is p (l ++ m) ≡ positions is p l ++ positions is (p + length l) m
unfolding positions
positions-append is p [] m = ap (λ (k : ℕ). positions is k m) (omega arith)
positions-append {A} is p (a ∷ l) m = go (positions-append is (suc p) l m) (is a)
  where
    go : positions is (suc p) (l ++ m) ≡ positions is (suc p) l ++ positions is (suc p + length l) m → (t : Bool)
        → pick t (p ∷ positions is (suc p) (l ++ m)) (positions is (suc p) (l ++ m))
        ≡ pick t (p ∷ positions is (suc p) l) (positions is (suc p) l) ++ positions is (p + suc (length l)) m
    go e t = let n : suc p + length l ≡ p + suc (length l) = omega arith in both (e ∙ ap (λ (k : ℕ). positions is (suc p) l ++ positions is k m) n) t
      where
        both : positions is (suc p) (l ++ m) ≡ positions is (suc p) l ++ positions is (p + suc (length l)) m → (t : Bool)
            → pick t (p ∷ positions is (suc p) (l ++ m)) (positions is (suc p) (l ++ m))
            ≡ pick t (p ∷ positions is (suc p) l) (positions is (suc p) l) ++ positions is (p + suc (length l)) m
        both e true = ap (λ (x : List ℕ). p ∷ x) e
        both e false = e

-- the cues of two runs of entries
pub cues-append : (p : ℕ) (xs ys : List ℕ) → cues_from p (xs ++ ys) ≡ cues_from p xs ++ cues_from (p + length xs) ys
cues-append p xs ys = positions-append is_key_entry (suc p) xs ys ∙ ap (λ (k : ℕ). cues_from p xs ++ positions is_key_entry k ys) (omega arith)

-- the front of what has room
pub can-front : {d e : List ℕ} {p c : ℕ} (xs ys : List ℕ) → CanLay d e p c (xs ++ ys) → CanLay d e p c xs
can-front {p} xs ys h =
    let a = length-append xs ys in
    let b = ap length (cues-append p xs ys) in
    let k = length-append (cues_from p xs) (cues_from (p + length xs) ys) in
    record { list = omega (arith, h.list, a); cues = omega (arith, h.cues, b, k); small = omega (arith, h.small, a) }

-- ---- laying out: what stands there, with what is left, is the whole

pub record Laying (d₀ e₀ : List ℕ) (p₀ c₀ : ℕ) (all : List ℕ) (d e : List ℕ) (p c : ℕ) (left : List ℕ) : Type 0 where
  pub can : CanLay d₀ e₀ p₀ c₀ all
  pub list : pasted d p left ≡ pasted d₀ p₀ all
  pub cues : pasted e c (cues_from p left) ≡ pasted e₀ c₀ (cues_from p₀ all)
  pub place : p + length left ≡ p₀ + length all
  pub next : c + length (cues_from p left) ≡ c₀ + length (cues_from p₀ all)
  pub list-len : length d ≡ length d₀
  pub cues-len : length e ≡ length e₀

pub laying-start : (d e : List ℕ) (p c : ℕ) (all : List ℕ) → CanLay d e p c all → Laying d e p c all d e p c all
laying-start d e p c all h = record { can = h; list = refl; cues = refl; place = refl; next = refl; list-len = refl; cues-len = refl }

module _ {d₀ e₀ : List ℕ} {p₀ c₀ : ℕ} {all d e : List ℕ} {p c : ℕ} where
  -- what is left has room
  pub laying-can : (left : List ℕ) → Laying d₀ e₀ p₀ c₀ all d e p c left → CanLay d e p c left
  laying-can left h =
      record {
        list = omega (arith, h.place, h.list-len, h.can.list);
        cues = omega (arith, h.next, h.cues-len, h.can.cues);
        small = omega (arith, h.place, h.can.small);
      }

  -- after the front
  pub laying-more : (xs ys d' e' : List ℕ) (c' : ℕ) → Laying d₀ e₀ p₀ c₀ all d e p c (xs ++ ys) → Laid d e d' e' p c c' xs → Laying d₀ e₀ p₀ c₀ all d' e' (p + length xs) c' ys
  laying-more xs ys d' e' c' h w =
      let r = can-front xs ys (laying-can (xs ++ ys) h) in
      let a = length-append xs ys in
      let b = cues-append p xs ys in
      let k = length-append (cues_from p xs) (cues_from (p + length xs) ys) in
      record {
        can = h.can;
        list = ap (λ (l : List ℕ). pasted l (p + length xs) ys) w.list ∙ pasted-more d p xs (omega (arith, r.list)) ys ∙ h.list;
        cues =
            ap₂ (λ (l : List ℕ) (n : ℕ). pasted l n (cues_from (p + length xs) ys)) w.cues w.next
            ∙ pasted-more e c (cues_from p xs) (omega (arith, r.cues)) (cues_from (p + length xs) ys) ∙ ap (pasted e c) (sym b) ∙ h.cues;
        place = omega (arith, h.place, a);
        next = omega (arith, h.next, w.next, ap length b, k);
        list-len = ap length w.list ∙ pasted_length d p xs r.list ∙ h.list-len;
        cues-len = ap length w.cues ∙ pasted_length e c (cues_from p xs) r.cues ∙ h.cues-len;
      }

  -- nothing is left
  pub laying-end : (left : List ℕ) → Laying d₀ e₀ p₀ c₀ all d e p c left → left ≡ [] → Laid d₀ e₀ d e p₀ c₀ c all
  unfolding positions
  laying-end left h z =
      let a : pasted d p [] ≡ pasted d₀ p₀ all = rw z at h.list in
      let b : pasted e c [] ≡ pasted e₀ c₀ (cues_from p₀ all) = rw z at h.cues in
      let k : c + 0 ≡ c₀ + length (cues_from p₀ all) = rw z at h.next in
      record { list = sym (pasted-nil d p) ∙ a; cues = sym (pasted-nil e c) ∙ b; next = omega (arith, k) }

-- ---- the blocks of a segment

pub blocks-none : (k gop : ℕ) (after : Bool) → blocks k gop after 0 ≡ []
unfolding blocks
blocks-none zero gop after = refl
blocks-none (suc k) gop after =
    let n : min 0 gop ≡ 0 = omega arith in
    rw n (blocks-none k gop (after || leb 2 0))

-- as many blocks as there are frames left are enough
blocks_enough : (k m gop : ℕ) (after : Bool) (left : ℕ) → 1 ≤ gop → left ≤ k → left ≤ m → blocks k gop after left ≡ blocks m gop after left
unfolding blocks
blocks_enough zero m gop after left g h w = let z : left ≡ 0 = omega arith in rw z (sym (blocks-none m gop after))
blocks_enough (suc k) zero gop after left g h w = let z : left ≡ 0 = omega arith in rw z (blocks-none (suc k) gop after)
blocks_enough (suc k) (suc m) gop after left g h w =
    let n = min left gop in
    ap (λ (l : List Kind). block (not after || leb 2 n) n ++ l) (blocks_enough k m gop (after || leb 2 n) (left - n) g (omega arith) (omega arith))

blocks_more : (gop left : ℕ) (after : Bool) → 1 ≤ gop → 1 ≤ left
    → blocks left gop after left
    ≡ block (not after || leb 2 (min left gop)) (min left gop) ++ blocks (left - min left gop) gop (after || leb 2 (min left gop)) (left - min left gop)
unfolding blocks
blocks_more gop zero after g h = absurd (omega arith)
blocks_more gop (suc k) after g h =
    let n = min (suc k) gop in
    ap (λ (l : List Kind). block (not after || leb 2 n) n ++ l) (blocks_enough k (suc k - n) gop (after || leb 2 n) (suc k - n) g (omega arith) (omega arith))

pub units_none : (s : Blocks) → s.left ≡ 0 → units_left s ≡ []
units_none s z = rw z (blocks-none 0 s.gop s.after)

module _ {s : Blocks} {b : Block} {t : Blocks} (n : IsNext s b t) where
  -- a block has some units, and leaves the others
  pub next-some : 1 ≤ b.size
  next-some = omega (arith, ap (λ (x : Block). x.size) n.is, n.some, s.some)

  pub next-left : b.size + t.left ≡ s.left
  next-left = omega (arith, ap (λ (x : Block). x.size) n.is, n.left)

  pub units_more : units_left s ≡ block b.key b.size ++ units_left t
  units_more = rw (n.gop, n.left, n.after, n.is) (blocks_more s.gop s.left s.after s.some n.some)

-- ---- a block's cue is the position of its key

cue-yes : (p x : ℕ) (l : List ℕ) → is_key_entry x ≡ true → cues_from p (x ∷ l) ≡ suc p ∷ cues_from (suc p) l
unfolding positions
cue-yes p x l e = rw e

cue-no : (p x : ℕ) (l : List ℕ) → is_key_entry x ≡ false → cues_from p (x ∷ l) ≡ cues_from (suc p) l
unfolding positions
cue-no p x l e = rw e

key-yes : (i : ℕ) → is_key_entry (i * 4 + 0) ≡ true
key-yes i = let e : (i * 4 + 0) % 4 ≡ 0 = omega arith in rw e

key-golden : (i : ℕ) → is_key_entry (i * 4 + 1) ≡ false
key-golden i = let e : (i * 4 + 1) % 4 ≡ 1 = omega arith in rw e

key-show : (i : ℕ) → is_key_entry (i * 4 + 2) ≡ false
key-show i = let e : (i * 4 + 2) % 4 ≡ 2 = omega arith in rw e

cues-none : (p : ℕ) → cues_from p [] ≡ []
unfolding positions
cues-none p = refl

cues-shows : (p i n : ℕ) → cues_from p (entries_of i (replicate n Show)) ≡ []
cues-shows p i zero = cues-none p
cues-shows p i (suc n) = cue-no p (i * 4 + 2) (entries_of i (replicate n Show)) (key-show i) ∙ cues-shows (suc p) i n

cues-more : (p i n : ℕ) (key : Bool) → cues_from p (entries_of i (block key (suc (suc n)))) ≡ suc p ∷ []
cues-more p i n key =
    cue-yes p (i * 4 + 0) ((i * 4 + 1) ∷ entries_of i (replicate n Show)) (key-yes i)
    ∙ ap (λ (l : List ℕ). suc p ∷ l) (cue-no (suc p) (i * 4 + 1) (entries_of i (replicate n Show)) (key-golden i) ∙ cues-shows (suc (suc p)) i n)

block-cue : (p i n : ℕ) (after : Bool) → 1 ≤ n → cues_from p (entries_of i (block (not after || leb 2 n) n)) ≡ block_cue (not after || leb 2 n) p
block-cue p i zero after h = absurd (omega arith)
block-cue p i (suc zero) true h = cue-no p (i * 4 + 2) [] (key-show i) ∙ cues-none (suc p)
block-cue p i (suc zero) false h = cue-yes p (i * 4 + 0) [] (key-yes i) ∙ ap (λ (l : List ℕ). suc p ∷ l) (cues-none (suc p))
block-cue p i (suc (suc n)) true h = rw (le-leb 2 (suc (suc n)) (omega arith)) (cues-more p i n true)
block-cue p i (suc (suc n)) false h = cues-more p i n false

pub next-cue : {s : Blocks} {b : Block} {t : Blocks} (p i : ℕ) → IsNext s b t → cues_from p (entries_of i (block b.key b.size)) ≡ block_cue b.key p
next-cue {s} {b} p i n =
    let k : b.key ≡ (not s.after || leb 2 b.size) =
    ap (λ (x : Block). x.key) n.is ∙ sym (ap (λ (x : Block). not s.after || leb 2 x.size) n.is) in
    ap (λ (t : Bool). cues_from p (entries_of i (block t b.size))) k ∙ block-cue p i b.size s.after (next-some n) ∙ sym (ap (λ (t : Bool). block_cue t p) k)

-- ---- a turn: one block of the segment

pub entries-append : (i : ℕ) (ks ms : List Kind) → entries_of i (ks ++ ms) ≡ entries_of i ks ++ entries_of i ms
entries-append i [] ms = refl
entries-append i (k ∷ ks) ms = ap (λ (l : List ℕ). (i * 4 + code k) ∷ l) (entries-append i ks ms)

-- what is left of a segment's blocks s₀, at s
pub record Segmenting (d₀ e₀ : List ℕ) (p₀ c₀ i : ℕ) (s₀ : Blocks) (d e : List ℕ) (p c : ℕ) (s : Blocks) : Type 0 where
  pub laying : Laying d₀ e₀ p₀ c₀ (entries_of i (units_left s₀)) d e p c (entries_of i (units_left s))

module _ {d₀ e₀ : List ℕ} {p₀ c₀ i : ℕ} {s₀ : Blocks} {d e : List ℕ} {p c : ℕ} {s : Blocks} (w : Segmenting d₀ e₀ p₀ c₀ i s₀ d e p c s) where
  pub segment-end : s.left ≡ 0 → Laid d₀ e₀ d e p₀ c₀ c (entries_of i (units_left s₀))
  segment-end z = laying-end (entries_of i (units_left s)) w.laying (ap (entries_of i) (units_none s z))

  module _ {b : Block} {t : Blocks} (n : IsNext s b t) where
    abbrev block_entries : List ℕ
    block_entries = entries_of i (block b.key b.size)

    abbrev later_entries : List ℕ
    later_entries = entries_of i (units_left t)

    block-split : entries_of i (units_left s) ≡ block_entries ++ later_entries
    block-split = ap (entries_of i) (units_more n) ∙ entries-append i (block b.key b.size) (units_left t)

    block_here : Laying d₀ e₀ p₀ c₀ (entries_of i (units_left s₀)) d e p c (block_entries ++ later_entries)
    block_here = rw (← block-split) w.laying

    block_room : CanLay d e p c block_entries
    block_room = can-front block_entries later_entries (laying-can (block_entries ++ later_entries) block_here)

    pub segment-list-room : p + b.size ≤ length d
    segment-list-room = omega (arith, block_room.list, length-block-entries i b.size b.key)

    pub segment-small : p + b.size < 4294967296
    segment-small = omega (arith, block_room.small, length-block-entries i b.size b.key)

    pub segment-cue-room : c + length (block_cue b.key p) ≤ length e
    segment-cue-room = omega (arith, block_room.cues, ap length (next-cue p i n))

    pub segment-turn : (d' e' : List ℕ) (c' : ℕ) → d' ≡ pasted d p block_entries → e' ≡ pasted e c (block_cue b.key p) → c' ≡ c + length (block_cue b.key p)
        → Segmenting d₀ e₀ p₀ c₀ i s₀ d' e' (p + b.size) c' t
    segment-turn d' e' c' x y k =
        let q = next-cue p i n in
        let v : Laid d e d' e' p c c' block_entries = record { list = x; cues = y ∙ ap (pasted e c) (sym q); next = omega (arith, k, ap length q) } in
        record {
          laying = subst (λ (m : ℕ). Laying d₀ e₀ p₀ c₀ (entries_of i (units_left s₀)) d' e' (p + m) c' later_entries) (length-block-entries i b.size b.key) (laying-more block_entries later_entries d' e' c' block_here v);
        }
