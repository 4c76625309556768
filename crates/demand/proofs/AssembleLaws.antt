-- What acceptance by assembly gives, under demand 3's premises: `acceptance-gives`.
use Prim.Native.Nat.{ℕ, zero, suc, ◌+◌, ◌^◌, ◌≤◌, ◌<◌}
use native.Mathlib.Omega.{arith}
use mathlib.Core.Path.{◌≡◌, refl, ap, ◌∙◌}
use mathlib.Core.List.{List, [], ◌∷◌}
use mathlib.Core.Bool.{Bool, true, false, cond as pick, ◌&&◌}
use mathlib.Core.Option.{Option, none, some}
use lib.ListN.{length, get_or}
use lib.Dec.{eqb, ltb}
use borrow.Author.Tests.{eqb-false, ltb-false, leb-true}
use Rattle.std.specs.Cmp.{first_so}
use Rattle.bitio.specs.Parse.{Answer, refused, accepted, and_next}
use Rattle.bitio.specs.Limits.{limit}
use Rattle.bitio.specs.Every.{Every}
use Rattle.bitio.specs.Every.Every.{nothing, also}
use Rattle.bitio.proofs.ParseLaws.{onto-is}
use Rattle.assemble.proofs.RenewLaws.{header_read}
use Rattle.obu.proofs.PlaceLaws.{part-short}
use Rattle.obu.specs.Obu.{Obu, obus}
use Rattle.obu.specs.Unit.{is_frame, has, last_payload, first_payload, of_unit, is_sequence}
use Rattle.header.specs.Sequence.{Sequence, parse_sequence}
use Rattle.header.specs.Support.{support}
use Rattle.header.specs.Timed.{is_timed}
use Rattle.emit.specs.Emit.{sequence_bytes}
use Rattle.frame.specs.FrameType.{is_key}
use Rattle.frame.specs.Frame.{parse_frame}
use Rattle.frame.specs.declared.frame_header.FrameInfo.{FrameInfo}
use Rattle.frame.specs.declared.frame_header.FrameHeaderInfo.{FrameHeaderInfo}
use Rattle.frame.specs.declared.frame_header.FrameHeaderInfo.TheVariants.{Existing, Frame}
use Rattle.blocks.specs.Blocks.{total}
use Rattle.blocks.specs.Numbers.{head_inside, rest, segment_count, is_whole}
use Rattle.pictures.specs.Segments.{Segment, frames_of, segment_in, segment_at, segments_from, segments_of}
use Rattle.pictures.specs.Prepare.{timed_sequence, effective, renewal, sent, key_ok, golden_flags, slot_of, Prepared, prepare}
use Rattle.pictures.specs.declared.settings.Settings.{Settings}
use Rattle.pictures.specs.Assemble.{Outcome, stopped, made, and_also, in_segment, overall, none_empty, sizes, same_bytes, same_header, same_headers, header_obu, prepare_all, Output, output_of, OutputRoom, output_fits, assembled, assemble}
use Rattle.player.proofs.StepLaws.{link}
use Rattle.frame.specs.UnitFrame.{unit_frame}
use Rattle.demand.specs.Premises.{list_header, Premise, Formed, InFields}
use Rattle.demand.proofs.HeaderLaws.{timed-short, timed-back, timed-fine}
use Rattle.demand.proofs.PlayerLaws.{sole-is}
use Rattle.demand.proofs.UnitLaws.{first-is, outgoing, ShortPayload, Out, goes-out}

-- ---- an accepted chain was accepted at each link

pub link-made : {A B R : Type 0} (t : Outcome A) (k : A → Outcome B) (b : B) → and_also t k ≡ made b → ((a : A) → t ≡ made a → k a ≡ made b → R) → R
unfolding and_also
link-made (made a) k b e f = f a refl e
link-made (stopped n i) k b e f = cc

of-segment : {A : Type 0} (i : ℕ) (t : Answer A) (a : A) → in_segment i t ≡ made a → t ≡ accepted a
unfolding in_segment
of-segment i (accepted x) a e = let z : x ≡ a = cc in rw z
of-segment i (refused n) a e = cc

-- ---- what the tests on frames let through

pub record KeyIs (y : FrameHeaderInfo) : Type 0 where
  pub info : FrameInfo
  pub is : y ≡ Frame info
  pub type : is_key info.frame_type ≡ true
  pub shown : info.show_frame ≡ true

key-is : (y : FrameHeaderInfo) (u : Unit) → key_ok y ≡ accepted u → KeyIs y
key-is (Existing i) u e = cc
key-is (Frame f) u e = go (is_key f.frame_type) refl f.show_frame refl e
  where
    go : (a : Bool) → is_key f.frame_type ≡ a → (b : Bool) → f.show_frame ≡ b → pick (a && b) (accepted tt) (refused 29) ≡ accepted u → KeyIs (Frame f)
    go true x true y e = record { info = f; is = refl; type = x; shown = y }
    go true x false y e = cc
    go false x b y e = cc

pub record GoldenIs (y : FrameHeaderInfo) (flags : ℕ) : Type 0 where
  pub info : FrameInfo
  pub is : y ≡ Frame info
  pub shown : info.show_frame ≡ true
  pub no_key : is_key info.frame_type ≡ false
  pub some-slot : 0 < info.refresh_frame_flags
  pub flags-are : flags ≡ info.refresh_frame_flags

golden-is : (y : FrameHeaderInfo) (n : ℕ) → golden_flags y ≡ accepted n → GoldenIs y n
golden-is (Existing i) n e = cc
golden-is (Frame f) n e = go f.show_frame refl (is_key f.frame_type) refl (eqb f.refresh_frame_flags 0) refl e
  where
    go : (w : Bool) → f.show_frame ≡ w → (a : Bool) → is_key f.frame_type ≡ a → (b : Bool) → eqb f.refresh_frame_flags 0 ≡ b
        → pick w (pick a (refused 32) (pick b (refused 33) (accepted f.refresh_frame_flags))) (refused 31) ≡ accepted n → GoldenIs (Frame f) n
    go true w false x false y e =
        let z : n ≡ f.refresh_frame_flags = cc in
        let k = eqb-false f.refresh_frame_flags 0 y in
        record { info = f; is = refl; shown = w; no_key = x; some-slot = omega arith; flags-are = z }
    go true w false x true y e = cc
    go true w true x b y e = cc
    go false w a x b y e = cc

-- ---- a segment

-- a unit of demand 3's kind, whose frame is x under the header q
pub record FrameSays (q : Sequence) (s u : List ℕ) (x : FrameHeaderInfo) : Type 0 where
  pub unit : Premise s u
  pub reads : parse_frame q (first_payload is_frame unit.held) ≡ accepted x

-- a segment x, and its units b as they go out; s is the sequence payload that goes out
pub record Paired (q : Sequence) (new : Option (List ℕ)) (s : List ℕ) (x : Segment) (b : Prepared) : Type 0 where
  pub key-sent : sent new x.key ≡ accepted b.key
  pub golden-sent : sent new x.golden ≡ accepted b.golden
  -- the key unit: a shown key, and a sequence header
  pub key-info : FrameInfo
  pub key : FrameSays q s b.key (Frame key-info)
  pub key-type : is_key key-info.frame_type ≡ true
  pub key-shown : key-info.show_frame ≡ true
  pub key-header : has is_sequence key.unit.held ≡ true
  -- the golden unit: shown, no key, refreshing something
  pub info : FrameInfo
  pub golden : FrameSays q s b.golden (Frame info)
  pub golden-frame : unit_frame true q x.golden ≡ accepted (Frame info)
  pub shown : info.show_frame ≡ true
  pub no_key : is_key info.frame_type ≡ false
  pub some-slot : 0 < info.refresh_frame_flags
  pub slot_is : b.slot ≡ slot_of info.refresh_frame_flags

-- a unit's first frame, where it has but one
first_reads : (q : Sequence) (s u : List ℕ) (x : FrameHeaderInfo) (w : Premise s u) → unit_frame false q u ≡ accepted x → parse_frame q (first_payload is_frame w.held) ≡ accepted x
unfolding unit_frame and_next
first_reads q s u x w e = rw (w.written.reads, sole-is false w.held w.single) at e

-- is its frame
pub frame_is : (q : Sequence) (s u : List ℕ) (x : FrameHeaderInfo) (w : Premise s u) → parse_frame q (first_payload is_frame w.held) ≡ accepted x → unit_frame true q u ≡ accepted x
unfolding unit_frame and_next
frame_is q s u x w e = rw (w.written.reads, sole-is true w.held w.single, e)

out-says : (q : Sequence) (s t u v : List ℕ) (x : FrameHeaderInfo) (w : Premise s u) → Out t w.held v → unit_frame false q u ≡ accepted x → FrameSays q t v x
out-says q s t u v x w o e = record { unit = o.unit; reads = rw o.frame (first_reads q s u x w e) }

-- units short enough to be written again
abbrev Rewritable : Segment → Type 0
Rewritable x = (length x.key < 2 ^ 56) × (length x.golden < 2 ^ 56)

-- a key with a sequence header
abbrev HasHeader : Segment → Type 0
HasHeader x = (os : List Obu) → obus x.key ≡ accepted os → has is_sequence os ≡ true

module _ (q : Sequence) (new : Option (List ℕ)) (s : List ℕ) (short : ShortPayload new) where
  paired : (x : Segment) (b : Prepared) → Rewritable x → (k : Premise s x.key) → (g : Premise s x.golden) → HasHeader x → prepare q new x ≡ accepted b → Paired q new (outgoing new s) x b
  unfolding prepare out-says
  paired x b l k g n e =
      link _ _ b e (λ u e₁ e. link _ _ b e (λ v e₂ e. link _ _ b e (λ y e₃ e. link _ _ b e (λ t e₄ e. link _ _ b e (λ z e₅ e. link _ _ b e (λ flags e₆ e.
      let i : record { key = u; golden = v; slot = slot_of flags } ≡ b = cc in
      let ku = goes-out s x.key u k new short l.0 e₁ in
      let gv = goes-out s x.golden v g new short l.1 e₂ in
      let ky = key-is y t e₄ in
      let gz = golden-is z flags e₆ in
      rw (← i)
      (record {
        key-sent = e₁;
        golden-sent = e₂;
        key-info = ky.info;
        key = out-says q s (outgoing new s) x.key u _ k ku (e₃ ∙ ap accepted ky.is);
        key-type = ky.type;
        key-shown = ky.shown;
        key-header = ku.header ∙ n k.held k.written.reads;
        info = gz.info;
        golden = out-says q s (outgoing new s) x.golden v _ g gv (e₅ ∙ ap accepted gz.is);
        golden-frame = frame_is q s x.golden _ g (first_reads q s x.golden _ g (e₅ ∙ ap accepted gz.is));
        shown = gz.shown;
        no_key = gz.no_key;
        some-slot = gz.some-slot;
        slot_is = ap slot_of gz.flags-are;
      })))))))

-- ---- the segments

-- each segment with its units as they go out
pub data Matches {A B : Type 0} (R : A → B → Type 0) : List A → List B → Type 0 where
  no_more : Matches R [] []
  and-more : {x : A} {b : B} {xs : List A} {bs : List B} → R x b → Matches R xs bs → Matches R (x ∷ xs) (b ∷ bs)

module _ {A B : Type 0} {R : A → B → Type 0} where
  pub matches-length : {xs : List A} {bs : List B} → Matches R xs bs → length bs ≡ length xs
  matches-length no_more = refl
  matches-length (and-more r m) = ap suc (matches-length m)

  pub matches-at : {xs : List A} {bs : List B} → Matches R xs bs → (i : ℕ) (x : A) (b : B) → i < length bs → R (get_or xs i x) (get_or bs i b)
  matches-at no_more i x b h = absurd (omega arith)
  matches-at (and-more r m) zero x b h = r
  matches-at (and-more r m) (suc i) x b h = matches-at m i x b (omega arith)

module _ (q : Sequence) (new : Option (List ℕ)) (s : List ℕ) (short : ShortPayload new) where
  paired-all : (i : ℕ) (xs : List Segment) (bs : List Prepared) → Every Rewritable xs → Every (λ x. Premise s x.key) xs → Every (λ x. Premise s x.golden) xs → Every HasHeader xs
      → prepare_all q new i xs ≡ made bs → Matches (Paired q new (outgoing new s)) xs bs
  unfolding prepare_all
  paired-all i [] bs nothing nothing nothing nothing e = let z : [] ≡ bs = cc in rw (← z) no_more
  paired-all i (x ∷ xs) bs (also l ls) (also k ks) (also g gs) (also n ns) e =
      link-made _ _ bs e (λ b e₁ e. link-made _ _ bs e (λ cs e₂ e.
      let z : b ∷ cs ≡ bs = cc in
      rw (← z) (and-more (paired q new s short x b l k g n (of-segment i _ b e₁)) (paired-all (suc i) xs cs ls ks gs ns e₂))))

-- later keys have a sequence header
has_last : (s : List ℕ) (os : List Obu) (u : Unit) → same_header s os ≡ accepted u → has is_sequence os ≡ true
has_last s os u e = go (has is_sequence os) refl e
  where
    go : (t : Bool) → has is_sequence os ≡ t → pick (t && same_bytes (last_payload is_sequence os) s) (accepted tt) (refused 27) ≡ accepted u → t ≡ true
    go true w e = refl
    go false w e = cc

later-headers : (s : List ℕ) (i : ℕ) (xs : List Segment) (u : Unit) → same_headers s i xs ≡ made u → Every HasHeader xs
unfolding same_headers
later-headers s i [] u e = nothing
later-headers s i (x ∷ xs) u e =
    link-made _ _ u e (λ a e₁ e.
    also {a = x} (link _ _ a (of-segment i _ a e₁) (λ os e₂ e₃ os' e₄. let z : os ≡ os' = cc in rw (← z) (has_last s os a e₃))) (later-headers s (suc i) xs u e))

-- ---- the sizes

record SizesOk (gop : ℕ) (ns : List ℕ) : Type 0 where
  gop-two : 2 ≤ gop
  total-two : 2 ≤ total ns

sizes-ok : (gop : ℕ) (ns : List ℕ) (u : Unit) → sizes gop ns ≡ made u → SizesOk gop ns
unfolding sizes
sizes-ok gop ns u e = go (ltb gop 2) refl (ltb (total ns) 2) refl e
  where
    go : (a : Bool) → ltb gop 2 ≡ a → (b : Bool) → ltb (total ns) 2 ≡ b
        → pick a (stopped 22 none) (pick b (stopped 23 none) (and_also (none_empty 0 ns) (λ _. pick (ltb 5000000 (total ns)) (stopped 25 none) (made tt)))) ≡ made u → SizesOk gop ns
    go false x false y e = record { gop-two = ltb-false gop 2 x; total-two = ltb-false (total ns) 2 y }
    go false x true y e = cc
    go true x b y e = cc

-- ---- the whole

-- the segments, ready to go out, whatever the blocks
pub record Boards (set : Settings) (xs : List Segment) : Type 0 where
  -- the list's sequence header as ordered
  pub first : Sequence
  pub first-is : parse_sequence (list_header xs) ≡ accepted first
  -- and as it goes out
  pub payload : List ℕ
  pub read : parse_sequence payload ≡ accepted (effective set first)
  pub supported : support (effective set first).header ≡ accepted tt
  -- the segments' units
  pub prepared : List Prepared
  pub pairs : Matches (Paired (effective set first) (renewal set first) payload) xs prepared

-- where what is handed out comes from
pub record Made (set : Settings) (xs : List Segment) : Type 0 where
  pub boards : Boards set xs
  pub gop-two : 2 ≤ set.gop
  pub total-two : 2 ≤ total (frames_of xs)
  pub obu : List ℕ

-- what is handed out
abbrev pub out : {set : Settings} {xs : List Segment} → Made set xs → Output
out {set} {xs} m = output_of set.gop (frames_of xs) m.obu m.boards.prepared

-- with timing, and without
outgoing-header : (set : Settings) → InFields set → (s : List ℕ) (q : Sequence) → parse_sequence s ≡ accepted q → support q.header ≡ accepted tt
    → (ShortPayload (renewal set q)) × (parse_sequence (outgoing (renewal set q) s) ≡ accepted (effective set q)) × (support (effective set q).header ≡ accepted tt)
outgoing-header set fields s q r f = go (is_timed q.header)
  where
    go : (t : Bool) → (ShortPayload (pick t none (some (sequence_bytes (timed_sequence set q)))))
        × (parse_sequence (outgoing (pick t none (some (sequence_bytes (timed_sequence set q)))) s) ≡ accepted (pick t q (timed_sequence set q)))
        × (support (pick t q (timed_sequence set q)).header ≡ accepted tt)
    go true = (tt, r, f)
    go false = (timed-short set fields s q r f, timed-back set fields s q r f, timed-fine set fields s q r f)

from-segments : (set : Settings) (xs : List Segment) (r : Output) → InFields set → Every Rewritable xs → Formed xs → assembled set xs ≡ made r → (m : Made set xs) × (out m ≡ r)
unfolding assembled
from-segments set [] r fields sh p e = let z : ◌≡◌ {A = ℕ} 0 1 = cc in absurd (omega arith)
from-segments set (x ∷ xs) r fields sh p e =
    link-made _ _ r e (λ u e₁ e. link-made _ _ r e (λ os e₂ e. link-made _ _ r e (λ o e₃ e. link-made _ _ r e (λ q e₄ e. link-made _ _ r e (λ w e₅ e. link-made _ _ r e (λ bs e₆ e.
    let s = list_header (x ∷ xs) in
    let f = first-is 26 is_sequence os o (of-segment 0 _ o e₃) in
    let h = of-segment 0 _ os e₂ in
    let i : s ≡ o.payload = ap (of_unit [] (first_payload is_sequence)) h ∙ f.payload in
    let hs : HasHeader x = λ os' k. (let z : os ≡ os' = cc in rw (← z) f.there) in
    let (a, b) = header_read o.payload q (of-segment 0 _ q e₄) in
    let a' : parse_sequence s ≡ accepted q = rw i a in
    let (n, c, d) = outgoing-header set fields s q a' b in
    let z = sizes-ok set.gop (frames_of (x ∷ xs)) u e₁ in (
      record {
        boards = record {
          first = q;
          first-is = a';
          payload = outgoing (renewal set q) s;
          read = c;
          supported = d;
          prepared = bs;
          pairs = paired-all (effective set q) (renewal set q) s n 0 (x ∷ xs) bs sh p.keys p.goldens (also hs (later-headers o.payload 1 xs w e₅)) e₆;
        };
        gop-two = z.gop-two;
        total-two = z.total-two;
        obu = header_obu (renewal set q) o;
      },
      cc,
    )))))))

-- ---- from the picture bytes and the numbers

abbrev SegmentWithin : ℕ → Segment → Type 0
SegmentWithin n x = (length x.key ≤ n) × (length x.golden ≤ n)

segment-short : (s rs : List ℕ) (x : Segment) → segment_at s rs ≡ accepted x → SegmentWithin (length s) x
unfolding segment_at
segment-short s rs x e = go (head_inside s rs) e
  where
    go : (t : Bool) → pick t (accepted (segment_in s rs)) (refused 36) ≡ accepted x → SegmentWithin (length s) x
    go true e = let z : segment_in s rs ≡ x = cc in rw (← z) (part-short s _ _, part-short s _ _)
    go false e = cc

from-short : (s : List ℕ) (k : ℕ) (rs : List ℕ) (xs : List Segment) → segments_from s k rs ≡ accepted xs → Every (SegmentWithin (length s)) xs
unfolding segments_from
from-short s zero rs xs e = let z : [] ≡ xs = cc in rw (← z) nothing
from-short s (suc k) rs xs e =
    link _ _ xs e (λ x e₁ e.
    let (m, a, b) = onto-is x (segments_from s k (rest rs)) xs e in
    rw b (also {a = x} (segment-short s rs x e₁) (from-short s k (rest rs) m a)))

segments-short : (s rs : List ℕ) (xs : List Segment) → segments_of s rs ≡ accepted xs → Every (SegmentWithin (length s)) xs
unfolding segments_of
segments-short s rs xs e = go (is_whole rs) e
  where
    go : (t : Bool) → pick t (segments_from s (segment_count rs) rs) (refused 36) ≡ accepted xs → Every (SegmentWithin (length s)) xs
    go true e = from-short s (segment_count rs) rs xs e
    go false e = cc

within-rewritable : (n : ℕ) → n ≤ limit → {xs : List Segment} → Every (SegmentWithin n) xs → Every Rewritable xs
within-rewritable n l nothing = nothing
within-rewritable n l (also {a = x} w ws) = also {a = x} (omega (arith, w.0), omega (arith, w.1)) (within-rewritable n l ws)

fits-limit : (room : OutputRoom) (r : Output) → output_fits room r ≡ true → length r.picture ≤ limit
unfolding output_fits
fits-limit room r e =
    let n : length r.picture + length r.shows + length r.header ≤ limit = leb-true _ limit (first_so _ _ (first_so _ _ (first_so _ _ (first_so _ _ (first_so _ _ (first_so _ _ e)))))) in
    omega arith

not-over : {A : Type 0} (n : ℕ) (k : Outcome A) (a : A) → pick (ltb limit n) (stopped 34 none) k ≡ made a → (n ≤ limit) × (k ≡ made a)
not-over n k a e = go (ltb limit n) refl e
  where
    go : (t : Bool) → ltb limit n ≡ t → pick t (stopped 34 none) k ≡ made a → (n ≤ limit) × (k ≡ made a)
    go true w e = cc
    go false w e = (ltb-false limit n w, e)

fitting : (t : Bool) (a b : Output) → pick t (made a) (stopped 35 none) ≡ made b → (t ≡ true) × (a ≡ b)
fitting true a b e = (refl, cc)
fitting false a b e = cc

module _ (room : OutputRoom) (set : Settings) (s rs : List ℕ) (xs : List Segment) (r : Output) where
  -- under demand 3's premises
  pub acceptance-gives : InFields set → segments_of s rs ≡ accepted xs → Formed xs → assemble room set s rs ≡ made r → (m : Made set xs) × (out m ≡ r) × (length r.picture ≤ limit)
  unfolding assemble overall
  acceptance-gives fields g p e =
      let (n, e) = not-over (length s) _ r e in
      link-made _ _ r e (λ ys e₁ e. link-made _ _ r e (λ r' e₂ e.
      let y : ys ≡ xs = cc in
      let (t, i) = fitting (output_fits room r') r' r e in
      let (m, o) = from-segments set xs r' fields (within-rewritable (length s) n (segments-short s rs xs g)) p (rw y at e₂) in
      (m, o ∙ i, rw i at (fits-limit room r' t))))
