-- An accepted scan agrees with frame header reading.
use Prim.Native.Nat.{ℕ, ◌+◌}
use mathlib.Core.Path.{◌≡◌, refl, sym, ap, ◌∙◌}
use mathlib.Core.List.{List}
use mathlib.Core.Bool.{Bool, true, false, not, ◌&&◌, cond as pick}
use lib.Dec.{eqb}
use Rattle.bitio.specs.Parse.{accepted}
use Rattle.bitio.specs.Bits.{Reading, fails, reads, and_then, read_bits}
use Rattle.syntax.specs.Syntax.{run}
use Rattle.bitio.specs.Fields.{answer_of}
use Rattle.header.specs.Sequence.{Sequence}
use Rattle.header.specs.Support.{has_point_info}
use Rattle.header.specs.declared.seq_header.Opening.{Opening}
use Rattle.header.specs.declared.seq_header.SequenceHeader.{SequenceHeader}
use Rattle.header.proofs.ReadLaws.{Holds, then-any}
use Rattle.frame.specs.FrameType.{frame_type_of}
use Rattle.frame.specs.Frame.{all_slots, modelled, removals, frame_start, frame_modes, frame_front, refresh_flags, frame_info, frame_bits, info_of, parse_frame}
use Rattle.frame.specs.declared.frame_header.FrameStart.{FrameStart}
use Rattle.frame.specs.declared.frame_header.FrameFront.{FrameFront}
use Rattle.frame.specs.declared.frame_header.FrameHeaderInfo.TheVariants.{Frame}
use Rattle.frame.proofs.FrameLaws.{header-bits}
use Rattle.geometry.specs.declared.slots.RefSlot.{RefSlot}
use Rattle.params.specs.Lossless.{sign_magnitude}
use Rattle.uheader.specs.Shape.{frame_shape}
use Rattle.uheader.specs.Scan.{scan_front, scan_rest, scan_header}
use Rattle.uheader.specs.declared.shape.Shape.{Shape}
use Rattle.uheader.specs.declared.scan.Rest.{Rest}
use Rattle.uheader.specs.declared.scan.HeaderScan.{HeaderScan}
use Rattle.uheader.proofs.ReadingLaws.{then-was, pick-was, parts}
use Rattle.uheader.proofs.GivesLaws.{sub-was, gives}

-- ---- temporal_point_info, refused or read over

-- what x reads, y does too, unless it is a frame that carries temporal_point_info
abbrev Strict : Opening → Reading FrameStart → Reading FrameStart → Type 0
Strict o x y = (f : FrameStart) (r : ℕ) → x ≡ reads f r → f.show_frame && has_point_info o ≡ false → y ≡ reads f r

then-strict : {A : Type 0} (o : Opening) (x : Reading A) (k k' : A → ℕ → Reading FrameStart)
    → ((a : A) (p : ℕ) → Strict o (k a p) (k' a p)) → Strict o (and_then x k) (and_then x k')
then-strict o (fails n) k k' g f r e h = e
then-strict o (reads a p) k k' g f r e h = g a p f r e h

held : {A : Type 0} (P : A → Type 0) (x : Reading A) {a : A} {r : ℕ} → Holds P x → x ≡ reads a r → P a
held P x h e = rw e at h

-- a refusal that the frame's own field rules out
refuse-strict : (o : Opening) (shown : Bool) (x : Reading FrameStart) → Holds (λ f. f.show_frame ≡ shown) x
    → Strict o x (pick (shown && has_point_info o) (fails 19) x)
refuse-strict o shown x told f r e h =
    let s : f.show_frame ≡ shown = held (λ (f : FrameStart). f.show_frame ≡ shown) x told e in
    let off : shown && has_point_info o ≡ false = ap (λ t. t && has_point_info o) (sym s) ∙ h in
    ap (λ t. pick t (fails 19) x) off ∙ e

start-strict : (s : List ℕ) (p : ℕ) (o : Opening) → Strict o (run (frame_start false o) s p) (run (frame_start true o) s p)
unfolding run frame_start
start-strict s p o =
    then-strict o (read_bits s p 2) _ _ (λ type p.
    then-strict o (read_bits s p 1) _ _ (λ shown p.
    refuse-strict o (eqb shown 1) _ (
    then-any (λ (f : FrameStart). f.show_frame ≡ eqb shown 1) (pick (eqb shown 1 && has_point_info o) (read_bits s p (o.model.frame_presentation_time_length_minus_1 + 1)) (reads 0 p)) _ (λ time p.
    then-any (λ (f : FrameStart). f.show_frame ≡ eqb shown 1) (pick (not (eqb shown 1)) (read_bits s p 1) (reads 0 p)) _ (λ showable p.
    then-any (λ (f : FrameStart). f.show_frame ≡ eqb shown 1) (pick (not (all_slots (frame_type_of type) (eqb shown 1))) (read_bits s p 1) (reads 0 p)) _ (λ resilient p.
    refl))))))

-- the same of all that stands before the removal times
front-strict : (s : List ℕ) (p : ℕ) (h : SequenceHeader) (x : FrameFront) (r : ℕ) → run (frame_front false h) s p ≡ reads x r
    → x.start.show_frame && has_point_info h.opening ≡ false → run (frame_front true h) s p ≡ reads x r
unfolding run frame_front
front-strict s p h x r e off =
    then-was (run (frame_start false h.opening) s p) _ e (λ f a g e.
    then-was (run (frame_modes h.coding f) s a) _ e (λ m b k e.
    let i : f ≡ x.start = cc in
    let t = start-strict s p h.opening f a g (ap (λ (y : FrameStart). y.show_frame && has_point_info h.opening) i ∙ off) in
    rw (t, k) e))

-- ---- the scan and the reading

-- the flags of a scan are those that frame header reading reads
pub flags-read : (h : SequenceHeader) (n : ℕ) (slots : List RefSlot) (s : List ℕ) (x : FrameFront) (p : ℕ) (y : Rest) (e : ℕ) → run (scan_rest sign_magnitude h n slots x) s p ≡ reads y e
    → {C : Type 0} → ((r : ℕ) → run (refresh_flags h.opening.model n x.start) s p ≡ reads y.shape.refresh_frame_flags r → C) → C
unfolding scan_rest frame_shape
flags-read h n slots s x p y e was k =
    sub-was (frame_shape h n slots x) _ _ s p was (λ z a g was.
    sub-was (refresh_flags h.opening.model n x.start) _ _ s p g (λ flags c m g.
    let i : z ≡ y.shape = gives (λ (r : Rest). z ≡ r.shape) _ (λ last q. refl) s a was in
    let j : z.refresh_frame_flags ≡ flags = gives (λ (z : Shape). z.refresh_frame_flags ≡ flags) _ (λ hints refs size intrabc fine disable. refl) s c g in
    k c (m ∙ ap (λ v. reads v c) (sym j ∙ ap (λ (z : Shape). z.refresh_frame_flags) i))))

module _ (q : Sequence) (slots : List RefSlot) (s : List ℕ) where
  abbrev h : SequenceHeader
  h = q.header

  read-frame : {existing p insert t flags : ℕ} {front : FrameFront}
      → h.opening.reduced_still_picture_header ≡ false → h.coding.ids.frame_id_numbers_present ≡ false
      → read_bits s 0 1 ≡ reads existing p → eqb existing 1 ≡ false
      → run (frame_front true h) s p ≡ reads front insert → run (refresh_flags h.opening.model (removals modelled q) front.start) s insert ≡ reads flags t
      → parse_frame q s ≡ accepted (Frame (info_of front flags))
  unfolding parse_frame frame_bits frame_info run
  read-frame full ids a b c d = ap answer_of (header-bits modelled s 0 q full ids) ∙ rw (a, b, c, d)

  -- unless it is shown and carries temporal_point_info, which the scan reads over and frame header reading refuses with 19
  pub agrees : (x : HeaderScan) → scan_header h (removals modelled q) slots s ≡ accepted x → x.frame.show_frame && has_point_info h.opening ≡ false
      → parse_frame q s ≡ accepted (Frame x.frame)
  unfolding run scan_front
  agrees x e off =
      let ps = parts h (removals modelled q) slots s x e in
      then-was (read_bits s 0 1) _ ps.front_read (λ existing p g e.
      pick-was (eqb existing 1) 42 _ e (λ none e.
      then-was (run (frame_front false h) s p) _ e (λ front r lax e.
      let i : front ≡ ps.front = cc in
      let j : r ≡ x.removal_insert_pos = cc in
      let here : run (frame_front false h) s p ≡ reads ps.front x.removal_insert_pos = lax ∙ ap (λ y. reads y r) i ∙ ap (reads ps.front) j in
      let shown : x.frame.show_frame ≡ ps.front.start.show_frame = ap (λ (y : HeaderScan). y.frame.show_frame) ps.same in
      let strict = front-strict s p h ps.front _ here (ap (λ t. t && has_point_info h.opening) (sym shown) ∙ off) in
      flags-read h (removals modelled q) slots s ps.front _ ps.rest _ ps.rest_read (λ t flags.
      read-frame ps.full ps.idless g none strict flags ∙ ap (λ (y : HeaderScan). accepted (Frame y.frame)) (sym ps.same)))))
