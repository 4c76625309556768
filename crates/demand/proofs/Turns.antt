-- One turn of a course, and every course: the units of a list of whatever blocks, played from a cue on.
use Prim.Native.Nat.{ℕ, suc, ◌+◌, ◌-◌, ◌≤◌, ◌<◌}
use native.Mathlib.Omega.{arith}
use mathlib.Core.Path.{◌≡◌, refl, sym, ap, subst, ◌∙◌}
use mathlib.Core.List.{List, [], map, Memᴰ}
use mathlib.Core.Logic.{◌↔◌}
use mathlib.Core.Bool.{Bool, true, false}
use mathlib.Core.Option.{Option, some}
use lib.ListN.{length, get_or, drop, length-map, length-drop}
use lib.Seq.{drop-cons}
use lib.Dec.{ltb}
use borrow.Author.Tests.{ltb-true, ltb-false}
use Rattle.std.proofs.lemmas.List.{get_or-map}
use Rattle.bitio.specs.Parse.{accepted, and_next}
use Rattle.bitio.specs.Limits.{limit}
use Rattle.bitio.specs.Every.{Every}
use Rattle.obu.specs.Unit.{first_payload, of_unit, is_sequence, sequence_payload}
use Rattle.header.specs.Sequence.{Sequence, parse_sequence}
use Rattle.header.specs.Support.{support}
use Rattle.frame.specs.declared.frame_header.FrameHeaderInfo.{FrameHeaderInfo}
use Rattle.frame.specs.declared.frame_header.FrameHeaderInfo.TheVariants.{Existing}
use Rattle.blocks.specs.Blocks.{Entry, number, positions, cues_of, is_key_entry}
use Rattle.blocks.specs.declared.blocks.Kind.{Kind}
use Rattle.blocks.specs.declared.blocks.Kind.TheVariants.{Key, Golden, Show}
use Rattle.pictures.specs.Segments.{Segment, frames_of}
use Rattle.pictures.specs.Prepare.{effective, renewal, Prepared, show_unit}
use Rattle.pictures.specs.declared.settings.Settings.{Settings}
use Rattle.pictures.specs.Assemble.{picture_of, ends_from, shows_of, named}
use Rattle.frame.specs.UnitFrame.{unit_frame}
use Rattle.frame.specs.Refresh.{refresh}
use Rattle.player.specs.Player.{Held, empty, filled, State, start, play, state_after}
use Rattle.demand.specs.Kinds.{unit_kind, says_key, is_key_unit, unit_at, segment_of}
use Rattle.demand.specs.Premises.{Premise}
use Rattle.demand.specs.Courses.{Course, done, plays, noise, Throughout}
use Rattle.demand.specs.Demand.{Rising, empty_segment, IsUnit, Listed, PlaysRight}
use Rattle.demand.proofs.Following.{entry, first, Following, first_key, segment-in, Since, show-led}
use Rattle.demand.proofs.ListLaws.{map_both, key_kind, positions-map, positions-ext, positions-pass, pass-positions, Passes, positions-rising, cues-are, every-from}
use Rattle.demand.proofs.HandedLaws.{no_units, unit_of, unit_by, UnitsWithin, named-is}
use Rattle.frame.proofs.FrameLaws.{flags-lt, shown-showable}
use Rattle.frame.proofs.FrameShowLaws.{supported-show}
use Rattle.frame.proofs.RefreshLaws.{length-refresh}
use Rattle.pictures.proofs.SlotLaws.{Refreshed, slot-refreshed}
use Rattle.demand.proofs.PlayerLaws.{filled_at, keep_same, keep-first, play-is}
use Rattle.demand.proofs.UnitLaws.{first-same, show-unit, show-payload}
use Rattle.demand.proofs.AssembleLaws.{FrameSays, Paired, frame_is, matches-length, matches-at, Boards}

-- ---- one segment's units

-- what a unit's bytes say
says-frame : {q : Sequence} {s u : List ℕ} {x : FrameHeaderInfo} → FrameSays q s u x → unit_frame true q u ≡ accepted x
says-frame {q} {s} {u} {x} w = frame_is q s u x w.unit w.reads

module _ {q : Sequence} {new : Option (List ℕ)} {s : List ℕ} {x : Segment} {b : Prepared} (ok : Paired q new s x b) where
  flags-small : ok.info.refresh_frame_flags < 256
  flags-small = flags-lt q _ ok.golden.reads

  -- the golden refreshes the slot that the show units name
  refreshed : Refreshed ok.info.refresh_frame_flags
  refreshed = slot-refreshed ok.info.refresh_frame_flags ok.some-slot flags-small

  slot_small : b.slot < 8
  slot_small = rw ok.slot_is refreshed.below

  show-says : support q.header ≡ accepted tt → FrameSays q s (show_unit b.slot) (Existing b.slot)
  show-says f = record { unit = show-unit s b.slot; reads = rw (show-payload s b.slot) (supported-show q f b.slot slot_small []) }

  kind-says : support q.header ≡ accepted tt → (k : Kind) → unit_kind q (unit_of k b) ≡ accepted k
  unfolding unit_kind and_next
  kind-says f Key = rw (says-frame ok.key, ok.key-type, ok.key-shown)
  kind-says f Golden = rw (says-frame ok.golden, ok.no_key)
  kind-says f Show = rw (says-frame (show-says f))

  -- each is a unit of demand 3's kind
  pub kind-unit : (k : Kind) → Premise s (unit_of k b)
  kind-unit Key = ok.key.unit
  kind-unit Golden = ok.golden.unit
  kind-unit Show = show-unit s b.slot

  -- ---- the outcome of a play

  module _ (read : parse_sequence s ≡ accepted q) (fine : support q.header ≡ accepted tt) where
    play-key : length b.key ≤ limit → (st : State) (p : ℕ) → play st p b.key
        ≡ accepted (record { shown = some p; state = record { slots = refresh ok.key-info.refresh_frame_flags (filled p ok.key-info.showable_frame true) st.slots; kept = some q } })
    play-key n st p =
        let w = ok.key.unit in
        play-is st p b.key w.held q _ _ n w.written.reads (keep-first s q read fine st.kept w.same ok.key-header) w.single ok.key.reads refl
        ∙ rw (ok.key-shown, ok.key-type)

    play-golden : length b.golden ≤ limit → (st : State) (p : ℕ) → st.kept ≡ some q → play st p b.golden
        ≡ accepted (record { shown = some p; state = record { slots = refresh ok.info.refresh_frame_flags (filled p true false) st.slots; kept = some q } })
    play-golden n st p k =
        let w = ok.golden.unit in
        play-is st p b.golden w.held q _ _ n w.written.reads (rw k (keep_same s q read fine w.same)) w.single ok.golden.reads refl
        ∙ rw (ok.shown, shown-showable q _ ok.golden.reads ok.shown ok.no_key, ok.no_key)

    play-show : (st : State) (p o : ℕ) → st.kept ≡ some q → get_or st.slots b.slot empty ≡ filled o true false
        → play st p (show_unit b.slot) ≡ accepted (record { shown = some o; state = record { slots = st.slots; kept = some q } })
    play-show st p o k e =
        let w = (show-says fine).unit in
        play-is st p (show_unit b.slot) w.held q _ _ (omega arith) w.written.reads (rw k (keep_same s q read fine w.same)) w.single (show-says fine).reads (rw e)

  -- a golden fills the slot that its segment's show units name
  golden-fills : (p : ℕ) (ss : List Held) → length ss ≡ 8 → get_or (refresh ok.info.refresh_frame_flags (filled p true false) ss) b.slot empty ≡ filled p true false
  golden-fills p ss n =
      rw ok.slot_is (filled_at _ _ (filled p true false) ss (rw n refreshed.below) refreshed.set)

-- ---- goldens and keys among the entries

-- an open end one further: o is the last, or the last is a show entry of the same segment
since-last : (e : ℕ → Entry) {R : Type 0} (i o p : ℕ) → Since e i o (suc p) → (o ≡ p → e p ≡ entry i Golden → R) → (Since e i o p → e p ≡ entry i Show → R) → R
since-last e {R} i o p s a b = go (ltb o p) refl
  where
    go : (t : Bool) → ltb o p ≡ t → R
    go true w =
        let v = ltb-true o p w in
        b (record { below = v; golden = s.golden; shows = λ r x y. s.shows r x (omega arith) }) (s.shows p v (omega arith))
    go false w =
        let v = ltb-false o p w in
        let n : o ≡ p = omega (arith, s.below) in
        a n (rw (← n) s.golden)

-- from the golden up to a show entry there is no key
no-key-since : (e : ℕ → Entry) (i o p c : ℕ) → Since e i o p → (e p).kind ≡ Show → o ≤ c → c ≤ p → (e c).kind ≡ Key → ⊥
no-key-since e i o p c s w a b k = go (ltb o c) refl (ltb c p) refl
  where
    go : (t : Bool) → ltb o c ≡ t → (t' : Bool) → ltb c p ≡ t' → ⊥
    go true x true y = let v = s.shows c (ltb-true o c x) (ltb-true c p y) in cc
    go true x false y =
        let l = ltb-false c p y in
        let n : c ≡ p = omega arith in
        cc
    go false x t' y =
        let l = ltb-false o c x in
        let n : c ≡ o = omega arith in
        let v : e c ≡ entry i Golden = rw n s.golden in
        cc

-- so a key at or before a show entry lies before its golden
key-before : (e : ℕ → Entry) (i o p c : ℕ) → Since e i o p → (e p).kind ≡ Show → c ≤ p → (e c).kind ≡ Key → c < o
key-before e i o p c s w b k = go (ltb c o) refl
  where
    go : (t : Bool) → ltb c o ≡ t → c < o
    go true t = ltb-true c o t
    go false t = absurd (no-key-since e i o p c s w (ltb-false c o t) b k)

kind-key : (k : Kind) → key_kind k ≡ true → k ≡ Key
kind-key Key e = refl
kind-key Golden e = cc
kind-key Show e = cc

key-says : (k : Kind) → says_key (accepted k) ≡ key_kind k
key-says Key = refl
key-says Golden = refl
key-says Show = refl

-- ---- the list

-- es: the entries, whatever their blocks
module _ (set : Settings) (xs : List Segment) (m : Boards set xs) (short : UnitsWithin limit m.prepared) (es : List Entry) (follows : Following (frames_of xs) es) where
  abbrev q : Sequence
  q = effective set m.first

  abbrev ns : List ℕ
  ns = frames_of xs

  -- the entries' units
  abbrev us : List (List ℕ)
  us = map (unit_by m.prepared) es

  abbrev cues : List ℕ
  cues = cues_of (map number es)

  abbrev U : ℕ → List ℕ
  U = unit_at us

  -- the entry at a position
  abbrev E : ℕ → Entry
  E p = get_or es (p - 1) first

  abbrev segment_units : ℕ → Prepared
  segment_units i = get_or m.prepared i no_units

  pub length-units : length us ≡ length es
  length-units = length-map es (unit_by m.prepared)

  length-prepared : length m.prepared ≡ length ns
  length-prepared = matches-length m.pairs ∙ sym (length-map xs (λ x. x.frames))

  module _ (p : ℕ) (lo : 1 ≤ p) (hi : p ≤ length es) where
    entry-is : get_or (map number es) (p - 1) 0 ≡ number (E p)
    entry-is = get_or-map number es (p - 1) first 0 (omega arith)

    segment-here : (E p).segment ≡ segment_of ns p
    segment-here = follows.segments (p - 1) (omega arith)

    in_list : (E p).segment < length m.prepared
    in_list = omega (arith, segment-here, segment-in ns (p - 1) (omega (arith, follows.within)), length-prepared)

    unit-is : U p ≡ unit_of (E p).kind (segment_units (E p).segment)
    unit-is = get_or-map (unit_by m.prepared) es (p - 1) first [] (omega arith)

    ok : Paired q (renewal set m.first) m.payload (get_or xs (E p).segment empty_segment) (segment_units (E p).segment)
    ok = matches-at m.pairs (E p).segment empty_segment no_units in_list

    size_ok : (length (segment_units (E p).segment).key ≤ limit) × (length (segment_units (E p).segment).golden ≤ limit)
    size_ok = short (E p).segment in_list

    kind-is : unit_kind q (U p) ≡ accepted (E p).kind
    kind-is = rw unit-is (kind-says ok m.supported (E p).kind)

    unit-of : (k : Kind) → (E p).kind ≡ k → U p ≡ unit_of k (segment_units (E p).segment)
    unit-of k e = unit-is ∙ rw e

    led : (E p).kind ≡ Show → (o : ℕ) × Since E (E p).segment o p
    led w =
        let n : 1 + (p - 1) ≡ p = omega arith in
        rw n at (show-led E es 1 follows.order (λ k b. ap (λ (j : ℕ). get_or es j first) (omega arith)) (p - 1) (omega arith) (rw n w))

    -- the unit as part 1 has it
    is-unit : (k : Kind) → IsUnit set m.first k (get_or xs (E p).segment empty_segment) (unit_of k (segment_units (E p).segment))
    is-unit Key = ok.key-sent
    is-unit Golden = ok.golden-sent
    is-unit Show = (ok.info, ok.golden-frame, ap show_unit ok.slot_is)

    pub listed : Listed set m.first xs (record { list = map number es; cues = cues; units = us }) p
    listed =
        record {
          kind = (E p).kind;
          entry = entry-is ∙ ap (λ (i : ℕ). number (record { segment = i; kind = (E p).kind })) segment-here;
          bytes = subst (λ (i : ℕ). IsUnit set m.first (E p).kind (get_or xs i empty_segment) (U p)) segment-here (rw unit-is (is-unit (E p).kind));
          says = kind-is;
        }

  -- the units are those that the entries name in what is handed out
  pub named-units : map (named (picture_of m.prepared) (ends_from 0 m.prepared) (shows_of m.prepared)) (map number es) ≡ us
  named-units =
      map_both (named (picture_of m.prepared) (ends_from 0 m.prepared) (shows_of m.prepared)) number (unit_by m.prepared) es first
      (λ k h.
      let n : suc k - 1 ≡ k = omega arith in
      rw n at (named-is m.prepared (E (suc k)) (in_list (suc k) (omega arith) (omega arith))))

  -- every unit of the list is one of demand 3's kind
  pub all-units : Every (Premise m.payload) us
  all-units =
      every-from us [] (λ k h.
      let hi : suc k ≤ length es = omega (arith, length-units) in
      let n : suc k - 1 ≡ k = omega arith in
      rw n at (rw (← unit-is (suc k) (omega arith) hi) at (kind-unit (ok (suc k) (omega arith) hi) (E (suc k)).kind)))

  -- ---- the cues

  pub cue-is : cues ≡ positions (is_key_unit q) 1 us
  cue-is =
      cues-are es
      ∙ positions-ext (λ e. key_kind e.kind) (λ e. is_key_unit q (unit_by m.prepared e)) 1 es first
      (λ k w.
      let n : suc k - 1 ≡ k = omega arith in
      let y = kind-says (ok (suc k) (omega arith) (omega arith)) m.supported (E (suc k)).kind in
      let z = ap says_key y ∙ key-says (E (suc k)).kind in
      sym (rw n at z))
      ∙ sym (positions-map (is_key_unit q) (unit_by m.prepared) 1 es)

  key-at : (c : ℕ) → Memᴰ c cues → Passes (λ e. key_kind e.kind) 1 es first c
  key-at c k = positions-pass (λ e. key_kind e.kind) 1 es first c (rw (cues-are es) at k)

  pub exactly : (c : ℕ) → Memᴰ c cues ↔ ((1 ≤ c) × (c ≤ length es) × (unit_kind q (U c) ≡ accepted Key))
  exactly c = (there, back)
    where
      there : Memᴰ c cues → (1 ≤ c) × (c ≤ length es) × (unit_kind q (U c) ≡ accepted Key)
      there k =
          let w = key-at c k in
          let hi : c ≤ length es = omega (arith, w.high) in
          (w.low, hi, kind-is c w.low hi ∙ ap accepted (kind-key (E c).kind w.holds))

      back : (1 ≤ c) × (c ≤ length es) × (unit_kind q (U c) ≡ accepted Key) → Memᴰ c cues
      back (lo, hi, k) =
          let w = kind-is c lo hi in
          let v : (E c).kind ≡ Key = cc in
          rw (cues-are es) (pass-positions (λ e. key_kind e.kind) 1 es first c (record { low = lo; high = omega arith; holds = ap key_kind v }))

  -- position 1 is a cue
  pub starts : 1 ≤ length es → Memᴰ 1 cues
  starts h = (exactly 1).1 (omega arith, h, kind-is 1 (omega arith) h ∙ ap accepted (first_key es follows.order))

  -- a cue's unit has the list's sequence header
  pub carries : (c : ℕ) → Memᴰ c cues → parse_sequence (sequence_payload (U c)) ≡ accepted q
  carries c k =
      let w = key-at c k in
      let hi : c ≤ length es = omega (arith, w.high) in
      let u = unit-of c w.low hi Key (kind-key (E c).kind w.holds) in
      let b = ok c w.low hi in
      let v = b.key.unit in
      ap (λ (x : List ℕ). parse_sequence (sequence_payload x)) u
      ∙ ap (λ x. parse_sequence (of_unit [] (first_payload is_sequence) x)) v.written.reads
      ∙ ap parse_sequence (first-same m.payload v.same b.key-header)
      ∙ m.read

  pub rising : Rising 1 cues
  rising = positions-rising is_key_entry 1 (map number es)

  -- ---- one turn

  -- what holds before U_p is played, in a course from the cue c: the golden since the last key is in its slot
  record Inv (c p : ℕ) (st : State) : Type 0 where
    from : c ≤ p
    size : length st.slots ≡ 8
    kept : c < p → st.kept ≡ some q
    golden-in : (i o : ℕ) → c ≤ o → Since E i o p → get_or st.slots (segment_units i).slot empty ≡ filled o true false

  record Turn (c p : ℕ) (st : State) : Type 0 where
    right : PlaysRight set m.first xs us c p st
    next : Inv c (suc p) right.after

  module _ (c p : ℕ) (st : State) (lo : 1 ≤ c) (hi : p ≤ length es) (cue : (E c).kind ≡ Key) (inv : Inv c p st) where
    lo' : 1 ≤ p
    lo' = omega (arith, inv.from)

    turn-key : (E p).kind ≡ Key → Turn c p st
    turn-key k =
        let u = unit-of p lo' hi Key k in
        let b = ok p lo' hi in
        record {
          right = record {
            kind = Key;
            says = rw (← k) (kind-is p lo' hi);
            shown = p;
            after = _;
            answer = ap (λ (v : List ℕ). play st p v) u ∙ (play-key b m.read m.supported (size_ok p lo' hi).0 st p);
            right = refl;
          };
          next = record {
            from = omega (arith, inv.from);
            size = length-refresh _ _ st.slots ∙ inv.size;
            kept = λ _. refl;
            golden-in = λ i o h s. since-last E i o p s
                (λ _ e. cc)
                (λ _ e. cc);
          };
        }

    -- after the cue, where the unit is no key
    later : (k : Kind) → key_kind k ≡ false → (E p).kind ≡ k → c < p
    later k n e = go (ltb c p) refl
      where
        go : (t : Bool) → ltb c p ≡ t → c < p
        go true t = ltb-true c p t
        go false t =
            let l = ltb-false c p t in
            let v : p ≡ c = omega (arith, inv.from) in
            let w : (E p).kind ≡ Key = rw v cue in
            let y : key_kind Key ≡ false = ap key_kind (sym w ∙ e) ∙ n in
            cc

    turn-golden : (E p).kind ≡ Golden → Turn c p st
    turn-golden k =
        let u = unit-of p lo' hi Golden k in
        let b = ok p lo' hi in
        record {
          right = record {
            kind = Golden;
            says = rw (← k) (kind-is p lo' hi);
            shown = p;
            after = _;
            answer = ap (λ (v : List ℕ). play st p v) u ∙ (play-golden b m.read m.supported (size_ok p lo' hi).1 st p (inv.kept (later Golden refl k)));
            right = refl;
          };
          next = record {
            from = omega (arith, inv.from);
            size = length-refresh _ _ st.slots ∙ inv.size;
            kept = λ _. refl;
            golden-in = λ i o h s. since-last E i o p s
                (λ n e.
                let j : (E p).segment ≡ i = ap (λ (x : Entry). x.segment) e in
                rw (n, ← j) (golden-fills b p st.slots inv.size))
                (λ _ e. cc);
          };
        }

    turn-show : (E p).kind ≡ Show → Turn c p st
    turn-show k =
        let u = unit-of p lo' hi Show k in
        let b = ok p lo' hi in
        let (o, s) = led p lo' hi k in
        let behind = key-before E (E p).segment o p c s k inv.from cue in
        let lo-o : 1 ≤ o = omega arith in
        let hi-o : o ≤ length es = omega (arith, s.below) in
        let found = inv.golden-in (E p).segment o (omega arith) s in
        let here = segment-here p lo' hi in
        record {
          right = record {
            kind = Show;
            says = rw (← k) (kind-is p lo' hi);
            shown = o;
            after = _;
            answer = ap (λ (v : List ℕ). play st p v) u ∙ (play-show b m.read m.supported st p o (inv.kept (later Show refl k)) found);
            right = record {
              slot = (segment_units (E p).segment).slot;
              names = rw u (says-frame (show-says b m.supported));
              key_mark = false;
              holds = found;
              below = s.below;
              golden = kind-is o lo-o hi-o ∙ ap (λ (x : Entry). accepted x.kind) s.golden;
              greatest = λ j x y g.
                  let v = kind-is j (omega arith) (omega arith) in
                  let w = s.shows j x y in
                  cc;
              behind = behind;
              among = sym (segment-here o lo-o hi-o) ∙ ap (λ (x : Entry). x.segment) s.golden ∙ here;
              own = rw here at b.golden-sent ∙ ap accepted (sym (unit-is o lo-o hi-o ∙ ap (λ (x : Entry). unit_of x.kind (segment_units x.segment)) s.golden ∙ ap (λ (j : ℕ). (segment_units j).golden) here));
            };
          };
          next = record {
            from = omega (arith, inv.from);
            size = inv.size;
            kept = λ _. refl;
            golden-in = λ i o h s. since-last E i o p s
                (λ _ e. cc)
                (λ s' e. inv.golden-in i o h s');
          };
        }

    turn : Turn c p st
    turn = go (E p).kind refl
      where
        go : (k : Kind) → (E p).kind ≡ k → Turn c p st
        go Key k = turn-key k
        go Golden k = turn-golden k
        go Show k = turn-show k

  -- ---- every course

  -- what a turn leaves is what the course goes on with
  onward : (c p : ℕ) (st : State) → Turn c p st → Inv c (suc p) (state_after st p (U p))
  onward c p st t = rw t.right.answer t.next

  begins : (c : ℕ) → Inv c c start
  begins c = record { from = omega arith; size = refl; kept = λ h. absurd (omega arith); golden-in = λ i o h s. absurd (omega (arith, s.below)) }

  module _ (c : ℕ) (lo : 1 ≤ c) (cue : (E c).kind ≡ Key) where
    every : (st : State) (p : ℕ) (vs : List (List ℕ)) (k : Course st p vs) → Inv c p st → vs ≡ drop (p - 1) us
        → Throughout (λ p st. PlaysRight set m.first xs us c p st) k
    unfolding Throughout
    every st p vs done inv e = tt
    every st p vs (noise o v n r k) inv e = every _ p vs k (rw r inv) e
    every st p vs (plays {u} {us = vs'} k) inv e =
        let n = ap length e ∙ length-drop (p - 1) us in
        let lo' : 1 ≤ p = omega (arith, inv.from) in
        let hi : p ≤ length es = omega (arith, length-units) in
        let d = drop-cons us (p - 1) [] (omega (arith, length-units)) in
        let w : u ≡ U p = cc in
        let r : vs' ≡ drop (suc (p - 1)) us = cc in
        let j : suc (p - 1) ≡ suc p - 1 = omega arith in
        let t = turn c p st lo hi cue inv in
        (t.right, every _ (suc p) vs' k (rw w (onward c p st t)) (r ∙ ap (λ (i : ℕ). drop i us) j))

  pub played : (c : ℕ) → Memᴰ c cues → (k : Course start c (drop (c - 1) us)) → Throughout (λ p st. PlaysRight set m.first xs us c p st) k
  played c k course =
      let w = key-at c k in
      every c w.low (kind-key (E c).kind w.holds) start c _ course (begins c) refl
