-- Demand 3 spelt out for three lists: 01's own, and one of two segments that differ in every unit, whose headers come untimed or timed.
use Prim.Native.Nat.{ℕ, zero, suc, ◌-◌, ◌<◌}
use native.Mathlib.Omega.{arith}
use mathlib.Core.Path.{◌≡◌, refl, sym, ap, subst, ◌∙◌}
use mathlib.Core.List.{List, [], ◌∷◌, map, flat_map, Memᴰ}
use mathlib.Core.Bool.{Bool, true, false, cond as pick}
use mathlib.Core.Option.{none, some}
use lib.ListN.{get_or, drop, get_or-map}
use lib.Dec.{ltb}
use borrow.Author.Tests.{ltb-true, ltb-false}
use Rattle.bitio.specs.Parse.{Answer, refused, accepted, accepted_list, answer, many, many_f, and_next}
use Rattle.bitio.specs.Bits.{bit_at, bits_at, bits_within, read_bits}
use Rattle.bitio.specs.Uvlc.{leading_zeros, uvlc_suffix, uvlc}
use Rattle.bitio.specs.Leb.{leb_read, read_leb, sized, leb_write, leb_bytes, framed}
use Rattle.bitio.specs.Every.{Every}
use Rattle.bitio.specs.Every.Every.{nothing, also}
use Rattle.bitio.specs.Lent.{span}
use Rattle.obu.specs.Obu.{Obu, passes, head_obu_of, obus_of, obu_bytes, unit_bytes, Written}
use Rattle.obu.specs.Unit.{is_type, count, has, first_payload}
use Rattle.obu.specs.Place.{part}
use Rattle.bitio.specs.Fields.{read_flag, read_or, flag_or, uvlc_or}
use Rattle.header.specs.SequenceOpening.{timing_info, decoder_model_info, opening}
use Rattle.header.specs.SequencePoints.{operating_point, operating_points}
use Rattle.header.specs.SequenceCoding.{frame_size, frame_ids, coding_tools, screen_tools, filters, color_description, color_sampling, coding}
use Rattle.header.specs.Sequence.{Sequence, sequence_header, parse_sequence}
use Rattle.header.specs.Support.{support, supported_sequence}
use Rattle.header.specs.Timed.{retimed, with_timing}
use Rattle.syntax.specs.Syntax.{run}
use Rattle.syntax.specs.Repeat.{times}
use Rattle.frame.specs.Frame.{show_existing, frame_start, frame_modes, frame_front, buffer_removal, refresh_flags, frame_info, frame_bits, frame_header, parse_frame}
use Rattle.container.specs.Stream.{cut, group, others, join, behind, joined, units, stream_units, flat, stream_bytes}
use Rattle.container.specs.AnnexB.{inner_obu_of, length_obu_of, frame_unit_of, temporal_unit_of, annexb_units_of, annexb_unit, annexb_bytes}
use Rattle.container.specs.Container.{Container, stream, annexb, read, write}
use Rattle.blocks.specs.declared.blocks.Kind.{Kind}
use Rattle.blocks.specs.declared.blocks.Kind.TheVariants.{Key, Golden, Show}
use Rattle.pictures.specs.Segments.{Segment, segment_at, segments_from, segments_of}
use Rattle.pictures.specs.Prepare.{effective, show_unit}
use Rattle.pictures.specs.declared.settings.Settings.{Settings}
use Rattle.pictures.specs.Assemble.{Outcome, stopped, Output, named, units_of}
use Rattle.assemble.specs.Examples.{unit_k, unit_g, timed_payload, timed_k, other_k, other_g, timed_other_k, picture_kg, ranges_kg, room_kg, settings_kg, output_kg, picture_two, ranges_two, picture_timed, ranges_timed, room_two, output_two, payload_k, ordered}
use Rattle.frame.specs.UnitFrame.{frame_payload, unit_frame}
use Rattle.frame.specs.Refresh.{refresh}
use Rattle.player.specs.Player.{State, start, keep_as, play, state_after}
use Rattle.demand.specs.Kinds.{unit_kind, unit_at}
use Rattle.demand.specs.Premises.{list_header, Premise, Formed, Premises}
use Rattle.demand.specs.Courses.{Course, done, plays, noise, Throughout}
use Rattle.demand.specs.Demand.{Right, PlaysRight, ReadBack, Demand3}
use Rattle.demand.proofs.Demand3.{demand3}
use Rattle.assemble.proofs.ExampleLaws.{examples-made}

-- ---- what a list's units show, ks being their kinds

-- behind the last there is no frame
abbrev kind_at : List Kind → ℕ → Answer Kind
kind_at ks p = get_or (map accepted ks) (p - 1) (refused 28)

abbrev is_golden : Answer Kind → Bool
is_golden (refused n) = false
is_golden (accepted Key) = false
is_golden (accepted Golden) = true
is_golden (accepted Show) = false

-- the last golden below position p, k giving the kinds; 0: there is none
abbrev golden_below : (ℕ → Answer Kind) → ℕ → ℕ
golden_below k zero = 0
golden_below k (suc p) = pick (is_golden (k p)) p (golden_below k p)

abbrev golden_or : Answer Kind → ℕ → ℕ → ℕ
golden_or (accepted Show) golden p = golden
golden_or (accepted Golden) golden p = p
golden_or (accepted Key) golden p = p
golden_or (refused n) golden p = p

-- a show unit shows the golden before it, every other unit itself
abbrev pub shown_at : List Kind → ℕ → ℕ
shown_at ks p = golden_or (kind_at ks p) (golden_below (kind_at ks) p) p

last-golden : (k : ℕ → Answer Kind) (o p : ℕ) → o < p → k o ≡ accepted Golden → ((j : ℕ) → o < j → j < p → k j ≡ accepted Golden → ⊥) → o ≡ golden_below k p
last-golden k o zero h g most = absurd (omega arith)
last-golden k o (suc p) h g most = go (λ b. last-golden k o p b g (λ j a c. most j a (omega arith))) (ltb o p) refl (k p) refl
  where
    go : (o < p → o ≡ golden_below k p) → (b : Bool) → ltb o p ≡ b → (x : Answer Kind) → k p ≡ x → o ≡ pick (is_golden (k p)) p (golden_below k p)
    go more false t x e = let z : o ≡ p = omega (arith, ltb-false o p t) in rw (← z, g)
    go more true t (refused n) e = rw e (more (ltb-true o p t))
    go more true t (accepted Key) e = rw e (more (ltb-true o p t))
    go more true t (accepted Show) e = rw e (more (ltb-true o p t))
    go more true t (accepted Golden) e = absurd (most p (ltb-true o p t) (omega arith) e)

-- the unit at p of us, played in the state st, is not refused and shows the position that it has to
abbrev pub Shows : List Kind → List (List ℕ) → ℕ → State → Type 0
Shows ks us p st = answer (λ r. r.shown) (play st p (unit_at us p)) ≡ accepted (some (shown_at ks p))

-- the kinds of the units us, as their bytes say, under a sequence header as it goes out
abbrev kinds_by : Settings → List (List ℕ) → Answer Sequence → List (Answer Kind)
kinds_by set us (refused n) = []
kinds_by set us (accepted q) = map (unit_kind (effective set q)) us

none-behind : (q : Sequence) → unit_kind q [] ≡ refused 28
unfolding many many_f and_next obus_of count frame_payload unit_frame unit_kind first_payload support
none-behind q = refl

-- what follows at each position and in each state follows throughout
weaken : (P Q : ℕ → State → Type 0) → ((st : State) (p : ℕ) → P p st → Q p st) → {st : State} {p : ℕ} {us : List (List ℕ)} (k : Course st p us) → Throughout P k → Throughout Q k
unfolding Throughout
weaken P Q f done t = tt
weaken P Q f (noise o v n r k) t = weaken P Q f k t
weaken P Q f (plays {st} {p} k) t = (f st p t.0, weaken P Q f k t.1)

module _ (set : Settings) (xs : List Segment) (r : Output) (d : Demand3 set xs r) (ks : List Kind) (are : kinds_by set (units_of r) (parse_sequence (list_header xs)) ≡ map accepted ks) where
  -- us: the units read back
  module _ (us : List (List ℕ)) (back : us ≡ units_of r) where
    said : (p : ℕ) → unit_kind (effective set d.header) (unit_at us p) ≡ kind_at ks p
    said p =
        let e : map (unit_kind (effective set d.header)) (units_of r) ≡ map accepted ks = sym (ap (kinds_by set (units_of r)) d.reads) ∙ are in
        rw back (sym (get_or-map (unit_kind (effective set d.header)) (units_of r) (p - 1) []) ∙ rw (e, none-behind (effective set d.header)))

    shown-is : (cue p : ℕ) (st : State) (o : ℕ) (k : Kind) → kind_at ks p ≡ accepted k → Right set d.header xs us cue p st k o → o ≡ shown_at ks p
    shown-is cue p st o Key e right = right ∙ ap (λ (x : Answer Kind). golden_or x (golden_below (kind_at ks) p) p) (sym e)
    shown-is cue p st o Golden e right = right ∙ ap (λ (x : Answer Kind). golden_or x (golden_below (kind_at ks) p) p) (sym e)
    shown-is cue p st o Show e right =
        last-golden (kind_at ks) o p right.below (sym (said o) ∙ right.golden) (λ j a b g. right.greatest j a b (said j ∙ g))
        ∙ ap (λ (x : Answer Kind). golden_or x (golden_below (kind_at ks) p) p) (sym e)

    answered : (cue : ℕ) (st : State) (p : ℕ) → PlaysRight set d.header xs us cue p st → Shows ks us p st
    answered cue st p w = rw w.answer (ap (λ (o : ℕ). accepted (some o)) (shown-is cue p st w.shown w.kind (sym (said p) ∙ w.says) w.right))

  shown-from : (us : List (List ℕ)) → ReadBack (units_of r) us → (cue : ℕ) → Memᴰ cue r.cues → (course : Course start cue (drop (cue - 1) us)) → Throughout (Shows ks us) course
  shown-from us w cue m course = weaken _ _ (answered us (d.back us w) cue) course (d.played us w cue m course)

-- ---- the premises

abbrev obu : ℕ → List ℕ → Obu
obu t p = record { type = t; ext = none; payload = p }

-- a key of a delimiter, a sequence header and a frame, and a golden of a delimiter and a frame
key-formed : (s f u : List ℕ) → Written u (obu 2 [] ∷ obu 1 s ∷ obu 6 f ∷ []) → Premise s u
unfolding is_type count
key-formed s f u w =
    record {
      held = obu 2 [] ∷ obu 1 s ∷ obu 6 f ∷ [];
      written = w;
      delimited = (refl, refl);
      single = refl;
      same = also {a = obu 2 []} (λ e. cc)
          (also {a = obu 1 s} (λ e. refl) (also {a = obu 6 f} (λ e. cc) nothing));
    }

golden-formed : (s f u : List ℕ) → Written u (obu 2 [] ∷ obu 6 f ∷ []) → Premise s u
unfolding is_type count
golden-formed s f u w =
    record {
      held = obu 2 [] ∷ obu 6 f ∷ [];
      written = w;
      delimited = (refl, refl);
      single = refl;
      same = also {a = obu 2 []} (λ e. cc) (also {a = obu 6 f} (λ e. cc) nothing);
    }

-- 01's list; the two that differ; and these timed
abbrev segments_kg : List Segment
segments_kg = ordered unit_k unit_g 4 ∷ ordered unit_k unit_g 1 ∷ []

abbrev segments_two : List Segment
segments_two = ordered unit_k unit_g 4 ∷ ordered other_k other_g 3 ∷ []

abbrev segments_timed : List Segment
segments_timed = ordered timed_k unit_g 4 ∷ ordered timed_other_k other_g 3 ∷ []

-- two segments whose units are formed under s
formed : (s k g l h : List ℕ) (n m : ℕ) → list_header (ordered k g n ∷ ordered l h m ∷ []) ≡ s → Premise s k → Premise s g → Premise s l → Premise s h → Formed (ordered k g n ∷ ordered l h m ∷ [])
formed s k g l h n m e a b c d =
    subst (λ (s : List ℕ). Every (λ x. Premise s x.key) (ordered k g n ∷ ordered l h m ∷ []) → Every (λ x. Premise s x.golden) (ordered k g n ∷ ordered l h m ∷ []) → Formed (ordered k g n ∷ ordered l h m ∷ [])) e
    (λ ks gs. record { keys = ks; goldens = gs })
    (also {a = ordered k g n} a (also {a = ordered l h m} c nothing)) (also {a = ordered k g n} b (also {a = ordered l h m} d nothing))

all-formed : (Formed segments_kg) × (Formed segments_two) × (Formed segments_timed)
unfolding many many_f leb_read read_leb sized leb_write leb_bytes framed passes head_obu_of obus_of obu_bytes unit_bytes flat_map is_type first_payload
all-formed =
    let golden : (s : List ℕ) → Premise s unit_g = λ s. golden-formed s (0x38 ∷ 0x10 ∷ []) unit_g (record { reads = refl; bytes = refl }) in
    let other : (s : List ℕ) → Premise s other_g = λ s. golden-formed s (0x39 ∷ 0x40 ∷ 0xCD ∷ []) other_g (record { reads = refl; bytes = refl }) in
    let key = key-formed payload_k (0x10 ∷ []) unit_k (record { reads = refl; bytes = refl }) in
    let more = key-formed payload_k (0x10 ∷ 0xAB ∷ []) other_k (record { reads = refl; bytes = refl }) in
    let timed = key-formed timed_payload (0x10 ∷ []) timed_k (record { reads = refl; bytes = refl }) in
    let most = key-formed timed_payload (0x10 ∷ 0xAB ∷ []) timed_other_k (record { reads = refl; bytes = refl }) in (
      formed payload_k unit_k unit_g unit_k unit_g 4 1 refl key (golden payload_k) key (golden payload_k),
      formed payload_k unit_k unit_g other_k other_g 4 3 refl key (golden payload_k) more (other payload_k),
      formed timed_payload timed_k unit_g timed_other_k other_g 4 3 refl timed (golden timed_payload) most (other timed_payload),
    )

abbrev has_model : Answer Sequence → Bool
has_model (refused n) = false
has_model (accepted q) = q.header.opening.model.decoder_model_info_present

-- the kinds of the units handed out
abbrev kinds_kg : List Kind
kinds_kg = Key ∷ Golden ∷ Show ∷ Show ∷ Key ∷ []

abbrev kinds_two : List Kind
kinds_two = Key ∷ Golden ∷ Show ∷ Show ∷ Key ∷ Golden ∷ Show ∷ []

models : (has_model (parse_sequence (list_header segments_kg)) ∷ has_model (parse_sequence (list_header segments_timed)) ∷ []) ≡ false ∷ false ∷ []
unfolding many many_f and_next bit_at bits_at bits_within read_bits leading_zeros uvlc_suffix uvlc leb_read read_leb sized passes head_obu_of obus_of is_type first_payload read_flag read_or flag_or uvlc_or timing_info decoder_model_info opening operating_point operating_points frame_size frame_ids coding_tools screen_tools filters color_description color_sampling coding sequence_header parse_sequence
models = refl

kinds-are
    : (kinds_by settings_kg (units_of output_kg) (parse_sequence (list_header segments_kg)) ∷ kinds_by settings_kg (units_of output_two) (parse_sequence (list_header segments_two))
    ∷ kinds_by settings_kg (units_of output_two) (parse_sequence (list_header segments_timed)) ∷ [])
    ≡ map accepted kinds_kg ∷ map accepted kinds_two ∷ map accepted kinds_two ∷ []
unfolding many many_f and_next bit_at bits_at bits_within read_bits leading_zeros uvlc_suffix uvlc leb_read read_leb sized passes head_obu_of obus_of is_type count first_payload read_flag read_or flag_or uvlc_or timing_info decoder_model_info opening operating_point operating_points frame_size frame_ids coding_tools screen_tools filters color_description color_sampling coding sequence_header parse_sequence support retimed with_timing run show_existing frame_start frame_modes frame_front times buffer_removal refresh_flags frame_info frame_bits frame_header parse_frame frame_payload unit_frame unit_kind part span named units_of
kinds-are = refl

abbrev model_at : ℕ → List Bool → Bool
model_at i l = get_or l i true

premises-of : (xs : List Segment) → Formed xs → has_model (parse_sequence (list_header xs)) ≡ false → Premises xs
premises-of xs f e = record { formed = f; no_model = λ q r. sym (ap has_model r) ∙ e }

-- ---- demand 3 of the three

given : (segments_of picture_kg (ranges_kg 4 1) ∷ segments_of picture_two ranges_two ∷ segments_of picture_timed ranges_timed ∷ []) ≡ accepted segments_kg ∷ accepted segments_two ∷ accepted segments_timed ∷ []
unfolding segment_at segments_from segments_of part span and_next
given = refl

abbrev cut_at : ℕ → List (Answer (List Segment)) → Answer (List Segment)
cut_at i l = get_or l i (refused 0)

abbrev out_at : ℕ → List (Outcome Output) → Outcome Output
out_at i l = get_or l i (stopped 0 none)

pub demanded_kg : Demand3 settings_kg segments_kg output_kg
demanded_kg =
    demand3 room_kg settings_kg picture_kg (ranges_kg 4 1) segments_kg output_kg (record { fps = omega arith; den = omega arith }) (ap (cut_at 0) given)
    (premises-of segments_kg all-formed.0 (ap (model_at 0) models)) (ap (out_at 0) examples-made)

pub demanded_two : Demand3 settings_kg segments_two output_two
demanded_two =
    demand3 room_two settings_kg picture_two ranges_two segments_two output_two (record { fps = omega arith; den = omega arith }) (ap (cut_at 1) given)
    (premises-of segments_two all-formed.1 (ap (model_at 0) models)) (ap (out_at 1) examples-made)

-- nothing is rewritten here
pub demanded_timed : Demand3 settings_kg segments_timed output_two
demanded_timed =
    demand3 room_two settings_kg picture_timed ranges_timed segments_timed output_two (record { fps = omega arith; den = omega arith }) (ap (cut_at 2) given)
    (premises-of segments_timed all-formed.2 (ap (model_at 1) models)) (ap (out_at 2) examples-made)

-- ---- what is shown

abbrev kinds_in : ℕ → List (List (Answer Kind)) → List (Answer Kind)
kinds_in i l = get_or l i []

-- the positions that the lists' kinds have shown
pub shown-positions : (map (shown_at kinds_kg) (1 ∷ 2 ∷ 3 ∷ 4 ∷ 5 ∷ []) ∷ map (shown_at kinds_two) (1 ∷ 2 ∷ 3 ∷ 4 ∷ 5 ∷ 6 ∷ 7 ∷ []) ∷ []) ≡ (1 ∷ 2 ∷ 2 ∷ 2 ∷ 5 ∷ []) ∷ (1 ∷ 2 ∷ 2 ∷ 2 ∷ 5 ∷ 6 ∷ 6 ∷ []) ∷ []
shown-positions = refl

-- Written as a stream or as Annex B, with any room, read back and played from a cue on, the lists show those positions,
-- whatever refused units are played before and between them: document 01's own list, and the one of two segments.
pub shown_kg : (us : List (List ℕ)) → ReadBack (units_of output_kg) us → (cue : ℕ) → Memᴰ cue (1 ∷ 5 ∷ []) → (course : Course start cue (drop (cue - 1) us)) → Throughout (Shows kinds_kg us) course
shown_kg = shown-from settings_kg segments_kg output_kg demanded_kg kinds_kg (ap (kinds_in 0) kinds-are)

pub shown_two : (us : List (List ℕ)) → ReadBack (units_of output_two) us → (cue : ℕ) → Memᴰ cue (1 ∷ 5 ∷ []) → (course : Course start cue (drop (cue - 1) us)) → Throughout (Shows kinds_two us) course
shown_two = shown-from settings_kg segments_two output_two demanded_two kinds_two (ap (kinds_in 1) kinds-are)

-- the same is handed out for the timed ones, and shows the same
pub shown_timed : (us : List (List ℕ)) → ReadBack (units_of output_two) us → (cue : ℕ) → Memᴰ cue (1 ∷ 5 ∷ []) → (course : Course start cue (drop (cue - 1) us)) → Throughout (Shows kinds_two us) course
shown_timed = shown-from settings_kg segments_timed output_two demanded_timed kinds_two (ap (kinds_in 2) kinds-are)

-- ---- such units and such a course

-- with room for 96 bytes and seven ends either container carries the list's own
abbrev CarriedOwn : Container → Type 0
CarriedOwn c = (write c (record { bytes = 96; ends = 7 }) (units_of output_two) ≡ accepted (accepted_list (write c (record { bytes = 96; ends = 7 }) (units_of output_two))))
    × (read c (record { bytes = 96; ends = 7 }) (accepted_list (write c (record { bytes = 96; ends = 7 }) (units_of output_two))) ≡ accepted (units_of output_two))

carried-both : (CarriedOwn stream) × (CarriedOwn annexb)
unfolding many many_f leb_read read_leb sized leb_write leb_bytes framed passes head_obu_of obus_of obu_bytes unit_bytes flat_map is_type count has part span named units_of cut group others join behind joined units stream_units flat stream_bytes inner_obu_of length_obu_of frame_unit_of temporal_unit_of annexb_units_of annexb_unit annexb_bytes read write
carried-both = ((refl, refl), (refl, refl))

carries_own : (c : Container) → CarriedOwn c → ReadBack (units_of output_two) (units_of output_two)
carries_own c w = record { container = c; room = record { bytes = 96; ends = 7 }; bytes = _; written = w.0; room' = record { bytes = 96; ends = 7 }; read_back = w.1 }

-- so the claim on what is read back has an instance in each
pub in-stream : ReadBack (units_of output_two) (units_of output_two)
in-stream = carries_own stream carried-both.0

pub in-annexb : ReadBack (units_of output_two) (units_of output_two)
in-annexb = carries_own annexb carried-both.1

-- behind the first key, its golden, and the second key
abbrev keyed : State
keyed = state_after start 1 timed_k

abbrev goldened : State
goldened = state_after keyed 2 unit_g

abbrev rekeyed : State
rekeyed = state_after (state_after (state_after goldened 3 (show_unit 3)) 4 (show_unit 3)) 5 timed_other_k

-- Refused in between: a show unit before there is a header, one of a slot that holds a key not showable, the other segment's show unit before
-- its golden, and bytes that are no OBU.
pub noisy : Course start 1 (units_of output_two)
unfolding many many_f and_next bit_at bits_at bits_within read_bits leading_zeros uvlc_suffix uvlc leb_read read_leb sized passes head_obu_of obus_of is_type count first_payload read_flag read_or flag_or uvlc_or timing_info decoder_model_info opening operating_point operating_points frame_size frame_ids coding_tools screen_tools filters color_description color_sampling coding sequence_header parse_sequence support run show_existing frame_start frame_modes frame_front times buffer_removal refresh_flags frame_info frame_bits frame_header parse_frame refresh supported_sequence keep_as frame_payload part span named units_of play
noisy =
    noise {st = start} 3 (show_unit 3) 26 refl
    (plays
    (noise {st = keyed} 3 (show_unit 3) 38 refl
    (plays
    (noise {st = goldened} 7 (show_unit 5) 38 refl
    (noise {st = goldened} 1 (0x80 ∷ []) 1 refl
    (plays (plays (plays
    (noise {st = rekeyed} 7 (show_unit 5) 38 refl
    (plays (plays done)))))))))))

-- and shows each position's golden or itself all the same
pub shown-noisy : Throughout (Shows kinds_two (units_of output_two)) noisy
shown-noisy = shown_two (units_of output_two) in-annexb 1 (Memᴰ.head refl) noisy
