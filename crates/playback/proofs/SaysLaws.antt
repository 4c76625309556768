-- What the player answers is fixed by what it says: no two answers say the same, so that lent answers that say the same are the same.
use Prim.Native.Nat.{ℕ, ◌-◌}
use mathlib.Core.Path.{◌≡◌, refl, sym, ap, ap₂, ◌∙◌}
use mathlib.Core.List.{List, [], ◌∷◌}
use lib.ListN.{get_or}
use Rattle.std.specs.Prelude.{Option as Optional, Some, None, Result, Ok, Err}
use Rattle.bitio.specs.Refusal.{number}
use Rattle.bitio.specs.declared.refusal.Refusal.{Refusal}
use Rattle.bitio.specs.declared.refusal.Refusal.TheVariants.{ForbiddenBit, ReservedObuType, ExtensionMissing, ObuSizeMalformed, ObuPastEnd, TemporalUnitSizeMalformed, TemporalUnitPastEnd, FrameUnitSizeMalformed, FrameUnitPastEnd, ObuLengthMalformed, ObuLengthPastEnd, ObuLengthZero, NoBytes, BitsRunOut, UnknownProfile, UvlcTooLong, ReducedStillPicture, FrameIdsOn, UnequalIntervals, FilmGrainOn, NoBoards, GopTooSmall, TooFewFrames, BoardWithoutFrames, TooManyFrames, NoSequenceHeader, OtherSequenceHeader, NoFrame, KeyIsNoShownKeyFrame, GoldenShowsExisting, GoldenNotShown, GoldenIsKeyFrame, GoldenNotStored, InputTooLong, NoRoom, NotAList, EmptySlot, NotShowable, SeveralFrames, ObuSizeContradicts, ShortSignaling, ShowsExisting}
use Rattle.player.specs.Values.{shown_says}
use Rattle.playback.specs.Shown.{all_say}

-- the refusals by their numbers, from 1 on
refusals : List Refusal
refusals = ForbiddenBit ∷ ReservedObuType ∷ ExtensionMissing ∷ ObuSizeMalformed ∷ ObuPastEnd ∷ TemporalUnitSizeMalformed ∷ TemporalUnitPastEnd ∷ FrameUnitSizeMalformed ∷ FrameUnitPastEnd ∷ ObuLengthMalformed ∷ ObuLengthPastEnd ∷ ObuLengthZero ∷ NoBytes ∷ BitsRunOut ∷ UnknownProfile ∷ UvlcTooLong ∷ ReducedStillPicture ∷ FrameIdsOn ∷ UnequalIntervals ∷ FilmGrainOn ∷ NoBoards ∷ GopTooSmall ∷ TooFewFrames ∷ BoardWithoutFrames ∷ TooManyFrames ∷ NoSequenceHeader ∷ OtherSequenceHeader ∷ NoFrame ∷ KeyIsNoShownKeyFrame ∷ GoldenShowsExisting ∷ GoldenNotShown ∷ GoldenIsKeyFrame ∷ GoldenNotStored ∷ InputTooLong ∷ NoRoom ∷ NotAList ∷ EmptySlot ∷ NotShowable ∷ SeveralFrames ∷ ObuSizeContradicts ∷ ShortSignaling ∷ ShowsExisting ∷ []

back : (e : Refusal) → get_or refusals (number e - 1) NoBytes ≡ e
unfolding refusals
back ForbiddenBit = refl
back ReservedObuType = refl
back ExtensionMissing = refl
back ObuSizeMalformed = refl
back ObuPastEnd = refl
back TemporalUnitSizeMalformed = refl
back TemporalUnitPastEnd = refl
back FrameUnitSizeMalformed = refl
back FrameUnitPastEnd = refl
back ObuLengthMalformed = refl
back ObuLengthPastEnd = refl
back ObuLengthZero = refl
back NoBytes = refl
back BitsRunOut = refl
back UnknownProfile = refl
back UvlcTooLong = refl
back ReducedStillPicture = refl
back FrameIdsOn = refl
back UnequalIntervals = refl
back FilmGrainOn = refl
back NoBoards = refl
back GopTooSmall = refl
back TooFewFrames = refl
back BoardWithoutFrames = refl
back TooManyFrames = refl
back NoSequenceHeader = refl
back OtherSequenceHeader = refl
back NoFrame = refl
back KeyIsNoShownKeyFrame = refl
back GoldenShowsExisting = refl
back GoldenNotShown = refl
back GoldenIsKeyFrame = refl
back GoldenNotStored = refl
back InputTooLong = refl
back NoRoom = refl
back NotAList = refl
back EmptySlot = refl
back NotShowable = refl
back SeveralFrames = refl
back ObuSizeContradicts = refl
back ShortSignaling = refl
back ShowsExisting = refl

-- a number is that of one refusal
pub number-apart : (a b : Refusal) → number a ≡ number b → a ≡ b
number-apart a b e = sym (back a) ∙ ap (λ (n : ℕ). get_or refusals (n - 1) NoBytes) e ∙ back b

pub says-apart : (a b : Result (Optional ℕ) Refusal) → shown_says a ≡ shown_says b → a ≡ b
says-apart (Ok (Some p)) (Ok (Some q)) e = let z : p ≡ q = cc in ap (λ (n : ℕ). Ok (Some n)) z
says-apart (Ok None) (Ok None) e = refl
says-apart (Err a) (Err b) e = let z : number a ≡ number b = cc in ap (λ (r : Refusal). Err r) (number-apart a b z)
says-apart (Ok (Some p)) (Ok None) e = cc
says-apart (Ok None) (Ok (Some q)) e = cc
says-apart (Ok (Some p)) (Err b) e = cc
says-apart (Ok None) (Err b) e = cc
says-apart (Err a) (Ok (Some q)) e = cc
says-apart (Err a) (Ok None) e = cc

-- what is lent is fixed by what it says, a refused call's too
pub all-apart : (xs ys : List (Result (Optional ℕ) Refusal)) → all_say xs ≡ all_say ys → xs ≡ ys
all-apart [] [] e = refl
all-apart (a ∷ xs) (b ∷ ys) e =
    let h : shown_says a ≡ shown_says b = cc in
    let t : all_say xs ≡ all_say ys = cc in
    ap₂ (λ x zs. x ∷ zs) (says-apart a b h) (all-apart xs ys t)
all-apart [] (b ∷ ys) e = cc
all-apart (a ∷ xs) [] e = cc
