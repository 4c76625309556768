-- Refusals, and what an answer of the code comes to.
use Rattle.std.specs.Prelude.{ℕ, Result, Ok, Err}
use Rattle.bitio.specs.Parse.{Answer, refused, accepted}
use Rattle.bitio.specs.declared.refusal.Refusal.{Refusal}
use Rattle.bitio.specs.declared.refusal.Refusal.TheVariants.{ForbiddenBit, ReservedObuType, ExtensionMissing, ObuSizeMalformed, ObuPastEnd, TemporalUnitSizeMalformed, TemporalUnitPastEnd, FrameUnitSizeMalformed, FrameUnitPastEnd, ObuLengthMalformed, ObuLengthPastEnd, ObuLengthZero, NoBytes, BitsRunOut, UnknownProfile, UvlcTooLong, ReducedStillPicture, FrameIdsOn, UnequalIntervals, FilmGrainOn, NoBoards, GopTooSmall, TooFewFrames, BoardWithoutFrames, TooManyFrames, NoSequenceHeader, OtherSequenceHeader, NoFrame, KeyIsNoShownKeyFrame, GoldenShowsExisting, GoldenNotShown, GoldenIsKeyFrame, GoldenNotStored, InputTooLong, NoRoom, NotAList, EmptySlot, NotShowable, SeveralFrames, ObuSizeContradicts, ShortSignaling, ShowsExisting}

-- 01's number of a refusal
abbrev pub number : Refusal → ℕ
number ForbiddenBit = 1
number ReservedObuType = 2
number ExtensionMissing = 3
number ObuSizeMalformed = 4
number ObuPastEnd = 5
number TemporalUnitSizeMalformed = 6
number TemporalUnitPastEnd = 7
number FrameUnitSizeMalformed = 8
number FrameUnitPastEnd = 9
number ObuLengthMalformed = 10
number ObuLengthPastEnd = 11
number ObuLengthZero = 12
number NoBytes = 13
number BitsRunOut = 14
number UnknownProfile = 15
number UvlcTooLong = 16
number ReducedStillPicture = 17
number FrameIdsOn = 18
number UnequalIntervals = 19
number FilmGrainOn = 20
number NoBoards = 21
number GopTooSmall = 22
number TooFewFrames = 23
number BoardWithoutFrames = 24
number TooManyFrames = 25
number NoSequenceHeader = 26
number OtherSequenceHeader = 27
number NoFrame = 28
number KeyIsNoShownKeyFrame = 29
number GoldenShowsExisting = 30
number GoldenNotShown = 31
number GoldenIsKeyFrame = 32
number GoldenNotStored = 33
number InputTooLong = 34
number NoRoom = 35
number NotAList = 36
number EmptySlot = 37
number NotShowable = 38
number SeveralFrames = 39
number ObuSizeContradicts = 40
number ShortSignaling = 41
number ShowsExisting = 42

-- what the code answers, by 01's numbers
abbrev pub says : {A : Type 0} → Result A Refusal → Answer A
says (Ok a) = accepted a
says (Err e) = refused (number e)
