-- Laws of a sequence header that was read, and of what is done with it.
use Prim.Native.Nat.{ℕ}
use native.Mathlib.Omega.{arith}
use mathlib.Core.Path.{◌≡◌, sym, ap}
use mathlib.Core.List.{List}
use mathlib.Core.Bool.{Bool, true, false, cond as pick}
use Rattle.bitio.specs.Parse.{Answer, refused, accepted, answer}
use Rattle.header.specs.Sequence.{Sequence, in_array, sequence_in}
use Rattle.header.specs.SequencePoints.{point_count}
use Rattle.header.specs.Timed.{timed, with_timing, retimed}
use Rattle.header.specs.declared.seq_header.SequenceHeader.{SequenceHeader}
use Rattle.header.specs.declared.seq_header.SequenceObu.{SequenceObu}
use Rattle.frame.proofs.FrameFromLaws.{beside-whole}
use Rattle.replay_headers.specs.Headers.{header_of}

-- what the code answers for the payload s: the header, or a refusal
pub header_read : (s : List ℕ) (x : SequenceObu) → accepted x ≡ answer in_array (header_of s) → header_of s ≡ accepted (sequence_in x)
header_read s x e = beside-whole s x e

pub header_refused : (s : List ℕ) (k : ℕ) → refused k ≡ answer in_array (header_of s) → header_of s ≡ refused k
header_refused s k e = go (header_of s) e
  where
    go : (y : Answer Sequence) → refused k ≡ answer in_array y → y ≡ refused k
    go (refused j) e = let i : j ≡ k = cc in ap (λ y. refused y) i
    go (accepted q) e = let w : ◌≡◌ {A = ℕ} 0 1 = cc in absurd (omega arith)

pub header_whole : (s : List ℕ) (x : Answer SequenceObu) → x ≡ answer in_array (header_of s) → answer sequence_in x ≡ header_of s
header_whole s (accepted x) e = sym (header_read s x e)
header_whole s (refused k) e = sym (header_refused s k e)

-- a timed header has as many operating points
pub timed_count : (num den : ℕ) (h x : SequenceHeader) → accepted x ≡ timed num den h → point_count x.opening ≡ point_count h.opening
unfolding timed with_timing retimed
timed_count num den h x e = go h.opening.reduced_still_picture_header e
  where
    go : (t : Bool) → accepted x ≡ pick t (refused 17) (accepted (with_timing num den h)) → point_count x.opening ≡ point_count h.opening
    go true g = let z : ◌≡◌ {A = ℕ} 0 1 = cc in absurd (omega arith)
    go false g = let w : x ≡ with_timing num den h = cc in ap (λ y. point_count y.opening) w
