-- Laws of what boardlist prints: from lent memory, from answers, from a file.
use Prim.Native.Nat.{ℕ, ◌*◌}
use mathlib.Core.Path.{◌≡◌, refl, sym, ap, ◌∙◌}
use mathlib.Core.List.{List}
use mathlib.Core.Option.{Option}
use Rattle.std.specs.Prelude.{Result, Ok, Err}
use lib.ListN.{take}
use Rattle.bitio.specs.Lent.{span, placed, lent}
use Rattle.bitio.proofs.LentLaws.{pasted-front}
use Rattle.pictures.specs.Assemble.{Outcome, stopped, Output}
use denote.Triple.Both.{Both}
use Rattle.bitio.specs.declared.refusal.Refusal.{Refusal}
use Rattle.blocks.specs.Numbers.{width, first_records}
use Rattle.assemble.proofs.AnswerLaws.{stopped-is, made_of}
use Rattle.assemble.specs.Whole.{counts_of, Lent, outcome, lent_after, Handed}
use Rattle.assemble.specs.declared.multi.Counts.{Counts}
use Rattle.listing.specs.File.{FileReading, read_layout, file_numbers, read_into, file_numbers_after}
use Rattle.listing.specs.Text.{listing, stopped_text, unread_text}
use Rattle.listing.specs.Says.{file_says}
use Rattle.listing.specs.declared.file.Layout.{Layout}
use Rattle.listing.specs.declared.file.Unread.{Unread}
use Rattle.listing.specs.declared.file.Unread.TheVariants.{Bad, Full}
use Rattle.listing.proofs.FileLaws.{read_is}
use Rattle.boardlist.specs.Printed.{text_of, made_text, Texted, printed_of, printed, slices_after_of, slices_after}

-- the same text by another name
pub retold : {t u : List ℕ} {r : Result ℕ Refusal} {out : Both (List ℕ) (List ℕ)} → t ≡ u → Texted t r out → Texted u r out
retold {out = out} e h = record { answer = h.answer ∙ ap (placed out.entry 0) e; bytes = h.bytes ∙ ap (lent out.entry 0) e }

-- lent memory after an accepted assembly holds what its counts say
pub assembly_made : {x : Lent → Outcome Output} {c : Counts} {d d' : Lent} → Handed x (Ok c) (record { entry = d; exit = d' }) → made_text c d' ≡ text_of (x d)
assembly_made h =
    let m = made_of h in
    let o = m.output in
    rw (m.list, m.pictures, m.ends, m.shows)
    (ap (λ (k : Counts). listing o.list k.cues o.picture o.ends o.shows) m.counted ∙ sym (ap text_of m.is))

-- a refusal's text
pub stopped_is : (x : Outcome Output) (k : ℕ) (i : Option ℕ) → stopped k i ≡ counts_of x → stopped_text k i ≡ text_of x
stopped_is x k i e = ap text_of (sym (stopped-is x k i e))

-- ---- a file's answers

module _ (s numbers : List ℕ) (d : Lent) where
  abbrev file_text : List ℕ
  file_text = printed s numbers d

  -- nothing is lent on
  module _ (u : Unread) (e : file_says (Err u) ≡ read_into numbers s) where
    pub unread_is : unread_text u ≡ file_text
    unfolding printed
    unread_is = of u ∙ ap (λ (r : FileReading). printed_of r s d) e
      where
        of : (u : Unread) → unread_text u ≡ printed_of (file_says (Err u)) s d
        of Bad = refl
        of Full = refl

    pub unread_left : d ≡ slices_after s numbers d
    unfolding slices_after
    unread_left = of u ∙ ap (λ (r : FileReading). slices_after_of r s d) e
      where
        of : (u : Unread) → d ≡ slices_after_of (file_says (Err u)) s d
        of Bad = refl
        of Full = refl

  module _ (l : Layout) (numbers' : List ℕ) (e : read_layout l ≡ read_into numbers s) (w : numbers' ≡ file_numbers_after numbers s) where
    numbers_are : first_records l.segments numbers' ≡ file_numbers s
    numbers_are =
        let a = read_is numbers s l e in
        ap (take (width * l.segments)) (w ∙ a.after) ∙ pasted-front numbers (file_numbers s) (width * l.segments) (sym a.count)

    abbrev from : List ℕ → Outcome Output
    from rs = outcome (span s l.start l.end) rs l.settings d

    pub read_text : text_of (from (first_records l.segments numbers')) ≡ file_text
    unfolding printed
    read_text = ap (λ (rs : List ℕ). text_of (from rs)) numbers_are ∙ ap (λ (r : FileReading). printed_of r s d) e

    pub read_left : lent_after (from (first_records l.segments numbers')) d ≡ slices_after s numbers d
    unfolding slices_after
    read_left = ap (λ (rs : List ℕ). lent_after (from rs) d) numbers_are ∙ ap (λ (r : FileReading). slices_after_of r s d) e
