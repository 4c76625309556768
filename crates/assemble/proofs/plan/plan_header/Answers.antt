use Rattle.std.proofs.Common.{List, ℕ, sym, ap, ◌∙◌}
use borrow.Author.Rules.{rules}
use Rattle.bitio.specs.Parse.{Answer, answer}
use Rattle.header.specs.Sequence.{in_array}
use Rattle.header.specs.Support.{supported_sequence}
use Rattle.header.specs.declared.seq_header.SequenceObu.{SequenceObu}
use Rattle.obu.specs.Place.{part}
use Rattle.blocks.specs.Numbers.{head_key}
use Rattle.pictures.specs.Assemble.{in_segment, same_headers}
use Rattle.pictures.specs.Flat.{later_segments}
use Rattle.pictures.specs.code.Rewrite.{obu_in}
use Rattle.assemble.proofs.PlanLaws.{header_refused, header_supported, header-other, header-same}
use Rattle.assemble.proofs.plan.plan_header.Goals as goal

pub returns-in_err-sequence : goal.returns-in_err-sequence
returns-in_err-sequence c =
    let a = c.args in
    let s = a.segments.all.picture.now in
    let rs = a.segments.all.numbers.now in
    let p = c.payload-first.ensures ∙ ap (λ (u : List ℕ). part u a.obu.start a.obu.end) c.key.ensures in
    let r = c.read_supported.ensures ∙ ap (λ (l : List ℕ). answer in_array (supported_sequence l)) p in
    let e = header_refused s rs a.settings (obu_in (head_key s rs) a.obu) _ _ (c.in_err-sequence.ensures ∙ ap (λ (x : Answer SequenceObu). in_segment 0 x) r) in
    search (rules, e)

pub returns-in_err-same_headers : goal.returns-in_err-same_headers
returns-in_err-same_headers c =
    let a = c.args in
    let s = a.segments.all.picture.now in
    let rs = a.segments.all.numbers.now in
    let p = c.payload-first.ensures ∙ ap (λ (u : List ℕ). part u a.obu.start a.obu.end) c.key.ensures in
    let r = c.read_supported.ensures ∙ ap (λ (l : List ℕ). answer in_array (supported_sequence l)) p in
    let t = c.in_ok-sequence.ensures ∙ ap (λ (x : Answer SequenceObu). in_segment 0 x) r in
    let e =
    header-other s rs a.settings (obu_in (head_key s rs) a.obu) c.in_ok-sequence.sequence t _ _
    (c.in_err-same_headers.ensures ∙ ap (λ (l : List ℕ). same_headers l 1 (later_segments s rs)) p) in
    search (rules, e)

pub plan_timing-requires-clause-read : goal.plan_timing-requires-clause-read
plan_timing-requires-clause-read c =
    let a = c.args in
    let s = a.segments.all.picture.now in
    let rs = a.segments.all.numbers.now in
    let p = c.payload-first.ensures ∙ ap (λ (u : List ℕ). part u a.obu.start a.obu.end) c.key.ensures in
    let r = c.read_supported.ensures ∙ ap (λ (l : List ℕ). answer in_array (supported_sequence l)) p in
    let t = c.in_ok-sequence.ensures ∙ ap (λ (x : Answer SequenceObu). in_segment 0 x) r in
    record { payload = _; read = sym (header_supported s rs a.settings (obu_in (head_key s rs) a.obu) c.in_ok-sequence.sequence t) }

pub returns : goal.returns
returns c =
    let a = c.args in
    let s = a.segments.all.picture.now in
    let rs = a.segments.all.numbers.now in
    let p = c.payload-first.ensures ∙ ap (λ (u : List ℕ). part u a.obu.start a.obu.end) c.key.ensures in
    let r = c.read_supported.ensures ∙ ap (λ (l : List ℕ). answer in_array (supported_sequence l)) p in
    let t = c.in_ok-sequence.ensures ∙ ap (λ (x : Answer SequenceObu). in_segment 0 x) r in
    c.plan_timing.ensures
    ∙ header-same s rs a.settings (obu_in (head_key s rs) a.obu) c.in_ok-sequence.sequence t
    (c.in_ok-same_headers.ensures ∙ ap (λ (l : List ℕ). same_headers l 1 (later_segments s rs)) p)
