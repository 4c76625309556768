use Rattle.std.proofs.Common.{arith, ap, ◌∙◌}
use borrow.Author.Rules.{rules}
use Rattle.pictures.specs.Flat.{rewriting}
use Rattle.pictures.proofs.SentLaws.{lent_rewriting}
use Rattle.assemble.specs.Whole.{lent_of}
use Rattle.assemble.specs.code.Stages.{fits_in}
use Rattle.assemble.specs.declared.multi.Counts.{Counts}
use Rattle.assemble.proofs.WholeLaws.{sound, full, can-lay, can-pictures, can-shows, can-header, plan-refused, all_made}
use Rattle.assemble.proofs.multi.assemble_multi.Goals as goal

pub returns-in_err-plan-clause-handed : goal.returns-in_err-plan-clause-handed
returns-in_err-plan-clause-handed c =
    let a = c.args in
    let e = plan-refused a.segments.picture.now a.segments.numbers.now a.settings (lent_of a.buffers.now) _ c.in_err-plan.ensures in
    search (rules, e)

pub invariant_of-some : goal.invariant_of-some
invariant_of-some c =
    let a = c.args in
    let d = lent_of a.buffers.now in
    record { some = (sound a.segments.picture.now a.segments.numbers.now a.settings d c.in_ok-plan.plan c.in_ok-plan.ensures).some-there }

pub count_all-need-requires : goal.count_all-need-requires
count_all-need-requires c =
    let a = c.args in
    let d = lent_of a.buffers.now in
    let z = sound a.segments.picture.now a.segments.numbers.now a.settings d c.in_ok-plan.plan c.in_ok-plan.ensures in
    record { gop = omega (arith, z.gop-size); small = z.small }

pub has_room-requires : goal.has_room-requires
has_room-requires c =
    let a = c.args in
    let d = lent_of a.buffers.now in
    let z = sound a.segments.picture.now a.segments.numbers.now a.settings d c.in_ok-plan.plan c.in_ok-plan.ensures in
    let w = ap (λ (n : Counts). n.shows) c.count_all-need.ensures in
    omega (arith, z.count, w)

pub returns-then-not-has_room-clause-handed : goal.returns-then-not-has_room-clause-handed
returns-then-not-has_room-clause-handed c =
    let a = c.args in
    let d = lent_of a.buffers.now in
    let f = c.if-not-has_room.ensures ∙ ap (fits_in _) c.count_all-need.ensures in
    rw c.overall.ensures (full a.segments.picture.now a.segments.numbers.now a.settings d c.in_ok-plan.plan c.in_ok-plan.ensures f)

pub put_list-requires : goal.put_list-requires
put_list-requires c =
    let a = c.args in
    let d = lent_of a.buffers.now in
    let f = c.if-not-has_room.ensures ∙ ap (fits_in _) c.count_all-need.ensures in
    can-lay a.segments.picture.now a.segments.numbers.now a.settings d c.in_ok-plan.plan c.in_ok-plan.ensures f

pub put_pictures-requires : goal.put_pictures-requires
put_pictures-requires c =
    let a = c.args in
    let d = lent_of a.buffers.now in
    let f = c.if-not-has_room.ensures ∙ ap (fits_in _) c.count_all-need.ensures in
    let r = can-pictures a.segments.picture.now a.segments.numbers.now a.settings d c.in_ok-plan.plan c.in_ok-plan.ensures f in
    let e = c.renewal-renewal.ensures in
    record { small = rw e r.0; pictures = rw e r.1.0; ends = r.1.1 }

pub put_shows-requires : goal.put_shows-requires
put_shows-requires c =
    let a = c.args in
    let d = lent_of a.buffers.now in
    let f = c.if-not-has_room.ensures ∙ ap (fits_in _) c.count_all-need.ensures in
    can-shows a.segments.picture.now a.segments.numbers.now a.settings d c.in_ok-plan.plan c.in_ok-plan.ensures f

pub put_sequence_obu-requires : goal.put_sequence_obu-requires
put_sequence_obu-requires c =
    let a = c.args in
    let d = lent_of a.buffers.now in
    let f = c.if-not-has_room.ensures ∙ ap (fits_in _) c.count_all-need.ensures in
    can-header a.segments.picture.now a.segments.numbers.now a.settings d c.in_ok-plan.plan c.in_ok-plan.ensures f

pub returns-clause-handed : goal.returns-clause-handed
returns-clause-handed c =
    let a = c.args in
    let d = lent_of a.buffers.now in
    let f = c.if-not-has_room.ensures ∙ ap (fits_in _) c.count_all-need.ensures in
    let l = c.put_list.ensures in
    let w = c.put_pictures.ensures in
    let e = c.renewal-renewal.ensures in
    let r = c.is_some.ensures ∙ lent_rewriting c.renewal-renewal.result ∙ ap rewriting e in
    all_made a.segments.picture.now a.segments.numbers.now a.settings d c.in_ok-plan.plan c.in_ok-plan.ensures f _ _ c.count_all-need.ensures l.list l.cues
    (rw e at w.pictures) (rw e at w.ends) (rw r at c.put_shows.ensures) c.put_sequence_obu.ensures
