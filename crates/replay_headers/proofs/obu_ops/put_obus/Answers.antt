use Rattle.std.proofs.Common.{arith, refl, sym, ap, ◌∙◌, ◌≡◌, ℕ, [], ◌∷◌, ◌++◌}
use Rattle.bitio.specs.Parse.{refused, accepted}
use Rattle.bitio.specs.Refusal.{number}
use Rattle.obu.proofs.PlaceLaws.{placed-obu}
use Rattle.obu.proofs.WalkLaws.{passed_none, passed_one, passed_all, passed_stop}
use Rattle.replay_headers.specs.Headers.{tell_obus}
use Rattle.replay_headers.proofs.ToldObuLaws.{tell-more}
use Rattle.replay_headers.proofs.obu_ops.put_obus.Goals as goal

pub loop-found-init : goal.loop-found-init
unfolding tell_obus
loop-found-init c =
    ([], passed_none (rw c.into_iter-found-iterator.ensures.into_iter_gives c.new-found-items.ensures), refl, record { bytes = refl; ends = refl; numbers = refl })

pub loop-found-preserved : goal.loop-found-preserved
loop-found-preserved c =
    let (front, p, t, m) = c.loop-found.invariant in
    let (g, b, q) = passed_one p _ c.next.new.self (rw c.in-Ok.is at c.in-Some.ensures.steps) in
    let n = c.put_one-answer.ensures.same in (
      front ++ (g.obu ∷ []),
      q,
      tell-more _ front g.obu t (placed-obu g) c.put_one-answer.ensures.told,
      record { bytes = n.bytes ∙ m.bytes; ends = n.ends ∙ m.ends; numbers = n.numbers ∙ m.numbers },
    )

pub returns-in_default-clause-told : goal.returns-in_default-clause-told
returns-in_default-clause-told c os h =
    let (front, p, t, m) = c.loop-found.invariant in
    let e = passed_stop p _ c.next.new.self (rw c.in_default.is at c.in-Some.ensures.steps) in
    let r : refused (number c.in_default.field-0) ≡ accepted os = sym e ∙ h in
    let z : ◌≡◌ {A = ℕ} 0 1 = cc in
    absurd (omega arith)

pub returns-clause-told : goal.returns-clause-told
returns-clause-told c os h =
    let (front, p, t, m) = c.loop-found.invariant in
    let e : accepted front ≡ accepted os = sym (passed_all p c.next.new.self c.in-None.ensures.steps) ∙ h in
    t ∙ ap (tell_obus _) cc
