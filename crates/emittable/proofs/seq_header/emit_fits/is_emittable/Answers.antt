use Rattle.std.proofs.Common.{rules, ap, length, ◌∙◌, sym}
use Rattle.emittable.specs.Emittable.{emittable}
use Rattle.emittable.proofs.EmitSteps.{opening_good}
use Rattle.emittable.proofs.seq_header.emit_fits.is_emittable.Goals as goal

pub returns-then-points_fit : goal.returns-then-points_fit
unfolding emittable
returns-then-points_fit c =
    let e = opening_good c.args.sequence.now.header.opening (search rules) (sym (ap length c.points.ensures.points) ∙ c.points.ensures.count) in
    search (rules, e)
