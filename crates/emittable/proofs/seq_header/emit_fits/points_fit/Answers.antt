use Rattle.std.proofs.Common.{rules, tests}
use Rattle.std.proofs.lemmas.Iterator.{YieldsList-from_slice}
use Rattle.std.proofs.lemmas.Iterator.Search.{all_from_yields_List}
use Rattle.emittable.specs.Emittable.{point_fits, points_fit}
use Rattle.emittable.proofs.seq_header.emit_fits.points_fit.Goals as goal

pub returns : goal.returns
unfolding points_fit
returns c =
    let a = c.args in
    all_from_yields_List (point_fits a.bounded.opening) _ _ _ c.all.ensures.ran (YieldsList-from_slice a.points.now cc) (λ x b q k. search (rules, tests))
