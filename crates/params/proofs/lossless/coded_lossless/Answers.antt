use Rattle.std.proofs.Common.{eqb, rules}
use Rattle.std.proofs.lemmas.Iterator.{YieldsList-from_slice}
use Rattle.std.proofs.lemmas.Iterator.Search.{all_from_yields_List}
use borrow.Author.Tests.{tests}
use Rattle.params.specs.Lossless.{sign_magnitude, qindex, coded_lossless}
use Rattle.params.proofs.lossless.coded_lossless.Goals as goal

pub returns-then-no_delta : goal.returns-then-no_delta
unfolding coded_lossless
returns-then-no_delta c =
    let z =
    all_from_yields_List (λ v. eqb (qindex sign_magnitude c.args.q.base_q_idx v) 0) _ _ c.all.result c.all.ensures.ran
    (YieldsList-from_slice c.args.alt_q (cc)) (λ x b q k. search (rules, tests)) in
    search (rules, z)
