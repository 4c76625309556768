use Rattle.std.proofs.Common.{rules}
use Rattle.std.proofs.lemmas.Iterator.{YieldsList-from_slice}
use Rattle.std.proofs.lemmas.Iterator.Search.{any_from_yields_List}
use borrow.Author.Tests.{tests}
use Rattle.params.specs.SkipMode.{hint_bits, is_after, is_before, skip_mode_allowed}
use Rattle.params.proofs.skip.OrderHints.skip_mode_allowed.Goals as goal

pub returns-else-any : goal.returns-else-any
unfolding skip_mode_allowed
returns-else-any c =
    let o = c.args.self.now in
    let behind =
    any_from_yields_List (λ hint. is_after (hint_bits o) hint o.order_hint) _ _ c.any.result c.any.ensures.ran
    (YieldsList-from_slice o.refs (cc)) (λ x b q k. search (rules, tests)) in
    let before =
    any_from_yields_List (λ hint. is_before (hint_bits o) hint c.in-Some.nearest) _ _ c.any-else-any.result c.any-else-any.ensures.ran
    (YieldsList-from_slice o.refs (cc)) (λ x b q k. search (rules, tests)) in
    search (rules, behind, before)
