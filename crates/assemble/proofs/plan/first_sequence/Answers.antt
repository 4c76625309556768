use borrow.Author.Rules.{rules}
use Rattle.std.specs.Prelude.{Ok, Err}
use Rattle.bitio.specs.Parse.{and_next}
use Rattle.pictures.proofs.HeaderLaws.{first_found}
use Rattle.assemble.proofs.plan.first_sequence.Goals as goal

pub returns-in_err-find_obu : goal.returns-in_err-find_obu
unfolding and_next
returns-in_err-find_obu c = let e = first_found c.args.key.now (Err c.in_err-find_obu.field-0.0) c.in_err-find_obu.ensures in search (rules, e)

pub returns : goal.returns
unfolding and_next
returns c = let e = first_found c.args.key.now (Ok c.in_ok-find_obu.field-0) c.in_ok-find_obu.ensures in search (rules, e)
