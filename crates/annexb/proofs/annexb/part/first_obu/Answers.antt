use Rattle.std.proofs.Common.{rules, sym, ap, ◌∙◌}
use Rattle.bitio.specs.Parse.{before}
use Rattle.annexb.proofs.PartLaws.{length-stop, length_part}
use Rattle.annexb.proofs.annexb.part.first_obu.Goals as goal

pub returns-in_err-part : goal.returns-in_err-part
returns-in_err-part c =
    let e = length-stop c.args.s.now (sym c.in_err-part.ensures) in
    search (rules, e)

pub returns-in_err-inner_obu : goal.returns-in_err-inner_obu
returns-in_err-inner_obu c =
    let e = ap (before c.in_ok-part.rest.now) c.in_err-inner_obu.ensures ∙ sym (length_part c.args.s.now (sym c.in_ok-part.ensures)) in
    search (rules, e)

pub returns : goal.returns
returns c = ap (before c.in_ok-part.rest.now) c.in_ok-inner_obu.ensures ∙ sym (length_part c.args.s.now (sym c.in_ok-part.ensures))
