use Rattle.std.proofs.Common.{arith, sym, ◌-◌}
use Rattle.obu.specs.Place.{extension_says}
use Rattle.bitio.proofs.LebLaws.{bytes-length}
use Rattle.obu.proofs.WriteLaws.{ext-most}
use Rattle.container.proofs.ranges.kept_len.Goals as goal

pub returns-then-is_kept : goal.returns-then-is_kept
returns-then-is_kept c =
    let o = c.args.o in
    rw (sym c.if-is_kept.ensures) (omega (arith, rw c.size.ensures at c.obu_len.ensures, ext-most (extension_says o.extension), bytes-length (o.end - o.start)))
