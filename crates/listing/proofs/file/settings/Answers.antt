use Rattle.std.proofs.Common.{◌∙◌, sym, ap, arith, Some}
use Rattle.listing.specs.declared.file.Layout.{Layout}
use Rattle.listing.proofs.FileLaws.{not_whole, is_whole, narrow, wide, settings_count, settings_number, settings_units, settings_layout}
use Rattle.listing.proofs.file.settings.Goals as goal
use Rattle.listing.proofs.file.settings.Goals.{then-read_u32-ne3-via-then-read_u32-ne3, then-read_u32-ne3-via-else-read_u32-ne3+then-units_len-picture}

pub returns-then-read_u32-ne3 : goal.returns-then-read_u32-ne3
returns-then-read_u32-ne3 c =
    not_whole c.args.file.now (λ t.
    elim c.then-read_u32-ne3.branch [
      | then-read_u32-ne3-via-then-read_u32-ne3 w ↦ w.if-read_u32-ne3.true (settings_count c.requires c.read_u32.ensures ∙ t.three)
      | then-read_u32-ne3-via-else-read_u32-ne3+then-units_len-picture w ↦ w.if-units_len-picture.true (settings_units c.requires w.units_len.ensures ∙ t.filled ∙ sym c.requires.pictures)
    ])

pub returns-in_err-ok : goal.returns-in_err-ok
returns-in_err-ok c =
    c.from_residual.ensures ∙ not_whole c.args.file.now (λ t.
    let e = settings_number c.requires 12 c.read_u64-2.ensures in
    wide _ c.try_from.ensures c.in_err-ok.ensures.value (omega (arith, t.fps)))

pub returns-in_err-ok-2 : goal.returns-in_err-ok-2
returns-in_err-ok-2 c =
    c.from_residual-in_err-ok-2.ensures ∙ not_whole c.args.file.now (λ t.
    let e = settings_number c.requires 20 c.read_u64-3.ensures in
    wide _ c.try_from-2.ensures c.in_err-ok-2.ensures.value (omega (arith, t.den)))

pub returns : goal.returns
returns c =
    let z = c.requires in
    let n = narrow _ c.try_from.ensures c.in_ok-ok.ensures.value in
    let d = narrow _ c.try_from-2.ensures c.in_ok-ok-2.ensures.value in
    let g = settings_number z 4 c.read_u64.ensures in
    let x = n.1 ∙ settings_number z 12 c.read_u64-2.ensures in
    let y = d.1 ∙ settings_number z 20 c.read_u64-3.ensures in
    let three = sym (settings_count z c.read_u32.ensures) ∙ c.if-read_u32-ne3.false in
    let filled = sym (settings_units z c.units_len.ensures) ∙ c.if-units_len-picture.false ∙ z.pictures in
    ap (λ (l : Layout). Some l) (settings_layout z g x y)
    ∙ is_whole c.args.file.now (record { small = z.small; sized = z.whole; three = three; filled = filled; fps = omega (arith, x, n); den = omega (arith, y, d) })
