use Rattle.std.proofs.Common.{arith, ap, ℕ, length, length-append, ◌∙◌, ◌+◌}
use Rattle.bitio.proofs.LentLaws.{pasted_length}
use Rattle.pictures.specs.Flat.{lent, sent_bytes}
use Rattle.pictures.proofs.PutLaws.{two-units, two_ends}
use Rattle.pictures.proofs.pictures.put_units.Goals as goal

pub put_sent-middle-requires : goal.put_sent-middle-requires
put_sent-middle-requires c = omega (arith, length-append {A = ℕ})

pub put_sent-end-requires : goal.put_sent-end-requires
put_sent-end-requires c =
    let a = c.args in
    let key = sent_bytes (lent a.renewal) a.key.now in
    let w = c.put_sent-middle.ensures in
    let s = length-append key (sent_bytes (lent a.renewal) a.golden.now) in
    let l = ap length w.1 ∙ pasted_length a.pictures.now a.at key (omega (arith, s)) in
    omega (arith, s, l)

pub overflow_cast-ends : goal.overflow_cast-ends
overflow_cast-ends c = omega (arith, length-append {A = ℕ})

pub overflow_cast-ends-2 : goal.overflow_cast-ends-2
overflow_cast-ends-2 c = omega (arith, length-append {A = ℕ})

pub returns : goal.returns
returns c =
    let a = c.args in
    let key = sent_bytes (lent a.renewal) a.key.now in
    let golden = sent_bytes (lent a.renewal) a.golden.now in
    let w = c.put_sent-middle.ensures in
    let v = c.put_sent-end.ensures in
    record {
      next = v.0 ∙ ap (λ (m : ℕ). m + length golden) w.0;
      pictures = two-units _ _ _ key golden a.at _ c.requires.pictures w.0 w.1 v.1;
      ends = two_ends a.ends.now _ _ _ _ c.requires.ends w.0;
    }
