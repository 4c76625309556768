use Rattle.std.proofs.Common.{arith, ◌≡◌, ◌+◌, ◌<◌, ◌≤◌, ℕ, length}
use Rattle.std.specs.Prelude.{Option as Optional, Some}
use Rattle.obu.specs.Obu.{ext_bytes}
use Rattle.obu.specs.Place.{extension_says}
use Rattle.obu.proofs.WriteLaws.{header-plain, header-ext}
use Rattle.obu.proofs.writer.put_header.Goals as goal

-- there is room for the header byte
some_room : (at n : ℕ) (x : Optional ℕ) → at + (1 + length (ext_bytes (extension_says x))) ≤ n → at < n
some_room at n x l = omega arith

-- and for the extension byte
room : (at n : ℕ) (x : Optional ℕ) {e : ℕ} → x ≡ Some e → at + (1 + length (ext_bytes (extension_says x))) ≤ n → at + 1 < n
room at n x e l = let m = rw e at l in omega (arith, m)

pub returns-in_default : goal.returns-in_default
returns-in_default c =
    let a = c.args in
    let e = c.in_default.is in
    rw e (omega arith, header-plain a.out.now a.at a.obu_type a.size_flag (some_room a.at _ a.extension c.requires.2))

pub returns : goal.returns
returns c =
    let a = c.args in
    let e = c.in-Some.is in
    rw e (omega arith, header-ext a.out.now a.at a.obu_type a.size_flag _ (room a.at _ a.extension e c.requires.2))
