-- Laws of the fields of a line.
use Rattle.std.proofs.Common.{◌≡◌, refl, List, Err, ℕ, zero, suc, ◌+◌, ◌-◌, ◌≤◌, ◌<◌, arith}
use Rattle.protocol.specs.Fields.{Place, FieldsRead, field_after, fields_in}

-- one more of those that are left
pub fields_more : (k i : ℕ) (s : List ℕ) (t : FieldsRead) → i < k
    → fields_in (k - i) s t ≡ fields_in (k - (i + 1)) s (field_after s t.fields t.decoded t.ends t.numbers)
unfolding fields_in
fields_more k i s t h =
    let e : k - i ≡ suc (k - (i + 1)) = omega arith in
    rw e refl

pub fields_end : (k i : ℕ) (s : List ℕ) (t : FieldsRead) → k ≤ i → fields_in (k - i) s t ≡ t
unfolding fields_in
fields_end k i s t h =
    let e : k - i ≡ 0 = omega arith in
    rw e refl

-- behind a bad one nothing more is read
pub fields_bad : (k : ℕ) (s d es ns : List ℕ) (p : Place) → fields_in k s (record { fields = Err p; decoded = d; ends = es; numbers = ns }) ≡ record { fields = Err p; decoded = d; ends = es; numbers = ns }
unfolding fields_in
fields_bad zero s d es ns p = refl
fields_bad (suc k) s d es ns p = fields_bad k s d es ns p
