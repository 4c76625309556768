-- The fields that are left, read behind those so far, are all of them.
use Rattle.std.proofs.Common.{◌≡◌, ◌-◌, Ok, length}
use Rattle.protocol.specs.Kinds.{form}
use Rattle.protocol.specs.Fields.{place, fields_in, start_of}
use Rattle.protocol.specs.Told.{SameMemory}
use Rattle.protocol.proofs.fields.read_fields.Given as goal

abbrev pub invariant-loop : goal.invariant-loop
invariant-loop l = record {
  left : fields_in (length l.line) l.line (record { fields = Ok (start_of l.fn.next (form l.fn.format)); decoded = l.fn.memory.bytes.now; ends = l.fn.memory.ends.now; numbers = l.fn.memory.numbers.now })
      ≡ fields_in (length l.line - l.counter) l.line (record { fields = Ok (place l.fields); decoded = l.memory.bytes.now; ends = l.memory.ends.now; numbers = l.memory.numbers.now });
  same : SameMemory l.fn.memory l.memory;
}
