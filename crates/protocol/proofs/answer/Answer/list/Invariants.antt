-- What was told so far.
use Rattle.std.proofs.Common.{◌≡◌, take}
use Rattle.protocol.specs.Answers.{line, numbered, with_numbers}
use Rattle.protocol.proofs.answer.Answer.list.Given as goal

abbrev pub invariant-loop-v : goal.invariant-loop-v
invariant-loop-v l = numbered (line l.answer) l.numbers ≡ with_numbers (numbered (line l.fn.self) l.fn.numbers) (take l.v-index l.list)
