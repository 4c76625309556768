use Rattle.std.proofs.Common.{rules}
use Rattle.bitio.specs.Parse.{and_next}
use Rattle.replay_headers.specs.Headers.{timed_of}
use Rattle.replay_headers.proofs.HeaderReadLaws.{header_read, header_refused, timed_count}
use Rattle.replay_headers.proofs.header_ops.read_timed.Goals as goal

pub returns-in_err-sequence : goal.returns-in_err-sequence
unfolding timed_of and_next
returns-in_err-sequence c =
    let e = header_refused c.args.s.now _ c.in_err-sequence.ensures in
    search (rules, e)

pub returns-in_err-header : goal.returns-in_err-header
unfolding timed_of and_next
returns-in_err-header c =
    let e = header_read c.args.s.now _ c.in_ok-sequence.ensures in
    search (rules, e)

pub returns : goal.returns
unfolding timed_of and_next
returns c =
    let e = header_read c.args.s.now _ c.in_ok-sequence.ensures in
    let n = timed_count _ _ _ _ c.in_ok-header.ensures in
    search (rules, e, n)
