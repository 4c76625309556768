use Rattle.std.proofs.Common.{◌≡◌, ◌∙◌, sym, ap, Some, ◌+◌, ◌<◌, ◌≤◌, length, arith}
use Rattle.std.proofs.lemmas.List.{length-take, length-drop}
use Rattle.protocol.specs.Text.{byte_string}
use Rattle.protocol.proofs.DecodeLaws.{to_none, in_none, to_full, in_full, to_room, count_is, put_is}
use Rattle.protocol.proofs.text.decode.Goals as goal

pub returns-in_err-byte_count : goal.returns-in_err-byte_count
returns-in_err-byte_count c =
    let a = c.args in
    let m = byte_string a.text.now in
    let e = sym c.in_err-byte_count.ensures in
    record {
      result_value = c.from_residual.ensures ∙ sym (to_none a.out.now a.at m e);
      out_after = sym (in_none a.out.now a.at m e);
    }

pub returns-in_err-end : goal.returns-in_err-end
returns-in_err-end c =
    let a = c.args in
    let m = byte_string a.text.now in
    let n = c.in_ok-byte_count.field-0 in
    let e = sym c.in_ok-byte_count.ensures in
    let h : length a.out.now < a.at + n = omega (arith, c.in_err-end.ensures) in
    record {
      result_value = c.from_residual-in_err-end.ensures ∙ sym (to_full a.out.now a.at m n e h);
      out_after = sym (in_full a.out.now a.at m n e h);
    }

pub returns-then-end-out : goal.returns-then-end-out
returns-then-end-out c =
    let a = c.args in
    let m = byte_string a.text.now in
    let n = c.in_ok-byte_count.field-0 in
    let e = sym c.in_ok-byte_count.ensures in
    let h : length a.out.now < a.at + n = omega (arith, c.in_ok-end.ensures) in
    record {
      result_value = sym (to_full a.out.now a.at m n e h);
      out_after = sym (in_full a.out.now a.at m n e h);
    }

pub decode_hex-requires : goal.decode_hex-requires
decode_hex-requires c =
    simp (length-take, length-drop) (omega (arith, c.in_ok-end.ensures, count_is c.args.text.now c.in_ok-byte_count.field-0 (sym c.in_ok-byte_count.ensures)))

pub returns : goal.returns
returns c =
    let a = c.args in
    let n = c.in_ok-byte_count.field-0 in
    let e = sym c.in_ok-byte_count.ensures in
    let h : a.at + n ≤ length a.out.now = omega (arith, c.in_ok-end.ensures) in
    let k : c.in_ok-end.end ≡ a.at + n = c.in_ok-end.ensures.1 in
    record {
      result_value = ap (λ i. Some i) k ∙ sym (to_room a.out.now a.at (byte_string a.text.now) n e h);
      out_after = put_is a.text.now n e a.out.now a.at k h c.decode_hex.ensures;
    }
