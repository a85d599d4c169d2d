use Rattle.std.proofs.Common.{◌∙◌, sym, subst}
use Rattle.std.specs.Prelude.{IsUtf8}
use Rattle.disk_fields.proofs.Texts.{is_no_text, is_text}
use Rattle.disk_fields.proofs.text.read_text.Goals as goal

pub returns-in_ok-from_str-in-Ok : goal.returns-in_ok-from_str-in-Ok
returns-in_ok-from_str-in-Ok c =
    let cases = c.in-Ok.ensures.cases in
    let same = c.in_ok-from_str-in-Ok.ensures ∙ cases.0 in
    is_text c.args.most c.in_ok-length.length c.args.bytes.now c.in_ok-length.rest.now c.in_ok-from_str-in-Ok.field-0 c.split_at.result.1.now c.in_ok-length.ensures
    c.if-length-most.false c.if-rest-length.false (same ∙ c.split_at.ensures.front) c.split_at.ensures.back (subst IsUtf8 (sym same) cases.1)

pub returns-in-Err : goal.returns-in-Err
returns-in-Err c =
    is_no_text c.args.most c.in_ok-length.length c.args.bytes.now c.in_ok-length.rest.now c.split_at.result.0.now c.in_ok-length.ensures
    c.if-length-most.false c.if-rest-length.false c.split_at.ensures.front c.in-Err.ensures.cases.0
