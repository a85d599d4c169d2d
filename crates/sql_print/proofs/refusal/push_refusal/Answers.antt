use Rattle.std.proofs.Common.{append_assoc}
use Rattle.text_model.specs.Refused.{refusal_text}
use Rattle.sql_print.proofs.refusal.push_refusal.Goals as goal

pub returns-in-Syntax : goal.returns-in-Syntax
unfolding refusal_text
returns-in-Syntax c = rw (c.in-Syntax.is, ← c.from.ensures) c.push_numbered.ensures

pub returns-in-NoTable : goal.returns-in-NoTable
unfolding refusal_text
returns-in-NoTable c = rw c.in-NoTable.is c.push_named.ensures

pub returns-in-NoColumn : goal.returns-in-NoColumn
unfolding refusal_text
returns-in-NoColumn c = rw c.in-NoColumn.is c.push_named-in-NoColumn.ensures

pub returns-in-WrongKind : goal.returns-in-WrongKind
unfolding refusal_text
returns-in-WrongKind c = rw c.in-WrongKind.is c.push_named-in-WrongKind.ensures

pub returns-in-NameTaken : goal.returns-in-NameTaken
unfolding refusal_text
returns-in-NameTaken c = rw c.in-NameTaken.is c.push_named-in-NameTaken.ensures

pub returns-in-HasRows : goal.returns-in-HasRows
unfolding refusal_text
returns-in-HasRows c = rw c.in-HasRows.is c.push_named-in-HasRows.ensures

pub returns-in-KeyWrite : goal.returns-in-KeyWrite
unfolding refusal_text
returns-in-KeyWrite c = rw c.in-KeyWrite.is c.push_named-in-KeyWrite.ensures

pub returns-in-NotSubject : goal.returns-in-NotSubject
unfolding refusal_text
returns-in-NotSubject c = rw c.in-NotSubject.is c.push_named-in-NotSubject.ensures

pub returns-in-NullValue : goal.returns-in-NullValue
unfolding refusal_text
returns-in-NullValue c = rw c.in-NullValue.is c.push_named-in-NullValue.ensures

pub returns-in-Duplicate : goal.returns-in-Duplicate
unfolding refusal_text
returns-in-Duplicate c = rw c.in-Duplicate.is c.push_row.ensures

pub returns-in-Range : goal.returns-in-Range
unfolding refusal_text
returns-in-Range c = rw c.in-Range.is c.push_named-in-Range.ensures

pub returns-in-Outside : goal.returns-in-Outside
unfolding refusal_text
returns-in-Outside c = rw c.in-Outside.is c.push-in-Outside.ensures

pub returns-in-Unique : goal.returns-in-Unique
unfolding refusal_text
returns-in-Unique c = rw c.in-Unique.is c.push_column_of_row.ensures

pub returns-in-Owner : goal.returns-in-Owner
unfolding refusal_text
returns-in-Owner c = rw c.in-Owner.is c.push_row-in-Owner.ensures

pub returns-in-TooBig : goal.returns-in-TooBig
unfolding refusal_text
returns-in-TooBig c = rw c.in-TooBig.is c.push_numbered-in-TooBig.ensures

pub returns-in_ok-push_named-in-BadSchema : goal.returns-in_ok-push_named-in-BadSchema
unfolding refusal_text
returns-in_ok-push_named-in-BadSchema c =
    rw (c.in-BadSchema.is, c.in_ok-push_named-in-BadSchema.ensures, c.in_ok-push_numbered-in-BadSchema.ensures, c.from-in-BadSchema.ensures) (simp append_assoc)

pub returns-in_ok-push_held-in-Conflict : goal.returns-in_ok-push_held-in-Conflict
unfolding refusal_text
returns-in_ok-push_held-in-Conflict c =
    rw (c.in-Conflict.is, c.in_ok-push_held-in-Conflict.ensures, c.in_ok-push-in-Conflict.ensures, c.in_ok-push_numbered-in-Conflict.ensures, c.from-in-Conflict.ensures) (simp append_assoc)

pub returns-in_ok-push_numbered-in-Limit : goal.returns-in_ok-push_numbered-in-Limit
unfolding refusal_text
returns-in_ok-push_numbered-in-Limit c =
    rw (
      c.in-Limit.is,
      c.in_ok-push_numbered-in-Limit.ensures,
      c.limit_number.ensures,
      c.in_ok-push-in-Limit-2.ensures,
      c.limit_name.ensures,
      c.in_ok-push-in-Limit.ensures,
    )
    (simp append_assoc)
