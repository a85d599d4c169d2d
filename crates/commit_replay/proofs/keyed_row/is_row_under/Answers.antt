use Rattle.std.proofs.Common.{◌∙◌, refl, sym}
use Rattle.commit_replay.proofs.FitLemmas.{row-under, under-has}
use Rattle.commit_replay.proofs.keyed_row.is_row_under.Goals as goal

pub returns-then-may_stand : goal.returns-then-may_stand
returns-then-may_stand c =
    let stands = c.if-may_stand.ensures.0 refl in
    ((λ is. row-under c.args.table.now c.args.key.now c.args.row.now stands (sym c.has_key.ensures ∙ is)), λ under. c.has_key.ensures ∙ under-has c.args.table.now c.args.key.now c.args.row.now under)
