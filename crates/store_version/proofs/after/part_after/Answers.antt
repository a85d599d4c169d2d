use Rattle.std.proofs.Common.{◌∙◌, List, ap, filter, subst, sym}
use Rattle.std.proofs.lemmas.Result.{IfOk-weaker}
use Rattle.own_base.specs.Key.{key_cmp}
use Rattle.own_base.specs.declared.change.Change.{Change}
use Rattle.own_model.specs.Db.{key_of}
use Rattle.page_model.specs.Changed.{AreKeyed, with_changes}
use Rattle.state_model.specs.MayBePut.{KeysDiffer}
use Rattle.state_model.specs.Put.{changed_key, is_of_table, row_after}
use Rattle.table_part.specs.KeyIn.{key_in}
use Rattle.table_part.specs.Part.{rows_of}
use Rattle.store_version.proofs.PartsAfter.{filter_all, keyed_in, rows_put_none, with_changes_in}
use Rattle.store_version.proofs.after.part_after.Goals as goal

-- no change is of the table
pub returns-then-not-has_any_of-clause-rows : goal.returns-then-not-has_any_of-clause-rows
returns-then-not-has_any_of-clause-rows c =
    IfOk-weaker c.copy.result _ _
    (λ after is. ap rows_of is
    ∙ rows_put_none c.args.number c.args.table.now c.args.changes.now (rows_of c.args.part.now) (sym c.has_any_of.ensures ∙ c.if-not-has_any_of.true))
    c.copy.ensures

-- all are
pub with_changes-requires-clause-differ : goal.with_changes-requires-clause-differ
with_changes-requires-clause-differ c =
    subst KeysDiffer (filter_all (is_of_table c.args.number) c.args.changes.now (sym c.are_of.ensures ∙ c.if-are_of.true)) c.requires.once

pub with_changes-requires-clause-keyed : goal.with_changes-requires-clause-keyed
with_changes-requires-clause-keyed c =
    keyed_in c.args.table.now c.args.part.now.key c.args.changes.now c.requires.key
    (subst (λ (own : List Change). AreKeyed (key_of c.args.table.now) changed_key row_after own)
    (filter_all (is_of_table c.args.number) c.args.changes.now (sym c.are_of.ensures ∙ c.if-are_of.true)) c.requires.keyed)

pub returns-then-are_of-clause-rows : goal.returns-then-are_of-clause-rows
returns-then-are_of-clause-rows c =
    let own = filter_all (is_of_table c.args.number) c.args.changes.now (sym c.are_of.ensures ∙ c.if-are_of.true) in
    IfOk-weaker c.with_changes.result _ _
    (λ after is. is
    ∙ (with_changes_in c.args.table.now c.args.part.now.key c.args.changes.now (rows_of c.args.part.now) c.requires.key
    ∙ sym (ap (λ changes. with_changes (key_of c.args.table.now) key_cmp changed_key row_after changes (rows_of c.args.part.now)) own)))
    c.with_changes.ensures.rows

-- some are
pub with_changes-requires-2-clause-keyed : goal.with_changes-requires-2-clause-keyed
with_changes-requires-2-clause-keyed c =
    let own = c.items.ensures ∙ c.in_ok-own.ensures in
    subst (λ (own : List Change). AreKeyed (key_in c.args.part.now.key) changed_key row_after own) (sym own)
    (keyed_in c.args.table.now c.args.part.now.key (filter (is_of_table c.args.number) c.args.changes.now) c.requires.key c.requires.keyed)

pub returns-clause-rows : goal.returns-clause-rows
returns-clause-rows c =
    let own = c.items.ensures ∙ c.in_ok-own.ensures in
    IfOk-weaker c.with_changes-2.result _ _
    (λ after is. is
    ∙ (with_changes_in c.args.table.now c.args.part.now.key c.items.result.now (rows_of c.args.part.now) c.requires.key
    ∙ ap (λ changes. with_changes (key_of c.args.table.now) key_cmp changed_key row_after changes (rows_of c.args.part.now)) own))
    c.with_changes-2.ensures.rows
