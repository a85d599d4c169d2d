use Rattle.std.proofs.Common.{◌≡◌, ◌+◌, ◌<◌, ◌∙◌, ◌++◌, List, true, false, ap, append_assoc, append-nil, arith, drop, sym, subst}
use Rattle.std.specs.Prelude.{length}
use Rattle.own_base.specs.declared.change.Change.{Change}
use Rattle.own_model.specs.declared.schema.TableDef.{TableDef}
use Rattle.commit_replay.specs.RowChanges.{AreNextRows, AreTablesOfRows, changes_from}
use Rattle.commit_replay.proofs.RowsLemmas.{changes-more, rise-tables, tables-length, tables-more, tables-none, tables-rise}
use Rattle.commit_replay.proofs.row_changes.changes_of_rows.Goals as goal

pub returns-then-definitions-tables : goal.returns-then-definitions-tables
returns-then-definitions-tables c both = c.if-definitions-tables.true (ap length c.items-definitions.ensures ∙ tables-length c.args.schema.now.tables c.args.tables.now both.0)

-- the rows of this table don't stand, and so those of all don't
pub returns-then-not-branch : goal.returns-then-not-branch
returns-then-not-branch c both =
    let tables = c.items-definitions.result.now in
    let rows = c.args.tables.now in
    let n = c.loop-number.number in
    let within : n < length rows = omega (arith, c.if-definitions-tables.false) in
    let all : AreTablesOfRows tables rows = subst (λ (tables : List TableDef). AreTablesOfRows tables rows) (sym c.items-definitions.ensures) (rise-tables c.args.schema.now.tables rows both.0 both.1) in
    let more = tables-more tables rows n c.index-definitions-number.result c.index-tables-number.result c.loop-number-test.true within c.index-definitions-number.is c.index-tables-number.is in
    let own = (more.0 (c.loop-number.invariant.next.1 all)).0 in
    let stand = c.in_ok-add_rows.ensures.next.1 (subst (AreNextRows c.index-definitions-number.result _) (sym c.items-rows.ensures) own) in
    let never : true ≡ false = sym stand ∙ c.if-not-branch.true in
    cc

pub loop-number-preserved : goal.loop-number-preserved
loop-number-preserved c =
    let tables = c.items-definitions.result.now in
    let rows = c.args.tables.now in
    let n = c.loop-number.number in
    let within : n < length rows = omega (arith, c.if-definitions-tables.false) in
    let table = c.index-definitions-number.result in
    let one = c.index-tables-number.result in
    let more = tables-more tables rows n table one c.loop-number-test.true within c.index-definitions-number.is c.index-tables-number.is in
    let split = changes-more tables rows n table one c.loop-number-test.true within c.index-definitions-number.is c.index-tables-number.is in
    let added = rw c.items-rows.ensures at (c.in_ok-add_rows.ensures.added c.if-not-branch.false) in
    let stand = rw c.items-rows.ensures at (c.in_ok-add_rows.ensures.next.0 c.if-not-branch.false) in
    record {
      added = ap (λ (front : List Change). front ++ changes_from (n + 1) (drop (n + 1) tables) (drop (n + 1) rows)) added ∙ (append_assoc c.loop-number.changes _ _ ∙ (ap (λ (back : List Change). c.loop-number.changes ++ back) (sym split) ∙ c.loop-number.invariant.added));
      next = ((λ rest. c.loop-number.invariant.next.0 (more.1 (stand, rest))), λ all. (more.0 (c.loop-number.invariant.next.1 all)).1);
    }

pub returns : goal.returns
returns c =
    let none = tables-none c.items-definitions.result.now c.args.tables.now c.loop-number.number c.loop-number-test.false c.if-definitions-tables.false in
    let changes = sym (append-nil c.loop-number.changes) ∙ (ap (λ (back : List Change). c.loop-number.changes ++ back) (sym none.1) ∙ c.loop-number.invariant.added) in
    let all = rw c.items-definitions.ensures at (c.loop-number.invariant.next.0 none.0) in
    let both = tables-rise c.args.schema.now.tables c.args.tables.now all in
    (changes ∙ ap (λ (tables : List TableDef). changes_from 0 tables c.args.tables.now) c.items-definitions.ensures, both.0, both.1)
