use Rattle.std.proofs.Common.{◌≡◌, ◌<◌, ◌≤◌, true, false, length, sym, ap, ◌∙◌, subst}
use Rattle.std.specs.Prelude.{Some}
use Rattle.std.proofs.lemmas.Option.{slice_get_within}
use Rattle.own_model.specs.declared.schema.Schema.{Schema}
use Rattle.own_model.specs.Stored.{rows_at}
use Rattle.schema_model.specs.Tables.{is_private}
use Rattle.subject_model.specs.Named.{name_of}
use Rattle.subject_model.specs.Owners.{owners}
use Rattle.state_model.specs.Fault.{owner_rule}
use Rattle.commit_check.proofs.FirstLemmas.{none_before-end, none_before-found, none_before-gone, none_before-more}
use Rattle.commit_check.proofs.Listed.{Sets-at, none_from, some_from}
use Rattle.commit_check.proofs.OwnerFaults.{owned-none, public-none, unowned-some}
use Rattle.commit_check.proofs.owner.first_in_table.Goals as goal

pub count-at-end-requires : goal.count-at-end-requires
count-at-end-requires g c = slice_get_within (g.V.StoreView.db c.args.view.now).schema.tables c.args.table.0 c.args.definition.now c.requires.there

pub row_at-requires : goal.row_at-requires
row_at-requires g c = slice_get_within (g.V.StoreView.db c.args.view.now).schema.tables c.args.table.0 c.args.definition.now c.requires.there

pub returns-then-not-is_private : goal.returns-then-not-is_private
returns-then-not-is_private g c =
    let db = g.V.StoreView.db c.args.view.now in
    let public : is_private db.schema c.args.table.0 ≡ false =
    ap (λ (schema : Schema). is_private schema c.args.table.0) (sym c.schema.ensures) ∙ (sym c.is_private.ensures ∙ c.if-not-is_private.true) in
    sym (public-none db c.args.table.0 c.args.definition.now (rows_at db.rows c.args.table.0) public)

pub loop-at-preserved : goal.loop-at-preserved
loop-at-preserved g c =
    let db = g.V.StoreView.db c.args.view.now in
    let rows = rows_at db.rows c.args.table.0 in
    let row = c.in-Some.row.now in
    let listed = Sets-at db (owners db) c.args.sets.now.owners c.args.table.0 c.loop-at.at c.args.definition.now row c.requires.owners c.requires.there (sym c.in-Some.ensures) in
    let many : length c.owners.result.now ≡ length (owners db (name_of c.args.table.0 c.args.definition.now row)) = ap length c.owners.ensures ∙ listed in
    let some : 0 < length (owners db (name_of c.args.table.0 c.args.definition.now row)) = subst (λ n. 0 < n) many (some_from (length c.owners.result.now) (sym c.is_empty.ensures ∙ c.if-is_empty.false)) in
    none_before-more (owner_rule db c.args.table.0 c.args.definition.now rows) rows c.loop-at.at c.loop-at.invariant row (sym c.in-Some.ensures)
    (owned-none db c.args.table.0 c.args.definition.now rows row some)

pub returns-in-None : goal.returns-in-None
returns-in-None g c =
    let db = g.V.StoreView.db c.args.view.now in
    let rows = rows_at db.rows c.args.table.0 in
    sym (none_before-gone (owner_rule db c.args.table.0 c.args.definition.now rows) rows c.loop-at.at c.loop-at.invariant (sym c.in-None.ensures))

pub returns-then-is_empty : goal.returns-then-is_empty
returns-then-is_empty g c =
    let db = g.V.StoreView.db c.args.view.now in
    let rows = rows_at db.rows c.args.table.0 in
    let row = c.in-Some.row.now in
    let listed = Sets-at db (owners db) c.args.sets.now.owners c.args.table.0 c.loop-at.at c.args.definition.now row c.requires.owners c.requires.there (sym c.in-Some.ensures) in
    let many : length (owners db (name_of c.args.table.0 c.args.definition.now row)) ≡ length c.owners.result.now = sym listed ∙ ap length (sym c.owners.ensures) in
    let none : length (owners db (name_of c.args.table.0 c.args.definition.now row)) ≡ 0 = many ∙ none_from (length c.owners.result.now) (sym c.is_empty.ensures ∙ c.if-is_empty.true) in
    let private : is_private db.schema c.args.table.0 ≡ true =
    ap (λ (schema : Schema). is_private schema c.args.table.0) (sym c.schema.ensures) ∙ (sym c.is_private.ensures ∙ c.if-not-is_private.false) in
    ap Some c.in_ok-fault.ensures
    ∙ sym (none_before-found (owner_rule db c.args.table.0 c.args.definition.now rows) rows c.loop-at.at c.loop-at.invariant row _ (sym c.in-Some.ensures)
    (unowned-some db c.args.table.0 c.args.definition.now rows row (g.met.V.StoreView.ordered c.args.view.now) c.requires.owner private none))

pub returns : goal.returns
returns g c =
    let db = g.V.StoreView.db c.args.view.now in
    let rows = rows_at db.rows c.args.table.0 in
    let past : length rows ≤ c.loop-at.at = subst (λ n. n ≤ c.loop-at.at) c.count-at-end.ensures c.loop-at-test.false in
    sym (none_before-end (owner_rule db c.args.table.0 c.args.definition.now rows) rows c.loop-at.at c.loop-at.invariant past)
