use Rattle.std.proofs.Common.{subst, List}
use Rattle.own_base.specs.declared.change.Change.{Change}
use Rattle.own_model.specs.declared.schema.TableDef.{TableDef}
use Rattle.view_deltas.specs.Changes.{FollowsAll}
use Rattle.view_deltas.specs.Groups.{KeepsGroups}
use Rattle.view_deltas.specs.Plain.{KeepsPlain}
use Rattle.view_deltas.proofs.ViewLemmas.{groups_built, plain_built}
use Rattle.view_deltas.proofs.kept_view.KeptView.of_table.Goals as goal

pub returns-then-query : goal.returns-then-query
returns-then-query g c =
    groups_built (g.V.StoreView.db c.args.view.now) (g.met.V.StoreView.ordered c.args.view.now) c.args.table c.args.query.now c.in_ok-changes.changes c.in_ok-changes.ensures c.in_ok-none.none c.in_ok-groups.groups c.requires
    c.in_ok-none.ensures c.if-query.true
    (subst (λ (changes : List Change). (table : TableDef) → FollowsAll (KeepsGroups c.args.query.now) c.args.table.0 table changes c.in_ok-none.none c.in_ok-groups.groups) c.items.ensures c.in_ok-groups.ensures)

pub returns : goal.returns
returns g c =
    plain_built (g.V.StoreView.db c.args.view.now) (g.met.V.StoreView.ordered c.args.view.now) c.args.table c.args.query.now c.in_ok-changes.changes c.in_ok-changes.ensures c.new-none.result c.in_ok-entries.entries c.new-none.ensures c.if-query.false
    (subst (λ (changes : List Change). (table : TableDef) → FollowsAll (KeepsPlain table c.args.query.now) c.args.table.0 table changes c.new-none.result c.in_ok-entries.entries) c.items-2.ensures c.in_ok-entries.ensures)
