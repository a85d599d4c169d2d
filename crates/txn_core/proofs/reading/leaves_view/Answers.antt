use Rattle.std.proofs.Common.{◌≡◌, ◌≢◌, ◌∙◌, [], Bool, ap, refl, subst, sym, true}
use Rattle.std.specs.Prelude.{MatchBool}
use Rattle.std.proofs.lemmas.Option.{slice_get_read}
use Rattle.own_model.specs.declared.schema.ViewDef.{ViewDef}
use Rattle.txn_space.specs.Entries.{entries_at}
use Rattle.txn_core.proofs.ViewsLeft.{left_of_pair, left_of_table}
use Rattle.txn_core.proofs.reading.leaves_view.Goals as goal

pub returns-in-Table : goal.returns-in-Table
returns-in-Table g c told =
    let db = g.V.StoreView.db c.args.version.now in
    let own = rw (c.items.ensures, c.schema.ensures) at c.index-items-number.is in
    let source = ap (λ (view : ViewDef). view.query.source) c.index-items-number.is ∙ c.in-Table.is in
    let none = subst (λ (b : Bool). MatchBool b (entries_at c.args.space.now c.in-Table.table.0 ≡ []) (entries_at c.args.space.now c.in-Table.table.0 ≢ [])) told c.leaves.ensures in
    left_of_table db c.args.space.now c.requires.store c.args.number c.index-items-number.result (slice_get_read db.schema.views _ c.args.number.0 c.index-items-number.result refl c.requires.there own) c.in-Table.table source none

pub returns-then-leaves : goal.returns-then-leaves
returns-then-leaves g c told =
    let db = g.V.StoreView.db c.args.version.now in
    let own = rw (c.items.ensures, c.schema.ensures) at c.index-items-number.is in
    let source = ap (λ (view : ViewDef). view.query.source) c.index-items-number.is ∙ c.in-Pair.is in
    let none = subst (λ (b : Bool). MatchBool b (entries_at c.args.space.now c.in-Pair.right.0 ≡ []) (entries_at c.args.space.now c.in-Pair.right.0 ≢ [])) told c.leaves-then-leaves.ensures in
    left_of_pair db c.args.space.now c.requires.store c.args.number c.index-items-number.result (slice_get_read db.schema.views _ c.args.number.0 c.index-items-number.result refl c.requires.there own) c.in-Pair.left c.in-Pair.right c.in-Pair.left_column c.in-Pair.right_column source c.if-leaves.ensures none
