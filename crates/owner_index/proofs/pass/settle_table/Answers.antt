use Rattle.std.proofs.Common.{List, sym, subst}
use Rattle.std.proofs.lemmas.List.{take_all}
use Rattle.std.specs.Prelude.{filter}
use Rattle.own_base.specs.declared.row_name.RowName.{RowName}
use Rattle.owner_index.specs.Settled.{AreNamesOf}
use Rattle.owner_index.specs.Names.{HasSame, is_of}
use Rattle.owner_index.proofs.SettleLemmas.{some-end, some-more, some-start}
use Rattle.owner_index.proofs.NamesLemmas.{names-of}
use Rattle.owner_index.proofs.pass.settle_table.Goals as goal

pub loop-name-init : goal.loop-name-init
loop-name-init g c =
    let of : AreNamesOf c.args.table c.args.work.now c.items-name-items.result.now = subst (λ (work : List RowName). AreNamesOf c.args.table work c.items-name-items.result.now) c.items.ensures
    (names-of c.args.table c.items.result.now c.items-name-items.result.now (subst (HasSame (filter (is_of c.args.table) c.items.result.now)) (sym c.items-name-items.ensures) c.in_ok-names.ensures)) in
    some-start (g.V.StoreView.db c.args.view.now) c.args.table c.items-name-items.result.now c.args.index.now c.args.work.now of

-- one name more is settled
pub loop-name-preserved : goal.loop-name-preserved
loop-name-preserved g c =
    let of : AreNamesOf c.args.table c.args.work.now c.items-name-items.result.now = subst (λ (work : List RowName). AreNamesOf c.args.table work c.items-name-items.result.now) c.items.ensures
    (names-of c.args.table c.items.result.now c.items-name-items.result.now (subst (HasSame (filter (is_of c.args.table) c.items.result.now)) (sym c.items-name-items.ensures) c.in_ok-names.ensures)) in
    some-more (g.V.StoreView.db c.args.view.now) c.args.table c.items-name-items.result.now c.args.index.now c.args.work.now of c.requires.owner c.loop-name.name-index c.name-item.result c.loop-name-test.true c.name-item.is
    c.loop-name.index c.settle.new.index c.loop-name.work c.settle.new.work c.loop-name.invariant c.in_ok-settle.ensures

pub returns : goal.returns
returns g c =
    let of : AreNamesOf c.args.table c.args.work.now c.items-name-items.result.now = subst (λ (work : List RowName). AreNamesOf c.args.table work c.items-name-items.result.now) c.items.ensures
    (names-of c.args.table c.items.result.now c.items-name-items.result.now (subst (HasSame (filter (is_of c.args.table) c.items.result.now)) (sym c.items-name-items.ensures) c.in_ok-names.ensures)) in
    some-end (g.V.StoreView.db c.args.view.now) c.args.table c.items-name-items.result.now c.args.index.now c.args.work.now of c.loop-name.name-index c.loop-name.index c.loop-name.work
    (take_all c.loop-name.name-index c.items-name-items.result.now c.loop-name-test.false) c.loop-name.invariant
