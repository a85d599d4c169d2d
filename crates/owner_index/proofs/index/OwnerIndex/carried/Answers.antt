use Rattle.std.proofs.Common.{List, subst}
use Rattle.own_base.specs.declared.row_name.RowName.{RowName}
use Rattle.owner_index.specs.Entry.{Entry}
use Rattle.owner_index.specs.HeldMoves.{AreHeldMoves, DoRise}
use Rattle.owner_index.specs.Settled.{SettlesAll}
use Rattle.owner_index.proofs.AfterLemmas.{moves_after, stands_after}
use Rattle.owner_index.proofs.index.OwnerIndex.carried.Goals as goal

pub returns-clause-stands : goal.returns-clause-stands
returns-clause-stands g c =
    let db = g.V.StoreView.db c.args.view.now in
    let settles : SettlesAll db c.args.self.now c.settle_all.new.index c.in_ok-work.work c.settle_all.new.work =
    subst (λ (old : List Entry). SettlesAll db old c.settle_all.new.index c.in_ok-work.work c.settle_all.new.work) c.in_ok-after.ensures c.in_ok-settle_all.ensures in
    stands_after db (g.met.V.StoreView.ordered c.args.view.now) c.requires.owner c.args.changes.now c.args.self.now c.settle_all.new.index c.in_ok-work.work c.settle_all.new.work c.in_ok-work.ensures settles

pub returns-clause-moves : goal.returns-clause-moves
returns-clause-moves g c =
    let db = g.V.StoreView.db c.args.view.now in
    let settles : SettlesAll db c.args.self.now c.settle_all.new.index c.in_ok-work.work c.settle_all.new.work =
    subst (λ (old : List Entry). SettlesAll db old c.settle_all.new.index c.in_ok-work.work c.settle_all.new.work) c.in_ok-after.ensures c.in_ok-settle_all.ensures in
    moves_after db (g.met.V.StoreView.ordered c.args.view.now) c.requires.owner c.args.changes.now c.args.self.now c.settle_all.new.index c.in_ok-work.work c.settle_all.new.work c.in_ok-work.ensures settles
    c.all_names-names.result c.in_ok-moves.moves c.all_names-names.ensures
    (subst (λ (names : List RowName). DoRise c.args.self.now → DoRise c.settle_all.new.index → AreHeldMoves c.args.self.now c.settle_all.new.index names c.in_ok-moves.moves) c.items.ensures c.in_ok-moves.ensures)
