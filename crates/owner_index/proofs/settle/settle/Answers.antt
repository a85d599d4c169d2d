use Rattle.std.proofs.Common.{subst}
use Rattle.own_base.specs.declared.row_name.RowName.{RowName}
use Rattle.owner_index.specs.Held.{SetsAt}
use Rattle.owner_index.proofs.OneRowLemmas.{settles-same, settles-set}
use Rattle.owner_index.proofs.settle.settle.Goals as goal

pub returns-then-are_held : goal.returns-then-are_held
returns-then-are_held g c =
    settles-same (g.V.StoreView.db c.args.view.now) c.args.name.now c.args.index.now c.in_ok-subjects.subjects.owners c.in_ok-subjects.subjects.reach
    (record { owners = c.in_ok-subjects.ensures.owners; reach = c.in_ok-subjects.ensures.reach }) c.args.work.now (c.are_held.ensures.owners c.if-are_held.true) (c.are_held.ensures.reach c.if-are_held.true)

pub returns : goal.returns
returns g c =
    settles-set (g.V.StoreView.db c.args.view.now) c.args.name.now c.args.index.now c.in_ok-subjects.subjects.owners c.in_ok-subjects.subjects.reach
    (record { owners = c.in_ok-subjects.ensures.owners; reach = c.in_ok-subjects.ensures.reach }) c.set.new.self c.args.work.now c.add_heirs.new.work
    (subst (λ (key : RowName). SetsAt key c.in_ok-subjects.subjects.owners c.in_ok-subjects.subjects.reach c.args.index.now c.set.new.self) c.in_ok-key.ensures c.in_ok-set.ensures)
    c.in_ok-add_heirs.ensures.longer c.in_ok-add_heirs.ensures.below
