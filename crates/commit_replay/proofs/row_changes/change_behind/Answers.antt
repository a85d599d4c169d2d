use Rattle.std.proofs.Common.{ap, subst}
use Rattle.std.specs.Prelude.{None, Some}
use Rattle.std.specs.Option.{option_copied, option_map}
use Rattle.own_base.specs.declared.row_name.RowName.{RowName}
use Rattle.own_model.specs.Db.{key_of}
use Rattle.commit_replay.specs.RowChanges.{IsBehind}
use Rattle.commit_replay.proofs.FitLemmas.{own-key}
use Rattle.commit_replay.proofs.row_changes.change_behind.Goals as goal

pub returns : goal.returns
returns c =
    let stands = c.may_stand.ensures.0 c.if-not-may_stand.false in
    let name = c.in_ok-name.ensures in
    let after = c.in_ok-after.ensures in
    let behind = subst (IsBehind (option_map (key_of c.args.table.now) (option_copied c.args.last))) (ap (λ (name : RowName). name.key) name) (c.is_behind.ensures.0 c.if-not-is_behind.false) in
    ((λ i. record { name = name i; before = None; after = Some (after i) }), ((key_of c.args.table.now c.args.row.now, own-key c.args.table.now c.args.row.now stands), behind))
