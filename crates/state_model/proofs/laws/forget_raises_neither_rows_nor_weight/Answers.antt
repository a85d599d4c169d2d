use Rattle.state_model.proofs.CreatedSchema.{owner_schema-created}
use Rattle.state_model.proofs.ForgetLimits.{lighter, rows-fewer}
use Rattle.state_model.proofs.OwnersLeft.{owners-stay}
use Rattle.state_model.proofs.laws.forget_raises_neither_rows_nor_weight.Goals as goal

pub returns-clause-rows : goal.returns-clause-rows
returns-clause-rows c = rows-fewer

pub returns-clause-weight : goal.returns-clause-weight
returns-clause-weight c db subject of_subjects kept =
    let owner = owner_schema-created db kept.created in
    lighter db subject kept.ordered owner (owners-stay db subject kept.ordered owner of_subjects)
