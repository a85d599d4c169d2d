-- What a subject's erasure removes and changes.
use Rattle.std.specs.Prelude.{◌≡◌, List, [], ◌∷◌, ◌++◌, Bool, not, filter, is_some, map, if◌then◌else◌}
use Rattle.std.specs.List.{AllByRecursion}
use Rattle.own_base.specs.declared.change.Change.{Change}
use Rattle.own_base.specs.declared.row_name.RowName.{RowName}
use Rattle.own_model.specs.Db.{Db}
use Rattle.subject_model.specs.Forget.{changed, forget, removed}
use Rattle.state_model.specs.ChangeOf.{IsChangeOf}
use Rattle.subject_erase.specs.declared.plan.ErasePlan.{ErasePlan}

-- a change that leaves a row
abbrev pub leaves_row : Change → Bool
leaves_row change = is_some change.after

-- of changes the names of the rows that go, and those that leave a row
abbrev pub plan_of : List Change → ErasePlan
plan_of changes = record { removed = map (λ change. change.name) (filter (λ change. not (leaves_row change)) changes); changed = filter leaves_row changes }

-- a plan with one change more
abbrev pub plan_with : ErasePlan → Change → ErasePlan
plan_with plan change =
    if leaves_row change then record plan { changed = plan.changed ++ change ∷ [] }
    else record plan { removed = plan.removed ++ change.name ∷ [] }

-- the rows that don't stay, and those that stay with a changed value, both by table, then key; of these each change tells the row
-- as it is and as the erasure leaves it
pub record IsPlan (db : Db) (subject : RowName) (plan : ErasePlan) : Type 0 where
  pub removed : plan.removed ≡ removed db subject
  pub changed : map (λ change. change.name) plan.changed ≡ changed db subject
  pub each : AllByRecursion (IsChangeOf db (forget db subject)) plan.changed
