-- What is wrong with a CREATE VIEW besides its select.
use Rattle.std.specs.Prelude.{◌+◌, List, [], ◌∷◌, ◌++◌, length, nat_lt, if◌then◌else◌}
use Rattle.own_model.specs.declared.create.CreateView.{CreateView}
use Rattle.own_model.specs.declared.limit.LimitName.TheVariants as limit
use Rattle.own_model.specs.declared.limit.TheConstants.{VIEWS}
use Rattle.own_model.specs.declared.refusal.Refusal.{Refusal}
use Rattle.own_model.specs.declared.refusal.Refusal.TheVariants.{Limit, NameTaken}
use Rattle.own_model.specs.declared.schema.Schema.{Schema}
use Rattle.schema_model.specs.Tables.{is_taken}
use Rattle.query_model.specs.BoundView.{repeated_after}
use Rattle.query_model.specs.Scope.{NameBytes}

-- its name, its columns by these names, one view too many
abbrev pub own_faults : Schema → CreateView → List NameBytes → List Refusal
own_faults schema create names = (if is_taken schema create.name then NameTaken create.name ∷ [] else [])
    ++ repeated_after [] names
    ++ (if nat_lt VIEWS (length schema.views + 1) then Limit limit.Views ∷ [] else [])
