-- What a CREATE VIEW means, and why it is refused.
use Rattle.std.specs.Prelude.{◌+◌, List, [], ◌∷◌, ◌++◌, Option, None, Some, Result, Ok, Err, length, nat_lt, bytes_eq, if◌then◌else◌}
use Rattle.std.specs.List.{list_any}
use Rattle.own_model.specs.declared.create.CreateView.{CreateView}
use Rattle.own_model.specs.declared.limit.LimitName.TheVariants as limit
use Rattle.own_model.specs.declared.limit.TheConstants.{VIEWS}
use Rattle.own_model.specs.declared.refusal.Refusal.{Refusal}
use Rattle.own_model.specs.declared.refusal.Refusal.TheVariants.{BadSchema, Limit, NameTaken}
use Rattle.own_model.specs.declared.schema.Schema.{Schema}
use Rattle.own_model.specs.declared.schema.ViewDef.{ViewDef}
use Rattle.schema_model.specs.Tables.{is_taken}
use Rattle.query_model.specs.Refused.{lowest}
use Rattle.query_model.specs.Scope.{NameBytes}
use Rattle.query_model.specs.SelectFaults.{no_table, select_faults, select_scope}
use Rattle.query_model.specs.SelectMeaning.{bound_select, output_kinds, output_names}

-- two columns of one name break rule 15; the one that repeats is named
abbrev pub repeated_after : List NameBytes → List NameBytes → List Refusal
repeated_after before [] = []
repeated_after before (name ∷ names) = (if list_any (λ other. bytes_eq other name) before then BadSchema 15 name ∷ [] else []) ++ repeated_after (before ++ name ∷ []) names

-- the names of a view's columns
abbrev pub view_names : Schema → CreateView → List NameBytes
view_names schema create = output_names (select_scope schema create.select) create.select.items

-- All that is wrong with a CREATE VIEW: a view reads no view; its select; its name; its columns; one view too many.
unfoldable pub view_faults : Schema → CreateView → List Refusal
view_faults schema create = no_table schema create.select.from ++ select_faults schema create.select
    ++ (if is_taken schema create.name then NameTaken create.name ∷ [] else [])
    ++ repeated_after [] (view_names schema create)
    ++ (if nat_lt VIEWS (length schema.views + 1) then Limit limit.Views ∷ [] else [])

-- the view that it adds
unfoldable pub new_view : Schema → CreateView → ViewDef
new_view schema create = record {
  name = create.name;
  query = bound_select schema create.select;
  names = view_names schema create;
  kinds = output_kinds (select_scope schema create.select) create.select.items;
}

abbrev pub view_unless : Option Refusal → ViewDef → Result ViewDef Refusal
view_unless None view = Ok view
view_unless (Some fault) view = Err fault

-- the first fault of the lowest rank, else the view
unfoldable pub bound_view : Schema → CreateView → Result ViewDef Refusal
bound_view schema create = view_unless (lowest (view_faults schema create)) (new_view schema create)
