use Rattle.std.proofs.Common.{◌≡◌, Bool, List, not, filter, ap, sym, ◌∙◌, arith}
use Rattle.std.specs.List.{filter_map, flat_map, slice_get}
use Rattle.std.specs.Option.{option_to_list}
use Rattle.own_model.specs.declared.create.Part.{Part}
use Rattle.own_model.specs.declared.create.CreateTable.{CreateTable}
use Rattle.schema_model.specs.Columns.{NameBytes, column_names, is_named}
use Rattle.schema_model.specs.rules.MissingColumns.{missing_columns, stands_on}
use Rattle.schema_rules.proofs.Firsts.{filter-filter_map, flat_map_first, flat_map_none, none_of_all}
use Rattle.schema_rules.proofs.columns.missing_columns.Goals as goal

-- whether a table lacks a column
abbrev is_missing : CreateTable → NameBytes → Bool
is_missing create name = not (is_named (column_names create) name)

-- the column that a part stands on, where the table lacks it
abbrev missing_on : CreateTable → Part → List NameBytes
missing_on create part = filter (is_missing create) (option_to_list (stands_on part))

-- the rule's list, part by part
by_parts : (create : CreateTable) (parts : List Part) → parts ≡ create.parts → slice_get (flat_map (missing_on create) parts) 0 ≡ slice_get (missing_columns create) 0
unfolding missing_columns
by_parts create parts whole =
    ap (λ names. slice_get names 0)
    (sym (filter-filter_map (is_missing create) stands_on parts) ∙ ap (λ parts. filter (is_missing create) (filter_map stands_on parts)) whole)

pub returns-in-Some : goal.returns-in-Some
returns-in-Some c =
    let create = c.args.draft.now in
    let parts = c.items-part-items.result.now in
    flat_map_first (missing_on create) parts c.loop-part.part-index c.part-item.result (omega arith) c.part-item.is c.loop-part.invariant _ c.in-Some.ensures
    ∙ by_parts create parts (c.items-part-items.ensures ∙ ap (λ create. create.parts) c.create.ensures)

pub loop-part-preserved : goal.loop-part-preserved
loop-part-preserved c =
    flat_map_none (missing_on c.args.draft.now) c.items-part-items.result.now c.loop-part.part-index c.part-item.result (omega arith) c.part-item.is c.loop-part.invariant c.in_default.ensures

pub returns : goal.returns
returns c =
    let create = c.args.draft.now in
    let parts = c.items-part-items.result.now in
    none_of_all (flat_map (missing_on create)) parts c.loop-part.part-index (omega arith) c.loop-part.invariant
    ∙ by_parts create parts (c.items-part-items.ensures ∙ ap (λ create. create.parts) c.create.ensures)
