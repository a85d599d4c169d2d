-- A SELECT of the row under a key: what it means, what it holds and what it shows.
use Prim.Native.String.{String}
use Rattle.std.proofs.Common.{◌≡◌, ◌∙◌, ℕ, List, [], ◌∷◌, ◌++◌, false, None, Some, Ok, ap, filter, map}
use mathlib.Core.Path.{fun_ext}
use Rattle.own_base.specs.declared.number.TableNo.{TableNo}
use Rattle.own_model.specs.declared.bound.Bound.TheVariants as bound
use Rattle.own_model.specs.declared.bound.BoundCond.TheOpen.{BoundCond-F}
use Rattle.own_model.specs.declared.bound.BoundOperand.TheVariants as bound_operand
use Rattle.own_model.specs.declared.bound.BoundSelect.{BoundSelect}
use Rattle.own_model.specs.declared.bound.Source1.TheVariants as source
use Rattle.own_model.specs.declared.condition.Cmp.TheVariants.{Eq}
use Rattle.own_model.specs.declared.condition.Cond.TheOpen.{Cond-F}
use Rattle.own_model.specs.declared.condition.Operand.TheVariants as operand
use Rattle.own_model.specs.declared.schema.Schema.{Schema}
use Rattle.own_model.specs.declared.select.Items.TheVariants as items
use Rattle.own_model.specs.declared.select.Select.{Select}
use Rattle.own_model.specs.Db.{Db, Row}
use Rattle.query_model.specs.BoundStatement.{bound_statement, bound_unless, faults, meaning}
use Rattle.query_model.specs.ConditionFaults.{bound_step, fault_step}
use Rattle.query_model.specs.Footprints.{footprint_of, item, key_column, pinned_step}
use Rattle.query_model.specs.Query.{projected, query_rows, reply_of, selected as selected_rows, source_rows}
use Rattle.query_model.specs.Refused.{lowest}
use Rattle.query_model.specs.Scope.{Scope, number_meant}
use Rattle.query_model.specs.SelectFaults.{from_faults, select_faults, select_scope}
use Rattle.query_model.specs.SelectMeaning.{bound_items, bound_select, source_of}
use Rattle.query_model.specs.Truth.{is_true, truth_step}
use Rattle.run_model.specs.Items.{items_if, items_of}
use Rattle.run_model.specs.Run.{answered, run, run_bound, run_unless}
use Rattle.history_tests.specs.Written.{equals, here, int, select_key, selected}
use Rattle.history_tests.proofs.Conditions.{faults_are, holds, means, pins}

-- SELECT * FROM TABLE WHERE id = NUMBER, and the columns that it can name
abbrev pub wanted : String → ℕ → Select
wanted table number = selected items.Star table (equals "id" number)

abbrev pub named_in : Schema → String → ℕ → Scope
named_in schema table number = select_scope schema (wanted table number)

-- its comparison, before and after binding
abbrev pub written_as : {A : Type 0} → ℕ → Cond-F A
written_as number = Cond-F.Compare (here "id") Eq (operand.Literal (int number))

abbrev pub bound_as : {A : Type 0} → Schema → String → ℕ → BoundCond-F A
bound_as schema table number = BoundCond-F.Compare (record { 0 = number_meant (named_in schema table number) (here "id") }) Eq (bound_operand.Literal (int number))

-- what it means
abbrev pub meant : Schema → String → ℕ → BoundSelect
meant schema table number = record {
  source = source_of schema (wanted table number);
  items = bound_items (named_in schema table number) items.Star;
  cond = Some (bound_step (named_in schema table number) (written_as number));
  grouped = false;
  group = None;
  order = None;
}

-- nothing is wrong with it: its table and its column are there, and the column is of numbers
abbrev pub IsRight : Schema → String → ℕ → Type 0
IsRight schema table number = lowest (from_faults schema (wanted table number) ++ (fault_step (named_in schema table number) (written_as number) ++ [] ++ [])) ≡ None

meant_is : (schema : Schema) (table : String) (number : ℕ) → bound_select schema (wanted table number) ≡ meant schema table number
unfolding bound_select
meant_is schema table number =
    ap (λ cond. record (meant schema table number) { cond = Some cond }) (means (named_in schema table number) (here "id") Eq (operand.Literal (int number)))

pub bound_is : (schema : Schema) (table : String) (number : ℕ) → IsRight schema table number
    → bound_statement schema (select_key table number) ≡ Ok (bound.Select (meant schema table number))
unfolding bound_statement faults meaning select_faults
bound_is schema table number right =
    ap (λ found. bound_unless (lowest (from_faults schema (wanted table number) ++ (found ++ [] ++ []))) (bound.Select (bound_select schema (wanted table number))))
    (faults_are (named_in schema table number) (here "id") Eq (operand.Literal (int number)))
    ∙ ap (λ found. bound_unless found (bound.Select (bound_select schema (wanted table number)))) right
    ∙ ap (λ query. Ok (bound.Select query)) (meant_is schema table number)

-- the row that it holds
pub footprint_is : (schema : Schema) (table : String) (number : ℕ) (at : TableNo) → source_of schema (wanted table number) ≡ source.Table at
    → footprint_of schema (bound.Select (meant schema table number)) ≡ item at (pinned_step (key_column schema at) (bound_as schema table number)).whole false ∷ []
unfolding footprint_of
footprint_is schema table number at stands =
    ap (λ source. footprint_of schema (bound.Select (record (meant schema table number) { source = source }))) stands
    ∙ ap (λ key. item at key false ∷ []) (pins (key_column schema at) _ Eq (bound_operand.Literal (int number)))

pub items_are : (schema : Schema) (table : String) (number : ℕ) (at : TableNo) → IsRight schema table number → source_of schema (wanted table number) ≡ source.Table at
    → items_of schema (select_key table number) ≡ item at (pinned_step (key_column schema at) (bound_as schema table number)).whole false ∷ []
unfolding items_of
items_are schema table number at right stands = ap (items_if schema) (bound_is schema table number right) ∙ footprint_is schema table number at stands

-- the rows that it shows
abbrev pub rows_shown : Db → String → ℕ → List Row
rows_shown db table number = map (projected (meant db.schema table number).items)
    (filter (λ row. is_true (truth_step row (bound_as db.schema table number))) (source_rows db.schema db.rows (source_of db.schema (wanted table number))))

rows_are : (db : Db) (table : String) (number : ℕ) → query_rows db.schema db.rows (meant db.schema table number) ≡ rows_shown db table number
unfolding query_rows selected_rows
rows_are db table number =
    ap (λ test. map (projected (meant db.schema table number).items) (filter test (source_rows db.schema db.rows (source_of db.schema (wanted table number)))))
    (fun_ext (λ row. ap is_true (holds row _ Eq (bound_operand.Literal (int number)))))

pub runs : (db : Db) (table : String) (number : ℕ) → IsRight db.schema table number
    → run db (select_key table number) ≡ answered db (reply_of (rows_shown db table number))
unfolding run run_bound
runs db table number right = ap (run_unless db) (bound_is db.schema table number right) ∙ ap (λ rows. answered db (reply_of rows)) (rows_are db table number)
