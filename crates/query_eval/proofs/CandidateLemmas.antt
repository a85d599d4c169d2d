-- Rows among which WHERE finds all that it keeps.
use Rattle.std.proofs.Common.{◌≡◌, ℕ, ◌+◌, ◌<◌, ◌≤◌, zero, suc, List, [], ◌∷◌, ◌++◌, Bool, true, false, cond, Option, Some, None, inl, inr, drop, length, map, take, refl, sym, ap, ◌∙◌, subst, arith, get_or}
use Rattle.std.specs.Prelude.{slice_get}
use Rattle.std.specs.List.{AllByRecursion as Each, filter}
use Rattle.std.specs.Option.{option_map_or}
use Rattle.std.proofs.lemmas.List.{take_more}
use Rattle.std.proofs.lemmas.List.Elements.{All-append, All-cons, All-filter, All-from_get_or, All-get_or, All-nil, filter-append, recursion_from_All}
use Rattle.std.proofs.lemmas.Option.{get_or_from_slice_get, slice_get_cases}
use Rattle.own_base.specs.declared.number.TableNo.{TableNo}
use Rattle.own_base.specs.declared.value.Value.{Value}
use Rattle.own_model.specs.declared.bound.BoundCond.{BoundCond}
use Rattle.own_model.specs.declared.condition.Cmp.TheVariants.{Eq}
use Rattle.own_model.specs.declared.schema.Column.{Column}
use Rattle.own_model.specs.declared.schema.Schema.{Schema}
use Rattle.own_model.specs.declared.schema.TableDef.{TableDef}
use Rattle.own_model.specs.Db.{Row}
use Rattle.own_model.specs.Stored.{rows_at}
use Rattle.link_model.specs.Indexed.{is_indexed, is_indexed_at}
use Rattle.query_model.specs.Footprints.{key_column}
use Rattle.query_model.specs.Stored.{AreStored, IsStoredRow}
use Rattle.query_model.specs.Truth.{cell, compared, comparison, is_true, keeps}
use Rattle.query_eval.specs.declared.key_range.Span.{Span}
use Rattle.query_eval.specs.Candidates.{AreCandidates, IsSeenWhole, IsWanted}
use Rattle.query_eval.specs.KeyRange.{IsSeen, IsSpanOf, is_taken, row_in}
use Rattle.query_eval.specs.Meetings.{meeting, meets}
use Rattle.query_eval.proofs.MeetingRows.{meets-back}
use Rattle.query_eval.proofs.SpanRows.{front_gives_none, kept_of_span}

-- a test that passes less finds the same among what another passes
passing_among : (passes wide : Row → Bool) (rows : List Row) → Each (λ row. passes row ≡ true → wide row ≡ true) rows → filter passes (filter wide rows) ≡ filter passes rows
passing_among passes wide [] implied = refl
passing_among passes wide (row ∷ rows) implied = by (wide row) (passes row) refl refl (passing_among passes wide rows implied.1)
  where
    by : (w p : Bool) → wide row ≡ w → passes row ≡ p → filter passes (filter wide rows) ≡ filter passes rows → filter passes (cond w (row ∷ filter wide rows) (filter wide rows)) ≡ filter passes (row ∷ rows)
    by true true wider here more = rw here (ap (λ (rest : List Row). row ∷ rest) more)
    by true false wider here more = rw here more
    by false true wider here more = let never : false ≡ true = sym wider ∙ implied.0 here in cc
    by false false wider here more = rw here more

-- what is so of the row at each place is so of each row
each_from : (P : Row → Type 0) (rows : List Row) → ((k : ℕ) → k < length rows → P (row_in rows k)) → Each P rows
each_from P rows at = recursion_from_All P rows (All-from_get_or P rows [] at)

module _ (table : TableDef) (condition : Option BoundCond) (all : List Row) where
  -- what is seen whole is seen by each column
  seen_by_key : (passes : Row → Bool) → IsSeenWhole table (keeps condition) all passes → IsSeen table.key.0 (keeps condition) all passes
  seen_by_key passes seen k within passed = let one = seen k within passed in (one.0, one.2, one.3)

  -- rows that have what WHERE wants in a column
  pub wanted_candidates : (column : ℕ) (value : Value) → column < length table.columns → IsWanted (keeps condition) column value → AreStored all → AreCandidates table condition all (meeting value column all)
  wanted_candidates column value within want stored = record {
    stored = All-filter (λ row. meets value (cell row column)) IsStoredRow all stored;
    each = λ passes seen. passing_among passes (λ row. meets value (cell row column)) all
        (each_from (λ row. passes row ≡ true → meets value (cell row column) ≡ true) all
        (λ k here passed.
        let one = seen k here passed in
        let taken : is_true (comparison Eq (compared (cell one.0 column) value)) ≡ true = want.taken one.0 one.3 in
        meets-back value (cell (row_in all k) column) ∙ subst (λ (own : Value). is_true (comparison Eq (compared own value)) ≡ true) (one.1 column within) taken));
  }

  -- rows of a span that has each row which WHERE sees by the primary key
  pub span_candidates : (span : Span) (key : ℕ) (rows : List Row) → key ≡ table.key.0 → ((passes : Row → Bool) → IsSeen key (keeps condition) all passes → IsSpanOf passes all span)
      → AreStored rows → ((passes : Row → Bool) → IsSpanOf passes all span → filter passes rows ≡ filter passes all) → AreCandidates table condition all rows
  span_candidates span key rows is spans stored each = record {
    stored = stored;
    each = λ passes seen. each passes (spans passes (subst (λ (column : ℕ). IsSeen column (keeps condition) all passes) (sym is) (seen_by_key passes seen)));
  }

  -- what WHERE keeps of them is what it keeps of all
  pub kept_candidates : (some : List Row) → AreCandidates table condition all some → filter (keeps condition) some ≡ filter (keeps condition) all
  kept_candidates some are = are.each (keeps condition) (λ k within passed. (row_in all k, (λ column inside. refl), refl, passed))

-- the rows of a span before a place
pub record RowsUpto (all : List Row) (span : Span) (at : ℕ) (rows : List Row) : Type 0 where
  pub within : at ≤ length all
  pub stored : AreStored rows
  pub each : (passes : Row → Bool) → IsSpanOf passes all span → filter passes rows ≡ filter passes (take at all)

module _ (all : List Row) (span : Span) where
  pub upto-start : span.from ≤ length all → RowsUpto all span span.from []
  upto-start begins = record { within = begins; stored = All-nil IsStoredRow; each = λ passes is. front_gives_none passes all span is }

  pub upto-more : (at : ℕ) (rows more : List Row) (row : Row) → RowsUpto all span at rows → slice_get all at ≡ Some row → at < length all → AreStored all → more ≡ rows ++ row ∷ [] → RowsUpto all span (at + 1) more
  upto-more at rows more row so_far is within stored added =
      let own : IsStoredRow row = subst IsStoredRow (get_or_from_slice_get all at row row is) (All-get_or IsStoredRow all at row within stored) in
      let next : take (at + 1) all ≡ take at all ++ row ∷ [] = take_more all at row within ∙ ap (λ (one : Row). take at all ++ one ∷ []) (get_or_from_slice_get all at row row is) in
      record {
        within = omega arith;
        stored = subst AreStored (sym added) (All-append IsStoredRow rows (row ∷ []) so_far.stored (All-cons IsStoredRow row [] own (All-nil IsStoredRow)));
        each = λ passes spans.
            ap (filter passes) added ∙ filter-append passes rows (row ∷ []) ∙ ap (λ (front : List Row). front ++ filter passes (row ∷ [])) (so_far.each passes spans)
            ∙ sym (filter-append passes (take at all) (row ∷ [])) ∙ ap (filter passes) (sym next);
      }

  pub upto-end : (at : ℕ) (rows : List Row) → RowsUpto all span at rows → span.upto ≤ at → (passes : Row → Bool) → IsSpanOf passes all span → filter passes rows ≡ filter passes all
  upto-end at rows so_far past passes spans = so_far.each passes spans ∙ kept_of_span passes all span spans at past

-- an indexed column is one of its table
column_within : (columns : List Column) (number : ℕ) → option_map_or is_indexed (slice_get columns number) false ≡ true → number < length columns
column_within [] number is = cc
column_within (column ∷ columns) zero is = omega arith
column_within (column ∷ columns) (suc number) is = let more = column_within columns number is in omega arith

pub indexed_within : (schema : Schema) (table : ℕ) (column : ℕ) (definition : TableDef) → slice_get schema.tables table ≡ Some definition → is_indexed_at schema table column ≡ true → column < length definition.columns
indexed_within schema table column definition at is =
    column_within definition.columns column
    (sym (ap (λ (own : Option TableDef). option_map_or (λ one. option_map_or is_indexed (slice_get one.columns column) false) own false) at) ∙ is)

-- the primary key of a table that is there
pub key_of_table : (schema : Schema) (table : TableNo) (definition : TableDef) → slice_get schema.tables table.0 ≡ Some definition → key_column schema table ≡ definition.key.0
key_of_table schema table definition at = ap (λ (own : Option TableDef). option_map_or (λ one. one.key.0) own 0) at

-- a table that is there has a definition
pub definition_at : (schema : Schema) (table : TableNo) → table.0 < length schema.tables → (definition : TableDef) × (slice_get schema.tables table.0 ≡ Some definition)
definition_at schema table there = elim ((slice_get_cases schema.tables table.0).1) [
  | inl (definition, within, found, is) ↦ (definition, found)
  | inr (past, none) ↦ absurd (omega arith)
]

-- what WHERE keeps of the candidates of a table is what it keeps of the table
pub kept_from : (schema : Schema) (rows : List (List Row)) (table : TableNo) (condition : Option BoundCond) (some : List Row) → table.0 < length schema.tables
    → ((definition : TableDef) → slice_get schema.tables table.0 ≡ Some definition → AreCandidates definition condition (rows_at rows table.0) some) → filter (keeps condition) some ≡ filter (keeps condition) (rows_at rows table.0)
kept_from schema rows table condition some there are =
    let own = definition_at schema table there in
    kept_candidates own.0 condition (rows_at rows table.0) some (are own.0 own.1)
