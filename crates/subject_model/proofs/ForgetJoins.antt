-- Joins and paths that a FORGET leaves were there before.
use Rattle.std.proofs.Common.{◌≡◌, ℕ, [], ◌∷◌, Bool, true, false, refl, ap, sym, ◌∙◌}
use Rattle.std.specs.Prelude.{Option, Some, None, slice_get}
use Rattle.std.specs.List.{AllByRecursion}
use Rattle.std.specs.Option.{option_and_then, option_map}
use Rattle.std.proofs.lemmas.Bool.{and_from, and_parts}
use Rattle.own_base.specs.declared.row_name.RowName.{RowName}
use Rattle.own_base.specs.declared.value.Key.{Key}
use Rattle.own_base.specs.declared.value.Key.TheVariants as keyed
use Rattle.own_base.specs.declared.value.Value.{Value}
use Rattle.own_model.specs.declared.schema.Edge.{Edge}
use Rattle.own_model.specs.Db.{Db, Row}
use Rattle.owner_model.specs.Joins.{Joins, holder_of, other_of, row_of, value_at, value_of}
use Rattle.schema_model.specs.OwnerSchema.{IsOwnerSchema}
use Rattle.schema_model.specs.Tables.{is_subject}
use Rattle.subject_model.specs.Forget.{forget, loses}
use Rattle.subject_model.specs.Named.{is_there}
use Rattle.subject_model.specs.Paths.{IsPath, Path, Step, is_subject_row}
use Rattle.subject_model.specs.Stays.{stays}
use Rattle.subject_model.proofs.ForgetKeys.{get_left, kept_value}
use Rattle.subject_model.proofs.ForgetRows.{is_left, is_there-forget}

-- a value that is kept and is a key's was that value
was_key : (lost : Bool) (value : Value) (key : Key) → kept_value lost value ≡ value_of key → value ≡ value_of key
was_key true value (keyed.Int number) is = cc
was_key true value (keyed.Text bytes) is = cc
was_key false value key is = is

-- a data subject is there
pub subject_there : (db : Db) (name : RowName) → is_subject_row db name ≡ true → is_there db name ≡ true
unfolding is_subject_row
subject_there db name is = (and_parts (is_subject db.schema name.table.0) (is_there db name) is).1

module _ (db : Db) (subject : RowName) (owner : IsOwnerSchema db.schema) where
  -- a row that is there after a FORGET was there
  pub was_there : (name : RowName) → is_there (forget db subject) name ≡ true → is_there db name ≡ true
  was_there name there = (and_parts _ _ (sym (is_there-forget db subject name owner) ∙ there)).0

  -- and stays
  pub there_stays : (name : RowName) → is_there (forget db subject) name ≡ true → stays db subject name ≡ true
  there_stays name there = (and_parts _ _ (sym (is_there-forget db subject name owner) ∙ there)).1

  -- and a row that stays is there after it
  pub there_after : (name : RowName) → is_there db name ≡ true → stays db subject name ≡ true → is_there (forget db subject) name ≡ true
  there_after name there stay = is_there-forget db subject name owner ∙ and_from _ _ there stay

  value_case : (key : Key) (column : ℕ) (row left : Row) (lost : Value → Bool) → slice_get left column ≡ option_map (λ value. kept_value (lost value) value) (slice_get row column)
      → slice_get left column ≡ Some (value_of key) → slice_get row column ≡ Some (value_of key)
  value_case key column row left lost same is = by _ refl (sym same ∙ is)
    where
      by : (held : Option Value) → slice_get row column ≡ held → option_map (λ value. kept_value (lost value) value) held ≡ Some (value_of key) → slice_get row column ≡ Some (value_of key)
      by None none gives = let never : ◌≡◌ {A = Option Value} None (Some (value_of key)) = gives in cc
      by (Some value) some gives = let kept : kept_value (lost value) value ≡ value_of key = cc in some ∙ ap Some (was_key (lost value) value key kept)

  row_case : (name : RowName) (column : ℕ) (key : Key) (found : Option Row) → row_of (forget db subject) name ≡ found
      → option_and_then (λ row. slice_get row column) found ≡ Some (value_of key) → value_at db name column ≡ Some (value_of key)
  row_case name column key None none is = let never : ◌≡◌ {A = Option Value} None (Some (value_of key)) = is in cc
  row_case name column key (Some left) some is =
      let from = is_left db subject name left owner some in
      let held : slice_get left column ≡ option_map (λ value. kept_value (loses db subject from.table name (column, value)) value) (slice_get from.row column) =
      ap (λ r. slice_get r column) from.left_is ∙ get_left db subject from.table (record { name = name; row = from.row }) column in
      ap (option_and_then (λ row. slice_get row column)) from.row_is ∙ value_case key column from.row left (λ value. loses db subject from.table name (column, value)) held is

  -- a key that a column has after a FORGET it had before
  pub value_was : (name : RowName) (column : ℕ) (key : Key) → value_at (forget db subject) name column ≡ Some (value_of key) → value_at db name column ≡ Some (value_of key)
  value_was name column key is = row_case name column key _ refl is

  -- two rows that an edge joins after it were joined before
  pub joined_before : (lower : RowName) (edge : Edge) (upper : RowName) → Joins (forget db subject) lower edge upper → Joins db lower edge upper
  unfolding forget
  joined_before lower edge upper is = record {
    among = is.among;
    of_lower = is.of_lower;
    of_upper = is.of_upper;
    lower_there = was_there lower is.lower_there;
    upper_there = was_there upper is.upper_there;
    names = value_was (holder_of edge lower upper) edge.column.0 (other_of edge lower upper).key is.names;
  }

  -- a data subject is one that was there and stays
  pub was_subject : (name : RowName) → is_subject_row (forget db subject) name ≡ true → is_subject_row db name ≡ true
  unfolding forget is_subject_row
  was_subject name is =
      let both = and_parts (is_subject db.schema name.table.0) (is_there (forget db subject) name) is in
      and_from _ _ both.0 (was_there name both.1)

  pub subject_after : (name : RowName) → is_subject_row db name ≡ true → is_there (forget db subject) name ≡ true → is_subject_row (forget db subject) name ≡ true
  unfolding forget is_subject_row
  subject_after name is there =
      let both = and_parts (is_subject db.schema name.table.0) (is_there db name) is in
      and_from _ _ both.0 there

  -- a path after a FORGET is that path before
  pub path_before : (from : RowName) (path : Path) (end : RowName) → IsPath (forget db subject) from path end → IsPath db from path end
  path_before from [] end is = (was_subject from is.0, is.1)
  path_before from (step ∷ rest) end is =
      (joined_before from step.edge step.upper is.0, (λ first. is.1.0 (subject_after step.upper first is.0.upper_there), path_before step.upper rest end is.1.1))

  -- and each of its rows stays
  pub path_stays : (from : RowName) (path : Path) (end : RowName) → IsPath (forget db subject) from path end
      → (stays db subject from ≡ true) × AllByRecursion (λ (step : Step). stays db subject step.upper ≡ true) path
  path_stays from [] end is = (there_stays from (subject_there (forget db subject) from is.0), tt)
  path_stays from (step ∷ rest) end is = (there_stays from is.0.lower_there, path_stays step.upper rest end is.1.1)
