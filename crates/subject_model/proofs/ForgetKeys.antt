-- What a row that a FORGET leaves holds, and that it keeps its key.
use Rattle.std.proofs.Common.{◌≡◌, ℕ, zero, suc, ◌+◌, List, [], ◌∷◌, map, Bool, true, false, refl, ap, sym, ◌∙◌, subst, arith}
use Rattle.std.specs.Prelude.{Option, Some, None, slice_get, slice_index_or, if◌then◌else◌}
use Rattle.std.specs.List.{enumerate_from}
use Rattle.std.specs.Option.{option_map, option_map_or}
use Rattle.std.proofs.lemmas.Bool.{false_from_ne_true, or_from}
use Rattle.own_base.specs.declared.number.TableNo.{TableNo}
use Rattle.own_base.specs.declared.row_name.RowName.{RowName}
use Rattle.own_base.specs.declared.value.Value.{Value}
use Rattle.own_base.specs.declared.value.Value.TheVariants.{Null}
use Rattle.own_model.specs.declared.schema.Column.{Column}
use Rattle.own_model.specs.declared.schema.RefKind.{RefKind}
use Rattle.own_model.specs.declared.schema.TableDef.{TableDef}
use Rattle.own_model.specs.Db.{Db, as_key, key_of}
use Rattle.owner_model.specs.RuledColumns.{is_blanked}
use Rattle.query_model.specs.Truth.{cell}
use Rattle.schema_model.specs.OwnerSchema.{ColumnsRefer, IsOwnerSchema, RulesWell}
use Rattle.schema_model.proofs.Places.{all-at}
use Rattle.subject_model.specs.Forget.{dangles, dangles_at, left_of, loses}
use Rattle.subject_model.specs.Named.{NamedRow}
use Rattle.subject_model.specs.Owners.{by}
use Rattle.subject_model.proofs.ForgetEdges.{blanked_by}
use Rattle.subject_model.proofs.Members.{all_contained}

module _ {X Y : Type 0} (f : ℕ × X → Y) where
  -- what stands at a place of a list that is made of another by numbers
  numbered_get : (number : ℕ) (xs : List X) (place : ℕ) → slice_get (map f (enumerate_from number xs)) place ≡ option_map (λ x. f (number + place, x)) (slice_get xs place)
  numbered_get number [] place = refl
  numbered_get number (first ∷ xs) zero = let n : number ≡ number + zero = omega arith in ap (λ n. Some (f (n, first))) n
  numbered_get number (first ∷ xs) (suc place) =
      let n : number + 1 + place ≡ number + suc place = omega arith in
      numbered_get (number + 1) xs place ∙ ap (λ n. option_map (λ x. f (n, x)) (slice_get xs place)) n

  pub get_numbered : (xs : List X) (place : ℕ) → slice_get (map f (enumerate_from 0 xs)) place ≡ option_map (λ x. f (place, x)) (slice_get xs place)
  get_numbered xs place = let n : 0 + place ≡ place = omega arith in numbered_get 0 xs place ∙ ap (λ n. option_map (λ x. f (n, x)) (slice_get xs place)) n

  numbered_index : (number : ℕ) (xs : List X) (place : ℕ) (x : X) (y : Y) → f (number + place, x) ≡ y → slice_index_or (map f (enumerate_from number xs)) place y ≡ f (number + place, slice_index_or xs place x)
  numbered_index number [] place x y none = sym none
  numbered_index number (first ∷ xs) zero x y none = let n : number ≡ number + zero = omega arith in ap (λ n. f (n, first)) n
  numbered_index number (first ∷ xs) (suc place) x y none =
      let n : number + 1 + place ≡ number + suc place = omega arith in
      numbered_index (number + 1) xs place x y (ap (λ n. f (n, x)) n ∙ none) ∙ ap (λ n. f (n, slice_index_or xs place x)) n

-- what a row holds of a value, by whether it loses it
abbrev pub kept_value : Bool → Value → Value
kept_value lost value = if lost then Null else value

null_kept : (lost : Bool) → kept_value lost Null ≡ Null
null_kept true = refl
null_kept false = refl

module _ (db : Db) (subject : RowName) (table : TableDef) (named : NamedRow) where
  -- a row that is left holds NULL where it loses the value, and else the value before
  pub get_left : (column : ℕ) → slice_get (left_of db subject table named) column
      ≡ option_map (λ value. kept_value (loses db subject table named.name (column, value)) value) (slice_get named.row column)
  get_left column = get_numbered (λ numbered. kept_value (loses db subject table named.name numbered) numbered.1) named.row column

  pub cell_left : (column : ℕ) → cell (left_of db subject table named) column
      ≡ kept_value (loses db subject table named.name (column, cell named.row column)) (cell named.row column)
  cell_left column =
      let n : 0 + column ≡ column = omega arith in
      let kept : ℕ × Value → Value = λ numbered. kept_value (loses db subject table named.name numbered) numbered.1 in
      numbered_index kept 0 named.row column Null Null (null_kept _) ∙ ap (λ n. kept (n, cell named.row column)) n

  -- it loses no key
  module _ (owner : IsOwnerSchema db.schema) (is : slice_get db.schema.tables named.name.table.0 ≡ Some table) where
    rules_no_key : is_blanked db.schema.edges (by db subject named.name) table.key.0 ≡ false
    rules_no_key = false_from_ne_true _ never
      where
        never : is_blanked db.schema.edges (by db subject named.name) table.key.0 ≡ true → ⊥
        never blanked =
            let made = blanked_by db subject named.name table.key.0 owner blanked in
            let well : RulesWell db.schema made.ruling = all_contained (RulesWell db.schema) db.schema.edges made.ruling owner.rules made.among in
            let own : slice_get db.schema.tables made.ruling.lower.0 ≡ Some table = subst (λ (t : TableNo). slice_get db.schema.tables t.0 ≡ Some table) made.reaches.leads.0.of_lower is in
            let none = well.no_key table own in
            let has = made.rules in
            cc

    refers_case : (column : Column) (refers : Option (RefKind × TableNo)) → column.refers ≡ refers → slice_get table.columns table.key.0 ≡ Some column → (value : Value)
        → dangles db subject column value ≡ false
    refers_case column None none there value = rw none refl
    refers_case column (Some link) some there value =
        let refer : ColumnsRefer db.schema table = all-at (ColumnsRefer db.schema) db.schema.tables owner.columns named.name.table.0 table is in
        absurd ((refer table.key.0 column link there some).0 refl)

    key_refers : (value : Value) → dangles_at db subject table (table.key.0, value) ≡ false
    key_refers value = by _ refl
      where
        by : (found : Option Column) → slice_get table.columns table.key.0 ≡ found → option_map_or (λ column. dangles db subject column value) found false ≡ false
        by None none = refl
        by (Some column) some = refers_case column _ refl some value

    pub keeps_key : (value : Value) → loses db subject table named.name (table.key.0, value) ≡ false
    unfolding loses
    keeps_key value = or_from _ _ rules_no_key (key_refers value)

    -- so it keeps its key
    pub key_left : key_of table (left_of db subject table named) ≡ key_of table named.row
    unfolding key_of
    key_left = ap as_key (cell_left table.key.0 ∙ ap (λ lost. kept_value lost (cell named.row table.key.0)) (keeps_key (cell named.row table.key.0)))
