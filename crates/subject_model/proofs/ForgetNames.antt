-- The names that a FORGET removes and changes are those whose rows go, and whose rows stay with another value.
use Rattle.std.proofs.Common.{◌≡◌, ℕ, ◌+◌, List, [], ◌∷◌, map, Bool, true, false, cond, not, refl, ap, sym, ◌∙◌, subst, inl, inr}
use Rattle.std.specs.Prelude.{◌↔◌, ◌&&◌, Contains, IsTrue, Option, Some, None, filter, is_some, slice_get}
use Rattle.std.specs.List.{AllByRecursion, enumerate_from, list_any}
use Rattle.std.specs.List.Sorted.{IsStrictlySortedBy}
use Rattle.std.specs.declared.cmp.Ordering.TheVariants.{Less}
use Rattle.std.proofs.lemmas.Bool.{and_from, and_parts, false_from_ne_true, not-true, not_from_false, or_cases}
use Rattle.own_base.specs.declared.row_name.RowName.{RowName}
use Rattle.own_base.specs.declared.value.Value.{Value}
use Rattle.own_base.specs.declared.value.Value.TheVariants.{Null, Int, Text, Sum}
use Rattle.own_model.specs.declared.schema.TableDef.{TableDef}
use Rattle.own_model.specs.Db.{Db, IsOrdered, Row}
use Rattle.owner_model.specs.Joins.{row_of}
use Rattle.query_model.specs.Truth.{is_null}
use Rattle.schema_model.specs.OwnerSchema.{IsOwnerSchema}
use Rattle.subject_model.specs.Erased.{IsAltered, IsErased}
use Rattle.subject_model.specs.Forget.{changed, forget, is_changed, left_of, loses, removed}
use Rattle.subject_model.specs.NameOrder.{name_cmp}
use Rattle.subject_model.specs.Named.{NamedRow, is_there, named_rows}
use Rattle.subject_model.specs.Stays.{stays}
use Rattle.subject_model.specs.Staying.{Stays}
use Rattle.subject_model.proofs.ForgetKeys.{kept_value}
use Rattle.subject_model.proofs.ForgetRows.{is_left, is_there-forget, left-stays}
use Rattle.subject_model.proofs.ForgetSpared.{keeps_row}
use Rattle.subject_model.proofs.Members.{contains_filter, contains_map, contains_of_filter, contains_of_map}
use Rattle.subject_model.proofs.NameOrderLemmas.{named_rows_rise}
use Rattle.subject_model.proofs.NamedLemmas.{named-there, named-row_of, row_of-named, table-there, there-named}
use Rattle.subject_model.proofs.StayLemmas.{stays-iff_Stays}

-- a value that is lost, and isn't NULL, isn't what is left
loses_value : (lost : Bool) (value : Value) → (lost && not (is_null value)) ≡ true → kept_value lost value ≡ value → ⊥
loses_value true Null lost same = let never : false ≡ true = lost in cc
loses_value true (Int number) lost same = let never : Null ≡ Int number = same in cc
loses_value true (Text bytes) lost same = let never : Null ≡ Text bytes = same in cc
loses_value true (Sum number) lost same = let never : Null ≡ Sum number = same in cc
loses_value false value lost same = let never : false ≡ true = lost in cc

-- so a row that loses one isn't what is left of it
loses_row : (lost : ℕ × Value → Bool) (number : ℕ) (row : Row) → list_any (λ numbered. lost numbered && not (is_null numbered.1)) (enumerate_from number row) ≡ true
    → map (λ numbered. kept_value (lost numbered) numbered.1) (enumerate_from number row) ≡ row → ⊥
loses_row lost number [] any same = let never : false ≡ true = any in cc
loses_row lost number (value ∷ row) any same =
    let first : kept_value (lost (number, value)) value ≡ value = cc in
    let rest : map (λ numbered. kept_value (lost numbered) numbered.1) (enumerate_from (number + 1) row) ≡ row = cc in
    elim (or_cases (lost (number, value) && not (is_null value)) (list_any (λ numbered. lost numbered && not (is_null numbered.1)) (enumerate_from (number + 1) row)) any) [
      | inl own ↦ loses_value (lost (number, value)) value own first
      | inr later ↦ loses_row lost (number + 1) row later rest
    ]

none_found : (found : Option Row) → is_some found ≡ false → found ≡ None
none_found None none = refl
none_found (Some row) none = let never : true ≡ false = none in cc

-- names that rise still do where some are left out
names_below : (test : NamedRow → Bool) (name : RowName) (named : List NamedRow) → AllByRecursion (λ later. name_cmp name later ≡ Less) (map (λ n. n.name) named)
    → AllByRecursion (λ later. name_cmp name later ≡ Less) (map (λ n. n.name) (filter test named))
names_below test name [] below = tt
names_below test name (first ∷ named) below = by (test first) (names_below test name named below.1)
  where
    by : (b : Bool) → AllByRecursion (λ later. name_cmp name later ≡ Less) (map (λ n. n.name) (filter test named))
        → AllByRecursion (λ later. name_cmp name later ≡ Less) (map (λ n. n.name) (cond b (first ∷ filter test named) (filter test named)))
    by true more = (below.0, more)
    by false more = more

names_rise : (test : NamedRow → Bool) (named : List NamedRow) → IsStrictlySortedBy name_cmp (map (λ n. n.name) named) → IsStrictlySortedBy name_cmp (map (λ n. n.name) (filter test named))
unfolding IsStrictlySortedBy
names_rise test [] rise = tt
names_rise test (first ∷ named) rise = by (test first) (names_rise test named rise.1)
  where
    by : (b : Bool) → IsStrictlySortedBy name_cmp (map (λ n. n.name) (filter test named)) → IsStrictlySortedBy name_cmp (map (λ n. n.name) (cond b (first ∷ filter test named) (filter test named)))
    by true more = (names_below test first.name named rise.0, more)
    by false more = more

module _ (db : Db) (subject : RowName) (ordered : IsOrdered db) where
  -- both lists stand by table, then by key
  pub removed_rise : IsStrictlySortedBy name_cmp (removed db subject)
  unfolding removed
  removed_rise = names_rise (λ named. not (stays db subject named.name)) (named_rows db) (named_rows_rise db ordered)

  pub changed_rise : IsStrictlySortedBy name_cmp (changed db subject)
  unfolding changed
  changed_rise = names_rise (λ named. stays db subject named.name && is_changed db subject named) (named_rows db) (named_rows_rise db ordered)

  module _ (owner : IsOwnerSchema db.schema) where
    -- a name is there after a FORGET exactly where it was there and stays
    there_from : (name : RowName) → is_there (forget db subject) name ≡ true → (is_there db name ≡ true) × Stays db subject name
    there_from name there =
        let both = and_parts (is_there db name) (stays db subject name) (sym (is_there-forget db subject name owner) ∙ there) in
        (both.0, (stays-iff_Stays db subject name ordered owner).0 both.1)

    pub there-iff_stays : (name : RowName) → (IsTrue (is_there (forget db subject) name)) ↔ (IsTrue (is_there db name) × Stays db subject name)
    there-iff_stays name = (
      there_from name,
      (λ is. is_there-forget db subject name owner ∙ and_from _ _ is.0 ((stays-iff_Stays db subject name ordered owner).1 is.1)),
    )

    -- a name that is removed had a row, and has none
    removed-erased : (name : RowName) → Contains (removed db subject) name → IsErased db (forget db subject) name
    unfolding removed
    removed-erased name among =
        let (named, kept, same) = contains_of_map (λ (named : NamedRow). named.name) (filter (λ named. not (stays db subject named.name)) (named_rows db)) name among in
        let own = contains_of_filter (λ (named : NamedRow). not (stays db subject named.name)) (named_rows db) named kept in
        let there : is_there db name ≡ true = subst (λ n. is_there db n ≡ true) same (there-named db named ordered own.0) in
        let goes : stays db subject name ≡ false = subst (λ n. stays db subject n ≡ false) same (not-true (stays db subject named.name) own.1) in
        let none : is_there (forget db subject) name ≡ false = is_there-forget db subject name owner ∙ rw (there, goes) refl in
        record { was = there; gone = none_found (row_of (forget db subject) name) none }

    erased-removed : (name : RowName) → IsErased db (forget db subject) name → Contains (removed db subject) name
    unfolding removed
    erased-removed name erased =
        let there : is_there db name ≡ true = erased.was in
        let none : is_there (forget db subject) name ≡ false = ap is_some erased.gone in
        let goes : stays db subject name ≡ false = false_from_ne_true _ (λ stay.
        let after : is_there (forget db subject) name ≡ true = is_there-forget db subject name owner ∙ and_from _ _ there stay in let never : true ≡ false = sym after ∙ none in cc) in
        let (row, among) = named-there db name ordered there in
        let named : NamedRow = record { name = name; row = row } in
        contains_map (λ (named : NamedRow). named.name) (filter (λ named. not (stays db subject named.name)) (named_rows db)) named
        (contains_filter (λ named. not (stays db subject named.name)) (named_rows db) named among (not_from_false _ goes))

    pub removed-iff_erased : (name : RowName) → (Contains (removed db subject) name) ↔ (IsErased db (forget db subject) name)
    removed-iff_erased name = (removed-erased name, erased-removed name)

    -- a name that is changed has another row
    changed_case : (named : NamedRow) (table : TableDef) → slice_get db.schema.tables named.name.table.0 ≡ Some table → row_of db named.name ≡ Some named.row
        → stays db subject named.name ≡ true → is_changed db subject named ≡ true → IsAltered db (forget db subject) named.name
    changed_case named table is there stay loss =
        let lost : list_any (λ numbered. loses db subject table named.name numbered && not (is_null numbered.1)) (enumerate_from 0 named.row) ≡ true = rw is at loss in
        record {
          old = named.row;
          new = left_of db subject table named;
          was = there;
          is = left-stays db subject named.name table named.row owner is there stay;
          differ = λ same. loses_row (loses db subject table named.name) 0 named.row lost (sym same);
        }

    changed-altered : (name : RowName) → Contains (changed db subject) name → IsAltered db (forget db subject) name
    unfolding changed
    changed-altered name among =
        let passes : NamedRow → Bool = λ named. stays db subject named.name && is_changed db subject named in
        let (named, kept, same) = contains_of_map (λ (named : NamedRow). named.name) (filter passes (named_rows db)) name among in
        let own = contains_of_filter passes (named_rows db) named kept in
        let both = and_parts (stays db subject named.name) (is_changed db subject named) own.1 in
        let (table, is) = table-there db named.name (there-named db named ordered own.0) in
        subst (IsAltered db (forget db subject)) same (changed_case named table is (row_of-named db named ordered own.0) both.0 both.1)

    altered-changed : (name : RowName) → IsAltered db (forget db subject) name → Contains (changed db subject) name
    unfolding changed
    altered-changed name altered =
        let left = is_left db subject name altered.new owner altered.is in
        let named : NamedRow = record { name = name; row = left.row } in
        let own : left.row ≡ altered.old = (let both : Some left.row ≡ Some altered.old = sym left.row_is ∙ altered.was in cc) in
        let passes : NamedRow → Bool = λ named. stays db subject named.name && is_changed db subject named in
        let loss : is_changed db subject named ≡ true = by left.table left.table_is left.row (λ same. altered.differ (sym own ∙ sym same ∙ sym left.left_is)) in
        contains_map (λ (named : NamedRow). named.name) (filter passes (named_rows db)) named
        (contains_filter passes (named_rows db) named (named-row_of db named ordered left.row_is) (and_from _ _ left.stays loss))
      where
        by : (table : TableDef) → slice_get db.schema.tables name.table.0 ≡ Some table → (row : Row) → (left_of db subject table (record { name = name; row = row }) ≡ row → ⊥)
            → is_changed db subject (record { name = name; row = row }) ≡ true
        by table is row differs = case (list_any (λ numbered. loses db subject table name numbered && not (is_null numbered.1)) (enumerate_from 0 row)) refl
          where
            case : (b : Bool) → list_any (λ numbered. loses db subject table name numbered && not (is_null numbered.1)) (enumerate_from 0 row) ≡ b → is_changed db subject (record { name = name; row = row }) ≡ true
            case true loss = rw is loss
            case false none = absurd (differs (keeps_row (loses db subject table name) 0 row none))

    pub changed-iff_altered : (name : RowName) → (Contains (changed db subject) name) ↔ (IsAltered db (forget db subject) name)
    changed-iff_altered name = (changed-altered name, altered-changed name)
