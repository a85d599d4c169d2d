-- What becomes of the rows of a database, table by table.
use Rattle.std.proofs.Common.{◌≡◌, ℕ, zero, suc, ◌+◌, ◌<◌, List, [], ◌∷◌, ◌++◌, map, Bool, true, false, cond, refl, ap, sym, ◌∙◌, subst, append-nil, filter_map, arith}
use Rattle.std.specs.Prelude.{Option, Some, None, IfSome, filter, slice_get}
use Rattle.std.specs.List.{AllByRecursion, cons_option}
use Rattle.std.proofs.lemmas.Bool.{eq-eqb, eqb-true}
use Rattle.std.proofs.lemmas.List.Elements.{filter-append}
use Rattle.own_base.specs.declared.change.Change.{Change}
use Rattle.own_base.specs.declared.row_name.RowName.{RowName}
use Rattle.own_model.specs.declared.schema.TableDef.{TableDef}
use Rattle.own_model.specs.Db.{Db, Row}
use Rattle.own_model.specs.Stored.{rows_at}
use Rattle.page_model.proofs.ChangedLemmas.{filter_all, filter_none}
use Rattle.page_model.proofs.RisingLemmas.{each_append, each_weaker}
use Rattle.subject_model.specs.Forget.{left_of}
use Rattle.subject_model.specs.Named.{NamedRow}
use Rattle.subject_model.specs.Stays.{stays}
use Rattle.subject_model.proofs.ForgetRows.{named_in}
use Rattle.state_model.specs.Put.{is_of_table}
use Rattle.subject_erase.specs.Erasures.{blanking, erased, erased_from, erased_in, erasures, loses_some, removal}

-- what is made of each item has what it is made with
pub each_made : {X Y : Type 0} (P : Y → Type 0) (make : X → Option Y) (xs : List X) → ((place : ℕ) (x : X) → slice_get xs place ≡ Some x → IfSome (make x) P) → AllByRecursion P (filter_map make xs)
each_made P make [] all = tt
each_made {Y = Y} P make (x ∷ xs) all = by (make x) (all 0 x refl) (each_made P make xs (λ place y is. all (suc place) y is))
  where
    by : (o : Option Y) → IfSome o P → AllByRecursion P (filter_map make xs) → AllByRecursion P (cons_option o (filter_map make xs))
    by None here more = more
    by (Some y) here more = (here, more)

-- a filter of images
pub made_images : {X Y Z : Type 0} (make : Y → Option Z) (g : X → Y) (xs : List X) → filter_map make (map g xs) ≡ filter_map (λ x. make (g x)) xs
made_images make g [] = refl
made_images make g (x ∷ xs) = ap (cons_option (make (g x))) (made_images make g xs)

module _ (db : Db) (subject : RowName) where
  -- a row goes, loses values, or ends as it was
  erased_has : (P : Change → Type 0) (table : TableDef) (named : NamedRow) → (stays db subject named.name ≡ false → P (removal named))
      → (stays db subject named.name ≡ true → loses_some db subject table named ≡ true → P (blanking named (left_of db subject table named)))
      → (stay lose : Bool) → stays db subject named.name ≡ stay → loses_some db subject table named ≡ lose
      → IfSome (cond stay (cond lose (Some (blanking named (left_of db subject table named))) None) (Some (removal named))) P
  erased_has P table named goes loses true true stay lose = loses stay lose
  erased_has P table named goes loses true false stay lose = tt
  erased_has P table named goes loses false lost stay lose = goes stay

  pub erased-has : (P : Change → Type 0) (table : TableDef) (named : NamedRow) → (stays db subject named.name ≡ false → P (removal named))
      → (stays db subject named.name ≡ true → loses_some db subject table named ≡ true → P (blanking named (left_of db subject table named)))
      → IfSome (erased db subject table named) P
  erased-has P table named goes loses = erased_has P table named goes loses (stays db subject named.name) (loses_some db subject table named) refl refl

  -- each change has what each row's change has
  each_in : (P : Change → Type 0) (number : ℕ) (table : TableDef) (rows : List Row) → ((place : ℕ) (row : Row) → slice_get rows place ≡ Some row → IfSome (erased db subject table (named_in number table row)) P)
      → AllByRecursion P (erased_in db subject number table rows)
  each_in P number table rows all =
      subst (AllByRecursion P) (sym (made_images (erased db subject table) (named_in number table) rows)) (each_made P (λ row. erased db subject table (named_in number table row)) rows all)

  pub each_from : (P : Change → Type 0) (number : ℕ) (tables : List TableDef) (rows : List (List Row))
      → ((n : ℕ) (table : TableDef) (place : ℕ) (row : Row) → slice_get tables n ≡ Some table → slice_get (rows_at rows n) place ≡ Some row → IfSome (erased db subject table (named_in (number + n) table row)) P)
      → AllByRecursion P (erased_from db subject number tables rows)
  unfolding erased_from
  each_from P number [] rows all = tt
  each_from P number (table ∷ tables) [] all = tt
  each_from P number (table ∷ tables) (one ∷ rows) all =
      each_append P (erased_in db subject number table one) (erased_from db subject (number + 1) tables rows)
      (each_in P number table one (λ place row is. let n : number + 0 ≡ number = omega arith in subst (λ n. IfSome (erased db subject table (named_in n table row)) P) n (all 0 table place row refl is)))
      (each_from P (number + 1) tables rows (λ n t place row t_is is. let m : number + suc n ≡ number + 1 + n = omega arith in subst (λ m. IfSome (erased db subject t (named_in m t row)) P) m (all (suc n) t place row t_is is)))

  pub each_erasure : (P : Change → Type 0)
      → ((number : ℕ) (table : TableDef) (place : ℕ) (row : Row) → slice_get db.schema.tables number ≡ Some table → slice_get (rows_at db.rows number) place ≡ Some row → IfSome (erased db subject table (named_in number table row)) P)
      → AllByRecursion P (erasures db subject)
  each_erasure P all =
      each_from P 0 db.schema.tables db.rows (λ n table place row table_is row_is. let m : n ≡ 0 + n = omega arith in subst (λ m. IfSome (erased db subject table (named_in m table row)) P) m (all n table place row table_is row_is))

  -- the changes of a table's rows are of it
  of_table : (number : ℕ) (table : TableDef) (rows : List Row) → AllByRecursion (λ change. change.name.table.0 ≡ number) (erased_in db subject number table rows)
  of_table number table rows =
      each_in (λ change. change.name.table.0 ≡ number) number table rows
      (λ place row is. erased-has (λ change. change.name.table.0 ≡ number) table (named_in number table row) (λ goes. refl) (λ stay lose. refl))

  own_block : (number : ℕ) (table : TableDef) (rows : List Row) → filter (is_of_table number) (erased_in db subject number table rows) ≡ erased_in db subject number table rows
  own_block number table rows = filter_all (is_of_table number) _ (each_weaker _ _ (λ change is. eq-eqb change.name.table.0 number is) _ (of_table number table rows))

  other_block : (number other : ℕ) (table : TableDef) (rows : List Row) → (other ≡ number → ⊥) → filter (is_of_table number) (erased_in db subject other table rows) ≡ []
  other_block number other table rows apart = filter_none (is_of_table number) _ (each_weaker _ _ (λ change is. differs change is) _ (of_table other table rows))
    where
      by : (change : Change) → change.name.table.0 ≡ other → (b : Bool) → is_of_table number change ≡ b → is_of_table number change ≡ false
      by change is true here = absurd (apart (sym is ∙ eqb-true change.name.table.0 number here))
      by change is false here = here

      differs : (change : Change) → change.name.table.0 ≡ other → is_of_table number change ≡ false
      differs change is = by change is (is_of_table number change) refl

  -- none of tables from one on is of a table before
  none_before : (number from : ℕ) (tables : List TableDef) (rows : List (List Row)) → number < from → filter (is_of_table number) (erased_from db subject from tables rows) ≡ []
  unfolding erased_from
  none_before number from [] rows before = refl
  none_before number from (table ∷ tables) [] before = refl
  none_before number from (table ∷ tables) (one ∷ rows) before =
      filter-append (is_of_table number) (erased_in db subject from table one) (erased_from db subject (from + 1) tables rows)
      ∙ (ap (λ front. front ++ filter (is_of_table number) (erased_from db subject (from + 1) tables rows)) (other_block number from table one (λ is. absurd (omega arith)))
      ∙ none_before number (from + 1) tables rows (omega arith))

  -- those of one table are what becomes of its rows
  those_of : (from place : ℕ) (tables : List TableDef) (rows : List (List Row)) (table : TableDef) → slice_get tables place ≡ Some table
      → filter (is_of_table (from + place)) (erased_from db subject from tables rows) ≡ erased_in db subject (from + place) table (rows_at rows place)
  unfolding erased_from
  those_of from place [] rows table is = cc
  those_of from place (first ∷ tables) [] table is = refl
  those_of from zero (first ∷ tables) (one ∷ rows) table is =
      let same : first ≡ table = cc in
      let n : from ≡ from + zero = omega arith in
      let here : filter (is_of_table from) (erased_in db subject from first one ++ erased_from db subject (from + 1) tables rows) ≡ erased_in db subject from first one =
      filter-append (is_of_table from) (erased_in db subject from first one) (erased_from db subject (from + 1) tables rows)
      ∙ (ap (λ front. front ++ filter (is_of_table from) (erased_from db subject (from + 1) tables rows)) (own_block from first one)
      ∙ (ap (λ back. erased_in db subject from first one ++ back) (none_before from (from + 1) tables rows (omega arith)) ∙ append-nil _)) in
      ap (λ n. filter (is_of_table n) (erased_in db subject from first one ++ erased_from db subject (from + 1) tables rows)) (sym n)
      ∙ (here ∙ (ap (λ t. erased_in db subject from t one) same ∙ ap (λ n. erased_in db subject n table one) n))
  those_of from (suc place) (first ∷ tables) (one ∷ rows) table is =
      let n : from + 1 + place ≡ from + suc place = omega arith in
      let later : filter (is_of_table (from + suc place)) (erased_from db subject (from + 1) tables rows) ≡ erased_in db subject (from + suc place) table (rows_at rows place) =
      subst (λ n. filter (is_of_table n) (erased_from db subject (from + 1) tables rows) ≡ erased_in db subject n table (rows_at rows place)) n (those_of (from + 1) place tables rows table is) in
      filter-append (is_of_table (from + suc place)) (erased_in db subject from first one) (erased_from db subject (from + 1) tables rows)
      ∙ (ap (λ front. front ++ filter (is_of_table (from + suc place)) (erased_from db subject (from + 1) tables rows)) (other_block (from + suc place) from first one (λ is. absurd (omega arith))) ∙ later)

  pub erasures_of : (number : ℕ) (table : TableDef) → slice_get db.schema.tables number ≡ Some table → filter (is_of_table number) (erasures db subject) ≡ erased_in db subject number table (rows_at db.rows number)
  erasures_of number table is =
      let n : 0 + number ≡ number = omega arith in
      subst (λ n. filter (is_of_table n) (erasures db subject) ≡ erased_in db subject n table (rows_at db.rows number)) n (those_of 0 number db.schema.tables db.rows table is)
