-- What becomes of the rows, as the names that go and the rows that are left.
use Rattle.std.proofs.Common.{◌≡◌, ℕ, suc, ◌+◌, List, [], ◌∷◌, ◌++◌, map, Bool, true, false, cond, not, refl, ap, sym, ◌∙◌, filter_map, arith}
use Rattle.std.specs.Prelude.{◌&&◌, Option, Some, None, IfSome, filter, slice_get}
use Rattle.std.specs.List.{AllByRecursion, cons_option}
use Rattle.std.specs.Option.{option_and_then}
use Rattle.std.proofs.lemmas.List.Elements.{filter-append}
use Rattle.std.proofs.lemmas.List.{map-append}
use Rattle.own_base.specs.declared.change.Change.{Change}
use Rattle.own_base.specs.declared.number.TableNo.{TableNo}
use Rattle.own_base.specs.declared.row_name.RowName.{RowName}
use Rattle.own_model.specs.declared.schema.TableDef.{TableDef}
use Rattle.own_model.specs.Db.{Db, IsOrdered, Row}
use Rattle.own_model.specs.Stored.{rows_at}
use Rattle.owner_model.specs.Joins.{row_of}
use Rattle.owner_sets.proofs.Standing.{row_of-standing, standing_at}
use Rattle.schema_model.specs.OwnerSchema.{IsOwnerSchema}
use Rattle.subject_model.specs.Forget.{changed, forget, is_changed, left_of, removed}
use Rattle.subject_model.specs.Named.{NamedRow, rows_from, rows_in}
use Rattle.subject_model.specs.Stays.{stays}
use Rattle.subject_model.proofs.ForgetRows.{left_named, named_in, row_of-forget}
use Rattle.state_model.specs.ChangeOf.{IsChangeOf}
use Rattle.subject_erase.specs.Erasures.{blanking, erased, erased_from, erased_in, erasures, loses_some, removal}
use Rattle.subject_erase.specs.Plan.{IsPlan, leaves_row, plan_of}
use Rattle.subject_erase.proofs.ErasureLemmas.{each_erasure, erased-has}
use Rattle.subject_erase.proofs.RowsLeft.{left_of-lost}

-- where each item has what it has if it passes, those that pass have it
each_passing : {X : Type 0} (P : X → Type 0) (test : X → Bool) (xs : List X) → AllByRecursion (λ x. test x ≡ true → P x) xs → AllByRecursion P (filter test xs)
each_passing P test [] all = tt
each_passing {X = X} P test (x ∷ xs) all = by (test x) refl (each_passing P test xs all.1)
  where
    by : (b : Bool) → test x ≡ b → AllByRecursion P (filter test xs) → AllByRecursion P (cond b (x ∷ filter test xs) (filter test xs))
    by true is more = (all.0 is, more)
    by false is more = more

module _ (db : Db) (subject : RowName) where
  abbrev name : Change → RowName
  name change = change.name

  abbrev called : NamedRow → RowName
  called named = named.name

  abbrev goes : Change → Bool
  goes change = not (leaves_row change)

  abbrev leaves : NamedRow → Bool
  leaves named = not (stays db subject named.name)

  -- the rows of a table that go are those that don't stay
  gone_case : (table : TableDef) (named : NamedRow) (changes : List Change) (names : List NamedRow) → map name (filter goes changes) ≡ map called names → (stay lose : Bool)
      → map name (filter goes (cons_option (cond stay (cond lose (Some (blanking named (left_of db subject table named))) None) (Some (removal named))) changes))
      ≡ map called (cond (not stay) (named ∷ names) names)
  gone_case table named changes names more true true = more
  gone_case table named changes names more true false = more
  gone_case table named changes names more false lose = ap (λ rest. named.name ∷ rest) more

  gone_in : (table : TableDef) (rows : List NamedRow) → map name (filter goes (filter_map (erased db subject table) rows)) ≡ map called (filter leaves rows)
  gone_in table [] = refl
  gone_in table (named ∷ rows) =
      gone_case table named (filter_map (erased db subject table) rows) (filter leaves rows) (gone_in table rows) (stays db subject named.name) (loses_some db subject table named)

  gone_from : (number : ℕ) (tables : List TableDef) (rows : List (List Row)) → map name (filter goes (erased_from db subject number tables rows)) ≡ map called (filter leaves (rows_from number tables rows))
  unfolding erased_from rows_from
  gone_from number [] rows = refl
  gone_from number (table ∷ tables) [] = refl
  gone_from number (table ∷ tables) (one ∷ rows) =
      let first = erased_in db subject number table one in
      let others = erased_from db subject (number + 1) tables rows in
      let own = rows_in number table one in
      let rest = rows_from (number + 1) tables rows in
      ap (map name) (filter-append goes first others)
      ∙ (map-append name (filter goes first) (filter goes others)
      ∙ (ap (λ front. front ++ map name (filter goes others)) (gone_in table own)
      ∙ (ap (λ back. map called (filter leaves own) ++ back) (gone_from (number + 1) tables rows)
      ∙ (sym (map-append called (filter leaves own) (filter leaves rest))
      ∙ ap (map called) (sym (filter-append leaves own rest))))))

  gone : map name (filter goes (erasures db subject)) ≡ removed db subject
  unfolding removed
  gone = gone_from 0 db.schema.tables db.rows

  abbrev keeps : NamedRow → Bool
  keeps named = stays db subject named.name && is_changed db subject named

  -- the rows of a table that are left changed are those that stay and lose a value
  kept_case : (table : TableDef) (named : NamedRow) (changes : List Change) (names : List NamedRow) → map name (filter leaves_row changes) ≡ map called names → (stay lose : Bool)
      → map name (filter leaves_row (cons_option (cond stay (cond lose (Some (blanking named (left_of db subject table named))) None) (Some (removal named))) changes))
      ≡ map called (cond (stay && lose) (named ∷ names) names)
  kept_case table named changes names more true true = ap (λ rest. named.name ∷ rest) more
  kept_case table named changes names more true false = more
  kept_case table named changes names more false lose = more

  kept_in : (number : ℕ) (table : TableDef) → slice_get db.schema.tables number ≡ Some table → (rows : List Row)
      → map name (filter leaves_row (filter_map (erased db subject table) (rows_in number table rows))) ≡ map called (filter keeps (rows_in number table rows))
  kept_in number table is [] = refl
  kept_in number table is (row ∷ rows) =
      let named : NamedRow = named_in number table row in
      let lose : is_changed db subject named ≡ loses_some db subject table named = rw is refl in
      kept_case table named (filter_map (erased db subject table) (rows_in number table rows)) (filter keeps (rows_in number table rows)) (kept_in number table is rows)
      (stays db subject named.name) (loses_some db subject table named)
      ∙ ap (λ b. map called (cond (stays db subject named.name && b) (named ∷ filter keeps (rows_in number table rows)) (filter keeps (rows_in number table rows)))) (sym lose)

  kept_from : (number : ℕ) (tables : List TableDef) (rows : List (List Row)) → ((n : ℕ) (table : TableDef) → slice_get tables n ≡ Some table → slice_get db.schema.tables (number + n) ≡ Some table)
      → map name (filter leaves_row (erased_from db subject number tables rows)) ≡ map called (filter keeps (rows_from number tables rows))
  unfolding erased_from rows_from
  kept_from number [] rows tables_are = refl
  kept_from number (table ∷ tables) [] tables_are = refl
  kept_from number (table ∷ tables) (one ∷ rows) tables_are =
      let n : number + 0 ≡ number = omega arith in
      let is : slice_get db.schema.tables number ≡ Some table = ap (slice_get db.schema.tables) (sym n) ∙ tables_are 0 table refl in
      let first = erased_in db subject number table one in
      let others = erased_from db subject (number + 1) tables rows in
      let own = rows_in number table one in
      let rest = rows_from (number + 1) tables rows in
      let later : map name (filter leaves_row others) ≡ map called (filter keeps rest) =
      kept_from (number + 1) tables rows (λ place found there. let m : number + suc place ≡ number + 1 + place = omega arith in ap (slice_get db.schema.tables) (sym m) ∙ tables_are (suc place) found there) in
      ap (map name) (filter-append leaves_row first others)
      ∙ (map-append name (filter leaves_row first) (filter leaves_row others)
      ∙ (ap (λ front. front ++ map name (filter leaves_row others)) (kept_in number table is one)
      ∙ (ap (λ back. map called (filter keeps own) ++ back) later
      ∙ (sym (map-append called (filter keeps own) (filter keeps rest))
      ∙ ap (map called) (sym (filter-append keeps own rest))))))

  kept : map name (filter leaves_row (erasures db subject)) ≡ changed db subject
  unfolding changed
  kept = kept_from 0 db.schema.tables db.rows (λ n table there. let m : n ≡ 0 + n = omega arith in ap (slice_get db.schema.tables) (sym m) ∙ there)

  module _ (ordered : IsOrdered db) (owner : IsOwnerSchema db.schema) where
    loss_of : (number : ℕ) (table : TableDef) (place : ℕ) (row : Row) → slice_get db.schema.tables number ≡ Some table → slice_get (rows_at db.rows number) place ≡ Some row
        → IfSome (erased db subject table (named_in number table row)) (λ change. leaves_row change ≡ true → IsChangeOf db (forget db subject) change)
    loss_of number table place row table_is row_is =
        let named : NamedRow = named_in number table row in
        let of : TableNo = record { 0 = number } in
        let was : row_of db named.name ≡ Some row = row_of-standing db named.name place ordered (standing_at db of place table row table_is row_is) in
        erased-has db subject (λ change. leaves_row change ≡ true → IsChangeOf db (forget db subject) change) table named (λ goes left. let never : false ≡ true = left in cc)
        (λ stay lose left.
        let left_is : row_of (forget db subject) named.name ≡ Some (left_of db subject table named) =
        row_of-forget db subject named.name table owner table_is ∙ (ap (option_and_then (left_named db subject table named.name)) was ∙ rw stay refl) in
        record {
          tells = record { was = sym was; is = sym left_is };
          differ = λ same. left_of-lost db subject table named lose (same_row row (left_of db subject table named) same);
        })
      where
        same_row : (one other : Row) → ◌≡◌ {A = Option Row} (Some one) (Some other) → one ≡ other
        same_row one other same = cc

    -- each tells the row as it is
    was_of : (number : ℕ) (table : TableDef) (place : ℕ) (row : Row) → slice_get db.schema.tables number ≡ Some table → slice_get (rows_at db.rows number) place ≡ Some row
        → IfSome (erased db subject table (named_in number table row)) (λ change. change.before ≡ row_of db change.name)
    was_of number table place row table_is row_is =
        let named : NamedRow = named_in number table row in
        let of : TableNo = record { 0 = number } in
        let was : row_of db named.name ≡ Some row = row_of-standing db named.name place ordered (standing_at db of place table row table_is row_is) in
        erased-has db subject (λ change. change.before ≡ row_of db change.name) table named (λ goes. sym was) (λ stay lose. sym was)

    pub erasures-was : AllByRecursion (λ change. change.before ≡ row_of db change.name) (erasures db subject)
    erasures-was = each_erasure db subject (λ change. change.before ≡ row_of db change.name) was_of

    losses : AllByRecursion (IsChangeOf db (forget db subject)) (filter leaves_row (erasures db subject))
    losses = each_passing (IsChangeOf db (forget db subject)) leaves_row (erasures db subject) (each_erasure db subject (λ change. leaves_row change ≡ true → IsChangeOf db (forget db subject) change) loss_of)

    -- so what becomes of the rows is the plan
    pub erasures-plan : IsPlan db subject (plan_of (erasures db subject))
    erasures-plan = record { removed = gone; changed = kept; each = losses }
