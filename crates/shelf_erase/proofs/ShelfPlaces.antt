-- The rows that a subject owns, by their places on its shelf.
use Rattle.std.proofs.Common.{◌≡◌, ℕ, ◌<◌, ◌≤◌, List, length, get_or, Bool, true, false, not, inl, inr, refl, ap, sym, ◌∙◌, subst, arith}
use Rattle.std.specs.Prelude.{◌⊎◌, Contains, Option, Some, None, IfSome, is_some, slice_get}
use Rattle.std.specs.Option.{option_and_then}
use Rattle.std.proofs.lemmas.Option.{slice_get_read}
use Rattle.own_base.specs.declared.change.Change.{Change}
use Rattle.own_base.specs.declared.number.TableNo.{TableNo}
use Rattle.own_base.specs.declared.row_name.RowName.{RowName}
use Rattle.own_model.specs.declared.schema.TableDef.{TableDef}
use Rattle.own_model.specs.Db.{Db, IsOrdered, Row}
use Rattle.owner_model.specs.Joins.{row_of}
use Rattle.owner_sets.proofs.Standing.{row_of-standing, standing_there}
use Rattle.schema_model.specs.OwnerSchema.{IsOwnerSchema}
use Rattle.schema_model.proofs.Places.{place-lt}
use Rattle.shelf_model.specs.declared.shelved.Shelved.{Shelved}
use Rattle.shelf_model.specs.Seen.{seen}
use Rattle.shelf_model.specs.Shelf.{shelf}
use Rattle.shelf_model.proofs.ShelfLemmas.{path_there, seen-members, shelf-members}
use Rattle.state_model.specs.Sound.{Sound}
use Rattle.state_model.proofs.CreatedSchema.{within-created}
use Rattle.state_model.proofs.StoredRows.{row-within}
use Rattle.subject_model.specs.Named.{is_there}
use Rattle.subject_model.specs.Owners.{Owns, Reaches, by, owns}
use Rattle.subject_model.specs.Stays.{stays}
use Rattle.subject_model.proofs.NamedLemmas.{table-there}
use Rattle.subject_model.proofs.OwnerLemmas.{from_owns, owns_from}
use Rattle.subject_erase.specs.Erasures.{erased, removal}
use Rattle.subject_erase.proofs.ErasureLemmas.{erased-has}
use Rattle.shelf_erase.specs.Above.{AboveTold}
use Rattle.shelf_erase.specs.ChangeAt.{as_named, change_at, removal_at}
use Rattle.shelf_erase.specs.OwnIn.{IsNamedIn, IsOwnIn}
use Rattle.shelf_erase.specs.Told.{AreTold, OfFirst, Tells, told}
use Rattle.shelf_erase.proofs.LostLemmas.{removal-change}
use Rattle.shelf_erase.proofs.ToldLemmas.{tells-weaker}

-- the row at a place of the shelf
pub record IsShelved (shelf : List Shelved) (number : ℕ) (name : RowName) : Type 0 where
  pub copy : Shelved
  pub copy_is : slice_get shelf number ≡ Some copy
  pub name_is : name ≡ copy.name

-- if it is of a table
pub record IsShelvedIn (shelf : List Shelved) (table : TableNo) (number : ℕ) (name : RowName) : Type 0 where
  pub own : IsShelved shelf number name
  pub of_table : name.table ≡ table

-- what a copy at a place is
pub record IsOwnCopy (db : Db) (subject : RowName) (copy : Shelved) : Type 0 where
  pub row : row_of db copy.name ≡ Some copy.row
  pub by : copy.by ≡ by db subject copy.name
  pub owned : Owns db subject copy.name

row_there : (db : Db) (name : RowName) → is_there db name ≡ true → (row : Row) × (row_of db name ≡ Some row)
row_there db name there = of (row_of db name) refl there
  where
    of : (o : Option Row) → row_of db name ≡ o → is_some o ≡ true → (row : Row) × (row_of db name ≡ Some row)
    of None is some = let never : false ≡ true = some in cc
    of (Some row) is some = (row, is)

module _ (db : Db) (subject : RowName) (ordered : IsOrdered db) (owner : IsOwnerSchema db.schema) where
  pub own-copy : (list : List Shelved) (number : ℕ) (copy : Shelved) → list ≡ shelf db subject → number < length list → copy ≡ get_or list number copy → IsOwnCopy db subject copy
  own-copy list number copy is within next =
      let among : Contains (shelf db subject) copy = subst (λ l. Contains l copy) is (number, within, sym next) in
      let (own, copied) = (shelf-members db subject ordered owner copy).0 among in
      record { row = copied.row; by = copied.by; owned = own }

  -- each row that the subject owns has a place
  pub own-place : (list : List Shelved) (name : RowName) → list ≡ shelf db subject → Owns db subject name → OfFirst (IsShelved list) (length list) name
  own-place list name is own =
      let (row, row_is) = row_there db name (path_there db name own.path subject own.leads) in
      let copy : Shelved = record { name = name; row = row; by = by db subject name } in
      let (number, within, at) = subst (λ l. Contains l copy) (sym is) ((shelf-members db subject ordered owner copy).1 (own, record { row = row_is; by = refl })) in
      record { number = number; first = within; is = record { copy = copy; copy_is = slice_get_read list (length list) number copy refl within (sym at); name_is = refl } }

  -- the rows so far are those of all places
  pub all-shelved : (wanted : RowName → Option Change) (list : List Shelved) (count : ℕ) (old new : List Change) → list ≡ shelf db subject → length list ≤ count
      → Tells wanted (OfFirst (IsShelved list) count) old new → Tells wanted (Owns db subject) old new
  all-shelved wanted list count old new is all tells =
      tells-weaker wanted (OfFirst (IsShelved list) count) (Owns db subject) old new
      (λ name own. let place = own-place list name is own in let within = place.first in record { number = place.number; first = omega arith; is = place.is }) tells

  pub all-shelved-in : (wanted : RowName → Option Change) (table : TableNo) (list : List Shelved) (count : ℕ) (old new : List Change) → list ≡ shelf db subject → length list ≤ count
      → Tells wanted (OfFirst (IsShelvedIn list table) count) old new → Tells wanted (IsOwnIn db subject table) old new
  all-shelved-in wanted table list count old new is all tells =
      tells-weaker wanted (OfFirst (IsShelvedIn list table) count) (IsOwnIn db subject table) old new
      (λ name own. let place = own-place list name is own.owned in let within = place.first in record { number = place.number; first = omega arith; is = record { own = place.is; of_table = own.of_table } }) tells

  -- what a subject reaches it owns or sees
  pub reached-cases : (name : RowName) → Reaches db subject name → Owns db subject name ⊎ Contains (seen db subject) name
  reached-cases name reached = cases (owns db subject name) refl
    where
      cases : (b : Bool) → owns db subject name ≡ b → Owns db subject name ⊎ Contains (seen db subject) name
      cases true is = inl (owns_from db subject name is)
      cases false is = inr ((seen-members db subject ordered owner name).1 (reached, λ own. let never : true ≡ false = sym (from_owns db subject name ordered owner own) ∙ is in cc))

module _ (wanted : RowName → Option Change) (list : List Shelved) (number : ℕ) (copy : Shelved) (within : number < length list) (next : copy ≡ get_or list number copy) where
  here : slice_get list number ≡ Some copy
  here = slice_get_read list (length list) number copy refl within next

  named_here : (name : RowName) → IsShelved list number name → name ≡ copy.name
  named_here name is =
      let some : ◌≡◌ {A = Option Shelved} (Some is.copy) (Some copy) = sym is.copy_is ∙ here in
      let same : is.copy ≡ copy = cc in
      is.name_is ∙ ap (λ (c : Shelved). c.name) same

  pub one-shelved : (old new : List Change) → Tells wanted (λ name. name ≡ copy.name) old new → Tells wanted (IsShelved list number) old new
  one-shelved old new tells = tells-weaker wanted (λ name. name ≡ copy.name) (IsShelved list number) old new named_here tells

  pub one-shelved-in : (table : TableNo) (old new : List Change) → Tells wanted (IsNamedIn copy.name table) old new → Tells wanted (IsShelvedIn list table number) old new
  one-shelved-in table old new tells =
      tells-weaker wanted (IsNamedIn copy.name table) (IsShelvedIn list table number) old new (λ name is. record { named = named_here name is.own; of_table = is.of_table }) tells

-- of the rows above it is told as before
pub above-kept : (db : Db) (subject : RowName) (table : TableNo) (Is : RowName → Type 0) (old new : List Change) → AboveTold db subject table old → Tells (removal_at db subject) Is old new → AboveTold db subject table new
above-kept db subject table Is old new told_above tells = record {
  above = λ edge among lower upper of. elim (tells.either upper) [ inl same ↦ same ∙ told_above.above edge among lower upper of | inr told_now ↦ told_now ];
}

module _ (db : Db) (subject : RowName) where
  -- a row that stays isn't removed
  pub stay-none : (name : RowName) (row : Row) → row_of db name ≡ Some row → stays db subject name ≡ true → removal_at db subject name ≡ None
  unfolding removal_at
  stay-none name row row_is stay = rw (row_is, stay) refl

  pub going-some : (name : RowName) (row : Row) → row_of db name ≡ Some row → stays db subject name ≡ false → removal_at db subject name ≡ Some (removal (as_named name row))
  unfolding removal_at
  going-some name row row_is stay = rw (row_is, stay) refl

  pub told-stays : (goes : Bool) (name : RowName) → goes ≡ not (stays db subject name) → goes ≡ false → stays db subject name ≡ true
  told-stays goes name is none = of (stays db subject name) (sym is ∙ none)
    where
      of : (b : Bool) → not b ≡ false → b ≡ true
      of true is = refl
      of false is = let never : true ≡ false = is in cc

  pub told-goes : (goes : Bool) (name : RowName) → goes ≡ not (stays db subject name) → goes ≡ true → stays db subject name ≡ false
  told-goes goes name is some = of (stays db subject name) (sym is ∙ some)
    where
      of : (b : Bool) → not b ≡ true → b ≡ false
      of true is = let never : false ≡ true = is in cc
      of false is = refl

  -- of a row for which a removal is told, that is what becomes of it
  pub removed-change : (removals : List Change) (name : RowName) (row : Row) → AreTold (removal_at db subject) removals → row_of db name ≡ Some row → is_some (told removals name) ≡ true
      → change_at db subject name ≡ Some (removal (as_named name row))
  removed-change removals name row are row_is some =
      let (table, table_is) = table-there db name (ap is_some row_is) in
      of table table_is (stays db subject name) refl
    where
      of : (table : TableDef) → slice_get db.schema.tables name.table.0 ≡ Some table → (stay : Bool) → stays db subject name ≡ stay → change_at db subject name ≡ Some (removal (as_named name row))
      of table table_is true stay =
          let never : false ≡ true = sym (ap is_some (are.each name ∙ stay-none name row row_is stay)) ∙ some in cc
      of table table_is false stay = removal-change db subject name table row (removal (as_named name row)) table_is row_is (going-some name row row_is stay)

  pub untold-stays : (removals : List Change) (name : RowName) (row : Row) → AreTold (removal_at db subject) removals → row_of db name ≡ Some row → is_some (told removals name) ≡ false → stays db subject name ≡ true
  untold-stays removals name row are row_is none = of (stays db subject name) refl
    where
      of : (stay : Bool) → stays db subject name ≡ stay → stays db subject name ≡ true
      of true stay = stay
      of false stay = let never : true ≡ false = sym (ap is_some (are.each name ∙ going-some name row row_is stay)) ∙ none in cc

-- a row has no more values than a table may have columns
pub few-values : (db : Db) (name : RowName) (row : Row) → Sound db → row_of db name ≡ Some row → length row ≤ 32
few-values db name row sound row_is =
    let (place, stands) = standing_there db name (ap is_some row_is) in
    let some : ◌≡◌ {A = Option Row} (Some stands.row) (Some row) = sym (row_of-standing db name place sound.well_formed.ordered stands) ∙ row_is in
    let same : stands.row ≡ row = cc in
    subst (λ (r : Row). length r ≤ 32) same
    (row-within db.schema db.rows name.table.0 place stands.definition stands.row (within-created db sound.well_formed.created) sound.well_formed.rows stands.table_is stands.row_is)

pub table-within : (db : Db) (name : RowName) (row : Row) → row_of db name ≡ Some row → name.table.0 < length db.schema.tables
table-within db name row row_is = let (table, table_is) = table-there db name (ap is_some row_is) in place-lt db.schema.tables name.table.0 table table_is

-- the name at a place of a list
pub record IsNameAt (names : List RowName) (number : ℕ) (name : RowName) : Type 0 where
  pub name_is : slice_get names number ≡ Some name

module _ (wanted : RowName → Option Change) (names : List RowName) where
  pub one-named : (number : ℕ) (own : RowName) (old new : List Change) → number < length names → own ≡ get_or names number own → Tells wanted (λ other. other ≡ own) old new → Tells wanted (IsNameAt names number) old new
  one-named number own old new within next tells =
      tells-weaker wanted (λ other. other ≡ own) (IsNameAt names number) old new
      (λ name is.
      let some : ◌≡◌ {A = Option RowName} (Some name) (Some own) = sym is.name_is ∙ slice_get_read names (length names) number own refl within next in
      let same : name ≡ own = cc in
      same)
      tells

  pub all-named : (count : ℕ) (old new : List Change) → length names ≤ count → Tells wanted (OfFirst (IsNameAt names) count) old new → Tells wanted (Contains names) old new
  all-named count old new all tells =
      tells-weaker wanted (OfFirst (IsNameAt names) count) (Contains names) old new
      (λ name among. let (number, within, at) = among in record { number = number; first = omega (arith, all, within); is = record { name_is = slice_get_read names (length names) number name refl within (sym at) } })
      tells

-- what becomes of the row of a name is of that name
pub change-name : (db : Db) (subject name : RowName) (change : Change) → change_at db subject name ≡ Some change → change.name ≡ name
unfolding change_at
change-name db subject name change is = subst (λ o. IfSome o (λ (c : Change). c.name ≡ name)) is (of (slice_get db.schema.tables name.table.0) (row_of db name))
  where
    of : (table : Option TableDef) (row : Option Row) → IfSome (option_and_then (λ table. option_and_then (λ row. erased db subject table (as_named name row)) row) table) (λ (c : Change). c.name ≡ name)
    of None row = tt
    of (Some table) None = tt
    of (Some table) (Some row) = erased-has db subject (λ (c : Change). c.name ≡ name) table (as_named name row) (λ goes. refl) (λ stay lose. refl)

-- and nothing becomes of a row that isn't there
pub change-none : (db : Db) (subject name : RowName) → row_of db name ≡ None → change_at db subject name ≡ None
unfolding change_at
change-none db subject name none = of (slice_get db.schema.tables name.table.0)
  where
    of : (table : Option TableDef) → option_and_then (λ table. option_and_then (λ row. erased db subject table (as_named name row)) (row_of db name)) table ≡ None
    of None = refl
    of (Some table) = rw none refl
