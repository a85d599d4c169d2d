-- The tables that names represent, among tables.
use Rattle.std.proofs.Common.{◌≡◌, ℕ, Bool, true, false, cond, List, [], ◌∷◌, ◌++◌, length, slice_get, nat_lt, Option, None, Some, refl, sym, ap, ◌∙◌, bytes_eq, arith}
use Rattle.std.specs.List.{find, position, position_or_len}
use Rattle.std.specs.Option.{option_and_then, option_or, option_map}
use Rattle.std.proofs.lemmas.List.Folds.{find-append, find_at}
use Rattle.std.proofs.lemmas.Bool.Decides.{nat_tests}
use Rattle.std.proofs.lemmas.Option.{slice_get_past}
use Rattle.own_model.specs.declared.schema.TableDef.{TableDef}
use Rattle.schema_model.specs.Columns.{NameBytes}

-- the first that passes stands at the first place where one passes
pub find-position : {X : Type 0} (passes : X → Bool) (items : List X) → find passes items ≡ option_and_then (slice_get items) (position passes items)
find-position passes items = find_at passes items ∙ by (nat_lt (position_or_len passes items) (length items)) refl
  where
    by : (within : Bool) → nat_lt (position_or_len passes items) (length items) ≡ within
        → slice_get items (position_or_len passes items) ≡ option_and_then (slice_get items) (cond (nat_lt (position_or_len passes items) (length items)) (Some (position_or_len passes items)) None)
    by true e = ap (λ within. option_and_then (slice_get items) (cond within (Some (position_or_len passes items)) None)) (sym e)
    by false e =
        slice_get_past items (position_or_len passes items) (grind (arith, nat_tests))
        ∙ ap (λ within. option_and_then (slice_get items) (cond within (Some (position_or_len passes items)) None)) (sym e)

-- what is seen of the first of two options
pub option_map-or : {A B : Type 0} (seen : A → B) (one other : Option A) → option_map seen (option_or one other) ≡ option_or (option_map seen one) (option_map seen other)
option_map-or seen None other = refl
option_map-or seen (Some item) other = refl

module _ (tables : List TableDef) (name : NameBytes) where
  -- the table of a name, by the number that is found for it
  pub find-found : (number : ℕ) → Some number ≡ position (λ table. bytes_eq table.name name) tables → slice_get tables number ≡ find (λ table. bytes_eq table.name name) tables
  find-found number found = ap (option_and_then (slice_get tables)) found ∙ sym (find-position (λ table. bytes_eq table.name name) tables)

  -- none is found
  pub find-absent : None ≡ position (λ table. bytes_eq table.name name) tables → None ≡ find (λ table. bytes_eq table.name name) tables
  find-absent absent = ap (option_and_then (slice_get tables)) absent ∙ sym (find-position (λ table. bytes_eq table.name name) tables)

  -- among the tables and one more
  pub find-more : (table : TableDef) (found : Option TableDef) → found ≡ find (λ table. bytes_eq table.name name) tables
      → option_or found (cond (bytes_eq table.name name) (Some table) None) ≡ find (λ table. bytes_eq table.name name) (tables ++ table ∷ [])
  find-more table found is =
      ap (λ found. option_or found (cond (bytes_eq table.name name) (Some table) None)) is
      ∙ sym (find-append (λ table. bytes_eq table.name name) tables (table ∷ []))
