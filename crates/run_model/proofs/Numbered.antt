-- Members of a list with their numbers, and which of them a search finds.
use Rattle.std.proofs.Common.{◌≡◌, ℕ, List, [], ◌∷◌, Bool, true, false, refl, ap, arith}
use Rattle.std.specs.Prelude.{Option, Some, None, find, is_none, slice_get, if◌then◌else◌}
use Rattle.std.specs.List.{AllByRecursion, enumerate_from}
use Rattle.std.specs.Option.{option_map_or}
use Rattle.own_model.specs.declared.refusal.Refusal.{Refusal}
use Rattle.own_model.specs.declared.refusal.Refusal.TheVariants.{NoTable}
use Rattle.own_model.specs.declared.schema.Schema.{Schema}
use Rattle.own_model.specs.declared.schema.TableDef.{TableDef}
use Rattle.schema_model.proofs.Places.{all-from_places, slice_get-enumerate_from}
use Rattle.query_model.specs.Scope.{NameBytes, table_named}
use Rattle.query_model.specs.SelectFaults.{no_table}
use Rattle.query_model.specs.SelectMeaning.{table_number}

module _ {X : Type 0} (xs : List X) where
  -- an element of the list with its number
  abbrev pub IsNumbered : ℕ × X → Type 0
  IsNumbered numbered = slice_get xs numbered.0 ≡ Some numbered.1

  -- such an element, or none
  abbrev pub IfNumbered : Option (ℕ × X) → Type 0
  IfNumbered None = Unit {0}
  IfNumbered (Some numbered) = IsNumbered numbered

  -- the elements with their numbers are such ones
  pub numbered-each : AllByRecursion IsNumbered (enumerate_from 0 xs)
  numbered-each = all-from_places IsNumbered (enumerate_from 0 xs) (λ place numbered is.
      let at = slice_get-enumerate_from 0 xs place numbered is in
      let number : numbered.0 ≡ place = (let n = at.0 in omega arith) in
      rw number at.1)

  -- by whether the first passes the test
  found_step : (test : ℕ × X → Bool) (first : ℕ × X) (rest : List (ℕ × X)) → IsNumbered first → IfNumbered (find test rest)
      → (b : Bool) → test first ≡ b → IfNumbered (find test (first ∷ rest))
  found_step test first rest one later true is = rw is one
  found_step test first rest one later false is = rw is later

  -- one that is found among such elements is one
  numbered_among : (test : ℕ × X → Bool) (among : List (ℕ × X)) → AllByRecursion IsNumbered among → IfNumbered (find test among)
  numbered_among test [] all = tt
  numbered_among test (first ∷ among) all = found_step test first among all.0 (numbered_among test among all.1) _ refl

  -- so one that is found among all is one
  pub numbered-found : (test : ℕ × X → Bool) → IfNumbered (find test (enumerate_from 0 xs))
  numbered-found test = numbered_among test (enumerate_from 0 xs) numbered-each

-- The table of a name that has one: it stands at the number that the name means.
named_step : (tables : List TableDef) (fault : Refusal) (table : TableDef) (found : Option (ℕ × TableDef)) → IfNumbered tables found
    → (if is_none found then fault ∷ [] else []) ≡ [] → slice_get tables (option_map_or (λ found. found.0) found 0) ≡ Some table
    → found ≡ Some (option_map_or (λ found. found.0) found 0, table)
named_step tables fault table None there none at = absurd (cc)
named_step tables fault table (Some found) there none at = let same : found.1 ≡ table = cc in ap (λ table. Some (found.0, table)) same

pub named-at : (schema : Schema) (name : NameBytes) (table : TableDef) → no_table schema name ≡ [] → slice_get schema.tables (table_number schema name).0 ≡ Some table
    → table_named schema name ≡ Some ((table_number schema name).0, table)
named-at schema name table none at = named_step schema.tables (NoTable name) table (table_named schema name) (numbered-found schema.tables _) none at
