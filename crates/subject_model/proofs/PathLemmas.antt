-- The list of paths has each path and no other.
use Rattle.std.proofs.Common.{◌≡◌, ℕ, zero, suc, ◌≤◌, List, [], ◌∷◌, length, map, Bool, true, false, inl, inr, refl, sym, ◌∙◌, subst, arith}
use Rattle.std.specs.Prelude.{◌↔◌, Contains, IsTrue, if◌then◌else◌}
use Rattle.std.specs.List.{list_any}
use Rattle.std.proofs.lemmas.List.Elements.{Contains-append_cases, Contains-append_right}
use Rattle.own_base.specs.declared.row_name.RowName.{RowName}
use Rattle.own_model.specs.Db.{Db, IsOrdered}
use Rattle.owner_model.specs.Joins.{Joins}
use Rattle.schema_model.specs.OwnerSchema.{IsOwnerSchema}
use Rattle.subject_model.specs.Paths.{IsPath, Path, Step, climbs, end_of, is_subject_row, paths, steps_of}
use Rattle.subject_model.proofs.JoinsLemmas.{joins_step, step_joins}
use Rattle.subject_model.proofs.Members.{any_contained, contains_any, contains_cases, contains_flat_map, contains_here, contains_map, contains_none, contains_of_flat_map, contains_of_map}
use Rattle.subject_model.proofs.TableRank.{rank, rank-joins, rank-le}

-- a path from a row to a subject ends at the subject
pub path_ends : (db : Db) (from : RowName) (path : Path) (subject : RowName) → IsPath db from path subject → end_of from path ≡ subject
unfolding end_of
path_ends db from [] subject is = is.1
path_ends db from (step ∷ rest) subject is = path_ends db step.upper rest subject is.1.1

-- what is above a row that a step enters: nothing where it is a subject row, else what climbs on
abbrev above : Bool → List Path → List Path
above b more = if b then [] ∷ [] else more

climb_step : (db : Db) (from : RowName) (step : Step) (rest : Path) (more : List Path) → Joins db from step.edge step.upper
    → (Contains more rest → IsPath db step.upper rest (end_of step.upper rest))
    → (b : Bool) → is_subject_row db step.upper ≡ b → Contains (above b more) rest → IsPath db from (step ∷ rest) (end_of from (step ∷ rest))
unfolding end_of
climb_step db from step rest more join on true is among =
    elim (contains_cases [] [] rest among) [
      | inl none ↦ subst (λ r. IsPath db from (step ∷ r) (end_of from (step ∷ r))) none (join, ((λ yes. refl), (is, refl)))
      | inr later ↦ absurd (contains_none rest later)
    ]
climb_step db from step rest more join on false is among = (join, ((λ yes. let never : true ≡ false = sym yes ∙ is in cc), on among))

-- each climb is a path
climb_is_path : (most : ℕ) (db : Db) (from : RowName) (path : Path) → Contains (climbs most db from) path → IsPath db from path (end_of from path)
unfolding climbs
climb_is_path zero db from path among = absurd (contains_none path among)
climb_is_path (suc most) db from path among =
    let upward : Step → List Path = λ step. map (λ rest. step ∷ rest) (above (is_subject_row db step.upper) (climbs most db step.upper)) in
    let (step, out, on) = contains_of_flat_map upward (steps_of db from) path among in
    let (rest, higher, same) = contains_of_map (λ (rest : Path). step ∷ rest) (above (is_subject_row db step.upper) (climbs most db step.upper)) path on in
    subst (λ p. IsPath db from p (end_of from p)) same
    (climb_step db from step rest (climbs most db step.upper) (step_joins db from step out) (climb_is_path most db step.upper rest) (is_subject_row db step.upper) refl higher)

above_contains : (rest : Path) (more : List Path) (b : Bool) → (b ≡ true → rest ≡ []) → (b ≡ false → Contains more rest) → Contains (above b more) rest
above_contains rest more true ends on = subst (Contains ([] ∷ [])) (sym (ends refl)) (contains_here [] [])
above_contains rest more false ends on = on refl

climb_along : (most : ℕ) (db : Db) (from : RowName) (step : Step) (rest : Path) → IsOrdered db → Joins db from step.edge step.upper
    → (IsTrue (is_subject_row db step.upper) → rest ≡ []) → (is_subject_row db step.upper ≡ false → Contains (climbs most db step.upper) rest)
    → Contains (climbs (suc most) db from) (step ∷ rest)
unfolding climbs
climb_along most db from step rest ordered join ends on =
    let upward : Step → List Path = λ step. map (λ rest. step ∷ rest) (above (is_subject_row db step.upper) (climbs most db step.upper)) in
    contains_flat_map upward (steps_of db from) step (step ∷ rest) (joins_step db from step ordered join)
    (contains_map (λ (rest : Path). step ∷ rest) (above (is_subject_row db step.upper) (climbs most db step.upper)) rest
    (above_contains rest (climbs most db step.upper) (is_subject_row db step.upper) ends on))

-- each path of a step or more is a climb of as many steps as its first table's rank
path_climbs : (most : ℕ) (db : Db) (from : RowName) (step : Step) (rest : Path) (subject : RowName) → IsOrdered db → IsOwnerSchema db.schema
    → rank db.schema from.table.0 ≤ most → IsPath db from (step ∷ rest) subject → Contains (climbs most db from) (step ∷ rest)
path_climbs zero db from step rest subject ordered owner within is =
    absurd (omega (arith, rank-joins db from step.edge step.upper owner is.0))
path_climbs (suc most) db from step [] subject ordered owner within is =
    climb_along most db from step [] ordered is.0 (λ yes. refl) (λ no. let never : true ≡ false = sym is.1.1.0 ∙ no in cc)
path_climbs (suc most) db from step (next ∷ rest) subject ordered owner within is =
    climb_along most db from step (next ∷ rest) ordered is.0 is.1.0
    (λ no. path_climbs most db step.upper next rest subject ordered owner (omega (arith, rank-joins db from step.edge step.upper owner is.0)) is.1.1)

path_of_none : (db : Db) (from : RowName) (path : Path) (b : Bool) → is_subject_row db from ≡ b → Contains (above b []) path → IsPath db from path (end_of from path)
unfolding end_of
path_of_none db from path true is among =
    elim (contains_cases [] [] path among) [
      | inl here ↦ subst (λ p. IsPath db from p (end_of from p)) here (is, refl)
      | inr later ↦ absurd (contains_none path later)
    ]
path_of_none db from path false is among = absurd (contains_none path among)

-- the list of paths has paths alone
pub listed_is_path : (db : Db) (from : RowName) (path : Path) → Contains (paths db from) path → IsPath db from path (end_of from path)
unfolding paths
listed_is_path db from path among =
    elim (Contains-append_cases (above (is_subject_row db from) []) (climbs (length db.schema.tables) db from) path among) [
      | inl none ↦ path_of_none db from path (is_subject_row db from) refl none
      | inr climb ↦ climb_is_path (length db.schema.tables) db from path climb
    ]

-- and it has each path
pub path_is_listed : (db : Db) (from : RowName) (path : Path) (subject : RowName) → IsOrdered db → IsOwnerSchema db.schema → IsPath db from path subject → Contains (paths db from) path
unfolding paths
path_is_listed db from [] subject ordered owner is = rw is.0 (contains_here [] (climbs (length db.schema.tables) db from))
path_is_listed db from (step ∷ rest) subject ordered owner is =
    Contains-append_right (above (is_subject_row db from) []) (climbs (length db.schema.tables) db from) (step ∷ rest)
    (path_climbs (length db.schema.tables) db from step rest subject ordered owner (rank-le db.schema from.table.0) is)

-- a path to where it ends
pub path_to_end : (db : Db) (from : RowName) (path : Path) (subject : RowName) → IsPath db from path subject → IsPath db from path (end_of from path)
path_to_end db from path subject is = subst (IsPath db from path) (sym (path_ends db from path subject is)) is

-- the list of paths has exactly the paths
pub paths-iff_path : (db : Db) (from : RowName) (path : Path) → IsOrdered db → IsOwnerSchema db.schema → Contains (paths db from) path ↔ IsPath db from path (end_of from path)
paths-iff_path db from path ordered owner = (listed_is_path db from path, path_is_listed db from path (end_of from path) ordered owner)

-- some path from a row passes a test exactly where the list of paths has one that does
pub record Passing (db : Db) (from : RowName) (test : Path → Bool) : Type 0 where
  pub path : Path
  pub leads : IsPath db from path (end_of from path)
  pub passes : IsTrue (test path)

pub passing_path : (db : Db) (from : RowName) (test : Path → Bool) → list_any test (paths db from) ≡ true → Passing db from test
passing_path db from test any =
    let (path, among, passes) = contains_any test (paths db from) any in
    record { path = path; leads = listed_is_path db from path among; passes = passes }

pub path_passes : (db : Db) (from : RowName) (test : Path → Bool) → IsOrdered db → IsOwnerSchema db.schema → Passing db from test → list_any test (paths db from) ≡ true
path_passes db from test ordered owner passing =
    any_contained test (paths db from) passing.path (path_is_listed db from passing.path (end_of from passing.path) ordered owner passing.leads) passing.passes

pub passing-iff_path : (db : Db) (from : RowName) (test : Path → Bool) → IsOrdered db → IsOwnerSchema db.schema → IsTrue (list_any test (paths db from)) ↔ Passing db from test
passing-iff_path db from test ordered owner = (passing_path db from test, path_passes db from test ordered owner)
