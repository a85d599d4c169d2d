-- Which rows are struck and which stay, as facts.
use Rattle.std.proofs.Common.{◌≡◌, [], ◌∷◌, Bool, true, false, not, inl, inr, sym, ◌∙◌}
use Rattle.std.specs.Prelude.{◌⊎◌, ◌↔◌, ◌&&◌, ◌||◌, IsTrue}
use Rattle.std.specs.List.{AllByRecursion, list_all, list_any}
use Rattle.std.proofs.lemmas.Bool.{and_from, and_parts, false_from_ne_true, not-true, not_from_false, or_cases, or_left, or_right}
use Rattle.own_base.specs.declared.row_name.RowName.{RowName}
use Rattle.own_model.specs.Db.{Db, IsOrdered}
use Rattle.schema_model.specs.OwnerSchema.{IsOwnerSchema}
use Rattle.schema_model.specs.Tables.{is_private}
use Rattle.subject_model.specs.Named.{is_name}
use Rattle.subject_model.specs.Owners.{is_owner_path, leads_to, owns}
use Rattle.subject_model.specs.Paths.{Path, Step, end_of, paths, steps_of}
pub use Rattle.subject_model.specs.Staying.{Claimed, IsFree, Stays, Struck}
use Rattle.subject_model.specs.Stays.{holds, is_free, stays, struck}
use Rattle.subject_model.proofs.JoinsLemmas.{joins_step, step_joins}
use Rattle.subject_model.proofs.Members.{all_passes, any_contained, contains_any, passes_all}
use Rattle.subject_model.proofs.NamedLemmas.{name_is, one_name}
use Rattle.subject_model.proofs.OwnerLemmas.{from_owns, is_owner_path-from, owner_path, owns_from}
use Rattle.subject_model.proofs.PathLemmas.{passing_path, path_ends, path_passes, path_to_end}

-- a row that the test says is struck is struck
pub struck_from : (db : Db) (subject name : RowName) → struck db subject name ≡ true → Struck db subject name
unfolding struck
struck_from db subject name is =
    let (step, among, passes) = contains_any (λ step. step.edge.strike && owns db subject step.upper) (steps_of db name) is in
    let both = and_parts step.edge.strike (owns db subject step.upper) passes in
    record { edge = step.edge; upper = step.upper; joined = step_joins db name step among; strikes = both.0; owned = owns_from db subject step.upper both.1 }

-- and of one that is, it says so
pub from_struck : (db : Db) (subject name : RowName) → IsOrdered db → IsOwnerSchema db.schema → Struck db subject name → struck db subject name ≡ true
unfolding struck
from_struck db subject name ordered owner is =
    let step : Step = record { edge = is.edge; upper = is.upper } in
    any_contained (λ step. step.edge.strike && owns db subject step.upper) (steps_of db name) step (joins_step db name step ordered is.joined)
    (and_from _ _ is.strikes (from_owns db subject is.upper ordered owner is.owned))

-- both ways
pub struck-iff_Struck : (db : Db) (subject name : RowName) → IsOrdered db → IsOwnerSchema db.schema → IsTrue (struck db subject name) ↔ Struck db subject name
struck-iff_Struck db subject name ordered owner = (struck_from db subject name, from_struck db subject name ordered owner)

each_fails : (test : Step → Bool) (path : Path) → AllByRecursion (λ step. not (test step) ≡ true) path → AllByRecursion (λ step. test step ≡ false) path
each_fails test [] all = tt
each_fails test (step ∷ rest) all = (not-true (test step) all.0, each_fails test rest all.1)

fails_each : (test : Step → Bool) (path : Path) → AllByRecursion (λ step. test step ≡ false) path → AllByRecursion (λ step. not (test step) ≡ true) path
fails_each test [] all = tt
fails_each test (step ∷ rest) all = (not_from_false (test step) all.0, fails_each test rest all.1)

-- a path that the test says is free is free
pub free_from : (db : Db) (subject from : RowName) (path : Path) → is_free db subject from path ≡ true → IsFree db subject from path
free_from db subject from path is =
    let both = and_parts (not (struck db subject from)) (list_all (λ step. not (struck db subject step.upper)) path) is in
    (not-true (struck db subject from) both.0, each_fails (λ step. struck db subject step.upper) path (all_passes (λ step. not (struck db subject step.upper)) path both.1))

-- and of one that is, it says so
pub from_free : (db : Db) (subject from : RowName) (path : Path) → IsFree db subject from path → is_free db subject from path ≡ true
from_free db subject from path is =
    and_from _ _ (not_from_false (struck db subject from) is.0)
    (passes_all (λ step. not (struck db subject step.upper)) path (fails_each (λ step. struck db subject step.upper) path is.1))

-- a row for which the search finds a path is held by another subject
pub held_from : (db : Db) (subject name : RowName) → list_any (holds db subject name) (paths db name) ≡ true → Claimed db subject name
held_from db subject name is =
    let some = passing_path db name (holds db subject name) is in
    let all = and_parts (is_owner_path some.path && not (leads_to subject name some.path)) (is_free db subject name some.path) some.passes in
    let both = and_parts (is_owner_path some.path) (not (leads_to subject name some.path)) all.0 in
    record {
      other = end_of name some.path;
      differs = λ same. let never : true ≡ false = sym (name_is (end_of name some.path) subject same) ∙ not-true (leads_to subject name some.path) both.1 in cc;
      path = some.path;
      leads = some.leads;
      owner = owner_path some.path both.0;
      free = free_from db subject name some.path all.1;
    }

-- and for one that is, it finds a path
pub from_held : (db : Db) (subject name : RowName) → IsOrdered db → IsOwnerSchema db.schema → Claimed db subject name → list_any (holds db subject name) (paths db name) ≡ true
from_held db subject name ordered owner is =
    let ends = path_ends db name is.path is.other is.leads in
    let elsewhere : leads_to subject name is.path ≡ false = false_from_ne_true _ (λ there. is.differs (sym ends ∙ one_name (end_of name is.path) subject there)) in
    path_passes db name (holds db subject name) ordered owner
    (record {
      path = is.path;
      leads = path_to_end db name is.path is.other is.leads;
      passes = and_from _ _ (and_from _ _ (is_owner_path-from is.path is.owner) (not_from_false _ elsewhere)) (from_free db subject name is.path is.free);
    })

-- a row that the test says stays, stays
pub stays_from : (db : Db) (subject name : RowName) → stays db subject name ≡ true → Stays db subject name
unfolding stays
stays_from db subject name is =
    let private : Bool = is_private db.schema name.table.0 in
    let both = and_parts (not (is_name name subject)) (not private || list_any (holds db subject name) (paths db name)) is in
    record {
      other = λ same. let never : true ≡ false = sym (name_is name subject same) ∙ not-true (is_name name subject) both.0 in cc;
      kept = elim (or_cases (not private) (list_any (holds db subject name) (paths db name)) both.1) [
        | inl open_table ↦ inl (not-true private open_table)
        | inr held ↦ inr (held_from db subject name held)
      ];
    }

-- and of one that does, it says so
pub from_stays : (db : Db) (subject name : RowName) → IsOrdered db → IsOwnerSchema db.schema → Stays db subject name → stays db subject name ≡ true
unfolding stays
from_stays db subject name ordered owner is =
    and_from _ _ (not_from_false _ (false_from_ne_true (is_name name subject) (λ same. is.other (one_name name subject same)))) (by is.kept)
  where
    by : (is_private db.schema name.table.0 ≡ false) ⊎ Claimed db subject name → (not (is_private db.schema name.table.0) || list_any (holds db subject name) (paths db name)) ≡ true
    by (inl open_table) = or_left _ _ (not_from_false _ open_table)
    by (inr held) = or_right (not (is_private db.schema name.table.0)) _ (from_held db subject name ordered owner held)

-- both ways
pub stays-iff_Stays : (db : Db) (subject name : RowName) → IsOrdered db → IsOwnerSchema db.schema → IsTrue (stays db subject name) ↔ Stays db subject name
stays-iff_Stays db subject name ordered owner = (stays_from db subject name, from_stays db subject name ordered owner)
