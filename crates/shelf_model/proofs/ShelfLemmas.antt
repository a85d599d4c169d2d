-- What stands on a subject's shelf, and what it sees, looked up by name.
use Rattle.std.proofs.Common.{◌≡◌, List, [], ◌∷◌, Bool, true, false, refl, ap, sym, ◌∙◌, subst}
use Rattle.std.specs.Prelude.{◌↔◌, not, Contains, filter, map}
use Rattle.std.specs.List.Sorted.{IsStrictlySortedBy}
use Rattle.std.proofs.lemmas.Bool.{and_from, and_parts}
use Rattle.own_base.specs.declared.row_name.RowName.{RowName}
use Rattle.own_model.specs.Db.{Db, IsOrdered}
use Rattle.page_model.specs.Found.{found}
use Rattle.page_model.specs.Rising.{IsRising}
use Rattle.schema_model.specs.OwnerSchema.{IsOwnerSchema}
use Rattle.subject_model.specs.NameOrder.{name_cmp}
use Rattle.subject_model.specs.Named.{NamedRow, is_there, named_rows}
use Rattle.subject_model.specs.Owners.{Owns, Reaches, owns, reaches}
use Rattle.subject_model.specs.Paths.{IsPath, Path}
use Rattle.subject_model.proofs.Members.{contains_filter, contains_map, contains_of_filter, contains_of_map}
use Rattle.subject_model.proofs.NamedLemmas.{named-row_of, named-there, row_of-named}
use Rattle.subject_model.proofs.OwnerLemmas.{from_owns, from_reaches, owns_from, reaches_from}
use Rattle.subject_model.proofs.OwnerLists.{there-subject_row}
use Rattle.shelf_model.specs.declared.shelved.Shelved.{Shelved}
use Rattle.shelf_model.specs.At.{copy_at, seen_at}
use Rattle.shelf_model.specs.IsCopy.{IsCopyOf}
use Rattle.shelf_model.specs.Seen.{seen, sees}
use Rattle.shelf_model.specs.Shelf.{shelf, shelved}
use Rattle.shelf_model.proofs.KeptRows.{called, found_made, made_rise}

module _ (db : Db) (subject : RowName) (ordered : IsOrdered db) where
  pub shelf_found : (name : RowName) → found (λ copy. copy.name) name_cmp name (shelf db subject) ≡ copy_at db subject name
  unfolding shelf
  shelf_found name = found_made (λ (copy : Shelved). copy.name) (shelved db subject) (λ named. refl) (λ named. owns db subject named.name) db name ordered

  pub shelf_rises : IsRising (λ copy. copy.name) name_cmp (shelf db subject)
  unfolding shelf
  shelf_rises = made_rise (λ (copy : Shelved). copy.name) (shelved db subject) (λ named. refl) (λ named. owns db subject named.name) db ordered

  pub seen_found : (name : RowName) → found (λ own. own) name_cmp name (seen db subject) ≡ seen_at db subject name
  unfolding seen
  seen_found name = found_made (λ (own : RowName). own) called (λ named. refl) (λ named. sees db subject named.name) db name ordered

  pub seen_rises : IsRising (λ own. own) name_cmp (seen db subject)
  unfolding seen
  seen_rises = made_rise (λ (own : RowName). own) called (λ named. refl) (λ named. sees db subject named.name) db ordered

-- a row from which a path leads is there
pub path_there : (db : Db) (name : RowName) (path : Path) (subject : RowName) → IsPath db name path subject → is_there db name ≡ true
path_there db name [] subject is = there-subject_row db name is.0
path_there db name (step ∷ rest) subject is = is.0.lower_there

map_itself : {X : Type 0} (xs : List X) → map (λ x. x) xs ≡ xs
map_itself [] = refl
map_itself (x ∷ xs) = ap (λ ys. x ∷ ys) (map_itself xs)

module _ (db : Db) (subject : RowName) (ordered : IsOrdered db) (owner : IsOwnerSchema db.schema) where
  pub shelf-members : (copy : Shelved) → Contains (shelf db subject) copy ↔ (Owns db subject copy.name × IsCopyOf db subject copy)
  unfolding shelf
  shelf-members copy = (to, from)
    where
      to : Contains (map (shelved db subject) (filter (λ named. owns db subject named.name) (named_rows db))) copy → Owns db subject copy.name × IsCopyOf db subject copy
      to among =
          let (named, kept, same) = contains_of_map (shelved db subject) _ copy among in
          let (at, passes) = contains_of_filter (λ (n : NamedRow). owns db subject n.name) (named_rows db) named kept in
          let is : IsCopyOf db subject (shelved db subject named) = record { row = row_of-named db named ordered at; by = refl } in
          subst (λ c. Owns db subject c.name × IsCopyOf db subject c) same (owns_from db subject named.name passes, is)

      from : Owns db subject copy.name × IsCopyOf db subject copy → Contains (map (shelved db subject) (filter (λ named. owns db subject named.name) (named_rows db))) copy
      from (is, own) =
          let named : NamedRow = record { name = copy.name; row = copy.row } in
          let at = named-row_of db named ordered own.row in
          let kept = contains_filter (λ (n : NamedRow). owns db subject n.name) (named_rows db) named at (from_owns db subject copy.name ordered owner is) in
          let same : shelved db subject named ≡ copy = ap (λ edges. record copy { by = edges }) (sym own.by) in
          subst (Contains _) same (contains_map (shelved db subject) _ named kept)

  none_owned : (name : RowName) → not (owns db subject name) ≡ true → ¬ (Owns db subject name)
  none_owned name not_owned is = let never : false ≡ true = ap not (sym (from_owns db subject name ordered owner is)) ∙ not_owned in cc

  not_owned_from : (name : RowName) → ¬ (Owns db subject name) → not (owns db subject name) ≡ true
  not_owned_from name none = cases (owns db subject name) refl
    where
      cases : (b : Bool) → owns db subject name ≡ b → not (owns db subject name) ≡ true
      cases true is = absurd (none (owns_from db subject name is))
      cases false is = ap not is

  pub seen-members : (name : RowName) → Contains (seen db subject) name ↔ (Reaches db subject name × (¬ (Owns db subject name)))
  unfolding seen
  seen-members name = (to, from)
    where
      to : Contains (map called (filter (λ named. sees db subject named.name) (named_rows db))) name → Reaches db subject name × (¬ (Owns db subject name))
      to among =
          let (named, kept, same) = contains_of_map called _ name among in
          let (at, passes) = contains_of_filter (λ (n : NamedRow). sees db subject n.name) (named_rows db) named kept in
          let both = and_parts (reaches db subject named.name) (not (owns db subject named.name)) passes in
          subst (λ n. Reaches db subject n × (¬ (Owns db subject n))) same (reaches_from db subject named.name both.0, none_owned named.name both.1)

      from : Reaches db subject name × (¬ (Owns db subject name)) → Contains (map called (filter (λ named. sees db subject named.name) (named_rows db))) name
      from (is, none) =
          let (row, at) = named-there db name ordered (path_there db name is.path subject is.leads) in
          let named : NamedRow = record { name = name; row = row } in
          let passes = and_from _ _ (from_reaches db subject name ordered owner is) (not_owned_from name none) in
          contains_map called _ named (contains_filter (λ (n : NamedRow). sees db subject n.name) (named_rows db) named at passes)

pub seen-rise : (db : Db) (subject : RowName) → IsOrdered db → IsStrictlySortedBy name_cmp (seen db subject)
seen-rise db subject ordered = subst (IsStrictlySortedBy name_cmp) (map_itself (seen db subject)) (seen_rises db subject ordered)
