-- The copies of a subject's shelf and of what it sees are those of the rows that it reaches.
use Rattle.std.proofs.Common.{◌≡◌, List, [], map, Bool, true, false, inl, inr, refl, ap, sym, ◌∙◌, subst}
use Rattle.std.specs.Prelude.{◌⊎◌, not, Contains, Option, None, Some, filter, if◌then◌else◌}
use Rattle.std.specs.Option.{option_and_then}
use Rattle.std.proofs.lemmas.Bool.{and_from, and_parts}
use Rattle.own_base.specs.declared.row_name.RowName.{RowName}
use Rattle.own_model.specs.Db.{Db, IsOrdered, Row}
use Rattle.owner_model.specs.Joins.{row_of}
use Rattle.page_model.specs.Found.{found}
use Rattle.page_model.specs.Rising.{IsRising}
use Rattle.page_model.proofs.SameFound.{same_found}
use Rattle.schema_model.specs.OwnerSchema.{IsOwnerSchema}
use Rattle.subject_model.specs.NameOrder.{name_cmp}
use Rattle.subject_model.specs.Named.{NamedRow, named_rows}
use Rattle.subject_model.specs.Owners.{Owns, owns, reaches}
use Rattle.subject_model.proofs.Members.{contains_filter, contains_map, contains_of_filter, contains_of_map}
use Rattle.subject_model.proofs.NamedLemmas.{named-row_of, row_of-named}
use Rattle.subject_model.proofs.OwnerLemmas.{from_reaches, owns_from}
use Rattle.subject_model.proofs.RisingNames.{name_order}
use Rattle.shelf_model.specs.declared.shelved.Shelved.{Shelved}
use Rattle.shelf_model.specs.Seen.{sees}
use Rattle.shelf_model.specs.Shelf.{shelf, shelved}
use Rattle.shelf_model.proofs.KeptRows.{as_named, found_made, made_rise}
use Rattle.shelf_access.specs.Gathered.{AreWanted, Gathers, GathersWanted, copy_in, name_of_copy}
use Rattle.shelf_access.specs.Sights.{sights}

-- copies of the rows that a subject reaches
abbrev pub reached : Db → RowName → List Shelved
reached db subject = map (shelved db subject) (filter (λ named. reaches db subject named.name) (named_rows db))

-- the one of a name
abbrev copy_reached : Db → RowName → RowName → Option Shelved
copy_reached db subject name = option_and_then (λ row. if reaches db subject name then Some (shelved db subject (as_named name row)) else None) (row_of db name)

module _ (db : Db) (subject : RowName) (ordered : IsOrdered db) (owner : IsOwnerSchema db.schema) where
  reached_found : (name : RowName) → copy_in (reached db subject) name ≡ (copy_reached db subject) name
  reached_found name = found_made name_of_copy (shelved db subject) (λ named. refl) (λ named. reaches db subject named.name) db name ordered

  reached_rises : IsRising name_of_copy name_cmp (reached db subject)
  reached_rises = made_rise name_of_copy (shelved db subject) (λ named. refl) (λ named. reaches db subject named.name) db ordered

  owning : (name : RowName) → owns db subject name ≡ true → reaches db subject name ≡ true
  owning name is = let way : Owns db subject name = owns_from db subject name is in from_reaches db subject name ordered owner (record { path = way.path; leads = way.leads })

  -- a row that is there and is reached has its copy among them
  here : (named : NamedRow) → Contains (named_rows db) named → reaches db subject named.name ≡ true → (copy_reached db subject) named.name ≡ Some (shelved db subject named)
  here named among is = ap (option_and_then (λ row. if reaches db subject named.name then Some (shelved db subject (as_named named.name row)) else None)) (row_of-named db named ordered among) ∙ rw is refl

  shelf_wanted : AreWanted (copy_reached db subject) (shelf db subject)
  unfolding shelf
  shelf_wanted copy among =
      let (named, kept, same) = contains_of_map (shelved db subject) _ copy among in
      let (at, passes) = contains_of_filter (λ (n : NamedRow). owns db subject n.name) (named_rows db) named kept in
      subst (λ c. (copy_reached db subject) c.name ≡ Some c) same (here named at (owning named.name passes))

  sights_wanted : AreWanted (copy_reached db subject) (sights db subject)
  unfolding sights
  sights_wanted copy among =
      let (named, kept, same) = contains_of_map (shelved db subject) _ copy among in
      let (at, passes) = contains_of_filter (λ (n : NamedRow). sees db subject n.name) (named_rows db) named kept in
      let both = and_parts (reaches db subject named.name) (not (owns db subject named.name)) passes in
      subst (λ c. (copy_reached db subject) c.name ≡ Some c) same (here named at both.0)

  -- each of them stands on the shelf, or is of a row that is seen
  either : (named : NamedRow) → Contains (named_rows db) named → reaches db subject named.name ≡ true → Contains (shelf db subject) (shelved db subject named) ⊎ Contains (sights db subject) (shelved db subject named)
  unfolding shelf sights
  either named among is = by (owns db subject named.name) refl
    where
      by : (b : Bool) → owns db subject named.name ≡ b
          → Contains (map (shelved db subject) (filter (λ n. owns db subject n.name) (named_rows db))) (shelved db subject named) ⊎ Contains (map (shelved db subject) (filter (λ n. sees db subject n.name) (named_rows db))) (shelved db subject named)
      by true own = inl (contains_map (shelved db subject) _ named (contains_filter (λ (n : NamedRow). owns db subject n.name) (named_rows db) named among own))
      by false other =
          let seen : sees db subject named.name ≡ true = and_from (reaches db subject named.name) (not (owns db subject named.name)) is (ap not other) in
          inr (contains_map (shelved db subject) _ named (contains_filter (λ (n : NamedRow). sees db subject n.name) (named_rows db) named among seen))

  module _ (mid copies : List Shelved) (first : Gathers (shelf db subject) [] mid) (second : Gathers (sights db subject) mid copies) where
    shelf_gathered : GathersWanted (copy_reached db subject) (shelf db subject) [] mid
    shelf_gathered = first (copy_reached db subject) shelf_wanted

    sights_gathered : GathersWanted (copy_reached db subject) (sights db subject) mid copies
    sights_gathered = second (copy_reached db subject) sights_wanted

    kept : (name : RowName) → copy_in mid name ≡ (copy_reached db subject) name → (copy_in copies name ≡ (copy_reached db subject) name) ⊎ (copy_in copies name ≡ copy_in mid name) → copy_in copies name ≡ (copy_reached db subject) name
    kept name was (inl is) = is
    kept name was (inr stays) = stays ∙ was

    none_at : (name : RowName) → copy_in [] name ≡ None
    unfolding found
    none_at name = refl

    looked : (name : RowName) → copy_in copies name ≡ (copy_reached db subject) name
    looked name = by (row_of db name) refl (reaches db subject name) refl
      where
        -- where nothing is wanted nothing was put
        absent : (copy_reached db subject) name ≡ None → (copy_in mid name ≡ (copy_reached db subject) name) ⊎ (copy_in mid name ≡ copy_in [] name) → copy_in mid name ≡ (copy_reached db subject) name
        absent none (inl is) = is
        absent none (inr stays) = stays ∙ (none_at name ∙ sym none)

        gone : (copy_reached db subject) name ≡ None → copy_in copies name ≡ (copy_reached db subject) name
        gone none = kept name (absent none (shelf_gathered.rest name)) (sights_gathered.rest name)

        by : (o : Option Row) → row_of db name ≡ o → (b : Bool) → reaches db subject name ≡ b → copy_in copies name ≡ (copy_reached db subject) name
        by None is b reach = gone (ap (option_and_then (λ row. if reaches db subject name then Some (shelved db subject (as_named name row)) else None)) is)
        by (Some row) is false reach = gone (ap (option_and_then (λ row. if reaches db subject name then Some (shelved db subject (as_named name row)) else None)) is ∙ rw reach refl)
        by (Some row) is true reach =
            let named : NamedRow = as_named name row in
            elim (either named (named-row_of db named ordered is) reach) [
              | inl own ↦ kept name (shelf_gathered.has (shelved db subject named) own) (sights_gathered.rest name)
              | inr sight ↦ sights_gathered.has (shelved db subject named) sight
            ]

    -- So what is gathered are they.
    pub gathered-reached : IsRising name_of_copy name_cmp copies → copies ≡ reached db subject
    gathered-reached rising = same_found name_of_copy name_order copies (reached db subject) rising reached_rises (λ name. looked name ∙ sym (reached_found name))

-- where it begins with none
pub gathered-all : (db : Db) (subject : RowName) (start mid copies seen : List Shelved) → IsOrdered db → IsOwnerSchema db.schema → start ≡ [] → seen ≡ sights db subject → Gathers (shelf db subject) start mid → Gathers seen mid copies
    → IsRising name_of_copy name_cmp copies → copies ≡ reached db subject
gathered-all db subject start mid copies seen ordered owner none is first second rising =
    gathered-reached db subject ordered owner mid copies
    (subst (λ (old : List Shelved). Gathers (shelf db subject) old mid) none first)
    (subst (λ (given : List Shelved). Gathers given mid copies) is second)
    rising
