-- By which edges a subject reaches a row.
use Rattle.std.proofs.Common.{◌≡◌, ℕ, ◌+◌, ◌<◌, List, [], ◌∷◌, ◌++◌, length, get_or, map, take, Bool, true, false, cond, inl, inr, refl, ap, sym, ◌∙◌, subst}
use Rattle.std.specs.Prelude.{◌≢◌, Contains, IsTrue, Option, Some, None, filter, is_some, slice_get}
use Rattle.std.specs.List.{list_any}
use Rattle.std.proofs.lemmas.Bool.{and_from}
use Rattle.std.proofs.lemmas.List.{take_more}
use Rattle.own_base.specs.declared.row_name.RowName.{RowName}
use Rattle.own_model.specs.declared.schema.Edge.{Edge}
use Rattle.own_model.specs.Db.{Db, IsOrdered, Row}
use Rattle.owner_model.specs.Joins.{Joins, row_of}
use Rattle.schema_model.specs.OwnerSchema.{IsOwnerSchema}
use Rattle.schema_model.specs.Tables.{is_subject}
use Rattle.subject_model.specs.Named.{is_name, is_there}
use Rattle.subject_model.specs.Owners.{By, Reaches, reaches, reaches_by}
use Rattle.subject_model.specs.Paths.{IsPath, Path, is_subject_row}
use Rattle.subject_model.proofs.Members.{any_contained, contains_any, contains_map, contains_none, contains_of_map}
use Rattle.subject_model.proofs.NamedLemmas.{name_is, one_name}
use Rattle.subject_model.proofs.OwnerLemmas.{by_from, from_by, from_reaches, reaches_from}
use Rattle.link_model.specs.Holds.{holders_at}
use Rattle.owner_index.specs.Referrers.{named}
use Rattle.owner_index.specs.Uppers.{AddsUppers, as_upper}
use Rattle.owner_index.proofs.UpperLemmas.{IsNamedBy, Out, adds-found, adds-naming, adds-none}
use Rattle.micro_db.specs.LeadsOn.{leads_on}
use Rattle.micro_db.specs.Uppers.{AreUppersAlong}
use Rattle.micro_db.proofs.AmongLemmas.{same_test}

-- what is made of names tells them
name_from : {U : Type 0} (made : RowName → U) (name_of : U → RowName) → ((n : RowName) → name_of (made n) ≡ n) → (one other : RowName) → made one ≡ made other → one ≡ other
name_from made name_of is one other same = sym (is one) ∙ (ap name_of same ∙ is other)

-- names that are added as upper rows are those to which the edge leads
uppers_from : (db : Db) (name : RowName) (edge : Edge) (names : List RowName) → AddsUppers db name edge [] (map (as_upper edge.owner) names) → AreUppersAlong db name edge names
uppers_from db name edge names adds = record { has = λ upper. (to upper, from upper) }
  where
    to : (upper : RowName) → Contains names upper → Joins db name edge upper
    to upper among =
        elim ((adds.has (as_upper edge.owner upper)).0 (contains_map (as_upper edge.owner) names upper among)) [
          | inl none ↦ absurd (contains_none (as_upper edge.owner upper) none)
          | inr by ↦ by.1
        ]

    from : (upper : RowName) → Joins db name edge upper → Contains names upper
    from upper joined =
        let (own, at, same) = contains_of_map (as_upper edge.owner) names (as_upper edge.owner upper) ((adds.has (as_upper edge.owner upper)).1 (inr (refl, joined))) in
        subst (Contains names) (name_from (as_upper edge.owner) (λ u. u.name) (λ n. refl) own upper same) at

module _ (db : Db) (name : RowName) (edge : Edge) (row : Row) (out : Out db name edge row) (held : edge.holder ≡ edge.lower) (found : Option RowName) (is : IsNamedBy (slice_get row edge.column.0) edge.upper found) where
  -- the row that a cell names, where it is there
  pub uppers-found : (upper : RowName) → found ≡ Some upper → is_there db upper ≡ true → AreUppersAlong db name edge (upper ∷ [])
  uppers-found upper found_is there = uppers_from db name edge (upper ∷ []) (adds-found db name edge row out held found is upper [] (as_upper edge.owner upper ∷ []) found_is there refl)

  -- and else none
  pub uppers-none : ((upper : RowName) → found ≡ Some upper → is_there db upper ≡ true → ⊥) → AreUppersAlong db name edge []
  uppers-none none = uppers_from db name edge [] (adds-none db name edge row out held found is [] none)

some_row : (o : Option Row) → is_some o ≡ true → (row : Row) × (o ≡ Some row)
some_row None is = let never : false ≡ true = is in cc
some_row (Some row) is = (row, refl)

-- the rows that hold a row's key
pub uppers-naming : (db : Db) (name : RowName) (edge : Edge) → Contains db.schema.edges edge → name.table ≡ edge.lower → is_some (row_of db name) ≡ true → edge.holder ≢ edge.lower → IsOwnerSchema db.schema → IsOrdered db
    → (names : List RowName) → names ≡ map (named edge.holder) (holders_at db edge.holder.0 edge.column.0 name.key) → AreUppersAlong db name edge names
uppers-naming db name edge among of_lower there held owner ordered names lent =
    let (row, is) = some_row (row_of db name) there in
    uppers_from db name edge names
    (adds-naming db name edge row (record { among = among; of_lower = of_lower; row_is = is }) held owner ordered [] (map (as_upper edge.owner) names) names lent refl)

-- a row that is there is a subject row where its table is one of subjects
subject_there : (db : Db) (name : RowName) (b : Bool) → is_there db name ≡ true → is_subject db.schema name.table.0 ≡ b → is_subject_row db name ≡ b
unfolding is_subject_row
subject_there db name true there is = and_from _ _ is there
subject_there db name false there is = rw is refl

module _ (db : Db) (ordered : IsOrdered db) (owner : IsOwnerSchema db.schema) (subject upper : RowName) (there : is_there db upper ≡ true) where
  -- a path leads on from a row that it enters to the subject, exactly where the test says so
  on_from : (rest : Path) → (IsTrue (is_subject_row db upper) → rest ≡ []) → IsPath db upper rest subject → leads_on db subject upper ≡ true
  on_from rest ends leads = by (is_subject db.schema upper.table.0) refl
    where
      by : (b : Bool) → is_subject db.schema upper.table.0 ≡ b → cond b (is_name upper subject) (reaches db subject upper) ≡ true
      by true is =
          let alone : IsPath db upper [] subject = subst (λ (path : Path). IsPath db upper path subject) (ends (subject_there db upper true there is)) leads in
          name_is upper subject alone.1
      by false is = from_reaches db subject upper ordered owner (record { path = rest; leads = leads })

  from_on : leads_on db subject upper ≡ true → (rest : Path) × ((IsTrue (is_subject_row db upper) → rest ≡ []) × IsPath db upper rest subject)
  from_on leads = by (is_subject db.schema upper.table.0) refl leads
    where
      by : (b : Bool) → is_subject db.schema upper.table.0 ≡ b → cond b (is_name upper subject) (reaches db subject upper) ≡ true → (rest : Path) × ((IsTrue (is_subject_row db upper) → rest ≡ []) × IsPath db upper rest subject)
      by true is named = ([], ((λ yes. refl), (subject_there db upper true there is, one_name upper subject named)))
      by false is reached =
          let way : Reaches db subject upper = reaches_from db subject upper reached in
          (way.path, ((λ yes. let never : true ≡ false = sym yes ∙ subject_there db upper false there is in cc), way.leads))

-- so a subject reaches a row by an edge where a path leads on from one of the rows to which the edge leads up
pub reaches-by : (db : Db) (ordered : IsOrdered db) (owner : IsOwnerSchema db.schema) (subject name : RowName) (edge : Edge) → Contains db.schema.edges edge → (uppers : List RowName) → AreUppersAlong db name edge uppers
    → list_any (leads_on db subject) uppers ≡ reaches_by db subject name edge
reaches-by db ordered owner subject name edge among uppers are = same_test _ _ to from
  where
    to : list_any (leads_on db subject) uppers ≡ true → reaches_by db subject name edge ≡ true
    to some =
        let (upper, at, leads) = contains_any (leads_on db subject) uppers some in
        let joined : Joins db name edge upper = (are.has upper).0 at in
        let (rest, way) = from_on db ordered owner subject upper joined.upper_there leads in
        from_by db subject name edge ordered owner (record { upper = upper; rest = rest; leads = (joined, way) })

    from : reaches_by db subject name edge ≡ true → list_any (leads_on db subject) uppers ≡ true
    from is =
        let by : By db subject name edge = by_from db subject name edge owner among is in
        let joined : Joins db name edge by.upper = by.leads.0 in
        any_contained (leads_on db subject) uppers by.upper ((are.has by.upper).1 joined)
        (on_from db ordered owner subject by.upper joined.upper_there by.rest by.leads.1.0 by.leads.1.1)

-- by an edge out of another table it reaches none
pub reaches-by-none : (db : Db) (owner : IsOwnerSchema db.schema) (subject name : RowName) (edge : Edge) → Contains db.schema.edges edge → edge.lower ≢ name.table → false ≡ reaches_by db subject name edge
reaches-by-none db owner subject name edge among other = by (reaches_by db subject name edge) refl
  where
    by : (b : Bool) → reaches_by db subject name edge ≡ b → false ≡ b
    by true is = let way : By db subject name edge = by_from db subject name edge owner among is in absurd (other (sym way.leads.0.of_lower))
    by false is = refl

module _ {X Y : Type 0} (p : X → Bool) (f : X → Y) where
  kept_append : (xs ys : List X) → map f (filter p (xs ++ ys)) ≡ map f (filter p xs) ++ map f (filter p ys)
  kept_append [] ys = refl
  kept_append (x ∷ xs) ys = by (p x) (kept_append xs ys)
    where
      by : (b : Bool) → map f (filter p (xs ++ ys)) ≡ map f (filter p xs) ++ map f (filter p ys)
          → map f (cond b (x ∷ filter p (xs ++ ys)) (filter p (xs ++ ys))) ≡ map f (cond b (x ∷ filter p xs) (filter p xs)) ++ map f (filter p ys)
      by true more = ap (λ rest. f x ∷ rest) more
      by false more = more

  kept_one : (x : X) (b : Bool) → b ≡ p x → cond b (f x ∷ []) [] ≡ map f (filter p (x ∷ []))
  kept_one x true is = rw (← is) refl
  kept_one x false is = rw (← is) refl

  -- what is kept of one more
  pub kept-more : (xs : List X) (i : ℕ) (x : X) (old new : List Y) (b : Bool) → i < length xs → x ≡ get_or xs i x → b ≡ p x → old ≡ map f (filter p (take i xs)) → new ≡ old ++ cond b (f x ∷ []) []
      → new ≡ map f (filter p (take (i + 1) xs))
  kept-more xs i x old new b within next is so_far added =
      let longer : take (i + 1) xs ≡ take i xs ++ x ∷ [] = take_more xs i x within ∙ ap (λ y. take i xs ++ y ∷ []) (sym next) in
      added ∙ (ap (λ front. front ++ cond b (f x ∷ []) []) so_far ∙ (ap (λ back. map f (filter p (take i xs)) ++ back) (kept_one x b is)
      ∙ (sym (kept_append (take i xs) (x ∷ [])) ∙ ap (λ ys. map f (filter p ys)) (sym longer))))
