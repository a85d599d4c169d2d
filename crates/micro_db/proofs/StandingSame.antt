-- Where a subject stands to a row as before, and nothing near the row changed, what is kept stays right.
use Rattle.std.proofs.Common.{◌≡◌, List, [], ◌∷◌, Bool, true, false, map, refl, ap, sym, ◌∙◌, subst}
use Rattle.std.specs.Prelude.{◌&&◌, not, Contains, Option, Some, None, IfSome, filter, if◌then◌else◌}
use Rattle.std.specs.Option.{option_and_then}
use Rattle.own_base.specs.declared.row_name.RowName.{RowName}
use Rattle.own_base.specs.declared.number.EdgeNo.{EdgeNo}
use Rattle.own_model.specs.declared.schema.Edge.{Edge}
use Rattle.own_model.specs.Db.{Db, IsOrdered, Row}
use Rattle.owner_model.specs.Joins.{Joins, row_of}
use Rattle.schema_model.specs.OwnerSchema.{IsOwnerSchema}
use Rattle.schema_model.specs.Tables.{is_subject}
use Rattle.subject_model.specs.Named.{is_there}
use Rattle.subject_model.specs.Owners.{By, Owns as Owning, Reaches as Reaching, by, owns, reaches, reaches_by}
use Rattle.subject_model.specs.Paths.{IsPath, Path, is_subject_row}
use Rattle.subject_model.proofs.Members.{contains_here, contains_later}
use Rattle.subject_model.proofs.OwnerLemmas.{by_from, from_by, from_reaches, owns_from, reaches_from}
use Rattle.move_model.specs.declared.owner_move.Standing.{Standing}
use Rattle.move_model.specs.declared.owner_move.Standing.TheVariants.{Nothing, Reaches, Owns}
use Rattle.move_model.specs.Standing.{standing}
use Rattle.shelf_model.specs.declared.shelved.Shelved.{Shelved}
use Rattle.shelf_model.specs.At.{copy_at, seen_at}
use Rattle.shelf_model.specs.Seen.{sees}
use Rattle.shelf_model.specs.Shelf.{shelved}
use Rattle.shelf_model.proofs.KeptRows.{as_named}
use Rattle.micro_db.specs.CopyOf.{copy_of}
use Rattle.micro_db.proofs.AmongLemmas.{same_test}

-- whether a subject that stands so owns, sees, or reaches a row
owns_by : Standing → Bool
owns_by Nothing = false
owns_by Reaches = false
owns_by Owns = true

sees_by : Standing → Bool
sees_by Nothing = false
sees_by Reaches = true
sees_by Owns = false

reach_by : Standing → Bool
reach_by Nothing = false
reach_by Reaches = true
reach_by Owns = true

owns_of : (o r : Bool) → o ≡ owns_by (if o then Owns else if r then Reaches else Nothing)
unfolding owns_by
owns_of true r = refl
owns_of false true = refl
owns_of false false = refl

sees_of : (o r : Bool) → (r && not o) ≡ sees_by (if o then Owns else if r then Reaches else Nothing)
unfolding sees_by
sees_of true true = refl
sees_of true false = refl
sees_of false true = refl
sees_of false false = refl

reach_of : (o r : Bool) → (o ≡ true → r ≡ true) → r ≡ reach_by (if o then Owns else if r then Reaches else Nothing)
unfolding reach_by
reach_of true r more = more refl
reach_of false true more = refl
reach_of false false more = refl

module _ (before after : Db) (subject name : RowName) (same : standing before subject name ≡ standing after subject name) where
  pub same_owns : owns before subject name ≡ owns after subject name
  same_owns = owns_of (owns before subject name) (reaches before subject name) ∙ (ap owns_by same ∙ sym (owns_of (owns after subject name) (reaches after subject name)))

  pub same_sees : sees before subject name ≡ sees after subject name
  same_sees = sees_of (owns before subject name) (reaches before subject name) ∙ (ap sees_by same ∙ sym (sees_of (owns after subject name) (reaches after subject name)))

-- who owns a row reaches it
pub owning_reaches : (db : Db) (subject name : RowName) → IsOrdered db → IsOwnerSchema db.schema → owns db subject name ≡ true → reaches db subject name ≡ true
owning_reaches db subject name ordered owner is =
    let way : Owning db subject name = owns_from db subject name is in
    from_reaches db subject name ordered owner (record { path = way.path; leads = way.leads })

pub same_reaches : (before after : Db) (subject name : RowName) → IsOrdered before → IsOrdered after → IsOwnerSchema before.schema → IsOwnerSchema after.schema → standing before subject name ≡ standing after subject name
    → reaches before subject name ≡ reaches after subject name
same_reaches before after subject name ordered also owner owner_also same =
    reach_of (owns before subject name) (reaches before subject name) (owning_reaches before subject name ordered owner)
    ∙ (ap reach_by same ∙ sym (reach_of (owns after subject name) (reaches after subject name) (owning_reaches after subject name also owner_also)))

-- a row that is there in both of two databases of one schema is a subject row in both or in neither
same_subject_row : (one other : Db) (name : RowName) → one.schema ≡ other.schema → is_there one name ≡ is_there other name → is_subject_row one name ≡ is_subject_row other name
unfolding is_subject_row
same_subject_row one other name schema there = λ i. is_subject (schema i) name.table.0 && there i

-- Each edge that joins a row to an upper one in the one database does so in the other, and the subject that reaches an upper
-- row that is no subject row in the one reaches it in the other.
pub record GoesOver (one other : Db) (subject name : RowName) : Type 0 where
  pub schema : one.schema ≡ other.schema
  pub joins : (edge : Edge) (upper : RowName) → Joins one name edge upper → Joins other name edge upper
  pub reached : (edge : Edge) (upper : RowName) → Joins one name edge upper → reaches one subject upper ≡ true → reaches other subject upper ≡ true

-- so it reaches the row by each edge by which it did
by_over : (one other : Db) (subject name : RowName) → IsOrdered one → IsOwnerSchema one.schema → GoesOver one other subject name → (edge : Edge) → By one subject name edge → By other subject name edge
by_over one other subject name ordered owner over edge way =
    on (is_subject_row other way.upper) refl
  where
    joined : Joins one name edge way.upper
    joined = way.leads.0

    there : Joins other name edge way.upper
    there = over.joins edge way.upper joined

    as_much : is_subject_row one way.upper ≡ is_subject_row other way.upper
    as_much = same_subject_row one other way.upper over.schema (joined.upper_there ∙ sym there.upper_there)

    on : (b : Bool) → is_subject_row other way.upper ≡ b → By other subject name edge
    on true is =
        let alone : IsPath one way.upper [] subject = subst (λ (path : Path). IsPath one way.upper path subject) (way.leads.1.0 (as_much ∙ is)) way.leads.1.1 in
        record { upper = way.upper; rest = []; leads = (there, ((λ yes. refl), (is, alone.1))) }
    on false is =
        let reached : reaches one subject way.upper ≡ true = from_reaches one subject way.upper ordered owner (record { path = way.rest; leads = way.leads.1.1 }) in
        let still : Reaching other subject way.upper = reaches_from other subject way.upper (over.reached edge way.upper joined reached) in
        record { upper = way.upper; rest = still.path; leads = (there, ((λ yes. let never : true ≡ false = sym yes ∙ is in cc), still.leads)) }

pub filter_alike : {X : Type 0} (p q : X → Bool) (xs : List X) → ((x : X) → Contains xs x → p x ≡ q x) → filter p xs ≡ filter q xs
filter_alike p q [] same = refl
filter_alike p q (x ∷ xs) same = rw (same x (contains_here x xs), filter_alike p q xs (λ y among. same y (contains_later x xs y among))) refl

-- and by the same edges in both, where that goes both ways
pub same_by : (before after : Db) (subject name : RowName) → IsOrdered before → IsOrdered after → IsOwnerSchema before.schema → IsOwnerSchema after.schema → GoesOver before after subject name → GoesOver after before subject name
    → by before subject name ≡ by after subject name
unfolding by
same_by before after subject name ordered also owner owner_also to from =
    ap (λ (edges : List Edge). map (λ (edge : Edge). edge.number) (filter (reaches_by before subject name) edges)) (ap (λ s. s.edges) to.schema)
    ∙ ap (map (λ (edge : Edge). edge.number)) (filter_alike (reaches_by before subject name) (reaches_by after subject name) after.schema.edges each)
  where
    each : (edge : Edge) → Contains after.schema.edges edge → reaches_by before subject name edge ≡ reaches_by after subject name edge
    each edge among =
        let among_before : Contains before.schema.edges edge = subst (λ s. Contains s.edges edge) (sym to.schema) among in
        same_test _ _
        (λ is. from_by after subject name edge also owner_also (by_over before after subject name ordered owner to edge (by_from before subject name edge owner among_before is)))
        (λ is. from_by before subject name edge ordered owner (by_over after before subject name also owner_also from edge (by_from after subject name edge owner_also among is)))

-- the copy of a row that is there
abbrev copy_or_none : Db → RowName → RowName → Row → Option Shelved
copy_or_none db subject name row = if owns db subject name then Some (shelved db subject (as_named name row)) else None

-- a copy of the same row with the same edges is the same
pub same_copy : (before after : Db) (subject name : RowName) → row_of before name ≡ row_of after name → owns before subject name ≡ owns after subject name → (owns after subject name ≡ true → by before subject name ≡ by after subject name)
    → copy_at before subject name ≡ copy_at after subject name
same_copy before after subject name row own edges = ap (option_and_then (copy_or_none before subject name)) row ∙ at (row_of after name)
  where
    chosen : (row : Row) (b c : Bool) → b ≡ c → owns after subject name ≡ c
        → (if b then Some (shelved before subject (as_named name row)) else None) ≡ (if c then Some (shelved after subject (as_named name row)) else None)
    chosen row true true same is =
        let made : List EdgeNo → Option Shelved = λ numbers. Some (record { name = name; row = row; by = numbers }) in
        ap made (edges is)
    chosen row true false same is = cc
    chosen row false true same is = cc
    chosen row false false same is = refl

    at : (o : Option Row) → option_and_then (copy_or_none before subject name) o ≡ option_and_then (copy_or_none after subject name) o
    at None = refl
    at (Some row) = chosen row (owns before subject name) (owns after subject name) own refl

-- what a subject doesn't own has no copy
pub no_copy : (db : Db) (subject name : RowName) → owns db subject name ≡ false → copy_at db subject name ≡ None
no_copy db subject name none = at (row_of db name)
  where
    at : (o : Option Row) → option_and_then (copy_or_none db subject name) o ≡ None
    at None = refl
    at (Some row) = rw none refl

pub no_sight : (db : Db) (subject name : RowName) → sees db subject name ≡ false → seen_at db subject name ≡ None
no_sight db subject name none = at (row_of db name)
  where
    at : (o : Option Row) → option_and_then (λ (row : Row). if sees db subject name then Some name else None) o ≡ None
    at None = refl
    at (Some row) = rw none refl

pub same_sight : (before after : Db) (subject name : RowName) → row_of before name ≡ row_of after name → sees before subject name ≡ sees after subject name → seen_at before subject name ≡ seen_at after subject name
same_sight before after subject name row sight = λ i. option_and_then (λ (r : Row). if sight i then Some name else None) (row i)

-- a copy has the name of its row, and so has a name
pub copy_named : (db : Db) (subject name : RowName) (copy : Option Shelved) → copy ≡ copy_at db subject name → IfSome copy (λ own. own.name ≡ name)
copy_named db subject name copy is = subst (λ o. IfSome o (λ own. own.name ≡ name)) (sym is) (at (row_of db name))
  where
    chosen : (row : Row) (b : Bool) → IfSome (if b then Some (shelved db subject (as_named name row)) else None) (λ own. own.name ≡ name)
    chosen row true = refl
    chosen row false = tt

    at : (o : Option Row) → IfSome (option_and_then (copy_or_none db subject name) o) (λ own. own.name ≡ name)
    at None = tt
    at (Some row) = chosen row (owns db subject name)

pub sight_named : (db : Db) (subject name : RowName) (sight : Option RowName) → sight ≡ seen_at db subject name → IfSome sight (λ own. own ≡ name)
sight_named db subject name sight is = subst (λ o. IfSome o (λ own. own ≡ name)) (sym is) (at (row_of db name))
  where
    chosen : (b : Bool) → IfSome (if b then Some name else None) (λ own. own ≡ name)
    chosen true = refl
    chosen false = tt

    at : (o : Option Row) → IfSome (option_and_then (λ (row : Row). if sees db subject name then Some name else None) o) (λ own. own ≡ name)
    at None = tt
    at (Some row) = chosen (sees db subject name)

-- what a subject owns has a copy where it is there
pub owned_copy : (db : Db) (subject name : RowName) → owns db subject name ≡ true → copy_of db subject name ≡ copy_at db subject name
owned_copy db subject name own = at (row_of db name)
  where
    at : (o : Option Row) → option_and_then (λ row. Some (shelved db subject (as_named name row))) o ≡ option_and_then (copy_or_none db subject name) o
    at None = refl
    at (Some row) = rw own refl
