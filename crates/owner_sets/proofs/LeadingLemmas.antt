-- The edges that lead from a row to a row that hands a subject down are those by which the subject reaches the row.
use Rattle.std.proofs.Common.{◌≡◌, ℕ, ◌<◌, List, [], ◌∷◌, length, Bool, true, false, ◌||◌, get_or, inl, inr, refl, ap, sym, ◌∙◌, subst, eq-eqb, map}
use Rattle.std.specs.Prelude.{◌==◌, Contains, Option, Some, None, filter}
use Rattle.std.specs.Option.{option_map_or}
use Rattle.std.proofs.lemmas.Bool.{and_from, and_parts, eqb-true}
use Rattle.own_base.specs.declared.number.EdgeNo.{EdgeNo}
use Rattle.own_base.specs.declared.number.TableNo.{TableNo}
use Rattle.own_base.specs.declared.row_name.RowName.{RowName}
use Rattle.own_base.specs.declared.row_name.Subject.{Subject}
use Rattle.own_model.specs.declared.schema.Edge.{Edge}
use Rattle.own_model.specs.declared.schema.Schema.{Schema}
use Rattle.own_model.specs.Db.{Db, IsOrdered, Row}
use Rattle.own_model.specs.Stored.{rows_at}
use Rattle.schema_model.specs.OwnerSchema.{IsOwnerSchema}
use Rattle.schema_model.specs.Tables.{is_subject}
use Rattle.schema_model.proofs.Places.{place-lt}
use Rattle.subject_model.specs.Named.{is_name, name_of}
use Rattle.subject_model.specs.Owners.{By, by, reach, reaches, reaches_by}
use Rattle.subject_model.specs.Paths.{IsPath, Path, is_subject_row}
use Rattle.subject_model.proofs.Members.{any_contained, contains_any, contains_here, contains_later}
use Rattle.subject_model.proofs.NamedLemmas.{name_is, one_name}
use Rattle.subject_model.proofs.OwnerLemmas.{by_from, from_by, from_reaches, reaches_from}
use Rattle.subject_model.proofs.OwnerLists.{reach-iff_Reaches}
use Rattle.owner_sets.specs.declared.which.Which.TheVariants.{Reach}
use Rattle.owner_sets.specs.ByEdges.{AreEdgesOfTable}
use Rattle.owner_sets.specs.Gathered.{handed_down, name_at, over_edge, row_alone}
use Rattle.owner_sets.specs.Leading.{is_among, is_named, leading, leads}
use Rattle.owner_sets.specs.Sets.{AreSetsOf, Sets, as_subject}
use Rattle.owner_sets.proofs.GatheredLemmas.{HandsDown, HasOver, has-over_edge, over_edge-has, subjects-names}
use Rattle.owner_sets.proofs.NoRow.{nothing_past}
use Rattle.owner_sets.proofs.Standing.{StandsAt, standing_at}

-- the test of a list says whether the subject stands in it
among-contained : (subject : Subject) (subjects : List Subject) → is_among subject subjects ≡ true → Contains subjects subject
among-contained subject subjects is =
    let (other, among, same) = contains_any (λ other. is_name other.0 subject.0) subjects is in
    subst (Contains subjects) (ap as_subject (one_name other.0 subject.0 same)) among

contained-among : (subject : Subject) (subjects : List Subject) → Contains subjects subject → is_among subject subjects ≡ true
contained-among subject subjects among = any_contained (λ other. is_name other.0 subject.0) subjects subject among (name_is subject.0 subject.0 refl)

-- a list of the row at a place alone has the subject exactly where the row has its name
named-alone : (schema : Schema) (rows : List (List Row)) (table place : ℕ) (subject : Subject) → is_named schema rows table place subject.0 ≡ is_among subject (row_alone schema rows table place)
unfolding row_alone
named-alone schema rows table place subject = by (name_at schema rows table place)
  where
    or_false : (b : Bool) → b ≡ (b || false)
    or_false true = refl
    or_false false = refl

    by : (o : Option RowName) → option_map_or (λ own. is_name own subject.0) o false ≡ is_among subject (option_map_or (λ name. as_subject name ∷ []) o [])
    by None = refl
    by (Some name) = or_false (is_name name subject.0)

-- and so has what a subject row hands down
pub named-handed : (schema : Schema) (rows : List (List Row)) (sets : Sets) (table place : ℕ) (subject : Subject) → is_subject schema table ≡ true
    → is_named schema rows table place subject.0 ≡ is_among subject (handed_down schema rows sets table place)
named-handed schema rows sets table place subject is = rw is (named-alone schema rows table place subject)

-- two tests that are true together are one
same_truth : (a b : Bool) → (a ≡ true → b ≡ true) → (b ≡ true → a ≡ true) → a ≡ b
same_truth true b there back = sym (there refl)
same_truth false true there back = back refl
same_truth false false there back = refl

-- two tests that agree on what a list has keep the same of it
filter_agrees : {X : Type 0} (one other : X → Bool) (xs : List X) → ((x : X) → Contains xs x → one x ≡ other x) → filter one xs ≡ filter other xs
filter_agrees one other [] same = refl
filter_agrees one other (x ∷ xs) same =
    rw (same x (contains_here x xs), filter_agrees one other xs (λ y among. same y (contains_later x xs y among))) refl

module _ (db : Db) (ordered : IsOrdered db) (owner : IsOwnerSchema db.schema) (sets : Sets) (are : AreSetsOf db (reach db) sets) (subject : Subject) where
  -- a path's upper row hands its end down
  path_hands : (upper : RowName) (rest : Path) → IsPath db upper rest subject.0 → (is_subject_row db upper ≡ true → rest ≡ []) → (b : Bool) → is_subject_row db upper ≡ b → HandsDown Reach db sets ordered upper subject
  path_hands upper rest leads ends true is = inl (subst (λ path. IsPath db upper path subject.0) (ends is) leads)
  path_hands upper rest leads ends false is = inr (is, (reach-iff_Reaches db upper subject.0 ordered owner).1 (record { path = rest; leads = leads }))

  by-over : (name : RowName) (edge : Edge) → By db subject.0 name edge → HasOver Reach db sets ordered edge subject name
  by-over name edge by =
      record { upper = by.upper; joined = by.leads.0; has = path_hands by.upper by.rest by.leads.1.1 by.leads.1.0 (is_subject_row db by.upper) refl }

  -- and where an upper row hands the subject down a path goes on from it
  over-by : (name : RowName) (edge : Edge) → HasOver Reach db sets ordered edge subject name → By db subject.0 name edge
  over-by name edge over =
      elim over.has [
        | inl own ↦ record { upper = over.upper; rest = []; leads = (over.joined, ((λ yes. refl), own)) }
        | inr other ↦
            let reaches = (reach-iff_Reaches db over.upper subject.0 ordered owner).0 other.1 in
            record { upper = over.upper; rest = reaches.path; leads = (over.joined, ((λ yes. let never : true ≡ false = sym yes ∙ other.0 in cc), reaches.leads)) }
      ]

  module _ (name : RowName) (place : ℕ) (stands : StandsAt db name place) where
    reaches_by-leads : (edge : Edge) → Contains db.schema.edges edge → reaches_by db subject.0 name edge ≡ leads db.schema db.rows sets subject name.table.0 place edge
    unfolding leads
    reaches_by-leads edge among =
        same_truth (reaches_by db subject.0 name edge) (leads db.schema db.rows sets subject name.table.0 place edge)
        (λ is.
        let by = by_from db subject.0 name edge owner among is in
        and_from _ _ (eq-eqb edge.lower.0 name.table.0 (ap (λ (t : TableNo). t.0) (sym by.leads.0.of_lower)))
        (contained-among subject (over_edge db.schema db.rows sets edge place)
        (has-over_edge Reach db sets ordered edge among owner (are.each edge.upper.0) name place stands subject (by-over name edge by))))
        (λ is.
        let both = and_parts (edge.lower.0 == name.table.0) (is_among subject (over_edge db.schema db.rows sets edge place)) is in
        let table : edge.lower ≡ name.table = ap (λ (n : ℕ). record { 0 = n }) (eqb-true edge.lower.0 name.table.0 both.0) in
        from_by db subject.0 name edge ordered owner
        (over-by name edge
        (over_edge-has Reach db sets ordered edge among owner (are.each edge.upper.0) name place stands (sym table) subject
        (among-contained subject (over_edge db.schema db.rows sets edge place) both.1))))

    by-leading : by db subject.0 name ≡ leading db.schema db.rows sets subject name.table.0 db.schema.edges place
    unfolding by leading
    by-leading =
        ap (map (λ (edge : Edge). edge.number))
        (filter_agrees (reaches_by db subject.0 name) (leads db.schema db.rows sets subject name.table.0 place) db.schema.edges reaches_by-leads)

  -- so lists of such edges are those by which the subject reaches the rows of a table
  pub edges-leading : (table : TableNo) (lists : List (List EdgeNo)) → length lists ≡ length (rows_at db.rows table.0)
      → ((place : ℕ) → place < length (rows_at db.rows table.0) → get_or lists place [] ≡ leading db.schema db.rows sets subject table.0 db.schema.edges place)
      → AreEdgesOfTable db subject.0 table.0 lists
  edges-leading table lists rows given =
      record {
        at = λ place definition row table_is row_is.
            let name : RowName = name_of table.0 definition row in
            given place (place-lt (rows_at db.rows table.0) place row row_is) ∙ sym (by-leading name place (standing_at db table place definition row table_is row_is));
        none = λ place none. nothing_past (rows_at db.rows table.0) lists place rows none;
      }

-- a subject stands in a row's set exactly where it reaches the row
pub among-reaches : (db : Db) (name : RowName) (subject : Subject) → IsOrdered db → IsOwnerSchema db.schema → is_among subject (map as_subject (reach db name)) ≡ reaches db subject.0 name
among-reaches db name subject ordered owner =
    same_truth (is_among subject (map as_subject (reach db name))) (reaches db subject.0 name)
    (λ among.
    from_reaches db subject.0 name ordered owner
    ((reach-iff_Reaches db name subject.0 ordered owner).0 ((subjects-names (reach db name) subject).0 (among-contained subject (map as_subject (reach db name)) among))))
    (λ reached.
    contained-among subject (map as_subject (reach db name))
    ((subjects-names (reach db name) subject).1 ((reach-iff_Reaches db name subject.0 ordered owner).1 (reaches_from db subject.0 name reached))))
