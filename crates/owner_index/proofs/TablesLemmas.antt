-- Tables that are settled one after another, in the graph's order.
use Rattle.std.proofs.Common.{◌≡◌, ℕ, ◌+◌, ◌≤◌, List, [], ◌∷◌, length, map, Bool, true, false, inl, inr, refl, ap, sym, ◌∙◌, subst, arith, eq-eqb}
use Rattle.std.specs.Prelude.{◌⊎◌, ◌==◌, Contains, IsFalse, Option, Some, None, filter, slice_get}
use Rattle.std.proofs.lemmas.Bool.{cases_eq, cases_lt}
use Rattle.std.proofs.lemmas.Option.{same_Some}
use Rattle.own_base.specs.declared.number.TableNo.{TableNo}
use Rattle.own_base.specs.declared.row_name.RowName.{RowName}
use Rattle.own_base.specs.declared.row_name.Subject.{Subject}
use Rattle.own_model.specs.declared.schema.Edge.{Edge}
use Rattle.own_model.specs.declared.schema.TableDef.{TableDef}
use Rattle.own_model.specs.Db.{Db, IsOrdered}
use Rattle.own_model.specs.Stored.{row_named}
use Rattle.owner_model.specs.GraphOrder.{IsGraphOrder}
use Rattle.owner_model.specs.Joins.{Joins}
use Rattle.schema_model.specs.OwnerSchema.{IsOwnerSchema}
use Rattle.schema_model.proofs.Places.{place-lt}
use Rattle.subject_model.specs.Named.{is_there}
use Rattle.subject_model.specs.Paths.{is_subject_row}
use Rattle.subject_model.proofs.JoinsLemmas.{same_table}
use Rattle.subject_model.proofs.Members.{contains_filter}
use Rattle.owner_sets.proofs.InOrder.{order_before, order_has}
use Rattle.move_model.specs.KeepsEdges.{KeepsEdges}
use Rattle.move_model.proofs.KeptLists.{kept_list}
use Rattle.move_model.proofs.Listing.{AreListsOf, owners_are, reach_are}
use Rattle.move_model.proofs.StandingLemmas.{is_listed, listed_contains, not_listed}
use Rattle.link_model.specs.Whose.{as_subject}
use Rattle.owner_index.specs.Entry.{Entry}
use Rattle.owner_index.specs.declared.which.Which.{Which}
use Rattle.owner_index.specs.declared.which.Which.TheVariants.{Owners, Reach}
use Rattle.owner_index.specs.Held.{IsRight, StandsFor, counts, listed}
use Rattle.owner_index.specs.Settled.{IsDone, IsRightAboveTable, SettlesAll, SettlesTable, SettlesTables}
use Rattle.owner_index.specs.UnderWay.{ComesFrom}

-- the lists of either kind meet their local equation
pub listed_are : (which : Which) (db : Db) → IsOrdered db → IsOwnerSchema db.schema → AreListsOf db (counts which) (listed which db)
listed_are Owners db ordered owner = owners_are db ordered owner
listed_are Reach db ordered owner = reach_are db ordered owner

-- what stands for a database stands for the lists of either kind
pub stands_right : (db : Db) (entries : List Entry) → StandsFor db entries → (name : RowName) → IsRight db entries name
stands_right db entries stands name Owners = stands.owners name
stands_right db entries stands name Reach = stands.reach name

pub right_stands : (db : Db) (entries : List Entry) → ((name : RowName) → IsRight db entries name) → StandsFor db entries
right_stands db entries right = record { owners = λ name. right name Owners; reach = λ name. right name Reach }

-- the names of subjects
abbrev pub names_of : List Subject → List RowName
names_of subjects = map (λ subject. subject.0) subjects

pub names_of-subjects : (names : List RowName) → names_of (map as_subject names) ≡ names
names_of-subjects [] = refl
names_of-subjects (name ∷ names) = ap (λ rest. name ∷ rest) (names_of-subjects names)

pub subjects-names_of : (subjects : List Subject) → map as_subject (names_of subjects) ≡ subjects
subjects-names_of [] = refl
subjects-names_of (subject ∷ subjects) = ap (λ rest. subject ∷ rest) (subjects-names_of subjects)

-- a row of no table isn't there
no_table : (db : Db) (name : RowName) → slice_get db.schema.tables name.table.0 ≡ None → is_there db name ≡ false
unfolding row_named
no_table db name none = rw none refl

module _ (db : Db) (owner : IsOwnerSchema db.schema) (ordered : IsOrdered db) (order : List TableNo) (graph : IsGraphOrder (length db.schema.tables) db.schema.edges order) where
  -- a name of no table has nothing, before and after
  none_right : (before : Db) (entries : List Entry) → IsOrdered before → db.schema ≡ before.schema → StandsFor before entries → (name : RowName) → slice_get db.schema.tables name.table.0 ≡ None → IsRight db entries name
  none_right before entries also schema stands name none which =
      let had = (listed_are which before also (subst IsOwnerSchema schema owner)).none name (no_table before name (ap (λ s. slice_get s.tables name.table.0) (sym schema) ∙ none)) in
      let has = (listed_are which db ordered owner).none name (no_table db name none) in
      stands_right before entries stands name which ∙ ap (map as_subject) (had ∙ sym has)

  pub tables-start : (entries : List Entry) (work : List RowName) → SettlesTables db order 0 entries entries work work
  tables-start entries work =
      record {
        right = λ before from name which. elim which [
          | inl done ↦ absurd (omega (arith, done.earlier))
          | inr none ↦ none_right before entries from.ordered from.schema from.stands name none
        ];
        longer = λ name among. among;
        keeps = record { old = λ which name absent. refl; clean = λ which name upper edge absent joined other. refl };
      }

  module _ (place : ℕ) (table : TableNo) (at : slice_get order place ≡ Some table) (start old new : List Entry) (work more most : List RowName)
      (so_far : SettlesTables db order place start old work more) (settles : SettlesTable db table old new more most) (before : Db) (from : ComesFrom before db start work) where
    -- the tables above the next one are settled
    above : IsRightAboveTable db table old
    above edge among lower upper is =
        let out : Contains (filter (λ (e : Edge). e.lower.0 == table.0) db.schema.edges) edge = contains_filter (λ (e : Edge). e.lower.0 == table.0) db.schema.edges edge among (eq-eqb edge.lower.0 table.0 (ap (λ (t : TableNo). t.0) lower)) in
        let (upper_at, earlier, found) = order_before (length db.schema.tables) db.schema.edges order graph edge place table out at in
        so_far.right before from upper (inl (record { at = upper_at; earlier = earlier; stands = found ∙ ap Some (sym is) }))

    -- a row of it that isn't in the work has what it had, which is what it is to have
    clean_right : (name : RowName) → name.table ≡ table → ¬ (Contains more name) → IsRight db new name
    clean_right name own absent which =
        let keeps : KeepsEdges before db name = from.untouched name (λ there. absent (so_far.longer name there)) in
        let same_above : (edge : Edge) (upper : RowName) → Joins db name edge upper → IsFalse (is_subject_row db upper) → listed which before upper ≡ listed which db upper = λ edge upper joined other.
        let now = above edge joined.among (sym joined.of_lower ∙ own) upper joined.of_upper which in
        let had = so_far.keeps.clean which name upper edge absent joined other in
        let was = stands_right before start from.stands upper which in
        sym (names_of-subjects (listed which before upper)) ∙ (ap names_of (sym was ∙ (sym had ∙ now)) ∙ names_of-subjects (listed which db upper)) in
        let same = kept_list before db name from.schema keeps (listed which before) (listed which db) same_above (counts which)
        (listed_are which before from.ordered (subst IsOwnerSchema from.schema owner)) (listed_are which db ordered owner) in
        settles.others which name (λ both. absent both.1) ∙ (so_far.keeps.old which name absent ∙ (stands_right before start from.stands name which ∙ ap (map as_subject) same))

    own_right : (name : RowName) → name.table ≡ table → IsRight db new name
    own_right name own = by (is_listed name more) refl
      where
        by : (b : Bool) → is_listed name more ≡ b → IsRight db new name
        by true is = settles.right above name own (listed_contains name more is)
        by false is = clean_right name own (not_listed name more is)

    other_right : (name : RowName) → (name.table.0 ≡ table.0 → ⊥) → IsRight db old name → IsRight db new name
    other_right name apart right which = settles.others which name (λ both. apart (ap (λ (t : TableNo). t.0) both.0)) ∙ right which

    next_right : (name : RowName) → IsDone order (place + 1) name ⊎ (slice_get db.schema.tables name.table.0 ≡ None) → IsRight db new name
    next_right name which =
        elim (cases_eq name.table.0 table.0) [
          | inl same ↦ own_right name (same_table name.table table same)
          | inr apart ↦ other_right name apart (so_far.right before from name (still apart which))
        ]
      where
        still : (name.table.0 ≡ table.0 → ⊥) → IsDone order (place + 1) name ⊎ (slice_get db.schema.tables name.table.0 ≡ None) → IsDone order place name ⊎ (slice_get db.schema.tables name.table.0 ≡ None)
        still apart (inr none) = inr none
        still apart (inl done) =
            elim (cases_lt done.at place) [
              | inl less ↦ inl (record { at = done.at; earlier = less; stands = done.stands })
              | inr not_less ↦
                  let here : done.at ≡ place = omega (arith, done.earlier) in
                  let one : ◌≡◌ {A = Option TableNo} (Some name.table) (Some table) = sym done.stands ∙ (ap (slice_get order) here ∙ at) in
                  absurd (apart (ap (λ (t : TableNo). t.0) (same_Some name.table table one)))
            ]

  -- with the next one they are one more
  pub tables-more : (place : ℕ) (table : TableNo) → slice_get order place ≡ Some table → (start old new : List Entry) (work more most : List RowName)
      → SettlesTables db order place start old work more → SettlesTable db table old new more most → SettlesTables db order (place + 1) start new work most
  tables-more place table at start old new work more most so_far settles =
      record {
        right = λ before from name which. next_right place table at start old new work more most so_far settles before from name which;
        longer = λ name among. settles.longer name (so_far.longer name among);
        keeps = settles.keeps start so_far.keeps;
      }

  -- and at the end all are
  pub tables-end : (place : ℕ) (start new : List Entry) (work more : List RowName) → length order ≤ place → SettlesTables db order place start new work more → SettlesAll db start new work more
  tables-end place start new work more all so_far =
      record {
        right = λ before from name. so_far.right before from name (by name (slice_get db.schema.tables name.table.0) refl);
        rest = so_far.keeps.old;
      }
    where
      by : (name : RowName) (o : Option TableDef) → slice_get db.schema.tables name.table.0 ≡ o → IsDone order place name ⊎ (slice_get db.schema.tables name.table.0 ≡ None)
      by name None is = inr is
      by name (Some definition) is =
          let (at, found) = order_has (length db.schema.tables) db.schema.edges order graph name.table (place-lt db.schema.tables name.table.0 definition is) in
          inl (record { at = at; earlier = omega (arith, place-lt order at name.table found); stands = found })
