-- A table's rows have their sets once the rows above them have theirs.
use Rattle.std.proofs.Common.{◌≡◌, ℕ, List, [], ◌∷◌, length, get_or, refl, ap, sym, ◌∙◌, subst, map}
use Rattle.std.specs.Prelude.{◌↔◌, ◌==◌, Contains, Some, filter, slice_get}
use Rattle.std.specs.List.{AllByRecursion}
use Rattle.std.specs.List.Sorted.{IsStrictlySortedBy}
use Rattle.std.specs.declared.cmp.Ordering.TheVariants.{Less}
use Rattle.own_base.specs.declared.number.TableNo.{TableNo}
use Rattle.own_base.specs.declared.row_name.RowName.{RowName}
use Rattle.own_base.specs.declared.row_name.Subject.{Subject}
use Rattle.own_model.specs.declared.schema.Edge.{Edge}
use Rattle.own_model.specs.Db.{Db, IsOrdered, Row}
use Rattle.own_model.specs.Stored.{rows_at}
use Rattle.schema_model.specs.OwnerSchema.{IsOwnerSchema}
use Rattle.subject_model.specs.LocalEquation.{MeetsLocalEquation}
use Rattle.subject_model.specs.NameOrder.{name_cmp}
use Rattle.subject_model.specs.Named.{name_of}
use Rattle.subject_model.proofs.Members.{contains_here, contains_map, contains_none, contains_of_map}
use Rattle.subject_model.proofs.OwnerLists.{owners_meet, owners_rise, reach_meets, reach_rise}
use Rattle.subject_model.proofs.RisingNames.{name_order, same_rising}
use Rattle.owner_sets.specs.declared.which.Which.{Which}
use Rattle.owner_sets.specs.declared.which.Which.TheVariants.{Owners, Reach}
use Rattle.owner_sets.specs.Gathered.{gathered}
use Rattle.owner_sets.specs.IsSortedSet.{IsSortedSet}
use Rattle.owner_sets.specs.SubjectOrder.{subject_cmp}
use Rattle.owner_sets.specs.Sets.{AreSetsOfTable, Sets, as_subject}
use Rattle.owner_sets.specs.WhichSets.{counts, listed}
use Rattle.owner_sets.proofs.GatheredLemmas.{gathered-iff_whose}
use Rattle.owner_sets.proofs.NoRow.{nothing_past}
use Rattle.owner_sets.proofs.Standing.{StandsAt, standing_at, there-standing}

-- the lists of either kind meet its local equation
pub listed_meet : (which : Which) (db : Db) → IsOrdered db → IsOwnerSchema db.schema → MeetsLocalEquation db (counts which) (λ subject name. Contains (listed which db name) subject)
listed_meet Owners db ordered owner = owners_meet db ordered owner
listed_meet Reach db ordered owner = reach_meets db ordered owner

-- and rise
pub listed_rise : (which : Which) (db : Db) (name : RowName) → IsOrdered db → IsStrictlySortedBy name_cmp (listed which db name)
listed_rise Owners db name ordered = owners_rise db name ordered
listed_rise Reach db name ordered = reach_rise db name ordered

-- the names of subjects
abbrev names_of : List Subject → List RowName
names_of set = map (λ subject. subject.0) set

all_less : (first : Subject) (set : List Subject) → AllByRecursion (λ subject. subject_cmp first subject ≡ Less) set → AllByRecursion (λ name. name_cmp first.0 name ≡ Less) (names_of set)
all_less first [] all = tt
all_less first (subject ∷ set) all = (all.0, all_less first set all.1)

names_rise : (set : List Subject) → IsStrictlySortedBy subject_cmp set → IsStrictlySortedBy name_cmp (names_of set)
unfolding IsStrictlySortedBy
names_rise [] rising = tt
names_rise (subject ∷ set) rising = (all_less subject set rising.0, names_rise set rising.1)

subjects-names_of : (set : List Subject) → map as_subject (names_of set) ≡ set
subjects-names_of [] = refl
subjects-names_of (subject ∷ set) = ap (λ rest. subject ∷ rest) (subjects-names_of set)

names_of-subject : (set : List Subject) (name : RowName) → Contains (names_of set) name ↔ Contains set (as_subject name)
names_of-subject set name = (
  (λ among. let (subject, at, is) = contains_of_map (λ (s : Subject). s.0) set name among in subst (Contains set) (ap as_subject is) at),
  (λ among. contains_map (λ (s : Subject). s.0) set (as_subject name) among),
)

-- the set of no subjects has none
no_subject : (set : List Subject) → IsSortedSet [] set → set ≡ []
no_subject [] is = refl
no_subject (subject ∷ set) is = absurd (contains_none subject ((is.same subject).0 (contains_here subject set)))

module _ (which : Which) (db : Db) (done : Sets) (ordered : IsOrdered db) (owner : IsOwnerSchema db.schema) (table : TableNo) (edges : List Edge)
    (out : edges ≡ filter (λ edge. edge.lower.0 == table.0) db.schema.edges)
    (above : (edge : Edge) → Contains edges edge → AreSetsOfTable db (listed which db) edge.upper.0 (get_or done edge.upper.0 [])) where
  sorted_names : (name : RowName) (place : ℕ) (set : List Subject) → StandsAt db name place → name.table.0 ≡ table.0 → IsSortedSet (gathered which db.schema db.rows done name.table.0 edges place) set
      → names_of set ≡ listed which db name
  sorted_names name place set stands of_table as_sorted =
      let same_out : edges ≡ filter (λ edge. edge.lower.0 == name.table.0) db.schema.edges = out ∙ ap (λ n. filter (λ (edge : Edge). edge.lower.0 == n) db.schema.edges) (sym of_table) in
      let meets = listed_meet which db ordered owner in
      same_rising name_order (names_of set) (listed which db name) (names_rise set as_sorted.rising) (listed_rise which db name ordered)
      (λ subject.
      let whose = gathered-iff_whose which db done ordered owner name place edges stands same_out above (as_subject subject) in
      let local = meets.local subject name (there-standing db name place ordered stands) in (
        (λ among. local.1 (whose.0 ((as_sorted.same (as_subject subject)).0 ((names_of-subject set subject).0 among)))),
        (λ among. (names_of-subject set subject).1 ((as_sorted.same (as_subject subject)).1 (whose.1 (local.0 among)))),
      ))

  -- what is gathered for each row of a table, as a set, is its set
  pub sorted_sets : (lists sets : List (List Subject)) → ((place : ℕ) (row : Row) → slice_get (rows_at db.rows table.0) place ≡ Some row → get_or lists place [] ≡ gathered which db.schema db.rows done table.0 edges place)
      → length lists ≡ length (rows_at db.rows table.0) → ((place : ℕ) → IsSortedSet (get_or lists place []) (get_or sets place [])) → AreSetsOfTable db (listed which db) table.0 sets
  sorted_sets lists sets gathers rows as_sorted =
      record {
        at = λ place definition row table_is row_is.
            let name : RowName = name_of table.0 definition row in
            let stands : StandsAt db name place = standing_at db table place definition row table_is row_is in
            let set = get_or sets place [] in
            let own : IsSortedSet (gathered which db.schema db.rows done table.0 edges place) set = subst (λ list. IsSortedSet list set) (gathers place row row_is) (as_sorted place) in
            sym (subjects-names_of set) ∙ ap (map as_subject) (sorted_names name place set stands refl own);
        none = λ place none.
            let nothing = nothing_past (rows_at db.rows table.0) lists place rows none in
            no_subject (get_or sets place []) (subst (λ list. IsSortedSet list (get_or sets place [])) nothing (as_sorted place));
      }
