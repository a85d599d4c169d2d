-- What is gathered for a row are the subjects that have it by the local equation.
use Rattle.std.proofs.Common.{◌≡◌, List, [], ◌∷◌, map, Bool, true, false, cond, inl, inr, refl, ap, sym, ◌∙◌, subst}
use Rattle.std.specs.Prelude.{◌⊎◌, ◌↔◌, ◌&&◌, Contains, IsFalse, flat_map}
use Rattle.std.specs.List.{AllByRecursion}
use Rattle.std.specs.List.Sorted.{IsStrictlySortedBy}
use Rattle.std.specs.declared.cmp.Ordering.TheVariants.{Less}
use Rattle.std.proofs.lemmas.List.Elements.{Contains-append_cases, Contains-append_left, Contains-append_right}
use Rattle.own_base.specs.declared.row_name.RowName.{RowName}
use Rattle.own_base.specs.declared.row_name.Subject.{Subject}
use Rattle.own_model.specs.declared.schema.Edge.{Edge}
use Rattle.own_model.specs.Db.{Db, IsOrdered}
use Rattle.schema_model.specs.OwnerSchema.{IsOwnerSchema}
use Rattle.schema_model.specs.Tables.{is_subject}
use Rattle.subject_model.specs.LocalEquation.{IsSubject}
use Rattle.subject_model.specs.NameOrder.{name_cmp}
use Rattle.subject_model.specs.Named.{is_there}
use Rattle.subject_model.specs.Paths.{is_subject_row}
use Rattle.subject_model.proofs.Members.{contains_cases, contains_flat_map, contains_here, contains_map, contains_none, contains_of_flat_map, contains_of_map}
use Rattle.owner_sets.specs.IsSortedSet.{IsSortedSet}
use Rattle.owner_sets.specs.SubjectOrder.{subject_cmp}
use Rattle.move_model.proofs.Listing.{Listed, Whose, solved}
use Rattle.link_model.specs.Whose.{as_subject}
use Rattle.owner_index.specs.Entry.{Entry}
use Rattle.owner_index.specs.declared.upper.Upper.{Upper}
use Rattle.owner_index.specs.declared.which.Which.{Which}
use Rattle.owner_index.specs.declared.which.Which.TheVariants.{Owners, Reach}
use Rattle.owner_index.specs.Gathered.{gathered, handed_by, handed_down, is_counted, own_subject}
use Rattle.owner_index.specs.Held.{counts, held, listed}
use Rattle.owner_index.specs.Settled.{IsRightAbove}
use Rattle.owner_index.specs.Uppers.{AreUppers, as_upper}
use Rattle.owner_index.proofs.TablesLemmas.{listed_are, names_of, names_of-subjects, subjects-names_of}

-- a row that is there is a subject row exactly where its table is one of subjects
pub subject_row-there : (db : Db) (name : RowName) → is_there db name ≡ true → is_subject_row db name ≡ is_subject db.schema name.table.0
unfolding is_subject_row
subject_row-there db name there = rw there (and_true (is_subject db.schema name.table.0))
  where
    and_true : (b : Bool) → (b && true) ≡ b
    and_true true = refl
    and_true false = refl

-- an edge counts where its upper row does
same_count : (which : Which) (edge : Edge) (upper : Upper) → upper.owner ≡ edge.owner → is_counted which upper ≡ counts which edge
same_count Owners edge upper same = same
same_count Reach edge upper same = refl

-- a subject is one of these where its name is one of theirs
names-subject : (subjects : List Subject) (subject : Subject) → Contains (names_of subjects) subject.0 ↔ Contains subjects subject
names-subject subjects subject = (
  (λ among. let (other, at, is) = contains_of_map (λ (s : Subject). s.0) subjects subject.0 among in subst (Contains subjects) (ap as_subject is) at),
  (λ among. contains_map (λ (s : Subject). s.0) subjects subject among),
)

-- a row alone
alone : (name : RowName) (subject : Subject) → Contains (as_subject name ∷ []) subject ↔ (name ≡ subject.0)
alone name subject = (
  (λ among. elim (contains_cases (as_subject name) [] subject among) [
    | inl same ↦ ap (λ (s : Subject). s.0) same
    | inr none ↦ absurd (contains_none subject none)
  ]),
  (λ same. subst (Contains (as_subject name ∷ [])) (ap as_subject same) (contains_here (as_subject name) [])),
)

module _ (which : Which) (db : Db) (entries : List Entry) where
  -- whom a row hands down
  abbrev HandsDown : RowName → Subject → Type 0
  HandsDown upper subject = IsSubject db subject.0 upper ⊎ (IsFalse (is_subject_row db upper) × Contains (names_of (held which entries upper)) subject.0)

  own_step : (name : RowName) (subject : Subject) (b : Bool) → is_subject_row db name ≡ b → Contains (cond b (as_subject name ∷ []) []) subject ↔ IsSubject db subject.0 name
  own_step name subject true is = ((λ among. (is, (alone name subject).0 among)), (λ own. (alone name subject).1 own.1))
  own_step name subject false is = ((λ among. absurd (contains_none subject among)), (λ own. let never : true ≡ false = sym own.0 ∙ is in cc))

  own_members : (name : RowName) (subject : Subject) → is_there db name ≡ true → Contains (own_subject db.schema name) subject ↔ IsSubject db subject.0 name
  own_members name subject there = own_step name subject (is_subject db.schema name.table.0) (subject_row-there db name there)

  down_step : (upper : RowName) (subject : Subject) (b : Bool) → is_subject_row db upper ≡ b → Contains (cond b (as_subject upper ∷ []) (held which entries upper)) subject ↔ HandsDown upper subject
  down_step upper subject true is = (
    (λ among. inl (is, (alone upper subject).0 among)),
    (λ has. elim has [
      | inl own ↦ (alone upper subject).1 own.1
      | inr other ↦ let never : true ≡ false = sym is ∙ other.0 in cc
    ]),
  )
  down_step upper subject false is = (
    (λ among. inr (is, (names-subject (held which entries upper) subject).1 among)),
    (λ has. elim has [
      | inl own ↦ let never : true ≡ false = sym own.0 ∙ is in cc
      | inr other ↦ (names-subject (held which entries upper) subject).0 other.1
    ]),
  )

  down_members : (upper : RowName) (subject : Subject) → is_there db upper ≡ true → Contains (handed_down which db.schema entries upper) subject ↔ HandsDown upper subject
  down_members upper subject there = down_step upper subject (is_subject db.schema upper.table.0) (subject_row-there db upper there)

  counted_step : (upper : Upper) (subject : Subject) (b : Bool) → Contains (cond b (handed_down which db.schema entries upper.name) []) subject → (b ≡ true) × Contains (handed_down which db.schema entries upper.name) subject
  counted_step upper subject true among = (refl, among)
  counted_step upper subject false among = absurd (contains_none subject among)

  module _ (name : RowName) (uppers : List Upper) (are : AreUppers db name uppers) (there : is_there db name ≡ true) (subject : Subject) where
    to_whose : Contains (gathered which db.schema entries name uppers) subject → Whose db (counts which) (Listed (λ n. names_of (held which entries n))) subject.0 name
    to_whose among =
        elim (Contains-append_cases (own_subject db.schema name) (flat_map (handed_by which db.schema entries) uppers) subject among) [
          | inl own ↦ inl ((own_members name subject there).0 own)
          | inr down ↦
              let (upper, at, by) = contains_of_flat_map (handed_by which db.schema entries) uppers subject down in
              let (edge, is) = (are.has upper).0 at in
              let (counted, handed) = counted_step upper subject (is_counted which upper) by in
              inr (record {
                edge = edge;
                upper = upper.name;
                counted = sym (same_count which edge upper is.0) ∙ counted;
                joined = is.1;
                has = (down_members upper.name subject is.1.upper_there).0 handed;
              })
        ]

    of_whose : Whose db (counts which) (Listed (λ n. names_of (held which entries n))) subject.0 name → Contains (gathered which db.schema entries name uppers) subject
    of_whose (inl own) = Contains-append_left (own_subject db.schema name) (flat_map (handed_by which db.schema entries) uppers) subject ((own_members name subject there).1 own)
    of_whose (inr by) =
        let upper : Upper = as_upper by.edge.owner by.upper in
        let at : Contains uppers upper = (are.has upper).1 (by.edge, (refl, by.joined)) in
        let counted : is_counted which upper ≡ true = same_count which by.edge upper refl ∙ by.counted in
        let handed = (down_members by.upper subject by.joined.upper_there).1 by.has in
        let here : Contains (handed_by which db.schema entries upper) subject = rw counted handed in
        Contains-append_right (own_subject db.schema name) (flat_map (handed_by which db.schema entries) uppers) subject (contains_flat_map (handed_by which db.schema entries) uppers upper subject at here)

all_less : (first : Subject) (set : List Subject) → AllByRecursion (λ subject. subject_cmp first subject ≡ Less) set → AllByRecursion (λ name. name_cmp first.0 name ≡ Less) (names_of set)
all_less first [] all = tt
all_less first (subject ∷ set) all = (all.0, all_less first set all.1)

-- the names of a rising set rise
pub names_rise : (set : List Subject) → IsStrictlySortedBy subject_cmp set → IsStrictlySortedBy name_cmp (names_of set)
unfolding IsStrictlySortedBy
names_rise [] rising = tt
names_rise (subject ∷ set) rising = (all_less subject set rising.0, names_rise set rising.1)

-- What is gathered, as a set, is what the row is to have, where its upper rows have that.
pub gathered_right : (which : Which) (db : Db) (entries : List Entry) (name : RowName) (uppers : List Upper) (set : List Subject) → IsOrdered db → IsOwnerSchema db.schema → is_there db name ≡ true
    → AreUppers db name uppers → IsSortedSet (gathered which db.schema entries name uppers) set → IsRightAbove db which entries name → set ≡ map as_subject (listed which db name)
gathered_right which db entries name uppers set ordered owner there are sorted above =
    let same : names_of set ≡ listed which db name = solved db (counts which) (listed which db) (λ n. names_of (held which entries n)) name (names_of set) (listed_are which db ordered owner) there
    (λ edge upper joined other. ap names_of (above edge upper joined other) ∙ names_of-subjects (listed which db upper))
    (names_rise set sorted.rising)
    (λ subject. (
      (λ among. to_whose which db entries name uppers are there (as_subject subject) ((sorted.same (as_subject subject)).0 ((names-subject set (as_subject subject)).0 among))),
      (λ whose. (names-subject set (as_subject subject)).1 ((sorted.same (as_subject subject)).1 (of_whose which db entries name uppers are there (as_subject subject) whose))),
    )) in
    sym (subjects-names_of set) ∙ ap (map as_subject) same
