-- What is gathered for a row are the subjects that have it by the local equation.
use Rattle.std.proofs.Common.{◌≡◌, ℕ, ◌<◌, List, [], ◌∷◌, length, Bool, true, false, cond, eqb, get_or, inl, inr, refl, ap, sym, ◌∙◌, subst, eq-eqb, map}
use Rattle.std.specs.Prelude.{◌⊎◌, ◌↔◌, ◌==◌, Contains, Option, Some, IsFalse, filter, flat_map, slice_get}
use Rattle.std.proofs.lemmas.Bool.{eqb-true}
use Rattle.std.proofs.lemmas.List.Elements.{Contains-append_cases, Contains-append_left, Contains-append_right}
use Rattle.std.proofs.lemmas.Option.{same_Some, slice_get_read}
use Rattle.own_base.specs.declared.number.TableNo.{TableNo}
use Rattle.own_base.specs.declared.row_name.RowName.{RowName}
use Rattle.own_base.specs.declared.row_name.Subject.{Subject}
use Rattle.own_model.specs.declared.schema.Edge.{Edge}
use Rattle.own_model.specs.declared.schema.Schema.{Schema}
use Rattle.own_model.specs.declared.schema.TableDef.{TableDef}
use Rattle.own_model.specs.Db.{Db, IsOrdered, Row, key_of}
use Rattle.own_model.specs.Stored.{rows_at}
use Rattle.owner_model.specs.Joins.{Joins}
use Rattle.schema_model.specs.OwnerSchema.{IsOwnerEdge, IsOwnerSchema, named_table}
use Rattle.schema_model.specs.Tables.{is_subject}
use Rattle.schema_model.proofs.EdgeEnds.{ends-old}
use Rattle.subject_model.specs.LocalEquation.{HasByEdge, IsSubject}
use Rattle.subject_model.specs.Paths.{is_subject_row}
use Rattle.subject_model.proofs.Members.{all_contained, contains_cases, contains_filter, contains_flat_map, contains_here, contains_map, contains_none, contains_of_filter, contains_of_flat_map, contains_of_map}
use Rattle.owner_sets.specs.declared.link.Link.{Link}
use Rattle.owner_sets.specs.declared.which.Which.{Which}
use Rattle.owner_sets.specs.Gathered.{IsWithin, gathered, handed_down, over_counted, over_edge, over_link, own_set, row_alone}
use Rattle.owner_sets.specs.Links.{links}
use Rattle.owner_sets.specs.Sets.{AreSetsOfTable, Sets, as_subject, set_at}
use Rattle.owner_sets.specs.WhichSets.{counts, listed}
use Rattle.owner_sets.proofs.LinkLemmas.{Linked, joined-linked, links-joined}
use Rattle.owner_sets.proofs.Standing.{StandsAt, name_of-standing, standing_there, subject_row-standing}

-- both tables of an edge, and so each of them, are there
named_within : (schema : Schema) (edge : Edge) → edge.upper.0 < length schema.tables → edge.lower.0 < length schema.tables → (b : Bool) → eqb edge.holder.0 edge.lower.0 ≡ b → (named_table edge).0 < length schema.tables
named_within schema edge upper lower true is = rw is upper
named_within schema edge upper lower false is = rw is lower

pub edge_within : (schema : Schema) (edge : Edge) → IsOwnerSchema schema → Contains schema.edges edge → IsWithin schema edge
edge_within schema edge owner (place, within, is) =
    let ends = ends-old schema place edge owner (slice_get_read schema.edges (length schema.edges) place edge refl within (sym is)) in
    record { upper = ends.upper; holder = ends.holder; named = named_within schema edge ends.upper ends.lower (eqb edge.holder.0 edge.lower.0) refl }

pub edge_held : (schema : Schema) (edge : Edge) → IsOwnerSchema schema → Contains schema.edges edge → (edge.holder ≡ edge.lower) ⊎ (edge.holder ≡ edge.upper)
edge_held schema edge owner among = let is : IsOwnerEdge schema edge = all_contained (IsOwnerEdge schema) schema.edges edge owner.edges among in is.held

-- what stands at one place of one table has one name
pub same_standing : (db : Db) (one other : RowName) (place : ℕ) → StandsAt db one place → StandsAt db other place → one.table ≡ other.table → one ≡ other
same_standing db one other place stands also same =
    let table : ◌≡◌ {A = Option TableDef} (Some stands.definition) (Some also.definition) =
    sym stands.table_is ∙ (ap (λ (t : TableNo). slice_get db.schema.tables t.0) same ∙ also.table_is) in
    let row : ◌≡◌ {A = Option Row} (Some stands.row) (Some also.row) =
    sym stands.row_is ∙ (ap (λ (t : TableNo). slice_get (rows_at db.rows t.0) place) same ∙ also.row_is) in
    let definition : stands.definition ≡ also.definition = same_Some stands.definition also.definition table in
    let held : stands.row ≡ also.row = same_Some stands.row also.row row in
    let key : one.key ≡ other.key = sym stands.key_is ∙ (ap (λ d. key_of d stands.row) definition ∙ (ap (key_of also.definition) held ∙ also.key_is)) in
    ap (λ (t : TableNo). record { table = t; key = one.key }) same ∙ ap (λ k. record { table = other.table; key = k }) key

-- subjects of names
pub subjects-names : (names : List RowName) (subject : Subject) → Contains (map as_subject names) subject ↔ Contains names subject.0
subjects-names names subject = (
  (λ among. let (name, at, is) = contains_of_map as_subject names subject among in subst (Contains names) (ap (λ (s : Subject). s.0) is) at),
  (λ among. contains_map as_subject names subject.0 among),
)

module _ (db : Db) (ordered : IsOrdered db) where
  -- the row alone is itself
  row_alone-standing : (name : RowName) (at : ℕ) → StandsAt db name at → row_alone db.schema db.rows name.table.0 at ≡ as_subject name ∷ []
  unfolding row_alone
  row_alone-standing name at stands = rw (stands.table_is, stands.row_is) (ap (λ n. as_subject n ∷ []) (name_of-standing db name at stands))

  alone : (name : RowName) (at : ℕ) → StandsAt db name at → (subject : Subject) → Contains (row_alone db.schema db.rows name.table.0 at) subject ↔ (name ≡ subject.0)
  alone name at stands subject = (
    (λ among. elim (contains_cases (as_subject name) [] subject (subst (λ list. Contains list subject) (row_alone-standing name at stands) among)) [
      | inl is ↦ ap (λ (s : Subject). s.0) is
      | inr later ↦ absurd (contains_none subject later)
    ]),
    (λ is. subst (λ list. Contains list subject) (sym (row_alone-standing name at stands)) (subst (Contains (as_subject name ∷ [])) (ap as_subject is) (contains_here (as_subject name) []))),
  )

  own_step : (name : RowName) (at : ℕ) → StandsAt db name at → (subject : Subject) → (b : Bool) → is_subject db.schema name.table.0 ≡ b → is_subject_row db name ≡ b
      → Contains (cond b (row_alone db.schema db.rows name.table.0 at) []) subject ↔ IsSubject db subject.0 name
  own_step name at stands subject true table is = (
    (λ among. (is, (alone name at stands subject).0 among)),
    (λ own. (alone name at stands subject).1 own.1),
  )
  own_step name at stands subject false table is = (
    (λ among. absurd (contains_none subject among)),
    (λ own. let never : true ≡ false = sym own.0 ∙ is in cc),
  )

  -- what a row has by itself is that it is a subject
  own_set-subject : (name : RowName) (at : ℕ) → StandsAt db name at → (subject : Subject) → Contains (own_set db.schema db.rows name.table.0 at) subject ↔ IsSubject db subject.0 name
  own_set-subject name at stands subject =
      own_step name at stands subject (is_subject db.schema name.table.0) refl (subject_row-standing db name at ordered stands)

module _ (which : Which) (db : Db) (done : Sets) (ordered : IsOrdered db) where
  abbrev pub HandsDown : RowName → Subject → Type 0
  HandsDown upper subject = IsSubject db subject.0 upper ⊎ (IsFalse (is_subject_row db upper) × Contains (listed which db upper) subject.0)

  abbrev IsDone : ℕ → Type 0
  IsDone table = AreSetsOfTable db (listed which db) table (get_or done table [])

  set_at-standing : (name : RowName) (at : ℕ) → StandsAt db name at → IsDone name.table.0 → set_at done name.table.0 at ≡ map as_subject (listed which db name)
  set_at-standing name at stands is =
      is.at at stands.definition stands.row stands.table_is stands.row_is ∙ ap (λ n. map as_subject (listed which db n)) (name_of-standing db name at stands)

  handed_step : (upper : RowName) (at : ℕ) → StandsAt db upper at → IsDone upper.table.0 → (subject : Subject) → (b : Bool) → is_subject_row db upper ≡ b
      → Contains (cond b (row_alone db.schema db.rows upper.table.0 at) (set_at done upper.table.0 at)) subject ↔ HandsDown upper subject
  handed_step upper at stands above subject true is = (
    (λ among. inl (is, (alone db ordered upper at stands subject).0 among)),
    (λ has. elim has [
      | inl own ↦ (alone db ordered upper at stands subject).1 own.1
      | inr other ↦ let never : true ≡ false = sym is ∙ other.0 in cc
    ]),
  )
  handed_step upper at stands above subject false is = (
    (λ among. inr (is, (subjects-names (listed which db upper) subject).0 (subst (λ list. Contains list subject) (set_at-standing upper at stands above) among))),
    (λ has. elim has [
      | inl own ↦ let never : true ≡ false = sym own.0 ∙ is in cc
      | inr other ↦ subst (λ list. Contains list subject) (sym (set_at-standing upper at stands above)) ((subjects-names (listed which db upper) subject).1 other.1)
    ]),
  )

  -- what an upper row hands down
  handed_down-standing : (upper : RowName) (at : ℕ) → StandsAt db upper at → IsDone upper.table.0 → (subject : Subject)
      → Contains (handed_down db.schema db.rows done upper.table.0 at) subject ↔ HandsDown upper subject
  handed_down-standing upper at stands above subject =
      handed_step upper at stands above subject (is_subject db.schema upper.table.0) (subject_row-standing db upper at ordered stands)

  -- A row has a subject over an edge that joins it to a row that hands the subject down.
  pub record HasOver (edge : Edge) (subject : Subject) (name : RowName) : Type 0 where
    pub upper : RowName
    pub joined : Joins db name edge upper
    pub has : HandsDown upper subject

  module _ (edge : Edge) (among : Contains db.schema.edges edge) (owner : IsOwnerSchema db.schema) (above : IsDone edge.upper.0) where
    handed_at : (upper : RowName) (at : ℕ) → StandsAt db upper at → upper.table ≡ edge.upper → (subject : Subject)
        → Contains (handed_down db.schema db.rows done edge.upper.0 at) subject ↔ HandsDown upper subject
    handed_at upper at stands table subject =
        subst (λ (t : TableNo). IsDone t.0 → Contains (handed_down db.schema db.rows done t.0 at) subject ↔ HandsDown upper subject) table
        (λ is. handed_down-standing upper at stands is subject) above

    over_step : (name : RowName) (place : ℕ) → StandsAt db name place → name.table ≡ edge.lower → (subject : Subject) → (l : Link) → Linked db edge l.lower l.upper → (b : Bool) → eqb l.lower place ≡ b
        → Contains (cond b (handed_down db.schema db.rows done edge.upper.0 l.upper) []) subject → HasOver edge subject name
    over_step name place stands table subject l linked true is listed =
        let here : l.lower ≡ place = eqb-true l.lower place is in
        let also : StandsAt db linked.lower place = subst (StandsAt db linked.lower) here linked.lower_stands in
        let same : linked.lower ≡ name = same_standing db linked.lower name place also stands (linked.joined.of_lower ∙ sym table) in
        record {
          upper = linked.upper;
          joined = subst (λ lower. Joins db lower edge linked.upper) same linked.joined;
          has = (handed_at linked.upper l.upper linked.upper_stands linked.joined.of_upper subject).0 listed;
        }
    over_step name place stands table subject l linked false is listed = absurd (contains_none subject listed)

    -- what comes down over an edge
    pub over_edge-has : (name : RowName) (place : ℕ) → StandsAt db name place → name.table ≡ edge.lower → (subject : Subject)
        → Contains (over_edge db.schema db.rows done edge place) subject → HasOver edge subject name
    unfolding over_edge
    over_edge-has name place stands table subject listed =
        let (l, at, own) = contains_of_flat_map (over_link db.schema db.rows done edge place) (links db.schema db.rows edge) subject listed in
        over_step name place stands table subject l (links-joined db edge ordered among (edge_within db.schema edge owner among) (edge_held db.schema edge owner among) l at)
        (eqb l.lower place) refl own

    pub has-over_edge : (name : RowName) (place : ℕ) → StandsAt db name place → (subject : Subject) → HasOver edge subject name → Contains (over_edge db.schema db.rows done edge place) subject
    unfolding over_edge
    has-over_edge name place stands subject over =
        let (at, upper_stands) = standing_there db over.upper over.joined.upper_there in
        let l : Link = record { lower = place; upper = at } in
        let own : Contains (handed_down db.schema db.rows done edge.upper.0 at) subject = (handed_at over.upper at upper_stands over.joined.of_upper subject).1 over.has in
        let counted : over_link db.schema db.rows done edge place l ≡ handed_down db.schema db.rows done edge.upper.0 at = rw (eq-eqb place place refl) refl in
        contains_flat_map (over_link db.schema db.rows done edge place) (links db.schema db.rows edge) l subject
        (joined-linked db edge ordered among (edge_held db.schema edge owner among) name over.upper place at stands upper_stands over.joined)
        (subst (λ list. Contains list subject) (sym counted) own)

  -- whose a row is, by the lists of the rows above it
  abbrev pub Whose : Subject → RowName → Type 0
  Whose subject name = IsSubject db subject.0 name ⊎ HasByEdge db (counts which) (λ s n. Contains (listed which db n) s) subject.0 name

  module _ (owner : IsOwnerSchema db.schema) (name : RowName) (place : ℕ) (edges : List Edge) (stands : StandsAt db name place)
      (out : edges ≡ filter (λ edge. edge.lower.0 == name.table.0) db.schema.edges) (above : (edge : Edge) → Contains edges edge → IsDone edge.upper.0) where
    same_number : (one other : TableNo) → one.0 ≡ other.0 → one ≡ other
    same_number one other same = ap (λ (n : ℕ). record { 0 = n }) same

    out_of : (edge : Edge) → Contains edges edge → Contains db.schema.edges edge × (name.table ≡ edge.lower)
    out_of edge among =
        let kept = contains_of_filter (λ e. e.lower.0 == name.table.0) db.schema.edges edge (subst (λ list. Contains list edge) out among) in
        (kept.0, sym (same_number edge.lower name.table (eqb-true edge.lower.0 name.table.0 kept.1)))

    counted_has : (edge : Edge) → Contains edges edge → (subject : Subject) → (b : Bool) → counts which edge ≡ b → Contains (cond b (over_edge db.schema db.rows done edge place) []) subject
        → Whose subject name
    counted_has edge among subject true is listed =
        let kept = out_of edge among in
        let over = over_edge-has edge kept.0 owner (above edge among) name place stands kept.1 subject listed in
        inr (record { edge = edge; upper = over.upper; counted = is; joined = over.joined; has = over.has })
    counted_has edge among subject false is listed = absurd (contains_none subject listed)

    gathered-has : (subject : Subject) → Contains (gathered which db.schema db.rows done name.table.0 edges place) subject → Whose subject name
    unfolding gathered
    gathered-has subject listed =
        elim (Contains-append_cases (own_set db.schema db.rows name.table.0 place) (flat_map (over_counted which db.schema db.rows done place) edges) subject listed) [
          | inl own ↦ inl ((own_set-subject db ordered name place stands subject).0 own)
          | inr over ↦
              let (edge, among, has) = contains_of_flat_map (over_counted which db.schema db.rows done place) edges subject over in
              counted_has edge among subject (counts which edge) refl has
        ]

    has-gathered : (subject : Subject) → Whose subject name → Contains (gathered which db.schema db.rows done name.table.0 edges place) subject
    unfolding gathered
    has-gathered subject (inl own) =
        Contains-append_left (own_set db.schema db.rows name.table.0 place) (flat_map (over_counted which db.schema db.rows done place) edges) subject
        ((own_set-subject db ordered name place stands subject).1 own)
    has-gathered subject (inr by) =
        let test : (by.edge.lower.0 == name.table.0) ≡ true = eq-eqb by.edge.lower.0 name.table.0 (ap (λ (t : TableNo). t.0) (sym by.joined.of_lower)) in
        let among : Contains edges by.edge = subst (λ list. Contains list by.edge) (sym out) (contains_filter (λ e. e.lower.0 == name.table.0) db.schema.edges by.edge by.joined.among test) in
        let over : Contains (over_edge db.schema db.rows done by.edge place) subject =
        has-over_edge by.edge by.joined.among owner (above by.edge among) name place stands subject (record { upper = by.upper; joined = by.joined; has = by.has }) in
        let is : over_counted which db.schema db.rows done place by.edge ≡ over_edge db.schema db.rows done by.edge place = rw (by.counted) refl in
        Contains-append_right (own_set db.schema db.rows name.table.0 place) (flat_map (over_counted which db.schema db.rows done place) edges) subject
        (contains_flat_map (over_counted which db.schema db.rows done place) edges by.edge subject among (subst (λ list. Contains list subject) (sym is) over))

    -- what is gathered for a row is exactly whose it is
    pub gathered-iff_whose : (subject : Subject) → Contains (gathered which db.schema db.rows done name.table.0 edges place) subject ↔ Whose subject name
    gathered-iff_whose subject = (gathered-has subject, has-gathered subject)
