-- What is kept stands for a database with one table or view more.
use Rattle.std.proofs.Common.{◌≡◌, ℕ, zero, suc, ◌+◌, ◌<◌, List, [], ◌∷◌, ◌++◌, length, map, Bool, true, false, inl, inr, refl, ap, sym, ◌∙◌, subst, arith}
use Rattle.std.specs.Prelude.{◌&&◌, not, Contains, Some, filter, slice_get}
use Rattle.std.specs.List.{range_with_len}
use Rattle.std.proofs.lemmas.List.Elements.{Contains-append_left, Contains-append_right}
use Rattle.own_base.specs.declared.row_name.RowName.{RowName}
use Rattle.own_model.specs.declared.create.CreateTable.{CreateTable}
use Rattle.own_model.specs.declared.create.CreateView.{CreateView}
use Rattle.own_model.specs.declared.schema.Edge.{Edge}
use Rattle.own_model.specs.Db.{Db, IsOrdered}
use Rattle.own_model.specs.Stored.{row_named}
use Rattle.owner_model.specs.Joins.{Joins}
use Rattle.page_model.specs.Found.{found}
use Rattle.schema_model.specs.NewEdges.{new_edges}
use Rattle.schema_model.specs.OwnerSchema.{IsOwnerSchema}
use Rattle.schema_model.specs.WithTable.{with_table}
use Rattle.state_model.specs.Create.{create, create_view, with_view}
use Rattle.state_model.proofs.TableRows.{alike-create}
use Rattle.state_model.proofs.WellFormedLemmas.{ordered-create, ordered-create_view}
use Rattle.subject_model.specs.NameOrder.{name_cmp}
use Rattle.subject_model.specs.Named.{NamedRow}
use Rattle.subject_model.specs.Owners.{By, by, reaches_by}
use Rattle.subject_model.specs.Paths.{IsPath, Path, is_subject_row}
use Rattle.subject_model.proofs.Members.{contains_cases, contains_here, contains_later, contains_none}
use Rattle.subject_model.proofs.OwnerLemmas.{by_from, from_by}
use Rattle.subject_model.proofs.SamePaths.{AreAlike, owns-alike, reaches-alike}
use Rattle.state_model.proofs.CreatedSchema.{owner_schema-with_view}
use Rattle.shelf_model.specs.declared.shelved.Shelved.{Shelved}
use Rattle.shelf_model.specs.Seen.{seen, sees}
use Rattle.shelf_model.specs.Shelf.{shelf}
use Rattle.shelf_model.proofs.ShelfLemmas.{seen_found, shelf_found}
use Rattle.micro_db.specs.declared.micro.MicroDb.{MicroDb}
use Rattle.micro_db.specs.Kept.{StandsFor}
use Rattle.micro_db.proofs.AmongLemmas.{same_test}
use Rattle.micro_db.proofs.StandingSame.{filter_alike}

-- a filter leaves nothing of what it lets through nothing of
filter_none : {X : Type 0} (p : X → Bool) (ys : List X) → ((y : X) → Contains ys y → p y ≡ false) → filter p ys ≡ []
filter_none p [] none = refl
filter_none p (y ∷ ys) none = rw (none y (contains_here y ys), filter_none p ys (λ x among. none x (contains_later y ys x among))) refl

filter_append : {X : Type 0} (p : X → Bool) (xs ys : List X) → ((y : X) → Contains ys y → p y ≡ false) → filter p (xs ++ ys) ≡ filter p xs
filter_append p [] ys none = filter_none p ys none
filter_append p (x ∷ xs) ys none = rw (filter_append p xs ys none) refl

-- edges stand at the places of their numbers
number_at : (first : ℕ) (edges : List Edge) (edge : Edge) (place : ℕ) → map (λ e. e.number.0) edges ≡ range_with_len first (length edges) → slice_get edges place ≡ Some edge → edge.number.0 ≡ first + place
number_at first [] edge place numbered at = cc
number_at first (own ∷ edges) edge zero numbered at =
    let same : own ≡ edge = cc in
    let number : own.number.0 ≡ first = cc in
    subst (λ e. e.number.0 ≡ first + 0) same (omega arith)
number_at first (own ∷ edges) edge (suc place) numbered at =
    let rest : map (λ e. e.number.0) edges ≡ range_with_len (first + 1) (length edges) = cc in
    omega (arith, number_at (first + 1) edges edge place rest at)

contains_at : (edges : List Edge) (edge : Edge) → Contains edges edge → (place : ℕ) × ((slice_get edges place ≡ Some edge) × (place < length edges))
contains_at [] edge among = absurd (contains_none edge among)
contains_at (first ∷ edges) edge among =
    elim (contains_cases first edges edge among) [
      | inl here ↦ (0, (ap Some here, omega arith))
      | inr later ↦ let there = contains_at edges edge later in (suc there.0, (there.1.0, omega (arith, there.1.1)))
    ]

get_behind : (front back : List Edge) (edge : Edge) (place : ℕ) → slice_get back place ≡ Some edge → slice_get (front ++ back) (length front + place) ≡ Some edge
get_behind [] back edge place at = subst (λ n. slice_get back n ≡ Some edge) (let same : place ≡ 0 + place = omega arith in same) at
get_behind (first ∷ front) back edge place at =
    let later : slice_get (front ++ back) (length front + place) ≡ Some edge = get_behind front back edge place at in
    subst (λ n. slice_get (first ∷ (front ++ back)) n ≡ Some edge) (let same : suc (length front + place) ≡ length (first ∷ front) + place = omega arith in same) later

get_before : (front back : List Edge) (edge : Edge) (place : ℕ) → slice_get front place ≡ Some edge → slice_get (front ++ back) place ≡ Some edge
get_before [] back edge place at = cc
get_before (first ∷ front) back edge zero at = at
get_before (first ∷ front) back edge (suc place) at = get_before front back edge place at

-- so none stands in two parts of the list
no_twice : (front back : List Edge) → map (λ e. e.number.0) (front ++ back) ≡ range_with_len 0 (length (front ++ back)) → (edge : Edge) → Contains back edge → Contains front edge → ⊥
no_twice front back numbered edge behind before =
    let (place, (at, within)) = contains_at front edge before in
    let (far, (there, _)) = contains_at back edge behind in
    let one : edge.number.0 ≡ 0 + place = number_at 0 (front ++ back) edge place numbered (get_before front back edge place at) in
    let other : edge.number.0 ≡ 0 + (length front + far) = number_at 0 (front ++ back) edge (length front + far) numbered (get_behind front back edge far there) in
    omega arith

module _ (one other : Db) (subject_is : (name : RowName) → is_subject_row other name ≡ is_subject_row one name)
    (joins : (lower : RowName) (edge : Edge) (upper : RowName) → Joins one lower edge upper → Joins other lower edge upper) where
  -- each path of the one is a path of the other
  path_of : (from : RowName) (path : Path) (subject : RowName) → IsPath one from path subject → IsPath other from path subject
  path_of from [] subject leads = (subject_is from ∙ leads.0, leads.1)
  path_of from (step ∷ rest) subject leads =
      (joins from step.edge step.upper leads.0, ((λ ends. leads.1.0 (sym (subject_is step.upper) ∙ ends)), path_of step.upper rest subject leads.1.1))

  by_of : (subject name : RowName) (edge : Edge) → By one subject name edge → By other subject name edge
  by_of subject name edge way = record { upper = way.upper; rest = way.rest; leads = path_of name (record { edge = edge; upper = way.upper } ∷ way.rest) subject way.leads }

module _ (one other : Db) (alike : AreAlike one other) (ordered : IsOrdered one) (also : IsOrdered other) (owner : IsOwnerSchema one.schema) (owner_also : IsOwnerSchema other.schema) where
  back : (name : RowName) → is_subject_row one name ≡ is_subject_row other name
  back name = sym (alike.subject name)

  -- by an edge of both a subject reaches the same rows
  reaches_by-alike : (subject name : RowName) (edge : Edge) → Contains one.schema.edges edge → Contains other.schema.edges edge → reaches_by other subject name edge ≡ reaches_by one subject name edge
  reaches_by-alike subject name edge among among_also = same_test _ _
      (λ is. from_by one subject name edge ordered owner (by_of other one back alike.joined subject name edge (by_from other subject name edge owner_also among_also is)))
      (λ is. from_by other subject name edge also owner_also (by_of one other alike.subject alike.joins subject name edge (by_from one subject name edge owner among is)))

  sees-alike : (subject name : RowName) → sees other subject name ≡ sees one subject name
  sees-alike subject name = λ i. reaches-alike one other alike ordered also owner owner_also subject name i && not (owns-alike one other alike ordered also owner owner_also subject name i)

  -- so what is kept stands for the other where it reaches rows by the same edges
  stands_alike : (micro : MicroDb) → ((subject name : RowName) → by other subject name ≡ by one subject name) → StandsFor one micro → StandsFor other micro
  unfolding shelf seen
  stands_alike micro same_by stands =
      record {
        copies = λ subject name. stands.copies subject name ∙ (sym (shelf_found one subject.0 ordered name) ∙ (ap (found (λ (copy : Shelved). copy.name) name_cmp name) (sym (same_shelf subject.0)) ∙ shelf_found other subject.0 also name));
        sights = λ subject name. stands.sights subject name ∙ (sym (seen_found one subject.0 ordered name) ∙ (ap (found (λ (own : RowName). own) name_cmp name) (sym (same_seen subject.0)) ∙ seen_found other subject.0 also name));
      }
    where
      same_shelf : (subject : RowName) → shelf other subject ≡ shelf one subject
      same_shelf subject = λ i.
          map (λ (named : NamedRow). record { name = named.name; row = named.row; by = same_by subject named.name i })
          (filter (λ (named : NamedRow). owns-alike one other alike ordered also owner owner_also subject named.name i) (alike.named i))

      same_seen : (subject : RowName) → seen other subject ≡ seen one subject
      same_seen subject = λ i. map (λ (named : NamedRow). named.name) (filter (λ (named : NamedRow). sees-alike subject named.name i) (alike.named i))

  -- which it does where the edges are the same
  by-alike : other.schema.edges ≡ one.schema.edges → (subject name : RowName) → by other subject name ≡ by one subject name
  unfolding by
  by-alike edges subject name =
      ap (λ (es : List Edge). map (λ (edge : Edge). edge.number) (filter (reaches_by other subject name) es)) edges
      ∙ ap (map (λ (edge : Edge). edge.number))
      (filter_alike (reaches_by other subject name) (reaches_by one subject name) one.schema.edges
      (λ edge among. reaches_by-alike subject name edge among (subst (λ es. Contains es edge) (sym edges) among)))

  -- or where those that come last join no rows
  by-longer : (more : List Edge) → other.schema.edges ≡ one.schema.edges ++ more → ((edge : Edge) → Contains more edge → Contains one.schema.edges edge → ⊥) → (subject name : RowName) → by other subject name ≡ by one subject name
  unfolding by
  by-longer more edges apart subject name =
      ap (λ (es : List Edge). map (λ (edge : Edge). edge.number) (filter (reaches_by other subject name) es)) edges
      ∙ (ap (map (λ (edge : Edge). edge.number)) (filter_append (reaches_by other subject name) one.schema.edges more none)
      ∙ ap (map (λ (edge : Edge). edge.number))
      (filter_alike (reaches_by other subject name) (reaches_by one subject name) one.schema.edges
      (λ edge among. reaches_by-alike subject name edge among (subst (λ es. Contains es edge) (sym edges) (Contains-append_left one.schema.edges more edge among)))))
    where
      none : (edge : Edge) → Contains more edge → reaches_by other subject name edge ≡ false
      none edge among = by_test (reaches_by other subject name edge) refl
        where
          by_test : (b : Bool) → reaches_by other subject name edge ≡ b → reaches_by other subject name edge ≡ false
          by_test true is =
              let way : By other subject name edge = by_from other subject name edge owner_also (subst (λ es. Contains es edge) (sym edges) (Contains-append_right one.schema.edges more edge among)) is in
              let joined : Joins one name edge way.upper = alike.joined name edge way.upper way.leads.0 in
              absurd (apart edge among joined.among)
          by_test false is = is

module _ (db : Db) (view : CreateView) where
  joins-view : (lower : RowName) (edge : Edge) (upper : RowName) → Joins db lower edge upper → Joins (create_view db view) lower edge upper
  unfolding create_view with_view row_named
  joins-view lower edge upper is =
      record { among = is.among; of_lower = is.of_lower; of_upper = is.of_upper; lower_there = is.lower_there; upper_there = is.upper_there; names = is.names }

  joined-view : (lower : RowName) (edge : Edge) (upper : RowName) → Joins (create_view db view) lower edge upper → Joins db lower edge upper
  unfolding create_view with_view row_named
  joined-view lower edge upper is =
      record { among = is.among; of_lower = is.of_lower; of_upper = is.of_upper; lower_there = is.lower_there; upper_there = is.upper_there; names = is.names }

  subject-view : (name : RowName) → is_subject_row (create_view db view) name ≡ is_subject_row db name
  unfolding create_view with_view row_named is_subject_row
  subject-view name = refl

  alike-view : AreAlike db (create_view db view)
  unfolding create_view with_view
  alike-view = record { named = refl; subject = subject-view; joins = joins-view; joined = joined-view }

  owner-view : IsOwnerSchema db.schema → IsOwnerSchema (create_view db view).schema
  unfolding create_view
  owner-view owner = owner_schema-with_view db.schema view owner

module _ (db : Db) (ordered : IsOrdered db) (owner : IsOwnerSchema db.schema) where
  edges-create : (table : CreateTable) → (create db table).schema.edges ≡ db.schema.edges ++ new_edges db.schema table
  unfolding create with_table
  edges-create table = refl

  pub stands-create : (table : CreateTable) (micro : MicroDb) → IsOwnerSchema (create db table).schema → StandsFor db micro → StandsFor (create db table) micro
  stands-create table micro also stands =
      let after = create db table in
      let alike = alike-create db table ordered in
      let edges = edges-create table in
      stands_alike db after alike ordered (ordered-create db table ordered) owner also micro
      (by-longer db after alike ordered (ordered-create db table ordered) owner also (new_edges db.schema table) edges
      (no_twice db.schema.edges (new_edges db.schema table) (subst (λ (es : List Edge). map (λ e. e.number.0) es ≡ range_with_len 0 (length es)) edges also.numbered)))
      stands

  edges-view : (view : CreateView) → (create_view db view).schema.edges ≡ db.schema.edges
  unfolding create_view with_view
  edges-view view = refl

  pub stands-view : (view : CreateView) (micro : MicroDb) → StandsFor db micro → StandsFor (create_view db view) micro
  stands-view view micro stands =
      let after = create_view db view in
      let alike = alike-view db view in
      stands_alike db after alike ordered (ordered-create_view db view ordered) owner (owner-view db view owner) micro
      (by-alike db after alike ordered (ordered-create_view db view ordered) owner (owner-view db view owner) (edges-view view))
      stands
