-- What is sought above a row, as facts.
use Rattle.std.proofs.Common.{◌≡◌, ℕ, ◌+◌, ◌<◌, get_or, take, List, [], ◌∷◌, ◌++◌, length, map, Bool, true, false, not, cond, refl, ap, sym, ◌∙◌, subst, eq-eqb, arith}
use Rattle.std.specs.Prelude.{◌↔◌, ◌==◌, Contains, IsTrue, Option, Some, None, filter, is_some}
use Rattle.std.specs.List.{list_any}
use Rattle.std.proofs.lemmas.Bool.{and_from, and_parts, eqb-true, false_from_ne_true, not_from_false}
use Rattle.own_base.specs.declared.change.Change.{Change}
use Rattle.own_base.specs.declared.number.EdgeNo.{EdgeNo}
use Rattle.own_base.specs.declared.number.TableNo.{TableNo}
use Rattle.own_base.specs.declared.row_name.RowName.{RowName}
use Rattle.own_base.specs.declared.row_name.Subject.{Subject}
use Rattle.own_model.specs.declared.schema.Edge.{Edge}
use Rattle.own_model.specs.Db.{Db, IsOrdered, Row}
use Rattle.owner_model.specs.Joins.{Joins, row_of}
use Rattle.link_model.specs.Whose.{as_subject, owners_at, reach_at}
use Rattle.schema_model.specs.OwnerSchema.{IsOwnerSchema}
use Rattle.schema_model.specs.Tables.{is_subject}
use Rattle.subject_model.specs.Named.{is_name, is_there}
use Rattle.subject_model.specs.Owners.{By, Owns, Reaches, by, owners, owns, reach, reaches, reaches_by}
use Rattle.subject_model.specs.Paths.{IsPath, Path, is_subject_row}
use Rattle.subject_model.specs.Staying.{Struck}
use Rattle.subject_model.specs.Stays.{stays, struck}
use Rattle.std.proofs.lemmas.List.{map-append, take_more}
use Rattle.std.proofs.lemmas.List.Elements.{filter-append}
use Rattle.subject_model.proofs.Members.{any_contained, contains_any, contains_filter, contains_here, contains_later, contains_map, contains_none, contains_of_filter, contains_of_map}
use Rattle.subject_model.proofs.JoinsLemmas.{same_table}
use Rattle.subject_model.proofs.NamedLemmas.{name_is, one_name}
use Rattle.subject_model.proofs.OwnerLemmas.{by_from, from_by, from_owns, from_reaches, owns_from, reaches_from}
use Rattle.subject_model.proofs.OwnerLists.{owners-iff_Owns, reach-iff_Reaches}
use Rattle.subject_model.proofs.StayLemmas.{from_struck, stays_from, struck_from}
use Rattle.subject_erase.proofs.TableFlags.{same_test}
use Rattle.shelf_erase.specs.Above.{AboveTold}
use Rattle.shelf_erase.specs.ChangeAt.{removal_at}
use Rattle.shelf_erase.specs.Sought.{LeadsBy, LeadsUp, counts, passes}
use Rattle.shelf_erase.specs.Told.{told}
use Rattle.shelf_erase.specs.Upper.{AreUppers, LeadsTo}
use Rattle.shelf_erase.specs.declared.sought.Sought.{Sought}
use Rattle.shelf_erase.specs.declared.sought.Sought.TheVariants.{Owned, Kept, Reached}
use Rattle.shelf_erase.proofs.Locally.{KeptAbove, kept-stays, stays-kept}
use Rattle.shelf_erase.proofs.Strikes.{StrikeAsOwners}

-- subjects of names
among_names : (names : List RowName) (subject : Subject) → Contains (map as_subject names) subject ↔ Contains names subject.0
among_names names subject = (
  (λ among. let (name, at, is) = contains_of_map as_subject names subject among in subst (Contains names) (ap (λ (s : Subject). s.0) is) at),
  (λ at. contains_map as_subject names subject.0 at),
)

some_first : {X : Type 0} (xs : List X) → not (length xs == 0) ≡ true → (x : X) × Contains xs x
some_first [] some = let never : false ≡ true = some in cc
some_first (x ∷ xs) some = (x, contains_here x xs)

some_there : {X : Type 0} (xs : List X) (x : X) → Contains xs x → not (length xs == 0) ≡ true
some_there [] x among = absurd (contains_none x among)
some_there (y ∷ xs) x among =
    not_from_false (length (y ∷ xs) == 0) (false_from_ne_true (length (y ∷ xs) == 0) (λ is. let none : length (y ∷ xs) ≡ 0 = eqb-true (length (y ∷ xs)) 0 is in absurd (omega arith)))

module _ (db : Db) (ordered : IsOrdered db) (owner : IsOwnerSchema db.schema) where
  -- the subject is one of those that own a row where it owns the row
  pub among-owns : (subject : Subject) (name : RowName) (is : Bool) → IsTrue is ↔ Contains (owners_at db name) subject → is ≡ owns db subject.0 name
  among-owns subject name is same = same_test is (owns db subject.0 name) (
    (λ yes. from_owns db subject.0 name ordered owner ((owners-iff_Owns db name subject.0 ordered owner).0 ((among_names (owners db name) subject).0 (same.0 yes)))),
    (λ own. same.1 ((among_names (owners db name) subject).1 ((owners-iff_Owns db name subject.0 ordered owner).1 (owns_from db subject.0 name own)))),
  )

  pub among-reaches : (subject : Subject) (name : RowName) (is : Bool) → IsTrue is ↔ Contains (reach_at db name) subject → is ≡ reaches db subject.0 name
  among-reaches subject name is same = same_test is (reaches db subject.0 name) (
    (λ yes. from_reaches db subject.0 name ordered owner ((reach-iff_Reaches db name subject.0 ordered owner).0 ((among_names (reach db name) subject).0 (same.0 yes)))),
    (λ own. same.1 ((among_names (reach db name) subject).1 ((reach-iff_Reaches db name subject.0 ordered owner).1 (reaches_from db subject.0 name own)))),
  )

  -- a row that has owners has one
  pub some-owner : (name : RowName) → not (length (owners_at db name) == 0) ≡ true → (by : RowName) × Owns db by name
  some-owner name some =
      let (first, among) = some_first (owners_at db name) some in
      (first.0, (owners-iff_Owns db name first.0 ordered owner).0 ((among_names (owners db name) first).0 among))

  pub owner-some : (name by : RowName) → Owns db by name → not (length (owners_at db name) == 0) ≡ true
  owner-some name by own = some_there (owners_at db name) (as_subject by) ((among_names (owners db name) (as_subject by)).1 ((owners-iff_Owns db name by ordered owner).1 own))

  module _ (subject : RowName) where
    -- a row that is there stays where no change removes it
    stays_told : (upper : RowName) (removals : List Change) → is_there db upper ≡ true → told removals upper ≡ removal_at db subject upper → stays db subject upper ≡ not (is_some (told removals upper))
    unfolding removal_at
    stays_told upper removals there is = by (row_of db upper) refl (stays db subject upper) refl
      where
        by : (row : Option Row) → row_of db upper ≡ row → (stay : Bool) → stays db subject upper ≡ stay → stays db subject upper ≡ not (is_some (told removals upper))
        by None row_is stay stay_is = let never : false ≡ true = rw row_is at there in cc
        by (Some row) row_is true stay = stay ∙ sym (ap (λ o. not (is_some o)) is ∙ rw (row_is, stay) refl)
        by (Some row) row_is false stay = stay ∙ sym (ap (λ o. not (is_some o)) is ∙ rw (row_is, stay) refl)

    module _ (removals : List Change) (name : RowName) where
      -- a row is struck where an edge that strikes leads to one that the subject owns
      pub leads-struck : LeadsUp db Owned subject removals name → struck db subject name ≡ true
      leads-struck up =
          from_struck db subject name ordered owner
          (record { edge = up.edge; upper = up.by.leads.upper; joined = up.by.leads.joined; strikes = up.by.counted; owned = owns_from db subject up.by.leads.upper up.by.leads.passing })

      pub struck-leads : struck db subject name ≡ true → LeadsUp db Owned subject removals name
      struck-leads is =
          let by : Struck db subject name = struck_from db subject name is in
          record { edge = by.edge; by = record { counted = by.strikes; leads = record { upper = by.upper; joined = by.joined; passing = from_owns db subject by.upper ordered owner by.owned } } }

      module _ (told_above : AboveTold db subject name.table removals) where
        upper_told : (edge : Edge) (upper : RowName) → Joins db name edge upper → told removals upper ≡ removal_at db subject upper
        upper_told edge upper joined = told_above.above edge joined.among (sym joined.of_lower) upper joined.of_upper

        leads-kept : LeadsUp db Kept subject removals name → KeptAbove db subject name
        leads-kept up =
            let upper = up.by.leads.upper in
            let both = and_parts (not (is_some (told removals upper))) (not (length (owners_at db upper) == 0)) up.by.leads.passing in
            let (by, own) = some-owner upper both.1 in
            record {
              edge = up.edge;
              upper = upper;
              joined = up.by.leads.joined;
              owner = up.by.counted;
              stay = stays_told upper removals up.by.leads.joined.upper_there (upper_told up.edge upper up.by.leads.joined) ∙ both.0;
              by = by;
              owned = own;
            }

        kept-leads : KeptAbove db subject name → LeadsUp db Kept subject removals name
        kept-leads above = record {
          edge = above.edge;
          by = record {
            counted = above.owner;
            leads = record {
              upper = above.upper;
              joined = above.joined;
              passing = and_from _ _ (sym (stays_told above.upper removals above.joined.upper_there (upper_told above.edge above.upper above.joined)) ∙ above.stay) (owner-some above.upper above.by above.owned);
            };
          };
        }

        module _ (of_subjects : is_subject db.schema subject.table.0 ≡ true) (strikes : StrikeAsOwners db.schema) (own : Owns db subject name) where
          -- so a row that the subject owns, but for its own, stays exactly where it isn't struck and a row that stays is above it
          pub stays-is : (is_struck kept : Bool) → IsTrue is_struck ↔ LeadsUp db Owned subject removals name → IsTrue kept ↔ LeadsUp db Kept subject removals name
              → is_struck ≡ false → not kept ≡ not (stays db subject name)
          stays-is is_struck kept struck_is kept_is unstruck =
              ap not (same_test kept (stays db subject name) (
                (λ yes. kept-stays db subject ordered owner of_subjects strikes name (false_from_ne_true (struck db subject name)
                    (λ is. let yes_struck : is_struck ≡ true = struck_is.1 (struck-leads is) in let never : true ≡ false = sym yes_struck ∙ unstruck in cc)) (leads-kept (kept_is.0 yes))),
                (λ stay. kept_is.1 (kept-leads (stays-kept db subject ordered owner of_subjects strikes name own stay).1)),
              ))

          pub struck-goes : (is_struck : Bool) → IsTrue is_struck ↔ LeadsUp db Owned subject removals name → is_struck ≡ true → true ≡ not (stays db subject name)
          struck-goes is_struck struck_is struck_now =
              ap not (sym (false_from_ne_true (stays db subject name) (λ stay.
              let local = stays-kept db subject ordered owner of_subjects strikes name own stay in
              let never : true ≡ false = sym (leads-struck (struck_is.0 struck_now)) ∙ local.0 in cc)))

    -- its own row goes
    pub itself-goes : (name : RowName) → is_name name subject ≡ true → true ≡ not (stays db subject name)
    itself-goes name same = ap not (sym (false_from_ne_true (stays db subject name) (λ stay. (stays_from db subject name stay).other (one_name name subject same))))

    module _ (removals : List Change) (name : RowName) (edge : Edge) where
      over_rest : (upper : RowName) → (subjects : Bool) → is_subject db.schema upper.table.0 ≡ subjects → is_there db upper ≡ true → (rest : Path)
          → (IsTrue (is_subject_row db upper) → rest ≡ []) → IsPath db upper rest subject → cond subjects (is_name upper subject) (reaches db subject upper) ≡ true
      unfolding is_subject_row
      over_rest upper true of there rest ends leads =
          let none : rest ≡ [] = ends (and_from _ _ of there) in
          let here : IsPath db upper [] subject = subst (λ p. IsPath db upper p subject) none leads in
          name_is upper subject here.1
      over_rest upper false of there rest ends leads = from_reaches db subject upper ordered owner (record { path = rest; leads = leads })

      rest_over : (upper : RowName) → Joins db name edge upper → (subjects : Bool) → is_subject db.schema upper.table.0 ≡ subjects
          → cond subjects (is_name upper subject) (reaches db subject upper) ≡ true → By db subject name edge
      unfolding is_subject_row
      rest_over upper joined true of is = record { upper = upper; rest = []; leads = (joined, ((λ row. refl), (and_from _ _ of joined.upper_there, one_name upper subject is))) }
      rest_over upper joined false of is =
          let reached : Reaches db subject upper = reaches_from db subject upper is in
          record {
            upper = upper;
            rest = reached.path;
            leads = (joined, ((λ row. let both = and_parts (is_subject db.schema upper.table.0) (is_there db upper) row in let never : true ≡ false = sym both.0 ∙ of in cc), reached.leads));
          }

      -- a subject reaches a row by an edge where the edge leads to one over which it does
      pub leads-reaches_by : (is : Bool) → Contains db.schema.edges edge → IsTrue is ↔ LeadsTo db (passes Reached db subject removals) name edge → is ≡ reaches_by db subject name edge
      leads-reaches_by is among same = same_test is (reaches_by db subject name edge) (
        (λ yes. let leads = same.0 yes in from_by db subject name edge ordered owner (rest_over leads.upper leads.joined (is_subject db.schema leads.upper.table.0) refl leads.passing)),
        (λ reached.
            let path = by_from db subject name edge owner among reached in
            same.1 (record {
              upper = path.upper;
              joined = path.leads.0;
              passing = over_rest path.upper (is_subject db.schema path.upper.table.0) refl path.leads.0.upper_there path.rest path.leads.1.0 path.leads.1.1;
            })),
      )

    -- the edges by which it does are those of them out of the row's table
    filter_wider : {X : Type 0} (test wide : X → Bool) (xs : List X) → ((x : X) → Contains xs x → test x ≡ true → wide x ≡ true) → filter test (filter wide xs) ≡ filter test xs
    filter_wider test wide [] widens = refl
    filter_wider {X} test wide (x ∷ xs) widens = by (wide x) (test x) refl refl (filter_wider test wide xs (λ y among. widens y (contains_later x xs y among)))
      where
        by : (b c : Bool) → wide x ≡ b → test x ≡ c → filter test (filter wide xs) ≡ filter test xs → filter test (cond b (x ∷ filter wide xs) (filter wide xs)) ≡ cond c (x ∷ filter test xs) (filter test xs)
        by true true w t more = rw t (ap (λ ys. x ∷ ys) more)
        by true false w t more = rw t more
        by false true w t more = let never : false ≡ true = sym w ∙ widens x (contains_here x xs) t in cc
        by false false w t more = more

    pub by-out : (name : RowName) (edges : List Edge) → edges ≡ filter (λ edge. edge.lower.0 == name.table.0) db.schema.edges → map (λ (edge : Edge). edge.number) (filter (reaches_by db subject name) edges) ≡ by db subject name
    unfolding by
    by-out name edges out =
        ap (λ list. map (λ (edge : Edge). edge.number) (filter (reaches_by db subject name) list)) out
        ∙ ap (map (λ (edge : Edge). edge.number))
        (filter_wider (reaches_by db subject name) (λ (edge : Edge). edge.lower.0 == name.table.0) db.schema.edges
        (λ edge among is. let path = by_from db subject name edge owner among is in eq-eqb edge.lower.0 name.table.0 (ap (λ (t : TableNo). t.0) (sym path.leads.0.of_lower))))

-- one edge more
pub by-more : (test : Edge → Bool) (edges : List Edge) (edge : Edge) (old new : List EdgeNo) (is : Bool) → is ≡ test edge → new ≡ old ++ cond is (edge.number ∷ []) [] → old ≡ map (λ (e : Edge). e.number) (filter test edges)
    → new ≡ map (λ (e : Edge). e.number) (filter test (edges ++ edge ∷ []))
by-more test edges edge old new is same added so_far =
    added
    ∙ (ap (λ list. list ++ cond is (edge.number ∷ []) []) so_far
    ∙ (ap (λ b. map (λ (e : Edge). e.number) (filter test edges) ++ cond b (edge.number ∷ []) []) same
    ∙ (last (test edge) refl ∙ sym (ap (map (λ (e : Edge). e.number)) (filter-append test edges (edge ∷ []))))))
  where
    last : (b : Bool) → test edge ≡ b → map (λ (e : Edge). e.number) (filter test edges) ++ cond b (edge.number ∷ []) [] ≡ map (λ (e : Edge). e.number) (filter test edges ++ cond b (edge ∷ []) [])
    last true is = sym (map-append (λ (e : Edge). e.number) (filter test edges) (edge ∷ []))
    last false is = sym (map-append (λ (e : Edge). e.number) (filter test edges) [])

-- an edge leads to one that passes where one of its upper rows does
pub any-leads : (db : Db) (test : RowName → Bool) (name : RowName) (edge : Edge) (uppers : List RowName) (is : Bool) → AreUppers db name edge uppers → is ≡ list_any test uppers → IsTrue is ↔ LeadsTo db test name edge
any-leads db test name edge uppers is are same = (
  (λ yes.
      let (upper, among, passing) = contains_any test uppers (sym same ∙ yes) in
      record { upper = upper; joined = (are.has upper).0 among; passing = passing }),
  (λ leads. same ∙ any_contained test uppers leads.upper ((are.has leads.upper).1 leads.joined) leads.passing),
)

-- an edge that doesn't count leads to none
pub not-counted : (db : Db) (sought : Sought) (subject : RowName) (removals : List Change) (name : RowName) (edge : Edge) → counts sought edge ≡ false → IsTrue false ↔ LeadsBy db sought subject removals name edge
not-counted db sought subject removals name edge none = ((λ never. let is : false ≡ true = never in cc), (λ by. let never : true ≡ false = sym by.counted ∙ none in cc))

pub counted : (db : Db) (sought : Sought) (subject : RowName) (removals : List Change) (name : RowName) (edge : Edge) (is : Bool) → counts sought edge ≡ true
    → IsTrue is ↔ LeadsTo db (passes sought db subject removals) name edge → IsTrue is ↔ LeadsBy db sought subject removals name edge
counted db sought subject removals name edge is counts_is same = ((λ yes. record { counted = counts_is; leads = same.0 yes }), (λ by. same.1 by.leads))

-- an edge out of the row leads up to one, or none does
pub up-found : (db : Db) (sought : Sought) (subject : RowName) (removals : List Change) (name : RowName) (edge : Edge) → LeadsBy db sought subject removals name edge → IsTrue true ↔ LeadsUp db sought subject removals name
up-found db sought subject removals name edge by = ((λ yes. record { edge = edge; by = by }), (λ up. refl))

pub up-none : (db : Db) (sought : Sought) (subject : RowName) (removals : List Change) (name : RowName) (edges : List Edge) → edges ≡ filter (λ edge. edge.lower.0 == name.table.0) db.schema.edges
    → ((edge : Edge) → Contains edges edge → LeadsBy db sought subject removals name edge → ⊥) → IsTrue false ↔ LeadsUp db sought subject removals name
up-none db sought subject removals name edges out none = (
  (λ never. let is : false ≡ true = never in cc),
  (λ up.
      let joined = up.by.leads.joined in
      let among = contains_filter (λ (edge : Edge). edge.lower.0 == name.table.0) db.schema.edges up.edge joined.among (eq-eqb up.edge.lower.0 name.table.0 (ap (λ (t : TableNo). t.0) (sym joined.of_lower))) in
      absurd (none up.edge (subst (λ list. Contains list up.edge) (sym out) among) up.by)),
)

-- an edge of those out of a row's table is one of the schema, and goes out of the table
pub edge_out : (db : Db) (name : RowName) (edges : List Edge) (edge : Edge) → edges ≡ filter (λ edge. edge.lower.0 == name.table.0) db.schema.edges → Contains edges edge → Contains db.schema.edges edge × (name.table ≡ edge.lower)
edge_out db name edges edge out among =
    let kept = contains_of_filter (λ (e : Edge). e.lower.0 == name.table.0) db.schema.edges edge (subst (λ list. Contains list edge) out among) in
    (kept.0, sym (same_table edge.lower name.table (eqb-true edge.lower.0 name.table.0 kept.1)))

-- of those at places, one place more
pub by-next : (test : Edge → Bool) (edges : List Edge) (count : ℕ) (edge : Edge) (old new : List EdgeNo) (is : Bool) → count < length edges → edge ≡ get_or edges count edge → is ≡ test edge
    → new ≡ old ++ cond is (edge.number ∷ []) [] → old ≡ map (λ (e : Edge). e.number) (filter test (take count edges)) → new ≡ map (λ (e : Edge). e.number) (filter test (take (count + 1) edges))
by-next test edges count edge old new is within next same added so_far =
    let longer : take (count + 1) edges ≡ take count edges ++ edge ∷ [] = take_more edges count edge within ∙ ap (λ e. take count edges ++ e ∷ []) (sym next) in
    by-more test (take count edges) edge old new is same added so_far ∙ ap (λ (list : List Edge). map (λ (e : Edge). e.number) (filter test list)) (sym longer)
