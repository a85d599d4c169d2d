-- Lists of subjects, one for each row, by the local equation.
use Rattle.std.proofs.Common.{◌≡◌, List, [], ◌∷◌, Bool, true, false, inl, inr, refl, sym, ◌∙◌, subst}
use Rattle.std.specs.Prelude.{◌⊎◌, ◌↔◌, Contains, IsFalse}
use Rattle.std.specs.List.Sorted.{IsStrictlySortedBy}
use Rattle.own_base.specs.declared.row_name.RowName.{RowName}
use Rattle.own_model.specs.declared.schema.Edge.{Edge}
use Rattle.own_model.specs.Db.{Db, IsOrdered}
use Rattle.owner_model.specs.Joins.{Joins}
use Rattle.schema_model.specs.OwnerSchema.{IsOwnerSchema}
use Rattle.subject_model.specs.LocalEquation.{HasByEdge, IsSubject, MeetsLocalEquation, counts_for_owners, counts_for_reach}
use Rattle.subject_model.specs.NameOrder.{name_cmp}
use Rattle.subject_model.specs.Named.{is_there}
use Rattle.subject_model.specs.Owners.{Owns, Reaches, owners, reach}
use Rattle.subject_model.specs.Paths.{IsPath, Path, is_subject_row}
use Rattle.subject_model.proofs.Members.{contains_here}
use Rattle.subject_model.proofs.OwnerLists.{owners-iff_Owns, owners_meet, owners_rise, reach-iff_Reaches, reach_meets, reach_rise, there-subject_row}
use Rattle.subject_model.proofs.RisingNames.{name_order, same_rising}

-- whose a row is, by the rows that its own edges join it to
abbrev pub Whose : Db → (Edge → Bool) → (RowName → RowName → Type 0) → RowName → RowName → Type 0
Whose db counts Has subject name = IsSubject db subject name ⊎ HasByEdge db counts Has subject name

-- the subjects that a list has for a row
abbrev pub Listed : (RowName → List RowName) → RowName → RowName → Type 0
Listed lists subject name = Contains (lists name) subject

-- Lists that meet the local equation of the edges that count: they rise, and a row that isn't there has none.
pub record AreListsOf (db : Db) (counts : Edge → Bool) (lists : RowName → List RowName) : Type 0 where
  pub meets : MeetsLocalEquation db counts (Listed lists)
  pub rise : (name : RowName) → IsStrictlySortedBy name_cmp (lists name)
  pub none : (name : RowName) → is_there db name ≡ false → lists name ≡ []

no_path : (db : Db) (name : RowName) (path : Path) (subject : RowName) → is_there db name ≡ false → IsPath db name path subject → ⊥
no_path db name [] subject absent is = let never : true ≡ false = sym (there-subject_row db name is.0) ∙ absent in cc
no_path db name (step ∷ rest) subject absent is = let never : true ≡ false = sym is.0.lower_there ∙ absent in cc

nil_from_none : (xs : List RowName) → ((x : RowName) → Contains xs x → ⊥) → xs ≡ []
nil_from_none [] none = refl
nil_from_none (x ∷ xs) none = absurd (none x (contains_here x xs))

-- the owners are such lists over the owner edges
pub owners_are : (db : Db) → IsOrdered db → IsOwnerSchema db.schema → AreListsOf db counts_for_owners (owners db)
owners_are db ordered owner =
    record {
      meets = owners_meet db ordered owner;
      rise = λ name. owners_rise db name ordered;
      none = λ name absent. nil_from_none (owners db name)
          (λ subject among. let is : Owns db subject name = (owners-iff_Owns db name subject ordered owner).0 among in no_path db name is.path subject absent is.leads);
    }

-- and the reach over all edges
pub reach_are : (db : Db) → IsOrdered db → IsOwnerSchema db.schema → AreListsOf db counts_for_reach (reach db)
reach_are db ordered owner =
    record {
      meets = reach_meets db ordered owner;
      rise = λ name. reach_rise db name ordered;
      none = λ name absent. nil_from_none (reach db name)
          (λ subject among. let is : Reaches db subject name = (reach-iff_Reaches db name subject ordered owner).0 among in no_path db name is.path subject absent is.leads);
    }

-- A row is there in both databases or in neither, and each edge that joins it to an upper row in the one does so in the other,
-- where the upper row is as much a subject row, and one that isn't has there what it has here.
pub record CarriesOver (one other : Db) (Has Had : RowName → RowName → Type 0) (name : RowName) : Type 0 where
  pub own : is_subject_row one name ≡ is_subject_row other name
  pub joins : (edge : Edge) (upper : RowName) → Joins one name edge upper → Joins other name edge upper
  pub subject : (edge : Edge) (upper : RowName) → Joins one name edge upper → is_subject_row one upper ≡ is_subject_row other upper
  pub has : (edge : Edge) (upper : RowName) (subject : RowName) → Joins one name edge upper → IsFalse (is_subject_row other upper) → Has subject upper → Had subject upper

-- then whose the row is in the one it is in the other
pub whose_carried : (one other : Db) (counts : Edge → Bool) (Has Had : RowName → RowName → Type 0) (subject name : RowName) → CarriesOver one other Has Had name
    → Whose one counts Has subject name → Whose other counts Had subject name
whose_carried one other counts Has Had subject name over (inl is) = inl (sym over.own ∙ is.0, is.1)
whose_carried one other counts Has Had subject name over (inr by) =
    inr (record {
      edge = by.edge;
      upper = by.upper;
      counted = by.counted;
      joined = over.joins by.edge by.upper by.joined;
      has = along by.has;
    })
  where
    along : IsSubject one subject by.upper ⊎ (IsFalse (is_subject_row one by.upper) × Has subject by.upper) → IsSubject other subject by.upper ⊎ (IsFalse (is_subject_row other by.upper) × Had subject by.upper)
    along (inl is) = inl (sym (over.subject by.edge by.upper by.joined) ∙ is.0, is.1)
    along (inr has) =
        let other_row : is_subject_row other by.upper ≡ false = sym (over.subject by.edge by.upper by.joined) ∙ has.0 in
        inr (other_row, over.has by.edge by.upper subject by.joined other_row has.1)

-- a rising list whose members a row has by lists that are right at its upper rows is the row's list
pub solved : (db : Db) (counts : Edge → Bool) (lists held : RowName → List RowName) (name : RowName) (set : List RowName) → AreListsOf db counts lists → is_there db name ≡ true
    → ((edge : Edge) (upper : RowName) → Joins db name edge upper → IsFalse (is_subject_row db upper) → held upper ≡ lists upper)
    → IsStrictlySortedBy name_cmp set → ((subject : RowName) → Contains set subject ↔ Whose db counts (Listed held) subject name) → set ≡ lists name
solved db counts lists held name set are there above rising members =
    same_rising name_order set (lists name) rising (are.rise name) (λ subject. (
      (λ among. (are.meets.local subject name there).1 (whose_carried db db counts (Listed held) (Listed lists) subject name to ((members subject).0 among))),
      (λ among. (members subject).1 (whose_carried db db counts (Listed lists) (Listed held) subject name from ((are.meets.local subject name there).0 among))),
    ))
  where
    to : CarriesOver db db (Listed held) (Listed lists) name
    to = record {
      own = refl;
      joins = λ edge upper is. is;
      subject = λ edge upper is. refl;
      has = λ edge upper subject is other among. subst (λ list. Contains list subject) (above edge upper is other) among;
    }

    from : CarriesOver db db (Listed lists) (Listed held) name
    from = record {
      own = refl;
      joins = λ edge upper is. is;
      subject = λ edge upper is. refl;
      has = λ edge upper subject is other among. subst (λ list. Contains list subject) (sym (above edge upper is other)) among;
    }
