-- One row that is settled.
use Rattle.std.proofs.Common.{◌≡◌, List, [], ◌∷◌, map, true, false, cond, inl, inr, refl, ap, sym, ◌∙◌}
use Rattle.std.specs.Prelude.{Contains}
use Rattle.std.specs.Cmp.Lexicographic.{pointwise}
use Rattle.std.specs.Ordering.{is_eq}
use Rattle.std.proofs.lemmas.Bool.{and_parts}
use Rattle.own_base.specs.declared.row_name.RowName.{RowName}
use Rattle.own_base.specs.declared.row_name.Subject.{Subject}
use Rattle.own_model.specs.Db.{Db, IsOrdered}
use Rattle.owner_model.specs.Joins.{Joins}
use Rattle.schema_model.specs.OwnerSchema.{IsOwnerSchema}
use Rattle.schema_model.specs.Tables.{is_subject}
use Rattle.subject_model.specs.NameOrder.{name_cmp}
use Rattle.subject_model.specs.Named.{is_there}
use Rattle.subject_model.specs.Owners.{owners, reach}
use Rattle.owner_sets.proofs.DerivedOrder.{derived_eq, derived_exact}
use Rattle.link_model.specs.Whose.{as_subject}
use Rattle.owner_index.specs.Entry.{Entry}
use Rattle.owner_index.specs.declared.which.Which.{Which}
use Rattle.owner_index.specs.declared.which.Which.TheVariants.{Owners, Reach}
use Rattle.owner_index.specs.Adds.{Adds, ForSome}
use Rattle.owner_index.specs.Held.{SetsAt, held, listed, owners_of, reach_of}
use Rattle.owner_index.specs.Settled.{HasBelow, IsRightAbove, Settles}
use Rattle.owner_index.proofs.GatheredLemmas.{subject_row-there}
use Rattle.owner_index.proofs.SettleLemmas.{name_tied}
use Rattle.owner_index.proofs.TablesLemmas.{listed_are}

-- lists that are equal item by item are one
pub equal_lists : (xs ys : List Subject) → pointwise derived_eq xs ys ≡ true → xs ≡ ys
equal_lists [] [] is = refl
equal_lists [] (y ∷ ys) is = let never : false ≡ true = is in cc
equal_lists (x ∷ xs) [] is = let never : false ≡ true = is in cc
equal_lists (x ∷ xs) (y ∷ ys) is =
    let both = and_parts (derived_eq x y) (pointwise derived_eq xs ys) is in
    ap (λ first. first ∷ xs) (derived_exact x y both.0) ∙ ap (λ rest. y ∷ rest) (equal_lists xs ys both.1)

-- the two sets of a row are what they are to be, where its upper rows have that
pub record AreRight (db : Db) (entries : List Entry) (name : RowName) (own all : List Subject) : Type 0 where
  pub owners : IsRightAbove db Owners entries name → own ≡ map as_subject (owners db name)
  pub reach : IsRightAbove db Reach entries name → all ≡ map as_subject (reach db name)

-- a row that isn't there has nothing
pub absent_right : (which : Which) (db : Db) (name : RowName) (set : List Subject) → IsOrdered db → IsOwnerSchema db.schema → is_there db name ≡ false → set ≡ [] → set ≡ map as_subject (listed which db name)
absent_right which db name set ordered owner absent none = none ∙ sym (ap (map as_subject) ((listed_are which db ordered owner).none name absent))

module _ (db : Db) (name : RowName) (old : List Entry) (own all : List Subject) (right : AreRight db old name own all) where
  -- what is held already stays
  pub settles-same : (work : List RowName) → own ≡ owners_of old name → all ≡ reach_of old name → Settles db name old old work work
  settles-same work same also =
      record {
        right = by;
        others = λ which other apart. refl;
        longer = λ other among. among;
        below = λ which. inl refl;
      }
    where
      by : (which : Which) → IsRightAbove db which old name → held which old name ≡ map as_subject (listed which db name)
      by Owners above = sym same ∙ right.owners above
      by Reach above = sym also ∙ right.reach above

  -- or the new sets are held, and the rows below come into the work
  pub settles-set : (new : List Entry) (work more : List RowName) → SetsAt name own all old new → ((other : RowName) → Contains work other → Contains more other) → HasBelow db name more → Settles db name old new work more
  settles-set new work more sets longer below =
      record { right = by; others = apart; longer = longer; below = λ which. inr below }
    where
      itself : is_eq (name_cmp name name) ≡ true
      itself = name_tied name name refl

      by : (which : Which) → IsRightAbove db which old name → held which new name ≡ map as_subject (listed which db name)
      by Owners above = sets.owners_are name ∙ (ap (λ b. cond b own (owners_of old name)) itself ∙ right.owners above)
      by Reach above = sets.reach_is name ∙ (ap (λ b. cond b all (reach_of old name)) itself ∙ right.reach above)

      apart : (which : Which) (other : RowName) → is_eq (name_cmp name other) ≡ false → held which new other ≡ held which old other
      apart Owners other not = sets.owners_are other ∙ ap (λ b. cond b own (owners_of old other)) not
      apart Reach other not = sets.reach_is other ∙ ap (λ b. cond b all (reach_of old other)) not

-- the rows below a row are those that edges join to it
pub below-added : (db : Db) (name : RowName) (work more : List RowName) → Adds (ForSome (λ edge lower. Joins db lower edge name) db.schema.edges) work more → HasBelow db name more
below-added db name work more adds lower edge joined other = adds.has lower (edge, (joined.among, joined))

-- no row is below one of a table of subjects that isn't a subject row
pub below-subject : (db : Db) (name : RowName) (names : List RowName) → is_subject db.schema name.table.0 ≡ true → HasBelow db name names
below-subject db name names subject lower edge joined other =
    let never : true ≡ false = sym (subject_row-there db name joined.upper_there ∙ subject) ∙ other in cc
