-- A view that comes adds to the weight what it shows, and nothing else can be wrong with what it leaves.
use Rattle.std.proofs.Common.{◌≡◌, ◌+◌, [], ◌∷◌, ◌++◌, Bool, true, false, refl, ◌∙◌, arith}
use Rattle.std.specs.Prelude.{◌&&◌, None, Some, nat_lt, not, sum_by, if◌then◌else◌}
use Rattle.std.proofs.lemmas.List.Sums.{sum_by_push}
use Rattle.own_base.specs.declared.row_name.RowName.{RowName}
use Rattle.own_model.specs.declared.bound.Source1.{Source1}
use Rattle.own_model.specs.declared.bound.Source1.TheVariants.{Table, View, Pair}
use Rattle.own_model.specs.declared.create.CreateView.{CreateView}
use Rattle.own_model.specs.declared.limit.LimitName.TheVariants as limit
use Rattle.own_model.specs.declared.limit.TheConstants.{STORE_ROWS, STORE_WEIGHT}
use Rattle.own_model.specs.declared.refusal.Refusal.{Refusal}
use Rattle.own_model.specs.declared.refusal.Refusal.TheVariants.{Limit, Owner}
use Rattle.own_model.specs.declared.schema.Edge.{Edge}
use Rattle.own_model.specs.declared.schema.ViewDef.{ViewDef}
use Rattle.own_model.specs.Db.{Db, key_of}
use Rattle.own_model.specs.Stored.{row_named}
use Rattle.owner_model.specs.Joins.{Joins}
use Rattle.query_model.specs.BoundView.{new_view}
use Rattle.schema_model.specs.OwnerSchema.{IsOwnerSchema}
use Rattle.schema_model.specs.Tables.{is_private}
use Rattle.schema_model.proofs.Places.{append-none}
use Rattle.subject_model.specs.Named.{name_of}
use Rattle.subject_model.specs.Paths.{is_subject_row}
use Rattle.subject_model.proofs.SamePaths.{AreAlike, has_owner-alike}
use Rattle.state_model.specs.Create.{create_view, with_view}
use Rattle.state_model.specs.Fault.{fault, first_of, over_rows, owner_faults, reference_faults, unique_faults}
use Rattle.state_model.specs.Sound.{IsWellFormed, Sound}
use Rattle.state_model.specs.Weight.{row_count, view_weight, weight}
use Rattle.state_model.proofs.CreatedSchema.{owner_schema-created, owner_schema-with_view}
use Rattle.state_model.proofs.Faultless.{faultless-from}
use Rattle.state_model.proofs.TableWeight.{rows-alike}
use Rattle.state_model.proofs.WellFormedLemmas.{ordered-create_view}
use Rattle.query_model.proofs.NoFaults.{none-if}

module _ (db : Db) (view : CreateView) where
  abbrev after : Db
  after = create_view db view

  joins-before : (lower : RowName) (edge : Edge) (upper : RowName) → Joins after lower edge upper → Joins db lower edge upper
  unfolding create_view with_view row_named
  joins-before lower edge upper is =
      record { among = is.among; of_lower = is.of_lower; of_upper = is.of_upper; lower_there = is.lower_there; upper_there = is.upper_there; names = is.names }

  joins-after : (lower : RowName) (edge : Edge) (upper : RowName) → Joins db lower edge upper → Joins after lower edge upper
  unfolding create_view with_view row_named
  joins-after lower edge upper is =
      record { among = is.among; of_lower = is.of_lower; of_upper = is.of_upper; lower_there = is.lower_there; upper_there = is.upper_there; names = is.names }

  subject-same : (name : RowName) → is_subject_row after name ≡ is_subject_row db name
  unfolding create_view with_view row_named is_subject_row
  subject-same name = refl

  alike-create_view : AreAlike db after
  unfolding create_view with_view
  alike-create_view = record { named = refl; subject = subject-same; joins = joins-after; joined = joins-before }

  owner-create_view : IsOwnerSchema db.schema → IsOwnerSchema after.schema
  unfolding create_view
  owner-create_view owner = owner_schema-with_view db.schema view owner

  view_step : (shown : ViewDef) (source : Source1) → shown.query.source ≡ source → view_weight after shown ≡ view_weight db shown
  unfolding create_view
  view_step shown (Table number) is = rw is refl
  view_step shown (Pair left right left_column right_column) is = rw is refl
  view_step shown (View of) is = rw is refl

  views-create_view : sum_by (view_weight after) after.schema.views ≡ sum_by (view_weight db) db.schema.views + view_weight db (new_view db.schema view)
  unfolding create_view with_view
  views-create_view =
      let new = new_view db.schema view in
      let same : sum_by (view_weight after) (db.schema.views ++ new ∷ []) ≡ sum_by (view_weight db) (db.schema.views ++ new ∷ []) =
      λ i. sum_by (λ shown. view_step shown shown.query.source refl i) (db.schema.views ++ new ∷ []) in
      same ∙ sum_by_push (view_weight db) db.schema.views new

  module _ (kept : IsWellFormed db) where
    owner : IsOwnerSchema db.schema
    owner = owner_schema-created db kept.created

    -- the database weighs what it weighed and what the view shows
    pub weight-create_view : weight after ≡ weight db + view_weight db (new_view db.schema view)
    unfolding weight
    weight-create_view =
        let rows = rows-alike db after alike-create_view kept.ordered (ordered-create_view db view kept.ordered) owner (owner-create_view owner) in
        let views = views-create_view in
        omega arith

    unique-create_view : unique_faults after ≡ unique_faults db
    unfolding unique_faults create_view with_view
    unique-create_view = refl

    reference-create_view : reference_faults after ≡ reference_faults db
    unfolding reference_faults create_view with_view row_named
    reference-create_view = refl

    owner_faults-create_view : owner_faults after ≡ owner_faults db
    unfolding owner_faults create_view with_view
    owner_faults-create_view = λ i. over_rows
        (λ number table rows row. if is_private db.schema number && not (has_owner-alike db after alike-create_view kept.ordered (ordered-create_view db view kept.ordered) owner (owner-create_view owner)
        (name_of number table row) i) then Owner table.name (key_of table row) ∷ [] else []) 0 db.schema.tables db.rows

only_limit : (test : Bool) (why : Refusal) → first_of (if test then why ∷ [] else []) ≡ (if test then Some why else None)
only_limit true why = refl
only_limit false why = refl

-- it has the rows that it had
few : (db : Db) (view : CreateView) → nat_lt STORE_ROWS (row_count db) ≡ false → nat_lt STORE_ROWS (row_count (create_view db view)) ≡ false
unfolding create_view
few db view none = none

-- the only fault that there may be is that it weighs too much
pub fault-create_view : (db : Db) (view : CreateView) → Sound db
    → fault (create_view db view) ≡ (if nat_lt STORE_WEIGHT (weight db + view_weight db (new_view db.schema view)) then Some (Limit limit.Weight) else None)
unfolding fault
fault-create_view db view sound =
    let before = faultless-from db sound.faultless in
    let unique = unique-create_view db view sound.well_formed ∙ before.unique in
    let reference = reference-create_view db view sound.well_formed ∙ before.reference in
    let owners = owner_faults-create_view db view sound.well_formed ∙ before.owner in
    let limits = append-none _ _ before.limit in
    let rows : nat_lt STORE_ROWS (row_count (create_view db view)) ≡ false = few db view (none-if _ _ limits.0) in
    rw (unique, reference, owners, rows, weight-create_view db view sound.well_formed) (only_limit _ _)
