-- A row weighs no more after a FORGET, and so do all.
use Rattle.std.proofs.Common.{◌≡◌, ◌≤◌, length, Bool, true, false, refl, arith}
use Rattle.std.specs.Prelude.{Contains, Option, Some, None, slice_get, sum_by}
use Rattle.std.specs.Option.{option_map_or}
use Rattle.own_base.specs.Row.{row_size}
use Rattle.own_base.specs.declared.row_name.RowName.{RowName}
use Rattle.own_model.specs.declared.schema.TableDef.{TableDef}
use Rattle.own_model.specs.Db.{Db, IsOrdered}
use Rattle.schema_model.specs.OwnerSchema.{IsOwnerSchema}
use Rattle.subject_model.specs.Forget.{forget, left_of}
use Rattle.subject_model.specs.Named.{NamedRow, is_there, named_rows}
use Rattle.subject_model.specs.Owners.{Owns, Reaches, has_owner, owners, owns, reaches}
use Rattle.subject_model.specs.Stays.{stays}
use Rattle.subject_model.proofs.ForgetJoins.{path_before, was_subject}
use Rattle.subject_model.proofs.ForgetOrder.{ordered-forget}
use Rattle.subject_model.proofs.Members.{all_from_contained}
use Rattle.subject_model.proofs.NamedLemmas.{there-named}
use Rattle.subject_model.proofs.OwnerLemmas.{from_owns, from_reaches, owns_from, reaches_from}
use Rattle.state_model.specs.Weight.{row_weight, seers}
use Rattle.state_model.proofs.Counts.{less-images}
use Rattle.state_model.proofs.ForgetCounts.{fewer-owners, fewer-reach}
use Rattle.state_model.proofs.ForgetNamed.{named_left, named_rows-forget, stays_named, values_left}
use Rattle.state_model.proofs.ForgetSizes.{size-at_least, size-left_of, weighs-less}
use Rattle.state_model.proofs.OwnerCounts.{no-owners, some-owners}

-- each row that stays and has an owner has one after a FORGET
abbrev pub OwnersStay : Db → RowName → Type 0
OwnersStay db subject = (name : RowName) → is_there db name ≡ true → stays db subject name ≡ true → has_owner db name ≡ true → has_owner (forget db subject) name ≡ true

module _ (db : Db) (subject : RowName) (ordered : IsOrdered db) (owner : IsOwnerSchema db.schema) where
  abbrev left : Db
  left = forget db subject

  -- who owns a row after it owned it before
  owned-before : (other name : RowName) → owns left other name ≡ true → owns db other name ≡ true
  owned-before other name is =
      let now = owns_from left other name is in
      let before : Owns db other name = record { path = now.path; leads = path_before db subject owner name now.path other now.leads; owner = now.owner } in
      from_owns db other name ordered owner before

  -- and who reaches it reached it
  reached-before : (other name : RowName) → reaches left other name ≡ true → reaches db other name ≡ true
  reached-before other name is =
      let now = reaches_from left other name is in
      let before : Reaches db other name = record { path = now.path; leads = path_before db subject owner name now.path other now.leads } in
      from_reaches db other name ordered owner before

  size-left : (named : NamedRow) (found : Option TableDef) → row_size (option_map_or (λ table. left_of db subject table named) found named.row) ≤ row_size named.row
  size-left named None = omega arith
  size-left named (Some table) = size-left_of db subject table named

  owner_schema-left : IsOwnerSchema left.schema
  unfolding forget
  owner_schema-left = owner

  module _ (owned : OwnersStay db subject) where
    none_step : (name : RowName) → is_there db name ≡ true → stays db subject name ≡ true → length (owners left name) ≡ 0
        → (has : Bool) → has_owner db name ≡ has → length (owners db name) ≡ 0
    none_step name there stay none true has =
        let some = some-owners left name (ordered-forget db subject owner ordered) owner_schema-left (owned name there stay has) in
        absurd (omega arith)
    none_step name there stay none false has = no-owners db name has

    -- a row that stays
    weight-left : (named : NamedRow) → Contains (named_rows db) named → stays db subject named.name ≡ true → row_weight left (named_left db subject named) ≤ row_weight db named
    weight-left named among stay =
        weighs-less (row_size (values_left db subject named)) (row_size named.row) (length (owners left named.name)) (length (owners db named.name))
        (seers left named.name) (seers db named.name) (size-at_least (values_left db subject named)) (size-left named (slice_get db.schema.tables named.name.table.0))
        (fewer-owners db subject owner (was_subject db subject owner) owned-before named.name)
        (fewer-reach db subject owner (was_subject db subject owner) reached-before named.name)
        (λ none. none_step named.name (there-named db named ordered among) stay none _ refl)

    -- all rows
    pub rows-lighter : sum_by (row_weight left) (named_rows left) ≤ sum_by (row_weight db) (named_rows db)
    rows-lighter =
        less-images (row_weight left) (row_weight db) (named_left db subject) (stays_named db subject) (named_rows db) (named_rows left) (named_rows-forget db subject owner)
        (all_from_contained _ (named_rows db) weight-left)
