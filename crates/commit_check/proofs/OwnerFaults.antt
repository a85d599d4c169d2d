-- Rows of private tables, and whether they have owners.
use Rattle.std.proofs.Common.{◌≡◌, ℕ, ◌<◌, List, [], ◌∷◌, Bool, true, false, length, refl, arith}
use Rattle.std.specs.Prelude.{None, Some, ◌&&◌, flat_map, if◌then◌else◌, not}
use Rattle.own_base.specs.declared.row_name.RowName.{RowName}
use Rattle.own_model.specs.declared.refusal.Refusal.{Refusal}
use Rattle.own_model.specs.declared.refusal.Refusal.TheVariants.{Owner}
use Rattle.own_model.specs.declared.schema.TableDef.{TableDef}
use Rattle.own_model.specs.Db.{Db, IsOrdered, Row, key_of}
use Rattle.schema_model.specs.OwnerSchema.{IsOwnerSchema}
use Rattle.schema_model.specs.Tables.{is_private}
use Rattle.subject_model.specs.Named.{name_of}
use Rattle.subject_model.specs.Owners.{has_owner, owners}
use Rattle.state_model.specs.Fault.{first_of, owner_rule}
use Rattle.state_model.proofs.OwnerCounts.{no-owners, some-owners}

refused : Bool → Bool → Refusal → List Refusal
refused private has fault = if private && not has then fault ∷ [] else []

owned_step : (private has : Bool) (fault : Refusal) → has ≡ true → first_of (refused private has fault) ≡ None
unfolding refused
owned_step true true fault is = refl
owned_step false true fault is = refl
owned_step private false fault is = let never : false ≡ true = is in cc

unowned_step : (private has : Bool) (fault : Refusal) → private ≡ true → has ≡ false → first_of (refused private has fault) ≡ Some fault
unfolding refused
unowned_step private has fault is none = rw (is, none) refl

public_step : (private has : Bool) (fault : Refusal) → private ≡ false → refused private has fault ≡ []
unfolding refused
public_step private has fault is = rw is refl

-- where some own it, it has an owner, and where none does, it has none
has-owners : (db : Db) (name : RowName) (has : Bool) → has_owner db name ≡ has → 0 < length (owners db name) → has ≡ true
has-owners db name true is some = refl
has-owners db name false is some = let none = no-owners db name is in absurd (omega arith)

has-none : (db : Db) (name : RowName) (has : Bool) → IsOrdered db → IsOwnerSchema db.schema → has_owner db name ≡ has → length (owners db name) ≡ 0 → has ≡ false
has-none db name true ordered owner is none = let some = some-owners db name ordered owner is in absurd (omega arith)
has-none db name false ordered owner is none = refl

module _ (db : Db) (number : ℕ) (table : TableDef) (rows : List Row) where
  pub owned-none : (row : Row) → 0 < length (owners db (name_of number table row)) → first_of (owner_rule db number table rows row) ≡ None
  unfolding refused
  owned-none row some =
      owned_step (is_private db.schema number) _ (Owner table.name (key_of table row)) (has-owners db (name_of number table row) _ refl some)

  pub unowned-some : (row : Row) → IsOrdered db → IsOwnerSchema db.schema → is_private db.schema number ≡ true → length (owners db (name_of number table row)) ≡ 0
      → first_of (owner_rule db number table rows row) ≡ Some (Owner table.name (key_of table row))
  unfolding refused
  unowned-some row ordered owner private none =
      unowned_step (is_private db.schema number) _ (Owner table.name (key_of table row)) private (has-none db (name_of number table row) _ ordered owner refl none)

  -- no row of a table that isn't private is at fault
  public_from : is_private db.schema number ≡ false → (left : List Row) → flat_map (owner_rule db number table rows) left ≡ []
  unfolding refused
  public_from public [] = refl
  public_from public (row ∷ left) =
      rw (public_step (is_private db.schema number) (has_owner db (name_of number table row)) (Owner table.name (key_of table row)) public) (public_from public left)

  pub public-none : is_private db.schema number ≡ false → first_of (flat_map (owner_rule db number table rows) rows) ≡ None
  public-none public = rw (public_from public rows) refl
