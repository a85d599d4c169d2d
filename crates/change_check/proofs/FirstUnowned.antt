-- The least row without an owner is what is refused first.
use Rattle.std.proofs.Common.{◌≡◌, List, [], ◌∷◌, Bool, true, false, not, refl, ap, sym, ◌∙◌, subst}
use Rattle.std.specs.Prelude.{◌&&◌, Option, None, Some, is_some, if◌then◌else◌}
use Rattle.std.specs.declared.cmp.Ordering.TheVariants.{Less}
use Rattle.std.proofs.lemmas.Bool.{false_from_ne_true}
use Rattle.own_base.specs.declared.row_name.RowName.{RowName}
use Rattle.own_base.specs.declared.value.Key.{Key}
use Rattle.own_model.specs.declared.refusal.Refusal.{Refusal}
use Rattle.own_model.specs.declared.refusal.Refusal.TheVariants.{Owner}
use Rattle.own_model.specs.declared.schema.TableDef.{TableDef}
use Rattle.own_model.specs.Db.{Db, IsOrdered, Row}
use Rattle.own_model.specs.Stored.{rows_at}
use Rattle.owner_model.specs.Joins.{row_of}
use Rattle.schema_model.specs.Tables.{is_private}
use Rattle.subject_model.specs.NameOrder.{name_cmp}
use Rattle.subject_model.specs.Named.{is_there}
use Rattle.subject_model.specs.Owners.{has_owner}
use Rattle.subject_model.proofs.NamedLemmas.{table-there}
use Rattle.state_model.specs.Fault.{first_of, owner_faults, owner_rule}
use Rattle.state_model.proofs.Consistency.{stands}
use Rattle.state_model.proofs.FaultLemmas.{each_row}
use Rattle.change_check.specs.declared.cell_name.CellName.{CellName}
use Rattle.change_check.specs.CellOrder.{cell_at}
use Rattle.change_check.specs.Least.{IsLeast}
use Rattle.change_check.specs.Unowned.{is_of_unowned, is_unowned, owner_refusal}
use Rattle.change_check.proofs.CellOrderLemmas.{behind_before, row_before}
use Rattle.change_check.proofs.LeastRow.{first_at, first_at-none, first_in_row, found_key, none_in_rows}

-- what is refused of a row, by whether its table is private and whether it has an owner
abbrev refused : Bool → Bool → Refusal → List Refusal
refused private has fault = if private && not has then fault ∷ [] else []

owned_step : (private there has : Bool) (fault : Refusal) → there ≡ true → (private && (there && not has)) ≡ false → first_of (refused private has fault) ≡ None
owned_step true true true fault there is = refl
owned_step true true false fault there is = let never : true ≡ false = is in cc
owned_step true false has fault there is = let never : false ≡ true = there in cc
owned_step false there has fault is_there is = refl

unowned_step : (private there has : Bool) (fault : Refusal) → (private && (there && not has)) ≡ true → first_of (refused private has fault) ≡ Some fault
unowned_step true true true fault is = let never : false ≡ true = is in cc
unowned_step true true false fault is = refl
unowned_step true false has fault is = let never : false ≡ true = is in cc
unowned_step false there has fault is = let never : false ≡ true = is in cc

unrefused_step : (private has : Bool) (fault : Refusal) → private ≡ true → refused private has fault ≡ [] → has ≡ true
unrefused_step private true fault is none = refl
unrefused_step true false fault is none = let never : ◌≡◌ (fault ∷ []) [] = none in cc
unrefused_step false false fault is none = let never : false ≡ true = is in cc

there-row : (db : Db) (name : RowName) → is_there db name ≡ true → (row : Row) × (row_of db name ≡ Some row)
there-row db name there = by (row_of db name) refl there
  where
    by : (o : Option Row) → row_of db name ≡ o → is_some o ≡ true → (row : Row) × (row_of db name ≡ Some row)
    by None is some = let never : false ≡ true = some in cc
    by (Some row) is some = (row, is)

module _ (db : Db) where
  -- what the rule finds in a row that is found by its name
  abbrev refused_at : RowName → TableDef → Key → List Refusal
  refused_at name table key = refused (is_private db.schema name.table.0) (has_owner db (record { table = name.table; key = key })) (Owner table.name key)

  -- it finds nothing in the row of a name unless that is without an owner
  owned_at : (name : RowName) → is_unowned db name ≡ false → first_at (owner_rule db) db name ≡ None
  owned_at name owned =
      first_at-none (owner_rule db) db name (λ table row table_is row_is.
      subst (λ key. first_of (refused_at name table key) ≡ None) (sym (found_key db name table row table_is row_is))
      (owned_step (is_private db.schema name.table.0) (is_there db name) (has_owner db name) (Owner table.name name.key) (ap is_some row_is) owned))

  -- where it finds nothing at all, each row of a private table has an owner
  pub none_unowned : owner_faults db ≡ [] → (name : RowName) → is_private db.schema name.table.0 ≡ true → is_there db name ≡ true → has_owner db name ≡ true
  unfolding owner_faults
  none_unowned none name private there =
      let (row, row_is) = there-row db name there in
      let (table, stand) = stands db name row row_is in
      let passes = each_row (owner_rule db) db none name.table.0 table stand.rows row stand.table_is stand.rows_are stand.among in
      unrefused_step (is_private db.schema name.table.0) (has_owner db name) (Owner table.name name.key) private (subst (λ key. refused_at name table key ≡ []) stand.key_is passes)

  module _ (ordered : IsOrdered db) where
    -- where a row is, and none before it, that is the first
    first_found : (cell : CellName) → is_of_unowned db cell ≡ true → ((other : RowName) → name_cmp other cell.row ≡ Less → is_unowned db other ≡ false)
        → first_of (owner_faults db) ≡ owner_refusal db.schema (Some cell)
    unfolding owner_faults
    first_found cell is before =
        let name = cell.row in
        let there : is_there db name ≡ true = is_there_of (is_private db.schema name.table.0) (is_there db name) (has_owner db name) is in
        let (row, row_is) = there-row db name there in
        let (table, table_is) = table-there db name there in
        let found : first_of (owner_rule db name.table.0 table (rows_at db.rows name.table.0) row) ≡ Some (Owner table.name name.key) =
        subst (λ key. first_of (refused_at name table key) ≡ Some (Owner table.name name.key)) (sym (found_key db name table row table_is row_is))
        (unowned_step (is_private db.schema name.table.0) (is_there db name) (has_owner db name) (Owner table.name name.key) is) in
        first_in_row (owner_rule db) db ordered name table row (Owner table.name name.key) table_is row_is found (λ other less. owned_at other (before other less))
        ∙ sym (rw table_is refl)
      where
        is_there_of : (private there has : Bool) → (private && (there && not has)) ≡ true → there ≡ true
        is_there_of private true has is = refl
        is_there_of true false has is = is
        is_there_of false false has is = is

    -- The first of these faults is what is refused at the least cell of a row without an owner.
    pub first_of_unowned : (least : Option CellName) → IsLeast (is_of_unowned db) least → first_of (owner_faults db) ≡ owner_refusal db.schema least
    unfolding owner_faults
    first_of_unowned None is =
        none_in_rows (owner_rule db) db ordered (λ name. owned_at name (false_from_ne_true _ (λ unowned.
        let never : false ≡ true = is.reached (cell_at name.table.0 0 name.key) unowned in cc)))
    first_of_unowned (Some cell) is =
        first_found cell is.own (λ other less. false_from_ne_true _ (λ unowned.
        let own = cell_at other.table.0 0 other.key in
        let behind = behind_before own cell (row_before own cell less) in
        let never : false ≡ true = sym (ap not behind) ∙ is.reached own unowned in cc))
