-- Where a table that comes is admitted, each row of a table that its edges make private is owned: there is none.
use Rattle.std.proofs.Common.{◌≡◌, ℕ, List, [], ◌∷◌, length, Bool, true, false, inl, inr, refl, ap, subst, sym, ◌∙◌, arith}
use Rattle.std.specs.Prelude.{◌⊎◌, ◌&&◌, ◌==◌, Contains, Option, None, Some, find, is_some, not, slice_get}
use Rattle.std.specs.Option.{option_and_then, option_or}
use Rattle.std.proofs.lemmas.Bool.{and_from, ne_eqb}
use Rattle.own_base.specs.declared.row_name.RowName.{RowName}
use Rattle.own_model.specs.declared.create.CreateTable.{CreateTable}
use Rattle.own_model.specs.declared.schema.Edge.{Edge}
use Rattle.own_model.specs.declared.schema.RefKind.{RefKind}
use Rattle.own_model.specs.declared.schema.RefKind.TheVariants.{Plain, OwnedBy, Owns, AccessedBy, Accesses}
use Rattle.own_model.specs.declared.schema.Schema.{Schema}
use Rattle.own_model.specs.declared.schema.TableDef.{TableDef}
use Rattle.own_model.specs.Db.{Db, Row}
use Rattle.own_model.specs.Stored.{has_key, holds_rows, row_named, rows_at}
use Rattle.schema_model.specs.Kinds.{gives_ownership, is_owns, is_upward}
use Rattle.schema_model.specs.NewEdges.{new_edges}
use Rattle.schema_model.specs.References.{Reference, references_of}
use Rattle.schema_model.specs.Refusal.{broken, closed, first_broken, owned_rows, past_limits, refusal_of, taken}
use Rattle.schema_model.specs.Tables.{number_of}
use Rattle.schema_model.proofs.Admitted.{admitted, map_none}
use Rattle.schema_model.proofs.Found.{find-none}
use Rattle.schema_model.proofs.NewEdgeLemmas.{IsNewEdge, lower_down, lower_up, new_edge-made, new_owner}
use Rattle.schema_model.proofs.Places.{IsIn, all-at}
use Rattle.schema_model.proofs.RuledLemmas.{kind_of_edge, reference_of_edge, target_of_edge}
use Rattle.subject_model.specs.Named.{is_there}
use Rattle.state_model.proofs.TableRows.{in_contained, there-below}

-- two options give nothing where neither does
pub or_none : {T : Type 0} (one other : Option T) → option_or one other ≡ None → (one ≡ None) × (other ≡ None)
or_none None other none = (refl, none)
or_none (Some why) other none = let never : ⊥ = cc in absurd never

-- no table that an OWNS column names holds a row
unowned : (schema : Schema) (holds : ℕ → Bool) (create : CreateTable) → refusal_of schema holds create ≡ None → owned_rows schema holds create ≡ None
unfolding refusal_of
unowned schema holds create none =
    let untaken = or_none (taken schema create) _ none in
    let rules = or_none (first_broken 1 (broken schema create)) _ untaken.1 in
    let walks = or_none (closed schema create) _ rules.1 in
    (or_none (owned_rows schema holds create) (past_limits schema create) walks.1).0

names_none : (schema : Schema) (holds : ℕ → Bool) (create : CreateTable) (reference : Reference) → refusal_of schema holds create ≡ None → IsIn (references_of create) reference
    → (is_owns reference.refers.kind && holds (number_of schema reference.refers.table)) ≡ false
names_none schema holds create reference none among =
    let names : Reference → Bool = λ reference. is_owns reference.refers.kind && holds (number_of schema reference.refers.table) in
    let found = map_none _ (find names (references_of create)) (unowned schema holds create none) in
    all-at (λ reference. names reference ≡ false) (references_of create) (find-none names (references_of create) found) among.0 reference among.1

-- a table with a row that is there holds rows
some_held : (rows : List Row) (test : Row → Bool) → is_some (find test rows) ≡ true → not (length rows == 0) ≡ true
some_held [] test there = let never : false ≡ true = there in cc
some_held (row ∷ rows) test there = ap not (ne_eqb (length (row ∷ rows)) 0 (λ none. absurd (omega arith)))

held_case : (rows : List Row) (key_test : TableDef → Row → Bool) (found : Option TableDef) → is_some (option_and_then (λ table. find (key_test table) rows) found) ≡ true
    → not (length rows == 0) ≡ true
held_case rows key_test None there = let never : false ≡ true = there in cc
held_case rows key_test (Some table) there = some_held rows (key_test table) there

there-holds : (db : Db) (name : RowName) → is_there db name ≡ true → holds_rows db.rows name.table.0 ≡ true
unfolding row_named
there-holds db name there = held_case (rows_at db.rows name.table.0) (λ table. has_key table name.key) (slice_get db.schema.tables name.table.0) there

-- OWNED_BY and OWNS alone give ownership
ownership_case : (kind : RefKind) → gives_ownership kind ≡ true → (kind ≡ OwnedBy) ⊎ (kind ≡ Owns)
ownership_case Plain gives = let never : ⊥ = cc in absurd never
ownership_case OwnedBy gives = inl refl
ownership_case Owns gives = inr refl
ownership_case AccessedBy gives = let never : ⊥ = cc in absurd never
ownership_case Accesses gives = let never : ⊥ = cc in absurd never

module _ (db : Db) (table : CreateTable) (none : refusal_of db.schema (holds_rows db.rows) table ≡ None) (name : RowName) (there : is_there db name ≡ true) where
  module _ (edge : Edge) (by : IsNewEdge db.schema table edge) (lower : edge.lower ≡ name.table) where
    -- an OWNED_BY edge goes out of the new table, which has no row
    out_case : by.from.kind ≡ OwnedBy → ⊥
    out_case kind =
        let at = ap (λ table. table.0) (sym lower ∙ lower_up db.schema table edge by (ap is_upward kind)) in
        let below = there-below db name there in
        absurd (omega arith)

    -- and an OWNS edge out of one that holds no rows
    held_none : by.from.kind ≡ Owns → ⊥
    held_none kind =
        let may = admitted db.schema (holds_rows db.rows) table none in
        let refers = reference_of_edge db.schema table may edge by in
        let own : refers.reference.refers.kind ≡ Owns = sym (kind_of_edge db.schema table may edge by) ∙ kind in
        let number : name.table.0 ≡ number_of db.schema refers.reference.refers.table =
        ap (λ table. table.0) (sym lower ∙ lower_down db.schema table edge by (ap is_upward kind)) ∙ target_of_edge db.schema table may edge by in
        let fails = names_none db.schema (holds_rows db.rows) table refers.reference none refers.among in
        let holds : holds_rows db.rows (number_of db.schema refers.reference.refers.table) ≡ true = subst (λ n. holds_rows db.rows n ≡ true) number (there-holds db name there) in
        let both = and_from (is_owns refers.reference.refers.kind) _ (ap is_owns own) holds in
        let never : ⊥ = cc in never

    no_new : edge.owner ≡ true → ⊥
    no_new owns = either (ownership_case by.from.kind (sym (new_owner db.schema table edge by) ∙ owns))
      where
        either : (by.from.kind ≡ OwnedBy) ⊎ (by.from.kind ≡ Owns) → ⊥
        either (inl kind) = out_case kind
        either (inr kind) = held_none kind

  -- no new owner edge goes out of the table of a row
  pub no_new_owner : (edge : Edge) → Contains (new_edges db.schema table) edge → edge.owner ≡ true → edge.lower ≡ name.table → ⊥
  no_new_owner edge among owns lower = no_new edge (new_edge-made db.schema table edge (in_contained (new_edges db.schema table) edge among)) lower owns
