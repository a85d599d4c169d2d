-- A CREATE by its text, where it is admitted, leaves a database that is well-formed, and of a table no fault.
use Rattle.std.proofs.Common.{◌≡◌, ℕ, ◌≤◌, length, true, inl, inr, refl, subst, sym, ap, ◌∙◌, arith}
use Rattle.std.specs.Prelude.{Contains, IsSome, IsTrue, Option, None, Some, is_some, slice_get}
use Rattle.std.specs.Option.{option_and_then}
use Rattle.std.proofs.lemmas.List.Elements.{Contains-append_cases}
use Rattle.own_base.specs.declared.number.TableNo.{TableNo}
use Rattle.own_base.specs.declared.row_name.RowName.{RowName}
use Rattle.own_base.specs.declared.value.Value.{Value}
use Rattle.own_model.specs.declared.create.CreateTable.{CreateTable}
use Rattle.own_model.specs.declared.limit.TheConstants.{STORE_ROWS, STORE_WEIGHT}
use Rattle.own_model.specs.declared.schema.Column.{Column}
use Rattle.own_model.specs.declared.schema.CreateText.{CreateText}
use Rattle.own_model.specs.declared.schema.Edge.{Edge}
use Rattle.own_model.specs.Db.{Db, Row}
use Rattle.own_model.specs.Stored.{holds_rows}
use Rattle.owner_model.specs.Joins.{row_of}
use Rattle.schema_model.specs.NewEdges.{new_edges}
use Rattle.schema_model.specs.NewTable.{new_table}
use Rattle.schema_model.specs.OwnerSchema.{IsOwnerSchema}
use Rattle.schema_model.specs.Refusal.{refusal_of}
use Rattle.schema_model.specs.WithTable.{with_table}
use Rattle.schema_model.proofs.OwnerSchemaLemmas.{owner_schema-with_table}
use Rattle.schema_model.proofs.OwnerTables.{old_table}
use Rattle.subject_model.proofs.SamePaths.{owns_of}
use Rattle.state_model.specs.Consistent.{HoldsIn, IsConsistent, IsOwned, NamesRow}
use Rattle.state_model.specs.Create.{create}
use Rattle.state_model.specs.Created.{Create, IsReadableCreate, OfTable}
use Rattle.state_model.specs.Sound.{IsWellFormed, Sound}
use Rattle.state_model.proofs.Consistency.{consistent_from_sound}
use Rattle.state_model.proofs.CreatedLemmas.{admitted-without_rows, created-append}
use Rattle.state_model.proofs.CreatedSchema.{owner_schema-created}
use Rattle.state_model.proofs.FaultlessRows.{sound-iff_consistent}
use Rattle.state_model.proofs.TableOwners.{no_new_owner}
use Rattle.state_model.proofs.TableRows.{is_there-create, joins-create, subject_row-create, there-below, value_at-create}
use Rattle.state_model.proofs.TableSound.{weighs-create}
use Rattle.state_model.proofs.TableWeight.{row_count-create}
use Rattle.state_model.proofs.WellFormedLemmas.{ordered-create, rows-append}
use Rattle.disk_model.specs.TextOf.{IsTextOf}

-- the grammar gives a CREATE for its text
pub readable-text : (create : Create) (text : CreateText) → IsTextOf create text → IsReadableCreate create
readable-text create text is =
    let few = is.few in
    let same = ap (λ (text : CreateText). length text.text) is.canonical in
    record {
      written = record { text = text.text; short = omega arith; utf8 = is.utf8; terminals = is.read.terminals; cut = is.read.cut; spells = is.read.answers.0 };
      short = omega arith;
    }

-- a table more
kept-table : (db : Db) (table : CreateTable) → IsWellFormed db → IsReadableCreate (OfTable table) → refusal_of db.schema (holds_rows db.rows) table ≡ None → IsWellFormed (create db table)
unfolding create with_table
kept-table db table was readable admitted = record {
  created = created-append db _ (OfTable table) was.created readable (admitted-without_rows db.schema _ table admitted) refl refl;
  ordered = ordered-create db table was.ordered;
  rows = rows-append db.schema.tables db.rows (new_table db.schema table) was.rows;
}

held_there : (found : Option Row) (number : ℕ) (value : Value) → option_and_then (λ row. slice_get row number) found ≡ Some value → is_some found ≡ true
held_there None number value is = let never : ◌≡◌ {A = Option Value} None (Some value) = is in let bad : ⊥ = cc in absurd bad
held_there (Some row) number value is = refl

module _ (db : Db) (table : CreateTable) (kept : IsWellFormed db) (none : refusal_of db.schema (holds_rows db.rows) table ≡ None) where
  abbrev after : Db
  after = create db table

  owner-create : IsOwnerSchema after.schema
  unfolding create
  owner-create = owner_schema-with_table db.schema (holds_rows db.rows) table (owner_schema-created db kept.created) none

  -- what a row holds it held
  held-before : (name : RowName) (number : ℕ) (column : Column) (value : Value) → HoldsIn after name number column value → HoldsIn db name number column value
  unfolding create with_table
  held-before name number column value holds =
      let held = sym (value_at-create db table kept.ordered name number) ∙ holds.holds in
      let below = there-below db name (held_there (row_of db name) number value held) in
      record { table = holds.table; table_is = sym (old_table db.schema table name.table.0 below) ∙ holds.table_is; column_is = holds.column_is; holds = held }

  -- a key that named a row names one
  names-after : (of : TableNo) (value : Value) → NamesRow db of value → NamesRow after of value
  names-after of value names =
      record { key = names.key; is = names.is; there = is_there-create db table kept.ordered (record { table = of; key = names.key }) ∙ names.there }

  -- who owned a row owns it
  owned-after : (name : RowName) → IsOwned db name → IsOwned after name
  owned-after name owned = record {
    subject = owned.subject;
    owns = owns_of db after (subject_row-create db table kept.ordered) (joins-create db table kept.ordered) owned.subject name owned.owns;
  }

  module _ (consistent : IsConsistent db) where
    owned-create : (name : RowName) (edge : Edge) → IsSome (row_of after name) → Contains after.schema.edges edge → IsTrue edge.owner → edge.lower ≡ name.table → IsOwned after name
    unfolding create with_table
    owned-create name edge is among owner lower =
        let there = sym (is_there-create db table kept.ordered name) ∙ is in
        elim (Contains-append_cases db.schema.edges (new_edges db.schema table) edge among) [
          | inl old ↦ owned-after name (consistent.owned name edge there old owner lower)
          | inr new ↦ absurd (no_new_owner db table none name there edge new owner lower)
        ]

    consistent-create : IsConsistent after
    consistent-create = record {
      owned = owned-create;
      references = λ name number column value link holds refers some.
          names-after link.1 value (consistent.references name number column value link (held-before name number column value holds) refers some);
      unique = λ one other number column value holds also.
          consistent.unique one other number column value (held-before one number column value holds) (held-before other number column value also);
      rows = subst (λ count. count ≤ STORE_ROWS) (sym (row_count-create db table)) consistent.rows;
      weighs = subst (λ weighs. weighs ≤ STORE_WEIGHT) (sym (weighs-create db table kept none)) consistent.weighs;
    }

-- nothing is wrong with what it leaves
pub sound-table : (db : Db) (table : CreateTable) (text : CreateText) → Sound db → IsTextOf (OfTable table) text → refusal_of db.schema (holds_rows db.rows) table ≡ None
    → Sound (create db table)
sound-table db table text sound is none =
    (sound-iff_consistent (create db table) (kept-table db table sound.well_formed (readable-text (OfTable table) text is) none)).1
    (consistent-create db table sound.well_formed none (consistent_from_sound db sound))
