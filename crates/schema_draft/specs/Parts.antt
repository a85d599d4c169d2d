-- A CREATE TABLE taken apart.
use Rattle.std.specs.Prelude.{◌≡◌, List, ℕ, map}
use Rattle.std.specs.Borrow.{Bor}
use Rattle.own_model.specs.declared.create.ColumnDef.{ColumnDef}
use Rattle.own_model.specs.declared.create.CreateTable.{CreateTable}
use Rattle.schema_draft.specs.declared.draft.OnRule.{OnRule}
use Rattle.schema_draft.specs.declared.draft.Reference.{Reference}
use Rattle.schema_draft.specs.Lent.{reference_seen, rule_seen}
use Rattle.schema_model.specs.Columns.{columns_of, key_columns}
use Rattle.schema_model.specs.OnRules.{rules_of}
use Rattle.schema_model.specs.References.{references_of}

-- its parts by what they are, lent, in the text's order
pub record IsTakenApart (create : CreateTable) (columns : List (Bor ColumnDef)) (keys : List (Bor (List ℕ))) (references : List Reference) (rules : List OnRule) : Type 0 where
  pub columns_are : map (λ column. column.now) columns ≡ columns_of create
  pub keys_are : map (λ key. key.now) keys ≡ key_columns create
  pub references_are : map reference_seen references ≡ references_of create
  pub rules_are : map rule_seen rules ≡ rules_of create
