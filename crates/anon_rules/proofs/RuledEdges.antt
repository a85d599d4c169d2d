-- What one edge adds to the columns that the edges of a number rule.
use Rattle.std.proofs.Common.{◌≡◌, ◌<◌, ◌^◌, true, false, sym, ap, ◌∙◌}
use Rattle.std.specs.Prelude.{◌==◌, ◌&&◌}
use Rattle.own_base.specs.declared.number.ColumnSet.{ColumnSet}
use Rattle.own_base.specs.declared.number.EdgeNo.{EdgeNo}
use Rattle.own_model.specs.declared.schema.Edge.{Edge}
use Rattle.owner_model.specs.ColumnSets.{has_column, set_of}
use Rattle.owner_model.proofs.ColumnSetLemmas.{set_of-from_columns, set_of-same}
use Rattle.anon_rules.specs.declared.Rule.{Rule}
use Rattle.anon_rules.specs.Ruled.{ruled, rules_column}

-- an edge of the number gives the columns that it rules
pub ruled-at : (rule : Rule) (number : EdgeNo) (edge : Edge) (columns : ColumnSet) → columns.0 < 2 ^ 32 → columns ≡ ruled rule edge → (edge.number.0 == number.0) ≡ true → columns ≡ set_of (rules_column rule number edge)
ruled-at rule number edge columns small is same =
    set_of-from_columns columns (rules_column rule number edge) small (λ column _.
    ap (λ set. has_column set column) is ∙ ap (λ here. here && has_column (ruled rule edge) column) (sym same))

-- any other gives none
pub ruled-elsewhere : (rule : Rule) (number : EdgeNo) (edge : Edge) → (edge.number.0 == number.0) ≡ false → set_of (λ _. false) ≡ set_of (rules_column rule number edge)
ruled-elsewhere rule number edge differs =
    set_of-same (λ _. false) (rules_column rule number edge) (λ column _. ap (λ here. here && has_column (ruled rule edge) column) (sym differs))
