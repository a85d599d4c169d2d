use Rattle.std.proofs.Common.{◌≡◌, [], ap, sym, ◌∙◌, map, true, false, take, arith}
use Rattle.std.specs.List.{slice_get}
use Rattle.std.proofs.lemmas.Simd.{map-map}
use Rattle.schema_model.specs.Columns.{is_named}
use Rattle.schema_model.specs.rules.RepeatedColumns.{repeated_after, repeated_columns}
use Rattle.schema_rules.proofs.Firsts.{none_of_all}
use Rattle.schema_rules.proofs.Repeats.{repeated, unrepeated}
use Rattle.schema_rules.proofs.columns.repeated_columns.Goals as goal

pub returns-then-is_named : goal.returns-then-is_named
unfolding repeated_columns
returns-then-is_named c =
    let columns = c.columns-columns.result.now in
    let known : is_named (map (λ column. column.now.name) (take c.loop-index.index columns)) c.index-columns-index.result.now.name ≡ true = grind arith in
    repeated (λ column. column.now.name) columns c.loop-index.index c.index-columns-index.result (omega arith) c.index-columns-index.is c.loop-index.invariant known
    ∙ ap (λ columns. slice_get (repeated_after [] columns) 0) (sym (map-map (λ column. column.name) (λ column. column.now) columns) ∙ ap (map (λ column. column.name)) c.columns-columns.ensures)

pub loop-index-preserved : goal.loop-index-preserved
loop-index-preserved c =
    let columns = c.columns-columns.result.now in
    let unknown : is_named (map (λ column. column.now.name) (take c.loop-index.index columns)) c.index-columns-index.result.now.name ≡ false = grind arith in
    unrepeated (λ column. column.now.name) columns c.loop-index.index c.index-columns-index.result (omega arith) c.index-columns-index.is c.loop-index.invariant unknown

pub returns : goal.returns
unfolding repeated_columns
returns c =
    let columns = c.columns-columns.result.now in
    none_of_all (λ items. repeated_after [] (map (λ column. column.now.name) items)) columns c.loop-index.index (omega arith) c.loop-index.invariant
    ∙ ap (λ columns. slice_get (repeated_after [] columns) 0) (sym (map-map (λ column. column.name) (λ column. column.now) columns) ∙ ap (map (λ column. column.name)) c.columns-columns.ensures)
