use Rattle.std.proofs.Common.{◌<◌, ap, subst, ◌∙◌, length, take, get_or, ◌&&◌, ◌||◌}
use Rattle.std.specs.Prelude.{◌==◌}
use Rattle.owner_model.specs.ColumnSets.{set_of}
use Rattle.schema_draft.proofs.RuledSets.{has_one_of, set_of-nothing, set_of-push}
use Rattle.schema_draft.proofs.ruled.columns_named.Goals as goal

pub loop-number-init : goal.loop-number-init
loop-number-init c = set_of-nothing c.args.names.now

pub loop-number-preserved : goal.loop-number-preserved
loop-number-preserved c =
    let names = c.args.names.now in
    let columns = c.args.table.now.columns in
    let number = c.loop-number.number in
    let column = c.column-item.result in
    let same = c.items-column-items.ensures in
    let within : number < length columns = subst (λ columns. number < length columns) same c.loop-number-test.true in
    c.with_column-set.ensures (has_one_of names (take number columns)) c.loop-number.invariant
    ∙ ap (λ wanted. set_of (λ other. has_one_of names (take number columns) other || (wanted && other == number))) c.is_among.ensures
    ∙ set_of-push names columns number column within (c.column-item.is ∙ ap (λ columns. get_or columns number column) same)
