use Rattle.std.proofs.Common.{◌≡◌, false, refl, sym, ◌∙◌}
use Rattle.std.specs.Prelude.{Some, None, slice_get}
use Rattle.std.proofs.lemmas.Result.{IfOk-weaker}
use Rattle.owner_model.specs.ColumnSets.{has_column}
use Rattle.shelf_erase.proofs.losing.loses.Goals as goal

pub returns-then-has_column : goal.returns-then-has_column
returns-then-has_column c =
    let is : has_column c.args.ruled c.args.number ≡ _ = sym c.has_column.ensures ∙ c.if-has_column.true in
    rw is refl

pub returns-in-Some : goal.returns-in-Some
returns-in-Some c =
    let is : slice_get c.args.definition.now.columns c.args.number ≡ Some c.in-Some.column.now = sym c.in-Some.ensures in
    let free : has_column c.args.ruled c.args.number ≡ false = sym c.has_column.ensures ∙ c.if-has_column.false in
    IfOk-weaker c.dangles.result _ _ (λ dangles same. rw (free, is) same) c.dangles.ensures

pub returns-in-None : goal.returns-in-None
returns-in-None c =
    let is : slice_get c.args.definition.now.columns c.args.number ≡ None = sym c.in-None.ensures in
    let free : has_column c.args.ruled c.args.number ≡ false = sym c.has_column.ensures ∙ c.if-has_column.false in
    rw (free, is) refl
