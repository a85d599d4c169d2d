use Rattle.std.proofs.Common.{◌≡◌, false, refl, sym, ◌∙◌}
use Rattle.std.specs.Prelude.{Some, None, slice_get}
use Rattle.std.proofs.lemmas.Option.{slice_get_within}
use Rattle.owner_model.specs.ColumnSets.{has_column}
use Rattle.subject_erase.proofs.losing.loses.Goals as goal

pub dangles-requires : goal.dangles-requires
dangles-requires g c = record {
  there =
      λ link refers.
      let schema = (g.V.StoreView.db c.args.view.now).schema in
      let is : slice_get c.args.definition.now.columns c.args.number ≡ Some c.in-Some.column.now =
      sym c.in-Some.ensures in
      let key = (c.requires.refer c.args.number c.in-Some.column.now link is refers).1 in
      slice_get_within schema.tables link.1.0 key.table key.table_is;
}

pub returns-in-Some : goal.returns-in-Some
returns-in-Some g c =
    let schema = (g.V.StoreView.db c.args.view.now).schema in
    let rows = (g.V.StoreView.db c.args.view.now).rows in
    let is : slice_get c.args.definition.now.columns c.args.number ≡ Some c.in-Some.column.now =
    sym c.in-Some.ensures in
    let free : has_column c.args.ruled c.args.number ≡ false = sym c.has_column.ensures ∙ c.if-has_column.false in
    rw (free, is) c.dangles.ensures

pub returns-in-None : goal.returns-in-None
returns-in-None g c =
    let is : slice_get c.args.definition.now.columns c.args.number ≡ None =
    sym c.in-None.ensures in
    let free : has_column c.args.ruled c.args.number ≡ false = sym c.has_column.ensures ∙ c.if-has_column.false in
    rw (free, is) refl
