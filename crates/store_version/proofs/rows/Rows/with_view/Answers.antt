use Rattle.std.proofs.Common.{◌∙◌, ap}
use Rattle.annot_schema.specs.Created.{Created, created_viewed}
use Rattle.store_version.proofs.Indexed.{parts-viewed, view-stands}
use Rattle.store_version.proofs.rows.Rows.with_view.Goals as goal

-- a view leaves the tables and their rows
pub invariant_of-result : goal.invariant_of-result
invariant_of-result c =
    let catalog = c.self.inside.catalog.value in
    let after = c.in_ok-catalog-2.catalog.value in
    let parts = c.self.inside.parts.items in
    let after_is = c.in_ok-catalog-2.ensures.ok ∙ (c.in_ok-catalog.ensures ∙ ap (λ (catalog : Created). created_viewed catalog c.args.definition c.args.text) c.deref.ensures) in
    let copies = c.in_ok-parts.ensures ∙ c.deref-2.ensures.value in (
      parts-viewed catalog after c.args.definition c.args.text parts c.in_ok-parts.parts.items c.self.invariant.0 after_is copies,
      view-stands catalog after c.args.definition c.args.text parts c.in_ok-parts.parts.items c.self.inside.index c.in_ok-index.index after_is copies c.in_ok-index.ensures
          c.self.invariant.1,
    )
