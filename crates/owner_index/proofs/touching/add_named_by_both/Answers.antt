use Rattle.std.proofs.Common.{◌≡◌, inl, inr, subst}
use Rattle.std.specs.Prelude.{◌⊎◌, Option, Some}
use Rattle.own_base.specs.declared.row_name.RowName.{RowName}
use Rattle.own_model.specs.Db.{Row}
use Rattle.owner_model.specs.Joins.{value_of}
use Rattle.move_model.specs.Touches.{cell_at}
use Rattle.owner_index.specs.Adds.{Adds}
use Rattle.owner_index.proofs.AddsLemmas.{adds-either}
use Rattle.owner_index.proofs.touching.add_named_by_both.Goals as goal

pub returns : goal.returns
returns c =
    let named : Option Row → RowName → Type 0 = λ row name. (name.table ≡ c.args.edge.now.lower) × (cell_at row c.args.edge.now.column.0 ≡ Some (value_of name.key)) in
    adds-either (named c.args.change.now.before) (named c.args.change.now.after)
    (λ name. (name.table ≡ c.args.edge.now.lower) × ((cell_at c.args.change.now.before c.args.edge.now.column.0 ≡ Some (value_of name.key)) ⊎ (cell_at c.args.change.now.after c.args.edge.now.column.0 ≡ Some (value_of name.key))))
    c.args.work.now c.add_named_by.new.work c.add_named_by-2.new.work
    (λ name wanted. elim wanted.1 [ inl before ↦ inl (wanted.0, before) | inr after ↦ inr (wanted.0, after) ])
    (subst (λ (row : Option Row). Adds (named row) c.args.work.now c.add_named_by.new.work) c.as_ref.ensures.value c.in_ok-add_named_by.ensures)
    (subst (λ (row : Option Row). Adds (named row) c.add_named_by.new.work c.add_named_by-2.new.work) c.as_ref-2.ensures.value c.in_ok-add_named_by-2.ensures)
