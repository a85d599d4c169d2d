use Rattle.std.proofs.Common.{◌≡◌, ◌∙◌, take, take_all, subst}
use Rattle.std.specs.List.{AllByRecursion}
use Rattle.own_model.specs.Db.{Db}
use Rattle.store_version.specs.AreFew.{AreFew}
use Rattle.store_version.proofs.FewRows.{HasFew, few_of_parts}
use Rattle.store_version.proofs.rows.Rows.are_few.Goals as goal

-- all tables were looked at
pub returns : goal.returns
returns c =
    let items = c.deref-part-items.result.now in
    let whole : take c.loop-part.part-index items ≡ c.self.inside.parts.items = take_all c.loop-part.part-index items c.loop-part-test.false ∙ c.deref-part-items.ensures.value in
    λ true. subst (λ (db : Db). AreFew db.rows) c.self.view_is (few_of_parts c.self.inside.parts.items (subst (AllByRecursion HasFew) whole c.loop-part.invariant))
