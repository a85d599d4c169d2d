use Rattle.std.proofs.Common.{List, [], ◌∷◌, subst}
use Rattle.std.proofs.lemmas.Result.{on_ok_weaker}
use Rattle.page_model.specs.Paged.{items}
use Rattle.shelf_model.specs.declared.shelved.Shelved.{Shelved}
use Rattle.shelf_access.specs.Gathered.{Gathers}
use Rattle.shelf_access.proofs.GatherLemmas.{gathers-one}
use Rattle.shelf_access.proofs.gathered.Gathered.add.Goals as goal

pub returns : goal.returns
returns c =
    on_ok_weaker c.change.result
    (λ is. subst (λ (old : List Shelved). Gathers (c.args.copy.now ∷ []) old (items c.change.new.self)) c.self.view_is (gathers-one c.args.copy.now (items c.self.inside.pages) (items c.change.new.self) is))
    c.change.ensures.items
