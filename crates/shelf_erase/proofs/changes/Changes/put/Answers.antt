use Rattle.std.proofs.Common.{List, ap, refl, ◌∙◌, subst}
use Rattle.std.specs.Prelude.{Some}
use Rattle.std.proofs.lemmas.Result.{on_ok_weaker}
use Rattle.own_base.specs.declared.change.Change.{Change}
use Rattle.page_model.specs.Page.{joined}
use Rattle.page_model.proofs.FoundChanged.{found_changed}
use Rattle.subject_model.proofs.RisingNames.{name_order}
use Rattle.shelf_erase.specs.Told.{Puts, told}
use Rattle.shelf_erase.proofs.changes.Changes.put.Goals as goal

pub returns : goal.returns
returns c =
    on_ok_weaker c.change.result (λ is.
    subst (λ (list : List Change). Puts c.args.change.now list (joined c.change.new.self.pages)) c.self.view_is
    (record {
      found = λ name.
          ap (λ (list : List Change). told list name) is
          ∙ found_changed (λ (change : Change). change.name) name_order (λ (change : Change). change.name) (λ (change : Change). Some change) name c.args.change.now.name (Some c.args.change.now) (joined c.self.inside.by_name.pages) refl;
    }))
    c.change.ensures.items
