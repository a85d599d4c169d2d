use Rattle.std.proofs.Common.{◌≡◌, [], refl, sym, ap, ◌∙◌}
use Rattle.page_model.specs.Found.{found}
use Rattle.page_model.specs.Paged.{Paged}
use Rattle.page_tree.specs.Body.{root_pages}
use Rattle.page_tree.proofs.pages.Pages.get.Goals as goal

-- Where there is no node there is no item.
pub returns-in-None : goal.returns-in-None
unfolding found
returns-in-None g c =
    let none : c.args.self.now.pages ≡ [] = sym (ap (λ (paged : Paged g.row.By.Denot g.row.T.Denot). paged.pages) c.self.view_is) ∙ ap root_pages c.in-None.is in
    rw none refl
