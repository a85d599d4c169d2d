use Rattle.std.proofs.Common.{◌≡◌, [], ◌++◌, ◌∷◌, sym, ap, subst, ◌∙◌, arith, append-nil}
use Rattle.std.proofs.lemmas.Bool.Decides.{nat_tests}
use Rattle.std.proofs.lemmas.List.{nil_from_length}
use Rattle.page_model.specs.ChangedPages.{AddsChanged}
use Rattle.page_model.specs.Page.{ArePages}
use Rattle.page_model.specs.Paged.{Paged}
use Rattle.page_model.proofs.KeptLemmas.{adds_same}
use Rattle.page_tree.specs.Body.{pages_of, root_pages}
use Rattle.page_tree.specs.Branch.{Branch}
use Rattle.page_tree.proofs.pages.Pages.changed.Goals as goal

-- Without a change the same node stands at the top.
pub returns-then-is_empty : goal.returns-then-is_empty
returns-then-is_empty g c =
    let pages : root_pages c.self.inside.root ≡ c.args.self.now.pages = ap (λ (paged : Paged g.row.By.Denot g.row.T.Denot). paged.pages) c.self.view_is in
    let held : c.in-Some.root.value.pages ≡ c.args.self.now.pages = ap root_pages (sym c.in-Some.is) ∙ pages in
    let none : c.args.changes.now ≡ [] = nil_from_length c.args.changes.now (grind (arith, nat_tests)) in
    let pushed = c.in_ok-push.ensures in
    let clone : c.in_ok-try_clone.field-0.value ≡ c.in-Some.root.value = c.in_ok-try_clone.ensures in
    let one : c.push.new.self.items ≡ c.in_ok-try_clone.field-0 ∷ [] = pushed.items ∙ ap (λ nodes. nodes ++ c.in_ok-try_clone.field-0 ∷ []) c.new-made.ensures.items in
    let made : pages_of c.push.new.self.items ≡ c.args.self.now.pages =
    ap pages_of one ∙ (append-nil c.in_ok-try_clone.field-0.value.pages ∙ (ap (λ (branch : Branch g.row.T.Denot). branch.pages) clone ∙ held)) in
    subst (λ changes. AddsChanged (g.By.KeyOf.key_of c.args.self.now.by) g.By.KeyOf.key_cmp g.C.ChangeOf.changed g.C.ChangeOf.put c.args.self.now.pages changes [] (pages_of c.push.new.self.items)) (sym none)
    (adds_same (g.By.KeyOf.key_of c.args.self.now.by) g.met.By.KeyOf.total g.C.ChangeOf.changed g.C.ChangeOf.put c.args.self.now.pages [] (pages_of c.push.new.self.items) (subst ArePages pages c.self.invariant.0) made)
