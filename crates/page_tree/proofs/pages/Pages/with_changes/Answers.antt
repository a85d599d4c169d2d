use Rattle.std.proofs.Common.{◌≡◌, sym, ap, subst}
use Rattle.page_model.specs.Page.{ArePages, joined}
use Rattle.page_model.specs.Paged.{Paged}
use Rattle.page_model.specs.Rising.{IsRising}
use Rattle.page_model.proofs.ChangedLemmas.{rising_with_changes}
use Rattle.page_model.proofs.KeptLemmas.{adds_all}
use Rattle.page_tree.specs.Body.{pages_of, root_pages}
use Rattle.page_tree.proofs.pages.Pages.with_changes.Goals as goal

-- The new pages are pages, and their keys rise as before.
pub invariant_of-result : goal.invariant_of-result
invariant_of-result g c =
    let cmp = g.By.KeyOf.key_cmp in
    let by : c.self.inside.by ≡ c.args.self.now.by = ap (λ (paged : Paged g.row.By.Denot g.row.T.Denot). paged.by) c.self.view_is in
    let pages : root_pages c.self.inside.root ≡ c.args.self.now.pages = ap (λ (paged : Paged g.row.By.Denot g.row.T.Denot). paged.pages) c.self.view_is in
    let key_of = g.By.KeyOf.key_of c.args.self.now.by in
    let before = subst (λ how. IsRising (g.By.KeyOf.key_of how) cmp (joined c.args.self.now.pages)) by (subst (λ old. IsRising (g.By.KeyOf.key_of c.self.inside.by) cmp (joined old)) pages c.self.invariant.1) in
    let adds = c.in_ok-made.ensures in
    let is = c.in_ok-root.ensures in
    let all = adds_all key_of g.met.By.KeyOf.total g.C.ChangeOf.changed g.C.ChangeOf.put c.args.self.now.pages c.args.changes.now (pages_of c.in_ok-made.made.items) adds in
    let after = subst (IsRising key_of cmp) (sym all.1) (rising_with_changes key_of g.met.By.KeyOf.total g.C.ChangeOf.changed g.C.ChangeOf.put c.args.changes.now (joined c.args.self.now.pages) c.requires.keyed before) in (
      subst ArePages (sym is) all.0,
      subst (λ how. IsRising (g.By.KeyOf.key_of how) cmp (joined (root_pages c.in_ok-root.root))) (sym by) (subst (λ new. IsRising key_of cmp (joined new)) (sym is) after),
    )
