use Rattle.std.proofs.Common.{Global, ◌≡◌, ◌∷◌, [], Option, ap, sym, subst}
use Rattle.std.specs.declared.sync.Arc.{Arc}
use Rattle.page_model.specs.Changed.{AreKeyed}
use Rattle.page_model.specs.Page.{ArePages, joined}
use Rattle.page_model.specs.Paged.{Paged}
use Rattle.page_model.specs.Rising.{IsRising}
use Rattle.page_tree.specs.Body.{root_pages}
use Rattle.page_tree.specs.Branch.{Branch}
use Rattle.page_tree.proofs.InPlaceLemmas.{stays_sound}
use Rattle.page_tree.proofs.pages.Pages.change_in_place.Goals as goal

-- Pages stay pages whose keys rise.
pub invariant_of-self-2 : goal.invariant_of-self-2
invariant_of-self-2 g c =
    let cmp = g.By.KeyOf.key_cmp in
    let by : c.self.inside.by ≡ c.args.self.now.by = ap (λ (paged : Paged g.row.By.Denot g.row.T.Denot). paged.by) c.self.view_is in
    let keyed = subst (λ how. AreKeyed (g.By.KeyOf.key_of how) g.C.ChangeOf.changed g.C.ChangeOf.put (c.args.change.now ∷ [])) (sym by) c.requires in
    let pages = subst (λ (root : Option (Arc (Branch g.row.T.Denot) Global)). ArePages (root_pages root)) c.in-Some.is c.self.invariant.0 in
    let rising = subst (λ (root : Option (Arc (Branch g.row.T.Denot) Global)). IsRising (g.By.KeyOf.key_of c.self.inside.by) cmp (joined (root_pages root))) c.in-Some.is c.self.invariant.1 in
    stays_sound (g.By.KeyOf.key_of c.self.inside.by) g.met.By.KeyOf.total g.C.ChangeOf.changed g.C.ChangeOf.put c.change_in.result c.in-Some.root.value.pages c.change_in.new.node.value.pages c.args.change.now c.change_in.ensures keyed pages rising
