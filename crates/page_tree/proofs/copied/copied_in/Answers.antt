use Rattle.std.proofs.Common.{Global, [], Option, sym, subst, IfSome}
use Rattle.std.specs.declared.sync.Arc.{Arc}
use Rattle.page_model.specs.Changed.{AreKeyed}
use Rattle.page_model.specs.ChangedPages.{AddsChanged}
use Rattle.page_tree.specs.Branch.{Branch}
use Rattle.page_tree.specs.PutWithin.{PutWithin}
use Rattle.page_tree.proofs.WithinLemmas.{only, whole}
use Rattle.page_tree.proofs.copied.copied_in.Goals as goal

-- One page was changed, into which the change falls.
pub returns : goal.returns
returns g c =
    let key_of = g.By.KeyOf.key_of c.args.by in
    let cmp = g.By.KeyOf.key_cmp in
    let changed = g.C.ChangeOf.changed in
    let put = g.C.ChangeOf.put in
    let change = c.index-changes-0.result in
    let one = only c.args.changes.now change c.if-changes-ne1.false c.index-changes-0.is in
    let puts = subst (λ (made : Option (Arc (Branch g.row.T.Denot) Global)). IfSome made (λ made. PutWithin key_of cmp changed put c.args.node.now.pages change made.value.pages _)) c.in-Some.is c.in_ok-made.ensures in
    let place = whole key_of g.met.By.KeyOf.total changed put c.args.node.now.pages c.in-Some.made.value.pages change _ puts c.requires.pages c.requires.rising (subst (AreKeyed key_of changed put) one c.requires.keyed) in
    subst (λ changes. AddsChanged key_of cmp changed put c.args.node.now.pages changes [] c.in-Some.made.value.pages) (sym one) place.adds
