use Rattle.std.proofs.Common.{Global, ◌≡◌, ◌∙◌, ap, subst, List, get_or, ◌++◌, ◌+◌, arith}
use Rattle.std.specs.List.{insert, remove}
use Rattle.std.specs.declared.sync.Arc.{Arc}
use Rattle.page_tree.specs.Body.{pages_of}
use Rattle.page_tree.specs.Branch.{Branch}
use Rattle.page_tree.proofs.AmongLemmas.{pages_around, pages_same}
use Rattle.page_tree.proofs.ChangeLemmas.{parts_of}
use Rattle.page_tree.proofs.CutLemmas as lemmas
use Rattle.page_tree.proofs.NodeLemmas.{pages_from}
use Rattle.page_tree.proofs.cut.cut_among.Goals as goal

-- The node's pages are some of all.
pub cut_alone-cut-requires-clause-pages : goal.cut_alone-cut-requires-clause-pages
cut_alone-cut-requires-clause-pages g c =
    let nodes = c.args.nodes.now.items in
    let node = c.remove-node.result in
    let found : node ≡ get_or nodes c.args.number node = subst (λ all. node ≡ get_or all c.args.number node) c.reserve.ensures.items c.remove-node.ensures.value in
    let parts = parts_of (g.By.KeyOf.key_of c.args.by) g.By.KeyOf.key_cmp nodes c.args.number node.value.pages _ c.requires.pages c.requires.rising (pages_from nodes c.args.number node c.requires.number found) in
    parts.pages_here

pub cut_alone-cut-requires-clause-rising : goal.cut_alone-cut-requires-clause-rising
cut_alone-cut-requires-clause-rising g c =
    let nodes = c.args.nodes.now.items in
    let node = c.remove-node.result in
    let found : node ≡ get_or nodes c.args.number node = subst (λ all. node ≡ get_or all c.args.number node) c.reserve.ensures.items c.remove-node.ensures.value in
    let parts = parts_of (g.By.KeyOf.key_of c.args.by) g.By.KeyOf.key_cmp nodes c.args.number node.value.pages _ c.requires.pages c.requires.rising (pages_from nodes c.args.number node c.requires.number found) in
    parts.rising_here

-- The node is back, as it was.
pub returns-in_default : goal.returns-in_default
returns-in_default g c =
    let nodes = c.args.nodes.now.items in
    let node = c.remove-node.result in
    let new = c.cut_alone-cut.new.node in
    let found : node ≡ get_or nodes c.args.number node = subst (λ all. node ≡ get_or all c.args.number node) c.reserve.ensures.items c.remove-node.ensures.value in
    let room = lemmas.granted c.reserve.result c.if-is_err.ensures.value c.reserve.ensures.ok in
    let was : c.remove-node.new.self.items ≡ remove nodes c.args.number = c.remove-node.ensures.items ∙ ap (λ (all : List (Arc (Branch g.row.T.Denot) Global)). remove all c.args.number) c.reserve.ensures.items in
    let took = c.insert.ensures.succeeds (omega (arith, room, c.remove-node.ensures.len, c.remove-node.ensures.capacity)) in
    let back : c.insert.new.self.items ≡ insert (remove nodes c.args.number) c.args.number new =
    lemmas.done c.insert.result _ _ _ c.insert.ensures.items took ∙ ap (λ (all : List (Arc (Branch g.row.T.Denot) Global)). insert all c.args.number new) was in
    ap pages_of (back ∙ lemmas.put_back nodes c.args.number new c.requires.number) ∙ pages_same nodes c.args.number node new c.requires.number found c.in_default.ensures.unchanged

-- The node took the item, and what was cut off comes behind it.
pub returns : goal.returns
returns g c =
    let nodes = c.args.nodes.now.items in
    let number = c.args.number in
    let node = c.remove-node.result in
    let new = c.cut_alone-cut.new.node in
    let other = c.in-Some.other in
    let found : node ≡ get_or nodes number node = subst (λ all. node ≡ get_or all number node) c.reserve.ensures.items c.remove-node.ensures.value in
    let room = lemmas.granted c.reserve.result c.if-is_err.ensures.value c.reserve.ensures.ok in
    let was : c.remove-node.new.self.items ≡ remove nodes number = c.remove-node.ensures.items ∙ ap (λ (all : List (Arc (Branch g.row.T.Denot) Global)). remove all number) c.reserve.ensures.items in
    let took = c.insert.ensures.succeeds (omega (arith, room, c.remove-node.ensures.len, c.remove-node.ensures.capacity)) in
    let back : c.insert.new.self.items ≡ insert (remove nodes number) number new =
    lemmas.done c.insert.result _ _ _ c.insert.ensures.items took ∙ ap (λ (all : List (Arc (Branch g.row.T.Denot) Global)). insert all number new) was in
    let both : c.insert-3.new.self.items ≡ insert (insert (remove nodes number) number new) (number + 1) other =
    lemmas.done c.insert-3.result _ _ _ c.insert-3.ensures.items
    (c.insert-3.ensures.succeeds (omega (arith, room, c.remove-node.ensures.len, c.remove-node.ensures.capacity, lemmas.done c.insert.result _ _ _ c.insert.ensures.len took, c.insert.ensures.capacity)))
    ∙ ap (λ (all : List (Arc (Branch g.row.T.Denot) Global)). insert all (number + 1) other) back in
    lemmas.cut_among (g.By.KeyOf.key_of c.args.by) g.C.ChangeOf.changed g.C.ChangeOf.put nodes number node.value.pages (new.value.pages ++ other.value.pages) (pages_of c.insert-3.new.self.items) c.args.change.now c.args.below c.args.ends
    (pages_around nodes number node c.requires.number found) (ap pages_of both ∙ lemmas.pages_two nodes number new other c.requires.number) c.requires.way c.in-Some.ensures.cut
