use Rattle.std.proofs.Common.{Global, ◌≡◌, ◌<◌, ◌+◌, ◌∙◌, ap, sym, subst, List, [], length, drop, get_or-set_same, arith}
use Rattle.std.specs.Prelude.{◌⊎◌, true}
use Rattle.std.specs.declared.sync.Arc.{Arc}
use Rattle.page_model.specs.Page.{ArePages, joined}
use Rattle.page_model.specs.Rising.{IsRising}
use Rattle.page_tree.specs.Body.{pages_of}
use Rattle.page_tree.specs.Branch.{Branch}
use Rattle.page_tree.specs.NodeOf.{Begin}
use Rattle.page_tree.specs.PutWithin.{PutWithin}
use Rattle.page_tree.proofs.AmongLemmas.{items_around, items_set, pages_around, pages_counted, pages_counted_set, pages_same, pages_set}
use Rattle.page_tree.proofs.ChangeLemmas.{parts_of}
use Rattle.page_tree.proofs.NodeLemmas.{nodes_from, pages_from}
use Rattle.page_tree.proofs.WithinLemmas.{within_among, within_grows}
use Rattle.page_tree.proofs.in_place.+place.Goals as goal

-- The node has fewer nodes below it than all, and its keys rise too.
pub change_among-change_alone-requires : goal.change_among-change_alone-requires
change_among-change_alone-requires g t c κs within =
    let nodes = c.args.nodes.now.items in
    let number = c.way_among-number.result.0 in
    let node = c.index_mut.result.now in
    let below : number < length nodes = subst (λ all. number < length all) c.as_slice.ensures.value c.way_among-number.ensures.within in
    let fewer = nodes_from nodes number node below c.index_mut.ensures.value in
    let parts = parts_of (g.By.KeyOf.key_of c.args.by) g.By.KeyOf.key_cmp nodes number node.value.pages _ c.requires.pages c.requires.rising (pages_from nodes number node below c.index_mut.ensures.value) in
    (omega (arith, fewer), (within.0, (within.1.0, (within.1.1.0, (within.1.1.1, (parts.pages_here, (parts.rising_here, c.requires.keyed)))))))

-- Its items and pages are some of all.
pub change_among-overflow_sub-result : goal.change_among-overflow_sub-result
change_among-overflow_sub-result g t c =
    let nodes = c.args.nodes.now.items in
    let number = c.way_among-number.result.0 in
    let below : number < length nodes = subst (λ all. number < length all) c.as_slice.ensures.value c.way_among-number.ensures.within in
    let counted : c.items-items_there.result ≡ length (joined c.index.result.now.value.pages) = c.items-items_there.ensures ∙ ap (λ (branch : Branch g.row.T.Denot). length (joined branch.pages)) c.deref.ensures in
    let all = items_around nodes number c.index.result.now below c.index.ensures in
    omega (arith, c.requires.items)

pub change_among-overflow_sub-result-then-change_alone : goal.change_among-overflow_sub-result-then-change_alone
change_among-overflow_sub-result-then-change_alone g t c =
    let nodes = c.args.nodes.now.items in
    let number = c.way_among-number.result.0 in
    let below : number < length nodes = subst (λ all. number < length all) c.as_slice.ensures.value c.way_among-number.ensures.within in
    let counted : c.pages-pages_there.result ≡ length c.index-2.result.now.value.pages = c.pages-pages_there.ensures ∙ ap (λ (branch : Branch g.row.T.Denot). length branch.pages) c.deref-2.ensures in
    let all = pages_counted nodes number c.index-2.result.now below c.index-2.ensures in
    omega (arith, c.requires.counted)

-- There is no more than one more item, and there was room to count it.
pub change_among-overflow_add-result : goal.change_among-overflow_add-result
change_among-overflow_add-result g t c =
    let nodes = c.args.nodes.now.items in
    let number = c.way_among-number.result.0 in
    let below : number < length nodes = subst (λ all. number < length all) c.as_slice.ensures.value c.way_among-number.ensures.within in
    let before : c.items-items_there.result ≡ length (joined c.index.result.now.value.pages) = c.items-items_there.ensures ∙ ap (λ (branch : Branch g.row.T.Denot). length (joined branch.pages)) c.deref.ensures in
    let there : c.index-node.result.now ≡ c.change_alone.new.node = c.index-node.ensures ∙ get_or-set_same nodes number c.change_alone.new.node c.index-node.result.now below in
    let after : c.items.result ≡ length (joined c.change_alone.new.node.value.pages) =
    c.items.ensures ∙ (ap (λ (branch : Branch g.row.T.Denot). length (joined branch.pages)) c.deref-then-change_alone.ensures ∙ ap (λ (node : Arc (Branch g.row.T.Denot) Global). length (joined node.value.pages)) there) in
    let was = items_around nodes number c.index.result.now below c.index.ensures in
    let same = items_around nodes number c.index_mut.result.now below c.index_mut.ensures.value in
    let more = within_grows (g.By.KeyOf.key_of c.args.by) g.met.By.KeyOf.total g.C.ChangeOf.changed g.C.ChangeOf.put c.index_mut.result.now.value.pages c.change_alone.new.node.value.pages c.args.change.now _ c.if-change_alone.ensures in
    omega (arith, c.requires.items, c.if-items.false)

-- The others have as many as they had.
pub change_among-returns-then-change_alone-clause-items : goal.change_among-returns-then-change_alone-clause-items
change_among-returns-then-change_alone-clause-items g t c =
    let nodes = c.args.nodes.now.items in
    let number = c.way_among-number.result.0 in
    let below : number < length nodes = subst (λ all. number < length all) c.as_slice.ensures.value c.way_among-number.ensures.within in
    let before : c.items-items_there.result ≡ length (joined c.index.result.now.value.pages) = c.items-items_there.ensures ∙ ap (λ (branch : Branch g.row.T.Denot). length (joined branch.pages)) c.deref.ensures in
    let there : c.index-node.result.now ≡ c.change_alone.new.node = c.index-node.ensures ∙ get_or-set_same nodes number c.change_alone.new.node c.index-node.result.now below in
    let after : c.items.result ≡ length (joined c.change_alone.new.node.value.pages) =
    c.items.ensures ∙ (ap (λ (branch : Branch g.row.T.Denot). length (joined branch.pages)) c.deref-then-change_alone.ensures ∙ ap (λ (node : Arc (Branch g.row.T.Denot) Global). length (joined node.value.pages)) there) in
    let was = items_around nodes number c.index.result.now below c.index.ensures in
    let is = items_set nodes number c.change_alone.new.node below in
    omega (arith, c.requires.items)

pub change_among-returns-then-change_alone-clause-counted : goal.change_among-returns-then-change_alone-clause-counted
change_among-returns-then-change_alone-clause-counted g t c =
    let nodes = c.args.nodes.now.items in
    let number = c.way_among-number.result.0 in
    let below : number < length nodes = subst (λ all. number < length all) c.as_slice.ensures.value c.way_among-number.ensures.within in
    let before : c.pages-pages_there.result ≡ length c.index-2.result.now.value.pages = c.pages-pages_there.ensures ∙ ap (λ (branch : Branch g.row.T.Denot). length branch.pages) c.deref-2.ensures in
    let there : c.index-node.result.now ≡ c.change_alone.new.node = c.index-node.ensures ∙ get_or-set_same nodes number c.change_alone.new.node c.index-node.result.now below in
    let after : c.pages.result ≡ length c.change_alone.new.node.value.pages =
    c.pages.ensures ∙ (ap (λ (branch : Branch g.row.T.Denot). length branch.pages) c.deref-then-change_alone-2.ensures ∙ ap (λ (node : Arc (Branch g.row.T.Denot) Global). length node.value.pages) there) in
    let was = pages_counted nodes number c.index-2.result.now below c.index-2.ensures in
    let is = pages_counted_set nodes number c.change_alone.new.node below in
    omega (arith, c.requires.counted)

-- The page is one of all.
pub change_among-returns-then-change_alone-clause-changed : goal.change_among-returns-then-change_alone-clause-changed
change_among-returns-then-change_alone-clause-changed g t c =
    let nodes = c.args.nodes.now.items in
    let number = c.way_among-number.result.0 in
    let below : number < length nodes = subst (λ all. number < length all) c.as_slice.ensures.value c.way_among-number.ensures.within in
    let key_of = g.By.KeyOf.key_of c.args.by in
    let cmp = g.By.KeyOf.key_cmp in
    let ends = c.way_among-number.result.1.ends in
    let behind = λ (all : List (Arc (Branch g.row.T.Denot) Global)). pages_of (drop (number + 1) all) in
    within_among key_of g.C.ChangeOf.changed g.C.ChangeOf.put nodes number c.index_mut.result.now.value.pages c.change_alone.new.node.value.pages _ c.args.change.now ends c.args.way.ends
    (pages_around nodes number c.index_mut.result.now below c.index_mut.ensures.value) (pages_set nodes number c.change_alone.new.node below)
    (subst (λ key. ends ≡ true → Begin key_of cmp key true (behind nodes) ⊎ ((behind nodes ≡ []) × (c.args.way.ends ≡ true))) c.key.ensures
    (subst (λ all. ends ≡ true → Begin key_of cmp c.key.result.now true (behind all) ⊎ ((behind all ≡ []) × (c.args.way.ends ≡ true))) c.as_slice.ensures.value c.way_among-number.ensures.ends))
    c.if-change_alone.ensures

-- The node that took no change is as it was, and so are all.
pub change_among-cut_among-requires-clause-pages : goal.change_among-cut_among-requires-clause-pages
change_among-cut_among-requires-clause-pages g t c =
    let nodes = c.args.nodes.now.items in
    let number = c.way_among-number.result.0 in
    let below : number < length nodes = subst (λ all. number < length all) c.as_slice.ensures.value c.way_among-number.ensures.within in
    subst ArePages (sym (pages_same nodes number c.index_mut.result.now c.change_alone.new.node below c.index_mut.ensures.value c.if-change_alone.ensures)) c.requires.pages

pub change_among-cut_among-requires-clause-rising : goal.change_among-cut_among-requires-clause-rising
change_among-cut_among-requires-clause-rising g t c =
    let nodes = c.args.nodes.now.items in
    let number = c.way_among-number.result.0 in
    let below : number < length nodes = subst (λ all. number < length all) c.as_slice.ensures.value c.way_among-number.ensures.within in
    subst (λ pages. IsRising (g.By.KeyOf.key_of c.args.by) g.By.KeyOf.key_cmp (joined pages)) (sym (pages_same nodes number c.index_mut.result.now c.change_alone.new.node below c.index_mut.ensures.value c.if-change_alone.ensures)) c.requires.rising

-- One more item and page, where one was cut.
pub change_among-returns-then-cut_among-clause-items : goal.change_among-returns-then-cut_among-clause-items
change_among-returns-then-cut_among-clause-items g t c =
    let nodes = c.args.nodes.now.items in
    let number = c.way_among-number.result.0 in
    let below : number < length nodes = subst (λ all. number < length all) c.as_slice.ensures.value c.way_among-number.ensures.within in
    let same = pages_same nodes number c.index_mut.result.now c.change_alone.new.node below c.index_mut.ensures.value c.if-change_alone.ensures in
    omega (arith, c.requires.items, c.if-cut_among.ensures.items, ap (λ pages. length (joined pages)) same)

pub change_among-returns-then-cut_among-clause-counted : goal.change_among-returns-then-cut_among-clause-counted
change_among-returns-then-cut_among-clause-counted g t c =
    let nodes = c.args.nodes.now.items in
    let number = c.way_among-number.result.0 in
    let below : number < length nodes = subst (λ all. number < length all) c.as_slice.ensures.value c.way_among-number.ensures.within in
    let same = pages_same nodes number c.index_mut.result.now c.change_alone.new.node below c.index_mut.ensures.value c.if-change_alone.ensures in
    omega (arith, c.requires.counted, c.if-cut_among.ensures.pages, ap length same)

pub change_among-returns-then-cut_among-clause-changed : goal.change_among-returns-then-cut_among-clause-changed
change_among-returns-then-cut_among-clause-changed g t c =
    let nodes = c.args.nodes.now.items in
    let number = c.way_among-number.result.0 in
    let below : number < length nodes = subst (λ all. number < length all) c.as_slice.ensures.value c.way_among-number.ensures.within in
    let same = pages_same nodes number c.index_mut.result.now c.change_alone.new.node below c.index_mut.ensures.value c.if-change_alone.ensures in
    subst (λ pages. PutWithin (g.By.KeyOf.key_of c.args.by) g.By.KeyOf.key_cmp g.C.ChangeOf.changed g.C.ChangeOf.put pages c.args.change.now (pages_of c.cut_among.new.nodes.items) c.args.way.ends) same c.if-cut_among.ensures.puts

pub change_among-returns-clause-unchanged : goal.change_among-returns-clause-unchanged
change_among-returns-clause-unchanged g t c =
    let nodes = c.args.nodes.now.items in
    let number = c.way_among-number.result.0 in
    let below : number < length nodes = subst (λ all. number < length all) c.as_slice.ensures.value c.way_among-number.ensures.within in
    c.if-cut_among.ensures ∙ pages_same nodes number c.index_mut.result.now c.change_alone.new.node below c.index_mut.ensures.value c.if-change_alone.ensures
