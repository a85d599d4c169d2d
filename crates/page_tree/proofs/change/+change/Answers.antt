use Rattle.std.proofs.Common.{◌≡◌, ◌<◌, ◌+◌, ◌∙◌, [], ◌∷◌, ◌++◌, ap, sym, subst, append-nil, length, length-drop, take, drop, arith}
use Rattle.std.specs.Prelude.{true}
use Rattle.std.specs.Option.{option_copied}
use Rattle.std.specs.Ordering.{is_gt}
use Rattle.std.proofs.lemmas.Bool.Decides.{nat_tests}
use Rattle.std.proofs.lemmas.List.{nil_from_length}
use Rattle.std.proofs.lemmas.Result.{on_ok_weaker}
use Rattle.page_model.specs.ChangedPages.{AddsChanged}
use Rattle.page_model.specs.Changed.{AreKeyed}
use Rattle.page_model.specs.Page.{IsFirst}
use Rattle.page_model.specs.Rising.{IsRising}
use Rattle.page_model.proofs.KeptLemmas.{adds_leaf, adds_moved, adds_same}
use Rattle.page_model.proofs.RisingLemmas.{each_back, each_front, rising_back, rising_front}
use Rattle.page_tree.specs.Body.{branch_of, pages_of}
use Rattle.page_tree.specs.Branch.{Branch}
use Rattle.page_tree.specs.NodeOf.{IsNodeOf}
use Rattle.page_tree.specs.declared.node.Body.{Body}
use Rattle.page_tree.proofs.ChangeLemmas.{adds_behind, adds_front, first_from, none_from, one_first, parts_of, some_before}
use Rattle.page_tree.proofs.change.+change.Goals as goal

-- A page with changes.
pub change_node-returns-in-Leaf : goal.change_node-returns-in-Leaf
change_node-returns-in-Leaf g t c =
    let key_of = g.By.KeyOf.key_of c.args.by in
    let cmp = g.By.KeyOf.key_cmp in
    let page = c.as_slice.result.now in
    let held : c.args.node.now.pages ≡ page ∷ [] =
    sym (ap (λ (branch : Branch g.row.T.Denot). branch.pages) c.node.view_is) ∙ (ap (λ (body : Body g.row.T.Denot). (branch_of body).pages) c.in-Leaf.is ∙ ap (λ items. items ∷ []) (sym c.as_slice.ensures.value)) in
    on_ok_weaker c.fill.result
    (λ adds. subst (λ old. AddsChanged key_of cmp g.C.ChangeOf.changed g.C.ChangeOf.put old c.args.changes.now (pages_of c.args.made.now.items) (pages_of c.fill.new.made.items)) (sym held)
    (adds_leaf key_of g.met.By.KeyOf.total g.C.ChangeOf.changed g.C.ChangeOf.put page c.args.changes.now _ _ c.requires.some adds))
    c.fill.ensures

-- Nodes with changes.
pub change_node-returns-in_ok-change_nodes-in-Inner : goal.change_node-returns-in_ok-change_nodes-in-Inner
change_node-returns-in_ok-change_nodes-in-Inner g t c =
    let key_of = g.By.KeyOf.key_of c.args.by in
    let cmp = g.By.KeyOf.key_cmp in
    let nodes = c.as_slice-in-Inner.result.now in
    let held : c.args.node.now.pages ≡ pages_of nodes =
    sym (ap (λ (branch : Branch g.row.T.Denot). branch.pages) c.node.view_is) ∙ (ap (λ (body : Body g.row.T.Denot). (branch_of body).pages) c.in-Inner.is ∙ ap pages_of (sym c.as_slice-in-Inner.ensures.value)) in
    let adds = c.in_ok-change_nodes-in-Inner.ensures in
    let none : pages_of c.reserve_exact.new.self.items ≡ [] = ap pages_of (c.reserve_exact.ensures.items ∙ c.new-above.ensures.items) in
    let behind_none = subst (λ before. AddsChanged key_of cmp g.C.ChangeOf.changed g.C.ChangeOf.put (pages_of nodes) c.args.changes.now before (pages_of c.change_nodes.new.made.items)) none adds in
    on_ok_weaker c.push_above.result
    (λ is. subst (λ old. AddsChanged key_of cmp g.C.ChangeOf.changed g.C.ChangeOf.put old c.args.changes.now (pages_of c.args.made.now.items) (pages_of c.push_above.new.made.items)) (sym held)
    (adds_moved key_of g.met.By.KeyOf.total g.C.ChangeOf.changed g.C.ChangeOf.put (pages_of nodes) c.args.changes.now (pages_of c.args.made.now.items) (pages_of c.change_nodes.new.made.items) (pages_of c.push_above.new.made.items) is behind_none))
    c.push_above.ensures.pages

-- Without a change.
pub change_nodes-returns-in_default : goal.change_nodes-returns-in_default
change_nodes-returns-in_default g t c =
    let key_of = g.By.KeyOf.key_of c.args.by in
    let cmp = g.By.KeyOf.key_cmp in
    let none : c.args.changes.now ≡ [] = none_from c.args.changes.now (sym c.first.ensures.value ∙ ap option_copied c.in_default.is) in
    on_ok_weaker c.push_nodes.result
    (λ is. subst (λ changes. AddsChanged key_of cmp g.C.ChangeOf.changed g.C.ChangeOf.put (pages_of c.args.nodes.now) changes (pages_of c.args.made.now.items) (pages_of c.push_nodes.new.made.items)) (sym none)
    (adds_same key_of g.met.By.KeyOf.total g.C.ChangeOf.changed g.C.ChangeOf.put (pages_of c.args.nodes.now) (pages_of c.args.made.now.items) (pages_of c.push_nodes.new.made.items) c.requires.pages is))
    c.push_nodes.ensures.pages

-- No node stands behind the one with the changes.
pub change_nodes-returns-then-is_empty : goal.change_nodes-returns-then-is_empty
change_nodes-returns-then-is_empty g t c =
    let key_of = g.By.KeyOf.key_of c.args.by in
    let cmp = g.By.KeyOf.key_cmp in
    let nodes = c.args.nodes.now in
    let number = c.node_of.result in
    let here = c.around.result.1.now.pages in
    let changes = c.args.changes.now in
    let first = first_from changes c.in-Some.change.now (sym c.first.ensures.value ∙ ap option_copied c.in-Some.is) in
    let none : c.around.result.2.now ≡ [] = nil_from_length c.around.result.2.now (grind (arith, nat_tests)) in
    let alone : pages_of (drop number nodes) ≡ here = c.around.ensures.pages ∙ (ap (λ behind. here ++ pages_of behind) none ∙ append-nil here) in
    let shared : pages_of c.push_nodes-2.new.made.items ≡ pages_of c.args.made.now.items ++ pages_of (take number nodes) =
    c.in_ok-push_nodes.ensures.pages ∙ ap (λ front. pages_of c.args.made.now.items ++ pages_of front) c.around.ensures.front in
    on_ok_weaker c.change_node.result
    (λ adds. adds_front key_of g.met.By.KeyOf.total g.C.ChangeOf.changed g.C.ChangeOf.put nodes number changes c.in-Some.change.now first.0 (pages_of c.args.made.now.items) (pages_of c.push_nodes-2.new.made.items) (pages_of c.change_node.new.made.items)
    (subst (λ key. IsNodeOf key_of cmp key nodes number) c.key.ensures c.node_of.ensures) first.1 c.requires.changes c.requires.pages c.requires.rising shared
    (subst (λ old. AddsChanged key_of cmp g.C.ChangeOf.changed g.C.ChangeOf.put old changes (pages_of c.push_nodes-2.new.made.items) (pages_of c.change_node.new.made.items)) (sym alone) adds))
    c.change_node.ensures

-- Some do.
pub change_nodes-returns : goal.change_nodes-returns
change_nodes-returns g t c =
    let key_of = g.By.KeyOf.key_of c.args.by in
    let cmp = g.By.KeyOf.key_cmp in
    let nodes = c.args.nodes.now in
    let number = c.node_of.result in
    let here = c.around.result.1.now.pages in
    let behind = pages_of c.around.result.2.now in
    let changes = c.args.changes.now in
    let first = first_from changes c.in-Some.change.now (sym c.first.ensures.value ∙ ap option_copied c.in-Some.is) in
    let parts = parts_of key_of cmp nodes number here behind c.requires.pages c.requires.rising c.around.ensures.pages in
    let shared : pages_of c.push_nodes-2.new.made.items ≡ pages_of c.args.made.now.items ++ pages_of (take number nodes) =
    c.in_ok-push_nodes.ensures.pages ∙ ap (λ front. pages_of c.args.made.now.items ++ pages_of front) c.around.ensures.front in
    let one = c.in_ok-change_node.ensures in
    on_ok_weaker c.change_nodes.result
    (λ adds. adds_front key_of g.met.By.KeyOf.total g.C.ChangeOf.changed g.C.ChangeOf.put nodes number changes c.in-Some.change.now first.0 (pages_of c.args.made.now.items) (pages_of c.push_nodes-2.new.made.items) (pages_of c.change_nodes.new.made.items)
    (subst (λ key. IsNodeOf key_of cmp key nodes number) c.key.ensures c.node_of.ensures) first.1 c.requires.changes c.requires.pages c.requires.rising shared
    (subst (λ old. AddsChanged key_of cmp g.C.ChangeOf.changed g.C.ChangeOf.put old changes (pages_of c.push_nodes-2.new.made.items) (pages_of c.change_nodes.new.made.items)) (sym c.around.ensures.pages)
    (adds_behind key_of g.met.By.KeyOf.total g.C.ChangeOf.changed g.C.ChangeOf.put here behind changes c.first_of.result.now c.split_at.result.0.now c.split_at.result.1.now
    (pages_of c.push_nodes-2.new.made.items) (pages_of c.change_node-2.new.made.items) (pages_of c.change_nodes.new.made.items)
    c.first_of.ensures parts.rising_both c.requires.keyed c.split_at.ensures.all c.split_at.ensures.below c.split_at.ensures.others one adds)))
    c.change_nodes.ensures

-- One node has fewer nodes below it than all, and its keys rise too.
pub change_nodes-change_node-requires : goal.change_nodes-change_node-requires
change_nodes-change_node-requires g t c κs within =
    let key_of = g.By.KeyOf.key_of c.args.by in
    let cmp = g.By.KeyOf.key_cmp in
    let first = first_from c.args.changes.now c.in-Some.change.now (sym c.first.ensures.value ∙ ap option_copied c.in-Some.is) in
    let some : 0 < length c.args.changes.now = rw first.1 (omega arith) in
    let parts = parts_of key_of cmp c.args.nodes.now c.node_of.result c.around.result.1.now.pages (pages_of c.around.result.2.now) c.requires.pages c.requires.rising c.around.ensures.pages in
    (omega (arith, c.around.ensures.fewer), (within.0, (within.1.0, (within.1.1.0, (within.1.1.1, (some, (parts.pages_here, (parts.rising_here, (c.requires.changes, c.requires.keyed)))))))))

-- Its changes are the first of them.
pub change_nodes-change_node-requires-2 : goal.change_nodes-change_node-requires-2
change_nodes-change_node-requires-2 g t c κs within =
    let key_of = g.By.KeyOf.key_of c.args.by in
    let cmp = g.By.KeyOf.key_cmp in
    let changes = c.split_at.ensures in
    let rises = subst (IsRising g.C.ChangeOf.changed cmp) changes.all c.requires.changes in
    let keyed = subst (AreKeyed key_of g.C.ChangeOf.changed g.C.ChangeOf.put) changes.all c.requires.keyed in
    let parts = parts_of key_of cmp c.args.nodes.now c.node_of.result c.around.result.1.now.pages (pages_of c.around.result.2.now) c.requires.pages c.requires.rising c.around.ensures.pages in
    let first = first_from c.args.changes.now c.in-Some.change.now (sym c.first.ensures.value ∙ ap option_copied c.in-Some.is) in
    let behind : 0 < length c.around.result.2.now = grind (arith, nat_tests) in
    let more : c.node_of.result + 1 < length c.args.nodes.now = omega (arith, ap length c.around.ensures.behind, length-drop (c.node_of.result + 1) c.args.nodes.now) in
    let begin = c.node_of.ensures.ends more in
    let same : begin.first ≡ c.first_of.result.now = one_first begin.first c.first_of.result.now (pages_of c.around.result.2.now) (subst (λ behind. IsFirst begin.first (pages_of behind)) (sym c.around.ensures.behind) begin.is) c.first_of.ensures in
    let above : is_gt (cmp (key_of c.first_of.result.now) (g.C.ChangeOf.changed c.in-Some.change.now)) ≡ true =
    subst (λ key. is_gt (cmp (key_of c.first_of.result.now) key) ≡ true) c.key.ensures (subst (λ item. is_gt (cmp (key_of item) c.key.result.now) ≡ true) same begin.stands) in
    let some = some_before key_of g.met.By.KeyOf.total g.C.ChangeOf.changed c.first_of.result.now c.args.changes.now c.in-Some.change.now first.0 c.split_at.result.0.now c.split_at.result.1.now first.1 changes.all above changes.others in (
      omega (arith, c.around.ensures.fewer),
      (
        within.0,
        (
          within.1.0,
          (
            within.1.1.0,
            (
              within.1.1.1,
              (
                some,
                (
                  parts.pages_here,
                  (parts.rising_here, (rising_front g.C.ChangeOf.changed cmp c.split_at.result.0.now c.split_at.result.1.now rises, each_front _ c.split_at.result.0.now c.split_at.result.1.now keyed)),
                ),
              ),
            ),
          ),
        ),
      ),
    )

-- Fewer nodes stand behind it.
pub change_nodes-change_nodes-requires : goal.change_nodes-change_nodes-requires
change_nodes-change_nodes-requires g t c κs within =
    let key_of = g.By.KeyOf.key_of c.args.by in
    let cmp = g.By.KeyOf.key_cmp in
    let changes = c.split_at.ensures in
    let rises = subst (IsRising g.C.ChangeOf.changed cmp) changes.all c.requires.changes in
    let keyed = subst (AreKeyed key_of g.C.ChangeOf.changed g.C.ChangeOf.put) changes.all c.requires.keyed in
    let parts = parts_of key_of cmp c.args.nodes.now c.node_of.result c.around.result.1.now.pages (pages_of c.around.result.2.now) c.requires.pages c.requires.rising c.around.ensures.pages in
    let some : 0 < length c.around.result.2.now = grind (arith, nat_tests) in (
      omega (arith, c.around.ensures.fewer),
      (
        within.0,
        (
          within.1.0,
          (
            within.1.1.0,
            (
              within.1.1.1,
              (
                some,
                (
                  parts.pages_behind,
                  (parts.rising_behind, (rising_back g.C.ChangeOf.changed cmp c.split_at.result.0.now c.split_at.result.1.now rises, each_back _ c.split_at.result.0.now c.split_at.result.1.now keyed)),
                ),
              ),
            ),
          ),
        ),
      ),
    )
