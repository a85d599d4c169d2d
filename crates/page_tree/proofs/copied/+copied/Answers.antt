use Rattle.std.proofs.Common.{Global, ◌≡◌, ◌+◌, ◌∙◌, ◌++◌, ◌∷◌, [], List, ap, subst, take, drop, append_assoc, IfSome, Option, arith}
use Rattle.std.specs.Prelude.{◌⊎◌, true}
use Rattle.std.specs.declared.sync.Arc.{Arc}
use Rattle.std.proofs.lemmas.Grind.{flat_map-append}
use Rattle.page_tree.specs.Body.{pages_of}
use Rattle.page_tree.specs.Branch.{Branch}
use Rattle.page_tree.specs.NodeOf.{Begin}
use Rattle.page_tree.specs.PutWithin.{PutWithin}
use Rattle.page_tree.proofs.ChangeLemmas.{parts_of}
use Rattle.page_tree.proofs.NodeLemmas.{pages_split}
use Rattle.page_tree.proofs.WithinLemmas.{within_among}
use Rattle.page_tree.proofs.copied.+copied.Goals as goal

-- The node has fewer nodes below it than all, and its keys rise too.
pub copied_among-copied_node-requires : goal.copied_among-copied_node-requires
copied_among-copied_node-requires g t c κs within =
    let parts = parts_of (g.By.KeyOf.key_of c.args.by) g.By.KeyOf.key_cmp c.args.nodes.now c.way_among-number.result.0 c.around.result.1.now.pages _ c.requires.pages c.requires.rising c.around.ensures.pages in
    (omega (arith, c.around.ensures.fewer), (within.0, (within.1.0, (within.1.1.0, (within.1.1.1, (parts.pages_here, parts.rising_here))))))

-- The page is one of all.
pub copied_among-returns : goal.copied_among-returns
copied_among-returns g t c =
    let key_of = g.By.KeyOf.key_of c.args.by in
    let cmp = g.By.KeyOf.key_cmp in
    let changed = g.C.ChangeOf.changed in
    let put = g.C.ChangeOf.put in
    let change = c.args.change.now in
    let nodes = c.args.nodes.now in
    let number = c.way_among-number.result.0 in
    let below = c.way_among-number.result.1.ends in
    let here = c.around.result.1.now.pages in
    let copied = c.in-Some.copied.value.pages in
    let front = pages_of (take number nodes) in
    let rest = pages_of (drop (number + 1) nodes) in
    let puts = subst (λ (made : Option (Arc (Branch g.row.T.Denot) Global)). IfSome made (λ made. PutWithin key_of cmp changed put here change made.value.pages below)) c.in-Some.is c.in_ok-copied.ensures in
    let was : pages_of nodes ≡ front ++ (here ++ rest) =
    pages_split number nodes ∙ ap (λ pages. front ++ pages) (c.around.ensures.pages ∙ ap (λ (after : List (Arc (Branch g.row.T.Denot) Global)). here ++ pages_of after) c.around.ensures.behind) in
    let none : pages_of c.reserve_exact.new.self.items ≡ [] = ap pages_of (c.in_ok-reserve_exact.ensures.items ∙ c.new-made.ensures.items) in
    let first : pages_of c.push_nodes.new.made.items ≡ front = c.in_ok-push_nodes.ensures.pages ∙ (ap (λ pages. pages ++ pages_of c.around.result.0.now) none ∙ ap pages_of c.around.ensures.front) in
    let second : pages_of c.push.new.self.items ≡ front ++ (copied ++ []) =
    ap pages_of c.in_ok-push.ensures.items ∙ (flat_map-append (λ (node : Arc (Branch g.row.T.Denot) Global). node.value.pages) c.push_nodes.new.made.items (c.in-Some.copied ∷ []) ∙ ap (λ pages. pages ++ (copied ++ [])) first) in
    let made : c.in_ok-inner.field-0.value.pages ≡ front ++ (copied ++ rest) =
    c.in_ok-inner.ensures ∙ (c.in_ok-push_nodes-2.ensures.pages ∙ (ap (λ pages. pages ++ pages_of c.around.result.2.now) second
    ∙ (append_assoc front (copied ++ []) (pages_of c.around.result.2.now) ∙ (ap (λ pages. front ++ pages) (append_assoc copied [] (pages_of c.around.result.2.now))
    ∙ ap (λ (after : List (Arc (Branch g.row.T.Denot) Global)). front ++ (copied ++ pages_of after)) c.around.ensures.behind)))) in
    within_among key_of changed put nodes number here copied c.in_ok-inner.field-0.value.pages change below c.args.way.ends was made
    (subst (λ key. below ≡ true → Begin key_of cmp key true rest ⊎ ((rest ≡ []) × (c.args.way.ends ≡ true))) c.key.ensures c.way_among-number.ensures.ends) puts
