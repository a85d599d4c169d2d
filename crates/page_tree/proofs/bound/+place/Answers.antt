use Rattle.std.proofs.Common.{◌≡◌, ◌∙◌, ◌++◌, ◌+◌, ap, sym, subst, length, length-append, drop, take, arith}
use Rattle.std.proofs.lemmas.Grind.{flat_map-append}
use Rattle.page_model.specs.Bound.{Divides}
use Rattle.page_model.specs.Page.{joined}
use Rattle.page_model.specs.Rising.{IsRising}
use Rattle.page_model.proofs.RisingLemmas.{rising_front}
use Rattle.page_tree.specs.Body.{pages_of}
use Rattle.page_tree.proofs.BelowLemmas.{divides_in_node}
use Rattle.page_tree.proofs.NodeLemmas.{items_split}
use Rattle.page_tree.proofs.NodeOfLemmas.{rising_from}
use Rattle.page_tree.proofs.bound.+place.Goals as goal

-- The items before the node are some of all.
pub place_among-items_of-requires : goal.place_among-items_of-requires
place_among-items_of-requires g t c =
    let nodes = c.args.nodes.now in
    let number = c.node_below.result in
    let all : length (joined (pages_of nodes)) ≡ length (joined (pages_of (take number nodes))) + length (joined (pages_of (drop number nodes))) =
    ap length (items_split number nodes) ∙ length-append (joined (pages_of (take number nodes))) (joined (pages_of (drop number nodes))) in
    let front : length (joined (pages_of c.around.result.0.now)) ≡ length (joined (pages_of (take number nodes))) = ap (λ some. length (joined (pages_of some))) c.around.ensures.front in
    omega (arith, c.requires.counted)

-- The node has fewer nodes below it than all, and its keys rise too.
pub place_among-place_in-requires : goal.place_among-place_in-requires
place_among-place_in-requires g t c κs within =
    let key_of = g.By.KeyOf.key_of c.args.by in
    let cmp = g.By.KeyOf.key_cmp in
    let here = c.around.result.1.now.pages in
    let behind = pages_of c.around.result.2.now in
    let from = ap joined c.around.ensures.pages ∙ flat_map-append (λ page. page) here behind in
    let rises = rising_front key_of cmp (joined here) (joined behind) (subst (IsRising key_of cmp) from (rising_from key_of g.met.By.KeyOf.total c.args.nodes.now c.node_below.result c.requires.rising)) in
    (omega (arith, c.around.ensures.fewer), (within.0, (within.1.0, (within.1.1.0, (within.1.1.1, rises)))))

-- The items before the node and some of the node's.
pub place_among-overflow_add-result : goal.place_among-overflow_add-result
place_among-overflow_add-result g t c =
    let nodes = c.args.nodes.now in
    let number = c.node_below.result in
    let here = c.around.result.1.now.pages in
    let behind = pages_of c.around.result.2.now in
    let all : length (joined (pages_of nodes)) ≡ length (joined (pages_of (take number nodes))) + length (joined (pages_of (drop number nodes))) =
    ap length (items_split number nodes) ∙ length-append (joined (pages_of (take number nodes))) (joined (pages_of (drop number nodes))) in
    let from : length (joined (pages_of (drop number nodes))) ≡ length (joined here) + length (joined behind) =
    ap length (ap joined c.around.ensures.pages ∙ flat_map-append (λ page. page) here behind) ∙ length-append (joined here) (joined behind) in
    let front : length (joined (pages_of c.around.result.0.now)) ≡ length (joined (pages_of (take number nodes))) = ap (λ some. length (joined (pages_of some))) c.around.ensures.front in
    omega (arith, c.requires.counted, c.items_of.ensures, c.place_in.ensures.within)

-- The bound divides all where it divides the node's.
pub place_among-returns : goal.place_among-returns
place_among-returns g t c =
    let key_of = g.By.KeyOf.key_of c.args.by in
    let below = g.B.BoundOf.below c.args.bound.now c.args.by in
    let nodes = c.args.nodes.now in
    let number = c.node_below.result in
    let here = c.around.result.1.now.pages in
    let from = ap joined c.around.ensures.pages ∙ (flat_map-append (λ page. page) here (pages_of c.around.result.2.now) ∙ ap (λ some. joined here ++ joined (pages_of some)) c.around.ensures.behind) in
    let front : c.items_of.result ≡ length (joined (pages_of (take number nodes))) = c.items_of.ensures ∙ ap (λ some. length (joined (pages_of some))) c.around.ensures.front in
    subst (λ n. Divides below (joined (pages_of nodes)) (n + c.place_in.result)) (sym front)
    (divides_in_node key_of g.met.By.KeyOf.total below (g.met.B.BoundOf.monotone c.args.bound.now c.args.by) nodes number (joined here) c.place_in.result c.node_below.ensures c.requires.rising from c.place_in.ensures)
