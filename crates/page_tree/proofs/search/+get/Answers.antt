use Rattle.std.proofs.Common.{◌<◌, ◌*◌, ◌+◌, sym, ◌∙◌, ap, subst, arith}
use Rattle.page_model.specs.Found.{found}
use Rattle.page_model.specs.Page.{joined}
use Rattle.page_model.specs.Rising.{IsRising}
use Rattle.page_tree.specs.Branch.{Branch}
use Rattle.page_tree.proofs.NodeLemmas.{nodes_from}
use Rattle.page_tree.proofs.NodeOfLemmas.{found_in_node, rising_within}
use Rattle.page_tree.proofs.search.+get.Goals as goal

-- The node has fewer nodes below it than all, and its keys rise too.
pub item_among-item_in-requires : goal.item_among-item_in-requires
item_among-item_in-requires g t c κs within =
    let fewer = nodes_from c.args.nodes.now c.node_of.result c.index-nodes-node_of.result c.node_of.ensures.within c.index-nodes-node_of.is in
    let rises = rising_within (g.By.KeyOf.key_of c.args.by) g.met.By.KeyOf.total c.args.nodes.now c.node_of.result c.index-nodes-node_of.result c.node_of.ensures.within c.index-nodes-node_of.is c.requires.rising in (
      subst (λ (branch : Branch g.row.T.Denot). 2 * branch.below + 1 < t) (sym c.deref.ensures) (omega arith),
      (
        within.0,
        (within.1.0, (within.1.1, subst (λ (branch : Branch g.row.T.Denot). IsRising (g.By.KeyOf.key_of c.args.by) g.By.KeyOf.key_cmp (joined branch.pages)) (sym c.deref.ensures) rises)),
      ),
    )

-- The key's item is in the node into which the key falls, or nowhere.
pub item_among-returns : goal.item_among-returns
item_among-returns g t c =
    c.item_in.ensures
    ∙ (ap (λ (branch : Branch g.row.T.Denot). found (g.By.KeyOf.key_of c.args.by) g.By.KeyOf.key_cmp c.args.key.now (joined branch.pages)) c.deref.ensures
    ∙ sym (found_in_node (g.By.KeyOf.key_of c.args.by) g.met.By.KeyOf.total c.args.key.now c.args.nodes.now c.node_of.result c.index-nodes-node_of.result c.index-nodes-node_of.is c.node_of.ensures c.requires.rising))
