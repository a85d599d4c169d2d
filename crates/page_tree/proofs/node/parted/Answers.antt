use Rattle.std.proofs.Common.{◌<◌, length, arith}
use Rattle.page_tree.proofs.NodeLemmas.{items_split, nodes_some, nodes_split, pages_split}
use Rattle.page_tree.proofs.node.parted.Goals as goal

pub returns : goal.returns
returns g c =
    let split = c.split_at.ensures in
    let front : 0 < length c.split_at.result.0.now = omega arith in
    let back : 0 < length c.split_at.result.1.now = omega arith in
    record {
      front = split.front_len;
      back = split.back_len;
      pages = rw (split.front, split.back) (pages_split c.args.count c.args.nodes.now);
      items = rw (split.front, split.back) (items_split c.args.count c.args.nodes.now);
      fewer = rw (split.front, split.back) (nodes_split c.args.count c.args.nodes.now);
      some = (nodes_some c.split_at.result.0.now front, nodes_some c.split_at.result.1.now back);
    }
