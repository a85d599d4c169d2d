use Rattle.std.proofs.Common.{◌<◌, ◌∙◌, arith, length, sym}
use Rattle.std.proofs.lemmas.List.{get_or_read}
use Rattle.owner_graph.proofs.LeftLemmas.{placed_open}
use Rattle.owner_graph.proofs.incoming.Incoming.way_back_among.Goals as goal

pub returns-then-index-eq0 : goal.returns-then-index-eq0
returns-then-index-eq0 c =
    let self = c.args.self.now in
    let sorting = c.args.sorting.now in
    let there : c.args.table.0 < length sorting.waiting.items = omega (arith, c.requires.there, c.requires.tables) in
    placed_open self.tables self.edges.now sorting.order.items sorting.waiting.items c.requires.within c.requires.all c.requires.tables c.args.table.0 c.requires.there
    (sym (get_or_read sorting.waiting.items c.args.table.0 c.index.result.now there c.index.ensures 0) ∙ c.if-index-eq0.true)
