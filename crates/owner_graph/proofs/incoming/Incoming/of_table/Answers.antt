use Rattle.std.proofs.Common.{ap, arith, get_or, length, ◌∙◌}
use Rattle.owner_graph.specs.declared.end.End.TheVariants.{Upper}
use Rattle.owner_graph.proofs.EndsLemmas.{get_or-by_table, length-by_table}
use Rattle.owner_graph.proofs.incoming.Incoming.of_table.Goals as goal

pub index-requires : goal.index-requires
index-requires c =
    let incoming = c.args.self.now in
    omega (arith, ap length incoming.grouped, length-by_table Upper incoming.tables incoming.edges.now)

pub returns : goal.returns
returns c =
    let incoming = c.args.self.now in
    c.items.ensures ∙ c.index.ensures ∙ ap (λ groups. get_or groups c.args.table.0 c.index.result.now) incoming.grouped
    ∙ get_or-by_table Upper incoming.tables incoming.edges.now c.args.table.0 _ c.requires
