use Rattle.std.proofs.Common.{◌≡◌, ◌≤◌, ◌∙◌, ap, arith, length, map, slice_index, subst, sym}
use Rattle.std.proofs.lemmas.List.{length-map}
use Rattle.owner_graph.specs.declared.end.End.TheVariants.{Lower}
use Rattle.owner_graph.specs.Ends.{by_table}
use Rattle.owner_graph.proofs.EndsLemmas.{length-by_table}
use Rattle.owner_graph.proofs.ReleasedLemmas.{Released-all, Released-more, Released-none, next_within, wait_for_next}
use Rattle.owner_graph.proofs.WaitingLemmas.{edges_of}
use Rattle.owner_graph.proofs.topological_sort.TopologicalSort.with_edges.Goals as goal

pub start-requires : goal.start-requires
start-requires c =
    let incoming = c.args.incoming.now in
    ap length c.requires.up ∙ length-by_table Lower incoming.tables incoming.edges.now

pub loop-released-init : goal.loop-released-init
loop-released-init c =
    let incoming = c.args.incoming.now in
    let groups = by_table Lower incoming.tables incoming.edges.now in
    let waiting : c.in_ok-sorting.sorting.waiting.items ≡ map length groups = c.in_ok-sorting.ensures.waiting ∙ ap (map length) c.requires.up in (
      Released-none incoming.tables incoming.edges.now _ _ c.requires.within c.in_ok-sorting.ensures.sorting waiting,
      ap length waiting ∙ length-map groups length ∙ length-by_table Lower incoming.tables incoming.edges.now,
    )

pub of_table-requires : goal.of_table-requires
of_table-requires c =
    next_within _ _ _ _ _ c.loop-released.invariant.0 (omega arith) c.index-table.ensures _ c.loop-released.invariant.1

pub release_all-requires-clause-wait : goal.release_all-requires-clause-wait
release_all-requires-clause-wait c =
    λ number. subst (λ l. edges_of l number ≤ slice_index c.loop-released.sorting.waiting.items number) (sym c.of_table.ensures) (wait_for_next _ _ _ _ _ c.loop-released.invariant.0 (omega arith) c.index-table.ensures number)

pub loop-released-preserved : goal.loop-released-preserved
loop-released-preserved c =
    let less = rw c.of_table.ensures at c.in_ok-release_all.ensures.less in (
      Released-more _ _ _ _ _ c.loop-released.invariant.0 (omega arith) c.index-table.ensures _ _ c.in_ok-release_all.ensures.sorting c.in_ok-release_all.ensures.longer less,
      less.as_many ∙ c.loop-released.invariant.1,
    )

pub returns-clause-all : goal.returns-clause-all
returns-clause-all c = Released-all _ _ _ _ c.loop-released.invariant.0 (omega arith)
