use Rattle.std.proofs.Common.{◌≡◌, ◌<◌, ◌∙◌, ap, arith, length, refl}
use Rattle.std.proofs.lemmas.List.{length-replicate, nil_from_length}
use Rattle.owner_graph.proofs.EndsLemmas.{lowers_within}
use Rattle.owner_graph.proofs.WalkedBackLemmas.{WalkedBack-all, WalkedBack-first, WalkedBack-more, last_reached, marked_within, none_marked}
use Rattle.owner_graph.proofs.incoming.Incoming.leading_to.Goals as goal

pub mark_lowers-requires : goal.mark_lowers-requires
mark_lowers-requires c =
    let self = c.args.self.now in
    let long : length c.in_ok-marks.marks.marked.items ≡ self.tables = ap length c.in_ok-marks.ensures.marked ∙ length-replicate self.tables _ in
    rw c.of_table.ensures (lowers_within self.tables _ c.args.table.0 self.edges.now long c.requires.within)

pub loop-reached-init : goal.loop-reached-init
loop-reached-init c =
    let self = c.args.self.now in
    let more = rw c.of_table.ensures at c.in_ok-mark_lowers.ensures in (
      WalkedBack-first self.edges.now c.args.table.0 c.in_ok-marks.marks c.mark_lowers.new.self (λ n. none_marked self.tables _ n c.in_ok-marks.ensures.marked) c.in_ok-marks.ensures.pending more,
      more.as_many ∙ ap length c.in_ok-marks.ensures.marked ∙ length-replicate self.tables _,
    )

pub of_table-requires-in-Some : goal.of_table-requires-in-Some
of_table-requires-in-Some c =
    let reached : c.in-Some.reached.0 < length c.loop-reached.marks.marked.items =
    marked_within _ _ (last_reached _ _ _ _ _ c.loop-reached.invariant.0 c.in-Some.ensures.items) in
    omega (arith, c.loop-reached.invariant.1)

pub mark_lowers-requires-in-Some : goal.mark_lowers-requires-in-Some
mark_lowers-requires-in-Some c =
    let self = c.args.self.now in
    rw c.of_table-in-Some.ensures (lowers_within self.tables _ c.in-Some.reached.0 self.edges.now c.loop-reached.invariant.1 c.requires.within)

pub loop-reached-preserved : goal.loop-reached-preserved
loop-reached-preserved c =
    let self = c.args.self.now in
    let more = rw c.of_table-in-Some.ensures at c.in_ok-mark_lowers-2.ensures in (
      WalkedBack-more self.edges.now c.args.table.0 c.loop-reached.marks _ _ c.in-Some.reached c.loop-reached.invariant.0 refl c.in-Some.ensures.items more,
      more.as_many ∙ c.loop-reached.invariant.1,
    )

pub returns-clause-leading : goal.returns-clause-leading
returns-clause-leading c =
    WalkedBack-all c.args.self.now.edges.now c.args.table.0 c.loop-reached.marks c.loop-reached.invariant.0 (nil_from_length c.loop-reached.marks.pending.items (omega (arith, c.in_default.ensures.cases.0)))
