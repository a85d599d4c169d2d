use Rattle.std.proofs.Common.{◌∙◌, false, get_or, sym, ap, arith}
use Rattle.owner_sets.proofs.MarkLemmas.{edges-elsewhere, edges-marked}
use Rattle.owner_sets.proofs.leading.add_edge.Goals as goal

pub returns-in_ok-add_number : goal.returns-in_ok-add_number
returns-in_ok-add_number g c =
    edges-marked (g.V.StoreView.db c.args.view.now).schema (g.V.StoreView.db c.args.view.now).rows c.args.reach.now c.args.subject.now c.args.table.0 c.args.edge.now c.deref.result.now
    c.args.lists.now.items c.add_number.new.lists.items (sym c.eq.ensures ∙ c.if-eq.true)
    (λ place within. ap (λ marks. get_or marks place false) c.deref.ensures.value ∙ c.in_ok-marks.ensures.each place (omega (arith, c.len.ensures)))
    c.in_ok-add_number.ensures

pub returns-else-eq : goal.returns-else-eq
returns-else-eq g c =
    edges-elsewhere (g.V.StoreView.db c.args.view.now).schema (g.V.StoreView.db c.args.view.now).rows c.args.reach.now c.args.subject.now c.args.table.0 c.args.edge.now c.args.lists.now.items
    (sym c.eq.ensures ∙ c.if-eq.false)
