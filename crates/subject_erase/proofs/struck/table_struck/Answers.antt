use Rattle.std.proofs.Common.{◌≡◌, length, sym, ◌∙◌, subst}
use Rattle.std.specs.Prelude.{◌==◌, filter}
use Rattle.own_model.specs.declared.schema.Edge.{Edge}
use Rattle.own_model.specs.Stored.{rows_at}
use Rattle.owner_sets.specs.Gathered.{IsWithin}
use Rattle.owner_sets.proofs.GatheredLemmas.{edge_within}
use Rattle.subject_model.specs.Stays.{struck}
use Rattle.subject_model.proofs.Members.{all_from_contained, contains_of_filter}
use Rattle.subject_erase.specs.Flags.{AreFlagsOfTable}
use Rattle.subject_erase.proofs.MarkLemmas.{AreUnmarked, all_unmarked}
use Rattle.subject_erase.proofs.StruckMarks.{marks-struck}
use Rattle.subject_erase.proofs.struck.table_struck.Goals as goal

pub mark-requires : goal.mark-requires
mark-requires g c = record {
  within =
      let schema = (g.V.StoreView.db c.args.view.now).schema in
      let out : c.edges_of.result.now ≡ filter (λ edge. edge.lower.0 == c.args.table.0) schema.edges = c.edges_of.ensures ∙ c.requires.graph.same_edges c.args.table.0 in
      rw out
      (all_from_contained (IsWithin schema) (filter (λ edge. edge.lower.0 == c.args.table.0) schema.edges)
      (λ edge among. edge_within schema edge c.requires.owner (contains_of_filter (λ (e : Edge). e.lower.0 == c.args.table.0) schema.edges edge among).0));
}

pub returns : goal.returns
returns g c = λ subject owned.
    let db = g.V.StoreView.db c.args.view.now in
    let out : c.edges_of.result.now ≡ filter (λ edge. edge.lower.0 == c.args.table.0) db.schema.edges = c.edges_of.ensures ∙ c.requires.graph.same_edges c.args.table.0 in
    let none : AreUnmarked (length (rows_at db.rows c.args.table.0)) c.in_ok-marks.marks.items = subst (λ n. AreUnmarked n c.in_ok-marks.marks.items) c.count.ensures (all_unmarked c.count.result c.in_ok-marks.marks.items c.in_ok-marks.ensures) in
    subst (AreFlagsOfTable db (struck db subject) c.args.table.0) (sym c.from_vec.ensures)
    (marks-struck db subject (g.met.V.StoreView.ordered c.args.view.now) c.requires.owner c.args.owned.now owned c.args.table c.edges_of.result.now out c.in_ok-marks.marks.items c.mark.new.marks.items none c.in_ok-mark.ensures)
