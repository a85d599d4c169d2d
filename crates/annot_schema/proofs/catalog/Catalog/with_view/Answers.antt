use Rattle.std.proofs.Common.{◌<◌, length, sym, subst}
use Rattle.own_model.specs.declared.limit.TheConstants.{VIEWS}
use Rattle.annot_schema.specs.Created.{Created}
use Rattle.annot_schema.proofs.ViewedSchemas.{sound-viewed}
use Rattle.annot_schema.proofs.catalog.Catalog.with_view.Goals as goal

-- its edges have a graph
pub graph_of-requires-clause-owner : goal.graph_of-requires-clause-owner
graph_of-requires-clause-owner c =
    let room : length c.self.inside.schema.views < VIEWS = subst (λ (created : Created). length created.schema.views < VIEWS) (sym c.self.view_is) c.requires in
    rw c.in_ok-schema.ensures (sound-viewed c.self.inside.schema c.args.view c.self.invariant.sound room).owner

-- the schema with one view more is sound
pub invariant_of-result : goal.invariant_of-result
invariant_of-result c =
    let room : length c.self.inside.schema.views < VIEWS = subst (λ (created : Created). length created.schema.views < VIEWS) (sym c.self.view_is) c.requires in
    record {
      named = c.in_ok-names.ensures;
      ordered = c.in_ok-graph.ensures;
      sound = rw c.in_ok-schema.ensures (sound-viewed c.self.inside.schema c.args.view c.self.invariant.sound room);
    }
