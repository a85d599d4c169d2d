use Rattle.std.proofs.Common.{ap, sym, subst, ◌∙◌}
use Rattle.annot_schema.specs.Created.{Created, IsAdmissible, schema_with}
use Rattle.annot_schema.proofs.SoundSchemas.{schema_with-admitted, sound-with}
use Rattle.annot_schema.proofs.catalog.Catalog.with_table.Goals as goal

-- its edges have a graph
pub graph_of-requires-clause-limits : goal.graph_of-requires-clause-limits
graph_of-requires-clause-limits c =
    let admissible : IsAdmissible c.self.inside.schema c.args.admitted = subst (λ (created : Created). IsAdmissible created.schema c.args.admitted) (sym c.self.view_is) c.requires in
    rw c.in_ok-schema.ensures (sound-with c.self.inside.schema c.args.admitted c.self.invariant.sound admissible).within

pub graph_of-requires-clause-owner : goal.graph_of-requires-clause-owner
graph_of-requires-clause-owner c =
    let admissible : IsAdmissible c.self.inside.schema c.args.admitted = subst (λ (created : Created). IsAdmissible created.schema c.args.admitted) (sym c.self.view_is) c.requires in
    rw c.in_ok-schema.ensures (sound-with c.self.inside.schema c.args.admitted c.self.invariant.sound admissible).owner

-- what is admitted leaves a sound schema
pub invariant_of-result : goal.invariant_of-result
invariant_of-result c =
    let admissible : IsAdmissible c.self.inside.schema c.args.admitted = subst (λ (created : Created). IsAdmissible created.schema c.args.admitted) (sym c.self.view_is) c.requires in
    record {
      named = c.in_ok-names.ensures;
      ordered = c.in_ok-graph.ensures;
      sound = rw c.in_ok-schema.ensures (sound-with c.self.inside.schema c.args.admitted c.self.invariant.sound admissible);
    }

-- it is that after the CREATE
pub returns-clause-schema : goal.returns-clause-schema
returns-clause-schema c = λ holds_rows create by.
    c.in_ok-schema.ensures ∙ ap (λ (created : Created). schema_with created.schema c.args.admitted) c.self.view_is
    ∙ schema_with-admitted c.args.self.now.schema holds_rows create c.args.admitted by
