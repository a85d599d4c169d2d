use Rattle.std.proofs.Common.{ℕ, List, [], get_or}
use Rattle.std.specs.Prelude.{◌==◌, filter}
use Rattle.std.proofs.lemmas.Result.{IfOk-weaker}
use Rattle.own_model.specs.declared.schema.Edge.{Edge}
use Rattle.schema_model.proofs.Places.{place-lt}
use Rattle.subject_model.proofs.Members.{all_from_contained, contains_of_filter}
use Rattle.own_model.specs.Stored.{rows_at}
use Rattle.own_base.specs.declared.row_name.Subject.{Subject}
use Rattle.owner_sets.specs.IsSortedSet.{IsSortedSet}
use Rattle.owner_sets.specs.Gathered.{IsWithin}
use Rattle.owner_sets.specs.Sets.{AreSetsOfTable}
use Rattle.owner_sets.specs.WhichSets.{listed}
use Rattle.owner_sets.proofs.GatheredLemmas.{edge_within}
use Rattle.owner_sets.proofs.SetsLemmas.{sorted_sets}
use Rattle.owner_sets.proofs.sets.table_sets.Goals as goal

pub gathered-requires-clause-within : goal.gathered-requires-clause-within
gathered-requires-clause-within g c =
    let schema = (g.V.StoreView.db c.args.view.now).schema in
    rw (c.requires.edges)
    (all_from_contained (IsWithin schema) (filter (λ edge. edge.lower.0 == c.args.table.0) schema.edges)
    (λ edge among. edge_within schema edge c.requires.owner (contains_of_filter (λ (e : Edge). e.lower.0 == c.args.table.0) schema.edges edge among).0))

-- what is gathered for each row is whose it is
pub returns : goal.returns
returns g c =
    let schema = (g.V.StoreView.db c.args.view.now).schema in
    let db = g.V.StoreView.db c.args.view.now in
    IfOk-weaker c.as_sets.result
    (λ (sets : List (List Subject)). (place : ℕ) → IsSortedSet (get_or c.in_ok-lists.lists.items place []) (get_or sets place []))
    (AreSetsOfTable db (listed c.args.which db) c.args.table.0)
    (λ sets as_sorted.
    sorted_sets c.args.which db c.args.done.now (g.met.V.StoreView.ordered c.args.view.now) c.requires.owner c.args.table c.args.edges.now c.requires.edges c.requires.above c.in_ok-lists.lists.items sets
    (λ place row at. c.in_ok-lists.ensures.each place (place-lt (rows_at db.rows c.args.table.0) place row at)) c.in_ok-lists.ensures.rows as_sorted)
    c.as_sets.ensures
