use Rattle.std.proofs.Common.{List, sym, ap, subst}
use Rattle.std.specs.Prelude.{Option, is_some}
use Rattle.own_model.specs.declared.schema.Schema.{Schema}
use Rattle.own_model.specs.Db.{Row}
use Rattle.owner_sets.specs.IsSortedSet.{IsSortedSet}
use Rattle.owner_index.specs.declared.upper.Upper.{Upper}
use Rattle.owner_index.specs.declared.which.Which.TheVariants.{Owners, Reach}
use Rattle.owner_index.specs.Gathered.{gathered}
use Rattle.owner_index.proofs.OneRowLemmas.{absent_right}
use Rattle.owner_index.proofs.GatheredLemmas.{gathered_right}
use Rattle.owner_index.proofs.settle.subjects_of.Goals as goal

-- a row that isn't there is nobody's
pub returns-in_default-clause-owners : goal.returns-in_default-clause-owners
returns-in_default-clause-owners g c = λ above.
    absent_right Owners (g.V.StoreView.db c.args.view.now) c.args.name.now c.none.result.owners (g.met.V.StoreView.ordered c.args.view.now) c.requires.owner
    (ap (λ (o : Option Row). is_some o) (sym c.in_default.ensures)) c.none.ensures.owners

pub returns-in_default-clause-reach : goal.returns-in_default-clause-reach
returns-in_default-clause-reach g c = λ above.
    absent_right Reach (g.V.StoreView.db c.args.view.now) c.args.name.now c.none.result.reach (g.met.V.StoreView.ordered c.args.view.now) c.requires.owner
    (ap (λ (o : Option Row). is_some o) (sym c.in_default.ensures)) c.none.ensures.reach

-- of one that is there each set is what is gathered
pub returns-clause-owners : goal.returns-clause-owners
returns-clause-owners g c =
    gathered_right Owners (g.V.StoreView.db c.args.view.now) c.args.index.now c.args.name.now c.in_ok-uppers.uppers c.in_ok-owners.owners (g.met.V.StoreView.ordered c.args.view.now) c.requires.owner
    (ap (λ (o : Option Row). is_some o) (sym c.in-Some.ensures)) c.in_ok-uppers.ensures
    (subst (λ (schema : Schema). IsSortedSet (gathered Owners schema c.args.index.now c.args.name.now c.in_ok-uppers.uppers) c.in_ok-owners.owners) c.schema-schema.ensures
    (subst (λ (uppers : List Upper). IsSortedSet (gathered Owners c.schema-schema.result.now c.args.index.now c.args.name.now uppers) c.in_ok-owners.owners) c.items.ensures c.in_ok-owners.ensures))

pub returns-clause-reach : goal.returns-clause-reach
returns-clause-reach g c =
    gathered_right Reach (g.V.StoreView.db c.args.view.now) c.args.index.now c.args.name.now c.in_ok-uppers.uppers c.in_ok-reach.reach (g.met.V.StoreView.ordered c.args.view.now) c.requires.owner
    (ap (λ (o : Option Row). is_some o) (sym c.in-Some.ensures)) c.in_ok-uppers.ensures
    (subst (λ (schema : Schema). IsSortedSet (gathered Reach schema c.args.index.now c.args.name.now c.in_ok-uppers.uppers) c.in_ok-reach.reach) c.schema-schema.ensures
    (subst (λ (uppers : List Upper). IsSortedSet (gathered Reach c.schema-schema.result.now c.args.index.now c.args.name.now uppers) c.in_ok-reach.reach) c.items-2.ensures c.in_ok-reach.ensures))
