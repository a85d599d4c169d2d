use Rattle.std.proofs.Common.{◌≡◌, sym, subst, rules}
use Rattle.std.specs.Prelude.{false}
use Rattle.std.specs.List.{AllByRecursion as Each}
use Rattle.std.specs.Ordering.{is_gt, is_lt}
use Rattle.std.specs.declared.cmp.Ordering.TheVariants.{Less}
use Rattle.std.proofs.lemmas.List.Sorted.{IsPartitionPoint-from_clause}
use Rattle.page_model.specs.Place.{IsPlaceOf}
use Rattle.page_model.proofs.PlaceLemmas.{partitioned_turned, place_from_partition_turned}
use Rattle.page_tree.proofs.change.split_at.Given.{Over}
use Rattle.page_tree.proofs.change.split_at.Goals as goal

-- The changes that the test passes are those below the item.
place : (g : Over) (c : goal.After-split_at g) → IsPlaceOf g.C.ChangeOf.changed g.By.KeyOf.key_cmp (g.By.KeyOf.key_of c.args.by c.args.item.now) c.args.changes.now c.partition_point.result
place g c =
    let order = g.met.By.KeyOf.total in
    let key = g.By.KeyOf.key_of c.args.by c.args.item.now in
    let point = IsPartitionPoint-from_clause (λ change. is_gt (g.By.KeyOf.key_cmp key (g.C.ChangeOf.changed change))) c.args.changes.now c.partition_point.result c.partition_point.ensures.partitioned
    (partitioned_turned g.C.ChangeOf.changed order key c.args.changes.now c.requires) (λ a r q k. search rules) in
    place_from_partition_turned g.C.ChangeOf.changed order key c.args.changes.now c.partition_point.result c.partition_point.ensures.bound point

pub returns-clause-below : goal.returns-clause-below
returns-clause-below g c =
    subst (Each (λ change. g.By.KeyOf.key_cmp (g.C.ChangeOf.changed change) (g.By.KeyOf.key_of c.args.by c.args.item.now) ≡ Less)) (sym c.split_at.ensures.front) (place g c).before

pub returns-clause-others : goal.returns-clause-others
returns-clause-others g c =
    subst (Each (λ change. is_lt (g.By.KeyOf.key_cmp (g.C.ChangeOf.changed change) (g.By.KeyOf.key_of c.args.by c.args.item.now)) ≡ false)) (sym c.split_at.ensures.back) (place g c).behind
