use Rattle.std.proofs.Common.{◌≡◌}
use Rattle.std.specs.Prelude.{true, false}
use Rattle.std.specs.Ordering.{is_lt}
use Rattle.std.specs.declared.cmp.Ordering.TheVariants.{Less}
use Rattle.page_model.proofs.Ordered.{less_from}
use Rattle.page_tree.proofs.SearchLemmas.{each_more, place_at}
use Rattle.page_tree.proofs.search.place_of.Goals as goal

-- The first item that isn't below the key.
pub returns-then-not-is_lt : goal.returns-then-not-is_lt
returns-then-not-is_lt g c =
    let key_of = g.By.KeyOf.key_of c.args.by in
    let upto : is_lt (g.By.KeyOf.key_cmp (key_of c.index-items-place.result) c.args.key.now) ≡ false = cc in
    place_at key_of g.met.By.KeyOf.total c.args.key.now c.args.items.now c.loop-place.place c.index-items-place.result c.loop-place-test.true c.index-items-place.is c.requires c.loop-place.invariant upto

-- One more that is below it.
pub loop-place-preserved : goal.loop-place-preserved
loop-place-preserved g c =
    let key_of = g.By.KeyOf.key_of c.args.by in
    let below : is_lt (g.By.KeyOf.key_cmp (key_of c.index-items-place.result) c.args.key.now) ≡ true = cc in
    each_more (λ item. g.By.KeyOf.key_cmp (key_of item) c.args.key.now ≡ Less) c.args.items.now c.loop-place.place c.index-items-place.result c.loop-place-test.true c.index-items-place.is c.loop-place.invariant (less_from _ below)
