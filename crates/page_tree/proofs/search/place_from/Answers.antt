use Rattle.std.proofs.Common.{◌≡◌, ◌<◌, ◌≤◌, length, arith}
use Rattle.std.specs.Prelude.{true, false}
use Rattle.std.specs.Ordering.{is_gt, is_lt}
use Rattle.page_tree.proofs.SearchLemmas.{before_here, before_next}
use Rattle.page_tree.proofs.search.place_from.Goals as goal

-- The item at the place that hints tell isn't above the key.
pub returns-then-not-is_gt-clause-before : goal.returns-then-not-is_gt-clause-before
returns-then-not-is_gt-clause-before g c =
    let key_of = g.By.KeyOf.key_of c.args.by in
    let within : c.count_below-place.result < length c.args.items.now = omega arith in
    let upto : is_gt (g.By.KeyOf.key_cmp (key_of c.index-items-place.result) c.args.key.now) ≡ false = cc in
    before_here key_of g.met.By.KeyOf.total c.args.key.now c.args.items.now c.count_below-place.result c.index-items-place.result within c.index-items-place.is c.requires upto

-- The one before it is below the key.
pub returns-then-is_lt-clause-before : goal.returns-then-is_lt-clause-before
returns-then-is_lt-clause-before g c =
    let key_of = g.By.KeyOf.key_of c.args.by in
    let item = c.index-items-place-then-place-items-2.result in
    let some : 0 < c.count_below-place.result = omega arith in
    let within : c.count_below-place.result ≤ length c.args.items.now = omega arith in
    let below : is_lt (g.By.KeyOf.key_cmp (key_of item) c.args.key.now) ≡ true = cc in
    before_next key_of g.met.By.KeyOf.total c.args.key.now c.args.items.now c.count_below-place.result item some within c.index-items-place-then-place-items-2.is c.requires below
