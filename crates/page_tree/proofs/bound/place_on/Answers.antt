use Rattle.std.proofs.Common.{◌≡◌, ◌+◌, ◌-◌, ◌/◌, ◌<◌, length, arith}
use Rattle.std.specs.Prelude.{true, false}
use Rattle.page_tree.proofs.BelowLemmas.{below_upto, none_from}
use Rattle.page_tree.proofs.bound.place_on.Goals as goal

-- The item in the middle is below the bound, and so are all before it.
pub halves-preserved-then-is_above : goal.halves-preserved-then-is_above
halves-preserved-then-is_above g c =
    let below = g.B.BoundOf.below c.args.bound.now c.args.by in
    let less : c.halves.from < c.halves.upto = c.halves-test.true in
    let kept = c.halves.invariant in
    let within : c.halves.from + (c.halves.upto - c.halves.from) / 2 < length c.args.items.now = omega (arith, kept.end) in
    let passes : below c.index-items-middle.result ≡ true = cc in
    record {
      within = omega arith;
      end = kept.end;
      before = below_upto (g.By.KeyOf.key_of c.args.by) g.met.By.KeyOf.total below (g.met.B.BoundOf.monotone c.args.bound.now c.args.by) c.args.items.now (c.halves.from + (c.halves.upto - c.halves.from) / 2) c.index-items-middle.result within c.index-items-middle.is c.requires passes;
      behind = kept.behind;
    }

-- It isn't, and neither is any from it on.
pub halves-preserved : goal.halves-preserved
halves-preserved g c =
    let below = g.B.BoundOf.below c.args.bound.now c.args.by in
    let less : c.halves.from < c.halves.upto = c.halves-test.true in
    let kept = c.halves.invariant in
    let within : c.halves.from + (c.halves.upto - c.halves.from) / 2 < length c.args.items.now = omega (arith, kept.end) in
    let fails : below c.index-items-middle.result ≡ false = cc in
    record {
      within = omega arith;
      end = omega (arith, kept.end);
      before = kept.before;
      behind = none_from (g.By.KeyOf.key_of c.args.by) g.met.By.KeyOf.total below (g.met.B.BoundOf.monotone c.args.bound.now c.args.by) c.args.items.now (c.halves.from + (c.halves.upto - c.halves.from) / 2) c.index-items-middle.result within c.index-items-middle.is c.requires fails;
    }
