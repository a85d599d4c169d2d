use Rattle.std.proofs.Common.{◌≡◌, ◌<◌, ◌≤◌, ◌+◌, true, false, length, drop, sym, ◌∙◌, ap, arith}
use Rattle.std.specs.Prelude.{◌&&◌}
use Rattle.std.proofs.lemmas.Bool.Decides.{nat_tests}
use Rattle.state_model.specs.Same.{is_same_row, is_same_value}
use Rattle.txn_space.proofs.SameLemmas.{other_lengths, same_on, same_past}
use Rattle.txn_space.proofs.net.is_same_row.Goals as goal

pub returns-then-left-right : goal.returns-then-left-right
returns-then-left-right c = sym (other_lengths c.args.left.now c.args.right.now (λ same. grind (arith, nat_tests)))

-- The values here differ, and so do the rows.
pub returns-then-not-is_same_value : goal.returns-then-not-is_same_value
returns-then-not-is_same_value c =
    let left = c.args.left.now in
    let right = c.args.right.now in
    let place = c.loop-place.place in
    let inside : place < length left = grind (arith, nat_tests) in
    let within : place < length right = omega (arith, c.loop-place.invariant.lengths) in
    let differ : is_same_value c.index-left-place.result c.index-right-place.result ≡ false = sym c.is_same_value.ensures ∙ c.if-not-is_same_value.true in
    sym (c.loop-place.invariant.rest ∙ (same_on left right place c.index-left-place.result c.index-right-place.result inside within c.index-left-place.is c.index-right-place.is
    ∙ ap (λ b. b && is_same_row (drop (place + 1) left) (drop (place + 1) right)) differ))

pub loop-place-preserved : goal.loop-place-preserved
loop-place-preserved c =
    let left = c.args.left.now in
    let right = c.args.right.now in
    let place = c.loop-place.place in
    let inside : place < length left = grind (arith, nat_tests) in
    let within : place < length right = omega (arith, c.loop-place.invariant.lengths) in
    let equal : is_same_value c.index-left-place.result c.index-right-place.result ≡ true = sym c.is_same_value.ensures ∙ c.if-not-is_same_value.false in
    record {
      lengths = c.loop-place.invariant.lengths;
      rest = c.loop-place.invariant.rest ∙ (same_on left right place c.index-left-place.result c.index-right-place.result inside within c.index-left-place.is c.index-right-place.is
          ∙ ap (λ b. b && is_same_row (drop (place + 1) left) (drop (place + 1) right)) equal);
    }

pub returns : goal.returns
returns c =
    let past : length c.args.left.now ≤ c.loop-place.place = grind (arith, nat_tests) in
    sym (c.loop-place.invariant.rest ∙ same_past c.args.left.now c.args.right.now c.loop-place.place past (omega (arith, c.loop-place.invariant.lengths)))
