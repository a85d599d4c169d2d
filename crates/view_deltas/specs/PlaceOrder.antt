-- The order of places is total, and places that tie are one.
use Rattle.std.specs.Prelude.{◌≡◌, Option, None, Some}
use Rattle.std.proofs.Common.{ap, refl, ◌∙◌}
use Rattle.std.specs.Cmp.{IsTotalOrder}
use Rattle.std.specs.Cmp.Lexicographic.{options_total}
use Rattle.std.specs.Ordering.{ordering_then}
use Rattle.std.specs.declared.cmp.Ordering.{Ordering}
use Rattle.std.specs.declared.cmp.Ordering.TheVariants.{Less, Equal, Greater}
use Rattle.own_base.specs.declared.value.Key.{Key}
use Rattle.own_model.proofs.KeyOrder.{key_order}
use Rattle.ordered_pairs.specs.KeyExact.{key_exact}
use Rattle.ordered_pairs.specs.PairOrder.{pair_total}
use Rattle.view_deltas.specs.Place.{Place, place_cmp, side_cmp}

pub side_total : IsTotalOrder side_cmp
side_total = options_total key_order

pub place_total : IsTotalOrder place_cmp
place_total = pair_total side_cmp side_cmp side_total side_total

pub side_exact : (one other : Option Key) → side_cmp one other ≡ Equal → one ≡ other
side_exact None None is = refl
side_exact None (Some other) is = cc
side_exact (Some one) None is = cc
side_exact (Some one) (Some other) is = ap (λ key. Some key) (key_exact one other is)

-- both parts tie
both_tie : (o p : Ordering) → ordering_then o p ≡ Equal → (o ≡ Equal) × (p ≡ Equal)
both_tie Less p is = cc
both_tie Equal p is = (refl, is)
both_tie Greater p is = cc

pub place_exact : (one other : Place) → place_cmp one other ≡ Equal → one ≡ other
place_exact (one, here) (other, there) is =
    let both = both_tie (side_cmp one other) (side_cmp here there) is in
    let pair : Option Key → Option Key → Place = λ x y. (x, y) in
    ap (λ x. pair x here) (side_exact one other both.0) ∙ ap (pair other) (side_exact here there both.1)
