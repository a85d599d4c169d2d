-- What a total order gives.
use Rattle.std.proofs.Common.{◌≡◌, refl, sym, ◌∙◌, ap}
use Rattle.std.specs.Prelude.{true, false}
use Rattle.std.specs.Cmp.{IsTotalOrder}
use Rattle.std.specs.Ordering.{is_eq, is_gt, is_lt, ordering_reverse}
use Rattle.std.specs.declared.cmp.Ordering.{Ordering}
use Rattle.std.specs.declared.cmp.Ordering.TheVariants.{Less, Equal, Greater}
use Rattle.std.proofs.lemmas.Cmp.{alike_right, tied_itself}

module _ {K : Type 0} {cmp : K → K → Ordering} (order : IsTotalOrder cmp) where
  -- the other way round
  pub above_from_below : (x y : K) → cmp x y ≡ Less → cmp y x ≡ Greater
  above_from_below x y below = order.antisymm y x ∙ ap ordering_reverse below

  pub below_from_above : (x y : K) → cmp x y ≡ Greater → cmp y x ≡ Less
  below_from_above x y above = order.antisymm y x ∙ ap ordering_reverse above

  -- below a key, and the other isn't below it
  below_by : (x y z : K) (o : Ordering) → cmp y z ≡ o → cmp x z ≡ Less → is_lt o ≡ false → cmp x y ≡ Less
  below_by x y z Less is below not_below = cc
  below_by x y z Equal is below not_below = alike_right order y z x is ∙ below
  below_by x y z Greater is below not_below = order.trans x z y below (below_from_above y z is)

  pub below_other : (x y z : K) → cmp x z ≡ Less → is_lt (cmp y z) ≡ false → cmp x y ≡ Less
  below_other x y z below not_below = below_by x y z (cmp y z) refl below not_below

  -- not below a key, and neither is what is above it
  not_below_by : (x y z : K) (o : Ordering) → cmp x z ≡ o → is_lt o ≡ false → cmp x y ≡ Less → is_lt (cmp y z) ≡ false
  not_below_by x y z Less is not_below below = cc
  not_below_by x y z Equal is not_below below = ap is_lt (sym (alike_right order x z y is) ∙ above_from_below x y below)
  not_below_by x y z Greater is not_below below = ap is_lt (above_from_below z y (order.trans z x y (below_from_above x z is) below))

  pub not_below_above : (x y z : K) → is_lt (cmp x z) ≡ false → cmp x y ≡ Less → is_lt (cmp y z) ≡ false
  not_below_above x y z not_below below = not_below_by x y z (cmp x z) refl not_below below

  -- what is above what isn't below a key is above it
  tied_above_by : (x y z : K) (o : Ordering) → cmp x z ≡ o → is_lt o ≡ false → cmp x y ≡ Less → cmp y z ≡ Greater
  tied_above_by x y z Less is not_below below = cc
  tied_above_by x y z Equal is not_below below = sym (alike_right order x z y is) ∙ above_from_below x y below
  tied_above_by x y z Greater is not_below below = above_from_below z y (order.trans z x y (below_from_above x z is) below)

  pub tied_above : (x y z : K) → is_lt (cmp x z) ≡ false → cmp x y ≡ Less → cmp y z ≡ Greater
  tied_above x y z not_below below = tied_above_by x y z (cmp x z) refl not_below below

  -- a key isn't below itself
  pub not_below_itself : (x : K) → is_lt (cmp x x) ≡ false
  not_below_itself x = ap is_lt (tied_itself order x)

-- an answer that isn't Less or Equal is Greater
pub greater_from : (o : Ordering) → is_lt o ≡ false → is_eq o ≡ false → o ≡ Greater
greater_from Less not_below not_equal = cc
greater_from Equal not_below not_equal = cc
greater_from Greater not_below not_equal = refl

pub less_from : (o : Ordering) → is_lt o ≡ true → o ≡ Less
less_from Less below = refl
less_from Equal below = cc
less_from Greater below = cc

pub greater_from_gt : (o : Ordering) → is_gt o ≡ true → o ≡ Greater
greater_from_gt Less above = cc
greater_from_gt Equal above = cc
greater_from_gt Greater above = refl

pub equal_from : (o : Ordering) → is_eq o ≡ true → o ≡ Equal
equal_from Less equal = cc
equal_from Equal equal = refl
equal_from Greater equal = cc
