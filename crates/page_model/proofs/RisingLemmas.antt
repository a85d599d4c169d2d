-- Keys that rise.
use Rattle.std.proofs.Common.{◌≡◌, List, [], ◌∷◌, ◌++◌, map}
use Rattle.std.specs.Prelude.{false}
use Rattle.std.specs.Cmp.{IsTotalOrder}
use Rattle.std.specs.List.{AllByRecursion as Each}
use Rattle.std.specs.List.Sorted.{IsStrictlySortedBy}
use Rattle.std.specs.Ordering.{is_lt}
use Rattle.std.specs.declared.cmp.Ordering.{Ordering}
use Rattle.std.specs.declared.cmp.Ordering.TheVariants.{Less}
use Rattle.page_model.specs.Rising.{IsRising}
use Rattle.page_model.proofs.Ordered.{not_below_above, not_below_itself}

-- what holds of each
pub each_weaker : {X : Type 0} (P Q : X → Type 0) → ((x : X) → P x → Q x) → (xs : List X) → Each P xs → Each Q xs
each_weaker P Q f [] h = tt
each_weaker P Q f (x ∷ xs) h = (f x h.0, each_weaker P Q f xs h.1)

pub each_append : {X : Type 0} (P : X → Type 0) (xs ys : List X) → Each P xs → Each P ys → Each P (xs ++ ys)
each_append P [] ys h i = i
each_append P (x ∷ xs) ys h i = (h.0, each_append P xs ys h.1 i)

pub each_front : {X : Type 0} (P : X → Type 0) (xs ys : List X) → Each P (xs ++ ys) → Each P xs
each_front P [] ys h = tt
each_front P (x ∷ xs) ys h = (h.0, each_front P xs ys h.1)

pub each_back : {X : Type 0} (P : X → Type 0) (xs ys : List X) → Each P (xs ++ ys) → Each P ys
each_back P [] ys h = h
each_back P (x ∷ xs) ys h = each_back P xs ys h.1

pub each_map : {X Y : Type 0} (P : Y → Type 0) (f : X → Y) (xs : List X) → Each P (map f xs) → Each (λ x. P (f x)) xs
each_map P f [] h = tt
each_map P f (x ∷ xs) h = (h.0, each_map P f xs h.1)

pub each_mapped : {X Y : Type 0} (P : Y → Type 0) (f : X → Y) (xs : List X) → Each (λ x. P (f x)) xs → Each P (map f xs)
each_mapped P f [] h = tt
each_mapped P f (x ∷ xs) h = (h.0, each_mapped P f xs h.1)

module _ {T K : Type 0} (key_of : T → K) (cmp : K → K → Ordering) where
  pub rising_front : (xs ys : List T) → IsRising key_of cmp (xs ++ ys) → IsRising key_of cmp xs
  unfolding IsStrictlySortedBy
  rising_front [] ys h = tt
  rising_front (x ∷ xs) ys h = (each_mapped _ key_of xs (each_front _ xs ys (each_map _ key_of (xs ++ ys) h.0)), rising_front xs ys h.1)

  pub rising_back : (xs ys : List T) → IsRising key_of cmp (xs ++ ys) → IsRising key_of cmp ys
  unfolding IsStrictlySortedBy
  rising_back [] ys h = h
  rising_back (x ∷ xs) ys h = rising_back xs ys h.1

  -- those before an item are below it, and it is below those behind it
  pub rising_before : (xs : List T) (y : T) (ys : List T) → IsRising key_of cmp (xs ++ y ∷ ys) → Each (λ x. cmp (key_of x) (key_of y) ≡ Less) xs
  unfolding IsStrictlySortedBy
  rising_before [] y ys h = tt
  rising_before (x ∷ xs) y ys h = ((each_back _ xs (y ∷ ys) (each_map _ key_of (xs ++ y ∷ ys) h.0)).0, rising_before xs y ys h.1)

  pub rising_behind : (y : T) (ys : List T) → IsRising key_of cmp (y ∷ ys) → Each (λ x. cmp (key_of y) (key_of x) ≡ Less) ys
  unfolding IsStrictlySortedBy
  rising_behind y ys h = each_map _ key_of ys h.0

  pub rising_tail : (y : T) (ys : List T) → IsRising key_of cmp (y ∷ ys) → IsRising key_of cmp ys
  unfolding IsStrictlySortedBy
  rising_tail y ys h = h.1

  -- parts that rise, each item of the one below each of the other, rise together
  pub rising_append : (xs ys : List T) → IsRising key_of cmp xs → IsRising key_of cmp ys → Each (λ x. Each (λ y. cmp (key_of x) (key_of y) ≡ Less) ys) xs → IsRising key_of cmp (xs ++ ys)
  unfolding IsStrictlySortedBy
  rising_append [] ys h i apart = i
  rising_append (x ∷ xs) ys h i apart =
      (each_mapped _ key_of (xs ++ ys) (each_append _ xs ys (each_map _ key_of xs h.0) apart.0), rising_append xs ys h.1 i apart.1)

  -- from an item on, none is below it
  pub none_below : IsTotalOrder cmp → (y : T) (ys : List T) → IsRising key_of cmp (y ∷ ys) → Each (λ x. is_lt (cmp (key_of x) (key_of y)) ≡ false) (y ∷ ys)
  none_below order y ys h =
      (not_below_itself order (key_of y), each_weaker _ _ (λ x below. not_below_above order (key_of y) (key_of x) (key_of y) (not_below_itself order (key_of y)) below) ys (rising_behind y ys h))
