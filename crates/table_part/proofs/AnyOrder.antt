-- Changes of keys that differ leave the same items in any order.
use Rattle.std.proofs.Common.{◌≡◌, refl, sym, ◌∙◌, ap, List, [], ◌∷◌, Option}
use Rattle.std.specs.Prelude.{◌≢◌, map}
use Rattle.std.specs.Cmp.{IsTotalOrder}
use Rattle.std.specs.List.{AllByRecursion as Each, IsDistinct}
use Rattle.std.specs.List.Sorted.{IsPermutation}
use Rattle.std.specs.Option.{option_map_or}
use Rattle.std.specs.Ordering.{is_eq}
use Rattle.std.specs.declared.cmp.Ordering.{Ordering}
use Rattle.std.proofs.lemmas.List.Elements.{All-from_recursion, recursion_from_All}
use Rattle.std.proofs.lemmas.List.Sorted.{All-permutation}
use Rattle.page_model.specs.Changed.{AreKeyed, with_changes}
use Rattle.page_model.specs.Found.{found}
use Rattle.page_model.specs.Kept.{KeepsPages}
use Rattle.page_model.specs.PageOf.{page_of}
use Rattle.page_model.specs.Rising.{IsRising}
use Rattle.page_model.proofs.ChangedLemmas.{rising_with_changes}
use Rattle.page_model.proofs.RisingLemmas.{each_map}
use Rattle.page_model.proofs.FoundChanged.{found_with_changes}
use Rattle.page_model.proofs.InOrder.{found_permuted, rising_differ}
use Rattle.page_model.proofs.SameFound.{same_found}

-- what holds of each holds of each in another order
pub each_permuted : {X : Type 0} (P : X → Type 0) (xs ys : List X) → IsPermutation xs ys → Each P xs → Each P ys
each_permuted P xs ys moved all = recursion_from_All P ys (All-permutation P xs ys moved (All-from_recursion P xs all))

-- a function of a function of each
pub map_twice : {X Y Z : Type 0} (g : Y → Z) (f : X → Y) (xs : List X) → map g (map f xs) ≡ map (λ x. g (f x)) xs
map_twice g f [] = refl
map_twice g f (x ∷ xs) = ap (λ zs. g (f x) ∷ zs) (map_twice g f xs)

module _ {T K C : Type 0} (key_of : T → K) {cmp : K → K → Ordering} (order : IsTotalOrder cmp) (changed : C → K) (put : C → Option T) where
  -- in rising order they leave the items that they leave as they are given
  pub same_items : (given rising : List C) (xs : List T) → IsDistinct (λ a b. is_eq (cmp a b)) (map changed given) → IsRising changed cmp rising → IsPermutation given rising → AreKeyed key_of changed put given → IsRising key_of cmp xs
      → with_changes key_of cmp changed put rising xs ≡ with_changes key_of cmp changed put given xs
  same_items given rising xs differ rises moved keyed items =
      let keeps = each_permuted _ given rising moved keyed in
      let apart = rising_differ cmp (map changed rising) rises in
      same_found key_of order _ _ (rising_with_changes key_of order changed put rising xs keeps items) (rising_with_changes key_of order changed put given xs keyed items)
      (λ key. found_with_changes key_of order changed put key rising xs keeps apart
      ∙ (ap (λ change. option_map_or put change (found key_of cmp key xs)) (found_permuted changed order key given rising apart moved)
      ∙ sym (found_with_changes key_of order changed put key given xs keyed differ)))

module _ {T K C : Type 0} (key_of : T → K) (cmp : K → K → Ordering) (changed : C → K) where
  -- the pages that stay are the same
  pub same_kept : (before after : List (List T)) (given others : List C) → IsPermutation given others → KeepsPages key_of cmp changed before others after → KeepsPages key_of cmp changed before given after
  same_kept before after given others moved kept number page is untouched = kept number page is (each_permuted (λ change. page_of key_of cmp (changed change) before ≢ number) given others moved untouched)

module _ {T K C D : Type 0} (key_of : T → K) (cmp : K → K → Ordering) (changed : C → K) (put : C → Option T) (seen : D → C) where
  -- changes that are seen as others
  pub with_changes-seen : (changes : List D) (xs : List T) → with_changes key_of cmp (λ change. changed (seen change)) (λ change. put (seen change)) changes xs ≡ with_changes key_of cmp changed put (map seen changes) xs
  unfolding with_changes
  with_changes-seen [] xs = refl
  with_changes-seen (change ∷ changes) xs = with_changes-seen changes _

  pub kept-seen : (before after : List (List T)) (changes : List D) → KeepsPages key_of cmp (λ change. changed (seen change)) before changes after → KeepsPages key_of cmp changed before (map seen changes) after
  kept-seen before after changes kept number page is untouched = kept number page is (each_map _ seen changes untouched)

  pub keyed-seen : (changes : List D) → AreKeyed key_of changed put (map seen changes) → AreKeyed key_of (λ change. changed (seen change)) (λ change. put (seen change)) changes
  keyed-seen changes keyed = each_map _ seen changes keyed

  pub rising-seen : (changes : List D) → IsRising (λ change. changed (seen change)) cmp changes → IsRising changed cmp (map seen changes)
  rising-seen changes rising = rw map_twice rising
