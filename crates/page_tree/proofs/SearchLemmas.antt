-- The place of a key, found from one on before which all items are below it.
use Rattle.std.proofs.Common.{◌≡◌, refl, sym, ◌∙◌, ap, subst, List, [], ◌∷◌, ◌++◌, ℕ, ◌+◌, ◌-◌, ◌<◌, ◌≤◌, length, take, drop, get_or, take-append-drop, arith}
use Rattle.std.specs.Prelude.{true, false}
use Rattle.std.specs.Cmp.{IsTotalOrder}
use Rattle.std.specs.List.{AllByRecursion as Each}
use Rattle.std.specs.Ordering.{is_gt, is_lt}
use Rattle.std.specs.declared.cmp.Ordering.{Ordering}
use Rattle.std.specs.declared.cmp.Ordering.TheVariants.{Less, Equal, Greater}
use Rattle.std.proofs.lemmas.Cmp.{tied_back}
use Rattle.std.proofs.lemmas.List.{drop_all, drop_more, take_more}
use Rattle.page_model.specs.Place.{IsPlaceOf}
use Rattle.page_model.specs.Rising.{IsRising}
use Rattle.page_model.proofs.RisingLemmas.{each_append, each_weaker, rising_back, rising_before, rising_behind}
use Rattle.page_model.proofs.Ordered.{above_from_below, below_other, less_from, not_below_above}

-- what holds of the items up to one, and of that one
pub each_more : {X : Type 0} (P : X → Type 0) (xs : List X) (index : ℕ) (x : X) → index < length xs → x ≡ get_or xs index x → Each P (take index xs) → P x → Each P (take (index + 1) xs)
each_more P xs index x within is before here =
    subst (Each P) (sym (take_more xs index x within)) (each_append P (take index xs) (get_or xs index x ∷ []) before (subst P is here, tt))

not_below : {K : Type 0} {cmp : K → K → Ordering} → IsTotalOrder cmp → (x y : K) (o : Ordering) → cmp x y ≡ o → is_gt o ≡ false → is_lt (cmp y x) ≡ false
not_below order x y Less is upto = ap is_lt (above_from_below order x y is)
not_below order x y Equal is upto = ap is_lt (tied_back order x y is)
not_below order x y Greater is upto = cc

module _ {T K : Type 0} (key_of : T → K) {cmp : K → K → Ordering} (order : IsTotalOrder cmp) where
  -- before an item that isn't above the key, all items are below it
  pub before_here : (key : K) (xs : List T) (index : ℕ) (x : T) → index < length xs → x ≡ get_or xs index x → IsRising key_of cmp xs → is_gt (cmp (key_of x) key) ≡ false
      → Each (λ y. cmp (key_of y) key ≡ Less) (take index xs)
  before_here key xs index x within is rising upto =
      let here : drop index xs ≡ x ∷ drop (index + 1) xs = drop_more xs index x within ∙ ap (λ y. y ∷ drop (index + 1) xs) (sym is) in
      let parts : xs ≡ take index xs ++ x ∷ drop (index + 1) xs = sym (take-append-drop index xs) ∙ ap (λ ys. take index xs ++ ys) here in
      each_weaker _ _ (λ y less. below_other order (key_of y) key (key_of x) less (not_below order (key_of x) key _ refl upto)) (take index xs)
      (rising_before key_of cmp (take index xs) x (drop (index + 1) xs) (subst (IsRising key_of cmp) parts rising))

  -- and behind an item below the key, all items up to it are
  pub before_next : (key : K) (xs : List T) (place : ℕ) (x : T) → 0 < place → place ≤ length xs → x ≡ get_or xs (place - 1) x → IsRising key_of cmp xs → is_lt (cmp (key_of x) key) ≡ true
      → Each (λ y. cmp (key_of y) key ≡ Less) (take place xs)
  before_next key xs place x some within is rising below =
      let less : cmp (key_of x) key ≡ Less = less_from _ below in
      let next : place - 1 + 1 ≡ place = omega arith in
      subst (λ n. Each (λ y. cmp (key_of y) key ≡ Less) (take n xs)) next
      (each_more (λ y. cmp (key_of y) key ≡ Less) xs (place - 1) x (omega arith) is (before_here key xs (place - 1) x (omega arith) is rising (ap is_gt less)) less)

  -- an item that isn't below the key, behind those that are
  pub place_at : (key : K) (xs : List T) (index : ℕ) (x : T) → index < length xs → x ≡ get_or xs index x → IsRising key_of cmp xs
      → Each (λ y. cmp (key_of y) key ≡ Less) (take index xs) → is_lt (cmp (key_of x) key) ≡ false → IsPlaceOf key_of cmp key xs index
  place_at key xs index x within is rising before upto =
      let here : drop index xs ≡ x ∷ drop (index + 1) xs = drop_more xs index x within ∙ ap (λ y. y ∷ drop (index + 1) xs) (sym is) in
      let rises = subst (IsRising key_of cmp) here (rising_back key_of cmp (take index xs) (drop index xs) (subst (IsRising key_of cmp) (sym (take-append-drop index xs)) rising)) in
      record {
        within = omega arith;
        before = before;
        behind = subst (Each (λ y. is_lt (cmp (key_of y) key) ≡ false)) (sym here)
            (upto, each_weaker _ _ (λ y less. not_below_above order (key_of x) (key_of y) key upto less) (drop (index + 1) xs) (rising_behind key_of cmp x (drop (index + 1) xs) rises));
      }

  -- all are below it
  pub place_end : (key : K) (xs : List T) (index : ℕ) → index ≡ length xs → Each (λ y. cmp (key_of y) key ≡ Less) (take index xs) → IsPlaceOf key_of cmp key xs index
  place_end key xs index end before =
      record {
        within = omega arith;
        before = before;
        behind = subst (Each (λ y. is_lt (cmp (key_of y) key) ≡ false)) (sym (drop_all index xs (omega arith))) tt;
      }
