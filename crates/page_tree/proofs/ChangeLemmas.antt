-- Nodes with changes, around the node into which the first change falls.
use Rattle.std.proofs.Common.{◌≡◌, refl, sym, ◌∙◌, ap, subst, List, [], ◌∷◌, ◌++◌, ℕ, zero, suc, ◌<◌, length, take, drop, append-nil, Option, Some, None, arith}
use Rattle.std.specs.Prelude.{true, false, slice_get}
use Rattle.std.specs.Cmp.{IsTotalOrder}
use Rattle.std.specs.List.{AllByRecursion as Each}
use Rattle.std.specs.Ordering.{is_gt, is_lt}
use Rattle.std.specs.declared.cmp.Ordering.{Ordering}
use Rattle.std.specs.declared.cmp.Ordering.TheVariants.{Less, Equal, Greater}
use Rattle.std.specs.declared.sync.Arc.{Arc}
use Rattle.std.proofs.lemmas.Cmp.{tied_back}
use Rattle.std.proofs.lemmas.Grind.{flat_map-append}
use Rattle.page_model.specs.Changed.{AreKeyed}
use Rattle.page_model.specs.ChangedPages.{AddsChanged}
use Rattle.page_model.specs.Page.{ArePages, IsFirst, joined}
use Rattle.page_model.specs.Rising.{IsRising}
use Rattle.page_model.proofs.KeptLemmas.{adds_both, adds_same}
use Rattle.page_model.proofs.Ordered.{above_from_below, below_from_above, greater_from_gt, not_below_above}
use Rattle.page_model.proofs.RisingLemmas.{each_back, each_front, each_weaker, rising_back, rising_behind, rising_front}
use Rattle.page_tree.specs.Body.{pages_of}
use Rattle.page_tree.specs.Branch.{Branch}
use Rattle.page_tree.specs.NodeOf.{IsNodeOf}
use Rattle.page_tree.proofs.NodeLemmas.{items_split, pages_split}

-- a list that has a first item
pub first_from : {X : Type 0} (xs : List X) (x : X) → slice_get xs 0 ≡ Some x → (rest : List X) × (xs ≡ x ∷ rest)
first_from [] x is = cc
first_from (y ∷ ys) x is = (ys, cc)

pub none_from : {X : Type 0} (xs : List X) → slice_get xs 0 ≡ None → xs ≡ []
none_from [] is = refl
none_from (x ∷ xs) is = cc

-- pages have one first item
pub one_first : {T : Type 0} (x y : T) (pages : List (List T)) → IsFirst x pages → IsFirst y pages → x ≡ y
one_first x y pages first second = let same = sym first.is ∙ second.is in cc

module _ {T K C : Type 0} (key_of : T → K) {cmp : K → K → Ordering} (order : IsTotalOrder cmp) (changed : C → K) where
  pub not_below : (x y : K) (o : Ordering) → cmp x y ≡ o → is_gt o ≡ false → is_lt (cmp y x) ≡ false
  not_below x y Less is upto = ap is_lt (above_from_below order x y is)
  not_below x y Equal is upto = ap is_lt (tied_back order x y is)
  not_below x y Greater is upto = cc

  -- where an item isn't above the first change, no change is below the item
  none_before : (item : T) (changes : List C) (change : C) (rest : List C) → changes ≡ change ∷ rest → IsRising changed cmp changes → is_gt (cmp (key_of item) (changed change)) ≡ false
      → Each (λ each. is_lt (cmp (changed each) (key_of item)) ≡ false) changes
  none_before item changes change rest is rising upto =
      let here = not_below (key_of item) (changed change) _ refl upto in
      subst (Each (λ each. is_lt (cmp (changed each) (key_of item)) ≡ false)) (sym is)
      (here, each_weaker _ _ (λ each less. not_below_above order (changed change) (changed each) (key_of item) here less) rest (rising_behind changed cmp change rest (subst (IsRising changed cmp) is rising)))

  -- where an item is above the first change, some changes are below it
  pub some_before : (item : T) (changes : List C) (change : C) (rest here others : List C) → changes ≡ change ∷ rest → changes ≡ here ++ others → is_gt (cmp (key_of item) (changed change)) ≡ true
      → Each (λ each. is_lt (cmp (changed each) (key_of item)) ≡ false) others → 0 < length here
  some_before item changes change rest [] others is all above not_less =
      let less = below_from_above order (key_of item) (changed change) (greater_from_gt _ above) in
      let both = subst (Each (λ each. is_lt (cmp (changed each) (key_of item)) ≡ false)) (sym all ∙ is) not_less in
      absurd (let no : is_lt (cmp (changed change) (key_of item)) ≡ false = both.0 in cc)
  some_before item changes change rest (first ∷ here) others is all above not_less = omega arith

module _ {T K C Z : Type 0} (key_of : T → K) {cmp : K → K → Ordering} (order : IsTotalOrder cmp) (changed : C → K) (put : C → Option T) where
  -- nodes before the one into which the first change falls are shared
  pub adds_front : (nodes : List (Arc (Branch T) Z)) (number : ℕ) (changes : List C) (change : C) (rest : List C) (before middle after : List (List T))
      → IsNodeOf key_of cmp (changed change) nodes number → changes ≡ change ∷ rest → IsRising changed cmp changes → ArePages (pages_of nodes) → IsRising key_of cmp (joined (pages_of nodes))
      → middle ≡ before ++ pages_of (take number nodes) → AddsChanged key_of cmp changed put (pages_of (drop number nodes)) changes middle after
      → AddsChanged key_of cmp changed put (pages_of nodes) changes before after
  adds_front nodes zero changes change rest before middle after falls is rises pages rising shared adds =
      subst (λ old. AddsChanged key_of cmp changed put (pages_of nodes) changes old after) (shared ∙ append-nil before) adds
  adds_front nodes (suc number) changes change rest before middle after falls is rises pages rising shared adds =
      let begin = falls.begins (omega arith) in
      let front = pages_of (take (suc number) nodes) in
      let back = pages_of (drop (suc number) nodes) in
      let split = pages_split (suc number) nodes in
      subst (λ old. AddsChanged key_of cmp changed put old changes before after) (sym split)
      (adds_both key_of order changed put front back begin.first begin.is.others begin.is.behind [] changes before middle after begin.is.is (subst (λ old. IsRising key_of cmp (joined old)) split rising) tt
      tt (none_before key_of order changed begin.first changes change rest is rises begin.stands)
      (adds_same key_of order changed put front before middle (each_front _ front back (subst ArePages split pages)) shared) adds)

module _ {T K C : Type 0} (key_of : T → K) {cmp : K → K → Ordering} (order : IsTotalOrder cmp) (changed : C → K) (put : C → Option T) where
  -- pages and those behind them, each with its changes
  pub adds_behind : (here behind : List (List T)) (changes : List C) (first : T) (below others : List C) (before middle after : List (List T))
      → IsFirst first behind → IsRising key_of cmp (joined (here ++ behind)) → AreKeyed key_of changed put changes → changes ≡ below ++ others
      → Each (λ change. cmp (changed change) (key_of first) ≡ Less) below → Each (λ change. is_lt (cmp (changed change) (key_of first)) ≡ false) others
      → AddsChanged key_of cmp changed put here below before middle → AddsChanged key_of cmp changed put behind others middle after
      → AddsChanged key_of cmp changed put (here ++ behind) changes before after
  adds_behind here behind changes first below others before middle after begins rising keyed all below_is others_are in_front at_back =
      subst (λ each. AddsChanged key_of cmp changed put (here ++ behind) each before after) (sym all)
      (adds_both key_of order changed put here behind first begins.others begins.behind below others before middle after begins.is rising (each_front _ below others (subst (AreKeyed key_of changed put) all keyed)) below_is others_are in_front at_back)

-- what holds of some nodes holds of one of them and of those behind it
pub record Parts {T K : Type 0} (key_of : T → K) (cmp : K → K → Ordering) (here behind : List (List T)) : Type 0 where
  pub pages_here : ArePages here
  pub pages_behind : ArePages behind
  pub rising_both : IsRising key_of cmp (joined (here ++ behind))
  pub rising_here : IsRising key_of cmp (joined here)
  pub rising_behind : IsRising key_of cmp (joined behind)

pub parts_of : {T K Z : Type 0} (key_of : T → K) (cmp : K → K → Ordering) (nodes : List (Arc (Branch T) Z)) (number : ℕ) (here behind : List (List T))
    → ArePages (pages_of nodes) → IsRising key_of cmp (joined (pages_of nodes)) → pages_of (drop number nodes) ≡ here ++ behind → Parts key_of cmp here behind
parts_of key_of cmp nodes number here behind pages rising from =
    let pages_both = subst ArePages from (each_back _ (pages_of (take number nodes)) (pages_of (drop number nodes)) (subst ArePages (pages_split number nodes) pages)) in
    let both = subst (λ old. IsRising key_of cmp (joined old)) from (rising_back key_of cmp (joined (pages_of (take number nodes))) (joined (pages_of (drop number nodes))) (subst (IsRising key_of cmp) (items_split number nodes) rising)) in
    let apart = subst (IsRising key_of cmp) (flat_map-append (λ page. page) here behind) both in
    record {
      pages_here = each_front _ here behind pages_both;
      pages_behind = each_back _ here behind pages_both;
      rising_both = both;
      rising_here = rising_front key_of cmp (joined here) (joined behind) apart;
      rising_behind = rising_back key_of cmp (joined here) (joined behind) apart;
    }
