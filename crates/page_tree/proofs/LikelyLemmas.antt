-- A run of items to which hints lead.
use Rattle.std.proofs.Common.{◌≡◌, refl, sym, ◌∙◌, ap, subst, List, [], ◌∷◌, ◌++◌, ℕ, ◌+◌, ◌-◌, ◌<◌, ◌≤◌, length, take, drop, get_or, take-append-drop, append_assoc, append-nil, None, Some, arith}
use Rattle.std.specs.Prelude.{Bool, true, ◌&&◌}
use Rattle.std.specs.Cmp.{IsTotalOrder}
use Rattle.std.specs.List.{Contains}
use Rattle.std.specs.Ordering.{is_eq, is_gt, is_lt}
use Rattle.std.specs.declared.cmp.Ordering.{Ordering}
use Rattle.std.specs.declared.cmp.Ordering.TheVariants.{Less, Equal, Greater}
use Rattle.std.specs.declared.sync.Arc.{Arc}
use Rattle.std.proofs.lemmas.Bool.{and_parts}
use Rattle.std.proofs.lemmas.List.{drop_all, drop_more, take_all, take_more}
use Rattle.std.proofs.lemmas.List.Elements.{Contains-append_left, Contains-append_right}
use Rattle.std.proofs.lemmas.Option.{slice_get_read}
use Rattle.page_model.specs.Found.{found}
use Rattle.page_model.specs.Page.{joined}
use Rattle.page_model.specs.Rising.{IsRising}
use Rattle.page_model.proofs.FoundLemmas.{found_before, found_behind, found_here}
use Rattle.page_model.proofs.Ordered.{above_from_below, equal_from}
use Rattle.page_model.proofs.RisingLemmas.{rising_front}
use Rattle.page_tree.specs.Body.{pages_of}
use Rattle.page_tree.specs.Branch.{Branch}
use Rattle.page_tree.specs.Held.{HoldsRun}
use Rattle.page_tree.specs.StandsBehind.{StandsBehind}
use Rattle.page_tree.proofs.NodeLemmas.{items_from, items_split}
use Rattle.page_tree.proofs.SearchLemmas.{before_here, place_at}

module _ {T K : Type 0} (key_of : T → K) {cmp : K → K → Ordering} (order : IsTotalOrder cmp) where
  -- where keys rise, an item that has a key is the item of the key
  found_there : (key : K) (xs : List T) (x : T) → IsRising key_of cmp xs → Contains xs x → is_eq (cmp (key_of x) key) ≡ true → found key_of cmp key xs ≡ Some x
  found_there key xs x rising there equal =
      let same : cmp (key_of x) key ≡ Equal = equal_from _ equal in
      let is : x ≡ get_or xs there.0 x = sym there.2 in
      let before = before_here key_of order key xs there.0 x there.1 is rising (subst (λ o. is_gt o ≡ is_gt Equal) (sym same) refl) in
      let place = place_at key_of order key xs there.0 x there.1 is rising before (subst (λ o. is_lt o ≡ is_lt Equal) (sym same) refl) in
      found_here key_of order key xs there.0 x place (slice_get_read xs (length xs) there.0 x refl there.1 is) equal

  -- an item of a run that has the key
  pub told_there : (key : K) (run : List T) (last : Bool) (place : ℕ) (x : T) → place < length run → x ≡ get_or run place x → is_eq (cmp (key_of x) key) ≡ true
      → (items : List T) → HoldsRun items run last → IsRising key_of cmp items → Some x ≡ found key_of cmp key items
  told_there key run last place x within is equal items held rising =
      let among : Contains run x = (place, within, sym is) in
      sym (found_there key items x rising (subst (λ xs. Contains xs x) (sym held.is) (Contains-append_right held.front (run ++ held.behind) x (Contains-append_left run held.behind x among))) equal)

  -- behind an item below the key, where no other stands, there is none
  none_behind : (key : K) (front : List T) (x : T) → IsRising key_of cmp (front ++ x ∷ []) → cmp (key_of x) key ≡ Less → found key_of cmp key (front ++ x ∷ []) ≡ None
  unfolding found
  none_behind key front x rising below =
      found_behind key_of order key front x [] rising (ap is_lt (above_from_below order (key_of x) key below)) ∙ rw below refl

  -- nor between two items that stand side by side
  none_between : (key : K) (front : List T) (x y : T) (behind : List T) → IsRising key_of cmp ((front ++ x ∷ []) ++ y ∷ behind) → cmp (key_of x) key ≡ Less → cmp (key_of y) key ≡ Greater
      → found key_of cmp key ((front ++ x ∷ []) ++ y ∷ behind) ≡ None
  none_between key front x y behind rising below above =
      found_before key_of order key (front ++ x ∷ []) y behind rising above
      ∙ none_behind key front x (rising_front key_of cmp (front ++ x ∷ []) (y ∷ behind) rising) below

  -- what stands before a place
  upto_place : (key : K) (run : List T) (place : ℕ) (is : StandsBehind key_of cmp key run place) → take place run ≡ take (place - 1) run ++ is.before ∷ []
  upto_place key run place is =
      let some = is.some in
      let within = is.within in
      ap (λ n. take n run) (let next : place ≡ place - 1 + 1 = omega arith in next)
      ∙ (take_more run (place - 1) is.before (omega arith) ∙ ap (λ z. take (place - 1) run ++ z ∷ []) (sym is.is))

  -- so a run tells that there is none, between its items
  pub told_between : (key : K) (run : List T) (last : Bool) (place : ℕ) (y : T) → place < length run → y ≡ get_or run place y → StandsBehind key_of cmp key run place → cmp (key_of y) key ≡ Greater
      → (items : List T) → HoldsRun items run last → IsRising key_of cmp items → None ≡ found key_of cmp key items
  told_between key run last place y within here is above items held rising =
      let front = take (place - 1) run in
      let behind = drop (place + 1) run in
      let first : drop place run ≡ y ∷ behind = drop_more run place y within ∙ ap (λ z. z ∷ behind) (sym here) in
      let parts : run ≡ (front ++ is.before ∷ []) ++ y ∷ behind = sym (take-append-drop place run) ∙ (λ i. upto_place key run place is i ++ first i) in
      let whole : items ≡ ((held.front ++ front) ++ is.before ∷ []) ++ y ∷ (behind ++ held.behind) =
      held.is ∙ (ap (λ r. held.front ++ (r ++ held.behind)) parts ∙ around held.front front (is.before ∷ []) (y ∷ behind) held.behind) in
      sym (subst (λ xs. found key_of cmp key xs ≡ None) (sym whole)
      (none_between key (held.front ++ front) is.before y (behind ++ held.behind) (subst (IsRising key_of cmp) whole rising) is.below above))
    where
      around : (a b c d e : List T) → a ++ (((b ++ c) ++ d) ++ e) ≡ ((a ++ b) ++ c) ++ (d ++ e)
      around a b c d e = simp append_assoc

  -- and behind the last
  pub told_behind : (key : K) (run : List T) (last : Bool) → last ≡ true → StandsBehind key_of cmp key run (length run)
      → (items : List T) → HoldsRun items run last → IsRising key_of cmp items → None ≡ found key_of cmp key items
  told_behind key run last ends is items held rising =
      let front = take (length run - 1) run in
      let parts : run ≡ front ++ is.before ∷ [] = sym (take_all (length run) run (omega arith)) ∙ upto_place key run (length run) is in
      let whole : items ≡ (held.front ++ front) ++ is.before ∷ [] =
      held.is ∙ (ap (λ b. held.front ++ (run ++ b)) (held.ends ends) ∙ (ap (λ r. held.front ++ r) (append-nil run ∙ parts) ∙ sym (append_assoc held.front front (is.before ∷ [])))) in
      sym (subst (λ xs. found key_of cmp key xs ≡ None) (sym whole) (none_behind key (held.front ++ front) is.before (subst (IsRising key_of cmp) whole rising) is.below))

module _ {T Z : Type 0} where
  -- what a node holds is held by all nodes
  pub held_among : (nodes : List (Arc (Branch T) Z)) (number : ℕ) (node : Arc (Branch T) Z) (run : List T) (last : Bool) (here : Bool) → number < length nodes → node ≡ get_or nodes number node
      → (here ≡ true → length nodes ≤ number + 1) → HoldsRun (joined node.value.pages) run last → HoldsRun (joined (pages_of nodes)) run (last && here)
  held_among nodes number node run last here within is end held = record {
    front = joined (pages_of (take number nodes)) ++ held.front;
    behind = held.behind ++ joined (pages_of (drop (number + 1) nodes));
    is = items_split number nodes
        ∙ (ap (λ xs. joined (pages_of (take number nodes)) ++ xs) (items_from nodes number node within is ∙ ap (λ xs. xs ++ joined (pages_of (drop (number + 1) nodes))) held.is)
        ∙ around (joined (pages_of (take number nodes))) held.front run held.behind (joined (pages_of (drop (number + 1) nodes))));
    ends = λ both. (let parts = and_parts last here both in
        ap (λ b. b ++ joined (pages_of (drop (number + 1) nodes))) (held.ends parts.0)
        ∙ ap (λ (rest : List (Arc (Branch T) Z)). joined (pages_of rest)) (drop_all (number + 1) nodes (end parts.1)));
  }
    where
      around : (a b c d e : List T) → a ++ ((b ++ (c ++ d)) ++ e) ≡ (a ++ b) ++ (c ++ (d ++ e))
      around a b c d e = simp append_assoc
