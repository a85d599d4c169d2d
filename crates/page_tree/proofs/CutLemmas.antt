-- A page that took an item more and was cut in two.
use Rattle.std.proofs.Common.{◌≡◌, refl, sym, ◌∙◌, ap, List, [], ◌∷◌, ◌++◌, ℕ, zero, suc, ◌+◌, ◌<◌, length, take, drop, append-nil, append_assoc, add-one, length-append, Option, None, Some, IfSome, Result, Ok, Err, OnOk, IsOk, is_ok, is_err, if◌then◌else◌, arith}
use Rattle.std.specs.Prelude.{◌⊎◌, Bool, true, false, slice_set}
use Rattle.std.specs.Cmp.{IsTotalOrder}
use Rattle.std.specs.List.{insert, remove}
use Rattle.std.specs.Option.{option_to_list}
use Rattle.std.specs.declared.cmp.Ordering.{Ordering}
use Rattle.std.specs.declared.sync.Arc.{Arc}
use Rattle.std.proofs.lemmas.Grind.{flat_map-append}
use Rattle.page_model.specs.Changed.{above_key, with_changes}
use Rattle.page_model.specs.ChangedPages.{AddsPages}
use Rattle.page_model.specs.Page.{IsPage, joined}
use Rattle.page_model.specs.Place.{IsPlaceOf}
use Rattle.page_model.proofs.KeptLemmas.{adds_leaf}
use Rattle.page_tree.specs.Body.{pages_of}
use Rattle.page_tree.specs.Branch.{Branch}
use Rattle.page_tree.specs.CutWithin.{CutWithin}
use Rattle.page_tree.specs.InPlace.{InPlace}
use Rattle.page_tree.specs.IsCut.{IsCut}
use Rattle.page_tree.specs.NodeOf.{Begin}
use Rattle.page_tree.proofs.AmongLemmas.{counted, joined_length}
use Rattle.page_tree.proofs.InPlaceLemmas.{first_stays, insert_length, one_change, parts_are}
use Rattle.page_tree.proofs.WithinLemmas.{page_within, within_among}

-- what holds of a call that wasn't refused
pub granted : {E P : Type 0} (called : Result (Unit {0}) E) → false ≡ is_err called → OnOk called P → P
granted (Ok unit) not_refused holds = holds
granted (Err refused) not_refused holds = absurd cc

pub done : {E X : Type 0} (called : Result (Unit {0}) E) (new wanted old : X) → new ≡ (if is_ok called then wanted else old) → IsOk called → new ≡ wanted
done (Ok unit) new wanted old is took = is
done (Err refused) new wanted old is took = absurd cc

-- the front part of a list, where it has an item, begins as the list does
front_begins : {T : Type 0} (first : T) (front back more : List T) → 0 < length front → front ++ back ≡ first ∷ more → (others : List T) × (front ≡ first ∷ others)
front_begins first [] back more some is = absurd (omega arith)
front_begins first (x ∷ front) back more some is = (front, let same : x ∷ (front ++ back) ≡ first ∷ more = is in let head : x ≡ first = cc in ap (λ y. y ∷ front) head)

-- an item that was taken out and put back, changed
pub put_back : {X : Type 0} (xs : List X) (place : ℕ) (x : X) → place < length xs → insert (remove xs place) place x ≡ slice_set xs place x
put_back [] place x within = absurd (omega arith)
put_back (y ∷ ys) zero x within = refl
put_back (y ∷ ys) (suc place) x within = ap (λ zs. y ∷ zs) (put_back ys place x (omega arith))

-- the same with one more item behind it
two_back : {X : Type 0} (xs : List X) (place : ℕ) (x other : X) → place < length xs → insert (insert (remove xs place) place x) (suc place) other ≡ take place xs ++ x ∷ (other ∷ drop (suc place) xs)
two_back [] place x other within = absurd (omega arith)
two_back (y ∷ ys) zero x other within = refl
two_back (y ∷ ys) (suc place) x other within = ap (λ zs. y ∷ zs) (two_back ys place x other (omega arith))

module _ {T Z : Type 0} where
  -- the pages where one more node comes behind a changed one
  pub pages_two : (nodes : List (Arc (Branch T) Z)) (number : ℕ) (node other : Arc (Branch T) Z) → number < length nodes
      → pages_of (insert (insert (remove nodes number) number node) (number + 1) other) ≡ pages_of (take number nodes) ++ ((node.value.pages ++ other.value.pages) ++ pages_of (drop (number + 1) nodes))
  pages_two nodes number node other within =
      ap (λ n. pages_of (insert (insert (remove nodes number) number node) n other)) (add-one number)
      ∙ (ap pages_of (two_back nodes number node other within)
      ∙ (flat_map-append (λ (each : Arc (Branch T) Z). each.value.pages) (take number nodes) (node ∷ (other ∷ drop (suc number) nodes))
      ∙ (ap (λ pages. pages_of (take number nodes) ++ pages) (sym (append_assoc node.value.pages other.value.pages (pages_of (drop (suc number) nodes))))
      ∙ ap (λ n. pages_of (take number nodes) ++ ((node.value.pages ++ other.value.pages) ++ pages_of (drop n nodes))) (sym (add-one number)))))

module _ {T K C : Type 0} (key_of : T → K) {cmp : K → K → Ordering} (order : IsTotalOrder cmp) (changed : C → K) (put : C → Option T) where
  -- a page that took the item of a change and was cut
  pub page_cut : (change : C) (page new : List T) (others : List (List T)) (place : ℕ) (item : T) (ends : Bool) → 0 < place → IsPage page
      → IsPlaceOf key_of cmp (changed change) page place → above_key key_of cmp (changed change) page ≡ drop place page → put change ≡ Some item → (place ≡ length page → ends ≡ true)
      → IsCut (insert page place item) new others → CutWithin key_of cmp changed put (page ∷ []) change (new ∷ others) ends
  page_cut change page new others place item ends some old is above puts behind cut =
      let all : joined (new ∷ others) ≡ insert page place item = ap (λ rest. new ++ joined rest) cut.is ∙ (ap (λ rest. new ++ rest) (append-nil cut.other) ∙ sym cut.all) in
      let parts : insert page place item ≡ take place page ++ (option_to_list (put change) ++ drop place page) = rw puts refl in
      let adds : AddsPages (with_changes key_of cmp changed put (change ∷ []) page) [] (new ∷ others) = record {
        new = new ∷ others;
        behind = refl;
        pages = cut.pages;
        items = all ∙ (parts ∙ (sym (parts_are key_of order changed put change page place place is above) ∙ sym (one_change key_of order changed put change page)));
      } in
      let two : length (new ∷ others) ≡ 2 = ap (λ rest. length (new ∷ rest)) cut.is in
      let here : InPlace key_of cmp changed put (page ∷ []) change (new ∷ others) = record {
        adds = adds_leaf key_of order changed put page (change ∷ []) [] (new ∷ others) (omega arith) adds;
        count = omega (arith, two);
        begins = λ first begin.
            let starts : page ≡ first ∷ begin.others = let same = begin.is in cc in
            let stays = first_stays place first begin.others (item ∷ drop place page) some in
            let front = front_begins first new cut.other stays.0 cut.pages.0.some (sym cut.all ∙ (ap (λ xs. take place xs ++ item ∷ drop place page) starts ∙ stays.1)) in
            record { others = front.0; behind = others; is = ap (λ xs. xs ∷ others) front.1 };
      } in
      record {
        puts = page_within key_of changed put page (new ∷ others) change place ends some old.some is behind here;
        items = omega (arith, ap length all, insert_length page place item, length-append page []);
        pages = omega (arith, two);
      }

  -- the same where a node of what was cut off may have been made
  pub page_cut_made : {Z : Type 0} (made : Option (Arc (Branch T) Z)) (change : C) (page new : List T) (place : ℕ) (item : T) (ends : Bool) → 0 < place → IsPage page
      → IsPlaceOf key_of cmp (changed change) page place → above_key key_of cmp (changed change) page ≡ drop place page → put change ≡ Some item → (place ≡ length page → ends ≡ true)
      → IfSome made (λ other. IsCut (insert page place item) new other.value.pages) → IfSome made (λ other. CutWithin key_of cmp changed put (page ∷ []) change (new ∷ other.value.pages) ends)
  page_cut_made None change page new place item ends some old is above puts behind cut = cut
  page_cut_made (Some other) change page new place item ends some old is above puts behind cut = page_cut change page new other.value.pages place item ends some old is above puts behind cut

module _ {T K C Z : Type 0} (key_of : T → K) {cmp : K → K → Ordering} (changed : C → K) (put : C → Option T) where
  -- a page of one node that was cut, as one of all nodes
  pub cut_among : (nodes : List (Arc (Branch T) Z)) (number : ℕ) (here new after : List (List T)) (change : C) (below ends : Bool)
      → pages_of nodes ≡ pages_of (take number nodes) ++ (here ++ pages_of (drop (number + 1) nodes)) → after ≡ pages_of (take number nodes) ++ (new ++ pages_of (drop (number + 1) nodes))
      → (below ≡ true → Begin key_of cmp (changed change) true (pages_of (drop (number + 1) nodes)) ⊎ ((pages_of (drop (number + 1) nodes) ≡ []) × (ends ≡ true)))
      → CutWithin key_of cmp changed put here change new below → CutWithin key_of cmp changed put (pages_of nodes) change after ends
  cut_among nodes number here new after change below ends was is behind cut =
      let front = pages_of (take number nodes) in
      let rest = pages_of (drop (number + 1) nodes) in
      record {
        puts = within_among key_of changed put nodes number here new after change below ends was is behind cut.puts;
        items = omega (arith, cut.items, ap (λ pages. length (joined pages)) was ∙ joined_length front here rest, ap (λ pages. length (joined pages)) is ∙ joined_length front new rest);
        pages = omega (arith, cut.pages, ap length was ∙ counted front here rest, ap length is ∙ counted front new rest);
      }
