-- A page that was changed in place is the one into which the change falls.
use Rattle.std.proofs.Common.{◌≡◌, refl, sym, ◌∙◌, ap, subst, inl, inr, List, [], ◌∷◌, ◌++◌, ℕ, zero, suc, ◌+◌, ◌<◌, ◌≤◌, length, take, drop, get_or, append-nil, append_assoc, length-append, Option, MatchBool, arith}
use Rattle.std.specs.Prelude.{◌⊎◌, Bool, true, false}
use Rattle.std.specs.Cmp.{IsTotalOrder}
use Rattle.std.specs.List.{AllByRecursion as Each}
use Rattle.std.specs.Ordering.{is_gt, is_lt}
use Rattle.std.specs.declared.cmp.Ordering.{Ordering}
use Rattle.std.specs.declared.cmp.Ordering.TheVariants.{Less}
use Rattle.std.specs.declared.sync.Arc.{Arc}
use Rattle.std.proofs.lemmas.Bool.{cases_lt}
use Rattle.std.proofs.lemmas.Grind.{flat_map-append}
use Rattle.page_model.specs.Changed.{AreKeyed}
use Rattle.page_model.specs.ChangedPages.{AddsChanged}
use Rattle.page_model.specs.Page.{ArePages, IsFirst, joined}
use Rattle.page_model.specs.Place.{IsPlaceOf}
use Rattle.page_model.specs.Rising.{IsRising}
use Rattle.page_model.proofs.KeptLemmas.{adds_both, adds_moved, adds_same}
use Rattle.page_model.proofs.Ordered.{below_from_above, greater_from_gt, tied_above}
use Rattle.page_model.proofs.RisingLemmas.{each_back, each_front, rising_back, rising_behind}
use Rattle.page_tree.specs.Body.{pages_of}
use Rattle.page_tree.specs.Branch.{Branch}
use Rattle.page_tree.specs.InPlace.{InPlace}
use Rattle.page_tree.specs.NodeOf.{Begin}
use Rattle.page_tree.specs.PutWithin.{Ends, PutWithin, Reaches}
use Rattle.page_tree.proofs.AmongLemmas.{first_among, grows}
use Rattle.page_tree.proofs.ChangeLemmas.{not_below}

-- a list of one
pub only : {X : Type 0} (xs : List X) (x : X) → length xs ≡ 1 → x ≡ get_or xs 0 x → xs ≡ x ∷ []
only [] x one is = absurd (omega arith)
only (y ∷ []) x one is = ap (λ z. z ∷ []) (sym is)
only (y ∷ (z ∷ xs)) x one is = absurd (omega arith)

-- pages that begin with an item above a key
record Follows {T K : Type 0} (key_of : T → K) (cmp : K → K → Ordering) (key : K) (behind : List (List T)) : Type 0 where
  first : T
  is : IsFirst first behind
  above : cmp key (key_of first) ≡ Less

-- no page stands behind, or those that do begin above a key
abbrev Above : {T K : Type 0} → (T → K) → (K → K → Ordering) → K → List (List T) → Type 0
Above key_of cmp key behind = (behind ≡ []) ⊎ Follows key_of cmp key behind

-- a page comes as far as a key where no item of it from a place on is below the key
reaches_from : {T K : Type 0} (key_of : T → K) (cmp : K → K → Ordering) (key : K) (page : List T) (place : ℕ) → place < length page → Each (λ item. is_lt (cmp (key_of item) key) ≡ false) (drop place page)
    → Reaches key_of cmp key page
reaches_from key_of cmp key [] place within upto = absurd (omega arith)
reaches_from key_of cmp key (item ∷ items) zero within upto = record { before = []; item = item; others = items; is = refl; upto = upto.0 }
reaches_from key_of cmp key (item ∷ items) (suc place) within upto =
    let more = reaches_from key_of cmp key items place (omega arith) upto in
    record { before = item ∷ more.before; item = more.item; others = more.others; is = ap (λ each. item ∷ each) more.is; upto = more.upto }

-- a page that has an item below a key begins below it
begins_below : {T K : Type 0} (key_of : T → K) (cmp : K → K → Ordering) (key : K) (page : List T) (place : ℕ) → 0 < place → 0 < length page → Each (λ item. cmp (key_of item) key ≡ Less) (take place page)
    → Begin key_of cmp key false (page ∷ [])
begins_below key_of cmp key [] place some filled below = absurd (omega arith)
begins_below key_of cmp key (item ∷ items) zero some filled below = absurd (omega arith)
begins_below key_of cmp key (item ∷ items) (suc place) some filled below = record {
  first = item;
  is = record { others = items; behind = []; is = refl };
  stands = ap is_gt below.0;
}

-- a page that was changed behind its first item, and before its end where more may come behind it
pub page_within : {T K C : Type 0} (key_of : T → K) {cmp : K → K → Ordering} (changed : C → K) (put : C → Option T) (page : List T) (new : List (List T)) (change : C) (place : ℕ) (ends : Bool)
    → 0 < place → 0 < length page → IsPlaceOf key_of cmp (changed change) page place → (place ≡ length page → ends ≡ true)
    → InPlace key_of cmp changed put (page ∷ []) change new → PutWithin key_of cmp changed put (page ∷ []) change new ends
page_within key_of {cmp} changed put page new change place ends some filled is behind here = record {
  front = [];
  page = page;
  made = new;
  behind = [];
  was = refl;
  is = sym (append-nil new);
  here = here;
  begins = begins_below key_of cmp (changed change) page place some filled is.before;
  falls = elim (cases_lt place (length page)) [
    | inl more ↦ inl (reaches_from key_of cmp (changed change) page place more is.behind)
    | inr end ↦ inr (inr (refl, behind (let within = is.within in omega arith)))
  ];
  count = here.count;
  starts = here.begins;
}

around : {X : Type 0} (a b : List X) (x : X) (c d : List X) → a ++ ((b ++ x ∷ c) ++ d) ≡ (a ++ b) ++ x ∷ (c ++ d)
around a b x c d = simp append_assoc

around_some : {X : Type 0} (a b m c d : List X) → a ++ ((b ++ (m ++ c)) ++ d) ≡ (a ++ b) ++ (m ++ (c ++ d))
around_some a b m c d = simp append_assoc

-- some pages, where one of them is known
filled : {X : Type 0} (xs a : List X) (x : X) (b : List X) → xs ≡ a ++ x ∷ b → 0 < length xs
filled xs a x b is = rw is (omega (arith, length-append a (x ∷ b)))

-- the same of a change that was made, or wasn't
pub within_made : {T K C : Type 0} (key_of : T → K) {cmp : K → K → Ordering} (changed : C → K) (put : C → Option T) (made : Bool) (page new : List T) (change : C) (place : ℕ) (ends : Bool)
    → 0 < place → 0 < length page → IsPlaceOf key_of cmp (changed change) page place → (place ≡ length page → ends ≡ true)
    → MatchBool made (InPlace key_of cmp changed put (page ∷ []) change (new ∷ [])) (new ≡ page) → MatchBool made (PutWithin key_of cmp changed put (page ∷ []) change (new ∷ []) ends) (new ≡ page)
within_made key_of changed put true page new change place ends some filled is behind here = page_within key_of changed put page (new ∷ []) change place ends some filled is behind here
within_made key_of changed put false page new change place ends some filled is behind same = same

module _ {T K : Type 0} (key_of : T → K) {cmp : K → K → Ordering} where
  -- pages begin alike, whatever comes behind them
  begins_more : (key : K) (above : Bool) (pages behind : List (List T)) → Begin key_of cmp key above pages → Begin key_of cmp key above (pages ++ behind)
  begins_more key above pages behind begin = record {
    first = begin.first;
    is = record { others = begin.is.others; behind = begin.is.behind ++ behind; is = ap (λ all. all ++ behind) begin.is.is };
    stands = begin.stands;
  }

  -- behind a page comes nothing that the key falls to, in more pages too
  ends_more : (key : K) (page : List T) (behind rest : List (List T)) (below ends : Bool) → Ends key_of cmp key page behind below
      → (below ≡ true → Begin key_of cmp key true rest ⊎ ((rest ≡ []) × (ends ≡ true))) → Ends key_of cmp key page (behind ++ rest) ends
  ends_more key page behind rest below ends (inl reaches) after = inl reaches
  ends_more key page behind rest below ends (inr (inl begin)) after = inr (inl (begins_more key true behind rest begin))
  ends_more key page behind rest below ends (inr (inr none)) after = elim (after none.1) [
    | inl begin ↦ inr (inl (subst (Begin key_of cmp key true) (sym (ap (λ pages. pages ++ rest) none.0)) begin))
    | inr end ↦ inr (inr (ap (λ pages. pages ++ rest) none.0 ∙ end.0, end.1))
  ]

module _ {T K C Z : Type 0} (key_of : T → K) {cmp : K → K → Ordering} (changed : C → K) (put : C → Option T) where
  -- a page of one node, as one of all nodes
  pub within_among : (nodes : List (Arc (Branch T) Z)) (number : ℕ) (here new after : List (List T)) (change : C) (below ends : Bool)
      → pages_of nodes ≡ pages_of (take number nodes) ++ (here ++ pages_of (drop (number + 1) nodes)) → after ≡ pages_of (take number nodes) ++ (new ++ pages_of (drop (number + 1) nodes))
      → (below ≡ true → Begin key_of cmp (changed change) true (pages_of (drop (number + 1) nodes)) ⊎ ((pages_of (drop (number + 1) nodes) ≡ []) × (ends ≡ true)))
      → PutWithin key_of cmp changed put here change new below → PutWithin key_of cmp changed put (pages_of nodes) change after ends
  within_among nodes number here new after change below ends was is behind puts =
      let front = pages_of (take number nodes) in
      let rest = pages_of (drop (number + 1) nodes) in
      record {
        front = front ++ puts.front;
        page = puts.page;
        made = puts.made;
        behind = puts.behind ++ rest;
        was = was ∙ (ap (λ pages. front ++ (pages ++ rest)) puts.was ∙ around front puts.front puts.page puts.behind rest);
        is = is ∙ (ap (λ pages. front ++ (pages ++ rest)) puts.is ∙ around_some front puts.front puts.made puts.behind rest);
        here = puts.here;
        begins = puts.begins;
        falls = ends_more key_of (changed change) puts.page puts.behind rest below ends puts.falls behind;
        count = rw (is, was) (omega (arith, puts.count, length-append front (new ++ rest), length-append front (here ++ rest), length-append new rest, length-append here rest));
        starts = λ first begins. subst (IsFirst first) (sym is) (first_among front here new rest (filled here puts.front puts.page puts.behind puts.was) puts.starts first (subst (IsFirst first) was begins));
      }

module _ {T K C : Type 0} (key_of : T → K) {cmp : K → K → Ordering} (order : IsTotalOrder cmp) (changed : C → K) (put : C → Option T) where
  -- where keys rise, what comes behind a page that comes as far as the key is above it
  above_behind : (key : K) (page : List T) (behind : List (List T)) → Reaches key_of cmp key page → ArePages behind → IsRising key_of cmp (joined (page ∷ behind)) → Above key_of cmp key behind
  above_behind key page [] reaches pages rising = inl refl
  above_behind key page ([] ∷ behind) reaches pages rising = absurd (let some = pages.0.some in omega arith)
  above_behind key page ((first ∷ others) ∷ behind) reaches pages rising =
      let all : joined (page ∷ ((first ∷ others) ∷ behind)) ≡ reaches.before ++ reaches.item ∷ (reaches.others ++ joined ((first ∷ others) ∷ behind)) =
      ap (λ items. items ++ joined ((first ∷ others) ∷ behind)) reaches.is ∙ append_assoc reaches.before (reaches.item ∷ reaches.others) (joined ((first ∷ others) ∷ behind)) in
      let rises = rising_back key_of cmp reaches.before (reaches.item ∷ (reaches.others ++ joined ((first ∷ others) ∷ behind))) (subst (IsRising key_of cmp) all rising) in
      let after = each_back _ reaches.others (joined ((first ∷ others) ∷ behind)) (rising_behind key_of cmp reaches.item (reaches.others ++ joined ((first ∷ others) ∷ behind)) rises) in
      inr (record { first = first; is = record { others = others; behind = behind; is = refl }; above = below_from_above order (key_of first) key (tied_above order (key_of reaches.item) (key_of first) key reaches.upto after.0) })

  above_from : (key : K) (page : List T) (behind : List (List T)) (ends : Bool) → Ends key_of cmp key page behind ends → ArePages behind → IsRising key_of cmp (joined (page ∷ behind)) → Above key_of cmp key behind
  above_from key page behind ends (inl reaches) pages rising = above_behind key page behind reaches pages rising
  above_from key page behind ends (inr (inl begin)) pages rising = inr (record { first = begin.first; is = begin.is; above = below_from_above order (key_of begin.first) key (greater_from_gt _ begin.stands) })
  above_from key page behind ends (inr (inr none)) pages rising = inl none.0

  -- a page with a change, and those behind it
  adds_here : (page : List T) (change : C) (made : List (List T)) (behind : List (List T)) → Above key_of cmp (changed change) behind → ArePages behind → IsRising key_of cmp (joined (page ∷ behind)) → AreKeyed key_of changed put (change ∷ [])
      → AddsChanged key_of cmp changed put (page ∷ []) (change ∷ []) [] made → AddsChanged key_of cmp changed put (page ∷ behind) (change ∷ []) [] (made ++ behind)
  adds_here page change made behind (inl none) pages rising keyed adds =
      subst (λ rest. AddsChanged key_of cmp changed put (page ∷ rest) (change ∷ []) [] (made ++ rest)) (sym none) (subst (AddsChanged key_of cmp changed put (page ∷ []) (change ∷ []) []) (sym (append-nil made)) adds)
  adds_here page change made behind (inr above) pages rising keyed adds =
      adds_both key_of order changed put (page ∷ []) behind above.first above.is.others above.is.behind (change ∷ []) [] [] made (made ++ behind) above.is.is rising keyed (above.above, tt) tt adds
      (adds_same key_of order changed put behind made (made ++ behind) pages refl)

  -- so all pages are as the change makes them
  pub whole : (old new : List (List T)) (change : C) (ends : Bool) → PutWithin key_of cmp changed put old change new ends → ArePages old → IsRising key_of cmp (joined old) → AreKeyed key_of changed put (change ∷ [])
      → InPlace key_of cmp changed put old change new
  whole old new change ends puts pages rising keyed =
      let front = puts.front in
      let back = puts.page ∷ puts.behind in
      let all = subst ArePages puts.was pages in
      let rises = subst (λ each. IsRising key_of cmp (joined each)) puts.was rising in
      let apart = subst (IsRising key_of cmp) (flat_map-append (λ page. page) front back) rises in
      let rises_back = rising_back key_of cmp (joined front) (joined back) apart in
      let pages_back = each_back _ front back all in
      let above = above_from (changed change) puts.page puts.behind ends puts.falls pages_back.1 rises_back in
      let here = adds_here puts.page change puts.made puts.behind above pages_back.1 rises_back keyed puts.here.adds in
      let begin = puts.begins in
      let starts : back ≡ (begin.first ∷ begin.is.others) ∷ puts.behind = ap (λ page. page ∷ puts.behind) (let same = begin.is.is in let first : puts.page ≡ begin.first ∷ begin.is.others = cc in first) in
      let both = adds_both key_of order changed put front back begin.first begin.is.others puts.behind [] (change ∷ []) [] front (front ++ (puts.made ++ puts.behind)) starts rises tt tt
      (not_below key_of order changed (key_of begin.first) (changed change) _ refl begin.stands, tt)
      (adds_same key_of order changed put front [] front (each_front _ front back all) refl)
      (adds_moved key_of order changed put back (change ∷ []) front (puts.made ++ puts.behind) (front ++ (puts.made ++ puts.behind)) refl here) in
      let made : AddsChanged key_of cmp changed put (front ++ back) (change ∷ []) [] (front ++ (puts.made ++ puts.behind)) = both in
      record {
        adds = subst (λ each. AddsChanged key_of cmp changed put each (change ∷ []) [] new) (sym puts.was) (subst (AddsChanged key_of cmp changed put (front ++ back) (change ∷ []) []) (sym puts.is) made);
        count = puts.count;
        begins = puts.starts;
      }

  -- the same of a change that was made, or wasn't, in pages that were as they are
  pub whole_made : (made : Bool) (first old new : List (List T)) (change : C) (ends : Bool) → MatchBool made (PutWithin key_of cmp changed put old change new ends) (new ≡ old) → old ≡ first
      → ArePages first → IsRising key_of cmp (joined first) → AreKeyed key_of changed put (change ∷ []) → MatchBool made (InPlace key_of cmp changed put first change new) (new ≡ first)
  whole_made true first old new change ends puts same pages rising keyed =
      whole first new change ends (subst (λ each. PutWithin key_of cmp changed put each change new ends) same puts) pages rising keyed
  whole_made false first old new change ends unchanged same pages rising keyed = unchanged ∙ same

  -- a change adds no more than an item
  pub within_grows : (old new : List (List T)) (change : C) (ends : Bool) → PutWithin key_of cmp changed put old change new ends → length (joined new) ≤ length (joined old) + 1
  within_grows old new change ends puts =
      let more = grows key_of order changed put (puts.page ∷ []) puts.made change puts.here in
      let was = ap (λ pages. length (joined pages)) puts.was ∙ (ap length (flat_map-append (λ page. page) puts.front (puts.page ∷ puts.behind)) ∙ length-append (joined puts.front) (joined (puts.page ∷ puts.behind))) in
      let is = ap (λ pages. length (joined pages)) puts.is ∙ (ap length (flat_map-append (λ page. page) puts.front (puts.made ++ puts.behind)) ∙ length-append (joined puts.front) (joined (puts.made ++ puts.behind))) in
      let parts = ap length (flat_map-append (λ page. page) puts.made puts.behind) ∙ length-append (joined puts.made) (joined puts.behind) in
      omega (arith, length-append puts.page (joined puts.behind), length-append puts.page [])
