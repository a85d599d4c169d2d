-- Pages in which a change was put in place.
use Rattle.std.proofs.Common.{◌≡◌, refl, sym, ◌∙◌, ap, subst, List, [], ◌∷◌, ◌++◌, ℕ, zero, suc, ◌+◌, ◌<◌, ◌≤◌, length, take, drop, append-nil, take-append-drop, length-append, Option, MatchBool, arith}
use Rattle.std.specs.Prelude.{Bool, true, false, cond, slice_set}
use Rattle.std.specs.Cmp.{IsTotalOrder}
use Rattle.std.specs.List.{insert}
use Rattle.std.specs.Option.{option_to_list}
use Rattle.std.specs.declared.cmp.Ordering.{Ordering}
use Rattle.page_model.specs.Changed.{above_key, AreKeyed, with_change, with_changes}
use Rattle.page_model.specs.ChangedPages.{AddsPages}
use Rattle.page_model.specs.Page.{ArePages, IsFirst, IsPage, joined}
use Rattle.page_model.specs.Place.{IsPlaceOf}
use Rattle.page_model.specs.Rising.{IsRising}
use Rattle.page_model.specs.declared.TheConstants.{PAGE_ITEMS}
use Rattle.page_model.proofs.ChangedLemmas.{rising_with_changes}
use Rattle.page_model.proofs.KeptLemmas.{adds_all, adds_leaf}
use Rattle.page_model.proofs.SplitLemmas.{below_is}
use Rattle.page_tree.specs.InPlace.{InPlace}

-- an insert that was made, or wasn't
pub match_made : {X : Type 0} (P : List X → Type 0) (made : Bool) (old new wanted : List X) → new ≡ cond made wanted old → P wanted → MatchBool made (P new) (new ≡ old)
match_made P true old new wanted is holds = subst P (sym is) holds
match_made P false old new wanted is holds = is

-- a write at a place, by the parts around it
pub set_parts : {X : Type 0} (xs : List X) (place : ℕ) (x : X) → place < length xs → slice_set xs place x ≡ take place xs ++ x ∷ drop (suc place) xs
set_parts [] place x within = absurd (omega arith)
set_parts (y ∷ ys) zero x within = refl
set_parts (y ∷ ys) (suc place) x within = ap (λ zs. y ∷ zs) (set_parts ys place x (omega arith))

pub insert_length : {X : Type 0} (xs : List X) (place : ℕ) (x : X) → length (insert xs place x) ≡ length xs + 1
insert_length xs place x =
    let all = ap length (take-append-drop place xs) in
    omega (arith, length-append (take place xs) (drop place xs), length-append (take place xs) (x ∷ drop place xs))

-- the first item stays where another place is changed
pub first_stays : {T : Type 0} (place : ℕ) (first : T) (others rest : List T) → 0 < place → (more : List T) × (take place (first ∷ others) ++ rest ≡ first ∷ more)
first_stays zero first others rest some = absurd (omega arith)
first_stays (suc place) first others rest some = (take place others ++ rest, refl)

module _ {T K C : Type 0} (key_of : T → K) {cmp : K → K → Ordering} (order : IsTotalOrder cmp) (changed : C → K) (put : C → Option T) where
  pub one_change : (change : C) (xs : List T) → with_changes key_of cmp changed put (change ∷ []) xs ≡ with_change key_of cmp (changed change) (put change) xs
  unfolding with_changes
  one_change change xs = refl

  pub parts_are : (change : C) (page : List T) (place behind : ℕ) → IsPlaceOf key_of cmp (changed change) page place → above_key key_of cmp (changed change) page ≡ drop behind page
      → with_change key_of cmp (changed change) (put change) page ≡ take place page ++ (option_to_list (put change) ++ drop behind page)
  unfolding with_change
  parts_are change page place behind is above = rw (below_is key_of order (changed change) page place is, above) refl

  copied_parts : (change : C) (page : List T) (place : ℕ) → IsPlaceOf key_of cmp (changed change) page place
      → with_change key_of cmp (changed change) (put change) page ≡ take place page ++ (option_to_list (put change) ++ above_key key_of cmp (changed change) page)
  unfolding with_change
  copied_parts change page place is = rw (below_is key_of order (changed change) page place is) refl

  begins_as : (page new : List T) (place : ℕ) (rest : List T) → 0 < place → new ≡ take place page ++ rest → (first : T) → IsFirst first (page ∷ []) → IsFirst first (new ∷ [])
  begins_as page new place rest some is first begins =
      let starts : page ≡ first ∷ begins.others = let same = begins.is in cc in
      let stays = first_stays place first begins.others rest some in
      record { others = stays.0; behind = []; is = ap (λ each. each ∷ []) (is ∙ (ap (λ old. take place old ++ rest) starts ∙ stays.1)) }

  -- a page with a change behind its first item
  pub page_changed : (change : C) (page new : List T) (place behind : ℕ) → 0 < place → IsPage page → length new ≤ PAGE_ITEMS → 0 < length new
      → IsPlaceOf key_of cmp (changed change) page place → above_key key_of cmp (changed change) page ≡ drop behind page
      → new ≡ take place page ++ (option_to_list (put change) ++ drop behind page)
      → InPlace key_of cmp changed put (page ∷ []) change (new ∷ [])
  page_changed change page new place behind some old fits filled is above parts =
      let adds : AddsPages (with_changes key_of cmp changed put (change ∷ []) page) [] (new ∷ []) = record {
        new = new ∷ [];
        behind = refl;
        pages = (record { some = filled; fits = fits }, tt);
        items = append-nil new ∙ (parts ∙ (sym (parts_are change page place behind is above) ∙ sym (one_change change page)));
      } in
      record {
        adds = adds_leaf key_of order changed put page (change ∷ []) [] (new ∷ []) (omega arith) adds;
        count = omega arith;
        begins = begins_as page new place (option_to_list (put change) ++ drop behind page) some parts;
      }

  -- the same of a page that has what the change makes of it
  pub page_copied : (change : C) (page new : List T) (place : ℕ) → 0 < place → length new ≤ PAGE_ITEMS → 0 < length new → IsPlaceOf key_of cmp (changed change) page place
      → new ≡ with_change key_of cmp (changed change) (put change) page → InPlace key_of cmp changed put (page ∷ []) change (new ∷ [])
  page_copied change page new place some fits filled is made = record {
    adds = adds_leaf key_of order changed put page (change ∷ []) [] (new ∷ []) (omega arith) (record { new = new ∷ []; behind = refl; pages = (record { some = filled; fits = fits }, tt); items = append-nil new ∙ (made ∙ sym (one_change change page)) });
    count = omega arith;
    begins = begins_as page new place (option_to_list (put change) ++ above_key key_of cmp (changed change) page) some (made ∙ copied_parts change page place is);
  }

  -- what one change makes of the items
  pub items_changed : (old new : List (List T)) (change : C) → InPlace key_of cmp changed put old change new → joined new ≡ with_change key_of cmp (changed change) (put change) (joined old)
  items_changed old new change is = ap joined is.adds.behind ∙ (is.adds.items ∙ one_change change (joined old))

  -- what holds of a sequence's pages holds after a change, whether it was made or not
  pub stays_sound : (made : Bool) (old new : List (List T)) (change : C) → MatchBool made (InPlace key_of cmp changed put old change new) (new ≡ old)
      → AreKeyed key_of changed put (change ∷ []) → ArePages old → IsRising key_of cmp (joined old) → ArePages new × IsRising key_of cmp (joined new)
  stays_sound true old new change is keyed pages rising =
      let all = adds_all key_of order changed put old (change ∷ []) new is.adds in
      (all.0, subst (IsRising key_of cmp) (sym all.1) (rising_with_changes key_of order changed put (change ∷ []) (joined old) keyed rising))
  stays_sound false old new change is keyed pages rising = (subst ArePages (sym is) pages, subst (λ each. IsRising key_of cmp (joined each)) (sym is) rising)
