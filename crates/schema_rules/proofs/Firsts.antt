-- The first name that a rule's list has.
use Rattle.std.proofs.Common.{◌≡◌, ℕ, ◌+◌, ◌<◌, ◌≤◌, length, get_or, take, drop, take_all, ◌++◌, Bool, true, false, cond, List, [], ◌∷◌, map, Option, None, Some, refl, ap, sym, ◌∙◌}
use Rattle.std.specs.List.{cons_option, filter, filter_map, find, flat_map, slice_get}
use Rattle.std.specs.Option.{option_map, option_to_list}
use Rattle.std.proofs.lemmas.List.{append-nil, drop_more, take-append-drop, take_more}
use Rattle.std.proofs.lemmas.Grind.{flat_map-append}
use Rattle.schema_model.specs.Columns.{NameBytes}
use Rattle.schema_draft.proofs.Lookups.{find-map}

-- the first of what passes
pub first-filter : {A : Type 0} (passes : A → Bool) (items : List A) → slice_get (filter passes items) 0 ≡ find passes items
first-filter passes [] = refl
first-filter {A} passes (item ∷ items) = by (passes item) (filter passes items) (find passes items) (first-filter passes items)
  where
    by : (b : Bool) (kept : List A) (found : Option A) → slice_get kept 0 ≡ found → slice_get (cond b (item ∷ kept) kept) 0 ≡ cond b (Some item) found
    by true kept found e = refl
    by false kept found e = e

-- the first of what a function makes of them
pub first-map : {A B : Type 0} (make : A → B) (items : List A) → slice_get (map make items) 0 ≡ option_map make (slice_get items 0)
first-map make [] = refl
first-map make (item ∷ items) = refl

-- what is made of what is made
pub option_map-option_map : {A B C : Type 0} (make : B → C) (seen : A → B) (found : Option A) → option_map (λ item. make (seen item)) found ≡ option_map make (option_map seen found)
option_map-option_map make seen None = refl
option_map-option_map make seen (Some item) = refl

-- the name that the first has whose view passes
pub first-passing : {A B : Type 0} (passes : B → Bool) (name : B → NameBytes) (seen : A → B) (items : List A) (whole : List B) → map seen items ≡ whole
    → option_map (λ item. name (seen item)) (find (λ item. passes (seen item)) items) ≡ slice_get (map name (filter passes whole)) 0
first-passing passes name seen items whole e =
    option_map-option_map name seen (find (λ item. passes (seen item)) items)
    ∙ ap (option_map name) (find-map passes seen items ∙ ap (find passes) e ∙ sym (first-filter passes whole))
    ∙ sym (first-map name (filter passes whole))

-- what passes of what is made, made of the items whose making passes
pub filter-map : {A B : Type 0} (passes : B → Bool) (make : A → B) (items : List A) → filter passes (map make items) ≡ map make (filter (λ item. passes (make item)) items)
filter-map passes make [] = refl
filter-map {A} {B} passes make (item ∷ items) = by (passes (make item)) (filter passes (map make items)) (filter (λ item. passes (make item)) items) (filter-map passes make items)
  where
    by : (b : Bool) (made : List B) (kept : List A) → made ≡ map make kept → cond b (make item ∷ made) made ≡ map make (cond b (item ∷ kept) kept)
    by true made kept e = ap (λ rest. make item ∷ rest) e
    by false made kept e = e

-- where what is reported of all the items up to the last is nothing, nothing is
pub none_of_all : {A : Type 0} (reported : List A → List NameBytes) (items : List A) (index : ℕ) → length items ≤ index → reported (take index items) ≡ [] → None ≡ slice_get (reported items) 0
none_of_all reported items index past none = sym (ap (λ names. slice_get names 0) (ap reported (sym (take_all index items past)) ∙ none))

-- a list without a first is empty
empty-from_none : {A : Type 0} (items : List A) → None ≡ slice_get items 0 → items ≡ []
empty-from_none [] none = refl
empty-from_none (item ∷ items) none = cc

-- what passes of what is given, item by item
pub filter-filter_map : {A B : Type 0} (passes : B → Bool) (give : A → Option B) (items : List A) → filter passes (filter_map give items) ≡ flat_map (λ item. filter passes (option_to_list (give item))) items
filter-filter_map passes give [] = refl
filter-filter_map {A} {B} passes give (item ∷ items) =
    given (give item) (filter_map give items) (flat_map (λ item. filter passes (option_to_list (give item))) items) (filter-filter_map passes give items)
  where
    kept : (b : Bool) (found : B) (passed rest : List B) → passed ≡ rest → cond b (found ∷ passed) passed ≡ cond b (found ∷ []) [] ++ rest
    kept true found passed rest e = ap (λ more. found ∷ more) e
    kept false found passed rest e = e

    given : (found : Option B) (others rest : List B) → filter passes others ≡ rest → filter passes (cons_option found others) ≡ filter passes (option_to_list found) ++ rest
    given None others rest e = e
    given (Some found) others rest e = kept (passes found) found (filter passes others) rest e

-- the first of two lists in a row
first-append : (name : NameBytes) (names others : List NameBytes) → Some name ≡ slice_get names 0 → Some name ≡ slice_get (names ++ others) 0
first-append name [] others first = cc
first-append name (other ∷ names) others first = first

module _ {A : Type 0} (reported : A → List NameBytes) (items : List A) (index : ℕ) (item : A) (within : index < length items) (here : item ≡ get_or items index item)
    (none : flat_map reported (take index items) ≡ []) where
  -- an item of which nothing is reported adds nothing
  pub flat_map_none : None ≡ slice_get (reported item) 0 → flat_map reported (take (index + 1) items) ≡ []
  flat_map_none empty =
      ap (flat_map reported) (take_more items index item within ∙ ap (λ found. take index items ++ found ∷ []) (sym here))
      ∙ flat_map-append reported (take index items) (item ∷ [])
      ∙ ap (λ before. before ++ (reported item ++ [])) none
      ∙ append-nil (reported item) ∙ empty-from_none (reported item) empty

  -- the first name of an item of which one is reported is the first of all
  pub flat_map_first : (name : NameBytes) → Some name ≡ slice_get (reported item) 0 → Some name ≡ slice_get (flat_map reported items) 0
  flat_map_first name first =
      first-append name (reported item) (flat_map reported (drop (index + 1) items)) first
      ∙ sym (ap (λ names. slice_get names 0)
      (ap (flat_map reported) (sym (take-append-drop index items) ∙ ap (λ rest. take index items ++ rest) (drop_more items index item within ∙ ap (λ found. found ∷ drop (index + 1) items) (sym here)))
      ∙ flat_map-append reported (take index items) (item ∷ drop (index + 1) items)
      ∙ ap (λ before. before ++ (reported item ++ flat_map reported (drop (index + 1) items))) none))
