-- The names that a walk over items tells, each item judged by those before it.
use Rattle.std.proofs.Common.{◌≡◌, ℕ, ◌+◌, ◌<◌, Bool, true, false, cond, List, [], ◌∷◌, ◌++◌, map, length, get_or, take, drop, Some, ap, sym, ◌∙◌, append_assoc}
use Rattle.std.specs.List.{slice_get}
use Rattle.std.proofs.lemmas.List.{append-nil, drop_more, map-append, take-append-drop, take_more}
use Rattle.schema_model.specs.Columns.{NameBytes}

module _ {B : Type 0} (test : List B → B → Bool) (name : B → NameBytes) where
  -- the name of each item that the test tells, by those before it
  abbrev pub reported_after : List B → List B → List NameBytes
  reported_after before [] = []
  reported_after before (item ∷ items) = cond (test before item) (name item ∷ []) [] ++ reported_after (before ++ item ∷ []) items

  -- what two lists in a row tell
  pub reported_after-append : (before items others : List B) → reported_after before (items ++ others) ≡ reported_after before items ++ reported_after (before ++ items) others
  reported_after-append before [] others = ap (λ passed. reported_after passed others) (sym (append-nil before))
  reported_after-append before (item ∷ items) others =
      ap (λ rest. cond (test before item) (name item ∷ []) [] ++ rest)
      (reported_after-append (before ++ item ∷ []) items others
      ∙ ap (λ passed. reported_after (before ++ item ∷ []) items ++ reported_after passed others) (append_assoc before (item ∷ []) items))
      ∙ sym (append_assoc (cond (test before item) (name item ∷ []) []) (reported_after (before ++ item ∷ []) items) (reported_after (before ++ item ∷ items) others))

  -- what is reported of the items up to one, where those before it tell nothing
  pub reported_after-one : (items others : List B) (item : B) → reported_after [] items ≡ [] → reported_after [] (items ++ item ∷ others) ≡ cond (test items item) (name item ∷ []) [] ++ reported_after (items ++ item ∷ []) others
  reported_after-one items others item none =
      reported_after-append [] items (item ∷ others) ∙ ap (λ reported. reported ++ reported_after items (item ∷ others)) none

  module _ {A : Type 0} (seen : A → B) (items : List A) (index : ℕ) (item : A) (within : index < length items) (here : item ≡ get_or items index item)
      (none : reported_after [] (map seen (take index items)) ≡ []) where
    -- the items seen up to the one here, and with the others after it
    seen-more : map seen (take (index + 1) items) ≡ map seen (take index items) ++ seen item ∷ []
    seen-more =
        ap (map seen) (take_more items index item within ∙ ap (λ found. take index items ++ found ∷ []) (sym here))
        ∙ map-append seen (take index items) (item ∷ [])

    seen-whole : map seen items ≡ map seen (take index items) ++ seen item ∷ map seen (drop (index + 1) items)
    seen-whole =
        ap (map seen) (sym (take-append-drop index items) ∙ ap (λ rest. take index items ++ rest) (drop_more items index item within ∙ ap (λ found. found ∷ drop (index + 1) items) (sym here)))
        ∙ map-append seen (take index items) (item ∷ drop (index + 1) items)

    -- an item that isn't reported adds nothing
    pub reported_none : test (map seen (take index items)) (seen item) ≡ false → reported_after [] (map seen (take (index + 1) items)) ≡ []
    reported_none fails =
        ap (reported_after []) seen-more ∙ reported_after-one (map seen (take index items)) [] (seen item) none
        ∙ ap (λ passes. cond passes (name (seen item) ∷ []) [] ++ []) fails

    -- one that is reported is the first
    pub reported_first : test (map seen (take index items)) (seen item) ≡ true → Some (name (seen item)) ≡ slice_get (reported_after [] (map seen items)) 0
    reported_first passes =
        sym (ap (λ reported. slice_get reported 0) (ap (reported_after []) seen-whole ∙ reported_after-one (map seen (take index items)) (map seen (drop (index + 1) items)) (seen item) none)
        ∙ ap (λ passed. slice_get (cond passed (name (seen item) ∷ []) [] ++ reported_after (map seen (take index items) ++ seen item ∷ []) (map seen (drop (index + 1) items))) 0) passes)
