-- The entries of a map whose keys are values.
use Rattle.std.proofs.Common.{◌≡◌, Bool, true, false, ◌||◌, cond, List, [], ◌∷◌, map, None, Some, refl, sym, ap, ◌∙◌}
use Rattle.std.specs.declared.cmp.Ordering.{Ordering}
use Rattle.std.specs.declared.cmp.Ordering.TheVariants.{Less, Equal, Greater}
use Rattle.std.specs.Ordering.{is_eq, ordering_reverse, match_ordering}
use Rattle.std.specs.Option.{IsSome}
use Rattle.std.specs.List.{AllByRecursion, list_any}
use Rattle.std.specs.List.Sorted.{IsStrictlySortedBy}
use Rattle.std.specs.Map.{lookup, set_value, keys_of}
use Rattle.std.specs.BTreeMap.{insert_entry, is_at}
use Rattle.std.proofs.lemmas.Cmp.{alike_right}
use Rattle.std.proofs.lemmas.Map.{lookup-none}
use Rattle.std.proofs.lemmas.Map.Entries.{none_below_head}
use Rattle.own_base.specs.declared.value.Value.{Value}
use Rattle.own_model.specs.Stored.{is_equal}
use Rattle.query_model.specs.Order.{value_cmp}
use Rattle.query_model.specs.Query.{at_first, with_value}
use Rattle.query_model.proofs.ValueOrder.{value_order}

-- values that are above one stay so with one more that is
above-with_value : (low value : Value) (values : List Value) → value_cmp low value ≡ Less → AllByRecursion (λ other. value_cmp low other ≡ Less) values
    → AllByRecursion (λ other. value_cmp low other ≡ Less) (with_value value values)
above-with_value low value [] less above = (less, tt)
above-with_value low value (first ∷ rest) less above =
    elim (value_cmp value first) as (λ o. AllByRecursion (λ other. value_cmp low other ≡ Less) (at_first o value first rest (with_value value rest)))
    [ Less ↦ (less, above) | Equal ↦ above | Greater ↦ (above.0, above-with_value low value rest less above.1) ]

-- what is above a value is above what is below it
above-below : (low value : Value) (values : List Value) → value_cmp low value ≡ Less → AllByRecursion (λ other. value_cmp value other ≡ Less) values
    → AllByRecursion (λ other. value_cmp low other ≡ Less) values
above-below low value [] less above = tt
above-below low value (first ∷ rest) less above = (value_order.trans low value first less above.0, above-below low value rest less above.1)

-- what is above a value is above what equals it
above-equal : (value other : Value) (values : List Value) → value_cmp value other ≡ Equal → AllByRecursion (λ high. value_cmp other high ≡ Less) values
    → AllByRecursion (λ high. value_cmp value high ≡ Less) values
above-equal value other [] equal above = tt
above-equal value other (first ∷ rest) equal above = (value_order.congr value other first equal ∙ above.0, above-equal value other rest equal above.1)

-- what is greater stands on the other side too
turned : (value other : Value) → value_cmp value other ≡ Greater → value_cmp other value ≡ Less
turned value other greater = value_order.antisymm other value ∙ ap ordering_reverse greater

sorted-at_first : (o : Ordering) (value first : Value) (rest : List Value) → value_cmp value first ≡ o → IsStrictlySortedBy value_cmp (first ∷ rest)
    → IsStrictlySortedBy value_cmp (with_value value rest) → IsStrictlySortedBy value_cmp (at_first o value first rest (with_value value rest))
unfolding IsStrictlySortedBy
sorted-at_first Less value first rest is sorted after = ((is, above-below value first rest is sorted.0), sorted)
sorted-at_first Equal value first rest is sorted after = sorted
sorted-at_first Greater value first rest is sorted after = (above-with_value first value rest (turned value first is) sorted.0, after)

-- values that rise do so with one more
pub sorted-with_value : (value : Value) (values : List Value) → IsStrictlySortedBy value_cmp values → IsStrictlySortedBy value_cmp (with_value value values)
unfolding IsStrictlySortedBy
sorted-with_value value [] sorted = (tt, tt)
sorted-with_value value (first ∷ rest) sorted = sorted-at_first (value_cmp value first) value first rest refl sorted (sorted-with_value value rest sorted.1)

-- whether one of some values equals this one
abbrev pub has_value : Value → List Value → Bool
has_value value values = list_any (λ other. is_equal (value_cmp value other)) values

has-at_first : (o : Ordering) (value more first : Value) (rest : List Value) → value_cmp more first ≡ o
    → has_value value (with_value more rest) ≡ (is_equal (value_cmp value more) || has_value value rest)
    → has_value value (at_first o more first rest (with_value more rest)) ≡ (is_equal (value_cmp value more) || has_value value (first ∷ rest))
has-at_first Less value more first rest is hence = refl
has-at_first Equal value more first rest is hence = rw (alike_right value_order more first value is) (elim (is_equal (value_cmp value first)) as (λ b. (b || has_value value rest) ≡ (b || (b || has_value value rest))) [ true ↦ refl | false ↦ refl ])
has-at_first Greater value more first rest is hence = rw (hence) (elim (is_equal (value_cmp value first)) as (λ b. (b || (is_equal (value_cmp value more) || has_value value rest)) ≡ (is_equal (value_cmp value more) || (b || has_value value rest)))
    [ true ↦ elim (is_equal (value_cmp value more)) as (λ b. true ≡ (b || true)) [ true ↦ refl | false ↦ refl ] | false ↦ refl ])

-- with one value more, those are there that equal it, and those that were
pub has-with_value : (value more : Value) (values : List Value) → has_value value (with_value more values) ≡ (is_equal (value_cmp value more) || has_value value values)
has-with_value value more [] = refl
has-with_value value more (first ∷ rest) = has-at_first (value_cmp more first) value more first rest refl (has-with_value value more rest)

module _ {X : Type 0} where
  -- each value with what is kept for it
  abbrev pub entries_of : (Value → X) → List Value → List (Value × X)
  entries_of keep values = map (λ value. (value, keep value)) values

  lookup-first : (o : Ordering) (keep : Value → X) (value first : Value) (rest : List Value) → value_cmp value first ≡ o → (value_cmp value first ≡ Equal → keep value ≡ keep first)
      → lookup (is_at (value_cmp value)) (entries_of keep rest) ≡ cond (has_value value rest) (Some (keep value)) None
      → cond (is_eq o) (Some (keep first)) (lookup (is_at (value_cmp value)) (entries_of keep rest)) ≡ cond (is_equal o || has_value value rest) (Some (keep value)) None
  lookup-first Less keep value first rest is alike hence = hence
  lookup-first Equal keep value first rest is alike hence = ap Some (sym (alike is))
  lookup-first Greater keep value first rest is alike hence = hence

  -- what is kept for a value is found for each that equals it
  pub lookup-entries_of : (keep : Value → X) (value : Value) (values : List Value) → ((other : Value) → value_cmp value other ≡ Equal → keep value ≡ keep other)
      → lookup (is_at (value_cmp value)) (entries_of keep values) ≡ cond (has_value value values) (Some (keep value)) None
  lookup-entries_of keep value [] alike = refl
  lookup-entries_of keep value (first ∷ rest) alike = lookup-first (value_cmp value first) keep value first rest refl (alike first) (lookup-entries_of keep value rest alike)

  -- what is kept for values above one stays where it changes for that one alone
  kept-above : (keep after : Value → X) (value : Value) (values : List Value) → ((other : Value) → is_equal (value_cmp value other) ≡ false → keep other ≡ after other)
      → AllByRecursion (λ other. value_cmp value other ≡ Less) values → entries_of keep values ≡ entries_of after values
  kept-above keep after value [] same above = refl
  kept-above keep after value (first ∷ rest) same above = rw (same first (ap is_equal above.0), kept-above keep after value rest same above.1)

  insert-first : (o : Ordering) (keep after : Value → X) (value first : Value) (rest : List Value) → value_cmp value first ≡ o
      → ((other : Value) → is_equal (value_cmp value other) ≡ false → keep other ≡ after other) → (value_cmp value first ≡ Equal → after value ≡ after first)
      → IsStrictlySortedBy value_cmp (first ∷ rest)
      → insert_entry value_cmp (entries_of keep rest) value (after value) ≡ entries_of after (with_value value rest)
      → match_ordering o ((value, after value) ∷ entries_of keep (first ∷ rest)) ((first, after value) ∷ entries_of keep rest) ((first, keep first) ∷ insert_entry value_cmp (entries_of keep rest) value (after value))
      ≡ entries_of after (at_first o value first rest (with_value value rest))
  unfolding IsStrictlySortedBy
  insert-first Less keep after value first rest is same alike sorted hence =
      ap (λ others. (value, after value) ∷ others) (kept-above keep after value (first ∷ rest) same (is, above-below value first rest is sorted.0))
  insert-first Equal keep after value first rest is same alike sorted hence =
      rw (alike is, kept-above keep after value rest same (above-equal value first rest is sorted.0))
  insert-first Greater keep after value first rest is same alike sorted hence = rw (same first (ap is_equal is), hence)

  -- with an entry for one value more, what is kept for those that equal it changes alone
  pub insert-entries_of : (keep after : Value → X) (value : Value) (values : List Value) → ((other : Value) → is_equal (value_cmp value other) ≡ false → keep other ≡ after other)
      → ((other : Value) → value_cmp value other ≡ Equal → after value ≡ after other) → IsStrictlySortedBy value_cmp values
      → insert_entry value_cmp (entries_of keep values) value (after value) ≡ entries_of after (with_value value values)
  unfolding IsStrictlySortedBy
  insert-entries_of keep after value [] same alike sorted = refl
  insert-entries_of keep after value (first ∷ rest) same alike sorted =
      insert-first (value_cmp value first) keep after value first rest refl same (alike first) sorted (insert-entries_of keep after value rest same alike sorted.1)

  set_value-first : (o : Ordering) (value first : Value) (kept : X) (entries : List (Value × X)) (new : X) → value_cmp value first ≡ o
      → IsStrictlySortedBy value_cmp (first ∷ keys_of entries) → IsSome (cond (is_eq o) (Some kept) (lookup (is_at (value_cmp value)) entries))
      → (IsSome (lookup (is_at (value_cmp value)) entries) → set_value (is_at (value_cmp value)) entries new ≡ insert_entry value_cmp entries value new)
      → cond (is_eq o) ((first, new) ∷ entries) ((first, kept) ∷ set_value (is_at (value_cmp value)) entries new)
      ≡ match_ordering o ((value, new) ∷ (first, kept) ∷ entries) ((first, new) ∷ entries) ((first, kept) ∷ insert_entry value_cmp entries value new)
  unfolding IsStrictlySortedBy
  set_value-first Less value first kept entries new is sorted there hence =
      let none : lookup (is_at (value_cmp value)) entries ≡ None = lookup-none (is_at (value_cmp value)) entries (none_below_head value_order value (first, kept) entries sorted is).1 in
      let found = rw none at there in cc
  set_value-first Equal value first kept entries new is sorted there hence = refl
  set_value-first Greater value first kept entries new is sorted there hence = ap (λ others. (first, kept) ∷ others) (hence there)

  -- where a value is there, an entry put for it is its entry written over
  pub set_value-is_insert_entry : (value : Value) (entries : List (Value × X)) (new : X) → IsStrictlySortedBy value_cmp (keys_of entries)
      → IsSome (lookup (is_at (value_cmp value)) entries) → set_value (is_at (value_cmp value)) entries new ≡ insert_entry value_cmp entries value new
  unfolding IsStrictlySortedBy
  set_value-is_insert_entry value [] new sorted there = cc
  set_value-is_insert_entry value (entry ∷ entries) new sorted there =
      set_value-first (value_cmp value entry.0) value entry.0 entry.1 entries new refl sorted there (set_value-is_insert_entry value entries new sorted.1)
