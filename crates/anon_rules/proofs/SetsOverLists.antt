-- The columns that one member of a list has, or that each has, by one member after another.
use Rattle.std.proofs.Common.{◌≡◌, ◌<◌, ◌+◌, ℕ, Bool, List, length, get_or, take, sym, ap, ◌∙◌}
use Rattle.std.specs.Int.Bits.{bit_and, bit_or}
use Rattle.std.specs.List.{list_all, list_any}
use Rattle.std.proofs.lemmas.List.Folds.{list_all_more, list_any_more}
use Rattle.own_base.specs.declared.number.ColumnSet.{ColumnSet}
use Rattle.owner_model.specs.ColumnSets.{set_of}
use Rattle.owner_model.proofs.ColumnSetLemmas.{set_of-and, set_of-or, set_of-same}

module _ {X : Type 0} (has : X → ℕ → Bool) (members : List X) where
  -- the columns that one of the first members has
  abbrev pub some_of_first : ℕ → ColumnSet
  some_of_first count = set_of (λ column. list_any (λ member. has member column) (take count members))

  -- the columns that each of the first members has
  abbrev pub all_of_first : ℕ → ColumnSet
  all_of_first count = set_of (λ column. list_all (λ member. has member column) (take count members))

  -- one member more, by `|`
  pub some_of_first-more : (count : ℕ) (default : X) (so_far next : ColumnSet) → count < length members → so_far ≡ some_of_first count → next ≡ set_of (has (get_or members count default)) → record { 0 = bit_or so_far.0 next.0 } ≡ some_of_first (count + 1)
  some_of_first-more count default so_far next within is_so_far is_next =
      ap (λ set. record { 0 = bit_or set.0 next.0 }) is_so_far
      ∙ ap (λ set. record { 0 = bit_or (some_of_first count).0 set.0 }) is_next
      ∙ set_of-or (λ column. list_any (λ member. has member column) (take count members)) (has (get_or members count default))
      ∙ set_of-same _ _ (λ column _. sym (list_any_more (λ member. has member column) members count default within))

  -- one member more, by `&`
  pub all_of_first-more : (count : ℕ) (default : X) (so_far next : ColumnSet) → count < length members → so_far ≡ all_of_first count → next ≡ set_of (has (get_or members count default)) → record { 0 = bit_and so_far.0 next.0 } ≡ all_of_first (count + 1)
  all_of_first-more count default so_far next within is_so_far is_next =
      ap (λ set. record { 0 = bit_and set.0 next.0 }) is_so_far
      ∙ ap (λ set. record { 0 = bit_and (all_of_first count).0 set.0 }) is_next
      ∙ set_of-and (λ column. list_all (λ member. has member column) (take count members)) (has (get_or members count default))
      ∙ set_of-same _ _ (λ column _. sym (list_all_more (λ member. has member column) members count default within))
