-- The keys of rows, as a set keeps them.
use Rattle.std.proofs.Common.{◌≡◌, ℕ, ◌+◌, ◌<◌, List, [], ◌∷◌, fold, length, get_or, take, refl, ◌∙◌}
use Rattle.std.specs.declared.cmp.Ordering.{Ordering}
use Rattle.std.specs.declared.cmp.Ordering.TheVariants.{Less, Equal, Greater}
use Rattle.std.specs.Ordering.{match_ordering}
use Rattle.std.specs.BTreeSet.{insert_key}
use Rattle.std.proofs.lemmas.List.Sums.{fold_more}
use Rattle.own_base.specs.Key.{key_cmp}
use Rattle.own_base.specs.declared.value.Key.{Key}
use Rattle.query_model.specs.Footprints.{at_first, with_key}

-- by how the key stands to the first
at_first-is : (o : Ordering) (new first : Key) (rest further : List Key) → match_ordering o (new ∷ first ∷ rest) (first ∷ rest) (first ∷ further) ≡ at_first o new first rest further
at_first-is Less new first rest further = refl
at_first-is Equal new first rest further = refl
at_first-is Greater new first rest further = refl

module _ (cmp : Key → Key → Ordering) where
  -- what a set in the order of keys holds with one key more
  insert_key-is : ((left right : Key) → cmp left right ≡ key_cmp left right) → (new : Key) (keys : List Key) → insert_key cmp keys new ≡ with_key new keys
  insert_key-is same new [] = refl
  insert_key-is same new (first ∷ rest) = rw (same new first, insert_key-is same new rest) (at_first-is (key_cmp new first) new first rest (with_key new rest))

  -- with the key of one row more
  pub keys_more : {X : Type 0} (key : X → Key) (rows : List X) (i : ℕ) (row : X) (keys : List Key) (new : Key) (after : List Key)
      → after ≡ insert_key cmp keys new → ((left right : Key) → cmp left right ≡ key_cmp left right) → i < length rows → row ≡ get_or rows i row
      → keys ≡ fold (λ keys row. with_key (key row) keys) [] (take i rows) → new ≡ key row → after ≡ fold (λ keys row. with_key (key row) keys) [] (take (i + 1) rows)
  keys_more key rows i row keys new after is same within here so_far of =
      rw (fold_more (λ keys row. with_key (key row) keys) [] rows i row within, ← here, ← so_far, ← of) (is ∙ insert_key-is same new keys)
