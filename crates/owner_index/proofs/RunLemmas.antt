-- The names of keys that are lent in runs.
use Rattle.std.proofs.Common.{◌≡◌, ℕ, ◌+◌, ◌-◌, ◌≤◌, List, [], ◌∷◌, ◌++◌, length, length-append, length-drop, drop, map, refl, sym, ap, ◌∙◌, append_assoc, arith}
use Rattle.std.proofs.lemmas.List.{append-nil, drop-drop, drop_all, drop_at, map-append}
use Rattle.own_base.specs.declared.number.TableNo.{TableNo}
use Rattle.own_base.specs.declared.row_name.RowName.{RowName}
use Rattle.own_base.specs.declared.value.Key.{Key}
use Rattle.page_model.specs.Run.{IsRunFrom}
use Rattle.owner_index.specs.Referrers.{entry_name, named}

-- the names of the keys before a place, and how many keys there are
pub record NamesSoFar (table : TableNo) (keys : List Key) (count at : ℕ) (names : List RowName) : Type 0 where
  pub counted : count ≡ length keys
  pub within : at ≤ count
  pub rest : names ++ map (named table) (drop at keys) ≡ map (named table) keys

pub names-start : (table : TableNo) (keys : List Key) (count : ℕ) → count ≡ length keys → NamesSoFar table keys count 0 []
names-start table keys count counted = record { counted = counted; within = omega arith; rest = refl }

entry_names : (table : TableNo) (entries : List (Key × Key)) → map (entry_name table) entries ≡ map (named table) (map (λ entry. entry.1) entries)
entry_names table [] = refl
entry_names table (entry ∷ entries) = ap (λ rest. entry_name table entry ∷ rest) (entry_names table entries)

keys_counted : (entries : List (Key × Key)) → length (map (λ entry. entry.1) entries) ≡ length entries
keys_counted [] = refl
keys_counted (entry ∷ entries) = omega (arith, keys_counted entries)

module _ (table : TableNo) (keys : List Key) (count at : ℕ) (names more : List RowName) (entries : List (Key × Key)) (so_far : NamesSoFar table keys count at names)
    (run : IsRunFrom keys at (map (λ entry. entry.1) entries)) (added : more ≡ names ++ map (entry_name table) entries) where
  -- a run doesn't go past the end
  pub run_within : at + length entries ≤ length keys
  run_within =
      let parts : length keys - at ≡ length (map (λ (entry : Key × Key). entry.1) entries) + length run.rest = sym (length-drop at keys) ∙ ap length run.follow ∙ length-append (map (λ (entry : Key × Key). entry.1) entries) run.rest in
      omega (arith, parts, so_far.counted, so_far.within, keys_counted entries)

  behind : drop (at + length entries) keys ≡ run.rest
  behind =
      sym (drop-drop (length entries) at keys) ∙ (ap (drop (length entries)) run.follow ∙ drop_at (map (λ (entry : Key × Key). entry.1) entries) run.rest (length entries) (keys_counted entries))

  pub names-more : NamesSoFar table keys count (at + length entries) more
  names-more =
      record {
        counted = so_far.counted;
        within = omega (arith, run_within, so_far.counted);
        rest =
            ap (λ (front : List RowName). front ++ map (named table) (drop (at + length entries) keys)) added
            ∙ (append_assoc names (map (entry_name table) entries) (map (named table) (drop (at + length entries) keys))
            ∙ (ap (λ (tail : List RowName). names ++ tail)
            (ap (λ (front : List RowName). front ++ map (named table) (drop (at + length entries) keys)) (entry_names table entries)
            ∙ (ap (λ (rest : List Key). map (named table) (map (λ entry. entry.1) entries) ++ map (named table) rest) behind
            ∙ (sym (map-append (named table) (map (λ (entry : Key × Key). entry.1) entries) run.rest) ∙ ap (map (named table)) (sym run.follow))))
            ∙ so_far.rest));
      }

pub names-end : (table : TableNo) (keys : List Key) (count at : ℕ) (names : List RowName) → NamesSoFar table keys count at names → count ≤ at → names ≡ map (named table) keys
names-end table keys count at names so_far all =
    sym (append-nil names) ∙ (ap (λ (tail : List Key). names ++ map (named table) tail) (sym (drop_all at keys (omega (arith, so_far.counted)))) ∙ so_far.rest)
