-- The rows of keys that are lent in runs.
use Rattle.std.proofs.Common.{◌≡◌, ℕ, ◌+◌, ◌-◌, ◌≤◌, List, [], ◌∷◌, ◌++◌, length, length-append, length-drop, drop, map, refl, sym, ap, ◌∙◌, append_assoc, arith}
use Rattle.std.specs.Prelude.{flat_map}
use Rattle.std.specs.Option.{option_to_list}
use Rattle.std.proofs.lemmas.List.{append-nil, drop-drop, drop_all, drop_at}
use Rattle.std.proofs.lemmas.List.Concat.{flat_map-append}
use Rattle.own_base.specs.declared.number.TableNo.{TableNo}
use Rattle.own_base.specs.declared.value.Key.{Key}
use Rattle.own_model.specs.declared.schema.Schema.{Schema}
use Rattle.own_model.specs.Db.{Row}
use Rattle.own_model.specs.Stored.{row_named}
use Rattle.page_model.specs.Run.{IsRunFrom}
use Rattle.query_eval.specs.NamedRows.{rows_named}

module _ (schema : Schema) (all : List (List Row)) (table : TableNo) where
  -- the rows of the keys before a place, and how many keys there are
  pub record RowsSoFar (keys : List Key) (count at : ℕ) (rows : List Row) : Type 0 where
    pub counted : count ≡ length keys
    pub within : at ≤ count
    pub rest : rows ++ rows_named schema all table (drop at keys) ≡ rows_named schema all table keys

  pub rows-start : (keys : List Key) (count : ℕ) → count ≡ length keys → RowsSoFar keys count 0 []
  rows-start keys count counted = record { counted = counted; within = omega arith; rest = refl }

  named-append : (keys more : List Key) → rows_named schema all table (keys ++ more) ≡ rows_named schema all table keys ++ rows_named schema all table more
  named-append keys more = flat_map-append (λ (key : Key). option_to_list (row_named schema all (record { table = table; key = key }))) keys more

  keys_counted : (entries : List (Key × Key)) → length (map (λ entry. entry.1) entries) ≡ length entries
  keys_counted [] = refl
  keys_counted (entry ∷ entries) = omega (arith, keys_counted entries)

  module _ (keys : List Key) (count at : ℕ) (rows more : List Row) (entries : List (Key × Key)) (so_far : RowsSoFar keys count at rows)
      (run : IsRunFrom keys at (map (λ entry. entry.1) entries)) (added : more ≡ rows ++ rows_named schema all table (map (λ entry. entry.1) entries)) where
    abbrev told : List Key
    told = map (λ (entry : Key × Key). entry.1) entries

    -- a run doesn't go past the end
    pub run_within : at + length entries ≤ length keys
    run_within =
        let parts : length keys - at ≡ length told + length run.rest = sym (length-drop at keys) ∙ ap length run.follow ∙ length-append told run.rest in
        omega (arith, parts, so_far.counted, so_far.within, keys_counted entries)

    behind : drop (at + length entries) keys ≡ run.rest
    behind = sym (drop-drop (length entries) at keys) ∙ (ap (drop (length entries)) run.follow ∙ drop_at told run.rest (length entries) (keys_counted entries))

    pub rows-more : RowsSoFar keys count (at + length entries) more
    rows-more =
        record {
          counted = so_far.counted;
          within = omega (arith, run_within, so_far.counted);
          rest =
              ap (λ (front : List Row). front ++ rows_named schema all table (drop (at + length entries) keys)) added
              ∙ (append_assoc rows (rows_named schema all table told) (rows_named schema all table (drop (at + length entries) keys))
              ∙ (ap (λ (tail : List Row). rows ++ tail)
              (ap (λ (rest : List Key). rows_named schema all table told ++ rows_named schema all table rest) behind
              ∙ (sym (named-append told run.rest) ∙ ap (rows_named schema all table) (sym run.follow)))
              ∙ so_far.rest));
        }

  pub rows-end : (keys : List Key) (count at : ℕ) (rows : List Row) → RowsSoFar keys count at rows → count ≤ at → rows ≡ rows_named schema all table keys
  rows-end keys count at rows so_far past =
      sym (append-nil rows) ∙ (ap (λ (tail : List Key). rows ++ rows_named schema all table tail) (sym (drop_all at keys (omega (arith, so_far.counted)))) ∙ so_far.rest)
