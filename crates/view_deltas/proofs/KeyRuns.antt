-- Keys that are lent in runs.
use Rattle.std.proofs.Common.{◌≡◌, ℕ, ◌+◌, ◌-◌, ◌≤◌, List, [], ◌++◌, length, length-append, length-drop, drop, map, refl, sym, ap, ◌∙◌, append_assoc, arith}
use Rattle.std.proofs.lemmas.List.{append-nil, drop-drop, drop_all, drop_at, length-map}
use Rattle.own_base.specs.declared.value.Key.{Key}
use Rattle.page_model.specs.Run.{IsRunFrom}

-- those before a place, and how many there are
pub record KeysSoFar (all : List Key) (count at : ℕ) (keys : List Key) : Type 0 where
  pub counted : count ≡ length all
  pub within : at ≤ count
  pub rest : keys ++ drop at all ≡ all

abbrev right_of : Key × Key → Key
right_of pair = pair.1

module _ (all : List Key) (count at : ℕ) (keys more : List Key) (run : List (Key × Key)) (so_far : KeysSoFar all count at keys)
    (is : IsRunFrom all at (map (λ pair. pair.1) run)) (added : more ≡ keys ++ map (λ pair. pair.1) run) where
  -- a run doesn't go past the end
  pub run_within : at + length run ≤ length all
  run_within =
      let parts : length all - at ≡ length (map right_of run) + length is.rest = sym (length-drop at all) ∙ ap length is.follow ∙ length-append (map right_of run) is.rest in
      omega (arith, parts, so_far.counted, so_far.within, length-map run right_of)

  behind : drop (at + length run) all ≡ is.rest
  behind = sym (drop-drop (length run) at all) ∙ (ap (drop (length run)) is.follow ∙ drop_at (map right_of run) is.rest (length run) (length-map run right_of))

  pub keys-more : KeysSoFar all count (at + length run) more
  keys-more = record {
    counted = so_far.counted;
    within = omega (arith, run_within, so_far.counted);
    rest =
        ap (λ (front : List Key). front ++ drop (at + length run) all) added
        ∙ (append_assoc keys (map right_of run) (drop (at + length run) all)
        ∙ (ap (λ (tail : List Key). keys ++ (map right_of run ++ tail)) behind
        ∙ (ap (λ (tail : List Key). keys ++ tail) (sym is.follow) ∙ so_far.rest)));
  }

pub keys-end : (all : List Key) (count at : ℕ) (keys : List Key) → KeysSoFar all count at keys → count ≤ at → keys ≡ all
keys-end all count at keys so_far past =
    sym (append-nil keys) ∙ (ap (λ (tail : List Key). keys ++ tail) (sym (drop_all at all (omega (arith, so_far.counted)))) ∙ so_far.rest)

pub keys-start : (all : List Key) (count : ℕ) → count ≡ length all → KeysSoFar all count 0 []
keys-start all count counted = record { counted = counted; within = omega arith; rest = refl }
