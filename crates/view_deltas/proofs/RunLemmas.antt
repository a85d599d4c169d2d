-- Runs of what is kept for a view, and their rows.
use Rattle.std.proofs.Common.{◌≡◌, ℕ, zero, suc, refl, sym, ◌∙◌, ap, subst, List, [], ◌∷◌, map, length, drop, arith}
use Rattle.std.proofs.lemmas.List.{length-map, map-append}
use Rattle.own_model.specs.Db.{Row}
use Rattle.page_model.specs.Rising.{IsRising}
use Rattle.page_model.specs.Run.{IsRunFrom}
use Rattle.view_deltas.specs.Counted.{Counted}
use Rattle.view_deltas.specs.Place.{Place, place_cmp}
use Rattle.view_deltas.proofs.EntryLemmas.{place_of}
use Rattle.view_deltas.proofs.KeptLemmas.{rising_map}

drop_map : {X Y : Type 0} (f : X → Y) (n : ℕ) (xs : List X) → drop n (map f xs) ≡ map f (drop n xs)
drop_map f zero xs = refl
drop_map f (suc n) [] = refl
drop_map f (suc n) (x ∷ xs) = drop_map f n xs

-- a run of some is one of what is made of each
pub run_map : {X Y : Type 0} (f : X → Y) (xs : List X) (at : ℕ) (run : List X) → IsRunFrom xs at run → IsRunFrom (map f xs) at (map f run)
run_map f xs at run is = record {
  rest = map f is.rest;
  follow = drop_map f at xs ∙ (ap (map f) is.follow ∙ map-append f run is.rest);
  some = λ within. let first = is.some (omega (arith, within, length-map xs f)) in omega (arith, first, length-map run f);
}

-- no run is one of nothing
pub no_run : (rows : List Row) (at : ℕ) → rows ≡ [] → IsRunFrom rows at []
no_run rows at none = subst (λ (all : List Row). IsRunFrom all at []) (sym none) (record { rest = []; follow = empty at; some = λ within. absurd (omega arith) })
  where
    empty : (n : ℕ) → ◌≡◌ {A = List Row} (drop n []) []
    empty zero = refl
    empty (suc n) = refl

-- the rows that groups show, each at its place
abbrev shown_of : Place × (Counted × Row) → Place × Row
shown_of group = (group.0, group.1.1)

rows_shown : (groups : List (Place × (Counted × Row))) → map (λ group. group.1.1) groups ≡ map (λ entry. entry.1) (map shown_of groups)
rows_shown [] = refl
rows_shown (group ∷ groups) = ap (λ rest. group.1.1 ∷ rest) (rows_shown groups)

pub groups_rise : (groups : List (Place × (Counted × Row))) → IsRising place_of place_cmp groups → IsRising place_of place_cmp (map shown_of groups)
groups_rise groups rises = rising_map shown_of place_of place_cmp place_of place_cmp (λ one other less. less) groups rises

-- a run of groups is one of the rows that they show
pub groups_run : (groups run : List (Place × (Counted × Row))) (at : ℕ) → IsRunFrom groups at run → IsRunFrom (map (λ entry. entry.1) (map shown_of groups)) at (map (λ group. group.1.1) run)
groups_run groups run at is = subst (λ (rows : List Row). IsRunFrom rows at (map (λ group. group.1.1) run)) (rows_shown groups) (run_map (λ group. group.1.1) groups at run is)

-- and there are as many
pub groups_counted : (groups : List (Place × (Counted × Row))) → length groups ≡ length (map shown_of groups)
groups_counted groups = sym (length-map groups shown_of)
