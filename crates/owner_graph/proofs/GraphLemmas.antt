-- Where all tables are placed, the edges by table and the order are a graph.
use Rattle.std.proofs.Common.{◌≡◌, ℕ, zero, suc, ◌+◌, ◌<◌, ◌≤◌, List, [], ◌∷◌, sym, ap, ◌∙◌, subst, inl, inr, arith, length, map, get_or, not}
use Rattle.std.specs.Prelude.{◌≢◌, ◌⊎◌, ◌==◌, Contains, Some, IsPermutation, remove, slice_get, slice_index}
use Rattle.std.specs.List.{AllByRecursion, range_with_len}
use Rattle.std.proofs.lemmas.Bool.{cases_eq, cases_lt, ne_eqb}
use Rattle.std.proofs.lemmas.List.{get_or-map, get_or_default, get_or_past, length-map, nil_from_length}
use Rattle.std.proofs.lemmas.List.Elements.{Contains-get_or, recursion_from_All}
use Rattle.std.proofs.lemmas.List.FromFn.{length-range_with_len}
use Rattle.std.proofs.lemmas.List.Sorted.{Contains-permutation, IsPermutation-cons, IsPermutation-refl, IsPermutation-remove, IsPermutation-sym, IsPermutation-trans, length_permutation}
use Rattle.std.proofs.lemmas.List.Sums.{length-filter}
use Rattle.own_base.specs.declared.number.TableNo.{TableNo}
use Rattle.own_model.specs.declared.schema.Edge.{Edge}
use Rattle.owner_model.specs.AreWithin.{AreWithin}
use Rattle.owner_model.specs.GraphOrder.{IsGraphOrder, StandsBefore}
use Rattle.owner_model.specs.Placed.{IsPlaced}
use Rattle.owner_model.proofs.CountLemmas.{count_by-one}
use Rattle.owner_model.proofs.CycleLemmas.{tables_within}
use Rattle.owner_graph.specs.declared.end.End.TheVariants.{Lower}
use Rattle.owner_graph.specs.Ends.{by_table, edges_at}
use Rattle.owner_graph.specs.Graph.{IsGraphOf}
use Rattle.owner_graph.specs.TopologicalSort.{AllPlaced}
use Rattle.owner_graph.proofs.EndsLemmas.{get_or-by_table, length-by_table}
use Rattle.owner_graph.proofs.PlacedLemmas.{get-within, get_from_read, read_from_get}
use Rattle.owner_graph.proofs.ReleasedLemmas.{none_outside}

-- each element differs from those after it
abbrev Apart : List ℕ → Type 0
Apart [] = Unit {0}
Apart (x ∷ xs) = AllByRecursion (λ y. y ≢ x) xs × Apart xs

above_apart : (least first count : ℕ) → least < first → AllByRecursion (λ y. y ≢ least) (range_with_len first count)
above_apart least first zero below = tt
above_apart least first (suc count) below = (λ same. omega arith, above_apart least (first + 1) count (omega arith))

range_apart : (first count : ℕ) → Apart (range_with_len first count)
range_apart first zero = tt
range_apart first (suc count) = (above_apart first (first + 1) count (omega arith), range_apart (first + 1) count)

contains_cases : (x : ℕ) (xs : List ℕ) (y : ℕ) → Contains (x ∷ xs) y → (x ≡ y) ⊎ Contains xs y
contains_cases x xs y (zero, inside, is) = inl is
contains_cases x xs y (suc place, inside, is) = inr (place, omega arith, is)

-- what a list has besides its first, another has besides it too
others_contained : (x : ℕ) (ys zs : List ℕ) → IsPermutation ys (x ∷ zs) → (xs : List ℕ) → AllByRecursion (λ y. y ≢ x) xs → AllByRecursion (Contains ys) xs → AllByRecursion (Contains zs) xs
others_contained x ys zs moved [] apart all = tt
others_contained x ys zs moved (y ∷ xs) apart all = (
  elim (contains_cases x zs y (Contains-permutation ys (x ∷ zs) y moved all.0)) [ inl same ↦ absurd (apart.0 (sym same)) | inr rest ↦ rest ],
  others_contained x ys zs moved xs apart.1 all.1,
)

-- a list that has each element of another, of as many that differ, has them in another order
pub IsPermutation-contained : (xs ys : List ℕ) → Apart xs → AllByRecursion (Contains ys) xs → length ys ≡ length xs → IsPermutation xs ys
IsPermutation-contained [] ys apart all long = subst (IsPermutation []) (sym (nil_from_length ys long)) (IsPermutation-refl [])
IsPermutation-contained (x ∷ xs) ys apart all long =
    let zs = remove ys all.0.0 in
    let moved : IsPermutation ys (x ∷ zs) = IsPermutation-remove ys all.0.0 x all.0.1 (sym all.0.2) in
    let rest : IsPermutation xs zs =
    IsPermutation-contained xs zs apart.1 (others_contained x ys zs moved xs apart.0 all.1) (omega (arith, length_permutation ys (x ∷ zs) moved)) in
    IsPermutation-trans (x ∷ xs) (x ∷ zs) ys (IsPermutation-cons x xs zs rest) (IsPermutation-sym ys (x ∷ zs) moved)

-- a placed table's number is among those of the order
placed_number : (order : List TableNo) (table : TableNo) → IsPlaced order table → Contains (map (λ t. t.0) order) table.0
placed_number order table placed =
    let inside = get-within order placed.place table placed.at_place in (
      placed.place,
      omega (arith, length-map order (λ t. t.0)),
      get_or-map (λ t. t.0) order placed.place table table.0 inside ∙ ap (λ t. t.0) (read_from_get order placed.place table table placed.at_place),
    )

module _ (tables : ℕ) (edges : List Edge) (order : List TableNo) (waiting : List ℕ) (within : AreWithin tables edges) (all : AllPlaced edges order waiting) (long : length waiting ≡ tables) (whole : length order ≡ tables) where
  -- no table waits
  none_waits : (table : TableNo) → table.0 < tables → IsPlaced order table
  none_waits table inside =
      elim (cases_eq (slice_index waiting table.0) 0) [
        | inl none ↦ (all.sorting.placed table (omega arith)).1 none
        | inr some ↦
            let at : slice_get waiting table.0 ≡ Some (slice_index waiting table.0) = get_from_read waiting table.0 (slice_index waiting table.0) (omega arith) (get_or_default waiting table.0 (slice_index waiting table.0) 0 (omega arith)) in
            absurd (omega (arith, all.sorting.others, count_by-one (λ n. not (n == 0)) waiting table.0 (slice_index waiting table.0) at (ap not (ne_eqb (slice_index waiting table.0) 0 some))))
      ]

  numbers_placed : (first count : ℕ) → first + count ≤ tables → AllByRecursion (Contains (map (λ t. t.0) order)) (range_with_len first count)
  numbers_placed first zero inside = tt
  numbers_placed first (suc count) inside =
      (placed_number order (record { 0 = first }) (none_waits (record { 0 = first }) (omega arith)), numbers_placed (first + 1) count (omega arith))

  ordered : IsGraphOrder tables edges order
  ordered =
      record {
        each_once = IsPermutation-contained (range_with_len 0 tables) (map (λ t. t.0) order) (range_apart 0 tables) (numbers_placed 0 tables (omega arith))
            (length-map order (λ t. t.0) ∙ whole ∙ sym (length-range_with_len 0 tables));
        upward = recursion_from_All (λ e. StandsBefore order e.upper e.lower) edges (λ place d inside.
            let edge = get_or edges place d in
            let among : Contains edges edge = Contains-get_or edges place d inside in
            all.upward.earlier edge among (none_waits edge.lower (tables_within tables edges edge within among).0));
      }

  -- it is a graph
  pub IsGraphOf-placed : (groups : List (List Edge)) → groups ≡ by_table Lower tables edges → IsGraphOf tables edges (record { order = order; edges = groups })
  IsGraphOf-placed groups are =
      record {
        ordered = ordered;
        same_edges = λ table.
            elim (cases_lt table tables) [
              | inl inside ↦ ap (λ g. get_or g table []) are ∙ get_or-by_table Lower tables edges table [] inside
              | inr past ↦
                  get_or_past groups table [] (omega (arith, ap length are, length-by_table Lower tables edges))
                  ∙ sym (nil_from_length (edges_at Lower edges table) (length-filter (λ e. e.lower.0 == table) edges ∙ none_outside tables edges table within past))
            ];
      }
