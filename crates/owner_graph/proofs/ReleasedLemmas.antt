-- Tables released one after another: those that wait for nothing but them are placed.
use Rattle.std.proofs.Common.{◌≡◌, ℕ, ◌+◌, ◌<◌, ◌≤◌, List, [], ◌∷◌, ◌++◌, Bool, true, false, refl, sym, ap, ◌∙◌, subst, inl, inr, arith, eq-eqb, length, map, get_or, take, drop, cond, not, length-take, length-append}
use Rattle.std.specs.Prelude.{◌==◌, ◌&&◌, ◌||◌, Contains, count_by, slice_get, slice_index, Some}
use Rattle.std.proofs.lemmas.Bool.{cases_eq, cases_lt, cases_order, eqb-true, ne_eqb, and_from, false_from_ne_true, true_from_ne_false}
use Rattle.std.proofs.lemmas.List.{get_or_past, length-map, get_or-map, take_all, take-append-drop, take-append-le, take_more}
use Rattle.std.proofs.lemmas.List.Sums.{length-filter, sum_by-cons}
use Rattle.own_base.specs.declared.number.TableNo.{TableNo}
use Rattle.own_model.specs.declared.schema.Edge.{Edge}
use Rattle.owner_model.specs.AreWithin.{AreWithin}
use Rattle.owner_model.specs.GraphOrder.{StandsBefore}
use Rattle.owner_model.specs.Placed.{IsPlaced, IsUpward}
use Rattle.owner_model.proofs.CountLemmas.{count_by-fails, count_by-one}
use Rattle.owner_graph.specs.declared.end.End.TheVariants.{Lower, Upper}
use Rattle.owner_graph.specs.Ends.{by_table, edges_at}
use Rattle.owner_graph.specs.TopologicalSort.{AllPlaced, GoesOn, IsTopologicalSort, WaitsForLess, edges_past, is_among}
use Rattle.owner_graph.proofs.EndsLemmas.{get_or-by_table, length-by_table}
use Rattle.owner_graph.proofs.PlacedLemmas.{StandsBefore-append, get-append, get-front, get-within, get_from_read, is_among-push, placed_from_is_among}
use Rattle.owner_graph.proofs.WaitingLemmas.{edges_of}

-- the tables of the order before this place are released
pub record Released (edges : List Edge) (order : List TableNo) (waiting : List ℕ) (released : ℕ) : Type 0 where
  pub sorting : IsTopologicalSort order waiting
  pub upward : IsUpward edges order
  pub past : (table : ℕ) → slice_index waiting table ≡ edges_past edges (take released order) table
  pub within : released ≤ length order

-- tests that agree count alike
count_by-same : {X : Type 0} (p q : X → Bool) (same : (x : X) → p x ≡ q x) (xs : List X) → count_by p xs ≡ count_by q xs
count_by-same p q same [] = refl
count_by-same p q same (x ∷ xs) =
    sum_by-cons (λ y. cond (p y) 1 0) x xs ∙ ap (λ b. cond b 1 0 + count_by p xs) (same x) ∙ ap (λ n. cond (q x) 1 0 + n) (count_by-same p q same xs) ∙ sym (sum_by-cons (λ y. cond (q y) 1 0) x xs)

and_true : (b : Bool) → (b && true) ≡ b
and_true true = refl
and_true false = refl

-- at first each table waits for all of its edges
past_none : (edges : List Edge) (table : ℕ) → edges_past edges [] table ≡ edges_of edges table
past_none edges table = count_by-same _ _ (λ edge. and_true (edge.lower.0 == table)) edges

-- a table that isn't there has no edges
pub none_outside : (tables : ℕ) (edges : List Edge) (table : ℕ) → AreWithin tables edges → tables ≤ table → edges_of edges table ≡ 0
none_outside tables [] table within past = refl
none_outside tables (edge ∷ edges) table within past =
    count_by-fails (λ e. e.lower.0 == table) edge edges (ne_eqb edge.lower.0 table (λ same. omega (arith, within.0.0))) ∙ none_outside tables edges table within.1 past

-- what is waited for at first
waits_at_first : (tables : ℕ) (edges : List Edge) (table : ℕ) → AreWithin tables edges → slice_index (map length (by_table Lower tables edges)) table ≡ edges_of edges table
waits_at_first tables edges table within =
    let groups = by_table Lower tables edges in
    let long : length (map (length {A = Edge}) groups) ≡ tables = length-map groups length ∙ length-by_table Lower tables edges in
    elim (cases_order table tables) [
      | inl last ↦ get_or_past (map length groups) table 0 (omega arith) ∙ sym (none_outside tables edges table within (omega arith))
      | inr (inl inside) ↦
          get_or-map length groups table [] 0 (omega (arith, length-by_table Lower tables edges))
          ∙ ap length (get_or-by_table Lower tables edges table [] inside) ∙ length-filter (λ e. e.lower.0 == table) edges
      | inr (inr past) ↦ get_or_past (map length groups) table 0 (omega arith) ∙ sym (none_outside tables edges table within (omega arith))
    ]

-- an edge out of a table is one of its edges
edge_counted : (edges : List Edge) (edge : Edge) → Contains edges edge → 1 ≤ edges_of edges edge.lower.0
edge_counted edges edge among =
    count_by-one (λ e. e.lower.0 == edge.lower.0) edges among.0 edge (get_from_read edges among.0 edge among.1 among.2) (eq-eqb edge.lower.0 edge.lower.0 refl)

-- no table is released at first, and those that are placed have no edges
pub Released-none : (tables : ℕ) (edges : List Edge) (order : List TableNo) (waiting : List ℕ) → AreWithin tables edges → IsTopologicalSort order waiting
    → waiting ≡ map length (by_table Lower tables edges) → Released edges order waiting 0
Released-none tables edges order waiting within sorting is =
    let first : (table : ℕ) → slice_index waiting table ≡ edges_of edges table = (λ table. ap (λ l. slice_index l table) is ∙ waits_at_first tables edges table within) in
    record {
      sorting = sorting;
      upward = record {
        earlier = λ edge among placed.
            let none : slice_index waiting edge.lower.0 ≡ 0 = (sorting.placed edge.lower (sorting.within edge.lower placed)).0 placed in
            absurd (omega (arith, first edge.lower.0, edge_counted edges edge among));
      };
      past = λ table. first table ∙ sym (past_none edges table);
      within = omega arith;
    }

eqb_comm : (one two : ℕ) → (one == two) ≡ (two == one)
eqb_comm one two =
    elim (cases_eq one two) [ inl same ↦ eq-eqb one two same ∙ sym (eq-eqb two one (sym same)) | inr other ↦ ne_eqb one two other ∙ sym (ne_eqb two one (λ same. other (sym same))) ]

-- an edge from a table leads past the released ones, to the new one, or to one of the others
one_of_three : (out released new : Bool) → (new ≡ true → released ≡ false) → cond (out && not released) 1 0 ≡ cond (out && not (released || new)) 1 0 + cond new (cond out 1 0) 0
one_of_three false released false apart = refl
one_of_three false released true apart = refl
one_of_three true false false apart = refl
one_of_three true false true apart = refl
one_of_three true true false apart = refl
one_of_three true true true apart = let never : true ≡ false = apart refl in cc

module _ (tables : List TableNo) (table : TableNo) (new : is_among tables table.0 ≡ false) (number : ℕ) where
  counts_one : (edge : Edge)
      → cond (edge.lower.0 == number && not (is_among tables edge.upper.0)) 1 0
      ≡ cond (edge.lower.0 == number && not (is_among (tables ++ table ∷ []) edge.upper.0)) 1 0 + cond (edge.upper.0 == table.0) (cond (edge.lower.0 == number) 1 0) 0
  counts_one edge =
      one_of_three (edge.lower.0 == number) (is_among tables edge.upper.0) (edge.upper.0 == table.0) (λ is. ap (is_among tables) (eqb-true edge.upper.0 table.0 is) ∙ new)
      ∙ ap (λ b. cond (edge.lower.0 == number && not b) 1 0 + cond (edge.upper.0 == table.0) (cond (edge.lower.0 == number) 1 0) 0)
      (ap (λ b. is_among tables edge.upper.0 || b) (eqb_comm edge.upper.0 table.0) ∙ sym (is_among-push tables table edge.upper.0))

  counts_more : (edge : Edge) (edges : List Edge) → edges_of (edges_at Upper (edge ∷ edges) table.0) number ≡ cond (edge.upper.0 == table.0) (cond (edge.lower.0 == number) 1 0) 0 + edges_of (edges_at Upper edges table.0) number
  counts_more edge edges =
      elim (edge.upper.0 == table.0) as (λ b. edges_of (cond b (edge ∷ edges_at Upper edges table.0) (edges_at Upper edges table.0)) number ≡ cond b (cond (edge.lower.0 == number) 1 0) 0 + edges_of (edges_at Upper edges table.0) number) [
        | true ↦ sum_by-cons (λ e. cond (e.lower.0 == number) 1 0) edge (edges_at Upper edges table.0)
        | false ↦ omega arith
      ]

  -- with one table more released, a table waits for its edges to that less
  past_more : (edges : List Edge) → edges_past edges tables number ≡ edges_past edges (tables ++ table ∷ []) number + edges_of (edges_at Upper edges table.0) number
  past_more [] = refl
  past_more (edge ∷ edges) =
      omega (
        arith,
        counts_one edge,
        counts_more edge edges,
        past_more edges,
        sum_by-cons (λ e. cond (e.lower.0 == number && not (is_among tables e.upper.0)) 1 0) edge edges,
        sum_by-cons (λ e. cond (e.lower.0 == number && not (is_among (tables ++ table ∷ []) e.upper.0)) 1 0) edge edges,
      )

-- a table that waits for nothing has all of its edges to released tables
released_above : (edges : List Edge) (tables : List TableNo) (edge : Edge) → Contains edges edge → edges_past edges tables edge.lower.0 ≡ 0 → IsPlaced tables edge.upper
released_above edges tables edge among none =
    placed_from_is_among tables edge.upper
    (true_from_ne_false (is_among tables edge.upper.0) (λ past.
    let passes : (edge.lower.0 == edge.lower.0 && not (is_among tables edge.upper.0)) ≡ true =
    and_from _ _ (eq-eqb edge.lower.0 edge.lower.0 refl) (ap not past) in
    omega (arith, count_by-one (λ e. e.lower.0 == edge.lower.0 && not (is_among tables e.upper.0)) edges among.0 edge (get_from_read edges among.0 edge among.1 among.2) passes)))

-- what is placed in the front of a list is placed there in the list
front_place : (order : List TableNo) (count : ℕ) (table : TableNo) (placed : IsPlaced (take count order) table) → (placed.place < count) × (slice_get order placed.place ≡ Some table)
front_place order count table placed = (
  omega (arith, get-within (take count order) placed.place table placed.at_place, length-take count order),
  ap (λ l. slice_get l placed.place) (sym (take-append-drop count order)) ∙ get-append (take count order) (drop count order) placed.place table placed.at_place,
)

module _ (edges : List Edge) (order : List TableNo) (waiting : List ℕ) (released : ℕ) (table : TableNo) (is : Released edges order waiting released) (inside : released < length order) (read : table ≡ get_or order released table) where
  -- the table that comes next isn't released
  next_is_new : is_among (take released order) table.0 ≡ false
  next_is_new =
      false_from_ne_true (is_among (take released order) table.0) (λ among.
      let placed = placed_from_is_among (take released order) table among in
      let front = front_place order released table placed in
      let same : placed.place ≡ released = is.sorting.once.same_place table placed.place released front.1 (get_from_read order released table inside (sym read)) in
      omega (arith, front.0))

  next_past : (number : ℕ) → slice_index waiting number ≡ edges_past edges (take released order ++ table ∷ []) number + edges_of (edges_at Upper edges table.0) number
  next_past number = is.past number ∙ past_more (take released order) table next_is_new number edges

  -- it is there
  pub next_within : (tables : ℕ) → length waiting ≡ tables → table.0 < tables
  next_within tables long = omega (arith, is.sorting.within table (record { place = released; at_place = get_from_read order released table inside (sym read) }))

  -- the tables below it wait for its edges
  pub wait_for_next : (number : ℕ) → edges_of (edges_at Upper edges table.0) number ≤ slice_index waiting number
  wait_for_next number = omega (arith, next_past number)

  module _ (order' : List TableNo) (waiting' : List ℕ) (sorting : IsTopologicalSort order' waiting') (longer : GoesOn order order') (less : WaitsForLess (edges_at Upper edges table.0) waiting waiting') where
    front_released : take (released + 1) order' ≡ take released order ++ table ∷ []
    front_released =
        ap (take (released + 1)) longer.is ∙ take-append-le (released + 1) order longer.more (omega arith) ∙ take_more order released table inside
        ∙ ap (λ t. take released order ++ t ∷ []) (sym read)

    past_next : (number : ℕ) → slice_index waiting' number ≡ edges_past edges (take (released + 1) order') number
    past_next number = omega (arith, less.fewer number, next_past number, ap (λ l. edges_past edges l number) front_released)

    before_new : (edge : Edge) → Contains edges edge → (placed : IsPlaced order' edge.lower) → length order ≤ placed.place → StandsBefore order' edge.upper edge.lower
    before_new edge among placed behind =
        let none : slice_index waiting' edge.lower.0 ≡ 0 = (sorting.placed edge.lower (sorting.within edge.lower placed)).0 placed in
        let above : IsPlaced (take (released + 1) order') edge.upper = released_above edges (take (released + 1) order') edge among (sym (past_next edge.lower.0) ∙ none) in
        let front = front_place order' (released + 1) edge.upper above in
        record { place = above.place; behind = placed.place; earlier = omega (arith, front.0); at_place = front.1; at_behind = placed.at_place }

    before_old : (edge : Edge) → Contains edges edge → (placed : IsPlaced order' edge.lower) → placed.place < length order → StandsBefore order' edge.upper edge.lower
    before_old edge among placed front =
        let first : IsPlaced order edge.lower =
        record { place = placed.place; at_place = get-front order longer.more placed.place edge.lower front (ap (λ l. slice_get l placed.place) (sym longer.is) ∙ placed.at_place) } in
        subst (λ l. StandsBefore l edge.upper edge.lower) (sym longer.is) (StandsBefore-append order longer.more edge.upper edge.lower (is.upward.earlier edge among first))

    -- and with its edges it is released
    pub Released-more : Released edges order' waiting' (released + 1)
    Released-more =
        record {
          sorting = sorting;
          upward = record {
            earlier = λ edge among placed.
                elim (cases_lt placed.place (length order)) [ inl front ↦ before_old edge among placed front | inr behind ↦ before_new edge among placed behind ];
          };
          past = past_next;
          within = omega (arith, ap length longer.is, length-append order longer.more);
        }

-- once all placed tables are released, no more can be placed
pub Released-all : (edges : List Edge) (order : List TableNo) (waiting : List ℕ) (released : ℕ) → Released edges order waiting released → length order ≤ released → AllPlaced edges order waiting
Released-all edges order waiting released is past =
    record { sorting = is.sorting; upward = is.upward; past = λ number. is.past number ∙ ap (λ l. edges_past edges l number) (take_all released order past) }
