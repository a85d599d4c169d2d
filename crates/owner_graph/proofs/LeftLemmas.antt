-- Where no more tables can be placed, and some are left, a walk among those that are left is closed.
use Rattle.std.proofs.Common.{◌≡◌, ℕ, zero, suc, ◌<◌, ◌≤◌, List, [], ◌∷◌, Bool, true, false, refl, sym, ap, ◌∙◌, subst, inl, inr, arith, length, not}
use Rattle.std.specs.Prelude.{◌≢◌, ◌==◌, ◌&&◌, Contains, Option, Some, None, count_by, slice_get, slice_index}
use Rattle.std.specs.List.{range_with_len}
use Rattle.std.proofs.lemmas.Bool.{and_parts, cases_Bool, cases_lt, false_from_ne_true, eqb-true, ne_eqb, not-true}
use Rattle.std.proofs.lemmas.List.FromFn.{get_or-range_with_len, length-range_with_len}
use Rattle.own_base.specs.declared.number.TableNo.{TableNo}
use Rattle.own_model.specs.declared.schema.Edge.{Edge}
use Rattle.owner_model.specs.AreWithin.{AreWithin}
use Rattle.owner_model.specs.Cycle.{IsCycle}
use Rattle.owner_model.specs.Leads.{leads}
use Rattle.owner_model.specs.Placed.{IsPlaced}
use Rattle.owner_model.specs.Walk.{Leads}
use Rattle.owner_model.proofs.CountLemmas.{count_by-fails, count_by-passes, count_by-rest}
use Rattle.owner_model.proofs.CycleLemmas.{tables_within}
use Rattle.owner_model.proofs.LeadsLemmas.{leads-edge, leads-from_walk, leads-on, walk_from_leads}
use Rattle.owner_model.proofs.OrderLemmas.{placed_has_no_cycle}
use Rattle.owner_graph.specs.TopologicalSort.{AllPlaced, edges_past, is_among}
use Rattle.owner_graph.specs.WayBack.{IsWayBack}
use Rattle.owner_graph.proofs.PlacedLemmas.{get_from_read, is_among-placed, read_from_get}

-- where some are counted, one passes
pub record Passing {X : Type 0} (p : X → Bool) (xs : List X) : Type 0 where
  pub place : ℕ
  pub found : X
  pub inside : place < length xs
  pub at_place : slice_get xs place ≡ Some found
  pub passes : p found ≡ true

later_passing : {X : Type 0} (p : X → Bool) (x : X) (xs : List X) → Passing p xs → Passing p (x ∷ xs)
later_passing p x xs rest = record { place = suc rest.place; found = rest.found; inside = omega (arith, rest.inside); at_place = rest.at_place; passes = rest.passes }

passing : {X : Type 0} (p : X → Bool) (xs : List X) → 0 < count_by p xs → Passing p xs
passing p [] some = absurd (omega arith)
passing p (x ∷ xs) some =
    elim (cases_Bool (p x)) [
      | inl here ↦ record { place = 0; found = x; inside = omega arith; at_place = refl; passes = here }
      | inr other ↦ later_passing p x xs (passing p xs (omega (arith, count_by-fails p x xs other)))
    ]

-- of two tests of which one passes more there are more that pass it
fewer_pass : {X : Type 0} (p q : X → Bool) → ((x : X) → p x ≡ true → q x ≡ true) → (xs : List X) → count_by p xs ≤ count_by q xs
fewer_pass p q all [] = omega arith
fewer_pass p q all (x ∷ xs) =
    elim (cases_Bool (p x)) [
      | inl here ↦ omega (arith, count_by-passes p x xs here, count_by-passes q x xs (all x here), fewer_pass p q all xs)
      | inr other ↦ omega (arith, count_by-fails p x xs other, count_by-rest q x xs, fewer_pass p q all xs)
    ]

one_fewer_passes : {X : Type 0} (p q : X → Bool) → ((x : X) → p x ≡ true → q x ≡ true) → (xs : List X) (place : ℕ) (x : X) → slice_get xs place ≡ Some x → p x ≡ false → q x ≡ true
    → count_by p xs < count_by q xs
one_fewer_passes {X} p q all [] place x at fails passes = let never : ◌≡◌ {A = Option X} None (Some x) = at in cc
one_fewer_passes p q all (y ∷ xs) zero x at fails passes =
    let same : y ≡ x = cc in
    omega (arith, count_by-fails p y xs (ap p same ∙ fails), count_by-passes q y xs (ap q same ∙ passes), fewer_pass p q all xs)
one_fewer_passes p q all (y ∷ xs) (suc place) x at fails passes =
    elim (cases_Bool (p y)) [
      | inl here ↦ omega (arith, count_by-passes p y xs here, count_by-passes q y xs (all y here), one_fewer_passes p q all xs place x at fails passes)
      | inr other ↦ omega (arith, count_by-fails p y xs other, count_by-rest q y xs, one_fewer_passes p q all xs place x at fails passes)
    ]

positive : (n : ℕ) → not (n == 0) ≡ true → 0 < n
positive zero is = let never : false ≡ true = is in cc
positive (suc n) is = omega arith

-- each number of a range stands at its own place
range_at : (count n : ℕ) → n < count → slice_get (range_with_len 0 count) n ≡ Some n
range_at count n inside =
    get_from_read (range_with_len 0 count) n n (omega (arith, length-range_with_len 0 count)) (get_or-range_with_len 0 count n n inside ∙ omega arith)

-- tables that are left, each with an edge to another that is, and without cycles
module _ (tables : ℕ) (edges : List Edge) (left : ℕ → Bool) (above : (table : ℕ) → left table ≡ true → (upper : ℕ) × (left upper ≡ true) × (upper < tables) × (leads edges table upper ≡ true)) (open' : (table : ℕ) → table < tables → leads edges table table ≡ false) where
  -- how many tables one leads to
  abbrev led_to : ℕ → ℕ
  led_to table = count_by (leads edges table) (range_with_len 0 tables)

  -- one above leads to fewer
  fewer_above : (table upper : ℕ) → upper < tables → leads edges table upper ≡ true → led_to upper < led_to table
  fewer_above table upper inside walk =
      one_fewer_passes (leads edges upper) (leads edges table) (λ other further. leads-on edges table upper other walk further) (range_with_len 0 tables) upper upper
      (range_at tables upper inside) (open' upper inside) walk

  -- so there are none
  none_left : (most table : ℕ) → led_to table ≤ most → left table ≡ true → ⊥
  none_left zero table few is = let next = above table is in omega (arith, fewer_above table next.0 next.2 next.3)
  none_left (suc most) table few is =
      let next = above table is in none_left most next.0 (omega (arith, fewer_above table next.0 next.2 next.3)) next.1

module _ (tables : ℕ) (edges : List Edge) (order : List TableNo) (waiting : List ℕ) (within : AreWithin tables edges) (all : AllPlaced edges order waiting) (long : length waiting ≡ tables) where
  -- a table that waits has an edge to another
  waits_above : (table : ℕ) → not (slice_index waiting table == 0) ≡ true
      → (upper : ℕ) × (not (slice_index waiting upper == 0) ≡ true) × (upper < tables) × (leads edges table upper ≡ true)
  waits_above table waits =
      let some : 0 < edges_past edges order table = omega (arith, all.past table, positive (slice_index waiting table) waits) in
      let past = passing (λ e. e.lower.0 == table && not (is_among order e.upper.0)) edges some in
      let edge = past.found in
      let both = and_parts (edge.lower.0 == table) (not (is_among order edge.upper.0)) past.passes in
      let among : Contains edges edge = (past.place, past.inside, read_from_get edges past.place edge edge past.at_place) in
      let inside : edge.upper.0 < tables = (tables_within tables edges edge within among).1 in
      let unplaced : slice_index waiting edge.upper.0 ≢ 0 =
      (λ none.
      let placed : IsPlaced order edge.upper = (all.sorting.placed edge.upper (omega arith)).1 none in
      let never : true ≡ false = sym (is_among-placed order edge.upper placed) ∙ not-true (is_among order edge.upper.0) both.1 in cc) in
      (edge.upper.0, ap not (ne_eqb (slice_index waiting edge.upper.0) 0 unplaced), inside, subst (λ n. leads edges n edge.upper.0 ≡ true) (eqb-true edge.lower.0 table both.0) (leads-edge edges edge among))

  -- a placed table lies on no cycle
  pub placed_open : (table : ℕ) → table < tables → slice_index waiting table ≡ 0 → leads edges table table ≡ false
  placed_open table inside none =
      false_from_ne_true (leads edges table table) (λ is.
      placed_has_no_cycle edges order all.sorting.once all.upward table ((all.sorting.placed (record { 0 = table }) (omega arith)).1 none) (walk_from_leads edges table table is))

  -- where some table isn't placed, some table lies on a cycle
  pub left_on_walk : length order < tables → ((table : ℕ) → table < tables → leads edges table table ≡ false) → ⊥
  left_on_walk fewer none =
      let some : 0 < count_by (λ n. not (n == 0)) waiting = omega (arith, all.sorting.others) in
      let waits = passing (λ n. not (n == 0)) waiting some in
      none_left tables edges (λ t. not (slice_index waiting t == 0)) waits_above none (count_by (leads edges waits.place) (range_with_len 0 tables)) waits.place (omega arith)
      (ap (λ n. not (n == 0)) (read_from_get waiting waits.place waits.found 0 waits.at_place) ∙ waits.passes)

-- a table on a cycle is there
closed_within : (tables : ℕ) (edges : List Edge) (table : ℕ) → AreWithin tables edges → Leads edges table table → table < tables
closed_within tables edges table within walk = subst (λ n. n < tables) walk.walk.0 (tables_within tables edges walk.first within walk.among.0).0

-- where no higher table lies on a cycle, the way back to a table tells one
pub IsCycle-way_back : (tables : ℕ) (edges : List Edge) (table through : ℕ) → AreWithin tables edges → IsWayBack edges table through
    → ((other : ℕ) → table < other → other < tables → leads edges other other ≡ false) → IsCycle edges table through
IsCycle-way_back tables edges table through within back none =
    record {
      edge = back.edge;
      among = back.among;
      lower = back.lower;
      upper = back.upper;
      back = back.back;
      highest = λ other walk.
          elim (cases_lt table other) [
            | inl higher ↦
                (let never : true ≡ false = sym (leads-from_walk edges other other walk) ∙ none other higher (closed_within tables edges other within walk) in cc)
            | inr at_most ↦ at_most
          ];
      lowest = back.lowest;
    }
