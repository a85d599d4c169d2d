-- Lists in which each table stands once, every one behind the tables above it.
use Rattle.std.proofs.Common.{◌≡◌, ℕ, zero, suc, ◌≤◌, List, [], ◌∷◌, refl, sym, ap, subst, inl, inr, arith, eq-eqb, map}
use Rattle.std.specs.Prelude.{◌==◌, Contains, Some, None, cond, count_by, slice_get, IsPermutation, Option}
use Rattle.std.specs.List.{AllByRecursion, range_with_len}
use Rattle.std.proofs.lemmas.Bool.{cases_order}
use Rattle.std.proofs.lemmas.List.Elements.{All-contains, All-from_recursion}
use Rattle.std.proofs.lemmas.List.Sorted.{sum_by-IsPermutation}
use Rattle.own_base.specs.declared.number.TableNo.{TableNo}
use Rattle.own_model.specs.declared.schema.Edge.{Edge}
use Rattle.owner_model.specs.Cycle.{cycle_of}
use Rattle.owner_model.specs.GraphOrder.{IsGraphOrder, StandsBefore}
use Rattle.owner_model.specs.Placed.{EachAtOnePlace, IsPlaced, IsUpward}
use Rattle.owner_model.specs.Walk.{IsWalk, Leads}
use Rattle.owner_model.proofs.CountLemmas.{count_by-two, count_in_range}
use Rattle.owner_model.proofs.CycleLemmas.{cycle_of-none}

module _ (edges : List Edge) (order : List TableNo) (once : EachAtOnePlace order) (upward : IsUpward edges order) where
  -- what stands before a table that stands before another does so too
  before_before : (one two three : TableNo) → StandsBefore order one two → StandsBefore order two three → StandsBefore order one three
  before_before one two three first second =
      let same : first.behind ≡ second.place = once.same_place two first.behind second.place first.at_behind second.at_place in
      record { place = first.place; behind = second.behind; earlier = omega (arith, first.earlier, second.earlier); at_place = first.at_place; at_behind = second.at_behind }

  walk_up : (first : Edge) (rest : List Edge) (to : ℕ) → AllByRecursion (Contains edges) (first ∷ rest) → IsWalk first.upper.0 rest to → IsPlaced order first.lower
      → StandsBefore order (record { 0 = to }) first.lower
  walk_up first [] to among walk placed = subst (λ n. StandsBefore order (record { 0 = n }) first.lower) walk (upward.earlier first among.0 placed)
  walk_up first (next ∷ rest) to among walk placed =
      let above = upward.earlier first among.0 placed in
      let there : IsPlaced order next.lower = subst (λ n. IsPlaced order (record { 0 = n })) (sym walk.0) (record { place = above.place; at_place = above.at_place }) in
      let further : StandsBefore order (record { 0 = to }) next.lower = walk_up next rest to among.1 walk.1 there in
      before_before (record { 0 = to }) first.upper first.lower (subst (λ n. StandsBefore order (record { 0 = to }) (record { 0 = n })) walk.0 further) above

  -- a walk from a table of the list leads to one that stands earlier
  pub walk_stands_before : (from to : ℕ) → Leads edges from to → IsPlaced order (record { 0 = from }) → StandsBefore order (record { 0 = to }) (record { 0 = from })
  walk_stands_before from to walk placed =
      subst (λ n. StandsBefore order (record { 0 = to }) (record { 0 = n })) walk.walk.0
      (walk_up walk.first walk.rest to walk.among walk.walk.1 (subst (λ n. IsPlaced order (record { 0 = n })) (sym walk.walk.0) placed))

  -- so none comes back to it
  pub placed_has_no_cycle : (table : ℕ) → IsPlaced order (record { 0 = table }) → Leads edges table table → ⊥
  placed_has_no_cycle table placed walk =
      let before = walk_stands_before table table walk placed in
      let same : before.place ≡ before.behind = once.same_place (record { 0 = table }) before.place before.behind before.at_place before.at_behind in
      omega (arith, before.earlier)

number_at : (order : List TableNo) (place : ℕ) (table : TableNo) → slice_get order place ≡ Some table → slice_get (map (λ t. t.0) order) place ≡ Some table.0
number_at [] place table at = let never : ◌≡◌ {A = Option TableNo} None (Some table) = at in cc
number_at (t ∷ rest) zero table at = let same : t ≡ table = cc in ap (λ u. Some u.0) same
number_at (t ∷ rest) (suc place) table at = number_at rest place table at

-- an order has no table twice
pub order_has_each_once : (tables : ℕ) (order : List TableNo) → IsPermutation (range_with_len 0 tables) (map (λ t. t.0) order) → EachAtOnePlace order
order_has_each_once tables order moved =
    record {
      same_place = λ table one two at_one at_two.
          let numbers : List ℕ = map (λ t. t.0) order in
          let counted : count_by (λ n. n == table.0) numbers ≤ 1 =
          omega (arith, sum_by-IsPermutation (λ n. cond (n == table.0) 1 0) (range_with_len 0 tables) numbers moved, count_in_range table.0 0 tables) in
          elim (cases_order one two) [
            | inl same ↦ same
            | inr (inl before) ↦ absurd (omega (arith, count_by-two (λ n. n == table.0) numbers one two table.0 before (number_at order one table at_one) (number_at order two table at_two) (eq-eqb table.0 table.0 refl)))
            | inr (inr after) ↦ absurd (omega (arith, count_by-two (λ n. n == table.0) numbers two one table.0 after (number_at order two table at_two) (number_at order one table at_one) (eq-eqb table.0 table.0 refl)))
          ];
    }

-- and every edge leads to an earlier one
order_is_upward : (tables : ℕ) (edges : List Edge) (order : List TableNo) → IsGraphOrder tables edges order → IsUpward edges order
order_is_upward tables edges order is =
    record {
      earlier = λ edge among placed.
          All-contains (λ e. StandsBefore order e.upper e.lower) edges edge (All-from_recursion (λ e. StandsBefore order e.upper e.lower) edges is.upward) among;
    }

-- a cycle goes along an edge out of its table, which stands in the order
starts_placed : (tables : ℕ) (edges : List Edge) (order : List TableNo) (table : ℕ) → IsGraphOrder tables edges order → Leads edges table table → IsPlaced order (record { 0 = table })
starts_placed tables edges order table is walk =
    let before : StandsBefore order walk.first.upper walk.first.lower =
    All-contains (λ e. StandsBefore order e.upper e.lower) edges walk.first (All-from_recursion (λ e. StandsBefore order e.upper e.lower) edges is.upward) walk.among.0 in
    subst (λ n. IsPlaced order (record { 0 = n })) walk.walk.0 (record { place = before.behind; at_place = before.at_behind })

-- where there is an order, no walk is closed
pub ordered_has_no_cycle : (tables : ℕ) (edges : List Edge) (order : List TableNo) → IsGraphOrder tables edges order → (table : ℕ) → Leads edges table table → ⊥
ordered_has_no_cycle tables edges order is table walk =
    placed_has_no_cycle edges order (order_has_each_once tables order is.each_once) (order_is_upward tables edges order is) table (starts_placed tables edges order table is walk) walk

-- and none is told
pub cycle_of-ordered : (tables : ℕ) (edges : List Edge) (order : List TableNo) → IsGraphOrder tables edges order → cycle_of tables edges ≡ None
cycle_of-ordered tables edges order is = cycle_of-none tables edges (ordered_has_no_cycle tables edges order is)
