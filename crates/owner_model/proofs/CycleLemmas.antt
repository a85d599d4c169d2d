-- The cycle that is reported.
use Rattle.std.proofs.Common.{◌≡◌, ℕ, ◌<◌, ◌≤◌, List, [], true, sym, ap, ◌∙◌, subst, arith, eq-eqb}
use Rattle.std.specs.Prelude.{◌==◌, ◌&&◌, Contains, Some, None, find, option_and_then, option_map}
use Rattle.std.specs.List.{list_any, last_or, range_with_len}
use Rattle.std.proofs.lemmas.Bool.{and_from, and_parts, eqb-true, false_from_ne_true}
use Rattle.std.proofs.lemmas.List.Elements.{All-contains, All-from_recursion}
use Rattle.std.proofs.lemmas.List.Folds.{Any-from_list_any, list_any-from_Any}
use Rattle.own_model.specs.declared.schema.Edge.{Edge}
use Rattle.owner_model.specs.AreWithin.{AreWithin}
use Rattle.owner_model.specs.Cycle.{Cycle, IsCycle, comes_back, cycle_of, tables_on_walks}
use Rattle.owner_model.specs.Leads.{arrives, leads}
use Rattle.owner_model.specs.Walk.{Arrives, Leads}
use Rattle.owner_model.proofs.LeadsLemmas.{arrives-from_walk, leads-from_walk, walk_from_arrives, walk_from_leads}
use Rattle.owner_model.proofs.RangeLemmas.{filter-none, find-range, last-filter}
use Rattle.owner_model.proofs.WalkLemmas.{edge_leads, leads_and_arrives}

-- both tables of an edge are there
pub tables_within : (tables : ℕ) (edges : List Edge) (edge : Edge) → AreWithin tables edges → Contains edges edge → (edge.lower.0 < tables) × (edge.upper.0 < tables)
tables_within tables edges edge within among = All-contains (λ e. (e.lower.0 < tables) × (e.upper.0 < tables)) edges edge (All-from_recursion (λ e. (e.lower.0 < tables) × (e.upper.0 < tables)) edges within) among

-- the table that is told lies on a cycle
pub cycle_leads : (edges : List Edge) (table through : ℕ) → IsCycle edges table through → Leads edges table table
cycle_leads edges table through cycle =
    let back : Arrives edges cycle.edge.upper.0 table = subst (λ n. Arrives edges n table) (sym cycle.upper) cycle.back in
    subst (λ n. Leads edges n table) cycle.lower (leads_and_arrives edges cycle.edge.lower.0 cycle.edge.upper.0 table (edge_leads edges cycle.edge cycle.among) back)

-- it comes back by way of the other
comes_back-cycle : (edges : List Edge) (table through : ℕ) → IsCycle edges table through → comes_back edges table through ≡ true
comes_back-cycle edges table through cycle =
    and_from _ _
    (list_any-from_Any _ edges (cycle.among.0, cycle.edge, cycle.among.1, cycle.among.2, and_from _ _ (eq-eqb cycle.edge.lower.0 table cycle.lower) (eq-eqb cycle.edge.upper.0 through cycle.upper)))
    (arrives-from_walk edges through table cycle.back)

-- and by no lower one
back_above : (edges : List Edge) (table through other : ℕ) → IsCycle edges table through → comes_back edges table other ≡ true → through ≤ other
back_above edges table through other cycle is =
    let both = and_parts (list_any (λ edge. edge.lower.0 == table && edge.upper.0 == other) edges) (arrives edges other table) is in
    let (place, edge, within, at, passes) = Any-from_list_any (λ edge. edge.lower.0 == table && edge.upper.0 == other) edges both.0 in
    let ends = and_parts (edge.lower.0 == table) (edge.upper.0 == other) passes in
    let upper : edge.upper.0 ≡ other = eqb-true edge.upper.0 other ends.1 in
    subst (λ n. through ≤ n) upper
    (cycle.lowest edge (place, within, at) (eqb-true edge.lower.0 table ends.0) (subst (λ n. Arrives edges n table) (sym upper) (walk_from_arrives edges other table both.1)))

-- of edges between so many tables it is the one that `cycle_of` gives
pub cycle_of-cycle : (tables : ℕ) (edges : List Edge) (table through : ℕ) → AreWithin tables edges → IsCycle edges table through
    → cycle_of tables edges ≡ Some (record { table = table; through = through })
unfolding cycle_of
cycle_of-cycle tables edges table through within cycle =
    let ends = tables_within tables edges cycle.edge within cycle.among in
    let last : last_or None (tables_on_walks tables edges) ≡ Some table =
    last-filter (λ t. leads edges t t) 0 tables table None (omega arith) (omega (arith, ends.0, cycle.lower)) (leads-from_walk edges table table (cycle_leads edges table through cycle))
    (λ n after below. false_from_ne_true (leads edges n n) (λ is. let least : n ≤ table = cycle.highest n (walk_from_leads edges n n is) in omega arith)) in
    let first : find (comes_back edges table) (range_with_len 0 tables) ≡ Some through =
    find-range (comes_back edges table) 0 tables through (omega arith) (omega (arith, ends.1, cycle.upper)) (comes_back-cycle edges table through cycle)
    (λ n above below. false_from_ne_true (comes_back edges table n) (λ is. let least : through ≤ n = back_above edges table through n cycle is in omega arith)) in
    let told : ℕ → ℕ → Cycle = λ t u. record { table = t; through = u } in
    ap (option_and_then (λ t. option_map (told t) (find (comes_back edges t) (range_with_len 0 tables)))) last ∙ ap (option_map (told table)) first

-- where none lies on a cycle, it gives none
pub cycle_of-none : (tables : ℕ) (edges : List Edge) → ((table : ℕ) → Leads edges table table → ⊥) → cycle_of tables edges ≡ None
unfolding cycle_of
cycle_of-none tables edges none =
    let empty : tables_on_walks tables edges ≡ [] =
    filter-none (λ t. leads edges t t) 0 tables (λ n above below. false_from_ne_true (leads edges n n) (λ is. none n (walk_from_leads edges n n is))) in
    ap (λ l. option_and_then (λ t. option_map (λ u. record { table = t; through = u }) (find (comes_back edges t) (range_with_len 0 tables))) (last_or None l)) empty
