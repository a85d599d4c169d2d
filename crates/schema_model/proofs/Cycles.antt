-- Where no cycle is reported, no table leads to itself.
use Rattle.std.proofs.Common.{◌≡◌, ◌≢◌, ℕ, zero, suc, ◌<◌, List, [], ◌∷◌, true, false, ◌||◌, ◌&&◌, inl, inr, refl, ap, sym}
use Rattle.std.specs.Prelude.{◌⊎◌, Option, Some, None, find, option_map, option_and_then, slice_get, ◌==◌}
use Rattle.std.specs.List.{last_or, range_with_len}
use Rattle.std.proofs.lemmas.Bool.{and_from, and_parts, eq-eqb, eqb-true, false_from_ne_true, or_cases, or_left, or_right}
use Rattle.own_model.specs.declared.schema.Edge.{Edge}
use Rattle.owner_model.specs.Cycle.{Cycle, comes_back, cycle_of, tables_on_walks}
use Rattle.owner_model.specs.Leads.{arrives, leads}
use Rattle.schema_model.proofs.Found.{find-there}
use Rattle.schema_model.proofs.Places.{IsIn, all-at, any-at, filter-none, filter-passes, in_range}

-- an edge more loses no walk
leads-later : (edge : Edge) (edges : List Edge) (from to : ℕ) → leads edges from to ≡ true → leads (edge ∷ edges) from to ≡ true
unfolding leads
leads-later edge edges from to walk = or_left _ _ walk

arrives-later : (edge : Edge) (edges : List Edge) (from to : ℕ) → arrives edges from to ≡ true → arrives (edge ∷ edges) from to ≡ true
arrives-later edge edges from to walk = by (or_cases (from == to) (leads edges from to) walk)
  where
    by : ((from == to) ≡ true) ⊎ (leads edges from to ≡ true) → arrives (edge ∷ edges) from to ≡ true
    by (inl same) = or_left _ _ same
    by (inr leads) = or_right (from == to) _ (leads-later edge edges from to leads)

-- a walk up to an edge's lower table and on from its upper one
leads-through : (edge : Edge) (edges : List Edge) (from to : ℕ) → arrives edges from edge.lower.0 ≡ true → arrives edges edge.upper.0 to ≡ true → leads (edge ∷ edges) from to ≡ true
unfolding leads
leads-through edge edges from to before after = or_right (leads edges from to) _ (and_from _ _ before after)

-- the first edge of a walk from one table to another, among these edges
pub record HasFirst (edges : List Edge) (from to : ℕ) : Type 0 where
  pub edge : Edge
  pub among : IsIn edges edge
  pub lower : edge.lower.0 ≡ from
  pub back : arrives edges edge.upper.0 to ≡ true

first_later : (edge : Edge) (edges : List Edge) (from to : ℕ) → HasFirst edges from to → HasFirst (edge ∷ edges) from to
first_later edge edges from to first = record {
  edge = first.edge;
  among = (suc first.among.0, first.among.1);
  lower = first.lower;
  back = arrives-later edge edges first.edge.upper.0 to first.back;
}

-- the case of a walk that goes along the first edge of the list
first_through : (edge : Edge) (edges : List Edge) (from to : ℕ) → (leads edges from edge.lower.0 ≡ true → HasFirst edges from edge.lower.0)
    → arrives edges edge.upper.0 to ≡ true → ((from == edge.lower.0) ≡ true) ⊎ (leads edges from edge.lower.0 ≡ true) → HasFirst (edge ∷ edges) from to
first_through edge edges from to more after (inl same) = record {
  edge = edge;
  among = (0, refl);
  lower = sym (eqb-true from edge.lower.0 same);
  back = arrives-later edge edges edge.upper.0 to after;
}
first_through edge edges from to more after (inr before) =
    let first = more before in
    record {
      edge = first.edge;
      among = (suc first.among.0, first.among.1);
      lower = first.lower;
      back = or_right (first.edge.upper.0 == to) _ (leads-through edge edges first.edge.upper.0 to first.back after);
    }

-- each walk of one edge or more has one
pub has_first : (edges : List Edge) (from to : ℕ) → leads edges from to ≡ true → HasFirst edges from to
unfolding leads
has_first [] from to walk = let never : ⊥ = cc in absurd never
has_first (edge ∷ edges) from to walk =
    by (has_first edges from) (or_cases (leads edges from to) ((from == edge.lower.0 || leads edges from edge.lower.0) && (edge.upper.0 == to || leads edges edge.upper.0 to)) walk)
  where
    by : ((end : ℕ) → leads edges from end ≡ true → HasFirst edges from end)
        → (leads edges from to ≡ true) ⊎ (((from == edge.lower.0 || leads edges from edge.lower.0) && (edge.upper.0 == to || leads edges edge.upper.0 to)) ≡ true) → HasFirst (edge ∷ edges) from to
    by more (inl without) = first_later edge edges from to (more to without)
    by more (inr along) =
        let parts = and_parts (from == edge.lower.0 || leads edges from edge.lower.0) (edge.upper.0 == to || leads edges edge.upper.0 to) along in
        first_through edge edges from to (more edge.lower.0) parts.1 (or_cases (from == edge.lower.0) (leads edges from edge.lower.0) parts.0)

-- an edge is a walk
pub leads-edge : (edges : List Edge) (place : ℕ) (edge : Edge) → slice_get edges place ≡ Some edge → leads edges edge.lower.0 edge.upper.0 ≡ true
leads-edge [] place edge is = cc
leads-edge (first ∷ edges) zero edge is =
    let same : first ≡ edge = cc in
    leads-through first edges edge.lower.0 edge.upper.0 (or_left _ _ (eq-eqb edge.lower.0 first.lower.0 (ap (λ edge. edge.lower.0) (sym same))))
    (or_left _ _ (eq-eqb first.upper.0 edge.upper.0 (ap (λ edge. edge.upper.0) same)))
leads-edge (first ∷ edges) (suc place) edge is = leads-later first edges edge.lower.0 edge.upper.0 (leads-edge edges place edge is)

-- a table that no edge goes out of leads nowhere
pub leads-none : (edges : List Edge) (from to : ℕ) → ((place : ℕ) (edge : Edge) → slice_get edges place ≡ Some edge → edge.lower.0 ≢ from) → leads edges from to ≡ false
leads-none edges from to none =
    false_from_ne_true (leads edges from to) (λ walk. let first = has_first edges from to walk in none first.among.0 first.edge first.among.1 first.lower)

-- a table that leads to itself comes back by one of the tables
comes_back-there : (tables : ℕ) (edges : List Edge) (table : ℕ) → ((place : ℕ) (edge : Edge) → slice_get edges place ≡ Some edge → edge.upper.0 < tables)
    → leads edges table table ≡ true → (through : ℕ) × (find (comes_back edges table) (range_with_len 0 tables) ≡ Some through)
comes_back-there tables edges table below walk =
    let first = has_first edges table table walk in
    let upper = first.edge.upper.0 in
    let small = below first.among.0 first.edge first.among.1 in
    let at = in_range tables upper small in
    let edge = any-at (λ edge. edge.lower.0 == table && edge.upper.0 == upper) edges first.among.0 first.edge first.among.1
    (and_from _ _ (eq-eqb first.edge.lower.0 table first.lower) (eq-eqb upper upper refl)) in
    find-there (comes_back edges table) (range_with_len 0 tables) at.0 upper at.1 (and_from _ _ edge first.back)

-- the last of some elements is one of them
last-among : {X : Type 0} (o : Option X) (xs : List X) (x : X) → last_or o xs ≡ Some x → (o ≡ Some x) ⊎ IsIn xs x
last-among o [] x is = inl is
last-among o (first ∷ xs) x is = by (last-among (Some first) xs x is)
  where
    by : (Some first ≡ Some x) ⊎ IsIn xs x → (o ≡ Some x) ⊎ IsIn (first ∷ xs) x
    by (inl here) = inr (0, here)
    by (inr later) = inr (suc later.0, later.1)

last-some : {X : Type 0} (x : X) (xs : List X) → last_or (Some x) xs ≡ None → ⊥
last-some x [] none = cc
last-some x (first ∷ xs) none = last-some first xs none

last-none : {X : Type 0} (xs : List X) → last_or None xs ≡ None → xs ≡ []
last-none [] none = refl
last-none (first ∷ xs) none = absurd (last-some first xs none)

-- where no cycle is reported of edges between that many tables, no table of these leads to itself
pub leads-unclosed : (tables : ℕ) (edges : List Edge) → ((place : ℕ) (edge : Edge) → slice_get edges place ≡ Some edge → edge.upper.0 < tables)
    → cycle_of tables edges ≡ None → (table : ℕ) → table < tables → leads edges table table ≡ false
unfolding cycle_of
leads-unclosed tables edges below none table small = by (last_or None (tables_on_walks tables edges)) refl none
  where
    closes : ℕ → Option Cycle
    closes table = option_map (λ through. record { table = table; through = through }) (find (comes_back edges table) (range_with_len 0 tables))

    never : (last : ℕ) → leads edges last last ≡ true → closes last ≡ None → ⊥
    never last walk closed = let there = comes_back-there tables edges last below walk in
        let both : ◌≡◌ {A = Option Cycle} (Some (record { table = last; through = there.0 })) None = rw there.1 at closed in cc

    by : (o : Option ℕ) → last_or None (tables_on_walks tables edges) ≡ o → option_and_then closes o ≡ None → leads edges table table ≡ false
    by None is closed =
        let empty = last-none (tables_on_walks tables edges) is in
        let at = in_range tables table small in
        all-at (λ table. leads edges table table ≡ false) (range_with_len 0 tables) (filter-none (λ table. leads edges table table) (range_with_len 0 tables) empty) at.0 table at.1
    by (Some last) is closed = among (last-among None (tables_on_walks tables edges) last is)
      where
        among : (None ≡ Some last) ⊎ IsIn (tables_on_walks tables edges) last → leads edges table table ≡ false
        among (inl nothing) = cc
        among (inr one) = absurd (never last (filter-passes (λ table. leads edges table table) (range_with_len 0 tables) last one) closed)
