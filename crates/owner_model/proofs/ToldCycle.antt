-- What is told of cycles is one of them, and where none is told there is none.
use Rattle.std.proofs.Common.{◌≡◌, ℕ, zero, suc, ◌+◌, ◌<◌, ◌≤◌, List, [], ◌∷◌, Bool, true, false, refl, subst, inl, inr, arith, eq-eqb}
use Rattle.std.specs.Prelude.{◌⊎◌, ◌↔◌, ◌==◌, ◌&&◌, Contains, Option, Some, None, cond, filter, find, option_and_then, option_map}
use Rattle.std.specs.List.{AllByRecursion, last_or, list_any, range_with_len}
use Rattle.std.proofs.lemmas.Bool.{and_from, and_parts, cases_order, eqb-true}
use Rattle.std.proofs.lemmas.List.Folds.{Any-from_list_any, list_any-from_Any}
use Rattle.own_model.specs.declared.schema.Edge.{Edge}
use Rattle.owner_model.specs.Acyclic.{IsAcyclic}
use Rattle.owner_model.specs.AreWithin.{AreWithin}
use Rattle.owner_model.specs.Cycle.{Cycle, IsCycle, comes_back, cycle_of, tables_on_walks}
use Rattle.owner_model.specs.Leads.{arrives, leads}
use Rattle.owner_model.specs.Walk.{Arrives, IsWalk, Leads}
use Rattle.owner_model.proofs.CycleLemmas.{cycle_of-none, tables_within}
use Rattle.owner_model.proofs.LeadsLemmas.{arrives-from_walk, leads-from_walk, walk_from_arrives, walk_from_leads}

module _ (p : ℕ → Bool) where
  -- none of these numbers passes
  NonePass : ℕ → ℕ → Type 0
  NonePass first end = (n : ℕ) → first ≤ n → n < end → p n ≡ false

  -- one number more
  none_more : (first end : ℕ) → p first ≡ false → NonePass (first + 1) end → NonePass first end
  unfolding NonePass
  none_more first end fails later n above below = elim (cases_order first n) [
    | inl is ↦ subst (λ n. p n ≡ false) is fails
    | inr (inl before) ↦ later n (omega arith) below
    | inr (inr after) ↦ absurd (omega arith)
  ]

  -- the first that passes does, and none before it
  found-range : (first count found : ℕ) → find p (range_with_len first count) ≡ Some found → (p found ≡ true) × NonePass first found
  unfolding NonePass
  found-range first zero found is = cc
  found-range first (suc count) found is = by (found-range (first + 1) count found) (p first) refl is
    where
      by : (find p (range_with_len (first + 1) count) ≡ Some found → (p found ≡ true) × NonePass (first + 1) found)
          → (b : Bool) → p first ≡ b → cond b (Some first) (find p (range_with_len (first + 1) count)) ≡ Some found → (p found ≡ true) × NonePass first found
      by more true passes here = let same : first ≡ found = cc in (subst (λ n. p n ≡ true) same passes, λ n above below. absurd (omega arith))
      by more false fails later = let rest = more later in (rest.0, none_more first found fails rest.1)

  -- where none is found, none passes
  none-range : (first count : ℕ) → find p (range_with_len first count) ≡ None → NonePass first (first + count)
  unfolding NonePass
  none-range first zero is = λ n above below. absurd (omega arith)
  none-range first (suc count) is = by (none-range (first + 1) count) (p first) refl is
    where
      by : (find p (range_with_len (first + 1) count) ≡ None → NonePass (first + 1) (first + 1 + count))
          → (b : Bool) → p first ≡ b → cond b (Some first) (find p (range_with_len (first + 1) count)) ≡ None → NonePass first (first + suc count)
      by more true passes here = cc
      by more false fails later = let rest = more later in none_more first (first + suc count) fails (λ n above below. rest n above (omega arith))

  -- the last that passes does, and none behind it; or none passes, and it is the one that stood before them
  record IsLast (first count last : ℕ) : Type 0 where
    after : first ≤ last
    passes : p last ≡ true
    none : NonePass (last + 1) (first + count)

  last_of : (first count last : ℕ) (or : Option ℕ) → last_or or (filter p (range_with_len first count)) ≡ Some last
      → ((or ≡ Some last) × NonePass first (first + count)) ⊎ IsLast first count last
  unfolding NonePass
  last_of first zero last or is = inl (is, λ n above below. absurd (omega arith))
  last_of first (suc count) last or is = by (last_of (first + 1) count last) (p first) refl is
    where
      by : ((or : Option ℕ) → last_or or (filter p (range_with_len (first + 1) count)) ≡ Some last → ((or ≡ Some last) × NonePass (first + 1) (first + 1 + count)) ⊎ IsLast (first + 1) count last)
          → (b : Bool) → p first ≡ b → last_or or (cond b (first ∷ filter p (range_with_len (first + 1) count)) (filter p (range_with_len (first + 1) count))) ≡ Some last
          → ((or ≡ Some last) × NonePass first (first + suc count)) ⊎ IsLast first (suc count) last
      by more true passes here = elim (more (Some first) here) [
        | inl both ↦
            let own : ◌≡◌ {A = Option ℕ} (Some first) (Some last) = both.0 in
            let same : first ≡ last = cc in
            inr (record { after = omega arith; passes = subst (λ n. p n ≡ true) same passes; none = λ n above below. both.1 n (omega arith) (omega arith) })
        | inr later ↦ inr (record { after = omega (arith, later.after); passes = later.passes; none = λ n above below. later.none n above (omega arith) })
      ]
      by more false fails here = elim (more or here) [
        | inl both ↦ inl (both.0, none_more first (first + suc count) fails (λ n above below. both.1 n above (omega arith)))
        | inr later ↦ inr (record { after = omega (arith, later.after); passes = later.passes; none = λ n above below. later.none n above (omega arith) })
      ]

  last_there : (first count n : ℕ) → last_or (Some n) (filter p (range_with_len first count)) ≡ None → ⊥
  last_there first zero n is = let never : ◌≡◌ {A = Option ℕ} (Some n) None = is in cc
  last_there first (suc count) n is = by (last_there (first + 1) count) (p first) is
    where
      by : ((n : ℕ) → last_or (Some n) (filter p (range_with_len (first + 1) count)) ≡ None → ⊥)
          → (b : Bool) → last_or (Some n) (cond b (first ∷ filter p (range_with_len (first + 1) count)) (filter p (range_with_len (first + 1) count))) ≡ None → ⊥
      by more true here = more first here
      by more false here = more n here

  -- where there is no last, none passes
  none_last : (first count : ℕ) → last_or None (filter p (range_with_len first count)) ≡ None → NonePass first (first + count)
  unfolding NonePass
  none_last first zero is = λ n above below. absurd (omega arith)
  none_last first (suc count) is = by (none_last (first + 1) count) (p first) refl is
    where
      by : (last_or None (filter p (range_with_len (first + 1) count)) ≡ None → NonePass (first + 1) (first + 1 + count))
          → (b : Bool) → p first ≡ b → last_or None (cond b (first ∷ filter p (range_with_len (first + 1) count)) (filter p (range_with_len (first + 1) count))) ≡ None
          → NonePass first (first + suc count)
      by more true passes here = absurd (last_there (first + 1) count first here)
      by more false fails later = let rest = more later in none_more first (first + suc count) fails (λ n above below. rest n above (omega arith))

-- no cycle is reported
abbrev none_told : Option Cycle
none_told = None

-- a cycle stays below the tables
closed_within : (tables : ℕ) (edges : List Edge) (table : ℕ) → AreWithin tables edges → Leads edges table table → table < tables
closed_within tables edges table within walk =
    let ends = tables_within tables edges walk.first within walk.among.0 in
    subst (λ n. n < tables) walk.walk.0 ends.0

-- an edge along which a table comes back
comes_back-edge : (edges : List Edge) (table : ℕ) (edge : Edge) → Contains edges edge → edge.lower.0 ≡ table → Arrives edges edge.upper.0 table → comes_back edges table edge.upper.0 ≡ true
comes_back-edge edges table edge among lower back =
    and_from _ _
    (list_any-from_Any _ edges (among.0, edge, among.1, among.2, and_from _ _ (eq-eqb edge.lower.0 table lower) (eq-eqb edge.upper.0 edge.upper.0 refl)))
    (arrives-from_walk edges edge.upper.0 table back)

-- the rest of a walk arrives where the walk does
rest_arrives : (edges : List Edge) (edge : Edge) (rest : List Edge) (to : ℕ) → AllByRecursion (Contains edges) (edge ∷ rest) → IsWalk edge.upper.0 rest to → Arrives edges edge.upper.0 to
rest_arrives edges edge [] to among walk = inl walk
rest_arrives edges edge (next ∷ rest) to among walk = inr (record { first = next; rest = rest; among = among.1; walk = walk })

module _ (tables : ℕ) (edges : List Edge) (within : AreWithin tables edges) where
  through_found : (table through : ℕ) → IsLast (λ t. leads edges t t) 0 tables table → find (comes_back edges table) (range_with_len 0 tables) ≡ Some through → IsCycle edges table through
  unfolding NonePass
  through_found table through last is =
      let first = found-range (comes_back edges table) 0 tables through is in
      let both = and_parts (list_any (λ edge. edge.lower.0 == table && edge.upper.0 == through) edges) (arrives edges through table) first.0 in
      let (place, edge, inside, at, passes) = Any-from_list_any (λ edge. edge.lower.0 == table && edge.upper.0 == through) edges both.0 in
      let ends = and_parts (edge.lower.0 == table) (edge.upper.0 == through) passes in
      record {
        edge = edge;
        among = (place, inside, at);
        lower = eqb-true edge.lower.0 table ends.0;
        upper = eqb-true edge.upper.0 through ends.1;
        back = walk_from_arrives edges through table both.1;
        highest = λ other walk. elim (cases_order table other) [
          | inl same ↦ omega arith
          | inr (inl above) ↦
              let inside : other < tables = closed_within tables edges other within walk in
              let fails = last.none other (omega arith) (omega arith) in
              let leads_to = leads-from_walk edges other other walk in
              cc
          | inr (inr below) ↦ omega arith
        ];
        lowest = λ other among lower back. elim (cases_order other.upper.0 through) [
          | inl same ↦ omega arith
          | inr (inl below) ↦
              let fails = first.1 other.upper.0 (omega arith) below in
              let comes = comes_back-edge edges table other among lower back in
              cc
          | inr (inr above) ↦ omega arith
        ];
      }

  table_found : (told : Cycle) (last : Option ℕ) → last_or None (tables_on_walks tables edges) ≡ last
      → option_and_then (λ table. option_map (λ through. record { table = table; through = through }) (find (comes_back edges table) (range_with_len 0 tables))) last ≡ Some told
      → IsCycle edges told.table told.through
  table_found told None none is = let never : ◌≡◌ {A = Option Cycle} None (Some told) = is in cc
  table_found told (Some table) some is = by (find (comes_back edges table) (range_with_len 0 tables)) refl is
    where
      by : (found : Option ℕ) → find (comes_back edges table) (range_with_len 0 tables) ≡ found → option_map (λ through. record { table = table; through = through }) found ≡ Some told
          → IsCycle edges told.table told.through
      by None none here = let never : ◌≡◌ {A = Option Cycle} None (Some told) = here in cc
      by (Some through) found here =
          let same : ◌≡◌ {A = Cycle} (record { table = table; through = through }) told = cc in
          subst (λ (c : Cycle). IsCycle edges c.table c.through) same (elim (last_of (λ t. leads edges t t) 0 tables table None some) [
            | inl both ↦ (let never : ◌≡◌ {A = Option ℕ} None (Some table) = both.0 in cc)
            | inr last ↦ through_found table through last found
          ])

  -- what is told is a cycle
  pub told_is_cycle : (told : Cycle) → cycle_of tables edges ≡ Some told → IsCycle edges told.table told.through
  unfolding cycle_of
  told_is_cycle told is = table_found told _ refl is

  untold_at : (last : Option ℕ) → last_or None (tables_on_walks tables edges) ≡ last
      → option_and_then (λ table. option_map (λ through. record { table = table; through = through }) (find (comes_back edges table) (range_with_len 0 tables))) last ≡ none_told
      → (table : ℕ) → Leads edges table table → ⊥
  unfolding NonePass
  untold_at None none is table walk =
      let inside : table < tables = closed_within tables edges table within walk in
      let fails = none_last (λ t. leads edges t t) 0 tables none table (omega arith) (omega arith) in
      let leads_to = leads-from_walk edges table table walk in
      cc
  untold_at (Some last) some is table walk = by (find (comes_back edges last) (range_with_len 0 tables)) refl is
    where
      closed : Leads edges last last → find (comes_back edges last) (range_with_len 0 tables) ≡ None → ⊥
      closed around none =
          let edge : Edge = around.first in
          let ends = tables_within tables edges edge within around.among.0 in
          let back : Arrives edges edge.upper.0 last = rest_arrives edges edge around.rest last around.among around.walk.1 in
          let fails = none-range (comes_back edges last) 0 tables none edge.upper.0 (omega arith) (omega (arith, ends.1)) in
          let comes = comes_back-edge edges last edge around.among.0 around.walk.0 back in
          cc

      by : (found : Option ℕ) → find (comes_back edges last) (range_with_len 0 tables) ≡ found → option_map (λ through. record { table = last; through = through }) found ≡ none_told → ⊥
      by (Some through) found here = let never : ◌≡◌ {A = Option Cycle} (Some (record { table = last; through = through })) None = here in cc
      by None none here = elim (last_of (λ t. leads edges t t) 0 tables last None some) [
        | inl both ↦ (let never : ◌≡◌ {A = Option ℕ} None (Some last) = both.0 in cc)
        | inr is_last ↦ closed (walk_from_leads edges last last is_last.passes) none
      ]

  -- none is told exactly where there is none
  pub untold_iff_acyclic : (cycle_of tables edges ≡ None) ↔ IsAcyclic edges
  unfolding cycle_of
  untold_iff_acyclic = (λ none. record { unclosed = untold_at _ refl none }, λ acyclic. cycle_of-none tables edges acyclic.unclosed)
