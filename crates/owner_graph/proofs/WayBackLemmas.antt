-- The lowest upper table of the edges that pass a test.
use Rattle.std.proofs.Common.{◌≡◌, ℕ, ◌+◌, ◌<◌, ◌≤◌, List, [], ◌∷◌, ◌++◌, Bool, true, false, sym, ap, ◌∙◌, subst, inl, inr, arith, eq-eqb, length, get_or, take}
use Rattle.std.specs.Prelude.{◌==◌, ◌||◌, Contains, MatchOption, Option, Some, None, min}
use Rattle.std.specs.List.{AllByRecursion}
use Rattle.std.proofs.lemmas.Bool.{and_from, and_parts, cases_lt, eqb-true, false_from_ne_true, or_cases, or_left, or_right}
use Rattle.std.proofs.lemmas.List.{take_more}
use Rattle.std.proofs.lemmas.List.Elements.{Contains-append_left, Contains-push, Contains-push_cases}
use Rattle.own_base.specs.declared.number.TableNo.{TableNo}
use Rattle.own_model.specs.declared.schema.Edge.{Edge}
use Rattle.owner_model.specs.Leads.{leads}
use Rattle.owner_model.specs.Walk.{Arrives, IsWalk}
use Rattle.owner_model.proofs.LeadsLemmas.{leads-from_walk, walk_from_leads}
use Rattle.owner_graph.specs.Marking.{is_marked}
use Rattle.owner_graph.specs.WayBack.{TellsWayBack, leads_back}

-- an edge that passes has that upper table, and none that passes has a lower one
pub record HasLowest (passes : Edge → Bool) (edges : List Edge) (lowest : ℕ) : Type 0 where
  pub edge : Edge
  pub among : Contains edges edge
  pub passing : passes edge ≡ true
  pub upper : edge.upper.0 ≡ lowest
  pub least : (other : Edge) → Contains edges other → passes other ≡ true → lowest ≤ other.upper.0

-- there is such a table, or no edge passes
abbrev pub IsLowest : (Edge → Bool) → List Edge → Option TableNo → Type 0
IsLowest passes edges lowest = MatchOption lowest ((edge : Edge) → Contains edges edge → passes edge ≡ false) (λ table. HasLowest passes edges table.0)

-- of no edges none passes
pub IsLowest-nil : (passes : Edge → Bool) → IsLowest passes [] None
IsLowest-nil passes = λ edge among. absurd (omega (arith, among.1))

module _ (passes : Edge → Bool) (edges : List Edge) (edge : Edge) where
  -- where the next fails, nothing changes
  pub IsLowest-skip : (lowest : Option TableNo) → IsLowest passes edges lowest → passes edge ≡ false → IsLowest passes (edges ++ edge ∷ []) lowest
  IsLowest-skip None none fails = λ other among. elim (Contains-push_cases edges edge other among) [ inl before ↦ none other before | inr here ↦ ap passes (sym here) ∙ fails ]
  IsLowest-skip (Some table) has fails =
      record {
        edge = has.edge;
        among = Contains-append_left edges (edge ∷ []) has.edge has.among;
        passing = has.passing;
        upper = has.upper;
        least = λ other among passing.
            elim (Contains-push_cases edges edge other among) [
              | inl before ↦ has.least other before passing
              | inr here ↦ (let never : true ≡ false = sym passing ∙ ap passes (sym here) ∙ fails in cc)
            ];
      }

  -- where it passes, it or the lowest before is the lowest
  pub IsLowest-more : (lowest : Option TableNo) (table : TableNo) → IsLowest passes edges lowest → passes edge ≡ true
      → MatchOption lowest (table ≡ edge.upper) (λ before. table.0 ≡ min before.0 edge.upper.0) → HasLowest passes (edges ++ edge ∷ []) table.0
  IsLowest-more None table none passing is =
      record {
        edge = edge;
        among = Contains-push edges edge;
        passing = passing;
        upper = ap (λ t. t.0) (sym is);
        least = λ other among passed.
            elim (Contains-push_cases edges edge other among) [
              | inl before ↦ (let never : true ≡ false = sym passed ∙ none other before in cc)
              | inr here ↦ omega (arith, ap (λ t. t.0) is, ap (λ e. e.upper.0) here)
            ];
      }
  IsLowest-more (Some before) table has passing is =
      let least : (other : Edge) → Contains (edges ++ edge ∷ []) other → passes other ≡ true → table.0 ≤ other.upper.0 =
      (λ other among passed.
      elim (Contains-push_cases edges edge other among) [
        | inl first ↦ omega (arith, has.least other first passed)
        | inr here ↦ omega (arith, ap (λ e. e.upper.0) here)
      ]) in
      elim (cases_lt edge.upper.0 before.0) [
        | inl lower ↦ record { edge = edge; among = Contains-push edges edge; passing = passing; upper = omega arith; least = least }
        | inr higher ↦ record { edge = has.edge; among = Contains-append_left edges (edge ∷ []) has.edge has.among; passing = has.passing; upper = omega (arith, has.upper); least = least }
      ]

module _ (passes : Edge → Bool) (edges : List Edge) (place : ℕ) (d : Edge) (inside : place < length edges) (lowest : Option TableNo) (is : IsLowest passes (take place edges) lowest) where
  -- the steps of a loop
  pub IsLowest-take_skip : passes (get_or edges place d) ≡ false → IsLowest passes (take (place + 1) edges) lowest
  IsLowest-take_skip fails =
      subst (λ l. IsLowest passes l lowest) (sym (take_more edges place d inside)) (IsLowest-skip passes (take place edges) (get_or edges place d) lowest is fails)

  pub IsLowest-take_more : (table : TableNo) → passes (get_or edges place d) ≡ true
      → MatchOption lowest (table ≡ (get_or edges place d).upper) (λ before. table.0 ≡ min before.0 (get_or edges place d).upper.0) → IsLowest passes (take (place + 1) edges) (Some table)
  IsLowest-take_more table passing lower =
      subst (λ l. IsLowest passes l (Some table)) (sym (take_more edges place d inside)) (IsLowest-more passes (take place edges) (get_or edges place d) lowest table is passing lower)

module _ (edges : List Edge) (table : ℕ) (leading : List Bool) (says : (from : ℕ) → is_marked leading from ≡ leads edges from table) where
  -- an edge that passes is the first of a walk back
  passing_arrives : (edge : Edge) → leads_back table leading edge ≡ true → (edge.lower.0 ≡ table) × Arrives edges edge.upper.0 table
  passing_arrives edge passes =
      let both = and_parts (edge.lower.0 == table) (edge.upper.0 == table || is_marked leading edge.upper.0) passes in (
        eqb-true edge.lower.0 table both.0,
        elim (or_cases (edge.upper.0 == table) (is_marked leading edge.upper.0) both.1) [
          | inl here ↦ inl (eqb-true edge.upper.0 table here)
          | inr marked ↦ inr (walk_from_leads edges edge.upper.0 table (sym (says edge.upper.0) ∙ marked))
        ],
      )

  -- and each of these passes
  arrives_passes : (edge : Edge) → edge.lower.0 ≡ table → Arrives edges edge.upper.0 table → leads_back table leading edge ≡ true
  arrives_passes edge from back =
      and_from _ _ (eq-eqb edge.lower.0 table from)
      (elim back [
        | inl here ↦ or_left _ _ (eq-eqb edge.upper.0 table here)
        | inr walk ↦ or_right _ _ (says edge.upper.0 ∙ leads-from_walk edges edge.upper.0 table walk)
      ])

  -- a cycle goes along one
  closed_passes : (first : Edge) (rest : List Edge) → AllByRecursion (Contains edges) (first ∷ rest) → IsWalk table (first ∷ rest) table → leads_back table leading first ≡ true
  closed_passes first [] among walk = arrives_passes first walk.0 (inl walk.1)
  closed_passes first (next ∷ rest) among walk = arrives_passes first walk.0 (inr (record { first = next; rest = rest; among = among.1; walk = walk.1 }))

  -- so the lowest of them is the way back
  pub IsWayBack-lowest : (lowest : Option TableNo) → IsLowest (leads_back table leading) edges lowest → TellsWayBack edges table lowest
  IsWayBack-lowest None none =
      false_from_ne_true (leads edges table table) (λ is.
      let walk = walk_from_leads edges table table is in
      let never : true ≡ false = sym (closed_passes walk.first walk.rest walk.among walk.walk) ∙ none walk.first walk.among.0 in cc)
  IsWayBack-lowest (Some through) has =
      let back = passing_arrives has.edge has.passing in
      record {
        edge = has.edge;
        among = has.among;
        lower = back.0;
        upper = has.upper;
        back = subst (λ n. Arrives edges n table) has.upper back.1;
        lowest = λ other among from arrives. has.least other among (arrives_passes other from arrives);
      }
