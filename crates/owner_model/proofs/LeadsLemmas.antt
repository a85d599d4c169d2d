-- The test `leads` says where walks lead.
use Rattle.std.proofs.Common.{◌≡◌, ℕ, zero, suc, ◌<◌, List, [], ◌∷◌, length, true, false, refl, sym, ap, subst, inl, inr, arith, eq-eqb}
use Rattle.std.specs.Prelude.{◌⊎◌, ◌↔◌, ◌==◌, Contains, IsTrue, slice_index_or}
use Rattle.std.specs.List.{AllByRecursion}
use Rattle.std.proofs.lemmas.Bool.{and_from, and_parts, eqb-true, or_cases, or_left, or_right}
use Rattle.own_model.specs.declared.schema.Edge.{Edge}
use Rattle.owner_model.specs.Leads.{arrives, leads}
use Rattle.owner_model.specs.Walk.{Arrives, IsWalk, Leads}
use Rattle.owner_model.proofs.WalkLemmas.{arrives_along, leads_more}

-- what the test says of the edges without the first, it says of them all
more : (edge : Edge) (edges : List Edge) (from to : ℕ) → leads edges from to ≡ true → leads (edge ∷ edges) from to ≡ true
unfolding leads
more edge edges from to walk = or_left _ _ walk

-- and of those that go along the first
along : (edge : Edge) (edges : List Edge) (from to : ℕ) → arrives edges from edge.lower.0 ≡ true → arrives edges edge.upper.0 to ≡ true → leads (edge ∷ edges) from to ≡ true
unfolding leads
along edge edges from to before behind = or_right _ _ (and_from _ _ before behind)

-- there are no others
split : (edge : Edge) (edges : List Edge) (from to : ℕ) → leads (edge ∷ edges) from to ≡ true
    → (leads edges from to ≡ true) ⊎ ((arrives edges from edge.lower.0 ≡ true) × (arrives edges edge.upper.0 to ≡ true))
unfolding leads
split edge edges from to is =
    elim (or_cases _ _ is) [ inl walk ↦ inl walk | inr both ↦ inr (and_parts (arrives edges from edge.lower.0) (arrives edges edge.upper.0 to) both) ]

arrives_by : (edges : List Edge) (from by to : ℕ) → (leads edges by to ≡ true → leads edges from to ≡ true) → leads edges from by ≡ true → arrives edges by to ≡ true → leads edges from to ≡ true
arrives_by edges from by to on walk is =
    elim (or_cases (by == to) (leads edges by to) is) [ inl here ↦ subst (λ n. leads edges from n ≡ true) (eqb-true by to here) walk | inr further ↦ on further ]

arrives_from : (edges : List Edge) (from by to : ℕ) → (leads edges from by ≡ true → leads edges from to ≡ true) → arrives edges from by ≡ true → leads edges by to ≡ true → leads edges from to ≡ true
arrives_from edges from by to on is walk =
    elim (or_cases (from == by) (leads edges from by) is) [ inl here ↦ subst (λ n. leads edges n to ≡ true) (sym (eqb-true from by here)) walk | inr before ↦ on before ]

-- where the test finds a walk, and one that goes on, it finds the two together
pub leads-on : (edges : List Edge) (from by to : ℕ) → leads edges from by ≡ true → leads edges by to ≡ true → leads edges from to ≡ true
unfolding leads
leads-on [] from by to one two = one
leads-on (edge ∷ edges) from by to one two =
    let on : (a b c : ℕ) → leads edges a b ≡ true → leads edges b c ≡ true → leads edges a c ≡ true = leads-on edges in
    let into : (a b c : ℕ) → leads edges a b ≡ true → arrives edges b c ≡ true → arrives edges a c ≡ true =
    (λ a b c walk is. or_right (a == c) _ (arrives_by edges a b c (on a b c walk) walk is)) in
    let out : (a b c : ℕ) → arrives edges a b ≡ true → leads edges b c ≡ true → arrives edges a c ≡ true =
    (λ a b c is walk. or_right (a == c) _ (arrives_from edges a b c (λ before. on a b c before walk) is walk)) in
    elim (split edge edges from by one) [
      | inl first ↦ elim (split edge edges by to two) [
        | inl second ↦ more edge edges from to (on from by to first second)
        | inr second ↦ along edge edges from to (into from by edge.lower.0 first second.0) second.1
      ]
      | inr first ↦ elim (split edge edges by to two) [
        | inl second ↦ along edge edges from to first.0 (out edge.upper.0 by to first.1 second)
        | inr second ↦ along edge edges from to first.0 second.1
      ]
    ]

leads_at : (edges : List Edge) (edge : Edge) (place : ℕ) → place < length edges → slice_index_or edges place edge ≡ edge → leads edges edge.lower.0 edge.upper.0 ≡ true
leads_at [] edge place within is = absurd (omega arith)
leads_at (first ∷ edges) edge zero within is =
    along first edges edge.lower.0 edge.upper.0
    (or_left _ _ (eq-eqb edge.lower.0 first.lower.0 (sym (ap (λ e. e.lower.0) is))))
    (or_left _ _ (eq-eqb first.upper.0 edge.upper.0 (ap (λ e. e.upper.0) is)))
leads_at (first ∷ edges) edge (suc place) within is = more first edges edge.lower.0 edge.upper.0 (leads_at edges edge place (omega arith) is)

-- the test finds each edge
pub leads-edge : (edges : List Edge) (edge : Edge) → Contains edges edge → leads edges edge.lower.0 edge.upper.0 ≡ true
leads-edge edges edge (place, within, is) = leads_at edges edge place within is

-- and each walk
leads_walk : (edges : List Edge) (first : Edge) (rest : List Edge) (from to : ℕ) → AllByRecursion (Contains edges) (first ∷ rest) → IsWalk from (first ∷ rest) to → leads edges from to ≡ true
leads_walk edges first [] from to among walk =
    subst (λ n. leads edges n to ≡ true) walk.0 (subst (λ n. leads edges first.lower.0 n ≡ true) walk.1 (leads-edge edges first among.0))
leads_walk edges first (next ∷ rest) from to among walk =
    subst (λ n. leads edges n to ≡ true) walk.0 (leads-on edges first.lower.0 first.upper.0 to (leads-edge edges first among.0) (leads_walk edges next rest first.upper.0 to among.1 walk.1))

-- where a walk leads, the test says so
pub leads-from_walk : (edges : List Edge) (from to : ℕ) → Leads edges from to → leads edges from to ≡ true
leads-from_walk edges from to walk = leads_walk edges walk.first walk.rest from to walk.among walk.walk

-- and where it says so, a walk leads
pub walk_from_leads : (edges : List Edge) (from to : ℕ) → leads edges from to ≡ true → Leads edges from to
unfolding leads
walk_from_leads [] from to is = let never : false ≡ true = is in cc
walk_from_leads (edge ∷ edges) from to is =
    let none : (a b : ℕ) → leads edges a b ≡ true → Leads (edge ∷ edges) a b = λ a b walk. leads_more edge edges a b (walk_from_leads edges a b walk) in
    let any : (a b : ℕ) → arrives edges a b ≡ true → Arrives (edge ∷ edges) a b =
    (λ a b is. elim (or_cases (a == b) (leads edges a b) is) [ inl here ↦ inl (eqb-true a b here) | inr walk ↦ inr (none a b walk) ]) in
    elim (split edge edges from to is) [
      | inl walk ↦ none from to walk
      | inr both ↦ arrives_along (edge ∷ edges) edge from to (0, omega arith, refl) (any from edge.lower.0 both.0) (any edge.upper.0 to both.1)
    ]

-- the same of walks of any length
pub arrives-from_walk : (edges : List Edge) (from to : ℕ) → Arrives edges from to → arrives edges from to ≡ true
arrives-from_walk edges from to (inl here) = or_left _ _ (eq-eqb from to here)
arrives-from_walk edges from to (inr walk) = or_right _ _ (leads-from_walk edges from to walk)

pub walk_from_arrives : (edges : List Edge) (from to : ℕ) → arrives edges from to ≡ true → Arrives edges from to
walk_from_arrives edges from to is = elim (or_cases (from == to) (leads edges from to) is) [ inl here ↦ inl (eqb-true from to here) | inr walk ↦ inr (walk_from_leads edges from to walk) ]

-- both ways
pub leads-iff_walk : (edges : List Edge) (from to : ℕ) → IsTrue (leads edges from to) ↔ Leads edges from to
leads-iff_walk edges from to = (walk_from_leads edges from to, leads-from_walk edges from to)
