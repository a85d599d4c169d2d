-- Walks: joined, and over more edges.
use Rattle.std.proofs.Common.{ℕ, suc, List, [], ◌∷◌, ◌++◌, refl, sym, subst, inl, inr, arith}
use Rattle.std.specs.Prelude.{Contains}
use Rattle.std.specs.List.{AllByRecursion}
use Rattle.own_model.specs.declared.schema.Edge.{Edge}
use Rattle.owner_model.specs.Walk.{Arrives, IsWalk, Leads}

-- one walk after another
walk_joined : (first second : List Edge) (from by to : ℕ) → IsWalk from first by → IsWalk by second to → IsWalk from (first ++ second) to
walk_joined [] second from by to here more = subst (λ n. IsWalk n second to) (sym here) more
walk_joined (edge ∷ rest) second from by to walk more = (walk.0, walk_joined rest second edge.upper.0 by to walk.1 more)

-- what is true of each edge of both is true of each edge of the two together
all_joined : (P : Edge → Type 0) (first second : List Edge) → AllByRecursion P first → AllByRecursion P second → AllByRecursion P (first ++ second)
all_joined P [] second all more = more
all_joined P (edge ∷ rest) second all more = (all.0, all_joined P rest second all.1 more)

-- a walk goes on
pub leads_on : (edges : List Edge) (from by to : ℕ) → Leads edges from by → Leads edges by to → Leads edges from to
leads_on edges from by to one two =
    record {
      first = one.first;
      rest = one.rest ++ two.first ∷ two.rest;
      among = all_joined (Contains edges) (one.first ∷ one.rest) (two.first ∷ two.rest) one.among two.among;
      walk = walk_joined (one.first ∷ one.rest) (two.first ∷ two.rest) from by to one.walk two.walk;
    }

-- what is an edge stays one, with another before them
pub contains_more : (edge : Edge) (edges : List Edge) (other : Edge) → Contains edges other → Contains (edge ∷ edges) other
contains_more edge edges other (place, within, is) = (suc place, omega arith, is)

all_more : (edge : Edge) (edges walk : List Edge) → AllByRecursion (Contains edges) walk → AllByRecursion (Contains (edge ∷ edges)) walk
all_more edge edges [] all = all
all_more edge edges (step ∷ rest) all = (contains_more edge edges step all.0, all_more edge edges rest all.1)

-- so does a walk
pub leads_more : (edge : Edge) (edges : List Edge) (from to : ℕ) → Leads edges from to → Leads (edge ∷ edges) from to
leads_more edge edges from to walk =
    record { first = walk.first; rest = walk.rest; among = all_more edge edges (walk.first ∷ walk.rest) walk.among; walk = walk.walk }

-- each edge is a walk
pub edge_leads : (edges : List Edge) (edge : Edge) → Contains edges edge → Leads edges edge.lower.0 edge.upper.0
edge_leads edges edge among = record { first = edge; rest = []; among = (among, tt); walk = (refl, refl) }

-- a walk that arrives goes on
pub arrives_on : (edges : List Edge) (from by to : ℕ) → Arrives edges from by → Leads edges by to → Leads edges from to
arrives_on edges from by to (inl here) more = subst (λ n. Leads edges n to) (sym here) more
arrives_on edges from by to (inr walk) more = leads_on edges from by to walk more

-- and one that goes on may arrive
pub leads_and_arrives : (edges : List Edge) (from by to : ℕ) → Leads edges from by → Arrives edges by to → Leads edges from to
leads_and_arrives edges from by to walk (inl here) = subst (λ n. Leads edges from n) here walk
leads_and_arrives edges from by to walk (inr more) = leads_on edges from by to walk more

-- so does one along an edge
pub arrives_along : (edges : List Edge) (edge : Edge) (from to : ℕ) → Contains edges edge → Arrives edges from edge.lower.0 → Arrives edges edge.upper.0 to → Leads edges from to
arrives_along edges edge from to among before behind =
    leads_and_arrives edges from edge.upper.0 to (arrives_on edges from edge.lower.0 edge.upper.0 before (edge_leads edges edge among)) behind
