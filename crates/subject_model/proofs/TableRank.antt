-- A rank of tables that falls along each edge: to how many tables a table leads.
use Rattle.std.proofs.Common.{◌≡◌, ℕ, zero, suc, ◌+◌, ◌<◌, ◌≤◌, List, [], ◌∷◌, length, Bool, true, false, inl, inr, refl, sym, subst, arith}
use Rattle.std.specs.Prelude.{◌⊎◌, Contains, count_by}
use Rattle.std.specs.List.{range_with_len}
use Rattle.std.proofs.lemmas.Bool.{cases_eq}
use Rattle.std.proofs.lemmas.List.FromFn.{length-range_with_len}
use Rattle.std.proofs.lemmas.List.Sums.{count_by-le-length}
use Rattle.own_base.specs.declared.row_name.RowName.{RowName}
use Rattle.own_model.specs.declared.schema.Edge.{Edge}
use Rattle.own_model.specs.declared.schema.Schema.{Schema}
use Rattle.own_model.specs.Db.{Db}
use Rattle.owner_model.specs.Joins.{Joins}
use Rattle.owner_model.specs.Leads.{leads}
use Rattle.owner_model.proofs.CountLemmas.{count_by-fails, count_by-passes, count_by-rest}
use Rattle.owner_model.proofs.LeadsLemmas.{leads-edge, leads-on}
use Rattle.schema_model.specs.OwnerSchema.{IsOwnerSchema}
use Rattle.schema_model.proofs.Places.{place-lt}
use Rattle.subject_model.proofs.Members.{contains_cases, contains_here, contains_later, contains_none}
use Rattle.subject_model.proofs.NamedLemmas.{table-there}

module _ {X : Type 0} (p q : X → Bool) (weaker : (x : X) → p x ≡ true → q x ≡ true) where
  -- a weaker test passes no fewer
  count_more : (xs : List X) → count_by p xs ≤ count_by q xs
  count_more [] = omega arith
  count_more (x ∷ xs) = by (count_more xs) (p x) refl
    where
      by : count_by p xs ≤ count_by q xs → (b : Bool) → p x ≡ b → count_by p (x ∷ xs) ≤ count_by q (x ∷ xs)
      by more true is = omega (arith, count_by-passes p x xs is, count_by-passes q x xs (weaker x is))
      by more false is = omega (arith, count_by-fails p x xs is, count_by-rest q x xs)

  -- and more where it passes one that the other doesn't
  count_one_more : (xs : List X) (found : X) → Contains xs found → p found ≡ false → q found ≡ true → count_by p xs < count_by q xs
  count_one_more [] found among fails passes = absurd (contains_none found among)
  count_one_more (x ∷ xs) found among fails passes = by (λ later. count_one_more xs found later fails passes) (count_more xs) (contains_cases x xs found among) (p x) refl
    where
      by : (Contains xs found → count_by p xs < count_by q xs) → count_by p xs ≤ count_by q xs → (x ≡ found) ⊎ Contains xs found → (b : Bool) → p x ≡ b
          → count_by p (x ∷ xs) < count_by q (x ∷ xs)
      by more no_fewer (inl here) b is =
          let own : p x ≡ false = subst (λ y. p y ≡ false) (sym here) fails in
          let other : q x ≡ true = subst (λ y. q y ≡ true) (sym here) passes in
          omega (arith, count_by-fails p x xs own, count_by-passes q x xs other)
      by more no_fewer (inr later) true is = let fewer = more later in omega (arith, count_by-passes p x xs is, count_by-passes q x xs (weaker x is))
      by more no_fewer (inr later) false is = let fewer = more later in omega (arith, count_by-fails p x xs is, count_by-rest q x xs)

-- a range has each number from its first on
contains_range : (first count n : ℕ) → first ≤ n → n < first + count → Contains (range_with_len first count) n
contains_range first zero n above below = absurd (omega arith)
contains_range first (suc count) n above below =
    elim (cases_eq first n) [
      | inl here ↦ subst (Contains (range_with_len first (suc count))) here (contains_here first (range_with_len (first + 1) count))
      | inr other ↦ contains_later first (range_with_len (first + 1) count) n (contains_range (first + 1) count n (above_first first n above other) (omega arith))
    ]
  where
    above_first : (first n : ℕ) → first ≤ n → (first ≡ n → ⊥) → first + 1 ≤ n
    above_first first n above other = omega arith

-- to how many tables a table leads
abbrev pub rank : Schema → ℕ → ℕ
rank schema table = count_by (leads schema.edges table) (range_with_len 0 (length schema.tables))

-- to no more than there are
pub rank-le : (schema : Schema) (table : ℕ) → rank schema table ≤ length schema.tables
rank-le schema table =
    omega (arith, count_by-le-length (leads schema.edges table) (range_with_len 0 (length schema.tables)), length-range_with_len 0 (length schema.tables))

-- an edge leads up to a table of lower rank
pub rank-edge : (schema : Schema) (edge : Edge) → IsOwnerSchema schema → Contains schema.edges edge → edge.upper.0 < length schema.tables → rank schema edge.upper.0 < rank schema edge.lower.0
rank-edge schema edge owner among within =
    let along = leads-edge schema.edges edge among in
    count_one_more (leads schema.edges edge.upper.0) (leads schema.edges edge.lower.0) (λ table walk. leads-on schema.edges edge.lower.0 edge.upper.0 table along walk)
    (range_with_len 0 (length schema.tables)) edge.upper.0 (contains_range 0 (length schema.tables) edge.upper.0 (omega arith) (omega arith)) (owner.acyclic edge.upper.0) along

-- and so joins a row to one of a table of lower rank
pub rank-joins : (db : Db) (lower : RowName) (edge : Edge) (upper : RowName) → IsOwnerSchema db.schema → Joins db lower edge upper
    → rank db.schema upper.table.0 < rank db.schema lower.table.0
rank-joins db lower edge upper owner is =
    let (table, at) = table-there db upper is.upper_there in
    let within : upper.table.0 < length db.schema.tables = place-lt db.schema.tables upper.table.0 table at in
    let falls : edge.upper.0 < length db.schema.tables → rank db.schema edge.upper.0 < rank db.schema edge.lower.0 = rank-edge db.schema edge owner is.among in
    subst (λ t. rank db.schema upper.table.0 < rank db.schema t.0) (sym is.of_lower)
    (subst (λ t. t.0 < length db.schema.tables → rank db.schema t.0 < rank db.schema edge.lower.0) (sym is.of_upper) falls within)
