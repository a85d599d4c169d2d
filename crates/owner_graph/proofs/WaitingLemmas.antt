-- What tables wait for, edge by edge.
use Rattle.std.proofs.Common.{◌≡◌, ℕ, ◌+◌, ◌-◌, ◌<◌, ◌≤◌, List, [], refl, sym, ap, ◌∙◌, inl, inr, arith, eq-eqb, length, get_or, set, take, cond}
use Rattle.std.specs.Prelude.{◌==◌, count_by, slice_index}
use Rattle.std.proofs.lemmas.Bool.{cases_eq, cases_order, ne_eqb}
use Rattle.std.proofs.lemmas.List.{get_or-set_other, get_or-set_same, get_or_past, length-set}
use Rattle.std.proofs.lemmas.List.Sums.{count_by_more_no, count_by_more_yes, sum_by-take-le}
use Rattle.own_model.specs.declared.schema.Edge.{Edge}
use Rattle.owner_graph.specs.TopologicalSort.{WaitsForLess}

-- how many of these edges go out of a table
abbrev pub edges_of : List Edge → ℕ → ℕ
edges_of edges table = count_by (λ edge. edge.lower.0 == table) edges

-- no edge released, nothing changed
pub WaitsForLess-nil : (waiting : List ℕ) → WaitsForLess [] waiting waiting
WaitsForLess-nil waiting = record { fewer = λ table. omega arith; as_many = refl }

-- what waits is there
pub waits_within : (waiting : List ℕ) (table : ℕ) → 0 < slice_index waiting table → table < length waiting
waits_within waiting table some =
    elim (cases_order table (length waiting)) [
      | inl last ↦ absurd (omega (arith, get_or_past waiting table 0 (omega arith)))
      | inr (inl before) ↦ before
      | inr (inr past) ↦ absurd (omega (arith, get_or_past waiting table 0 (omega arith)))
    ]

module _ (edges : List Edge) (place : ℕ) (d : Edge) (old mid : List ℕ) (inside : place < length edges) (so_far : WaitsForLess (take place edges) old mid) where
  -- a table waits for an edge that isn't released
  pub still_waits : ((table : ℕ) → edges_of edges table ≤ slice_index old table) → 0 < slice_index mid (get_or edges place d).lower.0
  still_waits enough =
      let table = (get_or edges place d).lower.0 in
      omega (
        arith,
        enough table,
        so_far.fewer table,
        count_by_more_yes (λ edge. edge.lower.0 == table) edges place d inside (eq-eqb table table refl),
        sum_by-take-le (λ edge. cond (edge.lower.0 == table) 1 0) edges (place + 1),
      )

  -- and one edge more is released
  pub WaitsForLess-more : (new : List ℕ) → 0 < slice_index mid (get_or edges place d).lower.0
      → new ≡ set mid (get_or edges place d).lower.0 (slice_index mid (get_or edges place d).lower.0 - 1)
      → WaitsForLess (take (place + 1) edges) old new
  WaitsForLess-more new some is =
      let table = (get_or edges place d).lower.0 in
      let there : table < length mid = waits_within mid table some in
      record {
        fewer = λ other.
            elim (cases_eq other table) [
              | inl same ↦ omega (
                arith,
                so_far.fewer other,
                ap (edges_of (take (place + 1) edges)) same,
                ap (edges_of (take place edges)) same,
                count_by_more_yes (λ edge. edge.lower.0 == table) edges place d inside (eq-eqb table table refl),
                ap (slice_index new) same,
                ap (slice_index mid) same,
                ap (λ l. slice_index l table) is,
                get_or-set_same mid table (slice_index mid table - 1) 0 there,
              )
              | inr different ↦ omega (
                arith,
                so_far.fewer other,
                count_by_more_no (λ edge. edge.lower.0 == other) edges place d inside (ne_eqb table other (λ same. different (sym same))),
                ap (λ l. slice_index l other) is,
                get_or-set_other mid table other (slice_index mid table - 1) 0 different,
              )
            ];
        as_many = ap length is ∙ length-set mid table (slice_index mid table - 1) ∙ so_far.as_many;
      }
