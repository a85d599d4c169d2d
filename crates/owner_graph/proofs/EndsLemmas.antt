-- Edges by a table that each has.
use Rattle.std.proofs.Common.{◌≡◌, ℕ, ◌+◌, ◌<◌, List, [], ◌∷◌, ◌++◌, true, false, refl, sym, ap, ◌∙◌, inl, inr, arith, cond, length, get_or, set, take, eq-eqb}
use Rattle.std.specs.Prelude.{◌==◌, Contains}
use Rattle.std.specs.List.{AllByRecursion}
use Rattle.std.proofs.lemmas.Bool.{cases_eq, ne_eqb}
use Rattle.std.proofs.lemmas.List.{append-nil, get_or-set_other, get_or-set_same, length-set, same_lists}
use Rattle.std.proofs.lemmas.List.Elements.{Contains-get_or, filter_more}
use Rattle.std.proofs.lemmas.List.FromFn.{get_or-map-range_with_len, length-map-range_with_len}
use Rattle.own_base.specs.declared.number.TableNo.{TableNo}
use Rattle.own_model.specs.declared.schema.Edge.{Edge}
use Rattle.owner_model.specs.AreWithin.{AreWithin}
use Rattle.owner_model.proofs.CycleLemmas.{tables_within}
use Rattle.owner_graph.specs.declared.end.End.{End}
use Rattle.owner_graph.specs.declared.end.End.TheVariants.{Lower, Upper}
use Rattle.owner_graph.specs.Ends.{by_table, edges_at, table_at}

-- each table of an edge is there
pub end_within : (end : End) (tables : ℕ) (edges : List Edge) (edge : Edge) → AreWithin tables edges → Contains edges edge → (table_at end edge).0 < tables
end_within Lower tables edges edge within among = (tables_within tables edges edge within among).0
end_within Upper tables edges edge within among = (tables_within tables edges edge within among).1

-- and those of the edges into a table
pub lowers_within : (tables count table : ℕ) (edges : List Edge) → count ≡ tables → AreWithin tables edges → AllByRecursion (λ edge. edge.lower.0 < count) (edges_at Upper edges table)
lowers_within tables count table [] same within = tt
lowers_within tables count table (edge ∷ edges) same within =
    let rest : AllByRecursion (λ e. e.lower.0 < count) (edges_at Upper edges table) = lowers_within tables count table edges same within.1 in
    elim (edge.upper.0 == table) as (λ b. AllByRecursion (λ e. e.lower.0 < count) (cond b (edge ∷ edges_at Upper edges table) (edges_at Upper edges table))) [
      | true ↦ (omega (arith, within.0.0), rest)
      | false ↦ rest
    ]

module _ (end : End) (tables : ℕ) where
  pub length-by_table : (edges : List Edge) → length (by_table end tables edges) ≡ tables
  length-by_table edges = length-map-range_with_len (edges_at end edges) 0 tables

  -- what stands at a table's place
  pub get_or-by_table : (edges : List Edge) (table : ℕ) (d : List Edge) → table < tables → get_or (by_table end tables edges) table d ≡ edges_at end edges table
  get_or-by_table edges table d within = get_or-map-range_with_len (edges_at end edges) 0 tables table table d within (omega arith)

  -- with one edge more, its table has that edge last
  module _ (edges : List Edge) (place : ℕ) (d : Edge) (inside : place < length edges) where
    edges_at-same : edges_at end (take (place + 1) edges) (table_at end (get_or edges place d)).0 ≡ edges_at end (take place edges) (table_at end (get_or edges place d)).0 ++ get_or edges place d ∷ []
    edges_at-same =
        let t = (table_at end (get_or edges place d)).0 in
        filter_more (λ e. (table_at end e).0 == t) edges place d inside
        ∙ ap (λ b. edges_at end (take place edges) t ++ cond b (get_or edges place d ∷ []) []) (eq-eqb t t refl)

    edges_at-other : (table : ℕ) → ((table_at end (get_or edges place d)).0 ≡ table → ⊥) → edges_at end (take (place + 1) edges) table ≡ edges_at end (take place edges) table
    edges_at-other table other =
        filter_more (λ e. (table_at end e).0 == table) edges place d inside
        ∙ ap (λ b. edges_at end (take place edges) table ++ cond b (get_or edges place d ∷ []) []) (ne_eqb (table_at end (get_or edges place d)).0 table other)
        ∙ append-nil (edges_at end (take place edges) table)

    more : (table : ℕ) (group : List Edge) → (table_at end (get_or edges place d)).0 ≡ table → table < tables
        → group ≡ edges_at end (take place edges) table ++ get_or edges place d ∷ []
        → set (by_table end tables (take place edges)) table group ≡ by_table end tables (take (place + 1) edges)
    more table group is there holds =
        let before = by_table end tables (take place edges) in
        same_lists (set before table group) (by_table end tables (take (place + 1) edges))
        (length-set before table group ∙ length-by_table (take place edges) ∙ sym (length-by_table (take (place + 1) edges)))
        (λ k e below.
        let k_there : k < tables = omega (arith, below, length-set before table group, length-by_table (take place edges)) in
        elim (cases_eq k table) [
          | inl same ↦
              let known : table < length before = omega (arith, there, length-by_table (take place edges)) in
              ap (λ n. get_or (set before table group) n e) same ∙ get_or-set_same before table group e known ∙ holds
              ∙ ap (λ n. edges_at end (take place edges) n ++ get_or edges place d ∷ []) (sym is) ∙ sym edges_at-same
              ∙ ap (edges_at end (take (place + 1) edges)) (is ∙ sym same) ∙ sym (get_or-by_table (take (place + 1) edges) k e k_there)
          | inr other ↦
              get_or-set_other before table k group e other ∙ get_or-by_table (take place edges) k e k_there
              ∙ sym (edges_at-other k (λ same. other (sym same ∙ is))) ∙ sym (get_or-by_table (take (place + 1) edges) k e k_there)
        ])

-- the table of an edge that a loop comes to
pub place_within : (end : End) (tables : ℕ) (edges : List Edge) (place : ℕ) (d : Edge) → AreWithin tables edges → place < length edges → (table_at end (get_or edges place d)).0 < tables
place_within end tables edges place d within inside = end_within end tables edges (get_or edges place d) within (Contains-get_or edges place d inside)

-- and the list of that table
pub group_within : (end : End) (tables : ℕ) (edges before : List Edge) (place : ℕ) (d : Edge) (groups : List (List Edge)) (table : TableNo) → AreWithin tables edges → place < length edges
    → groups ≡ by_table end tables before → table ≡ table_at end (get_or edges place d) → table.0 < length groups
group_within end tables edges before place d groups table within inside are is =
    omega (arith, ap (λ t. t.0) is, place_within end tables edges place d within inside, ap length are, length-by_table end tables before)

-- the step of a loop that puts each edge last in the list of its table
pub by_table-more : (end : End) (tables : ℕ) (edges : List Edge) (place : ℕ) (d edge : Edge) (groups : List (List Edge)) (table : TableNo) (old new : List Edge)
    → AreWithin tables edges → place < length edges → groups ≡ by_table end tables (take place edges) → table ≡ table_at end (get_or edges place d)
    → old ≡ get_or groups table.0 old → edge ≡ get_or edges place d → new ≡ old ++ edge ∷ []
    → set groups table.0 new ≡ by_table end tables (take (place + 1) edges)
by_table-more end tables edges place d edge groups table old new within inside before is read same pushed =
    let there : (table_at end (get_or edges place d)).0 < tables = place_within end tables edges place d within inside in
    let t : (table_at end (get_or edges place d)).0 ≡ table.0 = ap (λ u. u.0) (sym is) in
    let held : old ≡ edges_at end (take place edges) table.0 =
    read ∙ ap (λ g. get_or g table.0 old) before ∙ get_or-by_table end tables (take place edges) table.0 old (omega arith) in
    ap (λ g. set g table.0 new) before ∙ more end tables edges place d inside table.0 new t (omega arith) (pushed ∙ ap (λ l. l ++ edge ∷ []) held ∙ ap (λ e. edges_at end (take place edges) table.0 ++ e ∷ []) same)
