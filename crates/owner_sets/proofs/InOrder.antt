-- The tables get their sets in the graph's order.
use Rattle.std.proofs.Common.{◌≡◌, ℕ, ◌+◌, ◌<◌, ◌≤◌, List, [], length, get_or, set, inl, inr, refl, ap, sym, ◌∙◌, subst, arith, get_or-set_other, get_or-set_same, length-set}
use Rattle.std.specs.Prelude.{◌==◌, Contains, Option, Some, filter, map, slice_get}
use Rattle.std.specs.List.{range_with_len}
use Rattle.std.proofs.lemmas.Bool.{cases_eq, cases_lt, eqb-true}
use Rattle.std.proofs.lemmas.List.{get_or_past}
use Rattle.std.proofs.lemmas.List.FromFn.{get_or-range_with_len, length-range_with_len}
use Rattle.std.proofs.lemmas.Option.{get_or_from_slice_get, same_Some, slice_get_read}
use Rattle.std.proofs.lemmas.List.Sorted.{Contains-permutation, IsPermutation-sym}
use Rattle.own_base.specs.declared.number.TableNo.{TableNo}
use Rattle.own_base.specs.declared.row_name.RowName.{RowName}
use Rattle.own_base.specs.declared.row_name.Subject.{Subject}
use Rattle.own_model.specs.declared.schema.Edge.{Edge}
use Rattle.own_model.specs.Db.{Db}
use Rattle.owner_model.specs.GraphOrder.{IsGraphOrder, StandsBefore}
use Rattle.owner_model.proofs.OrderLemmas.{order_has_each_once}
use Rattle.schema_model.proofs.Places.{place-lt}
use Rattle.subject_model.proofs.Members.{all_contained, contains_map, contains_of_filter, contains_of_map}
use Rattle.owner_sets.specs.Sets.{AreSetsOf, AreSetsOfTable, Sets}
use Rattle.owner_sets.proofs.Ranges.{contains_range}

-- the tables that stand before a place have their sets
pub record Done (db : Db) (listed : RowName → List RowName) (order : List TableNo) (place : ℕ) (sets : Sets) : Type 0 where
  pub tables : length sets ≡ length db.schema.tables
  pub each : (at : ℕ) (table : TableNo) → at < place → slice_get order at ≡ Some table → AreSetsOfTable db listed table.0 (get_or sets table.0 [])

same_number : (one other : TableNo) → one.0 ≡ other.0 → one ≡ other
same_number one other same = ap (λ (n : ℕ). record { 0 = n }) same

below_range : (n place : ℕ) → Contains (range_with_len 0 n) place → place < n
below_range n place (at, within, is) =
    let before : at < n = omega (arith, length-range_with_len 0 n) in
    let same : at ≡ place = omega (arith, sym (get_or-range_with_len 0 n at place before) ∙ is) in
    omega arith

at_contained : (order : List TableNo) (at : ℕ) (table : TableNo) → slice_get order at ≡ Some table → Contains order table
at_contained order at table is = (at, place-lt order at table is, get_or_from_slice_get order at table table is)

contained_at : (order : List TableNo) (table : TableNo) → Contains order table → (at : ℕ) × (slice_get order at ≡ Some table)
contained_at order table (at, within, is) = (at, slice_get_read order (length order) at table refl within (sym is))

module _ (tables : ℕ) (edges : List Edge) (order : List TableNo) (graph : IsGraphOrder tables edges order) where
  -- each table of the order is there
  pub order_within : (at : ℕ) (table : TableNo) → slice_get order at ≡ Some table → table.0 < tables
  order_within at table is =
      below_range tables table.0
      (Contains-permutation (map (λ t. t.0) order) (range_with_len 0 tables) table.0 (IsPermutation-sym (range_with_len 0 tables) (map (λ t. t.0) order) graph.each_once)
      (contains_map (λ (t : TableNo). t.0) order table (at_contained order at table is)))

  -- and it has each
  pub order_has : (table : TableNo) → table.0 < tables → (at : ℕ) × (slice_get order at ≡ Some table)
  order_has table within =
      let (other, among, is) = contains_of_map (λ (t : TableNo). t.0) order table.0
      (Contains-permutation (range_with_len 0 tables) (map (λ t. t.0) order) table.0 graph.each_once (contains_range tables table.0 within)) in
      contained_at order table (subst (Contains order) (same_number other table is) among)

  -- an edge out of a table leads to one before it
  pub order_before : (edge : Edge) (place : ℕ) (table : TableNo) → Contains (filter (λ edge. edge.lower.0 == table.0) edges) edge → slice_get order place ≡ Some table
      → (at : ℕ) × (at < place) × (slice_get order at ≡ Some edge.upper)
  order_before edge place table among is =
      let kept = contains_of_filter (λ (e : Edge). e.lower.0 == table.0) edges edge among in
      let lower : edge.lower ≡ table = same_number edge.lower table (eqb-true edge.lower.0 table.0 kept.1) in
      let before : StandsBefore order edge.upper edge.lower = all_contained (λ (e : Edge). StandsBefore order e.upper e.lower) edges edge graph.upward kept.0 in
      let same : before.behind ≡ place = (order_has_each_once tables order graph.each_once).same_place table before.behind place (before.at_behind ∙ ap Some lower) is in
      (before.place, omega (arith, before.earlier), before.at_place)

module _ (db : Db) (listed : RowName → List RowName) (order : List TableNo) (graph : IsGraphOrder (length db.schema.tables) db.schema.edges order) where
  pub Done-start : (sets : Sets) → length sets ≡ length db.schema.tables → Done db listed order 0 sets
  Done-start sets same = record { tables = same; each = λ at table before is. absurd (omega arith) }

  -- so the tables above the next one have theirs
  pub Done-above : (place : ℕ) (sets : Sets) (table : TableNo) → Done db listed order place sets → slice_get order place ≡ Some table
      → (edge : Edge) → Contains (filter (λ edge. edge.lower.0 == table.0) db.schema.edges) edge → AreSetsOfTable db listed edge.upper.0 (get_or sets edge.upper.0 [])
  Done-above place sets table done is edge among =
      let (at, before, upper) = order_before (length db.schema.tables) db.schema.edges order graph edge place table among is in
      done.each at edge.upper before upper

  -- with that one's they are one more
  pub Done-more : (place : ℕ) (sets new : Sets) (table : TableNo) (own : List (List Subject)) → Done db listed order place sets → slice_get order place ≡ Some table
      → AreSetsOfTable db listed table.0 own → new ≡ set sets table.0 own → Done db listed order (place + 1) new
  Done-more place sets new table own done is as_sorted put =
      record {
        tables = ap length put ∙ (length-set sets table.0 own ∙ done.tables);
        each = λ at other before found.
            elim (cases_eq other.0 table.0) [
              | inl same ↦
                  let within : table.0 < length sets = omega (arith, order_within (length db.schema.tables) db.schema.edges order graph place table is, done.tables) in
                  let stands : get_or new other.0 [] ≡ own = ap (λ n. get_or new n []) same ∙ (ap (λ s. get_or s table.0 []) put ∙ get_or-set_same sets table.0 own [] within) in
                  subst (λ list. AreSetsOfTable db listed other.0 list) (sym stands) (subst (λ n. AreSetsOfTable db listed n own) (sym same) as_sorted)
              | inr differ ↦
                  let stands : get_or new other.0 [] ≡ get_or sets other.0 [] = ap (λ s. get_or s other.0 []) put ∙ get_or-set_other sets table.0 other.0 own [] differ in
                  let earlier : at < place = elim (cases_lt at place) [
                    | inl less ↦ less
                    | inr not_less ↦
                        let here : at ≡ place = omega arith in
                        let one : ◌≡◌ {A = Option TableNo} (Some other) (Some table) = sym found ∙ (ap (slice_get order) here ∙ is) in
                        absurd (differ (ap (λ (t : TableNo). t.0) (same_Some other table one)))
                  ] in
                  subst (λ list. AreSetsOfTable db listed other.0 list) (sym stands) (done.each at other earlier found)
            ];
      }

  -- at the end each table has them
  pub Done-end : (place : ℕ) (sets : Sets) → Done db listed order place sets → length order ≤ place → AreSetsOf db listed sets
  Done-end place sets done all =
      record {
        each = λ table. record {
          at = λ row_place definition row table_is row_is.
              let number : TableNo = record { 0 = table } in
              let (at, found) = order_has (length db.schema.tables) db.schema.edges order graph number (place-lt db.schema.tables table definition table_is) in
              (done.each at number (omega (arith, place-lt order at number found)) found).at row_place definition row table_is row_is;
          none = λ row_place none. elim (cases_lt table (length db.schema.tables)) [
            | inl within ↦
                let number : TableNo = record { 0 = table } in
                let (at, found) = order_has (length db.schema.tables) db.schema.edges order graph number within in
                (done.each at number (omega (arith, place-lt order at number found)) found).none row_place none
            | inr past ↦ ap (λ list. get_or list row_place []) (get_or_past sets table [] (omega (arith, done.tables)))
          ];
        };
      }
