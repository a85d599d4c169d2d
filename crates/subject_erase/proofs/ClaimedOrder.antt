-- The tables get their flags in the graph's order.
use Rattle.std.proofs.Common.{◌≡◌, ℕ, ◌+◌, ◌<◌, ◌≤◌, List, [], length, Bool, get_or, set, inl, inr, ap, sym, ◌∙◌, subst, arith, get_or-set_other, get_or-set_same, length-set}
use Rattle.std.specs.Prelude.{◌==◌, Contains, Option, Some, filter, slice_get}
use Rattle.std.proofs.lemmas.Bool.{cases_eq, cases_lt}
use Rattle.std.proofs.lemmas.Option.{same_Some}
use Rattle.own_base.specs.declared.number.TableNo.{TableNo}
use Rattle.own_base.specs.declared.row_name.RowName.{RowName}
use Rattle.own_model.specs.declared.schema.Edge.{Edge}
use Rattle.own_model.specs.Db.{Db}
use Rattle.owner_model.specs.GraphOrder.{IsGraphOrder}
use Rattle.owner_sets.proofs.InOrder.{order_before, order_has, order_within}
use Rattle.schema_model.proofs.Places.{place-lt}
use Rattle.subject_erase.specs.Flags.{AreFlagsOf, AreFlagsOfTable, Flags}

-- the tables that stand before a place have their flags
pub record OrderFlagged (db : Db) (test : RowName → Bool) (order : List TableNo) (place : ℕ) (flags : Flags) : Type 0 where
  pub tables : length flags ≡ length db.schema.tables
  pub each : (at : ℕ) (table : TableNo) → at < place → slice_get order at ≡ Some table → AreFlagsOfTable db test table.0 (get_or flags table.0 [])

module _ (db : Db) (test : RowName → Bool) (order : List TableNo) (graph : IsGraphOrder (length db.schema.tables) db.schema.edges order) where
  pub OrderFlagged-none : (flags : Flags) → length flags ≡ length db.schema.tables → OrderFlagged db test order 0 flags
  OrderFlagged-none flags same = record { tables = same; each = λ at table before is. absurd (omega arith) }

  -- so the tables above the next one have theirs
  pub OrderFlagged-above : (place : ℕ) (flags : Flags) (table : TableNo) → OrderFlagged db test order place flags → slice_get order place ≡ Some table
      → (edge : Edge) → Contains (filter (λ edge. edge.lower.0 == table.0) db.schema.edges) edge → AreFlagsOfTable db test edge.upper.0 (get_or flags edge.upper.0 [])
  OrderFlagged-above place flags table so_far is edge among =
      let (at, before, upper) = order_before (length db.schema.tables) db.schema.edges order graph edge place table among is in
      so_far.each at edge.upper before upper

  -- with that one's they are one more
  pub OrderFlagged-more : (place : ℕ) (flags : Flags) (table : TableNo) (own : List Bool) → OrderFlagged db test order place flags → slice_get order place ≡ Some table
      → AreFlagsOfTable db test table.0 own → OrderFlagged db test order (place + 1) (set flags table.0 own)
  OrderFlagged-more place flags table own so_far is are =
      record {
        tables = length-set flags table.0 own ∙ so_far.tables;
        each = λ at other before found.
            elim (cases_eq other.0 table.0) [
              | inl same ↦
                  let within : table.0 < length flags = omega (arith, order_within (length db.schema.tables) db.schema.edges order graph place table is, so_far.tables) in
                  let stands : get_or (set flags table.0 own) other.0 [] ≡ own = ap (λ n. get_or (set flags table.0 own) n []) same ∙ get_or-set_same flags table.0 own [] within in
                  subst (λ list. AreFlagsOfTable db test other.0 list) (sym stands) (subst (λ n. AreFlagsOfTable db test n own) (sym same) are)
              | inr differ ↦
                  let earlier : at < place = elim (cases_lt at place) [
                    | inl less ↦ less
                    | inr not_less ↦
                        let here : at ≡ place = omega arith in
                        let one : ◌≡◌ {A = Option TableNo} (Some other) (Some table) = sym found ∙ (ap (slice_get order) here ∙ is) in
                        absurd (differ (ap (λ (t : TableNo). t.0) (same_Some other table one)))
                  ] in
                  subst (λ list. AreFlagsOfTable db test other.0 list) (sym (get_or-set_other flags table.0 other.0 own [] differ)) (so_far.each at other earlier found)
            ];
      }

  -- at the end each table has them
  pub OrderFlagged-end : (place : ℕ) (flags : Flags) → OrderFlagged db test order place flags → length order ≤ place → AreFlagsOf db test flags
  OrderFlagged-end place flags so_far all =
      record {
        each = λ table. record {
          at = λ row_place definition row table_is row_is.
              let number : TableNo = record { 0 = table } in
              let (at, found) = order_has (length db.schema.tables) db.schema.edges order graph number (place-lt db.schema.tables table definition table_is) in
              (so_far.each at number (omega (arith, place-lt order at number found)) found).at row_place definition row table_is row_is;
        };
      }
