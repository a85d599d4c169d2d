-- Flags, row by row and table by table.
use Rattle.std.proofs.Common.{◌≡◌, ℕ, ◌+◌, ◌<◌, ◌≤◌, List, [], ◌∷◌, ◌++◌, length, Bool, true, false, get_or, inl, inr, refl, ap, sym, ◌∙◌, subst, arith, length-append}
use Rattle.std.specs.Prelude.{◌↔◌, Some, slice_get}
use Rattle.std.proofs.Math.ListN.{get_or-append}
use Rattle.std.proofs.Math.Seq.{get_or-append_seam}
use Rattle.std.proofs.lemmas.Bool.{cases_lt}
use Rattle.own_base.specs.declared.row_name.RowName.{RowName}
use Rattle.own_model.specs.declared.schema.TableDef.{TableDef}
use Rattle.own_model.specs.Db.{Db, Row}
use Rattle.own_model.specs.Stored.{rows_at}
use Rattle.schema_model.proofs.Places.{place-lt}
use Rattle.subject_model.specs.Named.{name_of}
use Rattle.subject_erase.specs.Flags.{AreFlagsOf, AreFlagsOfTable, Flags}

-- two tests are one where each passes what the other does
pub same_test : (one other : Bool) → (one ≡ true) ↔ (other ≡ true) → one ≡ other
same_test true other same = sym (same.0 refl)
same_test false true same = same.1 refl
same_test false false same = refl

module _ (db : Db) (test : RowName → Bool) (table : ℕ) where
  -- the rows before a place have their flags
  pub record RowsFlagged (place : ℕ) (flags : List Bool) : Type 0 where
    pub many : length flags ≡ place
    pub each : (at : ℕ) (definition : TableDef) (row : Row) → at < place → slice_get db.schema.tables table ≡ Some definition → slice_get (rows_at db.rows table) at ≡ Some row
        → get_or flags at false ≡ test (name_of table definition row)

  pub RowsFlagged-none : RowsFlagged 0 []
  RowsFlagged-none = record { many = refl; each = λ at definition row before. absurd (omega arith) }

  -- one row more
  pub RowsFlagged-more : (place : ℕ) (flags : List Bool) (flag : Bool) → RowsFlagged place flags
      → ((definition : TableDef) (row : Row) → slice_get db.schema.tables table ≡ Some definition → slice_get (rows_at db.rows table) place ≡ Some row → flag ≡ test (name_of table definition row))
      → RowsFlagged (place + 1) (flags ++ flag ∷ [])
  RowsFlagged-more place flags flag so_far own =
      record {
        many = omega (arith, length-append flags (flag ∷ []), so_far.many);
        each = λ at definition row before table_is row_is.
            elim (cases_lt at place) [
              | inl earlier ↦ get_or-append flags (flag ∷ []) false at (omega (arith, so_far.many)) ∙ so_far.each at definition row earlier table_is row_is
              | inr later ↦
                  let here : at ≡ length flags = omega (arith, so_far.many) in
                  let same : at ≡ place = omega arith in
                  ap (λ n. get_or (flags ++ flag ∷ []) n false) here
                  ∙ (get_or-append_seam flags flag [] false ∙ own definition row table_is (ap (slice_get (rows_at db.rows table)) (sym same) ∙ row_is))
            ];
      }

  -- and all of them
  pub RowsFlagged-end : (place : ℕ) (flags : List Bool) → RowsFlagged place flags → length (rows_at db.rows table) ≤ place → AreFlagsOfTable db test table flags
  RowsFlagged-end place flags so_far all =
      record { at = λ at definition row table_is row_is. so_far.each at definition row (omega (arith, place-lt (rows_at db.rows table) at row row_is)) table_is row_is }

module _ (db : Db) (test : RowName → Bool) where
  -- the tables before a number have their flags
  pub record TablesFlagged (number : ℕ) (flags : Flags) : Type 0 where
    pub many : length flags ≡ number
    pub each : (table : ℕ) → table < number → AreFlagsOfTable db test table (get_or flags table [])

  pub TablesFlagged-none : TablesFlagged 0 []
  TablesFlagged-none = record { many = refl; each = λ table before. absurd (omega arith) }

  -- one table more
  pub TablesFlagged-more : (number : ℕ) (flags : Flags) (own : List Bool) → TablesFlagged number flags → AreFlagsOfTable db test number own → TablesFlagged (number + 1) (flags ++ own ∷ [])
  TablesFlagged-more number flags own so_far are =
      record {
        many = omega (arith, length-append flags (own ∷ []), so_far.many);
        each = λ table before.
            elim (cases_lt table number) [
              | inl earlier ↦ subst (AreFlagsOfTable db test table) (sym (get_or-append flags (own ∷ []) [] table (omega (arith, so_far.many)))) (so_far.each table earlier)
              | inr later ↦
                  let here : length flags ≡ table = omega (arith, so_far.many) in
                  let same : number ≡ table = omega arith in
                  let stands : own ≡ get_or (flags ++ own ∷ []) table [] = sym (get_or-append_seam flags own [] []) ∙ ap (λ n. get_or (flags ++ own ∷ []) n []) here in
                  subst (AreFlagsOfTable db test table) stands (subst (λ n. AreFlagsOfTable db test n own) same are)
            ];
      }

  -- and all of them
  pub TablesFlagged-end : (number : ℕ) (flags : Flags) → TablesFlagged number flags → length db.schema.tables ≤ number → AreFlagsOf db test flags
  TablesFlagged-end number flags so_far all =
      record {
        each = λ table. record {
          at = λ place definition row table_is row_is.
              (so_far.each table (omega (arith, place-lt db.schema.tables table definition table_is))).at place definition row table_is row_is;
        };
      }
