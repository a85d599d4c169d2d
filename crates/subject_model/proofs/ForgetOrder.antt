-- The rows that a FORGET leaves are in key order.
use Rattle.std.proofs.Common.{◌≡◌, ℕ, suc, ◌+◌, List, [], ◌∷◌, map, Bool, true, false, cond, refl, ap, subst, arith}
use Rattle.std.specs.Prelude.{Some, filter, slice_get}
use Rattle.std.proofs.lemmas.List.Kept.{IsStrictlySortedBy-filter}
use Rattle.own_base.specs.Key.{key_cmp}
use Rattle.own_base.specs.declared.row_name.RowName.{RowName}
use Rattle.own_base.specs.declared.value.Key.{Key}
use Rattle.own_model.specs.declared.schema.TableDef.{TableDef}
use Rattle.own_model.specs.Db.{AreRising, Db, IsOrdered, IsRising, Row, key_of}
use Rattle.schema_model.specs.OwnerSchema.{IsOwnerSchema}
use Rattle.subject_model.specs.Forget.{forget, left_from, left_in}
use Rattle.subject_model.specs.Stays.{stays}
use Rattle.subject_model.proofs.ForgetKeys.{key_left}
use Rattle.subject_model.proofs.ForgetRows.{left_in-images, named_in, row_left, stays_in}

module _ (db : Db) (subject : RowName) (owner : IsOwnerSchema db.schema) where
  stays_key : ℕ → Key → Bool
  stays_key number key = stays db subject (record { table = record { 0 = number }; key = key })

  module _ (number : ℕ) (table : TableDef) (is : slice_get db.schema.tables number ≡ Some table) where
    -- the keys of the rows that are left are those keys that stay
    keys_left : (rows : List Row) → map (key_of table) (map (row_left db subject number table) (filter (stays_in db subject number table) rows)) ≡ filter (stays_key number) (map (key_of table) rows)
    unfolding stays_key
    keys_left [] = refl
    keys_left (first ∷ rows) = by (keys_left rows) (stays_in db subject number table first)
      where
        by : map (key_of table) (map (row_left db subject number table) (filter (stays_in db subject number table) rows)) ≡ filter (stays_key number) (map (key_of table) rows) → (stay : Bool)
            → map (key_of table) (map (row_left db subject number table) (cond stay (first ∷ filter (stays_in db subject number table) rows) (filter (stays_in db subject number table) rows)))
            ≡ cond stay (key_of table first ∷ filter (stays_key number) (map (key_of table) rows)) (filter (stays_key number) (map (key_of table) rows))
        by more true = rw more (ap (λ key. key ∷ filter (stays_key number) (map (key_of table) rows)) (key_left db subject table (named_in number table first) owner is))
        by more false = more

    -- so they rise
    pub rising-left_in : (rows : List Row) → IsRising table rows → IsRising table (left_in db subject number table rows)
    rising-left_in rows rising =
        rw (left_in-images db subject number table rows, keys_left rows) (IsStrictlySortedBy-filter key_cmp (stays_key number) (map (key_of table) rows) rising)

  rising-left : (number : ℕ) (tables : List TableDef) (rows : List (List Row)) → ((place : ℕ) (table : TableDef) → slice_get tables place ≡ Some table → slice_get db.schema.tables (number + place) ≡ Some table)
      → AreRising tables rows → AreRising tables (left_from db subject number tables rows)
  unfolding left_from
  rising-left number [] [] same rising = tt
  rising-left number [] (one ∷ rows) same rising = absurd rising
  rising-left number (table ∷ tables) [] same rising = absurd rising
  rising-left number (table ∷ tables) (one ∷ rows) same rising =
      let n : number + 0 ≡ number = omega arith in
      let own : slice_get db.schema.tables number ≡ Some table = subst (λ n. slice_get db.schema.tables n ≡ Some table) n (same 0 table refl) in
      (rising-left_in number table own one rising.0, rising-left (number + 1) tables rows later rising.1)
    where
      later : (place : ℕ) (found : TableDef) → slice_get tables place ≡ Some found → slice_get db.schema.tables (number + 1 + place) ≡ Some found
      later place found is = let n : number + suc place ≡ number + 1 + place = omega arith in subst (λ n. slice_get db.schema.tables n ≡ Some found) n (same (suc place) found is)

  -- what a FORGET leaves is in key order
  pub ordered-forget : IsOrdered db → IsOrdered (forget db subject)
  unfolding forget
  ordered-forget ordered = record {
    rising = rising-left 0 db.schema.tables db.rows (λ place table is. let n : place ≡ 0 + place = omega arith in subst (λ n. slice_get db.schema.tables n ≡ Some table) n is) ordered.rising;
  }
