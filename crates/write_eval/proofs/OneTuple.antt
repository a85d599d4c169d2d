-- An INSERT of one tuple.
use Rattle.std.proofs.Common.{◌≡◌, List, [], ◌∷◌, Bool, true, false, refl, sym, ap, ◌∙◌}
use Rattle.std.specs.Prelude.{Ok, Err, if◌then◌else◌, is_some}
use Rattle.own_base.specs.declared.number.TableNo.{TableNo}
use Rattle.own_base.specs.declared.value.Key.{Key}
use Rattle.own_model.specs.declared.schema.Schema.{Schema}
use Rattle.own_model.specs.declared.schema.TableDef.{TableDef}
use Rattle.own_model.specs.Db.{Row, key_of}
use Rattle.own_model.specs.Stored.{row_named}
use Rattle.write_eval.specs.Insertions.{come_unless, give, given_tuples, insertion}

module _ (schema : Schema) (rows : List (List Row)) (number : TableNo) (table : TableDef) (tuple : Row) where
  -- it comes, unless a row has its key
  by_row : (b : Bool) → is_some (row_named schema rows (record { table = number; key = key_of table tuple })) ≡ b
      → come_unless number (given_tuples schema rows number table (tuple ∷ [])) ≡ (if b then Err (key_of table tuple) else Ok (insertion number (key_of table tuple, tuple) ∷ []))
  unfolding given_tuples give
  by_row true is = rw is refl
  by_row false is = rw is refl

  named : (key : Key) → key ≡ key_of table tuple → (b : Bool) → is_some (row_named schema rows (record { table = number; key = key })) ≡ b → is_some (row_named schema rows (record { table = number; key = key_of table tuple })) ≡ b
  named key same b is = ap (λ (k : Key). is_some (row_named schema rows (record { table = number; key = k }))) (sym same) ∙ is

  pub one_taken : (key : Key) → key ≡ key_of table tuple → is_some (row_named schema rows (record { table = number; key = key })) ≡ true → Err key ≡ come_unless number (given_tuples schema rows number table (tuple ∷ []))
  one_taken key same taken = ap Err same ∙ sym (by_row true (named key same true taken))

  pub one_free : (key : Key) (row : Row) → key ≡ key_of table tuple → row ≡ tuple → is_some (row_named schema rows (record { table = number; key = key })) ≡ false
      → Ok (insertion number (key, row) ∷ []) ≡ come_unless number (given_tuples schema rows number table (tuple ∷ []))
  one_free key row same row_is free =
      ap (λ (k : Key). Ok (insertion number (k, row) ∷ [])) same ∙ (ap (λ (r : Row). Ok (insertion number (key_of table tuple, r) ∷ [])) row_is ∙ sym (by_row false (named key same false free)))
