-- The items of an INSERT name the key of each tuple.
use Rattle.std.proofs.Common.{◌≡◌, List, [], ◌∷◌, fold, refl}
use Rattle.std.specs.declared.cmp.Ordering.{Ordering}
use Rattle.std.specs.declared.cmp.Ordering.TheVariants.{Less, Equal, Greater}
use Rattle.std.specs.List.{AllByRecursion as Each}
use Rattle.own_base.specs.Key.{key_cmp}
use Rattle.own_base.specs.declared.value.Key.{Key}
use Rattle.own_model.specs.declared.schema.TableDef.{TableDef}
use Rattle.own_model.specs.Db.{Row, key_of}
use Rattle.query_model.specs.Footprints.{at_first, with_key}

-- what tied keys share
module _ (P : Key → Type 0) (shared : (key other : Key) → key_cmp key other ≡ Equal → P other → P key) where
  by_place : (new first : Key) (rest : List Key) → (Each P (with_key new rest) → P new × Each P rest)
      → (o : Ordering) → key_cmp new first ≡ o → Each P (at_first o new first rest (with_key new rest)) → P new × Each P (first ∷ rest)
  by_place new first rest more Less is all = (all.0, all.1)
  by_place new first rest more Equal is all = (shared new first is all.0, all)
  by_place new first rest more Greater is all = let both = more all.1 in (both.0, (all.0, both.1))

  -- what holds of the keys with one more holds of it and of them
  each-with_key : (new : Key) (keys : List Key) → Each P (with_key new keys) → P new × Each P keys
  each-with_key new [] all = (all.0, tt)
  each-with_key new (first ∷ rest) all = by_place new first rest (each-with_key new rest) _ refl all

  keys_fold : (table : TableDef) (keys : List Key) (rows : List Row) → Each P (fold (λ keys row. with_key (key_of table row) keys) keys rows)
      → Each P keys × Each (λ row. P (key_of table row)) rows
  keys_fold table keys [] all = (all, tt)
  keys_fold table keys (row ∷ rows) all =
      let both = keys_fold table (with_key (key_of table row) keys) rows all in
      let own = each-with_key (key_of table row) keys both.0 in
      (own.1, (own.0, both.1))

  -- what holds of the keys of rows holds of the key of each
  pub each_row : (table : TableDef) (rows : List Row) → Each P (fold (λ keys row. with_key (key_of table row) keys) [] rows) → Each (λ row. P (key_of table row)) rows
  each_row table rows all = (keys_fold table [] rows all).1
