-- What the code finds that a row weighs.
use Rattle.std.proofs.Common.{◌≡◌, ℕ, ◌+◌, ◌*◌, ◌-◌, ◌≤◌, List, length, sym, ap, ◌∙◌, arith}
use Rattle.std.specs.Prelude.{Option, None, Some, find, map}
use Rattle.std.specs.Option.{option_and_then, option_map_or}
use Rattle.std.proofs.lemmas.List.{length-map}
use Rattle.std.proofs.lemmas.Option.{slice_get_past}
use Rattle.own_base.specs.Row.{row_size}
use Rattle.own_base.specs.declared.row_name.RowName.{RowName}
use Rattle.own_base.specs.declared.row_name.Subject.{Subject}
use Rattle.own_model.specs.declared.schema.TableDef.{TableDef}
use Rattle.own_model.specs.Db.{Db, Row}
use Rattle.own_model.specs.Stored.{has_key, row_named, rows_at}
use Rattle.owner_model.specs.Joins.{row_of}
use Rattle.subject_model.specs.Named.{NamedRow}
use Rattle.subject_model.specs.Owners.{owners, reach}
use Rattle.state_model.specs.Weight.{at_least_one, row_weight}
use Rattle.commit_check.specs.Saturated.{saturated}
use Rattle.commit_check.proofs.WeightLemmas.{row_weight-counted}
use Rattle.link_model.specs.Whose.{as_subject}
use Rattle.change_weight.specs.Shown.{all_shown}
use Rattle.change_weight.specs.WeightAt.{weight_at, whole_weight}

module _ (db : Db) (name : RowName) where
  abbrev weighs : Option Row → ℕ
  weighs found = option_map_or (λ row. whole_weight db (record { name = name; row = row })) found 0

  -- no row weighs nothing
  pub none_weighs : None ≡ row_of db name → 0 ≡ saturated (weight_at db name)
  unfolding weight_at
  none_weighs is = ap (λ found. saturated (weighs found)) is

  no_table : length db.schema.tables ≤ name.table.0 → None ≡ row_of db name
  unfolding row_named
  no_table past = ap (λ (found : Option TableDef). option_and_then (λ table. find (has_key table name.key) (rows_at db.rows name.table.0)) found) (sym (slice_get_past db.schema.tables name.table.0 past))

  -- nor does one of no table
  pub past_weighs : length db.schema.tables ≤ name.table.0 → 0 ≡ saturated (weight_at db name)
  past_weighs past = none_weighs (no_table past)

  -- as many subjects as names
  counted : (found : List Subject) (names : List RowName) → found ≡ map as_subject names → length found ≡ length names
  counted found names is = ap length is ∙ length-map names as_subject

  -- a row weighs what is counted of it
  pub row_weighs : (row : Row) (size owned shown total : ℕ) (own all : List Subject) → Some row ≡ row_of db name → size ≡ saturated (row_size row) → own ≡ map as_subject (owners db name) → all ≡ map as_subject (reach db name)
      → owned ≡ saturated (size * at_least_one (length own) + 64 * (length all - length own)) → shown ≡ saturated (all_shown db.schema name.table.0 row) → total ≡ saturated (owned + shown)
      → total ≡ saturated (weight_at db name)
  unfolding weight_at
  row_weighs row size owned shown total own all is sized owns reaches weighed shows sums =
      let named : NamedRow = record { name = name; row = row } in
      let found : weighs (row_of db name) ≡ row_weight db named + all_shown db.schema name.table.0 row = ap weighs (sym is) in
      let counts : owned ≡ saturated (row_weight db named) = weighed ∙ row_weight-counted db named size (length own) (length all) sized (counted own (owners db name) owns) (counted all (reach db name) reaches) in
      let sum : total ≡ saturated (row_weight db named + all_shown db.schema name.table.0 row) = omega (arith, counts, shows, sums) in
      sum ∙ ap saturated (sym found)
