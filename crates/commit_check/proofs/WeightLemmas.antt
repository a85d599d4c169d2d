-- What rows weigh, counted table by table.
use Rattle.std.proofs.Common.{◌≡◌, ℕ, ◌+◌, ◌*◌, ◌-◌, ◌≤◌, List, [], ◌∷◌, ◌++◌, drop, length, get_or, inl, inr, refl, sym, ap, ◌∙◌, arith}
use Rattle.std.specs.Prelude.{Some, slice_get, sum_by}
use Rattle.std.proofs.lemmas.List.{drop_all, get_or_past}
use Rattle.std.proofs.lemmas.List.Sums.{sum_by-append}
use Rattle.std.proofs.lemmas.Option.{get_or_from_slice_get, slice_get_cases}
use Rattle.own_base.specs.Row.{row_size}
use Rattle.own_base.specs.declared.row_name.RowName.{RowName}
use Rattle.own_base.specs.declared.number.TableNo.{TableNo}
use Rattle.own_model.specs.declared.bound.Source1.TheVariants.{Table}
use Rattle.own_model.specs.declared.schema.TableDef.{TableDef}
use Rattle.own_model.specs.declared.schema.ViewDef.{ViewDef}
use Rattle.own_model.specs.Db.{Db, Row}
use Rattle.own_model.specs.Stored.{rows_at}
use Rattle.subject_model.specs.Named.{NamedRow, named_rows, rows_from, rows_in}
use Rattle.subject_model.specs.Owners.{owners, reach}
use Rattle.state_model.specs.Weight.{at_least_one, row_weight, seers, view_weight}
use Rattle.state_model.proofs.OwnerCounts.{seers-owners}
use Rattle.commit_check.specs.Saturated.{saturated}
use Rattle.commit_check.proofs.SaturatedLemmas.{saturated-add, saturated-mul}
use Rattle.subject_model.proofs.TableByTable.{from-table}

-- those that reach a row and don't own it are as many as reach it, less its owners
seers-less : (db : Db) (name : RowName) → seers db name ≡ length (reach db name) - length (owners db name)
unfolding reach
seers-less db name = let all = seers-owners db name in omega arith

-- a row's weight, by its size as far as 64 bits tell it
pub row_weight-counted : (db : Db) (named : NamedRow) (size owned reached : ℕ) → size ≡ saturated (row_size named.row) → owned ≡ length (owners db named.name) → reached ≡ length (reach db named.name)
    → saturated (size * at_least_one owned + 64 * (reached - owned)) ≡ saturated (row_weight db named)
row_weight-counted db named size owned reached is own all =
    let count = at_least_one owned in
    let seen : reached - owned ≡ seers db named.name = let less = seers-less db named.name in omega arith in
    let product : saturated (size * count) ≡ saturated (row_size named.row * count) = ap (λ n. saturated (n * count)) is ∙ saturated-mul (row_size named.row) count in
    let sum : saturated (size * count + 64 * (reached - owned)) ≡ saturated (row_size named.row * count + 64 * (reached - owned)) =
    sym (saturated-add (size * count) (64 * (reached - owned))) ∙ (ap (λ n. saturated (n + 64 * (reached - owned))) product ∙ saturated-add (row_size named.row * count) (64 * (reached - owned))) in
    sum ∙ (ap (λ n. saturated (row_size named.row * count + 64 * n)) seen ∙ ap (λ n. saturated (row_size named.row * at_least_one n + 64 * seers db named.name)) own)

-- a view over a table that isn't there weighs nothing
pub view-absent : (db : Db) (view : ViewDef) (table : TableNo) → view.query.source ≡ Table table → length db.rows ≤ table.0 → 0 ≡ saturated (view_weight db view)
view-absent db view table is past = rw (is, get_or_past db.rows table.0 [] past) refl

-- the tables before a number are counted: with what is left they weigh what all do
pub record WeighedTo (db : Db) (number total : ℕ) : Type 0 where
  pub within : total ≡ saturated total
  pub rest : saturated (total + sum_by (row_weight db) (rows_from number (drop number db.schema.tables) (drop number db.rows))) ≡ saturated (sum_by (row_weight db) (named_rows db))

module _ (db : Db) where
  pub weighed-start : WeighedTo db 0 0
  weighed-start = record { within = refl; rest = let own = sum_by (row_weight db) (named_rows db) in ap saturated (omega arith) }

  pub weighed-more : (number total : ℕ) (table : TableDef) (weight : ℕ) → WeighedTo db number total → slice_get db.schema.tables number ≡ Some table
      → weight ≡ saturated (sum_by (row_weight db) (rows_in number table (rows_at db.rows number))) → WeighedTo db (number + 1) (saturated (total + weight))
  weighed-more number total table weight before is weighs = record {
    within = omega arith;
    rest =
        let own = sum_by (row_weight db) (rows_in number table (rows_at db.rows number)) in
        let left = sum_by (row_weight db) (rows_from (number + 1) (drop (number + 1) db.schema.tables) (drop (number + 1) db.rows)) in
        let both : sum_by (row_weight db) (rows_from number (drop number db.schema.tables) (drop number db.rows)) ≡ own + left =
        ap (sum_by (row_weight db)) (from-table number table db.schema.tables db.rows is) ∙ sum_by-append (row_weight db) (rows_in number table (rows_at db.rows number)) (rows_from (number + 1) (drop (number + 1) db.schema.tables) (drop (number + 1) db.rows)) in
        let whole = before.rest in
        let here : weight ≡ saturated own = weighs in
        let counted : saturated (saturated (total + weight) + left) ≡ saturated (total + (own + left)) = omega arith in
        counted ∙ (ap (λ n. saturated (total + n)) (sym both) ∙ whole);
  }

  pub weighed-end : (number total : ℕ) → WeighedTo db number total → length db.schema.tables ≤ number → total ≡ saturated (sum_by (row_weight db) (named_rows db))
  unfolding rows_from
  weighed-end number total before past =
      let none : sum_by (row_weight db) (rows_from number (drop number db.schema.tables) (drop number db.rows)) ≡ 0 =
      ap (λ left. sum_by (row_weight db) (rows_from number left (drop number db.rows))) (drop_all number db.schema.tables past) in
      before.within ∙ (ap saturated (omega arith) ∙ before.rest)
