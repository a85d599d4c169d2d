-- What a database weighs, by the names of its rows.
use Rattle.std.proofs.Common.{◌≡◌, ℕ, ◌+◌, List, map, true, false, not, refl, sym, ap, ◌∙◌, arith}
use Rattle.std.specs.Prelude.{Contains, Option, None, Some, filter, is_some, sum_by}
use Rattle.std.specs.Option.{option_map_or}
use Rattle.std.specs.List.Sorted.{IsStrictlySortedBy}
use Rattle.std.proofs.lemmas.Bool.{not-true}
use Rattle.std.proofs.lemmas.List.Kept.{IsStrictlySortedBy-filter}
use Rattle.own_base.specs.declared.row_name.RowName.{RowName}
use Rattle.own_model.specs.Db.{Db, IsOrdered, Row}
use Rattle.owner_model.specs.Joins.{row_of}
use Rattle.subject_model.specs.NameOrder.{name_cmp}
use Rattle.subject_model.specs.Named.{NamedRow, is_there, named_rows}
use Rattle.subject_model.proofs.Members.{contains_filter, contains_map, contains_of_filter, contains_of_map}
use Rattle.subject_model.proofs.NamedLemmas.{named-there, row_of-named, there-named}
use Rattle.subject_model.proofs.NameOrderLemmas.{named_rows_rise}
use Rattle.subject_model.proofs.RisingNames.{name_order, same_rising}
use Rattle.state_model.specs.Weight.{row_weight, weight}
use Rattle.state_model.proofs.Counts.{sum_by-map}
use Rattle.move_model.proofs.StandingLemmas.{contains_listed, is_listed, listed_contains}
use Rattle.change_weight.specs.Shown.{all_shown}
use Rattle.change_weight.specs.WeightAt.{names_weight, weight_at, whole_weight}
use Rattle.change_weight.proofs.Sums.{split_sum, sum_by-both, sum_by-none, sum_by-same}
use Rattle.change_weight.proofs.ViewSums.{views_sum}

abbrev called : NamedRow → RowName
called named = named.name

-- the names of the rows that are there
abbrev pub names_in : Db → List RowName
names_in db = map called (named_rows db)

-- and those that aren't among some
abbrev pub others_in : Db → List RowName → List RowName
others_in db names = filter (λ name. not (is_listed name names)) (names_in db)

none_weighs : (f : Row → ℕ) (found : Option Row) → is_some found ≡ false → option_map_or f found 0 ≡ 0
none_weighs f None is = refl
none_weighs f (Some row) is = let never : true ≡ false = is in cc

-- a name of no row weighs nothing
pub absent_weighs : (db : Db) (name : RowName) → is_there db name ≡ false → weight_at db name ≡ 0
unfolding weight_at
absent_weighs db name absent = none_weighs (λ row. whole_weight db (record { name = name; row = row })) (row_of db name) absent

module _ (db : Db) (ordered : IsOrdered db) where
  -- the name of a row weighs what the row does
  named_weighs : (named : NamedRow) → Contains (named_rows db) named → weight_at db named.name ≡ whole_weight db named
  unfolding weight_at
  named_weighs named among = ap (λ (found : Option Row). option_map_or (λ row. whole_weight db (record { name = named.name; row = row })) found 0) (row_of-named db named ordered among)

  -- so a database weighs what the names of its rows do
  by_names : weight db ≡ sum_by (weight_at db) (names_in db)
  unfolding weight
  by_names =
      let views = views_sum db ordered db.schema.views in
      let both = sum_by-both (row_weight db) (λ (named : NamedRow). all_shown db.schema named.name.table.0 named.row) (whole_weight db) (λ named. refl) (named_rows db) in
      let names = sum_by-map (weight_at db) called (named_rows db) in
      let same = sum_by-same (λ (named : NamedRow). weight_at db named.name) (whole_weight db) (named_rows db) named_weighs in
      omega arith

  there_name : (name : RowName) → is_there db name ≡ true → Contains (names_in db) name
  there_name name there =
      let (row, among) = named-there db name ordered there in
      let named : NamedRow = record { name = name; row = row } in
      contains_map called (named_rows db) named among

  name_there : (name : RowName) → Contains (names_in db) name → is_there db name ≡ true
  name_there name among =
      let (named, at, is) = contains_of_map called (named_rows db) name among in
      sym (ap (is_there db) is) ∙ there-named db named ordered at

  -- of some names, those of rows are the names of the rows that are among them
  listed_there : (names : List RowName) → IsStrictlySortedBy name_cmp names → filter (is_there db) names ≡ filter (λ name. is_listed name names) (names_in db)
  listed_there names rise =
      same_rising name_order _ _ (IsStrictlySortedBy-filter name_cmp (is_there db) names rise) (IsStrictlySortedBy-filter name_cmp (λ name. is_listed name names) (names_in db) (named_rows_rise db ordered))
      (λ name. (
        (λ among.
            let has = contains_of_filter (is_there db) names name among in
            contains_filter (λ name. is_listed name names) (names_in db) name (there_name name has.1) (contains_listed name names has.0)),
        (λ among.
            let has = contains_of_filter (λ name. is_listed name names) (names_in db) name among in
            contains_filter (is_there db) names name (listed_contains name names has.1) (name_there name has.0)),
      ))

  -- A database weighs what some names do, and those of all other rows.
  pub split_weight : (names : List RowName) → IsStrictlySortedBy name_cmp names → weight db ≡ names_weight db names + sum_by (weight_at db) (others_in db names)
  split_weight names rise =
      let whole = by_names in
      let parts = split_sum (weight_at db) (λ name. is_listed name names) (names_in db) in
      let own = split_sum (weight_at db) (is_there db) names in
      let none = sum_by-none (weight_at db) (filter (λ name. not (is_there db name)) names)
      (λ name among. absent_weighs db name (not-true (is_there db name) (contains_of_filter (λ name. not (is_there db name)) names name among).1)) in
      let same = ap (sum_by (weight_at db)) (listed_there names rise) in
      omega arith

  -- the names of the other rows
  pub other_there : (names : List RowName) (name : RowName) → Contains (others_in db names) name → (is_there db name ≡ true) × (is_listed name names ≡ false)
  other_there names name among =
      let has = contains_of_filter (λ name. not (is_listed name names)) (names_in db) name among in
      (name_there name has.0, not-true (is_listed name names) has.1)

  pub there_other : (names : List RowName) (name : RowName) → is_there db name ≡ true → is_listed name names ≡ false → Contains (others_in db names) name
  there_other names name there other = contains_filter (λ name. not (is_listed name names)) (names_in db) name (there_name name there) (ap not other)

  pub others_rise : (names : List RowName) → IsStrictlySortedBy name_cmp (others_in db names)
  others_rise names = IsStrictlySortedBy-filter name_cmp (λ name. not (is_listed name names)) (names_in db) (named_rows_rise db ordered)
