-- Rows in key order are told by what each key finds among them.
use Rattle.std.proofs.Common.{◌≡◌, List, [], ◌∷◌, map, Bool, true, false, refl, ap, sym, subst, ◌∙◌}
use Rattle.std.specs.Prelude.{None, Some, find}
use Rattle.std.specs.List.{AllByRecursion}
use Rattle.std.specs.List.Sorted.{IsStrictlySortedBy}
use Rattle.std.specs.declared.cmp.Ordering.{Ordering}
use Rattle.std.specs.declared.cmp.Ordering.TheVariants.{Less, Equal, Greater}
use Rattle.std.specs.Ordering.{ordering_reverse}
use Rattle.std.proofs.lemmas.Cmp.{tied_itself}
use Rattle.own_base.specs.Key.{key_cmp}
use Rattle.own_base.specs.declared.value.Key.{Key}
use Rattle.own_model.specs.declared.schema.TableDef.{TableDef}
use Rattle.own_model.specs.Db.{IsRising, Row, key_of}
use Rattle.own_model.specs.Stored.{has_key, is_equal}
use Rattle.own_model.proofs.KeyOrder.{key_order}
use Rattle.schema_model.proofs.Places.{all-weaker}
use Rattle.subject_model.proofs.NamedLemmas.{equal_is}

module _ (table : TableDef) where
  -- no row behind a key has it
  none_behind : (key : Key) (rows : List Row) → AllByRecursion (λ later. key_cmp key later ≡ Less) (map (key_of table) rows) → find (has_key table key) rows ≡ None
  none_behind key [] behind = refl
  none_behind key (row ∷ rows) behind =
      let greater : key_cmp (key_of table row) key ≡ Greater = key_order.antisymm (key_of table row) key ∙ ap ordering_reverse behind.0 in
      let other : has_key table key row ≡ false = ap is_equal greater in
      rw other (none_behind key rows behind.1)

  -- the first row has its own key
  finds_first : (row : Row) (rows : List Row) → find (has_key table (key_of table row)) (row ∷ rows) ≡ Some row
  finds_first row rows = let own : has_key table (key_of table row) row ≡ true = ap is_equal (tied_itself key_order (key_of table row)) in rw own refl

  -- a lesser key finds nothing
  none_lesser : (key : Key) (row : Row) (rows : List Row) → IsRising table (row ∷ rows) → key_cmp key (key_of table row) ≡ Less
      → find (has_key table key) (row ∷ rows) ≡ None
  unfolding IsStrictlySortedBy
  none_lesser key row rows rising less =
      none_behind key (row ∷ rows) (
        less,
        all-weaker (λ later. key_cmp (key_of table row) later ≡ Less) (λ later. key_cmp key later ≡ Less) (λ later behind. key_order.trans key (key_of table row) later less behind)
            (map (key_of table) rows) rising.0,
      )

  -- nor does the first row's key behind it
  none_later : (key : Key) (row : Row) (rows : List Row) → IsRising table (row ∷ rows) → key_cmp (key_of table row) key ≡ Equal → find (has_key table key) rows ≡ None
  unfolding IsStrictlySortedBy
  none_later key row rows rising equal =
      none_behind key rows
      (all-weaker (λ later. key_cmp (key_of table row) later ≡ Less) (λ later. key_cmp key later ≡ Less)
      (λ later behind. sym (key_order.congr (key_of table row) key later equal) ∙ behind) (map (key_of table) rows) rising.0)

  abbrev AreFoundAlike : List Row → List Row → Type 0
  AreFoundAlike rows others = (key : Key) → find (has_key table key) rows ≡ find (has_key table key) others

  first_same : (row other : Row) (rows others : List Row) → IsRising table (row ∷ rows) → IsRising table (other ∷ others) → AreFoundAlike (row ∷ rows) (other ∷ others)
      → (o : Ordering) → key_cmp (key_of table row) (key_of table other) ≡ o → (row ≡ other) × (key_cmp (key_of table row) (key_of table other) ≡ Equal)
  first_same row other rows others rising rising_other alike Less is =
      let never : Some row ≡ None = sym (finds_first row rows) ∙ (alike (key_of table row) ∙ none_lesser (key_of table row) other others rising_other is) in absurd (cc)
  first_same row other rows others rising rising_other alike Greater is =
      let less : key_cmp (key_of table other) (key_of table row) ≡ Less = key_order.antisymm (key_of table other) (key_of table row) ∙ ap ordering_reverse is in
      let never : None ≡ Some other = sym (none_lesser (key_of table other) row rows rising less) ∙ (alike (key_of table other) ∙ finds_first other others) in absurd (cc)
  first_same row other rows others rising rising_other alike Equal is =
      let own : has_key table (key_of table other) row ≡ true = ap is_equal is in
      let found : find (has_key table (key_of table other)) (row ∷ rows) ≡ Some row = rw own refl in
      let both : Some row ≡ Some other = sym found ∙ (alike (key_of table other) ∙ finds_first other others) in (cc, is)

  rest_same : (row other : Row) (rows others : List Row) → IsRising table (row ∷ rows) → IsRising table (other ∷ others) → row ≡ other
      → AreFoundAlike (row ∷ rows) (other ∷ others) → AreFoundAlike rows others
  rest_same row other rows others rising rising_other same alike key = by _ refl
    where
      by : (b : Bool) → has_key table key row ≡ b → find (has_key table key) rows ≡ find (has_key table key) others
      by true has =
          let equal = equal_is _ has in
          let equal_other : key_cmp (key_of table other) key ≡ Equal = subst (λ row. key_cmp (key_of table row) key ≡ Equal) same equal in
          none_later key row rows rising equal ∙ sym (none_later key other others rising_other equal_other)
      by false has =
          let has_other : has_key table key other ≡ false = subst (λ row. has_key table key row ≡ false) same has in
          let left : find (has_key table key) (row ∷ rows) ≡ find (has_key table key) rows = rw has refl in
          let right : find (has_key table key) (other ∷ others) ≡ find (has_key table key) others = rw has_other refl in
          sym left ∙ (alike key ∙ right)

  -- two lists of rows that rise, in which each key finds the same, are one
  pub rows_by_key : (rows others : List Row) → IsRising table rows → IsRising table others
      → ((key : Key) → find (has_key table key) rows ≡ find (has_key table key) others) → rows ≡ others
  unfolding IsStrictlySortedBy
  rows_by_key [] [] rising rising_other alike = refl
  rows_by_key [] (other ∷ others) rising rising_other alike =
      let never : None ≡ Some other = alike (key_of table other) ∙ finds_first other others in absurd (cc)
  rows_by_key (row ∷ rows) [] rising rising_other alike =
      let never : Some row ≡ None = sym (finds_first row rows) ∙ alike (key_of table row) in absurd (cc)
  rows_by_key (row ∷ rows) (other ∷ others) rising rising_other alike =
      let first = first_same row other rows others rising rising_other alike _ refl in
      let rest = rows_by_key rows others rising.1 rising_other.1 (rest_same row other rows others rising rising_other first.0 alike) in
      ap (λ row. row ∷ rows) first.0 ∙ ap (λ rows. other ∷ rows) rest
