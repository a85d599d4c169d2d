-- The values of groups rise, and are those of the rows.
use Rattle.std.proofs.Common.{◌≡◌, ℕ, zero, suc, List, [], ◌∷◌, fold, inl, inr, refl, sym, ap, ◌∙◌, subst, arith}
use Rattle.std.specs.Prelude.{◌⊎◌, Contains, Some}
use Rattle.std.specs.List.{AllByRecursion}
use Rattle.std.specs.List.Sorted.{IsStrictlySortedBy}
use Rattle.std.specs.declared.cmp.Ordering.{Ordering}
use Rattle.std.specs.declared.cmp.Ordering.TheVariants.{Less, Equal, Greater}
use Rattle.std.specs.Ordering.{ordering_reverse}
use Rattle.std.proofs.lemmas.Cmp.{tied_itself}
use Rattle.own_base.specs.declared.number.ColNo.{ColNo}
use Rattle.own_base.specs.declared.value.Value.{Value}
use Rattle.own_model.specs.declared.bound.BoundItem.{BoundItem}
use Rattle.own_model.specs.Db.{Row}
use Rattle.query_model.specs.GroupRows.{AreGroupRows, IsOneOf, StandsIn}
use Rattle.query_model.specs.Order.{value_cmp}
use Rattle.query_model.specs.Query.{at_first, grouped, values_of, with_value}
use Rattle.query_model.specs.Truth.{cell}
use Rattle.query_model.proofs.ValueOrder.{value_order}

module _ {X : Type 0} where
  here : (x : X) (xs : List X) → Contains (x ∷ xs) x
  here x xs = (0, omega arith, refl)

  later : (first : X) (xs : List X) (x : X) → Contains xs x → Contains (first ∷ xs) x
  later first xs x (place, within, is) = (suc place, omega arith, is)

  which : (first : X) (xs : List X) (x : X) → Contains (first ∷ xs) x → (first ≡ x) ⊎ Contains xs x
  which first xs x (zero, within, is) = inl is
  which first xs x (suc place, within, is) = inr (place, omega arith, is)

  each_among : (P : X → Type 0) (xs : List X) → ((x : X) → Contains xs x → P x) → AllByRecursion P xs
  each_among P [] each = tt
  each_among P (first ∷ xs) each = (each first (here first xs), each_among P xs (λ x among. each x (later first xs x among)))

  each_weaker : (P Q : X → Type 0) → ((x : X) → P x → Q x) → (xs : List X) → AllByRecursion P xs → AllByRecursion Q xs
  each_weaker P Q gives [] all = tt
  each_weaker P Q gives (first ∷ rest) all = (gives first all.0, each_weaker P Q gives rest all.1)

-- what holds of a value and of each of some holds of each with the value among them
all_first : (P : Value → Type 0) (new first : Value) (rest : List Value) → P new → P first → AllByRecursion P rest → AllByRecursion P (with_value new rest)
    → (o : Ordering) → AllByRecursion P (at_first o new first rest (with_value new rest))
all_first P new first rest own one all more Less = (own, (one, all))
all_first P new first rest own one all more Equal = (one, all)
all_first P new first rest own one all more Greater = (one, more)

all-with_value : (P : Value → Type 0) (new : Value) (values : List Value) → P new → AllByRecursion P values → AllByRecursion P (with_value new values)
all-with_value P new [] own all = (own, tt)
all-with_value P new (first ∷ rest) own all = all_first P new first rest own all.0 all.1 (all-with_value P new rest own all.1) (value_cmp new first)

-- a value more among values that rise: they rise still
rising_first : (new first : Value) (rest : List Value) → IsStrictlySortedBy value_cmp (first ∷ rest) → IsStrictlySortedBy value_cmp (with_value new rest)
    → (o : Ordering) → value_cmp new first ≡ o → IsStrictlySortedBy value_cmp (at_first o new first rest (with_value new rest))
unfolding IsStrictlySortedBy
rising_first new first rest rising more Less is =
    ((is, each_weaker (λ own. value_cmp first own ≡ Less) (λ own. value_cmp new own ≡ Less) (λ own behind. value_order.trans new first own is behind) rest rising.0), rising)
rising_first new first rest rising more Equal is = rising
rising_first new first rest rising more Greater is =
    (all-with_value (λ own. value_cmp first own ≡ Less) new rest (value_order.antisymm first new ∙ ap ordering_reverse is) rising.0, more)

rising-with_value : (new : Value) (values : List Value) → IsStrictlySortedBy value_cmp values → IsStrictlySortedBy value_cmp (with_value new values)
unfolding IsStrictlySortedBy
rising-with_value new [] rising = (tt, tt)
rising-with_value new (first ∷ rest) rising = rising_first new first rest rising (rising-with_value new rest rising.1) _ refl

-- one of the later ones
one_later : (first value : Value) (values : List Value) → IsOneOf values value → IsOneOf (first ∷ values) value
one_later first value values one = record { other = one.other; among = later first values one.other one.among; equal = one.equal }

-- the value is one of them
own_first : (new first : Value) (rest : List Value) → IsOneOf (with_value new rest) new → (o : Ordering) → value_cmp new first ≡ o → IsOneOf (at_first o new first rest (with_value new rest)) new
own_first new first rest more Less is = record { other = new; among = here new (first ∷ rest); equal = tied_itself value_order new }
own_first new first rest more Equal is = record { other = first; among = here first rest; equal = is }
own_first new first rest more Greater is = one_later first new (with_value new rest) more

own-with_value : (new : Value) (values : List Value) → IsOneOf (with_value new values) new
own-with_value new [] = record { other = new; among = here new []; equal = tied_itself value_order new }
own-with_value new (first ∷ rest) = own_first new first rest (own-with_value new rest) _ refl

-- and so is what was one before
still_first : (new first value : Value) (rest : List Value) → IsOneOf (first ∷ rest) value → (IsOneOf rest value → IsOneOf (with_value new rest) value)
    → (o : Ordering) → IsOneOf (at_first o new first rest (with_value new rest)) value
still_first new first value rest one more Less = one_later new value (first ∷ rest) one
still_first new first value rest one more Equal = one
still_first new first value rest one more Greater = elim (which first rest one.other one.among) [
  | inl at ↦ record { other = first; among = here first (with_value new rest); equal = subst (λ other. value_cmp value other ≡ Equal) (sym at) one.equal }
  | inr behind ↦ one_later first value (with_value new rest) (more (record { other = one.other; among = behind; equal = one.equal }))
]

still-with_value : (new value : Value) (values : List Value) → IsOneOf values value → IsOneOf (with_value new values) value
still-with_value new value [] one = one_later new value [] one
still-with_value new value (first ∷ rest) one = still_first new first value rest one (still-with_value new value rest) (value_cmp new first)

module _ (column : ℕ) where
  -- the values of some rows, after others
  abbrev put : List Value → List Row → List Value
  put values rows = fold (λ values row. with_value (cell row column) values) values rows

  rising_put : (values : List Value) (rows : List Row) → IsStrictlySortedBy value_cmp values → IsStrictlySortedBy value_cmp (put values rows)
  rising_put values [] rising = rising
  rising_put values (row ∷ rows) rising = rising_put (with_value (cell row column) values) rows (rising-with_value (cell row column) values rising)

  all_put : (P : Value → Type 0) (values : List Value) (rows : List Row) → AllByRecursion P values → AllByRecursion (λ row. P (cell row column)) rows → AllByRecursion P (put values rows)
  all_put P values [] all own = all
  all_put P values (row ∷ rows) all own = all_put P (with_value (cell row column) values) rows (all-with_value P (cell row column) values own.0 all) own.1

  still_put : (value : Value) (values : List Value) (rows : List Row) → IsOneOf values value → IsOneOf (put values rows) value
  still_put value values [] one = one
  still_put value values (row ∷ rows) one = still_put value (with_value (cell row column) values) rows (still-with_value (cell row column) value values one)

  own_put : (values : List Value) (rows : List Row) → AllByRecursion (λ row. IsOneOf (put values rows) (cell row column)) rows
  own_put values [] = tt
  own_put values (row ∷ rows) =
      (still_put (cell row column) (with_value (cell row column) values) rows (own-with_value (cell row column) values), own_put (with_value (cell row column) values) rows)

-- the rows of a grouped select are those of its groups, by value
pub grouped_rows : (items : List BoundItem) (column : ColNo) (rows : List Row) → AreGroupRows items column.0 rows (grouped items (Some column) rows)
unfolding grouped IsStrictlySortedBy
grouped_rows items column rows = record {
  values = values_of column.0 rows;
  rise = rising_put column.0 [] rows tt;
  stand = all_put column.0 (StandsIn column.0 rows) [] rows tt
      (each_among (λ row. StandsIn column.0 rows (cell row column.0)) rows (λ row among. record { row = row; among = among; is = refl }));
  each = own_put column.0 [] rows;
  one_each = refl;
}
