-- Rows, sorted by a closure that compares them by a column.
use Rattle.std.proofs.Common.{◌≡◌, ℕ, List, Bool, Ordering, Bor, refl, subst}
use Rattle.std.specs.Prelude.{false, true}
use Rattle.std.specs.declared.cmp.Ordering.TheVariants.{Less, Equal, Greater}
use Rattle.std.specs.Cmp.{IsStrictWeakOrder}
use Rattle.std.specs.declared.cmp.Reverse.{Reverse}
use Rattle.std.specs.Fn.{Called, Mut}
use Rattle.std.specs.List.Sorted.{IsSortedBy, IsSortedByClosure, IsSortedByKeyClosure, IsStableBy, IsStableByClosure, IsStableByKeyClosure}
use Rattle.std.specs.Ordering.{is_lt}
use Rattle.std.proofs.lemmas.Fn.{always_returns_same}
use Rattle.own_base.specs.declared.value.Value.{Value}
use Rattle.own_model.specs.Db.{Row}
use Rattle.query_model.specs.Order.{is_less, ordered_by, precedes, value_cmp}
use Rattle.query_model.specs.Truth.{cell}
use Rattle.query_model.proofs.RowOrder.{column_order}
use Rattle.query_model.proofs.SortedRows.{sorted_by_stable_sort}

-- rows that a stable sort leaves are the rows in order
pub rows_in_order : (column : ℕ) (down : Bool) {F : Type 0} {g : Mut F (Bor Row × (Bor Row × Unit {0})) Ordering} {f : F} (rows ordered : List Row)
    → IsSortedByClosure g f ordered → IsStableByClosure g f rows ordered
    → ((a : Bor Row × (Bor Row × Unit {0})) (r : Ordering) (f' : F) → Called g f a r f' → (is_lt r ≡ precedes down (cell a.0.now column) (cell a.1.0.now column)) × (f' ≡ f))
    → ordered ≡ ordered_by column down rows
rows_in_order column down {g = g} {f = f} rows ordered sorts stays compares =
    let before : Row → Row → Bool = λ left right. precedes down (cell left column) (cell right column) in
    let order : IsStrictWeakOrder before = column_order column down in
    let answers = always_returns_same g (λ a r. is_lt r ≡ before a.0.now a.1.0.now) f compares in
    sorted_by_stable_sort before order rows ordered (sorts before order answers) (stays before order answers)

-- the two ways to say that one value comes before another
less : (order : Ordering) → is_lt order ≡ is_less order
less Less = refl
less Equal = refl
less Greater = refl

-- rows that a stable sort by the column's values leaves are the rows in order
by_test : (column : ℕ) (down : Bool) (test : Row → Row → Bool) (rows ordered : List Row) → ((left right : Row) → test left right ≡ precedes down (cell left column) (cell right column))
    → IsSortedBy test ordered → IsStableBy test rows ordered → ordered ≡ ordered_by column down rows
by_test column down test rows ordered alike sorts stays =
    let same : test ≡ (λ left right. precedes down (cell left column) (cell right column)) = λ i left right. alike left right i in
    sorted_by_stable_sort (λ (left right : Row). precedes down (cell left column) (cell right column)) (column_order column down) rows ordered
    (subst (λ before. IsSortedBy before ordered) same sorts) (subst (λ before. IsStableBy before rows ordered) same stays)

pub rows_rising : (column : ℕ) (rows ordered : List Row) → IsSortedBy (λ (left right : Row). is_lt (value_cmp (cell left column) (cell right column))) ordered
    → IsStableBy (λ (left right : Row). is_lt (value_cmp (cell left column) (cell right column))) rows ordered → ordered ≡ ordered_by column false rows
rows_rising column rows ordered sorts stays =
    by_test column false (λ (left right : Row). is_lt (value_cmp (cell left column) (cell right column))) rows ordered (λ left right. less (value_cmp (cell left column) (cell right column))) sorts stays

pub rows_falling : (column : ℕ) (rows ordered : List Row) → IsSortedBy (λ (left right : Row). is_lt (value_cmp (cell right column) (cell left column))) ordered
    → IsStableBy (λ (left right : Row). is_lt (value_cmp (cell right column) (cell left column))) rows ordered → ordered ≡ ordered_by column true rows
rows_falling column rows ordered sorts stays =
    by_test column true (λ (left right : Row). is_lt (value_cmp (cell right column) (cell left column))) rows ordered (λ left right. less (value_cmp (cell right column) (cell left column))) sorts stays

-- rows that a closure gives their keys: the values of the column
pub sorted_rising : (column : ℕ) {F : Type 0} {g : Mut F (Bor Row × Unit {0}) Value} {f : F} (rows ordered : List Row) → IsSortedByKeyClosure g value_cmp f ordered → IsStableByKeyClosure g value_cmp f rows ordered
    → ((a : Bor Row × Unit {0}) (r : Value) (f' : F) → Called g f a r f' → (r ≡ cell a.0.now column) × (f' ≡ f))
    → ordered ≡ ordered_by column false rows
sorted_rising column {g = g} {f = f} rows ordered sorts stays gives =
    let answers = always_returns_same g (λ a r. r ≡ cell a.0.now column) f gives in
    rows_rising column rows ordered (sorts (λ row. cell row column) answers) (stays (λ row. cell row column) answers)

-- the same with the order turned round
pub sorted_falling : (column : ℕ) {F : Type 0} {g : Mut F (Bor Row × Unit {0}) (Reverse Value)} {f : F} (rows ordered : List Row) → IsSortedByKeyClosure g (λ (x y : Reverse Value). value_cmp y.0 x.0) f ordered
    → IsStableByKeyClosure g (λ (x y : Reverse Value). value_cmp y.0 x.0) f rows ordered
    → ((a : Bor Row × Unit {0}) (r : Reverse Value) (f' : F) → Called g f a r f' → (r ≡ record { 0 = cell a.0.now column }) × (f' ≡ f))
    → ordered ≡ ordered_by column true rows
sorted_falling column {g = g} {f = f} rows ordered sorts stays gives =
    let answers = always_returns_same g (λ a r. r ≡ record { 0 = cell a.0.now column }) f gives in
    rows_falling column rows ordered (sorts (λ row. record { 0 = cell row column }) answers) (stays (λ row. record { 0 = cell row column }) answers)
