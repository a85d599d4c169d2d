-- The order that names of rows derive is that of their tables and keys.
use Rattle.std.proofs.Common.{◌≡◌, ℕ, List, [], ◌∷◌, Bool, true, false, refl, ap, sym, ◌∙◌}
use Rattle.std.specs.Cmp.{IsEquivalence, IsTotalOrder}
use Rattle.std.specs.List.{AllByRecursion}
use Rattle.std.specs.List.Sorted.{IsStrictlySortedBy}
use Rattle.std.specs.Ordering.{eq_by_cmp, is_eq, nat_cmp, ordering_then}
use Rattle.std.specs.declared.cmp.Ordering.{Ordering}
use Rattle.std.specs.declared.cmp.Ordering.TheVariants.{Less, Equal, Greater}
use Rattle.std.proofs.lemmas.Map.Lookups.{exact_unsigned}
use Rattle.own_base.specs.Key.{key_cmp}
use Rattle.own_base.specs.declared.number.TableNo.{TableNo}
use Rattle.own_base.specs.declared.row_name.RowName.{RowName}
use Rattle.own_base.specs.declared.value.Key.{Key}
use Rattle.own_base.specs.declared.value.Key.TheVariants.{Int, Text}
use Rattle.own_base.specs.contracts.row_name.RowNameEq.TheImpl.Laws.{laws-law}
use Rattle.own_base.specs.contracts.row_name.RowNameOrd.TheImpl as order
use Rattle.own_base.specs.contracts.row_name.RowNameOrd.TheImpl.Laws.{matches_eq-law, total-law}
use Rattle.own_base.specs.contracts.row_name.RowNamePartialEq.TheImpl as equality
use Rattle.own_model.specs.Stored.{is_equal}
use Rattle.subject_model.specs.NameOrder.{name_cmp}
use Rattle.subject_model.proofs.NamedLemmas.{one_key}

abbrev pub derived_cmp : RowName → RowName → Ordering
derived_cmp = order.ghosts.cmp

abbrev pub derived_eq : RowName → RowName → Bool
derived_eq = equality.ghosts.eq

abbrev called : TableNo → Key → RowName
called table key = record { table = table; key = key }

by_key : (one other : TableNo) (first second : Key) → derived_cmp (called one first) (called other second) ≡ name_cmp (called one first) (called other second)
by_key one other (Int first) (Int second) = refl
by_key one other (Int first) (Text second) = refl
by_key one other (Text first) (Int second) = refl
by_key one other (Text first) (Text second) = refl

-- it compares by table, then by key
pub same_order : (one other : RowName) → derived_cmp one other ≡ name_cmp one other
same_order one other = by_key one.table other.table one.key other.key

-- it is total, and equals what is tied
pub derived_total : IsTotalOrder derived_cmp
derived_total = total-law

pub derived_ties : (one other : RowName) → derived_eq one other ≡ eq_by_cmp derived_cmp one other
derived_ties = matches_eq-law

pub derived_equal : IsEquivalence derived_eq
derived_equal = laws-law

tied_parts : (first second : Ordering) → is_eq (ordering_then first second) ≡ true → (first ≡ Equal) × (is_equal second ≡ true)
tied_parts Less second is = let never : false ≡ true = is in cc
tied_parts Equal Less is = let never : false ≡ true = is in cc
tied_parts Equal Equal is = (refl, refl)
tied_parts Equal Greater is = let never : false ≡ true = is in cc
tied_parts Greater second is = let never : false ≡ true = is in cc

one_name : (one other : RowName) → is_eq (name_cmp one other) ≡ true → one ≡ other
one_name one other is =
    let both = tied_parts (nat_cmp one.table.0 other.table.0) (key_cmp one.key other.key) is in
    let table : one.table.0 ≡ other.table.0 = exact_unsigned one.table.0 other.table.0 both.0 in
    let key : one.key ≡ other.key = one_key one.key other.key both.1 in
    let made : ℕ → Key → RowName = λ n k. record { table = record { 0 = n }; key = k } in
    ap (λ n. made n one.key) table ∙ ap (made other.table.0) key

-- what is equal is one name
pub derived_exact : (one other : RowName) → derived_eq one other ≡ true → one ≡ other
derived_exact one other is = one_name one other (ap is_eq (sym (same_order one other)) ∙ (sym (derived_ties one other) ∙ is))

all_less : (first : RowName) (xs : List RowName) → AllByRecursion (λ x. derived_cmp first x ≡ Less) xs → AllByRecursion (λ x. name_cmp first x ≡ Less) xs
all_less first [] all = tt
all_less first (x ∷ xs) all = (sym (same_order first x) ∙ all.0, all_less first xs all.1)

-- what rises by it rises by the names
pub rising_by_name : (xs : List RowName) → IsStrictlySortedBy derived_cmp xs → IsStrictlySortedBy name_cmp xs
unfolding IsStrictlySortedBy
rising_by_name [] rising = tt
rising_by_name (x ∷ xs) rising = (all_less x xs rising.0, rising_by_name xs rising.1)
