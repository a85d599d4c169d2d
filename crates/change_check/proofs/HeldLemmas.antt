-- Another row holds a row's value where two or more hold it.
use Rattle.std.proofs.Common.{◌≡◌, ℕ, List, [], ◌∷◌, length, map, Bool, true, false, cond, refl, ap, sym, ◌∙◌, subst, arith}
use Rattle.std.specs.Prelude.{Option, None, Some, count_by, filter, nat_lt, slice_get}
use Rattle.std.specs.Option.{option_map_or}
use Rattle.own_base.specs.Key.{key_cmp}
use Rattle.own_base.specs.declared.value.Key.{Key}
use Rattle.own_base.specs.declared.value.Key.TheVariants as key
use Rattle.own_base.specs.declared.value.Value.{Value}
use Rattle.own_base.specs.declared.value.Value.TheVariants.{Null, Int, Text, Sum}
use Rattle.own_model.specs.declared.schema.TableDef.{TableDef}
use Rattle.own_model.specs.Db.{IsRising, Row, key_of}
use Rattle.own_model.specs.Stored.{is_equal}
use Rattle.owner_model.proofs.CountLemmas.{count_by-fails, count_by-passes}
use Rattle.query_model.specs.Footprints.{literal_key}
use Rattle.query_model.specs.Truth.{cell}
use Rattle.schema_model.proofs.Names.{equal_name, same_name}
use Rattle.subject_model.proofs.NamedLemmas.{key_is, one_key}
use Rattle.state_model.specs.Fault.{is_shared}
use Rattle.state_model.specs.Same.{is_same_value}
use Rattle.state_model.proofs.SameLemmas.{value_same}
use Rattle.commit_check.proofs.UniqueLemmas.{another}
use Rattle.link_model.specs.Holds.{holders, holds}

-- a row that holds a value has it as its cell's key
pub holds_key : (column : ℕ) (value : Key) (row : Row) → holds column value row ≡ true → literal_key (cell row column) ≡ Some value
unfolding holds
holds_key column value row is = by (literal_key (cell row column)) is
  where
    by : (o : Option Key) → option_map_or (λ key. is_equal (key_cmp key value)) o false ≡ true → o ≡ Some value
    by None is = let never : false ≡ true = is in cc
    by (Some key) is = ap Some (one_key key value is)

-- and back
pub key_holds : (column : ℕ) (value : Key) (row : Row) → literal_key (cell row column) ≡ Some value → holds column value row ≡ true
unfolding holds
key_holds column value row is = ap (λ o. option_map_or (λ key. is_equal (key_cmp key value)) o false) is ∙ key_is value

both_ways : (one other : Bool) → (one ≡ true → other ≡ true) → (other ≡ true → one ≡ true) → one ≡ other
both_ways true other there back = sym (there refl)
both_ways false true there back = back refl
both_ways false false there back = refl

-- texts are the same where their keys are
text_same : (left right : List ℕ) → is_same_value (Text left) (Text right) ≡ is_equal (key_cmp (key.Text left) (key.Text right))
unfolding is_same_value
text_same left right = both_ways _ _
    (λ same. let one : left ≡ right = same_name left right same in subst (λ t. is_equal (key_cmp (key.Text left) (key.Text t)) ≡ true) one (key_is (key.Text left)))
    (λ equal. let one : key.Text left ≡ key.Text right = one_key (key.Text left) (key.Text right) equal in equal_name left right (cc))

-- a value is the same as one that has a key where it has that key
same_key : (value one : Value) (its : Key) → literal_key one ≡ Some its → is_same_value value one ≡ option_map_or (λ other. is_equal (key_cmp other its)) (literal_key value) false
unfolding is_same_value
same_key value Null its is = let never : ◌≡◌ {A = Option Key} None (Some its) = is in cc
same_key value (Sum number) its is = let never : ◌≡◌ {A = Option Key} None (Some its) = is in cc
same_key Null (Int right) its is = refl
same_key (Int left) (Int right) its is =
    let own : key.Int right ≡ its = cc in subst (λ k. is_same_value (Int left) (Int right) ≡ is_equal (key_cmp (key.Int left) k)) own refl
same_key (Text left) (Int right) its is =
    let own : key.Int right ≡ its = cc in subst (λ k. is_same_value (Text left) (Int right) ≡ is_equal (key_cmp (key.Text left) k)) own refl
same_key (Sum left) (Int right) its is = refl
same_key Null (Text right) its is = refl
same_key (Int left) (Text right) its is =
    let own : key.Text right ≡ its = cc in subst (λ k. is_same_value (Int left) (Text right) ≡ is_equal (key_cmp (key.Int left) k)) own refl
same_key (Text left) (Text right) its is =
    let own : key.Text right ≡ its = cc in subst (λ k. is_same_value (Text left) (Text right) ≡ is_equal (key_cmp (key.Text left) k)) own (text_same left right)
same_key (Sum left) (Text right) its is = refl

-- so of the cell of a row
pub same_holds : (column : ℕ) (row other : Row) (value : Key) → literal_key (cell row column) ≡ Some value → is_same_value (cell other column) (cell row column) ≡ holds column value other
unfolding holds
same_holds column row other value is = same_key (cell other column) (cell row column) value is

-- those who hold a value are as many as pass that test
count_kept : {X Y : Type 0} (p : X → Bool) (f : X → Y) (xs : List X) → length (map f (filter p xs)) ≡ count_by p xs
count_kept p f [] = refl
count_kept p f (x ∷ xs) = by (p x) refl (count_kept p f xs)
  where
    by : (b : Bool) → p x ≡ b → length (map f (filter p xs)) ≡ count_by p xs → length (map f (cond b (x ∷ filter p xs) (filter p xs))) ≡ count_by p (x ∷ xs)
    by true passes more = let one = count_by-passes p x xs passes in omega arith
    by false fails more = more ∙ sym (count_by-fails p x xs fails)

-- Another row holds what a row holds in a column where two or more hold it.
pub shared_held : (table : TableDef) (rows : List Row) (place : ℕ) (row : Row) (column : ℕ) (value : Key) → IsRising table rows → slice_get rows place ≡ Some row
    → literal_key (cell row column) ≡ Some value → is_shared table rows (key_of table row) column (cell row column) ≡ nat_lt 1 (length (holders table rows column value))
shared_held table rows place row column value rising at is =
    another table row (λ other. is_same_value (cell other column) (cell row column)) (value_same (cell row column)) rows place rising at
    ∙ (ap (λ p. nat_lt 1 (count_by p rows)) (λ i other. same_holds column row other value is i) ∙ ap (nat_lt 1) (sym (count_kept (holds column value) (key_of table) rows)))
