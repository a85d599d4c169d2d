-- The order of values is total.
use Rattle.std.proofs.Common.{◌≡◌, ℕ, ℤ, pos, List, [], refl, sym, ◌∙◌}
use Rattle.std.specs.Cmp.{IsTotalOrder}
use Rattle.std.specs.Cmp.Lexicographic.{slice_cmp}
use Rattle.std.specs.declared.cmp.Ordering.{Ordering}
use Rattle.std.specs.declared.cmp.Ordering.TheVariants.{Less, Equal, Greater}
use Rattle.std.specs.Ordering.{int_cmp, nat_cmp, on, ordering_then, then_cmp}
use Rattle.std.proofs.lemmas.Cmp.{int_cmp_total, nat_cmp_total, nat_list_cmp_total, on_total, then_total}
use Rattle.own_base.specs.declared.value.Value.{Value}
use Rattle.own_base.specs.declared.value.Value.TheVariants.{Null, Int, Text, Sum}
use Rattle.query_model.specs.Order.{value_cmp}

-- NULL, numbers, texts
rank : Value → ℕ
rank Null = 0
rank (Int number) = 1
rank (Sum number) = 1
rank (Text bytes) = 2

-- what a number counts
number_of : Value → ℤ
number_of (Int number) = number
number_of (Sum number) = number
number_of Null = pos 0
number_of (Text bytes) = pos 0

-- the bytes of a text
bytes_of : Value → List ℕ
bytes_of (Text bytes) = bytes
bytes_of Null = []
bytes_of (Int number) = []
bytes_of (Sum number) = []

-- by rank, then by number, then by bytes
by_parts : Value → Value → Ordering
by_parts = then_cmp (on rank nat_cmp) (then_cmp (on number_of int_cmp) (on bytes_of (slice_cmp nat_cmp)))

-- which is total
by_parts_total : IsTotalOrder by_parts
unfolding by_parts
by_parts_total = then_total (on_total rank nat_cmp_total) (then_total (on_total number_of int_cmp_total) (on_total bytes_of nat_list_cmp_total))

-- an order that ends in an equality is the first
ends_equal : (o : Ordering) → o ≡ ordering_then o Equal
ends_equal Less = refl
ends_equal Equal = refl
ends_equal Greater = refl

-- it is the order of values
same : (x y : Value) → value_cmp x y ≡ by_parts x y
unfolding value_cmp by_parts rank number_of bytes_of
same Null Null = refl
same Null (Int b) = refl
same Null (Text b) = refl
same Null (Sum b) = refl
same (Int a) Null = refl
same (Int a) (Int b) = ends_equal (int_cmp a b)
same (Int a) (Text b) = refl
same (Int a) (Sum b) = ends_equal (int_cmp a b)
same (Text a) Null = refl
same (Text a) (Int b) = refl
same (Text a) (Text b) = refl
same (Text a) (Sum b) = refl
same (Sum a) Null = refl
same (Sum a) (Int b) = ends_equal (int_cmp a b)
same (Sum a) (Text b) = refl
same (Sum a) (Sum b) = ends_equal (int_cmp a b)

-- the order of values is total
pub value_order : IsTotalOrder value_cmp
value_order = record {
  antisymm = λ x y. rw (same x y, same y x) (by_parts_total.antisymm x y);
  trans = λ x y z p q. same x z ∙ by_parts_total.trans x y z (sym (same x y) ∙ p) (sym (same y z) ∙ q);
  congr = λ x y z p. rw (same x z, same y z) (by_parts_total.congr x y z (sym (same x y) ∙ p));
}
