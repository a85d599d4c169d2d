-- The order of primary keys is total.
use Rattle.std.proofs.Common.{◌≡◌, refl}
use Rattle.std.specs.Cmp.{IsTotalOrder}
use Rattle.std.specs.declared.cmp.Ordering.TheVariants.{Less, Equal}
use Rattle.std.proofs.lemmas.Cmp.{int_cmp_total, nat_list_cmp_total}
use Rattle.own_base.specs.Key.{key_cmp}
use Rattle.own_base.specs.declared.value.Key.{Key}
use Rattle.own_base.specs.declared.value.Key.TheVariants.{Int, Text}
use Rattle.std.specs.Ordering.{ordering_reverse}

antisymm : (x y : Key) → key_cmp x y ≡ ordering_reverse (key_cmp y x)
antisymm (Int a) (Int b) = int_cmp_total.antisymm a b
antisymm (Int a) (Text b) = refl
antisymm (Text a) (Int b) = refl
antisymm (Text a) (Text b) = nat_list_cmp_total.antisymm a b

trans : (x y z : Key) → key_cmp x y ≡ Less → key_cmp y z ≡ Less → key_cmp x z ≡ Less
trans (Int a) (Int b) (Int d) p q = int_cmp_total.trans a b d p q
trans (Int a) (Int b) (Text d) p q = refl
trans (Int a) (Text b) (Int d) p q = cc
trans (Int a) (Text b) (Text d) p q = refl
trans (Text a) (Int b) (Int d) p q = cc
trans (Text a) (Int b) (Text d) p q = cc
trans (Text a) (Text b) (Int d) p q = cc
trans (Text a) (Text b) (Text d) p q = nat_list_cmp_total.trans a b d p q

congr : (x y z : Key) → key_cmp x y ≡ Equal → key_cmp x z ≡ key_cmp y z
congr (Int a) (Int b) (Int d) p = int_cmp_total.congr a b d p
congr (Int a) (Int b) (Text d) p = refl
congr (Int a) (Text b) z p = cc
congr (Text a) (Int b) z p = cc
congr (Text a) (Text b) (Int d) p = refl
congr (Text a) (Text b) (Text d) p = nat_list_cmp_total.congr a b d p

pub key_order : IsTotalOrder key_cmp
key_order = record { antisymm = antisymm; trans = trans; congr = congr }
