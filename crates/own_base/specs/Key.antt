-- The order of primary keys.
use Rattle.std.specs.declared.cmp.Ordering.{Ordering}
use Rattle.std.specs.declared.cmp.Ordering.TheVariants.{Less, Greater}
use Rattle.std.specs.Ordering.{nat_cmp, int_cmp}
use Rattle.std.specs.Cmp.Lexicographic.{slice_cmp}
use Rattle.own_base.specs.declared.value.Key.{Key}
use Rattle.own_base.specs.declared.value.Key.TheVariants.{Int, Text}

-- numbers by value and before texts, texts by bytes
abbrev pub key_cmp : Key → Key → Ordering
key_cmp (Int left) (Int right) = int_cmp left right
key_cmp (Int left) (Text right) = Less
key_cmp (Text left) (Int right) = Greater
key_cmp (Text left) (Text right) = slice_cmp nat_cmp left right
