-- The equality that values derive tells those that are one.
use Rattle.std.proofs.Common.{◌≡◌, ℤ, Bool, true, false, refl, ap}
use Rattle.std.specs.Bool.{Decides}
use Rattle.std.specs.Cmp.Lexicographic.{pointwise}
use Rattle.std.proofs.lemmas.Bool.Decides.{Decides-int_eq, Decides-like}
use Rattle.std.proofs.lemmas.Slice.Eq.{bytes_eq-Decides, slice_eq-Decides}
use Rattle.own_base.specs.declared.value.Value.{Value}
use Rattle.own_base.specs.declared.value.Value.TheVariants.{Null, Int, Text, Sum}
use Rattle.own_base.specs.contracts.value.ValuePartialEq.TheImpl as equality
use Rattle.own_model.specs.Db.{Row}

abbrev pub derived_eq : Value → Value → Bool
derived_eq = equality.ghosts.eq

int-same : (left right : ℤ) → Int left ≡ Int right → left ≡ right
int-same left right same = cc

sum-same : (left right : ℤ) → Sum left ≡ Sum right → left ≡ right
sum-same left right same = cc

never : (P : Type 0) → false ≡ true → P
never P is = absurd (cc)

value-Decides : (one other : Value) → Decides (derived_eq one other) (one ≡ other)
value-Decides Null Null = ((λ _. refl), λ _. refl)
value-Decides Null (Int right) = ((λ is. never _ is), λ same. absurd (cc))
value-Decides Null (Text right) = ((λ is. never _ is), λ same. absurd (cc))
value-Decides Null (Sum right) = ((λ is. never _ is), λ same. absurd (cc))
value-Decides (Int left) Null = ((λ is. never _ is), λ same. absurd (cc))
value-Decides (Int left) (Int right) = Decides-like _ (ap Int) (int-same left right) (Decides-int_eq left right)
value-Decides (Int left) (Text right) = ((λ is. never _ is), λ same. absurd (cc))
value-Decides (Int left) (Sum right) = ((λ is. never _ is), λ same. absurd (cc))
value-Decides (Text left) Null = ((λ is. never _ is), λ same. absurd (cc))
value-Decides (Text left) (Int right) = ((λ is. never _ is), λ same. absurd (cc))
value-Decides (Text left) (Text right) = Decides-like _ (ap Text) (λ same. cc) (bytes_eq-Decides left right)
value-Decides (Text left) (Sum right) = ((λ is. never _ is), λ same. absurd (cc))
value-Decides (Sum left) Null = ((λ is. never _ is), λ same. absurd (cc))
value-Decides (Sum left) (Int right) = ((λ is. never _ is), λ same. absurd (cc))
value-Decides (Sum left) (Text right) = ((λ is. never _ is), λ same. absurd (cc))
value-Decides (Sum left) (Sum right) = Decides-like _ (ap Sum) (sum-same left right) (Decides-int_eq left right)

pub row-Decides : (one other : Row) (r : Bool) → r ≡ pointwise derived_eq one other → Decides r (one ≡ other)
row-Decides one other r is = slice_eq-Decides value-Decides one other r is
