-- The numbers of 64 bits with a sign.
use Rattle.std.proofs.Common.{◌≡◌, ◌^◌, ◌<◌, ℤ, pos, negsuc, Some, None, inl, inr, arith}
use Rattle.std.proofs.lemmas.Bool.{cases_lt}
use Rattle.std.proofs.lemmas.Bool.Decides.{nat_tests}
use Rattle.std.specs.Int.{w64}
use Rattle.std.specs.Prelude.{FitsSigned}
use Rattle.own_base.specs.declared.value.Value.TheVariants.{Int}
use Rattle.query_model.specs.Expression.{in_range}

-- a number that fits is one
pub in_range_fits : (z : ℤ) → FitsSigned w64 z → in_range z ≡ Some (Int z)
in_range_fits (pos n) fits = let below : n < 2 ^ 63 = fits.sfits in grind (arith, nat_tests)
in_range_fits (negsuc n) fits = let below : n < 2 ^ 63 = fits.sfits in grind (arith, nat_tests)

-- no other is
pub in_range_past : (z : ℤ) → (FitsSigned w64 z → ⊥) → in_range z ≡ None
in_range_past (pos n) past = elim (cases_lt n (2 ^ 63)) [ inl below ↦ absurd (past (record { sfits = below })) | inr above ↦ grind (arith, nat_tests) ]
in_range_past (negsuc n) past = elim (cases_lt n (2 ^ 63)) [ inl below ↦ absurd (past (record { sfits = below })) | inr above ↦ grind (arith, nat_tests) ]

-- whether a sum of numbers is one
pub ruleset ranges = (in_range_fits, in_range_past)
