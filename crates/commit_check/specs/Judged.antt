-- What is judged of a database.
use Rattle.std.specs.Prelude.{◌≡◌, ℕ, false, true, None, Some, nat_lt}
use Rattle.own_model.specs.declared.limit.LimitName.TheVariants as limit
use Rattle.own_model.specs.declared.limit.TheConstants.{STORE_WEIGHT}
use Rattle.own_model.specs.declared.refusal.Refusal.TheVariants.{Limit}
use Rattle.own_model.specs.Db.{Db}
use Rattle.state_model.specs.Fault.{fault}
use Rattle.state_model.specs.Weight.{weight}
use Rattle.commit_check.specs.declared.judged.Judged.{Judged}
use Rattle.commit_check.specs.declared.judged.Judged.TheVariants.{Fault, Weighs}

-- its first fault, or what it weighs where it has none
abbrev pub IsJudged : Db → Judged → Type 0
IsJudged db (Fault why) = fault db ≡ Some why
IsJudged db (Weighs size) = (fault db ≡ None) × (weight db ≡ size)

-- a weight that is greater than a store may have, or that weight
abbrev pub IsWeighed : ℕ → Judged → Type 0
IsWeighed whole (Fault why) = (nat_lt STORE_WEIGHT whole ≡ true) × (why ≡ Limit limit.Weight)
IsWeighed whole (Weighs size) = (nat_lt STORE_WEIGHT whole ≡ false) × (whole ≡ size)
