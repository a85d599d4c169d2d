-- The first fault, rule by rule.
use Rattle.std.proofs.Common.{◌≡◌, List, [], ◌∷◌, ◌++◌, Bool, true, false, refl, ap, sym, ◌∙◌}
use Rattle.std.specs.Prelude.{Option, None, Some, if◌then◌else◌, nat_lt}
use Rattle.own_model.specs.declared.limit.LimitName.TheVariants as limit
use Rattle.own_model.specs.declared.limit.TheConstants.{STORE_ROWS, STORE_WEIGHT}
use Rattle.own_model.specs.declared.refusal.Refusal.{Refusal}
use Rattle.own_model.specs.declared.refusal.Refusal.TheVariants.{Limit}
use Rattle.own_model.specs.Db.{Db}
use Rattle.state_model.specs.Fault.{fault, first_of, limit_faults, owner_faults, reference_faults, unique_faults}
use Rattle.state_model.specs.Weight.{row_count, weight}
use Rattle.commit_check.specs.declared.judged.Judged.{Judged}
use Rattle.commit_check.specs.declared.judged.Judged.TheVariants.{Fault, Weighs}
use Rattle.commit_check.specs.Judged.{IsJudged, IsWeighed}
use Rattle.commit_check.proofs.FirstLemmas.{first-before, first-behind}

-- a fault where a limit is passed
abbrev pub past : Bool → Refusal → Option Refusal
past passed why = if passed then Some why else None

rows_step : (passed : Bool) (why : Refusal) (weighs : List Refusal) (first : Refusal) → past passed why ≡ Some first → first_of ((if passed then why ∷ [] else []) ++ weighs) ≡ Some first
rows_step true why weighs first is = is
rows_step false why weighs first is = let never : ⊥ = cc in absurd never

weight_step : (rows heavy : Bool) (why other : Refusal) → past rows why ≡ None → first_of ((if rows then why ∷ [] else []) ++ (if heavy then other ∷ [] else [])) ≡ past heavy other
weight_step true heavy why other none = let never : ⊥ = cc in absurd never
weight_step false true why other none = refl
weight_step false false why other none = refl

module _ (db : Db) where
  pub by_unique : (first : Refusal) → first_of (unique_faults db) ≡ Some first → fault db ≡ Some first
  unfolding fault
  by_unique first is =
      first-before (unique_faults db ++ reference_faults db ++ owner_faults db) (limit_faults db) first
      (first-before (unique_faults db ++ reference_faults db) (owner_faults db) first (first-before (unique_faults db) (reference_faults db) first is))

  module _ (unique : first_of (unique_faults db) ≡ None) where
    pub by_reference : (first : Refusal) → first_of (reference_faults db) ≡ Some first → fault db ≡ Some first
    unfolding fault
    by_reference first is =
        first-before (unique_faults db ++ reference_faults db ++ owner_faults db) (limit_faults db) first
        (first-before (unique_faults db ++ reference_faults db) (owner_faults db) first (first-behind (unique_faults db) (reference_faults db) unique ∙ is))

    module _ (reference : first_of (reference_faults db) ≡ None) where
      none_before : first_of (unique_faults db ++ reference_faults db) ≡ None
      none_before = first-behind (unique_faults db) (reference_faults db) unique ∙ reference

      pub by_owner : (first : Refusal) → first_of (owner_faults db) ≡ Some first → fault db ≡ Some first
      unfolding fault
      by_owner first is =
          first-before (unique_faults db ++ reference_faults db ++ owner_faults db) (limit_faults db) first
          (first-behind (unique_faults db ++ reference_faults db) (owner_faults db) none_before ∙ is)

      module _ (owner : first_of (owner_faults db) ≡ None) where
        by_limits : fault db ≡ first_of (limit_faults db)
        unfolding fault
        by_limits =
            first-behind (unique_faults db ++ reference_faults db ++ owner_faults db) (limit_faults db)
            (first-behind (unique_faults db ++ reference_faults db) (owner_faults db) none_before ∙ owner)

        pub by_rows : (first : Refusal) → past (nat_lt STORE_ROWS (row_count db)) (Limit limit.Rows) ≡ Some first → fault db ≡ Some first
        by_rows first is = by_limits ∙ rows_step (nat_lt STORE_ROWS (row_count db)) (Limit limit.Rows) _ first is

        pub by_weight : past (nat_lt STORE_ROWS (row_count db)) (Limit limit.Rows) ≡ None → fault db ≡ past (nat_lt STORE_WEIGHT (weight db)) (Limit limit.Weight)
        by_weight none = by_limits ∙ weight_step (nat_lt STORE_ROWS (row_count db)) (nat_lt STORE_WEIGHT (weight db)) (Limit limit.Rows) (Limit limit.Weight) none

        -- what is judged of the weight is judged of the whole
        pub by_judged : past (nat_lt STORE_ROWS (row_count db)) (Limit limit.Rows) ≡ None → (judged : Judged) → IsWeighed (weight db) judged → IsJudged db judged
        by_judged none (Fault why) weighs = by_weight none ∙ (ap (λ heavy. past heavy (Limit limit.Weight)) weighs.0 ∙ ap (λ fault. Some fault) (sym weighs.1))
        by_judged none (Weighs size) weighs = (by_weight none ∙ ap (λ heavy. past heavy (Limit limit.Weight)) weighs.0, weighs.1)
