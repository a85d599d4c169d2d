-- Where no fault is reported there is none, of no part of a statement.
use Rattle.std.proofs.Common.{◌≡◌, List, [], ◌∷◌, ◌++◌, Bool, true, false, cond, Option, None, Some, nat_lt, if◌then◌else◌, refl}
use Rattle.std.specs.List.{fold}
use Rattle.own_model.specs.declared.refusal.Refusal.{Refusal}
use Rattle.query_model.specs.Refused.{lowest, rank, sooner}

-- a fault that is reported stays told, or a lower one is
told-step : (one other : Refusal) (lower : Bool) (later : Option Refusal → Option Refusal)
    → ((kept : Refusal) → later (Some kept) ≡ None → ⊥) → later (cond lower (Some one) (Some other)) ≡ None → ⊥
told-step one other true later tells none = tells one none
told-step one other false later tells none = tells other none

fold-sooner : (faults : List Refusal) (kept : Refusal) → fold sooner (Some kept) faults ≡ None → ⊥
fold-sooner [] kept none = cc
fold-sooner (fault ∷ faults) kept none = told-step fault kept (nat_lt (rank fault) (rank kept)) (λ o. fold sooner o faults) (fold-sooner faults) none

-- where no fault is reported there is none
pub none-lowest : (faults : List Refusal) → lowest faults ≡ None → faults ≡ []
unfolding lowest
none-lowest [] none = refl
none-lowest (fault ∷ faults) none = absurd (fold-sooner faults fault none)

-- the first part of an empty list, and the last
pub none-first : {A : Type 0} (xs ys : List A) → xs ++ ys ≡ [] → xs ≡ []
none-first [] ys none = refl
none-first (x ∷ xs) ys none = absurd (cc)

pub none-last : {A : Type 0} (xs ys : List A) → xs ++ ys ≡ [] → ys ≡ []
none-last [] ys none = none
none-last (x ∷ xs) ys none = absurd (cc)

-- a test that gives nothing
pub none-if : {A : Type 0} (test : Bool) (x : A) → (if test then x ∷ [] else []) ≡ [] → test ≡ false
none-if true x none = absurd (cc)
none-if false x none = refl
