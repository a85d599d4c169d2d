-- What a fault that is kept, of some rank, does to later ones.
use Rattle.std.proofs.Common.{◌≡◌, ℕ, ◌≤◌, Bool, true, false, cond, List, [], ◌∷◌, Option, None, Some, nat_lt, refl, arith}
use Rattle.std.proofs.lemmas.Bool.Decides.{nat_tests}
use Rattle.own_model.specs.declared.refusal.Refusal.{Refusal}
use Rattle.query_model.specs.Refused.{rank, sooner}
use Rattle.bind_scope.specs.After.{after}
use Rattle.plan_bind.specs.IsNoted.{IsNoted}

-- one of no lower rank changes nothing
stays_at : (limit first rank : ℕ) (one other : Refusal) → first ≤ limit → limit ≤ rank → cond (nat_lt rank first) (Some other) (Some one) ≡ Some one
stays_at limit first rank one other within past = grind (arith, nat_tests)

pub sooner_stays : (limit : ℕ) (kept : Option Refusal) (fault : Refusal) → IsNoted limit kept → limit ≤ rank fault → sooner kept fault ≡ kept
sooner_stays limit None fault is past = absurd is
sooner_stays limit (Some first) fault is past = stays_at limit (rank first) (rank fault) first fault is past

-- one more is kept or passed over
kept_at : (limit : ℕ) (first fault : Refusal) (here : Bool) → nat_lt (rank fault) (rank first) ≡ here → rank first ≤ limit → IsNoted limit (cond here (Some fault) (Some first))
kept_at limit first fault true is within = grind (arith, nat_tests)
kept_at limit first fault false is within = within

pub kept_sooner : (limit : ℕ) (kept : Option Refusal) (fault : Refusal) → IsNoted limit kept → IsNoted limit (sooner kept fault)
kept_sooner limit None fault is = absurd is
kept_sooner limit (Some first) fault is = kept_at limit first fault (nat_lt (rank fault) (rank first)) refl is

-- one of this rank is kept, or one that is sooner
new_at : (limit : ℕ) (first fault : Refusal) (here : Bool) → nat_lt (rank fault) (rank first) ≡ here → rank fault ≤ limit → IsNoted limit (cond here (Some fault) (Some first))
new_at limit first fault true is within = within
new_at limit first fault false is within = grind (arith, nat_tests)

pub kept_new : (limit : ℕ) (kept : Option Refusal) (fault : Refusal) → rank fault ≤ limit → IsNoted limit (sooner kept fault)
kept_new limit None fault within = within
kept_new limit (Some first) fault within = new_at limit first fault (nat_lt (rank fault) (rank first)) refl within

-- and after several
pub kept_after : (limit : ℕ) (kept : Option Refusal) (faults : List Refusal) → IsNoted limit kept → IsNoted limit (after kept faults)
kept_after limit kept [] is = is
kept_after limit kept (fault ∷ faults) is = kept_after limit (sooner kept fault) faults (kept_sooner limit kept fault is)

-- one that is sooner still
pub kept_sooner_than : (limit higher : ℕ) (kept : Option Refusal) → limit ≤ higher → IsNoted limit kept → IsNoted higher kept
kept_sooner_than limit higher None lower is = absurd is
kept_sooner_than limit higher (Some first) lower is = omega arith
