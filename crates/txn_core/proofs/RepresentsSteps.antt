-- The state of a session represents how it stands.
use Rattle.std.proofs.Common.{◌≡◌, ℕ, List, [], ◌∷◌, false, true, Some, ap, refl}
use Rattle.std.specs.Prelude.{cond, find, option_map}
use Rattle.own_base.specs.declared.number.Place.{Place}
use Rattle.own_model.specs.Db.{Db}
use Rattle.state_model.specs.Sound.{IsWellFormed}
use Rattle.history_model.specs.Held.{is_open as is_open_standing, lowest_other, others}
use Rattle.history_model.specs.History.{doomed_at}
use Rattle.history_model.specs.World.{SessionStanding, Outside, Open, Doomed, World}
use Rattle.txn_core.specs.declared.session_state.SessionState.{SessionState}
use Rattle.txn_core.specs.declared.session_state.SessionState.TheVariants as state
use Rattle.txn_core.specs.SessionStates.{RepresentsSession, doom_of, is_open, state_by, once_doomed, told}
use Rattle.txn_core.proofs.RepresentsLemmas.{represents_none}

-- a transaction that begins
pub represents_begun : (flat : Db) (place : ℕ) → IsWellFormed flat → RepresentsSession flat (state.Open (record { space = []; wrote = false })) (Open place [])
represents_begun flat place sound = (represents_none flat sound, λ quiet. refl, λ wrote. let never : false ≡ true = wrote in absurd (cc))

-- whether a transaction is open
pub represents_open : (flat : Db) (one : SessionState) (standing : SessionStanding) → RepresentsSession flat one standing → is_open one ≡ is_open_standing standing
represents_open flat state.Nothing Outside stands = refl
represents_open flat (state.Open txn) (Open begun block) stands = refl
represents_open flat (state.Doomed place) (Doomed by) stands = refl
represents_open flat state.Nothing (Open begun block) stands = absurd stands
represents_open flat state.Nothing (Doomed by) stands = absurd stands
represents_open flat (state.Open txn) Outside stands = absurd stands
represents_open flat (state.Open txn) (Doomed by) stands = absurd stands
represents_open flat (state.Doomed place) Outside stands = absurd stands
represents_open flat (state.Doomed place) (Open begun block) stands = absurd stands

-- a doom, which is told
pub represents_doomed : (flat : Db) (one : SessionState) (by : ℕ) → RepresentsSession flat one (Doomed by) → (option_map (λ (place : Place). place.0) (doom_of one) ≡ Some by) × RepresentsSession flat (told one) Outside
represents_doomed flat state.Nothing by stands = absurd stands
represents_doomed flat (state.Open txn) by stands = absurd stands
represents_doomed flat (state.Doomed place) by stands = (ap (λ (n : ℕ). Some n) stands, tt)

-- what a FORGET leaves of a transaction that it dooms, on whatever database it leaves
pub represents_dooming : (flat after : Db) (place : Place) (one : SessionState) (standing : SessionStanding) → RepresentsSession flat one standing → RepresentsSession after (once_doomed place one) (doomed_at place.0 standing)
represents_dooming flat after place state.Nothing Outside stands = tt
represents_dooming flat after place (state.Open txn) (Open begun block) stands = refl
represents_dooming flat after place (state.Doomed own) (Doomed by) stands = stands
represents_dooming flat after place state.Nothing (Open begun block) stands = absurd stands
represents_dooming flat after place state.Nothing (Doomed by) stands = absurd stands
represents_dooming flat after place (state.Open txn) Outside stands = absurd stands
represents_dooming flat after place (state.Open txn) (Doomed by) stands = absurd stands
represents_dooming flat after place (state.Doomed own) Outside stands = absurd stands
represents_dooming flat after place (state.Doomed own) (Open begun block) stands = absurd stands

-- the lowest other session with an open transaction
module _ (world : World) (sessions : List SessionState) (stands : (session : ℕ) → RepresentsSession world.flat (state_by sessions session) (world.standing session)) where
  lowest_of : (numbers : List ℕ) → find (λ other. is_open (state_by sessions other)) numbers ≡ find (λ other. is_open_standing (world.standing other)) numbers
  lowest_of [] = refl
  lowest_of (number ∷ numbers) =
      rw (represents_open world.flat (state_by sessions number) (world.standing number) (stands number))
      (ap (λ rest. cond (is_open_standing (world.standing number)) (Some number) rest) (lowest_of numbers))

  pub represents_lowest : (session : ℕ) → find (λ other. is_open (state_by sessions other)) (others session) ≡ lowest_other world session
  unfolding lowest_other
  represents_lowest session = lowest_of (others session)
