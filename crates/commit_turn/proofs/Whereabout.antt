-- Where sessions are, when one moves.
use Rattle.std.proofs.Common.{◌≡◌, ℕ, ◌<◌, ◌≢◌, zero, suc, List, [], ◌∷◌, length, set, get_or, sym, refl, ◌∙◌, subst, arith, eqb, eq-eqb, ne_eqb, get_or-set_same, get_or-set_other}
use Rattle.std.specs.Prelude.{Bool, true, false, if◌then◌else◌}
use mathlib.Core.Logic.{dite}
use native.Mathlib.Decide.{ℕ_discrete}
use Rattle.own_model.specs.declared.history.Entry.{Entry}
use Rattle.turn_model.specs.Places.{places_beyond}
use Rattle.commit_turn.specs.declared.view.Stage.{Stage}
use Rattle.commit_turn.specs.declared.view.Stage.TheVariants.{Fresh}
use Rattle.commit_turn.specs.declared.view.View.{View}
use Rattle.commit_turn.specs.Rule.{Knows, Plays, StandAt, Whereabouts, AtSeat}

-- a session is somewhere else now
abbrev pub moved : (ℕ → Whereabouts) → ℕ → Whereabouts → ℕ → Whereabouts
moved at session to other = if eqb other session then to else at other

pub moved_here : (at : ℕ → Whereabouts) (session : ℕ) (to : Whereabouts) → moved at session to session ≡ to
moved_here at session to = rw (eq-eqb session session refl) refl

pub moved_else : (at : ℕ → Whereabouts) (session : ℕ) (to : Whereabouts) (other : ℕ) → other ≢ session → moved at session to other ≡ at other
moved_else at session to other apart = rw (ne_eqb other session apart) refl

-- entries stand where sessions are, also when one has moved
pub stand_moved : (f : ℕ → List ℕ) (at : ℕ → Whereabouts) (session : ℕ) (to : Whereabouts) → StandAt (f session) to → ((other : ℕ) → StandAt (f other) (at other))
    → (other : ℕ) → StandAt (f other) (moved at session to other)
stand_moved f at session to mine all other = dite (ℕ_discrete other session)
    (λ here. subst (λ k. StandAt (f k) (moved at session to k)) (sym here) (subst (StandAt (f session)) (sym (moved_here at session to)) mine))
    (λ apart. subst (StandAt (f other)) (sym (moved_else at session to other apart)) (all other))

-- the lead knows it too
pub knows_moved : (stages : List Stage) (at : ℕ → Whereabouts) (session : ℕ) (stage : Stage) (to : Whereabouts) → session < length stages → Knows stage to
    → ((other : ℕ) → Knows (get_or stages other Fresh) (at other)) → (other : ℕ) → Knows (get_or (set stages session stage) other Fresh) (moved at session to other)
knows_moved stages at session stage to inside mine all other = dite (ℕ_discrete other session)
    (λ here. subst (λ k. Knows (get_or (set stages session stage) k Fresh) (moved at session to k)) (sym here)
    (subst (λ (x : Stage × Whereabouts). Knows x.0 x.1) (λ i. (sym (get_or-set_same stages session stage Fresh inside) i, sym (moved_here at session to) i)) mine))
    (λ apart. subst (λ (x : Stage × Whereabouts). Knows x.0 x.1) (λ i. (sym (get_or-set_other stages session other stage Fresh apart) i, sym (moved_else at session to other apart) i)) (all other))

-- a session with a seat is one that the lead has a place for
pub known_inside : (stages : List Stage) (session seat : ℕ) → Knows (get_or stages session Fresh) (AtSeat seat) → session < length stages
known_inside [] session seat knows = let never : ⊥ = cc in absurd never
known_inside (s ∷ stages) zero seat knows = omega arith
known_inside (s ∷ stages) (suc session) seat knows = let m = known_inside stages session seat knows in omega arith

-- Another view's part stays, where its seat isn't the lead's, its session stays where it is, and the places in the history stay.
pub plays_else : (base log log' : List Entry) (at at' : ℕ → Whereabouts) (seat : ℕ) (view : View) → (seat ≡ 0 → ⊥)
    → (at view.session ≡ AtSeat seat → at' view.session ≡ at view.session)
    → (at view.session ≡ AtSeat seat → places_beyond (length base) view.session log' ≡ places_beyond (length base) view.session log)
    → (lead : Bool) → Plays base log at seat view lead → Plays base log' at' seat view lead
plays_else base log log' at at' seat view other same stay true plays = absurd (other plays.0)
plays_else base log log' at at' seat view other same stay false plays = (same plays.0 ∙ plays.0, plays.1 ∙ sym (stay plays.0))
