-- The rule of a turn: what is true of its two words, its slot and all views, at every moment.
use Rattle.std.specs.Prelude.{◌≡◌, ◌≢◌, ℕ, ◌≤◌, List, [], ◌∷◌, Bool, true, false, Option, Some, length, replicate, slice_index_or}
use mathlib.Core.List.{IsPrefix}
use mathlib.Core.Option.{some}
use lib.ListN.{get_elem?}
use Rattle.own_model.specs.declared.history.Entry.{Entry}
use Rattle.turn_model.specs.Places.{places_beyond}
use Rattle.turn_model.specs.Start.{Start}
use Rattle.atomic_table.specs.Table.{State}
use Rattle.commit_turn.specs.declared.view.Stage.{Stage}
use Rattle.commit_turn.specs.declared.view.Stage.TheVariants.{Fresh, Out, Joined}
use Rattle.commit_turn.specs.declared.view.View.{View}

-- what the lead knows of a session
abbrev pub stage_of : View → ℕ → Stage
stage_of view session = slice_index_or view.stages session Fresh

-- Where a session is: with nobody, with the pass of a seat, or joined, with these places.
pub data Whereabouts : Type 0 where
  Nobody : Whereabouts
  AtSeat : ℕ → Whereabouts
  Home : List ℕ → Whereabouts

-- the lead knows where a session is
abbrev pub Knows : Stage → Whereabouts → Type 0
Knows Fresh at = at ≡ Nobody
Knows Out at = (seat : ℕ) × (at ≡ AtSeat seat)
Knows (Joined places) at = at ≡ Home places

-- the entries of a session that is there stand at these places
abbrev pub StandAt : List ℕ → Whereabouts → Type 0
StandAt places Nobody = places ≡ []
StandAt places (AtSeat seat) = Unit {0}
StandAt places (Home kept) = places ≡ kept

-- The lead is the first seat, has no places, and knows where every session is. Another pass's session is with it, and its
-- places are those of the session's entries in the history.
abbrev pub Plays : List Entry → List Entry → (ℕ → Whereabouts) → ℕ → View → Bool → Type 0
Plays base log at seat view true = (seat ≡ 0) × (view.places ≡ []) × ((session : ℕ) → Knows (stage_of view session) (at session))
Plays base log at seat view false = (at view.session ≡ AtSeat seat) × (view.places ≡ places_beyond (length base) view.session log)

-- what a live view has to do with the history
pub record Fits (base log : List Entry) (from : Start) (at : ℕ → Whereabouts) (seat : ℕ) (view : View) : Type 0 where
  pub seen : IsPrefix view.seen log
  pub more : length base ≤ length view.seen
  pub was : IsPrefix view.was view.seen
  pub heard : IsPrefix view.heard view.seen
  pub number : view.base ≡ length base
  pub start : view.start ≡ from
  pub plays : Plays base log at seat view view.lead

-- One view has the turn where the turn's word isn't 0, and it has seen the whole history; where the word is 0 the value lies
-- in the slot, and its entries are the history. The history begins with the entries that the turn was made with; how many it
-- has stands in the second word. Some live view has seen it whole, and each live view fits it. The entries beyond the first ones are of
-- sessions that have a pass, and of those that were joined, whose places are kept.
pub record Rule {T : Type 0} (history : T → List Entry) (start : T → Start) (base : List Entry) (from : Start) (s : State (Option T) View) : Type 0 where
  pub log : List Entry
  pub at : ℕ → Whereabouts
  pub turn : ℕ
  pub holder : ℕ
  pub begins : IsPrefix base log
  pub words : s.words ≡ turn ∷ length log ∷ []
  pub bit : turn ≤ 1
  pub home : turn ≡ 0 → (value : T) × (s.homes ≡ some (Some value) ∷ []) × (history value ≡ log) × (start value ≡ from)
  pub away : turn ≢ 0 → (view : View) × (get_elem? s.views holder ≡ some view) × (view.live ≡ true) × (view.holds ≡ true)
  pub held : (seat : ℕ) (view : View) → get_elem? s.views seat ≡ some view → view.live ≡ true → view.holds ≡ true
      → (turn ≢ 0) × (seat ≡ holder) × (view.seen ≡ log)
  pub whole : (seat : ℕ) × (view : View) × (get_elem? s.views seat ≡ some view) × (view.live ≡ true) × (length view.seen ≡ length log)
  pub fits : (seat : ℕ) (view : View) → get_elem? s.views seat ≡ some view → view.live ≡ true → Fits base log from at seat view
  pub stand : (session : ℕ) → StandAt (places_beyond (length base) session log) (at session)

-- no pass was split off
abbrev pub none_given : List Stage
none_given = replicate 17 Fresh

-- the first view: the lead, which has seen the entries that the turn is made with
abbrev pub first : List Entry → Start → View
first base from = record {
  live = true;
  lead = true;
  holds = false;
  session = 0;
  seen = base;
  places = [];
  stages = none_given;
  was = [];
  heard = [];
  base = length base;
  start = from;
}
