-- What a pass knows, and what one that has the turn has.
use Rattle.std.specs.Prelude.{◌≡◌, ◌≤◌, ℕ, List, [], ◌∷◌, Bool, true, false, None, map, slice_index_or}
use Rattle.own_model.specs.declared.history.Entry.{Entry}
use Rattle.own_model.specs.declared.limit.TheConstants.{SESSIONS}
use Rattle.turn_model.specs.Start.{Start}
use Rattle.atomic_table.specs.Seated.{TableId}
use Rattle.commit_turn.specs.declared.held.Held.{Held}
use Rattle.commit_turn.specs.declared.pass.Pass.{Pass}
use Rattle.commit_turn.specs.declared.view.Stage.TheVariants.{Fresh}
use Rattle.commit_turn.specs.declared.view.View.{View}
use Rattle.commit_turn.specs.Flags.{raised}
use Rattle.commit_turn.specs.Kept.{is_out, places_in}
use Rattle.commit_turn.specs.Rule.{stage_of}
use Rattle.commit_turn.specs.Steps.{spent}

-- what the holder of a pass knows
abbrev pub view_of : Pass → View
view_of pass = slice_index_or pass.badge.views 0 spent

-- the history that it has seen, and the places of its session's entries beyond those that the turn was made with
abbrev pub seen : Pass → List Entry
seen pass = (view_of pass).seen

abbrev pub places : Pass → List ℕ
places pass = (view_of pass).places

-- with how many entries the turn was made, and the start of the value
abbrev pub base : Pass → ℕ
base pass = (view_of pass).base

abbrev pub start_of : Pass → Start
start_of pass = (view_of pass).start

-- whether it is the lead
abbrev pub is_lead : Pass → Bool
is_lead pass = (view_of pass).lead

-- the lead has given out no pass of this session
abbrev pub IsFresh : Pass → ℕ → Type 0
IsFresh lead session = stage_of (view_of lead) session ≡ Fresh

-- the places that the lead has kept of a session: those of its joined pass, and none where none was joined
abbrev pub kept : Pass → ℕ → List ℕ
kept lead session = places_in (stage_of (view_of lead) session)

-- A pass of this turn that doesn't have it: it rests with one view, and has its session and what it gave out.
pub record IsPassOf (turn : TableId) (pass : Pass) : Type 0 where
  pub table : pass.badge.table_id ≡ turn
  pub rests : pass.badge.views ≡ view_of pass ∷ []
  pub live : (view_of pass).live ≡ true
  pub holds : (view_of pass).holds ≡ false
  pub session : pass.session.0 ≡ (view_of pass).session
  pub number : pass.session.0 ≤ SESSIONS
  pub out : pass.out ≡ map is_out (view_of pass).stages

-- how many passes were split off the lead and not joined
abbrev pub count_out : Pass → ℕ
count_out lead = raised lead.out

-- What has the turn came of this pass, which rests with no view until it is given back: it has the pass's session, and what it gave out.
pub record IsHeldOf {T : Type 0} (turn : TableId) (held : Held T) (pass : Pass) : Type 0 where
  pub table : held.seat.table_id ≡ turn
  pub empty : held.seat.me.1 ≡ (0, None) ∷ []
  pub live : held.seat.me.0.live ≡ true
  pub holds : held.seat.me.0.holds ≡ true
  pub waits : pass.badge.views ≡ []
  pub session : pass.session.0 ≡ held.seat.me.0.session
  pub number : pass.session.0 ≤ SESSIONS
  pub out : pass.out ≡ map is_out held.seat.me.0.stages

-- the entries that were found with the turn
abbrev pub found : {T : Type 0} → Held T → List Entry
found held = held.seat.me.0.seen

-- and the start
abbrev pub found_start : {T : Type 0} → Held T → Start
found_start held = held.seat.me.0.start
