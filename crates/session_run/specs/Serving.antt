-- What the holder of a pass does that makes the calls of its session.
use Rattle.std.specs.Prelude.{◌≡◌, ℕ, List, ◌++◌, false}
use Rattle.std.specs.List.{AllByRecursion}
use mathlib.Core.List.{IsPrefix}
use Rattle.own_base.specs.declared.number.SessionNo.{SessionNo}
use Rattle.own_model.specs.declared.history.Entry.{Entry}
use Rattle.own_model.specs.declared.request.Request.{Request}
use Rattle.own_model.specs.Db.{Db}
use Rattle.grammar_model.specs.Readable.{IsReadable}
use Rattle.history_model.specs.History.{History}
use Rattle.history_model.specs.Serial.{Serial}
use Rattle.serve_model.specs.declared.step.Step.{Step}
use Rattle.serve_model.specs.Steps.{Steps}
use Rattle.commit_turn.specs.declared.pass.Pass.{Pass}
use Rattle.commit_turn.specs.Passes.{base, is_lead, places, seen, start_of, view_of}
use Rattle.commit_turn.specs.Steps.{counted, holding, released}
use Rattle.session_run.specs.declared.replies.Told.{Told}
use Rattle.session_run.specs.ToldCalls.{AreTold, places_told}

-- a pass is a session's, and no lead
pub record WorksFor (pass : Pass) (session : ℕ) : Type 0 where
  pub follows : is_lead pass ≡ false
  pub session_is : (view_of pass).session ≡ session

-- each of these calls asks for what a text or a session's end can give
abbrev pub AreReadable : List (ℕ × Request) → Type 0
AreReadable calls = AllByRecursion (λ asked. IsReadable asked.1) calls

-- the database over which the turn's history is made
abbrev pub base_of : Pass → Db
base_of pass = (start_of pass).base

-- A call was made under the turn: it found a history that begins with what its pass had seen, and left it with the call's
-- entry, or as it was. The pass has seen that, and knows the place.
pub record MakesByPass {S : Type 0} (shows : S → Db) (old new : Pass) (call : Entry) (step : Step S) : Type 0 where
  pub found : History
  pub left : History
  pub begins : IsPrefix (seen old) found
  pub steps : Steps shows (base_of old) found left call step
  pub serial : Serial (base_of old) left
  pub view : view_of new ≡ released (counted (holding (view_of old) found) left)

-- what no call of its session changes of a pass: its session, the turn's start, and that it is no lead
pub record StaysThatOf (old new : Pass) : Type 0 where
  pub lead : is_lead new ≡ is_lead old
  pub session : (view_of new).session ≡ (view_of old).session
  pub base : base new ≡ base old
  pub start : start_of new ≡ start_of old

-- The holder of a pass made these calls of its session, in their order, and told each as the history has it that the pass
-- has seen in the end. That begins with what it had seen, and the calls' places come behind those that it had.
pub record ServesCalls (old new : Pass) (session : SessionNo) (calls : List (ℕ × Request)) (tolds : List Told) : Type 0 where
  pub stays : StaysThatOf old new
  pub grows : IsPrefix (seen old) (seen new)
  pub told : AreTold (base_of old) (seen new) session calls tolds
  pub places : places new ≡ places old ++ places_told tolds
  pub serial : Serial (base_of old) (seen old) → Serial (base_of old) (seen new)
