-- The jobs of the workers, before and after.
use Rattle.std.specs.Prelude.{◌≡◌, ◌≢◌, ◌<◌, ◌≤◌, ℕ, List, [], fold, length, vec_capacity}
use Rattle.std.specs.List.{AllByRecursion}
use mathlib.Core.List.{IsPrefix}
use Rattle.atomic_table.specs.Seated.{TableId}
use Rattle.own_model.specs.Db.{Db}
use Rattle.history_model.specs.Serial.{Serial}
use Rattle.commit_turn.specs.declared.pass.Pass.{Pass}
use Rattle.commit_turn.specs.declared.view.Stage.TheVariants.{Joined}
use Rattle.commit_turn.specs.declared.view.View.{View}
use Rattle.commit_turn.specs.Passes.{IsPassOf, base, is_lead, places, seen, start_of, view_of}
use Rattle.commit_turn.specs.Rule.{stage_of}
use Rattle.commit_turn.specs.Steps.{lead_without, split_off}
use Rattle.session_run.specs.declared.replies.SessionReplies.{SessionReplies}
use Rattle.session_run.specs.declared.sessions.Job.{Job}
use Rattle.session_run.specs.declared.sessions.Plan.{Plan}
use Rattle.session_run.specs.Serving.{ServesCalls, WorksFor}
use Rattle.session_run.specs.Sessions.{IsServable}

-- the number of a plan's session
abbrev pub number_of : Plan → ℕ
number_of plan = plan.calls.session.0

-- nothing is told yet, and there is room for what will be
pub record HasRoom (plan : Plan) : Type 0 where
  pub none : plan.tolds.items ≡ []
  pub room : length plan.calls.calls ≤ vec_capacity plan.tolds

-- the lead when a pass of each of these sessions was split off
abbrev pub lead_sent : List ℕ → View → View
lead_sent sessions view = fold (λ lead session. lead_without session lead) view sessions

-- a job's pass was split off the lead for its session
pub record IsSentFrom (turn : TableId) (lead : View) (job : Job) : Type 0 where
  pub pass : IsPassOf turn job.pass
  pub view : view_of job.pass ≡ split_off (number_of job.plan) lead

-- a job may be begun
pub record IsReady (turn : TableId) (job : Job) : Type 0 where
  pub pass : IsPassOf turn job.pass
  pub worker : WorksFor job.pass (number_of job.plan)
  pub calls : IsServable job.plan.calls
  pub room : HasRoom job.plan

-- a job was done: its calls were made, and each is told
pub record DoesJob (turn : TableId) (old new : Job) : Type 0 where
  pub pass : IsPassOf turn new.pass
  pub session : new.plan.calls.session ≡ old.plan.calls.session
  pub serves : ServesCalls old.pass new.pass old.plan.calls.session old.plan.calls.calls new.plan.tolds.items

-- what a job tells of its session
abbrev pub replies_of : Job → SessionReplies
replies_of job = record { session = job.plan.calls.session; replies = job.plan.tolds.items }

-- a lead has a place for each of these sessions
abbrev pub HasPlaces : View → List ℕ → Type 0
HasPlaces lead sessions = AllByRecursion (λ session. session < length lead.stages) sessions

-- a job's pass was joined to the lead, which has seen what it had, and keeps its places
pub record IsJoined (lead : Pass) (job : Job) : Type 0 where
  pub grows : IsPrefix (seen job.pass) (seen lead)
  pub stage : stage_of (view_of lead) (number_of job.plan) ≡ Joined (places job.pass)

-- The passes of jobs were joined to a lead: what it has seen is what it had, or one of them, and begins with each. Of other
-- sessions it knows what it knew.
pub record AreJoined (old new : Pass) (jobs : List Job) : Type 0 where
  pub lead : is_lead new ≡ is_lead old
  pub base : base new ≡ base old
  pub start : start_of new ≡ start_of old
  pub grows : IsPrefix (seen old) (seen new)
  pub long : length (view_of new).stages ≡ length (view_of old).stages
  pub joined : AllByRecursion (IsJoined new) jobs
  pub others : (session : ℕ) → AllByRecursion (λ job. session ≢ number_of job.plan) jobs → stage_of (view_of new) session ≡ stage_of (view_of old) session
  pub serial : (over : Db) → Serial over (seen old) → AllByRecursion (λ job. Serial over (seen job.pass)) jobs → Serial over (seen new)
