-- What a statement outside a transaction is answered, over the state that is kept.
use Rattle.std.proofs.Common.{◌≡◌, ◌∙◌, ℕ, true, false, ap, refl, sym, subst}
use Rattle.std.specs.Prelude.{Option, None, Some, Ok, Err, find, option_map}
use Rattle.own_base.specs.declared.number.SessionNo.{SessionNo}
use Rattle.own_model.specs.declared.bound.Bound.{Bound}
use Rattle.own_model.specs.declared.history.Verdict.{Verdict}
use Rattle.own_model.specs.declared.refusal.Refusal.{Refusal}
use Rattle.own_model.specs.declared.refusal.Refusal.TheVariants.{Busy}
use Rattle.own_model.specs.declared.reply.Reply.TheVariants.{Refused}
use Rattle.own_model.specs.declared.request.Request.TheVariants.{Run}
use Rattle.own_model.specs.declared.schema.Schema.{Schema}
use Rattle.own_model.specs.declared.statement.Statement.{Statement}
use Rattle.own_model.specs.declared.statement.Statement.TheVariants.{CreateTable, CreateView, Explain}
use Rattle.own_model.specs.declared.statement.Statement.TheVariants as of
use Rattle.own_model.specs.Db.{Db}
use Rattle.query_model.specs.BoundStatement.{bound_statement}
use Rattle.run_model.specs.Items.{TakesRows}
use Rattle.run_model.specs.Run.{run}
use Rattle.history_model.specs.Held.{lowest_other, others}
use Rattle.history_model.specs.History.{forgotten}
use Rattle.history_model.specs.Reply.{create_reply, reply_outside, unless_busy}
use Rattle.history_model.specs.World.{World}
use Rattle.txn_core.specs.SessionStates.{is_open, state_by}
use Rattle.txn_core.proofs.RepresentsSteps.{represents_lowest}
use Rattle.engine_core.specs.Answered.{bound_reply}
use Rattle.engine_core.specs.Asked.{IsBound, IsCreate, RunsByItself, has_place_inside}
use Rattle.engine_core.specs.RepresentsWorld.{RepresentsWorld}
use Rattle.engine_core.specs.declared.state.State.{State}
use Rattle.engine_core.proofs.BoundStatements.{reply-bound, reply-refused}

-- one that has a place in a transaction, and doesn't end it, takes rows
pub takes-place : (asked : Statement) → has_place_inside asked ≡ true → (asked ≡ of.Commit → ⊥) → (asked ≡ of.Rollback → ⊥) → TakesRows asked
takes-place (of.Select select) place commit rollback = tt
takes-place (of.Insert table columns rows) place commit rollback = tt
takes-place (of.Update table sets cond) place commit rollback = tt
takes-place (of.Delete table cond) place commit rollback = tt
takes-place of.Commit place commit rollback = absurd (commit refl)
takes-place of.Rollback place commit rollback = absurd (rollback refl)
takes-place _ place commit rollback = let never : false ≡ true = place in absurd (cc)

-- one that neither lays the store anew nor has to do with transactions runs by itself
pub runs-itself : (asked : Statement) → (asked ≡ of.Checkpoint → ⊥) → (asked ≡ of.Begin → ⊥) → (asked ≡ of.Commit → ⊥) → (asked ≡ of.Rollback → ⊥) → RunsByItself asked
runs-itself of.Checkpoint checkpoint begin commit rollback = checkpoint refl
runs-itself of.Begin checkpoint begin commit rollback = begin refl
runs-itself of.Commit checkpoint begin commit rollback = commit refl
runs-itself of.Rollback checkpoint begin commit rollback = rollback refl
runs-itself (CreateTable table) checkpoint begin commit rollback = tt
runs-itself (CreateView view) checkpoint begin commit rollback = tt
runs-itself (of.Insert table columns rows) checkpoint begin commit rollback = tt
runs-itself (of.Update table sets cond) checkpoint begin commit rollback = tt
runs-itself (of.Delete table cond) checkpoint begin commit rollback = tt
runs-itself (of.Select select) checkpoint begin commit rollback = tt
runs-itself (of.GdprGet table key) checkpoint begin commit rollback = tt
runs-itself (of.GdprForget table key) checkpoint begin commit rollback = tt
runs-itself Explain checkpoint begin commit rollback = tt

-- a CREATE forgets nobody
pub nobody-create : (schema : Schema) (asked : Statement) → IsCreate asked → forgotten schema (Run asked) ≡ None
nobody-create schema (CreateTable table) create = refl
nobody-create schema (CreateView view) create = refl
nobody-create schema _ create = absurd create

module _ (state : State) (world : World) (stands : RepresentsWorld state world) (session : ℕ) where
  -- one that is bound is answered as what it means
  pub reply-meant_in : (verdict : Verdict) (asked : Statement) (got : Bound) → IsBound asked → bound_statement state.version.schema asked ≡ Ok got
      → reply_outside world session verdict asked ≡ bound_reply world state.version session got verdict
  reply-meant_in verdict asked got bound is =
      reply-bound world session verdict asked got bound (subst (λ (db : Db). bound_statement db.schema asked ≡ Ok got) stands.flat is)
      ∙ ap (λ db. bound_reply world db session got verdict) (sym stands.flat)

  -- and one that binding refuses is told why
  pub reply-refused_in : (verdict : Verdict) (asked : Statement) (why : Refusal) → IsBound asked → bound_statement state.version.schema asked ≡ Err why
      → reply_outside world session verdict asked ≡ Refused why
  reply-refused_in verdict asked why bound is = reply-refused world session verdict asked why bound (subst (λ (db : Db). bound_statement db.schema asked ≡ Err why) stands.flat is)

  -- who keeps a CREATE waiting
  pub lowest-in : (given : Option SessionNo) → option_map (λ (other : SessionNo). other.0) given ≡ find (λ other. is_open (state_by state.txns.states other)) (others session)
      → option_map (λ (other : SessionNo). other.0) given ≡ lowest_other world session
  lowest-in given is = is ∙ represents_lowest world state.txns.states stands.states session

  busy_step : (verdict : Verdict) (asked : Statement) → IsCreate asked → reply_outside world session verdict asked ≡ unless_busy (lowest_other world session) (create_reply verdict (run world.flat asked))
  busy_step verdict (CreateTable table) create = refl
  busy_step verdict (CreateView view) create = refl
  busy_step verdict _ create = absurd create

  pub reply-busy : (verdict : Verdict) (asked : Statement) → IsCreate asked → (other : SessionNo) (given : Option SessionNo) → given ≡ Some other
      → option_map (λ (other : SessionNo). other.0) given ≡ find (λ other. is_open (state_by state.txns.states other)) (others session)
      → reply_outside world session verdict asked ≡ Refused (Busy other)
  reply-busy verdict asked create other given is lowest =
      let found : lowest_other world session ≡ Some other.0 = sym (lowest-in given lowest) ∙ ap (option_map (λ (other : SessionNo). other.0)) is in
      busy_step verdict asked create ∙ ap (λ found. unless_busy found (create_reply verdict (run world.flat asked))) found

  pub reply-create : (verdict : Verdict) (asked : Statement) → IsCreate asked → (given : Option SessionNo) → given ≡ None
      → option_map (λ (other : SessionNo). other.0) given ≡ find (λ other. is_open (state_by state.txns.states other)) (others session)
      → reply_outside world session verdict asked ≡ create_reply verdict (run state.version asked)
  reply-create verdict asked create given is lowest =
      let none : lowest_other world session ≡ None = sym (lowest-in given lowest) ∙ ap (option_map (λ (other : SessionNo). other.0)) is in
      busy_step verdict asked create
      ∙ (ap (λ found. unless_busy found (create_reply verdict (run world.flat asked))) none ∙ ap (λ db. create_reply verdict (run db asked)) (sym stands.flat))
