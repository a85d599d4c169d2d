-- A statement as binding answers it.
use Rattle.std.proofs.Common.{◌≡◌, ℕ, List, [], cond, true, false, not, refl, ap, subst, sym, ◌∙◌}
use Rattle.std.specs.Prelude.{None, Ok, Err}
use Rattle.std.proofs.Math.Bool.{and-false}
use Rattle.own_model.specs.declared.bound.Bound.{Bound}
use Rattle.own_model.specs.declared.history.Verdict.{Verdict}
use Rattle.own_model.specs.declared.refusal.Refusal.{Refusal}
use Rattle.own_model.specs.declared.footprint.FootItem.{FootItem}
use Rattle.own_model.specs.declared.reply.Reply.{Reply}
use Rattle.own_model.specs.declared.reply.Reply.TheVariants.{Refused}
use Rattle.own_model.specs.declared.request.Request.{Request}
use Rattle.own_model.specs.declared.request.Request.TheVariants.{Run}
use Rattle.own_model.specs.declared.schema.Schema.{Schema}
use Rattle.own_model.specs.declared.statement.Statement.{Statement}
use Rattle.own_model.specs.declared.statement.Statement.TheVariants as statement
use Rattle.own_model.specs.Db.{Db}
use Rattle.query_model.specs.BoundStatement.{bound_statement, faults, meaning}
use Rattle.query_model.specs.Refused.{lowest}
use Rattle.readable_model.proofs.Sources.{source_is_there}
use Rattle.run_model.specs.Run.{Outcome, answered, run, run_bound}
use Rattle.history_model.specs.History.{forgotten, lie_on}
use Rattle.history_model.specs.Reply.{forget_reply, is_refusal, reply_outside}
use Rattle.history_model.specs.World.{World}
use Rattle.history_model.proofs.SubjectLemmas.{subject-bound}
use Rattle.run_model.specs.Items.{TakesRows}
use Rattle.run_model.proofs.Outcomes.{bound-ok}
use Rattle.txn_core.specs.Runs.{IsRowStatement}
use Rattle.write_eval.proofs.BoundWrites.{bound_write}
use Rattle.crash_model.specs.Room.{written_by}
use Rattle.engine_core.specs.Answered.{Erases, ErasesBound, bound_reply, bound_written, erases, erases_bound}
use Rattle.engine_core.specs.Asked.{IsBound, IsMeant}
use Rattle.engine_core.specs.declared.answer.Answer.{Answer}

-- what a statement means that binding lets through, and that changes rows, is a write, or a FORGET by a row of a table of data subjects
meant_there : (schema : Schema) (found : Statement) → IsBound found → bound_statement schema found ≡ Ok (meaning schema found) → lowest (faults schema found) ≡ None
    → IsMeant schema (meaning schema found)
unfolding meaning faults
meant_there schema (statement.Insert name names tuples) bound is told = bound_write schema (statement.Insert name names tuples) _ is tt
meant_there schema (statement.Update name sets cond) bound is told = bound_write schema (statement.Update name sets cond) _ is tt
meant_there schema (statement.Delete name cond) bound is told = bound_write schema (statement.Delete name cond) _ is tt
meant_there schema (statement.GdprForget name key) bound is told = subject-bound schema name key told
meant_there schema _ bound is told = absurd bound

pub meant-bound : (schema : Schema) (found : Statement) (got : Bound) → IsBound found → bound_statement schema found ≡ Ok got → IsMeant schema got
meant-bound schema found got bound is =
    let by = bound-ok schema found got is in
    subst (IsMeant schema) by.1 (meant_there schema found bound (is ∙ ap (λ meant. Ok meant) (sym by.1)) by.0)

-- it runs as what it means
run-meant : (db : Db) (found : Statement) → IsBound found → bound_statement db.schema found ≡ Ok (meaning db.schema found) → run db found ≡ run_bound db (meaning db.schema found)
unfolding run
run-meant db (statement.Insert name names tuples) bound is = rw is refl
run-meant db (statement.Update name sets cond) bound is = rw is refl
run-meant db (statement.Delete name cond) bound is = rw is refl
run-meant db (statement.GdprForget name key) bound is = rw is refl
run-meant db _ bound is = absurd bound

pub run-bound : (db : Db) (found : Statement) (got : Bound) → IsBound found → bound_statement db.schema found ≡ Ok got → run db found ≡ run_bound db got
run-bound db found got bound is =
    let by = bound-ok db.schema found got is in
    run-meant db found bound (is ∙ ap (λ meant. Ok meant) (sym by.1)) ∙ ap (run_bound db) by.1

-- one that takes rows is a select whose source is there, or a write
row_there : (schema : Schema) (found : Statement) → TakesRows found → bound_statement schema found ≡ Ok (meaning schema found) → lowest (faults schema found) ≡ None
    → IsRowStatement schema (meaning schema found)
unfolding meaning faults
row_there schema (statement.Select select) takes is told = source_is_there schema select told
row_there schema (statement.Insert name names tuples) takes is told = bound_write schema (statement.Insert name names tuples) _ is tt
row_there schema (statement.Update name sets cond) takes is told = bound_write schema (statement.Update name sets cond) _ is tt
row_there schema (statement.Delete name cond) takes is told = bound_write schema (statement.Delete name cond) _ is tt
row_there schema _ takes is told = absurd takes

pub row-bound : (schema : Schema) (found : Statement) (got : Bound) → TakesRows found → bound_statement schema found ≡ Ok got → IsRowStatement schema got
row-bound schema found got takes is =
    let by = bound-ok schema found got is in
    subst (IsRowStatement schema) by.1 (row_there schema found takes (is ∙ ap (λ meant. Ok meant) (sym by.1)) by.0)

run-refused : (db : Db) (found : Statement) (why : Refusal) → IsBound found → bound_statement db.schema found ≡ Err why → run db found ≡ answered db (Refused why)
unfolding run
run-refused db (statement.Insert name names tuples) why bound is = rw is refl
run-refused db (statement.Update name sets cond) why bound is = rw is refl
run-refused db (statement.Delete name cond) why bound is = rw is refl
run-refused db (statement.GdprForget name key) why bound is = rw is refl
run-refused db _ why bound is = absurd bound

-- Outside a transaction it is answered as what it means, whatever the disk says.
module _ (world : World) (session : ℕ) (verdict : Verdict) where
  reply-meant : (found : Statement) → IsBound found → bound_statement world.flat.schema found ≡ Ok (meaning world.flat.schema found)
      → run world.flat found ≡ run_bound world.flat (meaning world.flat.schema found)
      → reply_outside world session verdict found ≡ bound_reply world world.flat session (meaning world.flat.schema found) verdict
  unfolding meaning
  reply-meant (statement.Insert name names tuples) bound is runs = rw (is, runs) refl
  reply-meant (statement.Update name sets cond) bound is runs = rw (is, runs) refl
  reply-meant (statement.Delete name cond) bound is runs = rw (is, runs) refl
  reply-meant (statement.GdprForget name key) bound is runs = rw runs refl
  reply-meant _ bound is runs = absurd bound

  pub reply-bound : (found : Statement) (got : Bound) → IsBound found → bound_statement world.flat.schema found ≡ Ok got
      → reply_outside world session verdict found ≡ bound_reply world world.flat session got verdict
  reply-bound found got bound is =
      let by = bound-ok world.flat.schema found got is in
      let meant = is ∙ ap (λ meant. Ok meant) (sym by.1) in
      reply-meant found bound meant (run-bound world.flat found (meaning world.flat.schema found) bound meant) ∙ ap (λ meant. bound_reply world world.flat session meant verdict) by.1

  reply-step : (found : Statement) (why : Refusal) → IsBound found → bound_statement world.flat.schema found ≡ Err why → run world.flat found ≡ answered world.flat (Refused why)
      → reply_outside world session verdict found ≡ Refused why
  reply-step (statement.Insert name names tuples) why bound is runs = rw is refl
  reply-step (statement.Update name sets cond) why bound is runs = rw is refl
  reply-step (statement.Delete name cond) why bound is runs = rw is refl
  reply-step (statement.GdprForget name key) why bound is runs = ap (λ (outcome : Outcome). forget_reply verdict outcome) runs
  reply-step _ why bound is runs = absurd bound

  -- one that binding refuses is told why
  pub reply-refused : (found : Statement) (why : Refusal) → IsBound found → bound_statement world.flat.schema found ≡ Err why → reply_outside world session verdict found ≡ Refused why
  reply-refused found why bound is = reply-step found why bound is (run-refused world.flat found why bound is)

-- What it erases is what its meaning does.
erases-meant : (db : Db) (found : Statement) (reply : Reply) (items : List FootItem) → IsBound found
    → erases db (Run found) reply items ≡ erases_bound db (meaning db.schema found) reply items
unfolding meaning
erases-meant db (statement.Insert name names tuples) reply items bound = and-false (not (is_refusal reply))
erases-meant db (statement.Update name sets cond) reply items bound = and-false (not (is_refusal reply))
erases-meant db (statement.Delete name cond) reply items bound = and-false (not (is_refusal reply))
erases-meant db (statement.GdprForget name key) reply items bound = refl
erases-meant db _ reply items bound = absurd bound

pub erases-as_bound : (db : Db) (found : Statement) (got : Bound) (answer : Answer) → IsBound found → bound_statement db.schema found ≡ Ok got → ErasesBound db got answer
    → Erases db (Run found) answer
erases-as_bound db found got answer bound is erased =
    let by = bound-ok db.schema found got is in
    λ items. erased items ∙ sym (erases-meant db found answer.reply items bound ∙ ap (λ meant. erases_bound db meant answer.reply items) by.1)

-- and what it writes is what its meaning does
written-meant : (db behind : Db) (number : ℕ) (found : Statement) → IsBound found → bound_written db number (meaning db.schema found) behind ≡ written_by db (Run found) behind number
unfolding meaning
written-meant db behind number (statement.Insert name names tuples) bound = refl
written-meant db behind number (statement.Update name sets cond) bound = refl
written-meant db behind number (statement.Delete name cond) bound = refl
written-meant db behind number (statement.GdprForget name key) bound = refl
written-meant db behind number _ bound = absurd bound

pub written-as_bound : (db behind : Db) (number : ℕ) (found : Statement) (got : Bound) → IsBound found → bound_statement db.schema found ≡ Ok got
    → bound_written db number got behind ≡ written_by db (Run found) behind number
written-as_bound db behind number found got bound is =
    ap (λ meant. bound_written db number meant behind) (sym (bound-ok db.schema found got is).1) ∙ written-meant db behind number found bound

-- a refusal erases nothing
refused_step : (db : Db) (request : Request) (reply : Reply) (items : List FootItem) → is_refusal reply ≡ true → erases db request reply items ≡ false
refused_step db request reply items refused = rw refused refl

pub erases-refused : (db : Db) (request : Request) (why : Refusal) (answer : Answer) → answer.reply ≡ Refused why → answer.erased ≡ [] → Erases db request answer
erases-refused db request why answer told none =
    λ items. ap (λ names. lie_on names items) none ∙ sym (refused_step db request answer.reply items (ap is_refusal told))

-- nor does a request that forgets nobody
pub erases-nobody : (db : Db) (request : Request) (answer : Answer) → forgotten db.schema request ≡ None → answer.erased ≡ [] → Erases db request answer
erases-nobody db request answer nobody none = λ items. ap (λ names. lie_on names items) none ∙ sym (rw nobody (and-false (not (is_refusal answer.reply))))
