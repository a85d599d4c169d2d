-- A look's answer.
use Rattle.std.proofs.Common.{◌≡◌, ℕ, [], ◌∷◌, ◌++◌, length, arith, ap, sym, ◌∙◌}
use Rattle.std.specs.Prelude.{Option, Some, None, Result, Ok, Err}
use Rattle.own_model.specs.declared.bound.Bound.{Bound}
use Rattle.own_model.specs.declared.bound.Bound.TheVariants.{Explain}
use Rattle.own_model.specs.declared.history.Entry.{Entry}
use Rattle.own_model.specs.declared.history.Verdict.{Verdict}
use Rattle.own_model.specs.declared.refusal.Refusal.{Refusal}
use Rattle.own_model.specs.declared.request.Request.{Request}
use Rattle.own_model.specs.declared.request.Request.TheVariants.{Run, Syntax, Limit, End}
use Rattle.own_model.specs.declared.schema.Schema.{Schema}
use Rattle.own_model.specs.declared.statement.Statement.{Statement}
use Rattle.own_model.specs.declared.statement.Statement.TheVariants as statement
use Rattle.own_model.specs.Db.{Db}
use Rattle.run_model.specs.Run.{run, run_bound, run_unless}
use Rattle.history_model.specs.AsksDisk.{under}
use Rattle.history_model.specs.History.{History, flat, reply, world}
use Rattle.history_model.specs.Reply.{answer, reply_in, reply_outside, unless_down}
use Rattle.history_model.specs.World.{SessionStanding, Outside, Open, Doomed, World}
use Rattle.history_model.proofs.HistoryLemmas.{flat-world, reply-last}
use Rattle.serve_model.specs.Look.{IsLook, if_bound, look_of, looked_at, read_of, while_up}

-- a bound statement that there is, is the one bound to
meant : (result : Result Bound Refusal) (bound : Bound) → if_bound result ≡ Some bound → result ≡ Ok bound
meant (Ok found) bound is = grind arith
meant (Err why) bound is = grind arith

-- what runs unless binding refuses it, where binding doesn't
runs : (db : Db) (result : Result Bound Refusal) (bound : Bound) → if_bound result ≡ Some bound → (run_unless db result).reply ≡ (run_bound db bound).reply
runs db result bound is = ap (λ known. (run_unless db known).reply) (meant result bound is)

-- the one that EXPLAIN is
explains : (bound : Bound) → Some Explain ≡ Some bound → Explain ≡ bound
explains bound is = grind arith

-- a statement that reads, outside a transaction
outside_step : (now : World) (session : ℕ) (verdict : Verdict) (asked : Statement) (bound : Bound)
    → read_of now.flat.schema asked ≡ Some bound → reply_outside now session verdict asked ≡ (run_bound now.flat bound).reply
unfolding run run_bound
outside_step now session verdict (statement.Select select) bound is = runs now.flat _ bound is
outside_step now session verdict (statement.GdprGet table key) bound is = runs now.flat _ bound is
outside_step now session verdict statement.Explain bound is = ap (λ known. (run_bound now.flat known).reply) (explains bound is)
outside_step now session verdict (statement.CreateTable table) bound is = grind arith
outside_step now session verdict (statement.CreateView view) bound is = grind arith
outside_step now session verdict (statement.Insert table columns rows) bound is = grind arith
outside_step now session verdict (statement.Update table sets cond) bound is = grind arith
outside_step now session verdict (statement.Delete table cond) bound is = grind arith
outside_step now session verdict statement.Begin bound is = grind arith
outside_step now session verdict statement.Commit bound is = grind arith
outside_step now session verdict statement.Rollback bound is = grind arith
outside_step now session verdict (statement.GdprForget table key) bound is = grind arith
outside_step now session verdict statement.Checkpoint bound is = grind arith

-- a request of a session that stands so
request_step : (now : World) (session : ℕ) (verdict : Verdict) (standing : SessionStanding) (request : Request) (bound : Bound)
    → looked_at now.flat.schema standing request ≡ Some bound → reply_in now session verdict standing request ≡ (run_bound now.flat bound).reply
request_step now session verdict Outside (Run asked) bound is = outside_step now session verdict asked bound is
request_step now session verdict Outside (Syntax byte) bound is = grind arith
request_step now session verdict Outside (Limit passed) bound is = grind arith
request_step now session verdict Outside End bound is = grind arith
request_step now session verdict (Open begun block) request bound is = grind arith
request_step now session verdict (Doomed by) request bound is = grind arith

-- unless the disk has failed
down_step : (now : World) (session : ℕ) (verdict : Verdict) (down : Option ℕ) (standing : SessionStanding) (request : Request) (bound : Bound)
    → while_up down (looked_at now.flat.schema standing request) ≡ Some bound
    → unless_down down (reply_in now session verdict standing request) ≡ (run_bound now.flat bound).reply
down_step now session verdict None standing request bound is = request_step now session verdict standing request bound is
down_step now session verdict (Some failed) standing request bound is = grind arith

-- a look is answered as its bound statement is by the flat database
pub look-answered : (now : World) (entry : Entry) (bound : Bound) (verdict : Verdict) → look_of now entry ≡ Some bound
    → answer now (under verdict entry) ≡ (run_bound now.flat bound).reply
unfolding answer look_of
look-answered now entry bound verdict is = down_step now entry.session.0 verdict now.down (now.standing entry.session.0) entry.request bound is

-- and so it is at its place in a history
pub look-replied : (base : Db) (before : History) (entry : Entry) (bound : Bound) → look_of (world base before) entry ≡ Some bound
    → reply base (before ++ entry ∷ []) (length before) ≡ Some (run_bound (flat base before) bound).reply
look-replied base before entry bound is = reply-last base before entry
    ∙ (ap (λ told. Some told) (look-answered (world base before) entry bound entry.verdict is) ∙ ap (λ db. Some (run_bound db bound).reply) (sym (flat-world base before)))

-- some look reads it
request_asked : (schema : Schema) (standing : SessionStanding) (request : Request) (bound : Bound) → looked_at schema standing request ≡ Some bound → IsLook schema bound
request_asked schema Outside (Run asked) bound is = record { asked = asked; reads = is }
request_asked schema Outside (Syntax byte) bound is = grind arith
request_asked schema Outside (Limit passed) bound is = grind arith
request_asked schema Outside End bound is = grind arith
request_asked schema (Open begun block) request bound is = grind arith
request_asked schema (Doomed by) request bound is = grind arith

down_asked : (schema : Schema) (down : Option ℕ) (standing : SessionStanding) (request : Request) (bound : Bound)
    → while_up down (looked_at schema standing request) ≡ Some bound → IsLook schema bound
down_asked schema None standing request bound is = request_asked schema standing request bound is
down_asked schema (Some failed) standing request bound is = grind arith

pub look-asked : (now : World) (entry : Entry) (bound : Bound) → look_of now entry ≡ Some bound → IsLook now.flat.schema bound
unfolding look_of
look-asked now entry bound is = down_asked now.flat.schema now.down (now.standing entry.session.0) entry.request bound is
