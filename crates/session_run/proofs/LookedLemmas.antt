-- What a look is by a history, where memory for what it shows is refused.
use Rattle.std.proofs.Common.{◌≡◌, ℕ, ◌<◌, ◌≤◌, List, [], ◌∷◌, ◌++◌, length, refl, arith}
use Rattle.std.specs.Prelude.{Bool, true, false, ◌&&◌, Option, None, Some, if◌then◌else◌}
use Rattle.std.proofs.lemmas.List.{take-append-le}
use Rattle.std.proofs.Math.Seq.{take-append_seam}
use Rattle.own_model.specs.declared.bound.Bound.{Bound}
use Rattle.own_model.specs.declared.bound.Bound.TheVariants.{Explain}
use Rattle.own_model.specs.declared.history.Entry.{Entry}
use Rattle.own_model.specs.declared.refusal.Refusal.{Refusal}
use Rattle.own_model.specs.declared.reply.Reply.{Reply}
use Rattle.own_model.specs.declared.reply.Reply.TheVariants.{Refused}
use Rattle.own_model.specs.declared.request.Request.{Request}
use Rattle.own_model.specs.declared.request.Request.TheVariants as request
use Rattle.own_model.specs.declared.schema.Schema.{Schema}
use Rattle.own_model.specs.declared.statement.Statement.{Statement}
use Rattle.own_model.specs.declared.statement.Statement.TheVariants as statement
use Rattle.own_model.specs.Db.{Db, Row}
use Rattle.query_model.specs.BoundStatement.{bound_statement, bound_unless, meaning}
use Rattle.query_model.specs.Query.{reply_of}
use Rattle.schema_model.proofs.Places.{slice_get-append_below, slice_get-push}
use Rattle.run_model.specs.Run.{run_bound, show_subject}
use Rattle.history_model.specs.History.{History, is_disk, reply, standing, world}
use Rattle.history_model.specs.World.{SessionStanding, Outside, Open, Doomed, World}
use Rattle.history_model.proofs.HistoryLemmas.{standing-world}
use Rattle.transcript_model.specs.Printed.{is_outside, is_reading, is_shown, looks}
use Rattle.serve_model.specs.Look.{if_bound, look_of, looked_at, read_of, while_up}

-- a reply that a look shows is no fault of the disk
pub shown_is_no_fault : (reply : Reply) → is_shown reply ≡ true → is_disk reply ≡ false
shown_is_no_fault reply shown = grind arith

reply_shown : (rows : List Row) → is_shown (reply_of rows) ≡ true
reply_shown rows = grind arith

subject_shown : (test : Bool) (why : Refusal) (shown : Reply) → is_shown (Refused why) ≡ true → is_shown shown ≡ true → is_shown (if test then shown else Refused why) ≡ true
subject_shown true why shown refused is = is
subject_shown false why shown refused is = refused

-- what a subject shows, or that it isn't there
got_shown : (db : Db) (subject : _) → is_shown (show_subject db subject).reply ≡ true
unfolding show_subject
got_shown db subject = grind arith

bound_shown : (db : Db) (first : Option Refusal) (means bound : Bound) → is_shown (run_bound db means).reply ≡ true
    → if_bound (bound_unless first means) ≡ Some bound → is_shown (run_bound db bound).reply ≡ true
bound_shown db None means bound shown is =
    let same : means ≡ bound = cc in rw (← same) shown
bound_shown db (Some why) means bound shown is = let never : ⊥ = cc in absurd never

select_shown : (db : Db) (schema : Schema) (select : _) → is_shown (run_bound db (meaning schema (statement.Select select))).reply ≡ true
unfolding run_bound meaning
select_shown db schema select = reply_shown _

get_shown : (db : Db) (schema : Schema) (table : _) (key : _) → is_shown (run_bound db (meaning schema (statement.GdprGet table key))).reply ≡ true
unfolding run_bound meaning
get_shown db schema table key = got_shown db _

graph_shown : (db : Db) (bound : Bound) → Some Explain ≡ Some bound → is_shown (run_bound db bound).reply ≡ true
unfolding run_bound
graph_shown db bound is = let same : Explain ≡ bound = cc in rw (← same) refl

-- what a statement reads is shown
read_shown : (db : Db) (schema : Schema) (asked : Statement) (bound : Bound) → read_of schema asked ≡ Some bound → is_shown (run_bound db bound).reply ≡ true
unfolding bound_statement
read_shown db schema (statement.Select select) bound is = bound_shown db _ _ bound (select_shown db schema select) is
read_shown db schema (statement.GdprGet table key) bound is = bound_shown db _ _ bound (get_shown db schema table key) is
read_shown db schema statement.Explain bound is = graph_shown db bound is
read_shown db schema (statement.CreateTable table) bound is = grind arith
read_shown db schema (statement.CreateView view) bound is = grind arith
read_shown db schema (statement.Insert table columns rows) bound is = grind arith
read_shown db schema (statement.Update table sets cond) bound is = grind arith
read_shown db schema (statement.Delete table cond) bound is = grind arith
read_shown db schema statement.Begin bound is = grind arith
read_shown db schema statement.Commit bound is = grind arith
read_shown db schema statement.Rollback bound is = grind arith
read_shown db schema (statement.GdprForget table key) bound is = grind arith
read_shown db schema statement.Checkpoint bound is = grind arith

-- and it is a reading statement
reads : (schema : Schema) (asked : Statement) (bound : Bound) → read_of schema asked ≡ Some bound → is_reading (request.Run asked) ≡ true
reads schema (statement.Select select) bound is = refl
reads schema (statement.GdprGet table key) bound is = refl
reads schema statement.Explain bound is = refl
reads schema (statement.CreateTable table) bound is = grind arith
reads schema (statement.CreateView view) bound is = grind arith
reads schema (statement.Insert table columns rows) bound is = grind arith
reads schema (statement.Update table sets cond) bound is = grind arith
reads schema (statement.Delete table cond) bound is = grind arith
reads schema statement.Begin bound is = grind arith
reads schema statement.Commit bound is = grind arith
reads schema statement.Rollback bound is = grind arith
reads schema (statement.GdprForget table key) bound is = grind arith
reads schema statement.Checkpoint bound is = grind arith

-- what a look shows, and that it looks, by how its session stands
request_step : (db : Db) (schema : Schema) (standing : SessionStanding) (asked : Request) (bound : Bound) → looked_at schema standing asked ≡ Some bound
    → (is_shown (run_bound db bound).reply ≡ true) × ((is_reading asked && is_outside standing) ≡ true)
request_step db schema Outside (request.Run asked) bound is = (read_shown db schema asked bound is, rw (reads schema asked bound is) refl)
request_step db schema Outside (request.Syntax byte) bound is = let never : ⊥ = cc in absurd never
request_step db schema Outside (request.Limit passed) bound is = let never : ⊥ = cc in absurd never
request_step db schema Outside request.End bound is = let never : ⊥ = cc in absurd never
request_step db schema (Open begun block) asked bound is = let never : ⊥ = cc in absurd never
request_step db schema (Doomed by) asked bound is = let never : ⊥ = cc in absurd never

down_step : (db : Db) (schema : Schema) (down : Option ℕ) (standing : SessionStanding) (asked : Request) (bound : Bound)
    → while_up down (looked_at schema standing asked) ≡ Some bound
    → (is_shown (run_bound db bound).reply ≡ true) × ((is_reading asked && is_outside standing) ≡ true)
down_step db schema None standing asked bound is = request_step db schema standing asked bound is
down_step db schema (Some failed) standing asked bound is = let never : ⊥ = cc in absurd never

look_step : (db : Db) (now : World) (entry : Entry) (bound : Bound) → look_of now entry ≡ Some bound
    → (is_shown (run_bound db bound).reply ≡ true) × ((is_reading entry.request && is_outside (now.standing entry.session.0)) ≡ true)
unfolding look_of
look_step db now entry bound is = down_step db now.flat.schema now.down (now.standing entry.session.0) entry.request bound is

-- what a look shows is a reply in whose place `memory` may stand
pub look-shown : (db : Db) (now : World) (entry : Entry) (bound : Bound) → look_of now entry ≡ Some bound → is_shown (run_bound db bound).reply ≡ true
look-shown db now entry bound is = (look_step db now entry bound is).0

-- a look that is made looks at its place in the history
pub look-looks : (base : Db) (found : History) (entry : Entry) (bound : Bound) → look_of (world base found) entry ≡ Some bound
    → looks base (found ++ entry ∷ []) (length found) ≡ true
unfolding looks
look-looks base found entry bound is =
    rw (take-append_seam, slice_get-push, standing-world) ((look_step base (world base found) entry bound is).1)

-- a call that looks does so whatever comes later
pub looks-append : (base : Db) (history more : History) (place : ℕ) → place < length history → looks base (history ++ more) place ≡ looks base history place
unfolding looks
looks-append base history more place lt =
    let le : place ≤ length history = omega arith in
    rw (take-append-le place history more le, slice_get-append_below history more place lt) refl
