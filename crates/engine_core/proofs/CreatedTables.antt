-- What a CREATE that is admitted does to a database.
use Rattle.std.proofs.Common.{◌≡◌, ℕ, List, true, refl, sym, ap, ◌∙◌}
use Rattle.std.specs.Prelude.{Ok, Err, None, Some}
use Rattle.annot_schema.specs.declared.admitted.Admitted.{Admitted}
use Rattle.annot_schema.specs.Created.{IsAdmitted}
use Rattle.own_model.specs.declared.create.CreateTable.{CreateTable as TableCreate}
use Rattle.own_model.specs.declared.create.CreateView.{CreateView as ViewCreate}
use Rattle.own_model.specs.declared.refusal.Refusal.{Refusal}
use Rattle.own_model.specs.declared.reply.Reply.{Reply}
use Rattle.own_model.specs.declared.reply.Reply.TheVariants.{Done, Refused}
use Rattle.own_model.specs.declared.schema.ViewDef.{ViewDef}
use Rattle.own_model.specs.declared.statement.Statement.TheVariants.{CreateTable, CreateView}
use Rattle.own_model.specs.Db.{Db}
use Rattle.own_model.specs.Stored.{holds_rows}
use Rattle.query_model.specs.BoundView.{bound_view}
use Rattle.query_model.proofs.ViewFaults.{view-given, view-told}
use Rattle.schema_model.specs.Refusal.{refusal_of}
use Rattle.schema_model.specs.WithTable.{with_table}
use Rattle.store_version.specs.Added.{db_viewed, db_with}
use Rattle.text_model.specs.Canonical.{canonical}
use Rattle.state_model.specs.Create.{create, create_view, with_view}
use Rattle.state_model.specs.Fault.{fault}
use Rattle.run_model.specs.Run.{Outcome, add_view, answered, create_table}
use Rattle.history_model.specs.Reply.{create_reply}
use Rattle.crash_model.specs.Room.{Written}
use Rattle.engine_core.specs.Answered.{Tells}
use Rattle.engine_core.specs.declared.answer.Answer.{Answer}
use Rattle.engine_core.proofs.Commits.{tells-refused}

-- an outcome, by its parts
outcome : (a b : Db) (reply : Reply) → a ≡ b → ◌≡◌ {A = Outcome} (record { db = a; reply = reply }) (record { db = b; reply = reply })
outcome a b reply same = ap (λ (db : Db). record { db = db; reply = reply }) same

-- ---- tables

-- one that is admitted adds its table, its edges and its text
pub next-table : (db next : Db) (table : TableCreate) (admitted : Admitted) (text : List ℕ) → IsAdmitted db.schema (holds_rows db.rows) table admitted
    → text ≡ canonical (CreateTable table) → next ≡ db_with db admitted text → next ≡ create db table
unfolding create with_table
next-table db next table admitted text is text_is next_is = next_is ∙ (rw (is.table, is.edges, text_is) refl)

pub made-table : (db next : Db) (table : TableCreate) → refusal_of db.schema (holds_rows db.rows) table ≡ None → next ≡ create db table → create_table db table ≡ record { db = next; reply = Done }
unfolding create_table
made-table db next table none next_is = rw none (outcome (create db table) next Done (sym next_is))

table-refused : (db : Db) (table : TableCreate) (why : Refusal) → refusal_of db.schema (holds_rows db.rows) table ≡ Some why → create_table db table ≡ answered db (Refused why)
unfolding create_table
table-refused db table why is = rw is refl

-- one that is refused is told why, and the database is left
pub tells-uncreated : {written : Written} (db : Db) (table : TableCreate) (why : Refusal) (answer : Answer) → refusal_of db.schema (holds_rows db.rows) table ≡ Some why → answer.reply ≡ Refused why
    → answer.next ≡ None → Tells db true written (λ verdict. create_reply verdict (create_table db table)) (create_table db table).db answer
tells-uncreated db table why answer is told stays =
    let made = table-refused db table why is in
    tells-refused db (create_table db table).db true _ why answer (λ verdict. rw made refl) told stays

-- ---- views

-- a view that is bound adds itself and its text
pub next-view : (db next : Db) (view : ViewCreate) (definition : ViewDef) (text : List ℕ) → bound_view db.schema view ≡ Ok definition
    → text ≡ canonical (CreateView view) → next ≡ db_viewed db definition text → next ≡ create_view db view
unfolding create_view with_view
next-view db next view definition text is text_is next_is =
    let by = view-given db.schema view definition is in
    next_is ∙ (rw (by.1, text_is) refl)

pub made-view : (db next : Db) (view : ViewCreate) (definition : ViewDef) → bound_view db.schema view ≡ Ok definition → next ≡ create_view db view → add_view db view ≡ record { db = next; reply = Done }
unfolding add_view
made-view db next view definition is next_is =
    let by = view-given db.schema view definition is in
    rw by.0 (outcome (create_view db view) next Done (sym next_is))

view-refused : (db : Db) (view : ViewCreate) (why : Refusal) → bound_view db.schema view ≡ Err why → add_view db view ≡ answered db (Refused why)
unfolding add_view
view-refused db view why is = rw (view-told db.schema view why is) refl

-- one that is refused is told why, and the database is left
pub tells-unviewed : {written : Written} (db : Db) (view : ViewCreate) (why : Refusal) (answer : Answer) → bound_view db.schema view ≡ Err why → answer.reply ≡ Refused why → answer.next ≡ None
    → Tells db true written (λ verdict. create_reply verdict (add_view db view)) (add_view db view).db answer
tells-unviewed db view why answer is told stays =
    let made = view-refused db view why is in
    tells-refused db (add_view db view).db true _ why answer (λ verdict. rw made refl) told stays

-- so is one that would weigh too much
pub tells-heavy : {written : Written} (db : Db) (view : ViewCreate) (definition : ViewDef) (why : Refusal) (answer : Answer) → bound_view db.schema view ≡ Ok definition → fault (create_view db view) ≡ Some why
    → answer.reply ≡ Refused why → answer.next ≡ None → Tells db true written (λ verdict. create_reply verdict (add_view db view)) (add_view db view).db answer
tells-heavy db view definition why answer is heavy told stays =
    let made = made-view db (create_view db view) view definition is refl in
    tells-refused db (add_view db view).db true _ why answer (λ verdict. rw (made, heavy) refl) told stays
