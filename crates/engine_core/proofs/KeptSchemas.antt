-- A store has as many creates as before just where its schema is as it was.
use Rattle.std.proofs.Common.{◌≡◌, ◌∙◌, ℕ, ◌+◌, ◌≤◌, [], ◌∷◌, ◌++◌, Bool, true, false, Option, None, Some, length, refl, ap, sym, subst, arith, append_assoc, append-nil, length-append}
use Rattle.std.specs.Prelude.{if◌then◌else◌}
use mathlib.Core.List.{IsPrefix}
use Rattle.own_model.specs.declared.create.CreateTable.{CreateTable as TableCreate}
use Rattle.own_model.specs.declared.create.CreateView.{CreateView as ViewCreate}
use Rattle.own_model.specs.declared.history.Entry.{Entry}
use Rattle.own_model.specs.declared.refusal.Refusal.{Refusal}
use Rattle.own_model.specs.declared.request.Request.{Request}
use Rattle.own_model.specs.declared.request.Request.TheVariants.{Run}
use Rattle.own_model.specs.declared.schema.CreateText.{CreateText}
use Rattle.own_model.specs.declared.statement.Statement.{Statement}
use Rattle.own_model.specs.declared.statement.Statement.TheVariants as statement
use Rattle.own_model.specs.Db.{Db}
use Rattle.query_model.specs.BoundStatement.{bound_statement}
use Rattle.state_model.specs.Create.{create, create_view}
use Rattle.state_model.specs.Sound.{Sound}
use Rattle.run_model.specs.Run.{add_view, create_table, create_unless, run, view_unless}
use Rattle.run_model.proofs.SameSchema.{IsSameSchema}
use Rattle.history_model.specs.Commits.{is_create}
use Rattle.history_model.specs.History.{History, flat, left_by, world as world_of}
use Rattle.history_model.specs.Reply.{answer, is_refusal}
use Rattle.history_model.specs.Serial.{IsHistory}
use Rattle.history_model.specs.World.{SessionStanding, Outside, Open, Doomed}
use Rattle.history_model.proofs.EveryHistory.{serial-world}
use Rattle.history_model.proofs.HistoryLemmas.{flat-append, flat-world}
use Rattle.crash_model.proofs.FlatLemmas.{history-front, same_left}
use Rattle.serve_model.specs.declared.ahead.Ahead.{Ahead}
use Rattle.serve_model.specs.Ahead.{IsBoundAhead}
use Rattle.engine_core.specs.Asked.{IsMeantBy}
use Rattle.engine_core.specs.RepresentsWorld.{IsEvent}
use Rattle.engine_core.specs.declared.state.State.{State}

-- a later database has no fewer creates, and with as many the same schema
pub record Keeps (db later : Db) : Type 0 where
  pub more : length db.creates ≤ length later.creates
  pub same : length db.creates ≡ length later.creates → later.schema ≡ db.schema

keeps-same : (db later : Db) → IsSameSchema db later → Keeps db later
keeps-same db later same = record { more = (let as_many = ap length same.creates in omega arith); same = λ as_many. same.schema }

keeps-itself : (db : Db) → Keeps db db
keeps-itself db = record { more = (omega arith); same = λ as_many. refl }

keeps-trans : (db later last : Db) → Keeps db later → Keeps later last → Keeps db last
keeps-trans db later last first next = record {
  more = (let a = first.more in let b = next.more in omega arith);
  same = λ as_many. next.same (let a = first.more in let b = next.more in omega arith) ∙ first.same (let a = first.more in let b = next.more in omega arith);
}

-- a create has one more
keeps-longer : (db later : Db) (text : CreateText) → later.creates ≡ db.creates ++ text ∷ [] → Keeps db later
keeps-longer db later text longer =
    let count : length later.creates ≡ length db.creates + 1 = ap length longer ∙ length-append db.creates (text ∷ []) in
    record { more = (omega arith); same = λ as_many. absurd (omega arith) }

keeps-table : (db : Db) (table : TableCreate) (fault : Option Refusal) → Keeps db (create_unless db table fault).db
unfolding create
keeps-table db table None = keeps-longer db _ _ refl
keeps-table db table (Some why) = keeps-itself db

keeps-view : (db : Db) (view : ViewCreate) (fault : Option Refusal) → Keeps db (view_unless db view fault).db
unfolding create_view
keeps-view db view None = keeps-longer db _ _ refl
keeps-view db view (Some why) = keeps-itself db

-- what a session leaves by a create
module _ (db : Db) where
  creating : (standing : SessionStanding) (request : Request) → is_create request ≡ true → Keeps db (left_by db standing request)
  unfolding run create_table add_view
  creating Outside (Run (statement.CreateTable table)) creates = keeps-table db table _
  creating Outside (Run (statement.CreateView view)) creates = keeps-view db view _
  creating (Open begun block) (Run (statement.CreateTable table)) creates = keeps-itself db
  creating (Open begun block) (Run (statement.CreateView view)) creates = keeps-itself db
  creating (Doomed by) (Run (statement.CreateTable table)) creates = keeps-itself db
  creating (Doomed by) (Run (statement.CreateView view)) creates = keeps-itself db
  creating standing request creates = absurd (cc)

unless-refused : (refused : Bool) (db left : Db) → Keeps db left → Keeps db (if refused then db else left)
unless-refused true db left keeps = keeps-itself db
unless-refused false db left keeps = keeps

module _ (base : Db) (sound : Sound base) where
  left-keeps : (history : History) (entry : Entry) (creates : Bool) → is_create entry.request ≡ creates → IsHistory history
      → Keeps (world_of base history).flat (left_by (world_of base history).flat ((world_of base history).standing entry.session.0) entry.request)
  left-keeps history entry true is entered = creating _ _ entry.request is
  left-keeps history entry false is entered =
      keeps-same _ _ (same_left base history _ entry.session.0 _ ((serial-world base history sound entered).stands entry.session.0) entry.request is)

  entry-keeps : (history : History) (entry : Entry) → IsHistory (history ++ entry ∷ []) → Keeps (flat base history) (flat base (history ++ entry ∷ []))
  entry-keeps history entry entered =
      let now = world_of base history in
      rw (flat-append base history entry, flat-world base history)
      (unless-refused (is_refusal (answer now entry)) now.flat _ (left-keeps history entry _ refl (history-front history (entry ∷ []) entered)))

  more-keeps : (history more : History) → IsHistory (history ++ more) → Keeps (flat base history) (flat base (history ++ more))
  more-keeps history [] entered = subst (λ all. Keeps (flat base history) (flat base all)) (sym (append-nil history)) (keeps-itself (flat base history))
  more-keeps history (entry ∷ more) entered =
      let parts : (history ++ entry ∷ []) ++ more ≡ history ++ entry ∷ more = append_assoc history (entry ∷ []) more in
      let entered_parts : IsHistory ((history ++ entry ∷ []) ++ more) = subst IsHistory (sym parts) entered in
      subst (λ all. Keeps (flat base history) (flat base all)) parts
      (keeps-trans _ _ _ (entry-keeps history entry (history-front (history ++ entry ∷ []) more entered_parts)) (more-keeps (history ++ entry ∷ []) more entered_parts))

  prefix-keeps : (before history : History) → IsPrefix before history → IsHistory history → Keeps (flat base before) (flat base history)
  prefix-keeps before history begins entered =
      subst (λ all. Keeps (flat base before) (flat base all)) begins.1 (more-keeps before begins.0 (subst IsHistory (sym begins.1) entered))

-- what a statement was bound to ahead it is bound to still, where there are no more creates
pub still-meant : (state : State) (history : History) (entry : Entry) (ahead : Ahead) → IsEvent state history entry
    → IsBoundAhead state.opened history entry.request ahead → ahead.creates ≡ length state.version.creates
    → IsMeantBy state.version.schema entry.request ahead.bound
still-meant state history entry ahead event bound as_many =
    let keeps = prefix-keeps state.opened event.begun bound.before history bound.begins event.entries in
    let is : flat state.opened history ≡ state.version = flat-world state.opened history ∙ sym event.stands.flat in
    let same : state.version.schema ≡ (flat state.opened bound.before).schema =
    ap (λ db. db.schema) (sym is) ∙ keeps.same (sym bound.creates ∙ as_many ∙ ap (λ db. length db.creates) (sym is)) in
    record { asked = bound.asked; asks = bound.asks; means = ap (λ schema. bound_statement schema bound.asked) same ∙ bound.means }
