-- What a CREATE that is recorded is answered, and what it leaves.
use Rattle.std.proofs.Common.{◌≡◌, ◌+◌, ℕ, List, Bool, true, false, arith, refl, subst, sym}
use Rattle.std.specs.Prelude.{IsUtf8, None, Result, Ok, Err, nat_lt}
use Rattle.own_model.specs.declared.create.CreateTable.{CreateTable as TableCreate}
use Rattle.own_model.specs.declared.create.CreateView.{CreateView as ViewCreate}
use Rattle.own_model.specs.declared.limit.TheConstants.{STATEMENT_BYTES, STORE_WEIGHT}
use Rattle.own_model.specs.declared.reply.Reply.TheVariants.{Done}
use Rattle.own_model.specs.declared.schema.ViewDef.{ViewDef}
use Rattle.own_model.specs.declared.statement.Statement.{Statement}
use Rattle.own_model.specs.Db.{Db}
use Rattle.own_model.specs.Stored.{holds_rows}
use Rattle.text_model.specs.Canonical.{canonical}
use Rattle.schema_model.specs.Refusal.{refusal_of}
use Rattle.query_model.specs.BoundView.{bound_view}
use Rattle.grammar_model.specs.Answer.{IsAnswer, GivesStatement}
use Rattle.grammar_model.specs.Readable.{IsWritten}
use Rattle.state_model.specs.Create.{create, create_view}
use Rattle.state_model.specs.Created.{Create, OfTable, OfView, statement_of, text_of}
use Rattle.state_model.specs.Fault.{fault}
use Rattle.state_model.specs.Sound.{Sound}
use Rattle.state_model.specs.Weight.{view_weight, weight}
use Rattle.disk_model.specs.declared.commit.Commit.TheVariants as commit
use Rattle.disk_model.specs.Follows.{Follows}
use Rattle.disk_model.specs.TextOf.{IsTextOf}
use Rattle.disk_model.proofs.Spelled.{payload-spelled}
use Rattle.rec_codec.specs.Framed.{IsFramed}
use Rattle.rec_codec.specs.declared.fault.EncodeFault.{EncodeFault}
use Rattle.rec_codec.specs.declared.fault.EncodeFault.TheVariants.{TooBig}
use Rattle.commit_check.specs.declared.judged.Judged.TheVariants.{Weighs}
use Rattle.commit_replay.proofs.CreateFollows.{table-follows, view-follows}
use Rattle.commit_record.specs.Recorded.{Frames, create_commit}
use Rattle.commit_record.proofs.Texts.{kept-text-of, short-create}
use Rattle.run_model.specs.Run.{Outcome, add_view, create_table}
use Rattle.history_model.specs.Reply.{create_reply}
use Rattle.crash_model.specs.Room.{Appended}
use Rattle.engine_core.specs.Answered.{IsRecorded, Tells}
use Rattle.engine_core.specs.declared.answer.Answer.{Answer}
use Rattle.engine_core.proofs.Commits.{tells-framed}
use Rattle.engine_core.proofs.CreatedTables.{made-table, made-view}
use Rattle.engine_core.proofs.JudgedCreates.{judged-table, judged-view}

-- its record is never too long
never-long : (create : Create) (view : Bool) (text : List ℕ) (framed : Result (List ℕ) EncodeFault) (count : ℕ) → IsWritten STATEMENT_BYTES (statement_of create) → view ≡ (text_of create).view → text ≡ (text_of create).text
    → Frames (create_commit view text) framed → framed ≡ Err (TooBig count) → ⊥
never-long create view text framed count written view_is text_is frames is =
    let at_text = subst (λ view. Frames (create_commit view text) framed) view_is frames in
    let own = subst (λ text. Frames (create_commit (text_of create).view text) framed) text_is at_text in
    let long = subst (Frames (create_commit (text_of create).view (text_of create).text)) is own in
    let counted = long.0 in
    let past = long.1 in
    let few = short-create create written in
    omega arith

-- a text that is recorded is UTF-8
table-utf8 : (text bytes : List ℕ) → IsFramed (commit.CreateTable text) bytes → IsUtf8 text
table-utf8 text bytes is = (payload-spelled (commit.CreateTable text) is.payload is.is_payload).2

view-utf8 : (text bytes : List ℕ) → IsFramed (commit.CreateView text) bytes → IsUtf8 text
view-utf8 text bytes is = (payload-spelled (commit.CreateView text) is.payload is.is_payload).2

-- it is done, and leads where nothing is wrong
created-by : (db next : Db) (made : Outcome) (view : Bool) (text : List ℕ) (weighs : ℕ) (framed : Result (List ℕ) EncodeFault) (answer : Answer) → made ≡ record { db = next; reply = Done } → fault next ≡ None
    → weight next ≡ weighs → ((bytes : List ℕ) → IsFramed (create_commit view text) bytes → Follows db (create_commit view text) next) → ((count : ℕ) → framed ≡ Err (TooBig count) → ⊥)
    → Frames (create_commit view text) framed → IsRecorded next weighs Done framed answer
    → Tells db true (Appended (create_commit view text)) (λ verdict. create_reply verdict made) made.db answer
created-by db next made view text weighs framed answer made_is none weight_is follows never frames is =
    subst (λ (made : Outcome). Tells db true (Appended (create_commit view text)) (λ verdict. create_reply verdict made) made.db answer) (sym made_is)
    (tells-framed db next true _ Done weighs (create_commit view text) framed answer refl (λ verdict. rw none refl) refl weight_is follows never frames is)

module _ (reads_back : (most : ℕ) (statement : Statement) → IsWritten most statement → IsAnswer (canonical statement) (GivesStatement statement)) where
  -- a table
  pub tells-table : (db next : Db) (table : TableCreate) (text : List ℕ) (weighs : ℕ) (framed : Result (List ℕ) EncodeFault) (answer : Answer) → Sound db → weight db ≡ weighs
      → IsWritten STATEMENT_BYTES (statement_of (OfTable table)) → refusal_of db.schema (holds_rows db.rows) table ≡ None → text ≡ (text_of (OfTable table)).text → next ≡ create db table
      → Frames (create_commit false text) framed → IsRecorded next weighs Done framed answer
      → Tells db true (Appended (commit.CreateTable (text_of (OfTable table)).text)) (λ verdict. create_reply verdict (create_table db table)) (create_table db table).db answer
  tells-table db next table text weighs framed answer sound weight_is written none text_is next_is frames is =
      let judged = judged-table db next table weighs sound weight_is written none next_is in
      subst (λ text. Tells db true (Appended (commit.CreateTable text)) (λ verdict. create_reply verdict (create_table db table)) (create_table db table).db answer) text_is
      (created-by db next (create_table db table) false text weighs framed answer (made-table db next table none next_is) judged.0 judged.1 (λ bytes framed_is.
      let own = kept-text-of reads_back (OfTable table) written (subst IsUtf8 text_is (table-utf8 text bytes framed_is)) in
      let of_text = subst (λ text. IsTextOf (OfTable table) (record { view = false; text = text })) (sym text_is) own in
      (table-follows db next table text weighs sound weight_is of_text none next_is).0)
      (λ count. never-long (OfTable table) false text framed count written refl text_is frames) frames is)

  -- and a view
  pub tells-view : (db next : Db) (view : ViewCreate) (definition : ViewDef) (text : List ℕ) (weighs size : ℕ) (framed : Result (List ℕ) EncodeFault) (answer : Answer) → Sound db → weight db ≡ weighs
      → IsWritten STATEMENT_BYTES (statement_of (OfView view)) → bound_view db.schema view ≡ Ok definition → nat_lt STORE_WEIGHT (weighs + view_weight db definition) ≡ false
      → weighs + view_weight db definition ≡ size → text ≡ (text_of (OfView view)).text → next ≡ create_view db view → Frames (create_commit true text) framed → IsRecorded next size Done framed answer
      → Tells db true (Appended (commit.CreateView (text_of (OfView view)).text)) (λ verdict. create_reply verdict (add_view db view)) (add_view db view).db answer
  tells-view db next view definition text weighs size framed answer sound weight_is written bound light size_is text_is next_is frames is =
      let judged = subst (λ (db : Db). (fault db ≡ None) × (weight db ≡ size)) (sym next_is) (judged-view db view definition weighs (Weighs size) sound weight_is bound (light, size_is)) in
      subst (λ text. Tells db true (Appended (commit.CreateView text)) (λ verdict. create_reply verdict (add_view db view)) (add_view db view).db answer) text_is
      (created-by db next (add_view db view) true text size framed answer (made-view db next view definition bound next_is) judged.0 judged.1 (λ bytes framed_is.
      let own = kept-text-of reads_back (OfView view) written (subst IsUtf8 text_is (view-utf8 text bytes framed_is)) in
      let of_text = subst (λ text. IsTextOf (OfView view) (record { view = true; text = text })) (sym text_is) own in
      (view-follows db next view text definition weighs size sound weight_is of_text bound light size_is next_is).0)
      (λ count. never-long (OfView view) true text framed count written refl text_is frames) frames is)
