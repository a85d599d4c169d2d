-- What a statement outside a transaction is answered, and what it leaves.
use Rattle.std.specs.Prelude.{◌≡◌, ◌++◌, ◌∷◌, [], ◌&&◌, ◌||◌, ◌+◌, ℕ, List, length, IsTrue, Bool, true, false, not, Option, None, Some, Result, Ok, Err, is_some, if◌then◌else◌}
use Rattle.std.specs.Option.{option_map_or}
use Rattle.own_base.specs.declared.change.Change.{Change}
use Rattle.own_model.specs.declared.bound.Bound.{Bound}
use Rattle.own_model.specs.declared.bound.Bound.TheVariants.{Delete, Forget, Insert, Update}
use Rattle.own_model.specs.declared.footprint.FootItem.{FootItem}
use Rattle.own_model.specs.declared.history.Verdict.{Verdict}
use Rattle.own_model.specs.declared.history.Verdict.TheVariants.{Took}
use Rattle.own_model.specs.declared.refusal.Refusal.TheVariants as refusal
use Rattle.own_model.specs.declared.reply.Reply.{Reply}
use Rattle.own_model.specs.declared.reply.Reply.TheVariants.{Refused}
use Rattle.own_model.specs.declared.request.Request.{Request}
use Rattle.own_model.specs.Db.{Db}
use Rattle.schema_model.specs.Lone.{is_lone}
use Rattle.query_model.specs.Footprints.{footprint_of}
use Rattle.ref_index.specs.Tells.{Tell}
use Rattle.state_model.specs.Net.{net}
use Rattle.state_model.specs.Put.{put}
use Rattle.state_model.specs.Sound.{Sound}
use Rattle.state_model.specs.Weight.{weight}
use Rattle.subject_model.specs.Forget.{changed, removed}
use Rattle.run_model.specs.Run.{run_bound}
use Rattle.history_model.specs.Held.{holder}
use Rattle.history_model.specs.History.{forgotten, lie_on}
use Rattle.history_model.specs.Reply.{by_verdict, changes, forget_reply, is_refusal, unless_held, write_reply}
use Rattle.history_model.specs.World.{World}
use Rattle.disk_model.specs.declared.commit.Commit.TheVariants.{Changes}
use Rattle.disk_model.specs.PutOf.{puts_of}
use Rattle.rec_codec.specs.Framed.{IsFramed}
use Rattle.rec_codec.specs.declared.fault.EncodeFault.{EncodeFault}
use Rattle.rec_codec.specs.declared.fault.EncodeFault.TheVariants.{Memory, TooBig}
use Rattle.check_image.specs.Gated.{IsGatedImage}
use Rattle.commit_record.specs.Recorded.{IsRecordOf}
use Rattle.crash_model.specs.Room.{Appended, LaidAnew, Written, image_bytes}
use Rattle.engine_core.specs.declared.answer.Answer.{Answer}
use Rattle.engine_core.specs.declared.prepared.NextState.{NextState}
use Rattle.engine_core.specs.declared.prepared.NextState.TheVariants.{Anew, Beside, InPlace}
use Rattle.engine_core.specs.declared.prepared.Prepared.{Prepared}

-- a change of a row of a table with which nothing is linked, which tells the row as it is
pub record IsOfLone (db : Db) (change : Change) : Type 0 where
  pub tells : Tell db (change ∷ [])
  pub lone : IsTrue (is_lone db.schema change.name.table.0)

-- changes are one alone, of such a table
pub record IsOnlyOfLone (db : Db) (changes : List Change) : Type 0 where
  pub change : Change
  pub only : changes ≡ change ∷ []
  pub lone : IsTrue (is_lone db.schema change.name.table.0)

-- the database of a next state, behind this one
abbrev pub behind_by : Db → NextState → Db
behind_by db (Beside next) = next
behind_by db (InPlace change) = put db (change ∷ [])
behind_by db (Anew next) = next

-- a change that is made in place is one that may be
abbrev pub MayBeMade : Db → NextState → Type 0
MayBeMade db (Beside next) = Unit {0}
MayBeMade db (InPlace change) = IsOfLone db change
MayBeMade db (Anew next) = Unit {0}

-- what is written leads there: the record of a lawful commit; nothing is wrong with what is laid anew
abbrev pub LeadsBy : Db → NextState → List ℕ → Type 0
LeadsBy db (Beside next) bytes = IsRecordOf db next bytes
LeadsBy db (InPlace change) bytes = IsRecordOf db (put db (change ∷ [])) bytes
LeadsBy db (Anew next) bytes = Sound next

-- and it is just this
abbrev pub IsWriting : Written → NextState → List ℕ → Type 0
IsWriting (Appended commit) (Beside next) bytes = IsFramed commit bytes
IsWriting (Appended commit) (InPlace change) bytes = IsFramed commit bytes
IsWriting (Appended commit) (Anew next) bytes = ⊥
IsWriting (LaidAnew number) (Beside next) bytes = ⊥
IsWriting (LaidAnew number) (InPlace change) bytes = ⊥
IsWriting (LaidAnew number) (Anew next) bytes = IsGatedImage next number bytes

-- what is laid anew is an image with this number of commits
abbrev pub IsImageWith : ℕ → NextState → List ℕ → Type 0
IsImageWith number (Beside next) bytes = Unit {0}
IsImageWith number (InPlace change) bytes = Unit {0}
IsImageWith number (Anew next) bytes = IsGatedImage next number bytes

-- what is prepared weighs what is told, and what it writes leads there
pub record IsPrepared (db : Db) (prepared : Prepared) : Type 0 where
  pub weighs : weight (behind_by db prepared.state) ≡ prepared.weighs
  pub leads : LeadsBy db prepared.state prepared.bytes
  pub made : MayBeMade db prepared.state

-- What is answered to a call that leads to a next state, by what comes of recording it: with its record it is left; where that
-- would be too long, the call is refused with its length; and for want of memory there is no answer.
abbrev pub IsRecordedAs : NextState → ℕ → Reply → Result (List ℕ) EncodeFault → Answer → Type 0
IsRecordedAs state weighs reply (Ok framed) answer = (answer.reply ≡ reply) × (answer.next ≡ Some (record { state = state; weighs = weighs; bytes = framed }))
IsRecordedAs state weighs reply (Err (TooBig count)) answer = (answer.reply ≡ Refused (refusal.TooBig count)) × (answer.next ≡ None)
IsRecordedAs state weighs reply (Err Memory) answer = ⊥

-- the same of a version that is prepared beside the one that stands
abbrev pub IsRecorded : Db → ℕ → Reply → Result (List ℕ) EncodeFault → Answer → Type 0
IsRecorded next = IsRecordedAs (Beside next)

-- What is answered to a call that leads to a next version by its image: it is laid anew; and for want of memory there is no answer.
abbrev pub IsLaidBy : {E : Type 0} → Db → ℕ → Reply → Result (List ℕ) E → Answer → Type 0
IsLaidBy next weighs reply (Ok gated) answer = (answer.reply ≡ reply) × (answer.next ≡ Some (record { state = Anew next; weighs = weighs; bytes = gated }))
IsLaidBy next weighs reply (Err refused) answer = ⊥

-- the database that is left: what is prepared, where something is
abbrev pub left : Db → Option Prepared → Db
left db None = db
left db (Some prepared) = behind_by db prepared.state

-- what is prepared, where something is, may be left
abbrev pub MayBeLeft : Db → Option Prepared → Type 0
MayBeLeft db None = Unit {0}
MayBeLeft db (Some prepared) = IsPrepared db prepared

-- what is prepared, where something is, writes just this
abbrev pub IsWrittenAs : Written → Option Prepared → Type 0
IsWrittenAs written None = Unit {0}
IsWrittenAs written (Some prepared) = IsWriting written prepared.state prepared.bytes

-- and where it is laid anew, it is so with this number of commits
abbrev pub IsNumbered : ℕ → Option Prepared → Type 0
IsNumbered number None = Unit {0}
IsNumbered number (Some prepared) = IsImageWith number prepared.state prepared.bytes

-- whether it is laid anew
abbrev pub is_anew : NextState → Bool
is_anew (Beside next) = false
is_anew (InPlace change) = false
is_anew (Anew next) = true

abbrev pub is_laid : Option Prepared → Bool
is_laid None = false
is_laid (Some prepared) = is_anew prepared.state

-- how many bytes it writes, where an image has a number of commits
abbrev pub size_of : ℕ → NextState → List ℕ → ℕ
size_of number (Beside next) bytes = length bytes
size_of number (InPlace change) bytes = length bytes
size_of number (Anew next) bytes = image_bytes next number

abbrev pub write_size : ℕ → Option Prepared → ℕ
write_size number None = 0
write_size number (Some prepared) = size_of number prepared.state prepared.bytes

-- Where nothing is prepared no verdict of the disk changes the reply; where something is, it stays if the disk takes that.
abbrev pub IsDecided : (Verdict → Reply) → Option Prepared → Type 0
IsDecided given None = (verdict : Verdict) → given verdict ≡ given Took
IsDecided given (Some prepared) = (verdict : Verdict) → given verdict ≡ by_verdict verdict (given Took)

-- whether a reply that leaves another database is that of a commit: it is of a CREATE, or rows differ
abbrev pub commits : Bool → Db → Db → Reply → Bool
commits creates db behind reply = not (is_refusal reply) && (creates || changes db behind)

-- A reply is told, as it is where the disk takes what is prepared; the database is the one behind it, unless the reply is a
-- refusal; and something is prepared just where this is a commit, and writes just this.
pub record Tells (db : Db) (creates : Bool) (written : Written) (given : Verdict → Reply) (behind : Db) (answer : Answer) : Type 0 where
  pub told : answer.reply ≡ given Took
  pub leaves : left db answer.next ≡ (if is_refusal (given Took) then db else behind)
  pub may : MayBeLeft db answer.next
  pub writes : IsWrittenAs written answer.next
  pub decided : IsDecided given answer.next
  pub counted : is_some answer.next ≡ commits creates db behind (given Took)

-- whether one of these items lies on a row that an accepted FORGET removes or changes
abbrev pub erases : Db → Request → Reply → List FootItem → Bool
erases db request reply items =
    not (is_refusal reply) && option_map_or (λ subject. lie_on (removed db subject ++ changed db subject) items) (forgotten db.schema request) false

-- the rows that an answer names as erased lie on an item just where such a row does
abbrev pub Erases : Db → Request → Answer → Type 0
Erases db request answer = (items : List FootItem) → lie_on answer.erased items ≡ erases db request answer.reply items

-- the same of a bound statement
abbrev pub erases_bound : Db → Bound → Reply → List FootItem → Bool
erases_bound db (Forget subject) reply items = not (is_refusal reply) && lie_on (removed db subject.0 ++ changed db subject.0) items
erases_bound db bound reply items = false

abbrev pub ErasesBound : Db → Bound → Answer → Type 0
ErasesBound db bound answer = (items : List FootItem) → lie_on answer.erased items ≡ erases_bound db bound answer.reply items

-- what a bound statement writes that leads to a database, behind so many commits
abbrev pub bound_written : Db → ℕ → Bound → Db → Written
bound_written db commits (Forget subject) behind = LaidAnew (commits + 1)
bound_written db commits bound behind = Appended (Changes (puts_of (net db behind)))

-- The reply to a bound statement outside a transaction, on the world's flat database: a write and a FORGET commit by themselves,
-- and a write is refused where another session stands in its way.
abbrev pub bound_reply : World → Db → ℕ → Bound → Verdict → Reply
bound_reply world db session (Insert table rows) verdict =
    unless_held world (holder world session (footprint_of db.schema (Insert table rows))) (write_reply verdict db (run_bound db (Insert table rows)))
bound_reply world db session (Update table sets cond) verdict =
    unless_held world (holder world session (footprint_of db.schema (Update table sets cond))) (write_reply verdict db (run_bound db (Update table sets cond)))
bound_reply world db session (Delete table cond) verdict =
    unless_held world (holder world session (footprint_of db.schema (Delete table cond))) (write_reply verdict db (run_bound db (Delete table cond)))
bound_reply world db session (Forget subject) verdict = forget_reply verdict (run_bound db (Forget subject))
bound_reply world db session bound verdict = (run_bound db bound).reply
