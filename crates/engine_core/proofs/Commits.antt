-- What a call that may commit is answered, and what it leaves.
use Rattle.std.proofs.Common.{◌≡◌, ◌∙◌, ◌<◌, ◌≤◌, ℕ, List, [], ◌∷◌, Bool, true, false, ap, refl, subst, sym}
use Rattle.std.specs.Prelude.{◌||◌, not, None, Some, Result, Ok, Err, if◌then◌else◌}
use Rattle.std.proofs.Math.Bool.{and-false}
use Rattle.std.proofs.lemmas.Bool.{le-ltb, lt-ltb}
use Rattle.own_base.specs.declared.change.Change.{Change}
use Rattle.own_model.specs.declared.history.Verdict.{Verdict}
use Rattle.own_model.specs.declared.history.Verdict.TheVariants.{Took}
use Rattle.own_model.specs.declared.limit.TheConstants.{PAYLOAD_BYTES}
use Rattle.own_model.specs.declared.refusal.Refusal.{Refusal}
use Rattle.own_model.specs.declared.refusal.Refusal.TheVariants as refusal
use Rattle.own_model.specs.declared.reply.Reply.{Reply}
use Rattle.own_model.specs.declared.reply.Reply.TheVariants.{Refused}
use Rattle.own_model.specs.Db.{Db}
use Rattle.state_model.specs.CommitRefusal.{commit_refusal}
use Rattle.state_model.specs.Fault.{fault}
use Rattle.state_model.specs.Net.{net}
use Rattle.state_model.specs.Payload.{payload_bytes}
use Rattle.state_model.specs.Put.{put}
use Rattle.state_model.specs.Weight.{weight}
use Rattle.disk_model.specs.declared.commit.Commit.{Commit}
use Rattle.disk_model.specs.declared.commit.Commit.TheVariants as commit_of
use Rattle.disk_model.specs.PutOf.{puts_of}
use Rattle.disk_model.specs.Follows.{Follows}
use Rattle.rec_codec.specs.Framed.{IsFramed}
use Rattle.rec_codec.specs.declared.fault.EncodeFault.{EncodeFault}
use Rattle.rec_codec.specs.declared.fault.EncodeFault.TheVariants.{Memory, TooBig}
use Rattle.commit_record.specs.Recorded.{Frames, IsNetOf, IsRecordOf, RecordsChanges}
use Rattle.crash_model.specs.Room.{Appended, Written}
use Rattle.history_model.specs.Reply.{by_verdict, changes, committing, is_refusal}
use Rattle.engine_core.specs.Answered.{IsOfLone, IsRecorded, IsRecordedAs, IsWriting, LeadsBy, MayBeMade, Tells, behind_by, is_anew}
use Rattle.engine_core.specs.declared.answer.Answer.{Answer}
use Rattle.engine_core.specs.declared.prepared.NextState.{NextState}
use Rattle.engine_core.specs.declared.prepared.NextState.TheVariants.{Anew, Beside, InPlace}
use Rattle.engine_core.proofs.Judged.{commit_refusal-fault, commit_refusal-length}
use Rattle.engine_core.proofs.Nets.{changes-same, changes-some}

-- ---- any call

-- a refusal, whatever the disk says, leaves the database
pub tells-refusal : {written : Written} (db behind : Db) (creates : Bool) (given : Verdict → Reply) (reply : Reply) (answer : Answer) → is_refusal reply ≡ true → ((verdict : Verdict) → given verdict ≡ reply)
    → answer.reply ≡ reply → answer.next ≡ None → Tells db creates written given behind answer
tells-refusal db behind creates given reply answer refused are told stays =
    let took : given Took ≡ reply = are Took in
    record {
      told = told ∙ sym took;
      leaves = rw (stays, took, refused) refl;
      may = rw stays tt;
      writes = rw stays tt;
      decided = rw stays (λ verdict. are verdict ∙ sym took);
      counted = rw (stays, took, refused) refl;
    }

pub tells-refused : {written : Written} (db behind : Db) (creates : Bool) (given : Verdict → Reply) (why : Refusal) (answer : Answer) → ((verdict : Verdict) → given verdict ≡ Refused why) → answer.reply ≡ Refused why
    → answer.next ≡ None → Tells db creates written given behind answer
tells-refused db behind creates given why answer are told stays = tells-refusal db behind creates given (Refused why) answer refl are told stays

-- so does a reply that no other database stands behind
either : (refused : Bool) (db behind : Db) → behind ≡ db → db ≡ (if refused then db else behind)
either true db behind same = refl
either false db behind same = sym same

pub tells-left : {written : Written} (db behind : Db) (given : Verdict → Reply) (reply : Reply) (answer : Answer) → behind ≡ db → ((verdict : Verdict) → given verdict ≡ reply) → answer.reply ≡ reply → answer.next ≡ None
    → Tells db false written given behind answer
tells-left db behind given reply answer same are told stays =
    let took : given Took ≡ reply = are Took in
    let unchanged : changes db behind ≡ false = ap (changes db) same ∙ changes-same db in
    record {
      told = told ∙ sym took;
      leaves = rw stays (either (is_refusal (given Took)) db behind same);
      may = rw stays tt;
      writes = rw stays tt;
      decided = rw stays (λ verdict. are verdict ∙ sym took);
      counted = rw (stays, unchanged) (sym (and-false (not (is_refusal (given Took)))));
    }

-- what the disk is to take is left by what it writes
pub tells-kept : (db : Db) (state : NextState) (creates : Bool) (written : Written) (given : Verdict → Reply) (reply : Reply) (weighs : ℕ) (bytes : List ℕ) (answer : Answer) → is_refusal reply ≡ false
    → ((verdict : Verdict) → given verdict ≡ by_verdict verdict reply) → (creates || changes db (behind_by db state)) ≡ true → weight (behind_by db state) ≡ weighs → LeadsBy db state bytes
    → IsWriting written state bytes → MayBeMade db state → answer.reply ≡ reply → answer.next ≡ Some (record { state = state; weighs = weighs; bytes = bytes }) → Tells db creates written given (behind_by db state) answer
tells-kept db state creates written given reply weighs bytes answer accepted are counts weight_is is writes made told next =
    let took : given Took ≡ reply = are Took in
    record {
      told = told ∙ sym took;
      leaves = rw (next, took, accepted) refl;
      may = rw next (record { weighs = weight_is; leads = is; made = made });
      writes = rw next writes;
      decided = rw next (λ verdict. are verdict ∙ ap (by_verdict verdict) (sym took));
      counted = rw (next, took, accepted, counts) refl;
    }

-- what is told of one reply is told of another that is the same
pub tells-alike : {written : Written} (db : Db) (creates : Bool) (given other : Verdict → Reply) (behind : Db) (answer : Answer) → ((verdict : Verdict) → given verdict ≡ other verdict)
    → Tells db creates written other behind answer → Tells db creates written given behind answer
tells-alike {written} db creates given other behind answer same tells =
    let is : other ≡ given = λ i verdict. sym (same verdict) i in
    subst (λ given. Tells db creates written given behind answer) is tells

-- and of what is written
pub tells-writing : {written other : Written} {given : Verdict → Reply} {behind : Db} (db : Db) (creates : Bool) (answer : Answer) → written ≡ other → Tells db creates written given behind answer
    → Tells db creates other given behind answer
tells-writing {given = given} {behind = behind} db creates answer same tells = subst (λ written. Tells db creates written given behind answer) same tells

-- ---- by what comes of its record

-- a commit whose record is never too long
pub tells-framed : (db behind : Db) (creates : Bool) (given : Verdict → Reply) (reply : Reply) (weighs : ℕ) (commit : Commit) (framed : Result (List ℕ) EncodeFault) (answer : Answer) → is_refusal reply ≡ false
    → ((verdict : Verdict) → given verdict ≡ by_verdict verdict reply) → (creates || changes db behind) ≡ true → weight behind ≡ weighs
    → ((bytes : List ℕ) → IsFramed commit bytes → Follows db commit behind) → ((count : ℕ) → framed ≡ Err (TooBig count) → ⊥) → Frames commit framed → IsRecorded behind weighs reply framed answer
    → Tells db creates (Appended commit) given behind answer
tells-framed db behind creates given reply weighs commit (Ok bytes) answer accepted are counts weight_is follows never frames is =
    tells-kept db (Beside behind) creates (Appended commit) given reply weighs bytes answer accepted are counts weight_is (record { commit = commit; is_framed = frames; follows = follows bytes frames }) frames tt is.0 is.1
tells-framed db behind creates given reply weighs commit (Err (TooBig count)) answer accepted are counts weight_is follows never frames is = absurd (never count refl)
tells-framed db behind creates given reply weighs commit (Err Memory) answer accepted are counts weight_is follows never frames is = absurd is

-- a state that isn't laid anew is led to by its record
leads-recorded : (db : Db) (state : NextState) (bytes : List ℕ) → is_anew state ≡ false → IsRecordOf db (behind_by db state) bytes → LeadsBy db state bytes
leads-recorded db (Beside next) bytes plain is = is
leads-recorded db (InPlace change) bytes plain is = is
leads-recorded db (Anew next) bytes plain is = let never : true ≡ false = plain in absurd (cc)

writing-framed : (commit : Commit) (state : NextState) (bytes : List ℕ) → is_anew state ≡ false → IsFramed commit bytes → IsWriting (Appended commit) state bytes
writing-framed commit (Beside next) bytes plain is = is
writing-framed commit (InPlace change) bytes plain is = is
writing-framed commit (Anew next) bytes plain is = let never : true ≡ false = plain in absurd (cc)

-- a net
module _ (db after : Db) (reply : Reply) (accepted : is_refusal reply ≡ false) where
  abbrev given : Verdict → Reply
  given verdict = committing verdict (changes db after) (commit_refusal db after) reply

  -- what it leads to has a fault
  pub tells-faulty : {written : Written} (why : Refusal) (answer : Answer) → fault after ≡ Some why → answer.reply ≡ Refused why → answer.next ≡ None
      → Tells db false written (λ verdict. committing verdict (changes db after) (commit_refusal db after) reply) after answer
  tells-faulty why answer is told stays =
      let cause = commit_refusal-fault db after why is in
      tells-refused db after false given why answer (λ verdict. rw (accepted, cause) refl) told stays

  module _ (list : List Change) (net_is : IsNetOf db after list) where
    fits : payload_bytes list ≤ PAYLOAD_BYTES → commit_refusal db after ≡ None
    fits few =
        let none = le-ltb PAYLOAD_BYTES (payload_bytes list) few in
        commit_refusal-length db after list net_is.sound_after.faultless net_is.is ∙ (rw none refl)

    long : (count : ℕ) → count ≡ payload_bytes list → PAYLOAD_BYTES < count → commit_refusal db after ≡ Some (refusal.TooBig count)
    long count counted many =
        let some = lt-ltb PAYLOAD_BYTES count many in
        commit_refusal-length db after list net_is.sound_after.faultless net_is.is ∙ (rw (← counted, some) refl)

    -- or none
    by_record : (state : NextState) (weighs : ℕ) (framed : Result (List ℕ) EncodeFault) (answer : Answer) → is_anew state ≡ false → behind_by db state ≡ after → MayBeMade db state → weight after ≡ weighs
        → RecordsChanges db after list framed → IsRecordedAs state weighs reply framed answer
        → Tells db false (Appended (commit_of.Changes (puts_of (net db after)))) (λ verdict. committing verdict (changes db after) (commit_refusal db after) reply) after answer
    by_record state weighs (Ok bytes) answer plain behind made weight_is records is =
        let some = changes-some db after list net_is.is net_is.some in
        let none = fits records.1 in
        let framed = subst (λ (list : List Change). IsFramed (commit_of.Changes (puts_of list)) bytes) net_is.is records.2 in
        subst (λ left. Tells db false (Appended (commit_of.Changes (puts_of (net db after)))) given left answer) behind
        (tells-kept db state false _ given reply weighs bytes answer accepted (λ verdict. rw (accepted, none, some) refl) (ap (changes db) behind ∙ some) (ap weight behind ∙ weight_is)
        (leads-recorded db state bytes plain (subst (λ left. IsRecordOf db left bytes) (sym behind) records.0)) (writing-framed _ state bytes plain framed) made is.0 is.1)
    by_record state weighs (Err (TooBig count)) answer plain behind made weight_is records is =
        let cause = long count records.0 records.1 in
        tells-refused db after false given (refusal.TooBig count) answer (λ verdict. rw (accepted, cause) refl) is.0 is.1
    by_record state weighs (Err Memory) answer plain behind made weight_is records is = absurd is

    pub tells-changed : (weighs : ℕ) (framed : Result (List ℕ) EncodeFault) (answer : Answer) → weight after ≡ weighs → RecordsChanges db after list framed → IsRecorded after weighs reply framed answer
        → Tells db false (Appended (commit_of.Changes (puts_of (net db after)))) (λ verdict. committing verdict (changes db after) (commit_refusal db after) reply) after answer
    tells-changed weighs framed answer weight_is records is = by_record (Beside after) weighs framed answer refl refl tt weight_is records is

    -- a change that is made in place
    pub tells-placed : (change : Change) (weighs : ℕ) (framed : Result (List ℕ) EncodeFault) (answer : Answer) → put db (change ∷ []) ≡ after → IsOfLone db change → weight after ≡ weighs
        → RecordsChanges db after list framed → IsRecordedAs (InPlace change) weighs reply framed answer
        → Tells db false (Appended (commit_of.Changes (puts_of (net db after)))) (λ verdict. committing verdict (changes db after) (commit_refusal db after) reply) after answer
    tells-placed change weighs framed answer leads lone weight_is records is = by_record (InPlace change) weighs framed answer refl leads lone weight_is records is
