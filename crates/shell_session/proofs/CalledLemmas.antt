-- What a call did, as the engine says it.
use Rattle.std.proofs.Common.{◌≡◌, ℕ, ◌≤◌, ◌+◌, List, [], ◌∷◌, ◌++◌, Bool, true, false, length, arith, IsTrue, option_map, refl, sym, ap, subst, ◌∙◌, inl, inr, ⊎_elim}
use Rattle.std.proofs.lemmas.List.{length-set}
use Rattle.std.specs.Prelude.{◌≢◌, ◌⊎◌, ◌||◌, ◌-◌, if◌then◌else◌, is_some, Option, None, Some}
use Rattle.own_base.specs.declared.number.Area.{Area}
use Rattle.own_base.specs.declared.number.Area.TheVariants.{A, B}
use Rattle.own_base.specs.declared.number.Place.{Place}
use Rattle.own_model.specs.declared.history.Entry.{Entry}
use Rattle.own_model.specs.declared.history.Verdict.{Verdict}
use Rattle.own_model.specs.declared.history.Verdict.TheVariants.{Took, DiskFault, NoRoom}
use Rattle.own_model.specs.declared.limit.TheConstants.{SESSIONS}
use Rattle.own_model.specs.declared.refusal.Refusal.TheVariants.{Memory}
use Rattle.own_model.specs.declared.reply.Reply.{Reply}
use Rattle.own_model.specs.declared.reply.Reply.TheVariants.{Done, Refused}
use Rattle.own_model.specs.declared.request.Request.{Request}
use Rattle.own_model.specs.declared.request.Request.TheVariants.{Run, Syntax, Limit, End}
use Rattle.own_model.specs.declared.script.ScriptCall.{ScriptCall}
use Rattle.own_model.specs.declared.statement.Statement.TheVariants as statement
use Rattle.own_model.specs.Db.{Db}
use Rattle.script_model.specs.Split.{IsOfASession}
use Rattle.outer_world.specs.FaultCount.{CountRose}
use Rattle.outer_world.specs.LeavesOnly.{LeavesOnly}
use Rattle.outer_world.proofs.Moments.{begun, weaker}
use Rattle.history_model.specs.AsksDisk.{under}
use Rattle.history_model.specs.History.{History, flat, is_disk, is_failure, reply, standing, world}
use Rattle.history_model.specs.Made.{entry_of}
use Rattle.history_model.specs.Reply.{answer}
use Rattle.history_model.specs.World.{Block, Open}
use Rattle.history_model.proofs.HistoryLemmas.{reply-last}
use Rattle.reply_json.specs.declared.columns.TableNames.{TableNames}
use Rattle.crash_model.specs.LeftBy.{IsLeftBy}
use Rattle.crash_model.specs.MovesDisk.{IsLeftByEither}
use Rattle.engine_core.specs.Seen.{LeavesUnmade, Makes, Seen, Writes, disk_of, entry}
use Rattle.engine_core.specs.Stored.{is_fault}
use Rattle.shell_session.specs.Answered.{IsAnswered, IsMadeAt}
use Rattle.shell_session.specs.DiskView.{DiskView, view_of}
use Rattle.shell_session.specs.Kept.{Keeps, effect_by, effect_of, marked}
use Rattle.shell_session.specs.Life.{EndsLaid, IsCalled, Moves, is_checkpoint}
use Rattle.shell_session.specs.Names.{is_create, table_names}
use Rattle.shell_session.specs.Opening.{IsFailedIn, IsLeftOver, Opening, opening_of}
use Rattle.shell_session.specs.declared.book.Book.{Book}
use Rattle.shell_session.specs.declared.book.Effect.{Effect}
use Rattle.shell_session.specs.declared.book.Effect.TheVariants.{Opens, Closes, Leaves}
use Rattle.shell_session.proofs.FailedLemmas.{failed-kept, failed-more}
use Rattle.shell_session.proofs.NameLemmas.{made-answer, named-after}
use Rattle.shell_session.proofs.StandingLemmas.{marks_after, marks-made}

-- a fault is told just where the verdict is one
fault_verdict : (verdict : Verdict) (told : Reply) → is_disk told ≡ is_fault verdict → is_disk told ≡ true → verdict ≡ DiskFault
fault_verdict Took told is fails = let never : false ≡ true = sym is ∙ fails in cc
fault_verdict DiskFault told is fails = refl
fault_verdict NoRoom told is fails = let never : false ≡ true = sym is ∙ fails in cc

no_verdict : (verdict : Verdict) (told : Reply) → is_disk told ≡ is_fault verdict → is_disk told ≡ false → verdict ≢ DiskFault
no_verdict verdict told is works fault = let never : false ≡ true = sym works ∙ (is ∙ ap is_fault fault) in cc

module _ {D : Type 0} (leaves : D → Area → List ℕ → Type 0) (moment : D → ℕ) (might : D → ℕ → List ℕ → List ℕ → Type 0) (honest : D → Bool) (faults : D → ℕ)
    (only_now : (disk : D) (a b : List ℕ) → might disk (moment disk) a b → leaves disk A a × leaves disk B b) where
  abbrev view : DiskView D
  view = view_of leaves moment might honest faults

  -- a call that was made
  pub called-made : (holds : D → Area → List ℕ) (before after : Seen D) (call : ScriptCall) (verdict : Verdict) (place : ℕ) (told : Reply)
      → Makes before after (under verdict (entry call.session call.call call.request Took)) place told
      → Writes holds leaves moment might honest faults before after (entry call.session call.call call.request Took) verdict told
      → (IsTrue (honest (disk_of after)) → (a b : List ℕ) → leaves (disk_of after) A a → leaves (disk_of after) B b → IsLeftBy after.base after.start after.history a b)
      → IsCalled view (opening_of before) (opening_of after) call (Some place) told
  called-made holds before after call verdict place told makes writes left = record {
    base = makes.base;
    start = makes.start;
    answered = record { verdict = verdict; history_is = makes.history; place_is = makes.stands; reply_is = makes.answered };
    moves = record {
      honesty = writes.honesty;
      time = writes.time;
      risen = writes.risen;
      rose = λ fails. writes.rose (fault_verdict verdict told writes.fault fails);
      steady = λ works. writes.steady (no_verdict verdict told writes.fault works);
      now = λ can. left (subst IsTrue (sym writes.honesty) can);
      moments = λ can. weaker leaves moment might only_now (disk_of before) (disk_of after) (IsLeftByEither before.base before.start before.history after.history)
          (λ a b. IsLeftOver (opening_of before) a b ⊎ IsLeftOver (opening_of after) a b)
          (λ a b either. ⊎_elim (λ old. inl old) (λ new. inr (rw (makes.base, makes.start) new)) either) (writes.left can);
    };
  }

  -- or wasn't, for want of memory
  pub called-unmade : (before after : Seen D) (call : ScriptCall) → LeavesUnmade before after (entry call.session call.call call.request Took)
      → (IsTrue (honest (disk_of after)) → (a b : List ℕ) → leaves (disk_of after) A a → leaves (disk_of after) B b → IsLeftBy after.base after.start after.history a b)
      → IsCalled view (opening_of before) (opening_of after) call None (Refused Memory)
  called-unmade before after call unmade left =
      let same : disk_of after ≡ disk_of before = ap (λ store. store.journal.disk) unmade.store in
      let now : IsTrue (honest (disk_of before)) → (a b : List ℕ) → leaves (disk_of after) A a → leaves (disk_of after) B b → IsLeftBy after.base after.start after.history a b =
      λ can. left (subst (λ disk. IsTrue (honest disk)) (sym same) can) in
      record {
        base = unmade.base;
        start = unmade.start;
        answered = record { history_is = unmade.history; told_is = refl };
        moves = record {
          honesty = ap honest same;
          time = rw same (omega arith);
          risen = rw same (omega arith);
          rose = λ fails. cc;
          steady = λ works. ap faults same;
          now = now;
          moments = λ can. subst (λ disk. LeavesOnly moment might (λ a b. IsLeftOver (opening_of before) a b ⊎ IsLeftOver (opening_of after) a b) disk (disk_of after)) same
              (begun leaves moment might only_now (disk_of after) (λ a b. IsLeftOver (opening_of before) a b ⊎ IsLeftOver (opening_of after) a b) (λ a b in_a in_b. inr (now can a b in_a in_b)));
        };
      }

-- what a book keeps after a call, by what it noted of it
noted-made : {D : Type 0} (base : Db) (before : History) (call : ScriptCall) (verdict : Verdict) (told : Reply) (old new : Book) (here : Opening D) (after : Opening D)
    → IsOfASession call → here.base ≡ base → here.history ≡ before → after.base ≡ base → after.history ≡ before ++ entry_of call verdict ∷ []
    → answer (world base before) (entry_of call verdict) ≡ told → Keeps old here
    → new.marks ≡ marks_after old.marks call.session.0 (effect_by (effect_of call.request) told) (is_failure told) → length new.marks ≡ 16 → new.failed ≡ (old.failed || is_disk told)
    → ((tables : List TableNames) → new.tables ≡ Some tables → tables ≡ table_names (flat after.base after.history).schema)
    → Keeps new after
noted-made base before call verdict told old new here after session base_is history_is base_then history_then answered kept marks long failed named =
    let last = reply-last base before (entry_of call verdict) ∙ ap Some answered in
    record {
      long = long;
      failed = λ is. rw (base_then, history_then) (failed_by (old.failed) (is_disk told) refl refl (sym failed ∙ is) last);
      whole = λ is fails.
          let both = neither old.failed (is_disk told) (sym failed ∙ is) in
          ⊎_elim (λ was. kept.whole both.0 (rw (base_is, history_is) was)) (λ now. let never : true ≡ false = sym now ∙ both.1 in cc)
          (failed-more base before (entry_of call verdict) told last (rw (base_then, history_then) at fails));
      marks = λ is session_open begun block opened.
          let both = neither old.failed (is_disk told) (sym failed ∙ is) in
          rw marks (marks-made base before (entry_of call verdict) told answered old.marks kept.long session.0 session.1
          (λ other begun block was. kept.marks both.0 other begun block (rw (base_is, history_is) was)) session_open begun block (rw (base_then, history_then) at opened));
      names = named;
    }
  where
    neither : (a b : Bool) → (a || b) ≡ false → (a ≡ false) × (b ≡ false)
    neither true b is = cc
    neither false b is = (refl, is)

    failed_by : (was now : Bool) → old.failed ≡ was → is_disk told ≡ now → (was || now) ≡ true → reply base (before ++ entry_of call verdict ∷ []) (length before) ≡ Some told → IsFailedIn base (before ++ entry_of call verdict ∷ [])
    failed_by true now is_was is_now either last = failed-kept base before (entry_of call verdict ∷ []) (rw (← base_is, ← history_is) (kept.failed is_was))
    failed_by false true is_was is_now either last = record { place = length before; told = told; at = last; is = is_now }
    failed_by false false is_was is_now either last = cc

-- a call was answered, and noted
pub noted : {D : Type 0} (view : DiskView D) (before after : Opening D) (call : ScriptCall) (place : Option ℕ) (told : Reply) (old new : Book) → IsOfASession call
    → IsCalled view before after call place told → Keeps old before
    → new.marks ≡ (if is_some place then (if is_failure told then old.marks else marked old.marks call.session.0 (effect_by (effect_of call.request) told)) else old.marks)
    → length new.marks ≡ 16 → new.failed ≡ (old.failed || is_disk told) → new.tables ≡ (if is_create call.request then None else old.tables) → Keeps new after
noted view before after call (Some place) told old new session called kept marks long failed tables =
    let made = called.answered in
    noted-made before.base before.history call made.verdict told old new before after session refl refl called.base made.history_is
    (made-answer before.base before.history after.history call place told made) kept marks long failed (named-after view before after call (Some place) told old new called kept tables)
noted view before after call None told old new session called kept marks long failed tables =
    let same_base = called.base in
    let same_history = called.answered.history_is in
    let works : is_disk told ≡ false = ap is_disk called.answered.told_is in
    let same_failed : new.failed ≡ old.failed = failed ∙ still old.failed (is_disk told) works in
    record {
      long = long;
      failed = λ is. rw (same_base, same_history) (kept.failed (sym same_failed ∙ is));
      whole = λ is fails. kept.whole (sym same_failed ∙ is) (rw (same_base, same_history) at fails);
      marks = λ is session_open begun block opened. rw marks (kept.marks (sym same_failed ∙ is) session_open begun block (rw (same_base, same_history) at opened));
      names = named-after view before after call None told old new called kept tables;
    }
  where
    still : (a b : Bool) → b ≡ false → (a || b) ≡ a
    still true b is = refl
    still false b is = is

-- whether a call has a place
place-some : (place : Option Place) → is_some (option_map (λ (p : Place). p.0) place) ≡ is_some place
place-some (Some place) = refl
place-some None = refl

-- there are as many marks as before
marked-long : (marks : List Bool) (session : ℕ) (effect : Effect) → length (marked marks session effect) ≡ length marks
marked-long marks session Opens = length-set marks (session - 1) true
marked-long marks session Closes = length-set marks (session - 1) false
marked-long marks session Leaves = refl

noted-long : (marks : List Bool) (session : ℕ) (effect : Effect) (made failed : Bool) → length (if made then (if failed then marks else marked marks session effect) else marks) ≡ length marks
noted-long marks session effect true true = refl
noted-long marks session effect true false = marked-long marks session effect
noted-long marks session effect false failed = refl

-- a call was answered, told and noted
pub noted-call : {D : Type 0} (view : DiskView D) (before after : Opening D) (call : ScriptCall) (place : Option Place) (told : Reply) (old new : Book) (effect : Effect) → IsOfASession call
    → IsCalled view before after call (option_map (λ (p : Place). p.0) place) told → Keeps old before → effect ≡ effect_of call.request
    → new.marks ≡ (if is_some place then (if is_failure told then old.marks else marked old.marks call.session.0 (effect_by effect told)) else old.marks) → new.failed ≡ (old.failed || is_disk told)
    → new.tables ≡ (if is_create call.request then None else old.tables) → Keeps new after
noted-call view before after call place told old new effect session called kept effect_is marks failed tables =
    let same : new.marks ≡ (if is_some (option_map (λ (p : Place). p.0) place) then (if is_failure told then old.marks else marked old.marks call.session.0 (effect_by (effect_of call.request) told)) else old.marks) =
    rw (place-some place, ← effect_is) marks in
    noted view before after call (option_map (λ (p : Place). p.0) place) told old new session called kept same
    (ap length same ∙ (noted-long old.marks call.session.0 (effect_by (effect_of call.request) told) (is_some (option_map (λ (p : Place). p.0) place)) (is_failure told) ∙ kept.long)) failed tables

-- a CHECKPOINT leaves the marks
checkpoint-leaves : (request : Request) → is_checkpoint request ≡ true → effect_of request ≡ Leaves
checkpoint-leaves (Run (statement.Select select)) is = cc
checkpoint-leaves (Run (statement.Insert table columns rows)) is = cc
checkpoint-leaves (Run (statement.Update table sets cond)) is = cc
checkpoint-leaves (Run (statement.Delete table cond)) is = cc
checkpoint-leaves (Run (statement.CreateTable table)) is = cc
checkpoint-leaves (Run (statement.CreateView view)) is = cc
checkpoint-leaves (Run (statement.GdprGet table key)) is = cc
checkpoint-leaves (Run (statement.GdprForget table key)) is = cc
checkpoint-leaves (Run statement.Begin) is = cc
checkpoint-leaves (Run statement.Commit) is = cc
checkpoint-leaves (Run statement.Rollback) is = cc
checkpoint-leaves (Run statement.Checkpoint) is = refl
checkpoint-leaves (Run statement.Explain) is = cc
checkpoint-leaves (Syntax byte) is = cc
checkpoint-leaves (Limit passed) is = cc
checkpoint-leaves End is = cc

-- and where it is done, so does its reply
pub marks-left : (marks : List Bool) (session : ℕ) (effect : Effect) (request : Request) (made failed : Bool) → effect ≡ effect_of request → is_checkpoint request ≡ true
    → (if made then (if failed then marks else marked marks session (effect_by effect Done)) else marks) ≡ marks
marks-left marks session effect request true true effect_is is = refl
marks-left marks session effect request true false effect_is is = ap (marked marks session) (effect_is ∙ checkpoint-leaves request is)
marks-left marks session effect request false failed effect_is is = refl

-- it is no CREATE
pub checkpoint-plain : (request : Request) → is_checkpoint request ≡ true → is_create request ≡ false
checkpoint-plain (Run (statement.Select select)) is = cc
checkpoint-plain (Run (statement.Insert table columns rows)) is = cc
checkpoint-plain (Run (statement.Update table sets cond)) is = cc
checkpoint-plain (Run (statement.Delete table cond)) is = cc
checkpoint-plain (Run (statement.CreateTable table)) is = cc
checkpoint-plain (Run (statement.CreateView view)) is = cc
checkpoint-plain (Run (statement.GdprGet table key)) is = cc
checkpoint-plain (Run (statement.GdprForget table key)) is = cc
checkpoint-plain (Run statement.Begin) is = cc
checkpoint-plain (Run statement.Commit) is = cc
checkpoint-plain (Run statement.Rollback) is = cc
checkpoint-plain (Run statement.Checkpoint) is = refl
checkpoint-plain (Run statement.Explain) is = cc
checkpoint-plain (Syntax byte) is = cc
checkpoint-plain (Limit passed) is = cc
checkpoint-plain End is = cc

-- a CHECKPOINT that is done ends the history
pub laid-done : {D : Type 0} (view : DiskView D) (before after : Opening D) (call : ScriptCall) (place : Option ℕ) (told : Reply) → IsCalled view before after call place told → is_checkpoint call.request ≡ true
    → told ≡ Done → EndsLaid after.base after.history
laid-done view before after call (Some place) told called is done =
    let made = called.answered in
    record {
      front = before.history;
      last = entry_of call made.verdict;
      history_is = made.history_is;
      asked = is;
      done = rw (called.base, ← done, ← made.place_is) made.reply_is;
    }
laid-done view before after call None told called is done = let never : Refused Memory ≡ Done = sym called.answered.told_is ∙ done in cc
