-- What a call came to is what is told of it, and what it did to the disk.
use Rattle.std.proofs.Common.{◌≡◌, ℕ, List, ◌∷◌, [], ◌++◌, Bool, true, false, length, refl, ap, append-nil, inl, inr, sym, subst, ◌∙◌, arith}
use Rattle.std.specs.Prelude.{◌<◌, ◌≢◌, ◌⊎◌, Contains, Option, None, Some, Result, IfOk}
use Rattle.std.specs.Option.{option_to_list}
use Rattle.std.proofs.lemmas.Result.{IfOk-weaker}
use Rattle.own_base.specs.declared.number.Area.{Area}
use Rattle.own_model.specs.declared.history.Entry.{Entry}
use Rattle.own_model.specs.declared.history.Verdict.{Verdict}
use Rattle.own_model.specs.declared.history.Verdict.TheVariants.{DiskFault, NoRoom, Took}
use Rattle.own_model.specs.declared.refusal.Refusal.TheVariants.{Memory}
use Rattle.own_model.specs.declared.reply.Reply.{Reply}
use Rattle.own_model.specs.declared.reply.Reply.TheVariants.{Refused}
use Rattle.own_model.specs.declared.script.ScriptCall.{ScriptCall}
use Rattle.text_model.specs.Lines.{reply_lines}
use Rattle.own_model.specs.Db.{Db}
use Rattle.outer_world.specs.FaultCount.{CountRose}
use Rattle.history_model.specs.AsksDisk.{under}
use Rattle.history_model.specs.History.{History, is_disk, reply}
use Rattle.history_model.specs.Made.{Want, Spared, Unmade, Unshown, entry_of, place_by}
use Rattle.history_model.proofs.UnmadeLemmas.{from-unmade}
use Rattle.made_model.specs.Answered.{answered_as}
use Rattle.transcript_model.specs.Transcript.{text_of_call}
use Rattle.engine_core.specs.Seen.{LeavesUnmade, Makes, Seen, Writes, disk_of}
use Rattle.engine_core.specs.Stored.{is_fault}
use Rattle.history_model.specs.Fails.{fails_at}
use Rattle.crash_model.specs.MovesDisk.{MovesDiskOnce}
use Rattle.crash_model.proofs.Moves.{among-more}
use Rattle.store_top.specs.Steps.{AnswersCall, MakesCall}
use Rattle.history_model.proofs.Failures.{fails-past}

-- a call was made, and is answered by the reply at its place
pub answers-made : {D : Type 0} (call : ScriptCall) (verdict : Verdict) (before after : Seen D) (place : ℕ) (told : Reply) → Makes before after (entry_of call verdict) place told
    → AnswersCall before.base call before.history after.history (Some place) told
answers-made call verdict before after place told makes =
    let answered : reply before.base (before.history ++ entry_of call verdict ∷ []) (length before.history) ≡ Some told = rw (makes.history, makes.stands) at makes.answered in
    record {
      want = Spared;
      verdict = verdict;
      history_is = makes.history;
      spared = λ unmade. cc;
      shown = λ unshown. cc;
      stands = ap Some makes.stands;
      told_is = rw answered refl;
    }

-- memory kept a call from being made
pub answers-unmade : {D : Type 0} (call : ScriptCall) (before after : Seen D) → 0 < before.spare → LeavesUnmade before after (entry_of call Took)
    → AnswersCall before.base call before.history after.history None (Refused Memory)
answers-unmade call before after room leaves = record {
  want = Unmade;
  verdict = Took;
  history_is = leaves.history ∙ sym (append-nil before.history);
  spared = λ unmade. from-unmade _ _ (entry_of call Took).request (leaves.spared room);
  shown = λ unshown. cc;
  stands = refl;
  told_is = refl;
}

of_one : (found : Option Reply) (told : Reply) → option_to_list found ≡ told ∷ [] → found ≡ Some told
of_one None told is = cc
of_one (Some reply) told is = ap Some (cc)

-- the lines of what a call is answered are its text
lines_are : (base : Db) (call : ScriptCall) (before : History) (want : Want) (verdict : Verdict) (place : Option ℕ) (told : Reply) → place ≡ place_by want (length before)
    → answered_as base before (entry_of call verdict) want ≡ told ∷ [] → want ≢ Unshown
    → reply_lines place call.session.0 call.call told ≡ text_of_call base before call want verdict
lines_are base call before Spared verdict place told stands is shown =
    let answered = of_one (reply base (before ++ entry_of call verdict ∷ []) (length before)) told is in
    rw (stands, answered) refl
lines_are base call before Unshown verdict place told stands is shown = absurd (shown refl)
lines_are base call before Unmade verdict place told stands is shown =
    let same : told ≡ Refused Memory = cc in
    rw (stands, same) refl

-- what a call is answered was printed
pub makes-call : {T E : Type 0} (bytes_of : T → List ℕ) (base : Db) (call : ScriptCall) (before after : History) (place : Option ℕ) (told : Reply) (result : Result T E)
    → AnswersCall base call before after place told → IfOk result (λ text. bytes_of text ≡ reply_lines place call.session.0 call.call told)
    → MakesCall bytes_of base call before after result
makes-call bytes_of base call before after place told result answers printed = record {
  want = answers.want;
  verdict = answers.verdict;
  history_is = answers.history_is;
  spared = answers.spared;
  shown = answers.shown;
  text_is = IfOk-weaker result _ _ (λ text is. is ∙ lines_are base call before answers.want answers.verdict place told answers.stands answers.told_is answers.shown) printed;
}

-- a call that was made was answered with a fault of the disk just where its reply tells that
pub fails-made : {D : Type 0} (before after : Seen D) (made : Entry) (place : ℕ) (told : Reply) → Makes before after made place told
    → is_disk told ≡ fails_at before.base after.history (length before.history)
fails-made before after made place told makes =
    let answered : reply before.base after.history (length before.history) ≡ Some told = rw makes.stands at makes.answered in
    rw answered refl

-- and one that wasn't made was not
pub fails-unmade : {D : Type 0} (before after : Seen D) (unmade : Entry) → LeavesUnmade before after unmade
    → fails_at before.base after.history (length before.history) ≡ false
fails-unmade before after unmade leaves = rw leaves.history (fails-past before.base before.history (length before.history) (omega arith))

fault_is : (verdict : Verdict) → is_fault verdict ≡ true → verdict ≡ DiskFault
fault_is Took is = cc
fault_is DiskFault is = refl
fault_is NoRoom is = cc

no_fault : (verdict : Verdict) → is_fault verdict ≡ false → verdict ≢ DiskFault
no_fault Took none = λ is. cc
no_fault DiskFault none = λ is. cc
no_fault NoRoom none = λ is. cc

module _ {D : Type 0} (holds : D → Area → List ℕ) (leaves : D → Area → List ℕ → Type 0) (moment : D → ℕ) (might : D → ℕ → List ℕ → List ℕ → Type 0) (honest : D → Bool) (faults : D → ℕ) where
  -- what a call that was made did to the disk,
  pub moves-made : (before after : Seen D) (call : Entry) (verdict : Verdict) (place : ℕ) (told : Reply) → Makes before after (under verdict call) place told
      → Writes holds leaves moment might honest faults before after call verdict told
      → MovesDiskOnce moment might honest faults before.base before.start before.history after.history (disk_of before) (disk_of after)
  moves-made before after call verdict place told makes writes =
      let fails : fails_at before.base after.history (length before.history) ≡ is_fault verdict = sym (fails-made before after (under verdict call) place told makes) ∙ writes.fault in
      record {
        honesty = writes.honesty;
        time = writes.time;
        risen = writes.risen;
        rose = λ is. writes.rose (fault_is verdict (sym fails ∙ is));
        steady = λ none. writes.steady (no_fault verdict (sym fails ∙ none));
        told = said;
        moments = λ can. inr (writes.left can);
      }
    where
      said : (entry : Entry) → Contains after.history entry → entry.verdict ≡ DiskFault → Contains before.history entry ⊎ CountRose (faults (disk_of before)) (faults (disk_of after))
      said entry among failed =
          elim (among-more before.history (under verdict call) entry (subst (λ h. Contains h entry) makes.history among)) [
            | inl was ↦ inl was
            | inr same ↦ inr (writes.rose (ap (λ (e : Entry). e.verdict) same ∙ failed))
          ]

  -- and one that wasn't left it
  pub moves-unmade : (before after : Seen D) (unmade : Entry) → LeavesUnmade before after unmade
      → MovesDiskOnce moment might honest faults before.base before.start before.history after.history (disk_of before) (disk_of after)
  moves-unmade before after unmade unmade_is =
      let same : disk_of after ≡ disk_of before = ap (λ store. store.journal.disk) unmade_is.store in
      let none = fails-unmade before after unmade unmade_is in
      record {
        honesty = ap honest same;
        time = rw same (omega arith);
        risen = rw same (omega arith);
        rose = λ is. let never : ⊥ = cc in absurd never;
        steady = λ none. ap faults same;
        told = λ entry among failed. inl (subst (λ h. Contains h entry) unmade_is.history among);
        moments = λ can. inl same;
      }
