-- Calls served one after another.
use Rattle.std.proofs.Common.{◌≡◌, ℕ, List, [], ◌∷◌, ◌++◌, Bool, take, refl, ap, sym, subst, ◌∙◌, append_assoc, append-nil}
use Rattle.std.specs.Prelude.{Option, None, Some, Result, Ok, Err}
use Rattle.std.specs.Io.KnownBytes.{Appends}
use Rattle.std.specs.List.{AllByRecursion}
use Rattle.own_model.specs.declared.history.Verdict.{Verdict}
use Rattle.own_model.specs.declared.script.ScriptCall.{ScriptCall}
use Rattle.own_model.specs.Db.{Db}
use Rattle.grammar_model.specs.Readable.{IsReadable}
use Rattle.script_model.specs.Numbered.{AreNumbered}
use Rattle.script_model.specs.Split.{IsOfASession}
use Rattle.script_model.proofs.InputCalls.{all-append}
use Rattle.history_model.specs.History.{History}
use Rattle.history_model.specs.Made.{Want, Spared, Unmade, Unshown, added, entry_of}
use Rattle.history_model.specs.Serial.{IsEntry, IsHistory}
use Rattle.transcript_model.specs.Transcript.{text_of_call}
use Rattle.transcript_model.proofs.PrintedLemmas.{CallsWithin, EntriesWithin}
use Rattle.transcript_model.proofs.TranscriptLemmas.{calls_within-more, entries_within-more, transcript-more, transcript-none}
use Rattle.session_run.specs.declared.printing.RunFault.{RunFault}
use Rattle.session_run.specs.declared.printing.RunFault.TheVariants.{Write, Memory}
use Rattle.store_top.specs.Steps.{AreReadable, RunsTo, MakesCallTo, StopsAtCall, TellsCall, ToldBefore, ToldInPart}

-- bytes that were appended one after another
pub appends-more : (old mid new : Option (List ℕ)) (first second : List ℕ) → Appends old mid first → Appends mid new second → Appends old new (first ++ second)
appends-more None mid new first second a b = tt
appends-more (Some xs) None new first second a b = absurd a
appends-more (Some xs) (Some ys) None first second a b = absurd b
appends-more (Some xs) (Some ys) (Some zs) first second a b = b ∙ (ap (λ ys. ys ++ second) a ∙ append_assoc xs first second)

-- and a part of the second
told_in_part : (old mid new : Option (List ℕ)) (first second : List ℕ) → Appends old mid first → ToldInPart mid new [] second → ToldInPart old new first second
told_in_part old mid new first second a told = (told.0, told.1, appends-more old mid new first (take told.0 second) a told.2)

-- and nothing of the second
told_before : (old mid new : Option (List ℕ)) (first second : List ℕ) → Appends old mid first → ToldBefore mid new [] second → ToldBefore old new first second
told_before old mid new first second a told = rw (sym (append-nil first)) (appends-more old mid new first [] a told)

-- nothing
pub appends-nothing : (old : Option (List ℕ)) → Appends old old []
appends-nothing None = tt
appends-nothing (Some xs) = sym (append-nil xs)

-- a history of the sessions' entries stays one by a call's
pub entries-added : (history : History) (call : ScriptCall) (verdict : Verdict) (want : Want) → IsReadable call.request → IsOfASession call → IsHistory history
    → IsHistory (history ++ added (entry_of call verdict) want)
entries-added history call verdict Spared readable session entered =
    all-append IsEntry history (entry_of call verdict ∷ []) entered (record { readable = readable; first = session.0; last = session.1 }, tt)
entries-added history call verdict Unshown readable session entered =
    all-append IsEntry history (entry_of call verdict ∷ []) entered (record { readable = readable; first = session.0; last = session.1 }, tt)
entries-added history call verdict Unmade readable session entered = rw append-nil entered

-- Over a database some calls are served, and the rest, numbered after them, are left.
pub record Serving (base : Db) (calls done rest : List ScriptCall) (history : History) (old new : Option (List ℕ)) : Type 0 where
  pub whole : done ++ rest ≡ calls
  pub runs : RunsTo base done history old new
  pub numbered : AreNumbered done rest
  pub readable : AreReadable rest
  pub sessions : AllByRecursion IsOfASession rest
  pub calls_within : CallsWithin done done
  pub entries_within : EntriesWithin done history
  pub entries : IsHistory history

-- none is served yet
pub serving-none : (base : Db) (calls : List ScriptCall) (old : Option (List ℕ)) → AreNumbered [] calls → AreReadable calls → AllByRecursion IsOfASession calls
    → Serving base calls [] calls [] old old
serving-none base calls old numbered readable sessions = record {
  whole = refl;
  runs = record { text = []; transcript = transcript-none base; written = appends-nothing old };
  numbered = numbered;
  readable = readable;
  sessions = sessions;
  calls_within = tt;
  entries_within = tt;
  entries = tt;
}

module _ (base : Db) (calls done : List ScriptCall) (call : ScriptCall) (rest : List ScriptCall) (history after : History) (old mid new : Option (List ℕ))
    (before : Serving base calls done (call ∷ rest) history old mid) where
  -- its entry may be one of the history
  pub serving-entered : (result : Result Bool RunFault) → MakesCallTo base call history after mid new result → IsHistory after
  serving-entered result step = rw step.history_is (entries-added history call step.verdict step.want before.readable.0 before.sessions.0 before.entries)

  -- one more is served
  pub serving-more : (failed : Bool) → MakesCallTo base call history after mid new (Ok failed)
      → Serving base calls (done ++ call ∷ []) rest after old new
  serving-more failed step =
      let next = before.numbered.0 in
      record {
        whole = append_assoc done (call ∷ []) rest ∙ before.whole;
        runs = record {
          text = _;
          transcript = rw step.history_is (transcript-more base done history before.runs.text call step.want step.verdict before.runs.transcript next before.calls_within before.entries_within step.spared step.shown);
          written = appends-more old mid new _ _ before.runs.written step.written;
        };
        numbered = before.numbered.1;
        readable = before.readable.1;
        sessions = before.sessions.1;
        calls_within = calls_within-more done call next before.calls_within;
        entries_within = rw step.history_is (entries_within-more done history call step.want step.verdict next before.entries_within);
        entries = serving-entered (Ok failed) step;
      }

  -- a fault comes at one more
  stops_at : (result : Result Bool RunFault) (step : MakesCallTo base call history after mid new result) (Told : List ℕ → List ℕ → Type 0)
      → Told before.runs.text (text_of_call base history call step.want step.verdict) → StopsAtCall base calls after Told
  stops_at result step Told told =
      let next = before.numbered.0 in
      record {
        done = done;
        last = call;
        rest = rest;
        parts = sym before.whole;
        before = history;
        text = before.runs.text;
        transcript = before.runs.transcript;
        want = step.want;
        verdict = step.verdict;
        history_is = step.history_is;
        spared = step.spared;
        made = rw step.history_is (transcript-more base done history before.runs.text call step.want step.verdict before.runs.transcript next before.calls_within before.entries_within step.spared step.shown);
        told = told;
      }

  -- a write fault
  pub serving-breaks : (result : Result Bool RunFault) → MakesCallTo base call history after mid new result → result ≡ Err Write
      → StopsAtCall base calls after (ToldInPart old new)
  serving-breaks result step is =
      let text = text_of_call base history call step.want step.verdict in
      stops_at result step (ToldInPart old new)
      (told_in_part old mid new before.runs.text text before.runs.written (subst (λ r. TellsCall r mid new text) is step.written))

  -- out of memory
  pub serving-refused : (result : Result Bool RunFault) → MakesCallTo base call history after mid new result → result ≡ Err Memory
      → StopsAtCall base calls after (ToldBefore old new)
  serving-refused result step is =
      let text = text_of_call base history call step.want step.verdict in
      stops_at result step (ToldBefore old new)
      (told_before old mid new before.runs.text text before.runs.written (subst (λ r. TellsCall r mid new text) is step.written))

-- all are served
pub serving-ends : (base : Db) (calls done : List ScriptCall) (history : History) (old new : Option (List ℕ)) → Serving base calls done [] history old new → RunsTo base calls history old new
serving-ends base calls done history old new before = rw (sym before.whole ∙ append-nil done) before.runs
