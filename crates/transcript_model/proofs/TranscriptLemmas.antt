-- A transcript, call by call.
use Rattle.std.proofs.Common.{◌≡◌, ℕ, List, [], ◌∷◌, ◌++◌, length, refl, ap, sym, ◌∙◌, arith, append-nil}
use Rattle.std.proofs.lemmas.List.{map-append}
use Rattle.own_model.specs.declared.history.Verdict.{Verdict}
use Rattle.own_model.specs.declared.script.ScriptCall.{ScriptCall}
use Rattle.own_model.specs.Db.{Db}
use Rattle.history_model.specs.History.{History}
use Rattle.history_model.specs.Made.{Want, Spared, Unshown, Unmade, Called, added, after_call, entry_of, made, place_by}
use Rattle.history_model.specs.MayBeUnmade.{MayBeUnmade}
use Rattle.script_model.proofs.Counts.{count-more, count-own}
use Rattle.script_model.proofs.InputCalls.{all-append}
use Rattle.transcript_model.specs.Printed.{lines_at, printed}
use Rattle.transcript_model.specs.Transcript.{IsTranscript, text_of_call}
use Rattle.transcript_model.proofs.PrintedLemmas.{CallsWithin, EntriesWithin, IsNext, lines_of-place, made-append, none_within, others_added, place_added, printed-append, printed-last}

-- A call more: its entry goes after the history, unless memory refused it, and its lines after the text.
pub transcript-more : (base : Db) (calls : List ScriptCall) (history : History) (text : List ℕ) (call : ScriptCall) (want : Want) (verdict : Verdict)
    → IsTranscript base calls history text → IsNext calls call → CallsWithin calls calls → EntriesWithin calls history
    → (want ≡ Unmade → MayBeUnmade call.request) → (want ≡ Unshown → ⊥)
    → IsTranscript base (calls ++ call ∷ []) (history ++ added (entry_of call verdict) want) (text ++ text_of_call base history call want verdict)
unfolding made
transcript-more base calls history text call want verdict run next within earlier cause shows =
    let last : Called = record { call = call; want = want; verdict = verdict } in
    let grown = history ++ added (entry_of call verdict) want in
    let same_calls = map-append (λ called. called.call) run.called (last ∷ []) ∙ ap (λ calls. calls ++ call ∷ []) run.calls_are in
    let others = others_added calls (entry_of call verdict) want run.called next (rw run.calls_are within) in
    let before = run.text_is ∙ sym (printed-append base history (added (entry_of call verdict) want) run.called others) in
    let lines = lines_of-place base grown last (place_by want (length history)) (place_added history call want verdict (none_within calls call history next earlier)) in
    record {
      called = run.called ++ last ∷ [];
      calls_are = same_calls;
      unmade = all-append (λ (c : Called). c.want ≡ Unmade → MayBeUnmade c.call.request) run.called (last ∷ []) run.unmade (cause, tt);
      shown = all-append (λ (c : Called). c.want ≡ Unshown → ⊥) run.called (last ∷ []) run.shown (shows, tt);
      history_is = ap (λ h. after_call h last) run.history_is ∙ sym (made-append run.called last);
      text_is = ap (λ t. t ++ lines_at base grown last (place_by want (length history))) before
          ∙ (ap (λ l. printed base grown run.called ++ l) lines ∙ sym (printed-last base grown run.called last));
    }

-- no call yet
pub transcript-none : (base : Db) → IsTranscript base [] [] []
unfolding made printed
transcript-none base = record { called = []; calls_are = refl; unmade = tt; shown = tt; history_is = refl; text_is = refl }

-- what is within the calls is within these and one more
calls_kept : (done : List ScriptCall) (more : ScriptCall) (calls : List ScriptCall) → CallsWithin done calls → CallsWithin (done ++ more ∷ []) calls
calls_kept done more [] within = tt
calls_kept done more (call ∷ calls) within =
    (let least = count-more call.session.0 done more in let own = within.0 in omega arith, calls_kept done more calls within.1)

-- and so is the one
pub calls_within-more : (done : List ScriptCall) (call : ScriptCall) → IsNext done call → CallsWithin done done → CallsWithin (done ++ call ∷ []) (done ++ call ∷ [])
calls_within-more done call next within =
    all-append _ done (call ∷ []) (calls_kept done call done within) (let own = count-own done call in omega arith, tt)

entries_kept : (done : List ScriptCall) (more : ScriptCall) (history : History) → EntriesWithin done history → EntriesWithin (done ++ more ∷ []) history
entries_kept done more [] within = tt
entries_kept done more (entry ∷ history) within =
    (let least = count-more entry.session.0 done more in let own = within.0 in omega arith, entries_kept done more history within.1)

entries_last : (done : List ScriptCall) (history : History) (call : ScriptCall) (verdict : Verdict) → IsNext done call → EntriesWithin done history
    → EntriesWithin (done ++ call ∷ []) (history ++ entry_of call verdict ∷ [])
entries_last done history call verdict next within =
    all-append _ history (entry_of call verdict ∷ []) (entries_kept done call history within) (let own = count-own done call in omega arith, tt)

pub entries_within-more : (done : List ScriptCall) (history : History) (call : ScriptCall) (want : Want) (verdict : Verdict) → IsNext done call → EntriesWithin done history
    → EntriesWithin (done ++ call ∷ []) (history ++ added (entry_of call verdict) want)
entries_within-more done history call Spared verdict next within = entries_last done history call verdict next within
entries_within-more done history call Unshown verdict next within = entries_last done history call verdict next within
entries_within-more done history call Unmade verdict next within = rw append-nil (entries_kept done call history within)
