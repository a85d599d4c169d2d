-- What calls were answered, and one call more.
use Rattle.std.proofs.Common.{◌≡◌, ◌≤◌, List, [], ◌∷◌, ◌++◌, length, fold, refl, ap, sym, ◌∙◌, append_assoc, append-nil, arith}
use Rattle.std.specs.Prelude.{Option, None, Some}
use Rattle.std.specs.Option.{option_to_list}
use Rattle.std.proofs.lemmas.List.{map-append}
use Rattle.std.proofs.lemmas.List.Sums.{fold-append}
use Rattle.own_model.specs.declared.history.Entry.{Entry}
use Rattle.own_model.specs.declared.history.Verdict.{Verdict}
use Rattle.own_model.specs.declared.reply.Reply.{Reply}
use Rattle.own_model.specs.declared.request.Request.{Request}
use Rattle.own_model.specs.declared.request.Request.TheVariants.{Run, Syntax, Limit, End}
use Rattle.own_model.specs.declared.script.ScriptCall.{ScriptCall}
use Rattle.own_model.specs.Db.{Db}
use Rattle.script_model.proofs.InputCalls.{all-append}
use Rattle.history_model.specs.History.{History, reply}
use Rattle.history_model.specs.Made.{Called, Want, Spared, Unmade, Unshown, added, after_call, entry_of, made}
use Rattle.history_model.specs.MayBeUnmade.{MayBeUnmade}
use Rattle.made_model.specs.Answered.{AreAnswered, answer_behind, answered_as, answers_behind, counted}

-- no call yet
pub answered-none : (base : Db) → AreAnswered base [] [] []
unfolding made answers_behind
answered-none base = record { called = []; calls_are = refl; unmade = tt; shown = tt; history_is = refl; replies_are = refl }

-- what one call more is answered comes last
answers-last : (base : Db) (history : History) (calls : List Called) (last : Called)
    → answers_behind base history (calls ++ last ∷ []) ≡ answers_behind base history calls ++ answer_behind base (fold after_call history calls) last
unfolding answers_behind
answers-last base history [] last = append-nil (answer_behind base history last)
answers-last base history (called ∷ calls) last =
    ap (λ (replies : List Reply). answer_behind base history called ++ replies) (answers-last base (after_call history called) calls last)
    ∙ sym (append_assoc (answer_behind base history called) (answers_behind base (after_call history called) calls) (answer_behind base (fold after_call (after_call history called) calls) last))

-- a call more: its entry goes after the history, unless memory refused it, and its reply after the others
pub answered-more : (base : Db) (calls : List ScriptCall) (history : History) (replies : List Reply) (call : ScriptCall) (want : Want) (verdict : Verdict)
    → AreAnswered base calls history replies → (want ≡ Unmade → MayBeUnmade call.request) → (want ≡ Unshown → ⊥)
    → AreAnswered base (calls ++ call ∷ []) (history ++ added (entry_of call verdict) want)
    (replies ++ counted call.request (answered_as base history (entry_of call verdict) want))
unfolding made
answered-more base calls history replies call want verdict run cause shows =
    let last : Called = record { call = call; want = want; verdict = verdict } in
    record {
      called = run.called ++ last ∷ [];
      calls_are = map-append (λ called. called.call) run.called (last ∷ []) ∙ ap (λ calls. calls ++ call ∷ []) run.calls_are;
      unmade = all-append (λ (c : Called). c.want ≡ Unmade → MayBeUnmade c.call.request) run.called (last ∷ []) run.unmade (cause, tt);
      shown = all-append (λ (c : Called). c.want ≡ Unshown → ⊥) run.called (last ∷ []) run.shown (shows, tt);
      history_is = ap (λ h. after_call h last) run.history_is ∙ sym (fold-append after_call [] run.called (last ∷ []));
      replies_are = ap (λ (h : History). replies ++ answer_behind base h last) run.history_is
          ∙ ap (λ (before : List Reply). before ++ answer_behind base (fold after_call [] run.called) last) run.replies_are
          ∙ sym (answers-last base [] run.called last);
    }

one_at_most : (found : Option Reply) → length (option_to_list found) ≤ 1
one_at_most None = omega arith
one_at_most (Some told) = omega arith

answered_few : (base : Db) (history : History) (entry : Entry) (want : Want) → length (answered_as base history entry want) ≤ 1
answered_few base history entry Spared = one_at_most (reply base (history ++ entry ∷ []) (length history))
answered_few base history entry Unshown = one_at_most (reply base (history ++ entry ∷ []) (length history))
answered_few base history entry Unmade = omega arith

-- a call has one reply at most that counts
pub counted-few : (base : Db) (history : History) (entry : Entry) (want : Want) (request : Request) → length (counted request (answered_as base history entry want)) ≤ 1
counted-few base history entry want (Run statement) = answered_few base history entry want
counted-few base history entry want (Syntax byte) = answered_few base history entry want
counted-few base history entry want (Limit passed) = answered_few base history entry want
counted-few base history entry want End = omega arith
