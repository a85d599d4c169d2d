-- What is told of calls is what a history says of them.
use Rattle.std.proofs.Common.{◌≡◌, ℕ, zero, suc, ◌<◌, ◌≢◌, List, [], ◌∷◌, ◌++◌, length, refl, ap, sym, ◌∙◌, subst, inl, inr, arith, ◌+◌, length-append}
use Rattle.std.specs.Prelude.{true, false, ltb, Option, None, Some, IfSome, slice_get}
use mathlib.Core.List.{IsPrefix}
use Rattle.own_base.specs.declared.number.Place.{Place}
use Rattle.own_base.specs.declared.number.SessionNo.{SessionNo}
use Rattle.own_model.specs.declared.history.Entry.{Entry}
use Rattle.own_model.specs.declared.history.Verdict.{Verdict}
use Rattle.own_model.specs.declared.history.Verdict.TheVariants.{Took}
use Rattle.own_model.specs.declared.refusal.Refusal.TheVariants.{Memory}
use Rattle.own_model.specs.declared.reply.Reply.{Reply}
use Rattle.own_model.specs.declared.reply.Reply.TheVariants.{Refused}
use Rattle.own_model.specs.declared.request.Request.{Request}
use Rattle.own_model.specs.Db.{Db}
use Rattle.schema_model.proofs.Places.{slice_get-append, slice_get-push}
use Rattle.text_model.specs.Lines.{reply_lines}
use Rattle.run_model.specs.Run.{run_bound}
use Rattle.history_model.specs.History.{History, flat, is_disk, reply, world}
use Rattle.history_model.specs.Made.{Called, Want, Spared, Unshown, Unmade, entry_of, place_by}
use Rattle.history_model.proofs.HistoryLemmas.{reply-append}
use Rattle.transcript_model.specs.Printed.{is_shown, lines_at, looks, told}
use Rattle.serve_model.specs.declared.step.Step.{Step}
use Rattle.serve_model.specs.declared.step.Step.TheVariants.{Answered, Look, NoMemory}
use Rattle.serve_model.specs.Steps.{IsAnswered, IsLookedAt, Steps, entry}
use Rattle.serve_model.proofs.LookLemmas.{look-replied}
use Rattle.commit_turn.specs.Steps.{added_place}
use Rattle.session_run.specs.declared.replies.Told.{Told}
use Rattle.session_run.specs.Telling.{IsShown, TellsReply, TellsStep, place_number}
use Rattle.session_run.specs.ToldCalls.{AreTold, IsTold, call_in, fails_at, places_told}
use Rattle.session_run.proofs.LookedLemmas.{look-looks, look-shown, looks-append, shown_is_no_fault}

if_some_along : {X : Type 0} (o : Option X) (P Q : X → Type 0) → ((x : X) → P x → Q x) → IfSome o P → IfSome o Q
if_some_along None P Q weaker is = is
if_some_along (Some x) P Q weaker is = weaker x is

-- one entry more has its place behind those found
place_added : (found left : History) (made : Entry) → left ≡ found ++ made ∷ [] → added_place found left ≡ length found ∷ []
place_added found left made is =
    let more : length left ≡ length found + 1 = (let l = ap length is in let m = length-append found (made ∷ []) in omega arith) in
    let less : ltb (length found) (length left) ≡ true = grind arith in
    rw less refl

none_added : (found left : History) → left ≡ found → added_place found left ≡ []
none_added found left is = let less : ltb (length found) (length left) ≡ false = rw is (grind arith) in rw less refl

module _ (base : Db) (found left : History) (session : SessionNo) (asked : ℕ × Request) (told : Told) where
  -- a call whose entry is the last is told by its reply there
  made_told : (want : Want) (verdict : Verdict) (place : Place) (answer shown : Reply) → want ≢ Unmade
      → left ≡ found ++ entry_of (call_in session asked) verdict ∷ [] → place.0 ≡ length found → reply base left place.0 ≡ Some answer
      → place_by want place.0 ≡ Some place.0
      → is_disk shown ≡ is_disk answer
      → lines_at base left (record { call = call_in session asked; want = want; verdict = verdict }) (Some place.0) ≡ reply_lines (Some place.0) session.0 asked.0 shown
      → TellsReply session.0 asked.0 (Some place) shown told
      → IsTold base left session asked told × (places_told (told ∷ []) ≡ added_place found left)
  made_told want verdict place answer shown made is stands replied at fault lines tells =
      let placed : place_number told.place ≡ Some place.0 = ap place_number tells.place_is in (
        record {
          called = record { call = call_in session asked; want = want; verdict = verdict };
          at = place.0;
          call_is = refl;
          number = tells.call_is;
          place = placed ∙ sym at;
          stands = λ not_unmade. rw (is, stands) (slice_get-push found (entry_of (call_in session asked) verdict));
          failed = rw (placed, replied) (tells.failed ∙ fault);
          lines = if_some_along told.lines _ _ (λ text own. own ∙ (sym lines ∙ ap (lines_at base left (record { call = call_in session asked; want = want; verdict = verdict })) (sym placed))) tells.lines;
        },
        rw placed (rw (place_added found left _ is, stands) refl),
      )

  -- one that was answered
  answered_told : (place : Place) (answer : Reply) → IsAnswered base found left (entry session asked.0 asked.1) place.0 answer
      → TellsReply session.0 asked.0 (Some place) answer told → IsTold base left session asked told × (places_told (told ∷ []) ≡ added_place found left)
  answered_told place answer step tells =
      made_told Spared step.verdict place answer answer (λ never. cc) step.made.history step.made.stands step.answered refl refl (rw step.answered refl) tells

  -- a look, by what it shows or for want of memory
  looked_told : {S : Type 0} (shows : S → Db) (place : Place) (shown : S) (bound : _) (answer : Reply) → IsLookedAt shows base found left (entry session asked.0 asked.1) place.0 shown bound
      → IsShown (shows shown) bound answer → TellsReply session.0 asked.0 (Some place) answer told
      → IsTold base left session asked told × (places_told (told ∷ []) ≡ added_place found left)
  looked_told shows place shown bound answer step is tells = by is
    where
      call : Entry
      call = entry session asked.0 asked.1

      meant : Reply
      meant = (run_bound (flat base found) bound).reply

      replied : reply base left place.0 ≡ Some (run_bound (flat base found) bound).reply
      replied = rw (step.made.history, step.made.stands) (look-replied base found (entry session asked.0 asked.1) bound step.reads)

      looking : looks base left place.0 ≡ true
      looking = rw (step.made.history, step.made.stands) (look-looks base found (entry session asked.0 asked.1) bound step.reads)

      visible : is_shown (run_bound (flat base found) bound).reply ≡ true
      visible = look-shown (flat base found) (world base found) (entry session asked.0 asked.1) bound step.reads

      by : IsShown (shows shown) bound answer → IsTold base left session asked told × (places_told (told ∷ []) ≡ added_place found left)
      by (inl own) =
          let same : answer ≡ (run_bound (flat base found) bound).reply = own ∙ ap (λ db. (run_bound db bound).reply) step.same in
          made_told Spared Took place (run_bound (flat base found) bound).reply answer (λ never. cc) step.made.history step.made.stands replied refl (ap is_disk same)
          (rw replied (ap (reply_lines (Some place.0) session.0 asked.0) (sym same))) tells
      by (inr refused) =
          made_told Unshown Took place (run_bound (flat base found) bound).reply answer (λ never. cc) step.made.history step.made.stands replied refl
          (ap is_disk refused ∙ sym (shown_is_no_fault _ visible))
          (rw (replied, looking, visible) (ap (reply_lines (Some place.0) session.0 asked.0) (sym refused))) tells

  -- and one that wasn't made
  unmade_told : left ≡ found → TellsReply session.0 asked.0 None (Refused Memory) told → IsTold base left session asked told × (places_told (told ∷ []) ≡ added_place found left)
  unmade_told same tells =
      let placed : place_number told.place ≡ None = ap place_number tells.place_is in (
        record {
          called = record { call = call_in session asked; want = Unmade; verdict = Took };
          at = 0;
          call_is = refl;
          number = tells.call_is;
          place = placed;
          stands = λ made. absurd (made refl);
          failed = rw placed tells.failed;
          lines = rw placed tells.lines;
        },
        rw placed (sym (none_added found left same)),
      )

-- a call is told by the history that it left, and its place is that of the entry that it added
pub step-told : {S : Type 0} (shows : S → Db) (base : Db) (found left : History) (session : SessionNo) (asked : ℕ × Request) (told : Told) (step : Step S)
    → Steps shows base found left (entry session asked.0 asked.1) step → TellsStep shows session.0 asked.0 step told
    → IsTold base left session asked told × (places_told (told ∷ []) ≡ added_place found left)
step-told shows base found left session asked told (Answered place answer) step tells = answered_told base found left session asked told place answer step tells
step-told shows base found left session asked told (Look place shown bound) step tells =
    looked_told base found left session asked told shows place shown bound tells.0 step tells.1 tells.2
step-told shows base found left session asked told NoMemory step tells = unmade_told base found left session asked told step tells

-- what a history says at a place that a call has, it says whatever comes later
kept_at : (base : Db) (history more : History) (called : Called) (want : Want) (at : ℕ) (place : Option ℕ) → place ≡ place_by want at → (want ≢ Unmade → at < length history)
    → (fails_at base (history ++ more) place ≡ fails_at base history place) × (lines_at base (history ++ more) called place ≡ lines_at base history called place)
kept_at base history more called Unmade at place is inside = rw is (refl, refl)
kept_at base history more called Spared at place is inside =
    let less : at < length history = inside (λ never. cc) in
    rw (is, reply-append base history more at less, looks-append base history more at less) (refl, refl)
kept_at base history more called Unshown at place is inside =
    let less : at < length history = inside (λ never. cc) in
    rw (is, reply-append base history more at less, looks-append base history more at less) (refl, refl)

inside_of : (history : History) (at : ℕ) (entry : Entry) → slice_get history at ≡ Some entry → at < length history
inside_of [] at entry is = let never : ⊥ = cc in absurd never
inside_of (first ∷ history) zero entry is = omega arith
inside_of (first ∷ history) (suc at) entry is = let less = inside_of history at entry is in omega arith

-- what is told of a call stays so when the history grows
told-append : (base : Db) (history more : History) (session : SessionNo) (asked : ℕ × Request) (told : Told) → IsTold base history session asked told
    → IsTold base (history ++ more) session asked told
told-append base history more session asked told is =
    let kept = kept_at base history more is.called is.called.want is.at (place_number told.place) is.place (λ made. inside_of history is.at _ (is.stands made)) in
    record {
      called = is.called;
      at = is.at;
      call_is = is.call_is;
      number = is.number;
      place = is.place;
      stands = λ made. slice_get-append history more is.at _ (is.stands made);
      failed = is.failed ∙ sym kept.0;
      lines = if_some_along told.lines _ _ (λ text own. own ∙ sym kept.1) is.lines;
    }

all_append : (base : Db) (history more : History) (session : SessionNo) (calls : List (ℕ × Request)) (tolds : List Told) → AreTold base history session calls tolds
    → AreTold base (history ++ more) session calls tolds
all_append base history more session [] [] are = tt
all_append base history more session [] (told ∷ tolds) are = are
all_append base history more session (asked ∷ calls) [] are = are
all_append base history more session (asked ∷ calls) (told ∷ tolds) are = (told-append base history more session asked told are.0, all_append base history more session calls tolds are.1)

-- so does what is told of calls
pub told-grows : (base : Db) (history later : History) (session : SessionNo) (calls : List (ℕ × Request)) (tolds : List Told) → IsPrefix history later
    → AreTold base history session calls tolds → AreTold base later session calls tolds
told-grows base history later session calls tolds grows are = subst (λ h. AreTold base h session calls tolds) grows.1 (all_append base history grows.0 session calls tolds are)

-- calls that are told, and then more of them
pub told-more : (base : Db) (history : History) (session : SessionNo) (calls more : List (ℕ × Request)) (tolds others : List Told) → AreTold base history session calls tolds
    → AreTold base history session more others → AreTold base history session (calls ++ more) (tolds ++ others)
told-more base history session [] more [] others are also = also
told-more base history session [] more (told ∷ tolds) others are also = absurd are
told-more base history session (asked ∷ calls) more [] others are also = absurd are
told-more base history session (asked ∷ calls) more (told ∷ tolds) others are also = (are.0, told-more base history session calls more tolds others are.1 also)
