-- What is told of sessions' calls is what the history has of them that they made side by side.
use Rattle.std.proofs.Common.{◌≡◌, ◌≢◌, ℕ, List, [], ◌∷◌, ◌++◌, map, refl, ap, sym, subst, ◌∙◌, arith, inl, inr, ne_eqb, append_assoc, append-nil}
use mathlib.Core.List.{IsPrefix}
use Rattle.std.proofs.lemmas.Bool.{eqb-true}
use Rattle.std.proofs.lemmas.Bool.Decides.{eqb_tells}
use Rattle.std.proofs.lemmas.List.{map-append}
use Rattle.std.proofs.lemmas.List.Elements.{filter-append}
use Rattle.std.proofs.lemmas.Option.{IfSome_then}
use Rattle.std.specs.Prelude.{◌⊎◌, Bool, true, false, ◌==◌, ◌||◌, Option, None, Some, IfSome, Result, filter, slice_get}
use Rattle.std.specs.List.{AllByRecursion, flat_map, list_any}
use Rattle.own_base.specs.declared.number.SessionNo.{SessionNo}
use Rattle.own_model.specs.declared.history.Entry.{Entry}
use Rattle.own_model.specs.declared.refusal.Refusal.TheVariants.{Disk}
use Rattle.own_model.specs.declared.reply.Reply.{Reply}
use Rattle.own_model.specs.declared.reply.Reply.TheVariants.{Refused}
use Rattle.own_model.specs.declared.request.Request.{Request}
use Rattle.own_model.specs.declared.script.SessionCalls.{SessionCalls}
use Rattle.own_model.specs.Db.{Db}
use Rattle.history_model.specs.Fails.{HasFailed, TellsFailure}
use Rattle.history_model.specs.History.{History, reply}
use Rattle.history_model.specs.Made.{Called, made}
use Rattle.history_model.proofs.Failures.{failed-at}
use Rattle.turn_model.specs.Places.{places_beyond, places_from}
use Rattle.transcript_model.specs.Printed.{lines_at, lines_of, place_of, printed}
use Rattle.transcript_model.specs.Together.{calls_by_session, is_called_of, is_entry_of}
use Rattle.transcript_model.proofs.PrintedLemmas.{lines_of-place}
use Rattle.commit_turn.specs.declared.pass.Pass.{Pass}
use Rattle.commit_turn.specs.Passes.{base, kept, seen}
use Rattle.session_run.specs.declared.printing.RunFault.{RunFault}
use Rattle.session_run.specs.declared.replies.SessionReplies.{SessionReplies}
use Rattle.session_run.specs.declared.replies.Told.{Told}
use Rattle.session_run.specs.Serving.{base_of}
use Rattle.session_run.specs.Sessions.{AreOwnNumbers, IsElsewhere, IsServed, Pairwise, StandOnce, numbers_of}
use Rattle.session_run.specs.Telling.{place_number}
use Rattle.session_run.specs.ToldCalls.{AreTold, IsTold, call_in, fails_at, places_told}
use Rattle.session_run.specs.Written.{TellsSessions, WritesLines, WritesText, is_failed_some, is_missing_some, lines_by_session, lines_in, text_before}
use Rattle.session_run.proofs.PlacedLemmas.{IsAmong, StandsAt, StandsTold, entries-made, entries-own, entries_at, found-among, made-added, numbers_called, pairs-append, pairs-both, pairs-map, places-own}
use Rattle.session_run.proofs.WrittenLemmas.{tells-text}

-- the place that is told of a call
abbrev place_told : Told → Option ℕ
place_told told = place_number told.place

-- its lines, if they are there, are these
abbrev HasLines : (Called → List ℕ) → Called → Option (List ℕ) → Type 0
HasLines lines called told = IfSome told (λ text. text ≡ lines called)

-- The calls of a session as they were made, by what is told of them.
record Calls (base : Db) (history : History) (session : SessionNo) (calls : List (ℕ × Request)) (tolds : List Told) : Type 0 where
  called : List Called
  calls_are : map (λ called. called.call) called ≡ map (call_in session) calls
  numbers : numbers_called called ≡ map (λ asked. asked.0) calls
  stands : Pairwise (StandsTold place_told history session.0) called tolds
  lines : Pairwise (λ called told. IfSome told.lines (λ text. text ≡ lines_at base history called (place_told told))) called tolds

told_stands : (base : Db) (history : History) (session : SessionNo) (asked : ℕ × Request) (told : Told) (is : IsTold base history session asked told)
    → StandsAt history session.0 is.called (place_told told)
told_stands base history session asked told is = record { own = ap (λ call. call.session.0) is.call_is; at = is.at; place_is = is.place; stands = is.stands }

calls_told : (base : Db) (history : History) (session : SessionNo) (calls : List (ℕ × Request)) (tolds : List Told) → AreTold base history session calls tolds
    → Calls base history session calls tolds
calls_told base history session [] [] are = record { called = []; calls_are = refl; numbers = refl; stands = tt; lines = tt }
calls_told base history session [] (told ∷ tolds) are = absurd are
calls_told base history session (asked ∷ calls) [] are = absurd are
calls_told base history session (asked ∷ calls) (told ∷ tolds) are =
    let own = are.0 in
    let later = calls_told base history session calls tolds are.1 in
    record {
      called = own.called ∷ later.called;
      calls_are = ap (λ call. call ∷ map (λ called. called.call) later.called) own.call_is ∙ ap (λ l. call_in session asked ∷ l) later.calls_are;
      numbers = ap (λ call. call.call ∷ numbers_called later.called) own.call_is ∙ ap (λ l. asked.0 ∷ l) later.numbers;
      stands = (told_stands base history session asked told own, later.stands);
      lines = (own.lines, later.lines);
    }

-- calls of a session are all of it
own_calls : (history : History) (session : ℕ) (called : List Called) (tolds : List Told) → Pairwise (StandsTold place_told history session) called tolds
    → filter (is_called_of session) called ≡ called
own_calls history session [] [] are = refl
own_calls history session [] (told ∷ tolds) are = absurd are
own_calls history session (first ∷ called) [] are = absurd are
own_calls history session (first ∷ called) (told ∷ tolds) are =
    let own : first.call.session.0 ≡ session = are.0.own in
    let test : (first.call.session.0 == session) ≡ true = grind arith in
    rw test (ap (λ l. first ∷ l) (own_calls history session called tolds are.1))

-- and none is of another
other_calls : (history : History) (session other : ℕ) → other ≢ session → (called : List Called) (tolds : List Told) → Pairwise (StandsTold place_told history session) called tolds
    → filter (is_called_of other) called ≡ []
other_calls history session other apart [] [] are = refl
other_calls history session other apart [] (told ∷ tolds) are = absurd are
other_calls history session other apart (first ∷ called) [] are = absurd are
other_calls history session other apart (first ∷ called) (told ∷ tolds) are =
    let test : (first.call.session.0 == other) ≡ false = ne_eqb first.call.session.0 other (λ same. apart (sym same ∙ are.0.own)) in
    rw test (other_calls history session other apart called tolds are.1)

-- the lines of a session's calls are those that they have in the history
own_lines : (base : Db) (history : History) (session : SessionNo) (calls : List (ℕ × Request)) (tolds : List Told) (own : Calls base history session calls tolds)
    → StandOnce (map (λ asked. asked.0) calls) → places_from 0 session.0 history ≡ places_told tolds
    → Pairwise (HasLines (lines_of base history)) own.called (map (λ told. told.lines) tolds)
own_lines base history session calls tolds own once places =
    pairs-map (HasLines (lines_of base history)) (λ told. told.lines) own.called tolds (pairs-both
    (λ called told. IfSome told.lines (λ text. text ≡ lines_at base history called (place_told told)))
    (λ called told. place_of history called.call ≡ place_told told)
    (λ called told. HasLines (lines_of base history) called told.lines)
    (λ called told lines placed. IfSome_then told.lines lines (λ text is. is ∙ lines_of-place base history called (place_told told) placed))
    own.called tolds own.lines (places-own place_told history session.0 own.called tolds own.stands (rw own.numbers once) places))

-- a session isn't among these, or what the history has of it is just what these calls made
abbrev IsOwn : Pass → List SessionCalls → List Called → ℕ → Type 0
IsOwn lead sessions called session = IsElsewhere session (numbers_of sessions) ⊎ (filter (is_entry_of session) (seen lead) ≡ made (filter (is_called_of session) called))

-- numbers that a test tells apart are different
differ : (first second : ℕ) → (first == second) ≡ false → second ≢ first
differ first second test same = elim (eqb_tells first second) [ inl (is, equal) ↦ (let never : ⊥ = cc in never) | inr (is, other) ↦ other (sym same) ]

-- Some sessions were served, and these are their calls as they were made: each session's are what the history has of it, and
-- what is told has their lines.
record Side (lead : Pass) (sessions : List SessionCalls) (replies : List SessionReplies) : Type 0 where
  called : List Called
  calls_are : map (λ called. called.call) called ≡ calls_by_session sessions
  elsewhere : (session : ℕ) → IsElsewhere session (numbers_of sessions) → filter (is_called_of session) called ≡ []
  own : (session : ℕ) → IsOwn lead sessions called session
  lines : Pairwise (HasLines (lines_of (base_of lead) (seen lead))) called (lines_by_session replies)

-- the places that the lead has kept of each session are those that the session has in the history
abbrev KeepsPlaces : Pass → Type 0
KeepsPlaces lead = (session : ℕ) → places_from 0 session (seen lead) ≡ kept lead session

-- what a history has of a session is what the calls made that are told of it
history_own : (lead : Pass) → KeepsPlaces lead → (calls : SessionCalls) (replies : SessionReplies) (served : IsServed lead calls replies)
    (own : Calls (base_of lead) (seen lead) calls.session calls.calls replies.replies)
    → filter (is_entry_of calls.session.0) (seen lead) ≡ made own.called
history_own lead places calls replies served own =
    sym (entries-own calls.session.0 (seen lead)) ∙ (ap (entries_at (seen lead)) (places calls.session.0 ∙ served.places)
    ∙ entries-made place_told (seen lead) calls.session.0 own.called replies.replies own.stands)

side_more : (lead : Pass) → KeepsPlaces lead → (calls : SessionCalls) (replies : SessionReplies) (sessions : List SessionCalls) (others : List SessionReplies)
    → IsServed lead calls replies → IsElsewhere calls.session.0 (numbers_of sessions) → AreOwnNumbers calls → Side lead sessions others
    → Side lead (calls ∷ sessions) (replies ∷ others)
side_more lead places calls replies sessions others served once numbers later =
    record {
      called = own.called ++ later.called;
      calls_are = map-append (λ called. called.call) own.called later.called
          ∙ (ap (λ l. l ++ map (λ called. called.call) later.called) own.calls_are ∙ ap (λ l. map (call_in calls.session) calls.calls ++ l) later.calls_are);
      elsewhere = λ session other. rw (filter-append (is_called_of session) own.called later.called, apart session other.0) (later.elsewhere session other.1);
      own = λ session. by session (calls.session.0 == session) refl (later.own session);
      lines = pairs-append (HasLines (lines_of (base_of lead) (seen lead))) own.called later.called (lines_in replies) (lines_by_session others)
          (own_lines (base_of lead) (seen lead) calls.session calls.calls replies.replies own numbers (places calls.session.0 ∙ served.places)) later.lines;
    }
  where
    own : Calls (base_of lead) (seen lead) calls.session calls.calls replies.replies
    own = calls_told (base_of lead) (seen lead) calls.session calls.calls replies.replies served.told

    apart : (session : ℕ) → session ≢ calls.session.0 → filter (is_called_of session) own.called ≡ []
    apart session other = other_calls (seen lead) calls.session.0 session other own.called replies.replies own.stands

    here : filter (is_entry_of calls.session.0) (seen lead) ≡ made (filter (is_called_of calls.session.0) (own.called ++ later.called))
    here = rw (filter-append (is_called_of calls.session.0) own.called later.called, own_calls (seen lead) calls.session.0 own.called replies.replies own.stands, later.elsewhere calls.session.0 once, append-nil)
        (history_own lead places calls replies served own)

    by : (session : ℕ) (b : Bool) → (calls.session.0 == session) ≡ b → IsOwn lead sessions later.called session → IsOwn lead (calls ∷ sessions) (own.called ++ later.called) session
    by session true test rest = subst (IsOwn lead (calls ∷ sessions) (own.called ++ later.called)) (eqb-true calls.session.0 session test) (inr here)
    by session false test (inl other) = inl (differ calls.session.0 session test, other)
    by session false test (inr is) = inr (rw (filter-append (is_called_of session) own.called later.called, apart session (differ calls.session.0 session test)) is)

side_all : (lead : Pass) → KeepsPlaces lead → (sessions : List SessionCalls) (replies : List SessionReplies) → Pairwise (IsServed lead) sessions replies → StandOnce (numbers_of sessions)
    → AllByRecursion AreOwnNumbers sessions → Side lead sessions replies
side_all lead places [] [] served once numbers = record {
  called = [];
  calls_are = refl;
  elsewhere = λ session other. refl;
  own = λ session. inl tt;
  lines = tt;
}
side_all lead places [] (own ∷ replies) served once numbers = absurd served
side_all lead places (calls ∷ sessions) [] served once numbers = absurd served
side_all lead places (calls ∷ sessions) (own ∷ replies) served once numbers =
    side_more lead places calls own sessions replies served.0 once.0 numbers.0 (side_all lead places sessions replies served.1 once.1 numbers.1)

-- the lines that are told before the first that are missing are a front of the text
lines_front : (lines : Called → List ℕ) (called : List Called) (told : List (Option (List ℕ))) → Pairwise (HasLines lines) called told
    → IsPrefix (text_before told) (flat_map lines called) × (is_missing_some told ≡ false → text_before told ≡ flat_map lines called)
lines_front lines [] [] are = (([], refl), λ there. refl)
lines_front lines [] (own ∷ told) are = absurd are
lines_front lines (first ∷ called) [] are = absurd are
lines_front lines (first ∷ called) (None ∷ told) are = ((_, refl), λ there. let never : ⊥ = cc in absurd never)
lines_front lines (first ∷ called) (Some text ∷ told) are =
    let later = lines_front lines called told are.1 in (
      (later.0.0, append_assoc text (text_before told) later.0.0 ∙ (ap (λ l. text ++ l) later.0.1 ∙ ap (λ l. l ++ flat_map lines called) are.0)),
      λ there. ap (λ l. text ++ l) (later.1 there) ∙ ap (λ l. l ++ flat_map lines called) are.0,
    )

-- ---- faults of the disk

fails_told : (base : Db) (history : History) (place : Option ℕ) → fails_at base history place ≡ true → HasFailed base history
fails_told base history None is = let never : ⊥ = cc in absurd never
fails_told base history (Some place) is = failed-at base history place is

failed_step : (base : Db) (history : History) (told : Told) (tolds : List Told) → told.failed ≡ fails_at base history (place_told told)
    → (list_any (λ told. told.failed) tolds ≡ true → HasFailed base history) → list_any (λ told. told.failed) (told ∷ tolds) ≡ true
    → (b : Bool) → told.failed ≡ b → HasFailed base history
failed_step base history told tolds tells later is true own = fails_told base history (place_told told) (sym tells ∙ own)
failed_step base history told tolds tells later is false own = later (rw own at is)

-- one of a session's calls was told so
failed_own : (base : Db) (history : History) (session : SessionNo) (calls : List (ℕ × Request)) (tolds : List Told) → AreTold base history session calls tolds
    → list_any (λ told. told.failed) tolds ≡ true → HasFailed base history
failed_own base history session [] [] are is = let never : ⊥ = cc in absurd never
failed_own base history session [] (told ∷ tolds) are is = absurd are
failed_own base history session (asked ∷ calls) [] are is = absurd are
failed_own base history session (asked ∷ calls) (told ∷ tolds) are is =
    failed_step base history told tolds are.0.failed (failed_own base history session calls tolds are.1) is told.failed refl

-- where none of two was told so, neither the first was
first_false : (first rest : Bool) → (first || rest) ≡ false → (first ≡ false) × (rest ≡ false)
first_false true rest is = let never : ⊥ = cc in absurd never
first_false false rest is = (refl, is)

spared_step : (base : Db) (history : History) (told : Told) (tolds : List Told) → told.failed ≡ fails_at base history (place_told told) → told.failed ≡ false
    → (place : ℕ) → reply base history place ≡ Some (Refused Disk) → (IsAmong place (places_told tolds) → ⊥)
    → (own : Option ℕ) → place_told told ≡ own → IsAmong place (places_told (told ∷ tolds)) → ⊥
spared_step base history told tolds tells spared place is later None own among = later (rw own at among)
spared_step base history told tolds tells spared place is later (Some at) own among = by (rw own at among)
  where
    by : (place ≡ at) ⊎ IsAmong place (places_told tolds) → ⊥
    by (inl same) = let yes : told.failed ≡ true = tells ∙ rw (own, sym same, is) refl in let never : ⊥ = cc in absurd never
    by (inr among) = later among

-- none was, so no place of theirs was answered so
spared_own : (base : Db) (history : History) (session : SessionNo) (calls : List (ℕ × Request)) (tolds : List Told) → AreTold base history session calls tolds
    → list_any (λ told. told.failed) tolds ≡ false → (place : ℕ) → reply base history place ≡ Some (Refused Disk) → IsAmong place (places_told tolds) → ⊥
spared_own base history session [] [] are none place is among = among
spared_own base history session [] (told ∷ tolds) are none place is among = are
spared_own base history session (asked ∷ calls) [] are none place is among = are
spared_own base history session (asked ∷ calls) (told ∷ tolds) are none place is among =
    let both = first_false told.failed (list_any (λ told. told.failed) tolds) none in
    spared_step base history told tolds are.0.failed both.0 place is (spared_own base history session calls tolds are.1 both.1 place is) (place_told told) refl among

any_step : (lead : Pass) (calls : SessionCalls) (own : SessionReplies) (replies : List SessionReplies) → IsServed lead calls own
    → (is_failed_some replies ≡ true → HasFailed (base_of lead) (seen lead)) → is_failed_some (own ∷ replies) ≡ true
    → (b : Bool) → list_any (λ told. told.failed) own.replies ≡ b → HasFailed (base_of lead) (seen lead)
any_step lead calls own replies served later is true some = failed_own (base_of lead) (seen lead) calls.session calls.calls own.replies served.told some
any_step lead calls own replies served later is false none = later (rw none at is)

failed_all : (lead : Pass) (sessions : List SessionCalls) (replies : List SessionReplies) → Pairwise (IsServed lead) sessions replies → is_failed_some replies ≡ true
    → HasFailed (base_of lead) (seen lead)
failed_all lead [] [] served is = let never : ⊥ = cc in absurd never
failed_all lead [] (own ∷ replies) served is = absurd served
failed_all lead (calls ∷ sessions) [] served is = absurd served
failed_all lead (calls ∷ sessions) (own ∷ replies) served is =
    any_step lead calls own replies served.0 (failed_all lead sessions replies served.1) is (list_any (λ told. told.failed) own.replies) refl

-- a session that has a place that is answered so is none of these
spared_all : (lead : Pass) (sessions : List SessionCalls) (replies : List SessionReplies) → Pairwise (IsServed lead) sessions replies → is_failed_some replies ≡ false
    → (session place : ℕ) → reply (base_of lead) (seen lead) place ≡ Some (Refused Disk) → IsAmong place (kept lead session) → IsElsewhere session (numbers_of sessions)
spared_all lead [] [] served none session place is among = tt
spared_all lead [] (own ∷ replies) served none session place is among = absurd served
spared_all lead (calls ∷ sessions) [] served none session place is among = absurd served
spared_all lead (calls ∷ sessions) (own ∷ replies) served none session place is among =
    let both = first_false (list_any (λ told. told.failed) own.replies) (is_failed_some replies) none in (
      (λ same. spared_own (base_of lead) (seen lead) calls.session calls.calls own.replies served.0.told both.0 place is
          (subst (λ l. IsAmong place l) (ap (kept lead) same ∙ served.0.places) among)),
      spared_all lead sessions replies served.1 both.1 session place is among,
    )

-- an entry that is answered stands in the history
answered_found : (base : Db) (history : History) (place : ℕ) (told : Reply) → reply base history place ≡ Some told → (entry : Entry) × (slice_get history place ≡ Some entry)
unfolding reply
answered_found base history place told is = by (slice_get history place) refl
  where
    by : (found : Option Entry) → slice_get history place ≡ found → (entry : Entry) × (slice_get history place ≡ Some entry)
    by None none = let other = rw none at is in let never : ⊥ = cc in absurd never
    by (Some entry) some = (entry, some)

tells_failure : (lead : Pass) → KeepsPlaces lead → (sessions : List SessionCalls) (replies : List SessionReplies) → Pairwise (IsServed lead) sessions replies
    → ((session : ℕ) → IsElsewhere session (numbers_of sessions) → kept lead session ≡ []) → (b : Bool) → is_failed_some replies ≡ b → TellsFailure b (base_of lead) (seen lead)
tells_failure lead places sessions replies served others true is = failed_all lead sessions replies served is
tells_failure lead places sessions replies served others false is =
    λ failed.
    let found = answered_found (base_of lead) (seen lead) failed.0 (Refused Disk) failed.1 in
    let session = found.0.session.0 in
    let among = subst (λ l. IsAmong failed.0 l) (places session) (found-among (seen lead) session (record { place = failed.0; entry = found.0; at = found.1; own = refl })) in
    subst (λ l. IsAmong failed.0 l) (others session (spared_all lead sessions replies served is session failed.0 failed.1 among)) among

-- what a history has of a session that no call was made of is nothing
history_none : (lead : Pass) → KeepsPlaces lead → (session : ℕ) → kept lead session ≡ [] → filter (is_entry_of session) (seen lead) ≡ []
history_none lead places session none = sym (entries-own session (seen lead)) ∙ ap (entries_at (seen lead)) (places session ∙ none)

-- what is told of sessions tells what they made, by the history that the lead has seen
sessions_told : (lead : Pass) (sessions : List SessionCalls) (replies : List SessionReplies) → Pairwise (IsServed lead) sessions replies
    → base lead ≡ 0 → ((session : ℕ) → places_beyond (base lead) session (seen lead) ≡ kept lead session)
    → ((session : ℕ) → IsElsewhere session (numbers_of sessions) → kept lead session ≡ [])
    → StandOnce (numbers_of sessions) → AllByRecursion AreOwnNumbers sessions
    → TellsSessions (base_of lead) sessions (seen lead) replies
unfolding printed
sessions_told lead sessions replies served none beyond others once numbers =
    record {
      text = printed (base_of lead) (seen lead) side.called;
      together = record { called = side.called; calls_are = side.calls_are; sessions = λ session. by session (side.own session); text_is = refl };
      front = front.0;
      whole = front.1;
      failed = tells_failure lead places sessions replies served others (is_failed_some replies) refl;
    }
  where
    places : KeepsPlaces lead
    places session = subst (λ n. places_beyond n session (seen lead) ≡ kept lead session) none (beyond session)

    side : Side lead sessions replies
    side = side_all lead places sessions replies served once numbers

    front : IsPrefix (text_before (lines_by_session replies)) (flat_map (lines_of (base_of lead) (seen lead)) side.called)
        × (is_missing_some (lines_by_session replies) ≡ false → text_before (lines_by_session replies) ≡ flat_map (lines_of (base_of lead) (seen lead)) side.called)
    front = lines_front (lines_of (base_of lead) (seen lead)) side.called (lines_by_session replies) side.lines

    by : (session : ℕ) → IsOwn lead sessions side.called session → filter (is_entry_of session) (seen lead) ≡ made (filter (is_called_of session) side.called)
    by session (inr is) = is
    by session (inl other) = history_none lead places session (others session other) ∙ (sym (made-added []) ∙ ap made (sym (side.elsewhere session other)))

-- Sessions were served side by side, over a turn that was made with no entry, and no other session has made a call: what is told
-- of them tells what they made. Each session stands once, and in each the calls have numbers of their own.
pub tells-sessions : (lead : Pass) (history : History) (sessions : List SessionCalls) (replies : List SessionReplies) → Pairwise (IsServed lead) sessions replies
    → base lead ≡ 0 → history ≡ seen lead → ((session : ℕ) → places_beyond (base lead) session history ≡ kept lead session)
    → ((session : ℕ) → IsElsewhere session (numbers_of sessions) → kept lead session ≡ [])
    → StandOnce (numbers_of sessions) → AllByRecursion AreOwnNumbers sessions
    → TellsSessions (base_of lead) sessions history replies
tells-sessions lead history sessions replies served none is beyond others once numbers =
    subst (λ history. TellsSessions (base_of lead) sessions history replies) (sym is)
    (sessions_told lead sessions replies served none (subst (λ history. (session : ℕ) → places_beyond (base lead) session history ≡ kept lead session) is beyond) others once numbers)

-- what is written of the lines told is written of that text
pub written-sessions : {T : Type 0} (base : Db) (sessions : List SessionCalls) (history : History) (replies : List SessionReplies) (tells : TellsSessions base sessions history replies)
    (old new : Option (List ℕ)) (result : Result T RunFault) → WritesLines old new (lines_by_session replies) result → WritesText old new tells.text result
written-sessions base sessions history replies tells old new result = tells-text old new (lines_by_session replies) tells.text result tells.front tells.whole
