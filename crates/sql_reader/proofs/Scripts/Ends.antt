-- The Ends after the calls of a text.
use Rattle.std.proofs.Common.{◌≡◌, ◌<◌, ◌≤◌, ◌+◌, ◌-◌, ℕ, zero, suc, Bool, true, false, List, [], ◌∷◌, ◌++◌, length, map, inl, inr, refl, sym, ap, ◌∙◌, arith, append_assoc}
use Rattle.std.specs.Prelude.{◌==◌, ◌||◌, filter, nat_lt, if◌then◌else◌}
use Rattle.std.specs.List.{range_with_len}
use Rattle.std.proofs.lemmas.Bool.{cases_Bool, lt-ltb, le-ltb}
use Rattle.std.proofs.lemmas.List.{append-nil, length-append, map-append}
use Rattle.std.proofs.lemmas.List.Elements.{filter-append, filter_agree}
use Rattle.own_model.specs.declared.limit.TheConstants.{SESSIONS}
use Rattle.own_model.specs.declared.request.Request.TheVariants.{End}
use Rattle.own_model.specs.declared.script.ScriptCall.{ScriptCall}
use Rattle.script_model.specs.Numbered.{Asking, is_of, count_of, call_after, numbered_after, has_call, ends_of, calls_of}
use Rattle.script_model.specs.Script.{IsText, HasCalls, first_of, askings_of, texts_in, parts_of}
use Rattle.script_model.specs.Session.{sessions}
use Rattle.sql_reader.specs.scripts.Counts.{asking}
use Rattle.own_model.specs.declared.script.InputFault.{InputFault}
use Rattle.own_model.specs.declared.script.InputFault.TheVariants.{TooLong, NotText, BadSession, TooManyCalls, Memory}
use Rattle.sql_reader.specs.InputFaults.{IsFaultOf}
use Rattle.sql_reader.specs.scripts.TextCalls.{HasTextCalls, IsTextFault, ends_after}
use Rattle.sql_reader.proofs.Scripts.Counting.{count_of-other}
use Rattle.sql_reader.proofs.Scripts.Numbering.{numbered_after-nil, numbered_after-cons, numbered_after-append}

pub range_more : (first count : ℕ) → range_with_len first (suc count) ≡ range_with_len first count ++ (first + count) ∷ []
range_more first zero = ap (λ n. n ∷ []) (omega arith)
range_more first (suc count) = let same : first + 1 + count ≡ first + suc count = omega arith in ap (λ l. first ∷ l) (range_more (first + 1) count ∙ ap (λ n. range_with_len (first + 1) count ++ n ∷ []) same)

-- the session has a call
abbrev is_ended : List ScriptCall → ℕ → Bool
is_ended calls session = nat_lt 0 (count_of session calls)

abbrev end_of_session : ℕ → Asking
end_of_session session = asking session End

-- the Ends of the first sessions
abbrev ends_of_first : List ScriptCall → ℕ → List Asking
ends_of_first calls count = map end_of_session (filter (is_ended calls) (range_with_len 1 count))

-- the Ends of the sessions below this one are added
pub record EndsTo (before : List ScriptCall) (session : ℕ) (now : List ScriptCall) : Type 0 where
  pub some : 1 ≤ session
  pub within : session ≤ SESSIONS + 1
  pub added : now ≡ before ++ numbered_after before (ends_of_first before (session - 1))
  pub later : (other : ℕ) → session ≤ other → count_of other now ≡ count_of other before
  pub few : length now ≤ length before + session

pub EndsTo-start : (before : List ScriptCall) → EndsTo before 1 before
EndsTo-start before =
    record { some = omega arith; within = omega arith; added = sym (ap (λ l. before ++ l) (numbered_after-nil before) ∙ append-nil before); later = λ other more. refl; few = omega arith }

ends_more : (before : List ScriptCall) (session : ℕ) → 1 ≤ session → ends_of_first before (session + 1 - 1) ≡ ends_of_first before (session - 1) ++ map end_of_session (filter (is_ended before) (session ∷ []))
ends_more before session some =
    let next : session + 1 - 1 ≡ suc (session - 1) = omega arith in
    let same : 1 + (session - 1) ≡ session = omega arith in
    ap (ends_of_first before) next ∙ ap (λ l. map end_of_session (filter (is_ended before) l)) (range_more 1 (session - 1) ∙ ap (λ n. range_with_len 1 (session - 1) ++ n ∷ []) same)
    ∙ ap (map end_of_session) (filter-append (is_ended before) (range_with_len 1 (session - 1)) (session ∷ [])) ∙ map-append end_of_session (filter (is_ended before) (range_with_len 1 (session - 1))) (filter (is_ended before) (session ∷ []))

-- a session without calls has no End
pub EndsTo-none : (before : List ScriptCall) (session : ℕ) (now : List ScriptCall) → session ≤ SESSIONS → count_of session now ≡ 0 → EndsTo before session now → EndsTo before (session + 1) now
EndsTo-none before session now within none ends =
    let test : is_ended before session ≡ false = le-ltb 0 (count_of session before) (omega (arith, ends.later session (omega arith))) in
    record {
      some = omega arith;
      within = omega arith;
      added = ends.added ∙ ap (λ l. before ++ numbered_after before l) (sym (ends_more before session ends.some ∙ ap (λ b. ends_of_first before (session - 1) ++ map end_of_session (if b then session ∷ [] else [])) test ∙ append-nil (ends_of_first before (session - 1))));
      later = λ other more. ends.later other (omega arith);
      few = omega (arith, ends.few);
    }

-- any other has one
pub EndsTo-some : (before : List ScriptCall) (session : ℕ) (now next : List ScriptCall) → session ≤ SESSIONS → 0 < count_of session now → EndsTo before session now → next ≡ now ++ call_after now (asking session End) ∷ [] → EndsTo before (session + 1) next
EndsTo-some before session now next within some ends more_is =
    let test : is_ended before session ≡ true = lt-ltb 0 (count_of session before) (omega (arith, ends.later session (omega arith))) in
    let old = ends_of_first before (session - 1) in
    let all : ends_of_first before (session + 1 - 1) ≡ old ++ end_of_session session ∷ [] = ends_more before session ends.some ∙ ap (λ b. old ++ map end_of_session (if b then session ∷ [] else [])) test in
    let one : numbered_after now (end_of_session session ∷ []) ≡ call_after now (end_of_session session) ∷ [] = numbered_after-cons now (end_of_session session) [] ∙ ap (λ l. call_after now (end_of_session session) ∷ l) (numbered_after-nil (now ++ call_after now (end_of_session session) ∷ [])) in
    record {
      some = omega arith;
      within = omega arith;
      added = more_is ∙ ap (λ l. now ++ l) (sym one) ∙ (λ i. ends.added i ++ numbered_after (ends.added i) (end_of_session session ∷ []))
          ∙ append_assoc before (numbered_after before old) (numbered_after (before ++ numbered_after before old) (end_of_session session ∷ []))
          ∙ ap (λ l. before ++ l) (sym (numbered_after-append before old (end_of_session session ∷ [])) ∙ ap (numbered_after before) (sym all));
      later = λ other greater. ap (count_of other) more_is ∙ count_of-other other now (call_after now (end_of_session session)) (λ same. absurd (omega arith)) ∙ ends.later other (omega arith);
      few = omega (arith, ends.few, ap length more_is, length-append now (call_after now (end_of_session session) ∷ []));
    }

-- all Ends are added
pub EndsTo-all : (before : List ScriptCall) (session : ℕ) (now : List ScriptCall) → SESSIONS < session → EndsTo before session now → now ≡ before ++ numbered_after before (ends_after before)
EndsTo-all before session now past ends =
    let whole : session - 1 ≡ SESSIONS = omega (arith, ends.within) in
    ends.added ∙ ap (λ n. before ++ numbered_after before (ends_of_first before n)) whole

-- a session has a call where it asks for something
has_call-counted : (before : List ScriptCall) (askings : List Asking) (session : ℕ) → has_call askings session ≡ is_ended (numbered_after before askings) session
has_call-counted before [] session = sym (ap (λ l. is_ended l session) (numbered_after-nil before))
has_call-counted before (first ∷ askings) session =
    let next = before ++ call_after before first ∷ [] in
    let rest = filter (is_of session) (numbered_after next askings) in
    elim (cases_Bool (first.session == session)) [
      | inl mine ↦ ap (λ b. b || has_call askings session) mine ∙ sym (ap (λ l. is_ended l session) (numbered_after-cons before first askings) ∙ ap (λ b. nat_lt 0 (length (if b then call_after before first ∷ rest else rest))) mine ∙ lt-ltb 0 (suc (length rest)) (omega arith))
      | inr other ↦ ap (λ b. b || has_call askings session) other ∙ has_call-counted next askings session ∙ sym (ap (λ l. is_ended l session) (numbered_after-cons before first askings) ∙ ap (λ b. nat_lt 0 (length (if b then call_after before first ∷ rest else rest))) other)
    ]

-- the calls of a text, and then the Ends
pub calls_of-text : (askings : List Asking) → calls_of askings ≡ numbered_after [] askings ++ numbered_after (numbered_after [] askings) (ends_after (numbered_after [] askings))
unfolding calls_of
calls_of-text askings =
    numbered_after-append [] askings (ends_of askings)
    ∙ ap (λ l. numbered_after [] askings ++ numbered_after (numbered_after [] askings) (map end_of_session l)) (filter_agree (has_call askings) (is_ended (numbered_after [] askings)) (has_call-counted [] askings) sessions)

-- the calls of an input
pub whole_calls : (bytes : List ℕ) (calls all : List ScriptCall) → IsText bytes → HasTextCalls bytes calls → all ≡ calls ++ numbered_after calls (ends_after calls) → HasCalls bytes all
whole_calls bytes calls all text has is =
    let askings = askings_of (texts_in (parts_of has.pieces)) has.takes.requests in
    record {
      parts = parts_of has.pieces;
      lawful = record { text = text; pieces = has.pieces; are_pieces = has.are; parts_are = refl; fault_is = sym (ap first_of has.takes.right) };
      requests = has.takes.requests;
      asked = has.takes.asked;
      calls_are = is ∙ ap (λ l. l ++ numbered_after l (ends_after l)) has.takes.added ∙ sym (calls_of-text askings);
    }

-- a fault of a text is the input's
pub input_fault : (bytes : List ℕ) (fault : InputFault) → IsText bytes → IsTextFault bytes fault → IsFaultOf bytes fault
input_fault bytes TooLong text wrong = absurd wrong.is
input_fault bytes (NotText byte) text wrong = absurd wrong.is
input_fault bytes (BadSession byte) text wrong = (parts_of wrong.pieces, record { text = text; pieces = wrong.pieces; are_pieces = wrong.are; parts_are = refl; fault_is = sym wrong.is })
input_fault bytes (TooManyCalls byte) text wrong = (parts_of wrong.pieces, record { text = text; pieces = wrong.pieces; are_pieces = wrong.are; parts_are = refl; fault_is = sym wrong.is })
input_fault bytes Memory text wrong = text
