-- What the calls of an input are.
use Rattle.std.proofs.Common.{◌≡◌, ℕ, ◌+◌, ◌≤◌, List, [], ◌∷◌, ◌++◌, length, map, Bool, true, false, refl, ap, sym, subst, arith}
use Rattle.std.specs.Prelude.{Option, Some, None, filter, nat_lt}
use Rattle.std.specs.List.{AllByRecursion, find}
use Rattle.std.proofs.lemmas.Bool.{ltb-true, ltb-false}
use Rattle.std.proofs.lemmas.List.{length-append, length-map}
use Rattle.own_model.specs.declared.limit.TheConstants.{INPUT_CALLS, SESSIONS, STATEMENT_BYTES}
use Rattle.own_model.specs.declared.request.Request.{Request}
use Rattle.own_model.specs.declared.request.Request.TheVariants.{End}
use Rattle.own_model.specs.declared.script.InputFault.{InputFault}
use Rattle.own_model.specs.declared.script.ScriptCall.{ScriptCall}
use Rattle.grammar_model.specs.Readable.{IsReadable}
use Rattle.grammar_model.proofs.Requests.{answer_readable}
use Rattle.script_model.specs.Asked.{AreAskedBy, IsAskedWhere}
use Rattle.script_model.specs.CallText.{CallText, Part, Call, BadLine, Mark, bad_line, bad_unless, call_of, end_of, ending_len, marks_in, or_before, parts_from, session_after, trimmed}
use Rattle.script_model.specs.Numbered.{AreNumbered, Asking, call_after, calls_of, ends_of, has_call, numbered_after}
use Rattle.script_model.specs.Script.{HasCalls, askings_of, faults_after, first_of, texts_in, too_many}
use Rattle.script_model.specs.Session.{names, session_of, sessions}
use Rattle.script_model.specs.Split.{IsOfASession}
use Rattle.script_model.specs.Stretch.{Ending, AtSemicolon, AtSession, AtEnd, Stretch, stretches}

-- what holds of two lists holds of both together
pub all-append : {X : Type 0} (P : X → Type 0) (xs ys : List X) → AllByRecursion P xs → AllByRecursion P ys → AllByRecursion P (xs ++ ys)
all-append P [] ys all more = more
all-append P (x ∷ xs) ys all more = (all.0, all-append P xs ys all.1 more)

-- what is found has what all have
found_step : {X : Type 0} (P : X → Type 0) (test : X → Bool) (first : X) (rest : List X) (x : X) → P first → (find test rest ≡ Some x → P x)
    → (b : Bool) → test first ≡ b → find test (first ∷ rest) ≡ Some x → P x
found_step P test first rest x has later true is found = let same : first ≡ x = cc in subst P same has
found_step P test first rest x has later false is found = later (rw is at found)

all-found : {X : Type 0} (P : X → Type 0) (test : X → Bool) (xs : List X) (x : X) → AllByRecursion P xs → find test xs ≡ Some x → P x
all-found P test [] x all found = cc
all-found P test (first ∷ rest) x all found = found_step P test first rest x all.0 (λ later. all-found P test rest x all.1 later) _ refl found

-- a filter keeps what all have, and no more than there are
filter_step : {X : Type 0} (P : X → Type 0) (test : X → Bool) (first : X) (rest : List X) → P first → AllByRecursion P (filter test rest)
    → (b : Bool) → test first ≡ b → AllByRecursion P (filter test (first ∷ rest))
filter_step P test first rest has later true is = rw is (has, later)
filter_step P test first rest has later false is = rw is later

all-filter : {X : Type 0} (P : X → Type 0) (test : X → Bool) (xs : List X) → AllByRecursion P xs → AllByRecursion P (filter test xs)
all-filter P test [] all = tt
all-filter P test (first ∷ rest) all = filter_step P test first rest all.0 (all-filter P test rest all.1) _ refl

few_step : {X : Type 0} (test : X → Bool) (first : X) (rest : List X) → length (filter test rest) ≤ length rest
    → (b : Bool) → test first ≡ b → length (filter test (first ∷ rest)) ≤ length (first ∷ rest)
few_step test first rest later true is = rw is (omega arith)
few_step test first rest later false is = rw is (omega arith)

few-filter : {X : Type 0} (test : X → Bool) (xs : List X) → length (filter test xs) ≤ length xs
few-filter test [] = omega arith
few-filter test (first ∷ rest) = few_step test first rest (few-filter test rest) _ refl

-- the number of a session
abbrev IsSession : ℕ → Type 0
IsSession session = (1 ≤ session) × (session ≤ SESSIONS)

all-sessions : AllByRecursion IsSession sessions
all-sessions = (
  (omega arith, omega arith),
  (
    (omega arith, omega arith),
    (
      (omega arith, omega arith),
      (
        (omega arith, omega arith),
        (
          (omega arith, omega arith),
          (
            (omega arith, omega arith),
            (
              (omega arith, omega arith),
              (
                (omega arith, omega arith),
                (
                  (omega arith, omega arith),
                  (
                    (omega arith, omega arith),
                    (
                      (omega arith, omega arith),
                      (
                        (omega arith, omega arith),
                        ((omega arith, omega arith), ((omega arith, omega arith), ((omega arith, omega arith), ((omega arith, omega arith), tt)))),
                      ),
                    ),
                  ),
                ),
              ),
            ),
          ),
        ),
      ),
    ),
  ),
)

-- a line names a session
named-session : (line : List ℕ) (session : ℕ) → session_of line ≡ Some session → IsSession session
unfolding session_of
named-session line session is = all-found IsSession (names line) sessions session all-sessions is

-- an asking of a session
abbrev OfASession : Asking → Type 0
OfASession asking = IsSession asking.session

abbrev TextOfASession : CallText → Type 0
TextOfASession text = IsSession text.session

-- the texts of parts, and then of others
pub texts-append : (parts more : List Part) → texts_in (parts ++ more) ≡ texts_in parts ++ texts_in more
texts-append [] more = refl
texts-append (Call text ∷ parts) more = ap (λ texts. text ∷ texts) (texts-append parts more)
texts-append (BadLine at ∷ parts) more = texts-append parts more

one-call : (session at : ℕ) (stretch : Stretch) (marks : List Mark) → IsSession session → AllByRecursion TextOfASession (texts_in (call_of session at stretch marks))
one-call session at stretch [] is = tt
one-call session at stretch (mark ∷ marks) is = (is, tt)

no-call : (at : ℕ) (named : Option ℕ) → AllByRecursion TextOfASession (texts_in (bad_unless at named))
no-call at None = tt
no-call at (Some session) = tt

no-calls : (at : ℕ) (ending : Ending) → AllByRecursion TextOfASession (texts_in (bad_line at ending))
no-calls at AtSemicolon = tt
no-calls at (AtSession line) = no-call at (session_of line)
no-calls at AtEnd = tt

named-or : (before : ℕ) (named : Option ℕ) → IsSession before → ((session : ℕ) → named ≡ Some session → IsSession session) → IsSession (or_before before named)
named-or before None is new = is
named-or before (Some session) is new = new session refl

next-session : (before : ℕ) (ending : Ending) → IsSession before → IsSession (session_after before ending)
next-session before AtSemicolon is = is
next-session before (AtSession line) is = named-or before (session_of line) is (named-session line)
next-session before AtEnd is = is

-- each text is of a session
parts-sessions : (session at : ℕ) (stretches : List Stretch) → IsSession session → AllByRecursion TextOfASession (texts_in (parts_from session at stretches))
unfolding parts_from
parts-sessions session at [] is = tt
parts-sessions session at (stretch ∷ stretches) is =
    let next = parts-sessions (session_after session stretch.ending) (end_of at stretch + ending_len stretch.ending) stretches (next-session session stretch.ending is) in
    let call = call_of session at stretch (trimmed (marks_in stretch)) in
    let bad = bad_line (end_of at stretch) stretch.ending in
    let rest = parts_from (session_after session stretch.ending) (end_of at stretch + ending_len stretch.ending) stretches in
    let P = AllByRecursion TextOfASession in
    subst P (sym (texts-append call (bad ++ rest)))
    (all-append TextOfASession (texts_in call) (texts_in (bad ++ rest)) (one-call session at stretch (trimmed (marks_in stretch)) is)
    (subst P (sym (texts-append bad rest)) (all-append TextOfASession (texts_in bad) (texts_in rest) (no-calls (end_of at stretch) stretch.ending) next)))

askings-sessions : (texts : List CallText) (requests : List Request) → AllByRecursion TextOfASession texts → AllByRecursion OfASession (askings_of texts requests)
askings-sessions [] requests all = tt
askings-sessions (text ∷ texts) [] all = tt
askings-sessions (text ∷ texts) (request ∷ requests) all = (all.0, askings-sessions texts requests all.1)

map_ends : (P : Asking → Type 0) (numbers : List ℕ) → AllByRecursion (λ session. P (record { session = session; request = End })) numbers
    → AllByRecursion P (map (λ session. record { session = session; request = End }) numbers)
map_ends P [] all = tt
map_ends P (number ∷ numbers) all = (all.0, map_ends P numbers all.1)

ends-sessions : (askings : List Asking) → AllByRecursion OfASession (ends_of askings)
ends-sessions askings = map_ends OfASession (filter (has_call askings) sessions) (all-filter IsSession (has_call askings) sessions all-sessions)

-- what all askings have, the calls have
numbered-all : (P : ScriptCall → Type 0) (Q : Asking → Type 0) (before : List ScriptCall) (askings : List Asking)
    → ((before : List ScriptCall) (asking : Asking) → Q asking → P (call_after before asking)) → AllByRecursion Q askings
    → AllByRecursion P (numbered_after before askings)
unfolding numbered_after
numbered-all P Q before [] gives all = tt
numbered-all P Q before (asking ∷ askings) gives all =
    (gives before asking all.0, numbered-all P Q (before ++ call_after before asking ∷ []) askings gives all.1)

-- there are as many calls as askings
pub length-numbered : (before : List ScriptCall) (askings : List Asking) → length (numbered_after before askings) ≡ length askings
unfolding numbered_after
length-numbered before [] = refl
length-numbered before (asking ∷ askings) = let rest = length-numbered (before ++ call_after before asking ∷ []) askings in omega arith

-- the numbers are those that come next
are-numbered : (before : List ScriptCall) (askings : List Asking) → AreNumbered before (numbered_after before askings)
unfolding numbered_after
are-numbered before [] = tt
are-numbered before (asking ∷ askings) = (refl, are-numbered (before ++ call_after before asking ∷ []) askings)

-- without a fault there are few texts
none_first : (faults : List InputFault) → None ≡ first_of faults → faults ≡ []
none_first [] is = refl
none_first (fault ∷ faults) is = cc

few_step_texts : (count : ℕ) (text : CallText) (parts : List Part)
    → (count + 1 ≤ INPUT_CALLS → faults_after (count + 1) parts ≡ [] → count + 1 + length (texts_in parts) ≤ INPUT_CALLS)
    → (b : Bool) → nat_lt count INPUT_CALLS ≡ b → too_many count text ++ faults_after (count + 1) parts ≡ [] → count + length (text ∷ texts_in parts) ≤ INPUT_CALLS
few_step_texts count text parts later true is none =
    let less = ltb-true count INPUT_CALLS is in
    let rest = later (omega arith) (rw is at none) in
    omega arith
few_step_texts count text parts later false is none = let never : ⊥ = (let bad = rw is at none in cc) in absurd never

few-texts : (count : ℕ) (parts : List Part) → count ≤ INPUT_CALLS → faults_after count parts ≡ [] → count + length (texts_in parts) ≤ INPUT_CALLS
unfolding faults_after
few-texts count [] within none = omega arith
few-texts count (Call text ∷ parts) within none = few_step_texts count text parts (λ within none. few-texts (count + 1) parts within none) _ refl none
few-texts count (BadLine at ∷ parts) within none = cc

few-askings : (texts : List CallText) (requests : List Request) → length (askings_of texts requests) ≤ length texts
few-askings [] requests = omega arith
few-askings (text ∷ texts) [] = omega arith
few-askings (text ∷ texts) (request ∷ requests) = let rest = few-askings texts requests in omega arith

few-ends : (askings : List Asking) → length (ends_of askings) ≤ SESSIONS
few-ends askings =
    let kept = filter (has_call askings) sessions in
    let mapped = length-map kept (λ (session : ℕ). let asking : Asking = record { session = session; request = End } in asking) in
    let few = few-filter (has_call askings) sessions in
    let all : length sessions ≡ SESSIONS = refl in
    omega arith

-- what texts ask for can be read
read_step : (text : CallText) (request : Request) (closed long : Bool) → nat_lt STATEMENT_BYTES (length text.bytes) ≡ long
    → IsAskedWhere closed long text.bytes request → IsReadable request
read_step text request false long is asked = subst IsReadable (sym asked) tt
read_step text request true true is asked = subst IsReadable (sym asked) tt
read_step text request true false is asked =
    let short = ltb-false STATEMENT_BYTES (length text.bytes) is in
    subst IsReadable (sym asked.gives) (answer_readable text.bytes asked.answer (omega arith) asked.utf8 asked.answers)

abbrev AsksReadable : Asking → Type 0
AsksReadable asking = IsReadable asking.request

askings-readable : (texts : List CallText) (requests : List Request) → AreAskedBy texts requests → AllByRecursion AsksReadable (askings_of texts requests)
askings-readable [] [] asked = tt
askings-readable [] (request ∷ requests) asked = absurd asked
askings-readable (text ∷ texts) [] asked = absurd asked
askings-readable (text ∷ texts) (request ∷ requests) asked =
    (read_step text request text.closed _ refl asked.0, askings-readable texts requests asked.1)

ends-readable : (askings : List Asking) → AllByRecursion AsksReadable (ends_of askings)
ends-readable askings = map_ends AsksReadable (filter (has_call askings) sessions) (any-ends (filter (has_call askings) sessions))
  where
    any-ends : (numbers : List ℕ) → AllByRecursion (λ session. AsksReadable (record { session = session; request = End })) numbers
    any-ends [] = tt
    any-ends (number ∷ numbers) = (tt, any-ends numbers)

module _ (bytes : List ℕ) (calls : List ScriptCall) (has : HasCalls bytes calls) where
  abbrev texts : List CallText
  texts = texts_in has.parts

  abbrev askings : List Asking
  askings = askings_of texts has.requests

  abbrev all_askings : List Asking
  all_askings = askings ++ ends_of askings

  calls-are : calls ≡ numbered_after [] all_askings
  unfolding calls_of
  calls-are = has.calls_are

  pub calls-few : length calls ≤ INPUT_CALLS + SESSIONS
  calls-few =
      let none = none_first (faults_after 0 has.parts) has.lawful.fault_is in
      let counted = few-texts 0 has.parts (omega arith) none in
      let few = few-askings texts has.requests in
      let ends = few-ends askings in
      let both = length-append askings (ends_of askings) in
      let long = length-numbered [] all_askings in
      let same : length calls ≡ length (numbered_after [] all_askings) = ap length calls-are in
      omega arith

  texts-sessions : AllByRecursion TextOfASession texts
  texts-sessions =
      let all = parts-sessions 1 0 (stretches has.lawful.pieces) (omega arith, omega arith) in
      subst (λ parts. AllByRecursion TextOfASession (texts_in parts)) (sym has.lawful.parts_are) all

  pub calls-sessions : AllByRecursion IsOfASession calls
  calls-sessions =
      let all = all-append OfASession askings (ends_of askings) (askings-sessions texts has.requests texts-sessions) (ends-sessions askings) in
      subst (AllByRecursion IsOfASession) (sym calls-are)
      (numbered-all IsOfASession OfASession [] all_askings (λ before asking is. is) all)

  pub calls-numbered : AreNumbered [] calls
  calls-numbered = subst (AreNumbered []) (sym calls-are) (are-numbered [] all_askings)

  pub calls-readable : AllByRecursion (λ call. IsReadable call.request) calls
  calls-readable =
      let all = all-append AsksReadable askings (ends_of askings) (askings-readable texts has.requests has.asked) (ends-readable askings) in
      let P : List ScriptCall → Type 0 = AllByRecursion (λ call. IsReadable call.request) in
      subst P (sym calls-are)
      (numbered-all (λ call. IsReadable call.request) AsksReadable [] all_askings (λ before asking is. is) all)
