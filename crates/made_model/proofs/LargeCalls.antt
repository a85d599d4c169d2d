-- What the calls of a large script are.
use Rattle.std.proofs.Common.{◌≡◌, ℕ, ◌+◌, ◌*◌, ◌%◌, ◌<◌, ◌≤◌, List, [], ◌∷◌, ◌++◌, length, map, Bool, true, false, filter, refl, ap, sym, subst, arith}
use Rattle.std.specs.Prelude.{◌==◌, codes}
use Rattle.std.specs.List.{AllByRecursion, flat_map, range_with_len}
use Rattle.std.proofs.lemmas.List.{length-append, length-map}
use Rattle.std.proofs.lemmas.List.FromFn.{length-range_with_len, length-map-range_with_len}
use Rattle.own_model.specs.declared.limit.TheConstants.{INPUT_CALLS, SESSIONS, STATEMENT_BYTES}
use Rattle.own_model.specs.declared.request.Request.{Request}
use Rattle.own_model.specs.declared.request.Request.TheVariants.{End}
use Rattle.own_model.specs.declared.script.ScriptCall.{ScriptCall}
use Rattle.grammar_model.specs.Readable.{IsReadable}
use Rattle.grammar_model.proofs.Requests.{answer_readable}
use Rattle.script_model.specs.Asked.{IsRead}
use Rattle.script_model.specs.Numbered.{AreNumbered, Asking, call_after, numbered_after}
use Rattle.script_model.specs.Split.{IsOfASession}
use Rattle.script_model.proofs.InputCalls.{length-numbered}
use Rattle.made_model.specs.declared.limits.TheConstants.{PEOPLE}
use Rattle.made_model.specs.Made.{AreRead, IsMade, in_one_session}
use Rattle.made_model.specs.MadeTexts.{erased_people, erasure_texts, made_texts, note_text, schema_texts, transfer_texts, user_text}
use Rattle.made_model.proofs.ShortTexts.{made-short}

-- what each request has, the call that asks for it has
all-asking : (P : ScriptCall → Type 0) (Q : Request → Type 0) (before : List ScriptCall) (requests : List Request)
    → ((before : List ScriptCall) (request : Request) → Q request → P (call_after before (in_one_session request))) → AllByRecursion Q requests
    → AllByRecursion P (numbered_after before (map in_one_session requests))
unfolding numbered_after
all-asking P Q before [] gives all = tt
all-asking P Q before (request ∷ requests) gives all =
    (gives before request all.0, all-asking P Q (before ++ call_after before (in_one_session request) ∷ []) requests gives all.1)

-- the numbers are those that come next
come-next : (before : List ScriptCall) (askings : List Asking) → AreNumbered before (numbered_after before askings)
unfolding numbered_after
come-next before [] = tt
come-next before (asking ∷ askings) = (refl, come-next (before ++ call_after before asking ∷ []) askings)

anything : (requests : List Request) → AllByRecursion (λ request. Unit {0}) requests
anything [] = tt
anything (request ∷ requests) = (tt, anything requests)

-- as many requests as texts
as-many : (texts : List (List ℕ)) (requests : List Request) → AreRead texts requests → length requests ≡ length texts
as-many [] [] read = refl
as-many [] (request ∷ requests) read = absurd read
as-many (text ∷ texts) [] read = absurd read
as-many (text ∷ texts) (request ∷ requests) read = let rest = as-many texts requests read.1 in omega arith

-- a short text asks for what can be read
abbrev IsShort : List ℕ → Type 0
IsShort text = length text ≤ STATEMENT_BYTES

readable : (text : List ℕ) (request : Request) → IsShort text → IsRead text request → IsReadable request
readable text request short read = subst IsReadable (sym read.gives) (answer_readable text read.answer short read.utf8 read.answers)

all-readable : (texts : List (List ℕ)) (requests : List Request) → AllByRecursion IsShort texts → AreRead texts requests → AllByRecursion IsReadable (requests ++ End ∷ [])
all-readable [] [] short read = (tt, tt)
all-readable [] (request ∷ requests) short read = absurd read
all-readable (text ∷ texts) [] short read = absurd read
all-readable (text ∷ texts) (request ∷ requests) short read = (readable text request short.0 read.0, all-readable texts requests short.1 read.1)

-- two lists of at most so many, one behind the other
joined : (a b : ℕ) (xs ys : List (List ℕ)) → length xs ≤ a → length ys ≤ b → length (xs ++ ys) ≤ a + b
joined a b xs ys fits more = let e = length-append xs ys in omega arith

-- lists of so many each, one behind another
each-long : {X A : Type 0} (f : X → List A) (count : ℕ) (xs : List X) → ((x : X) → length (f x) ≡ count) → length (flat_map f xs) ≡ count * length xs
each-long f count [] each = omega arith
each-long f count (x ∷ xs) each =
    let rest = each-long f count xs each in
    let first = each x in
    let both = length-append (f x) (flat_map f xs) in
    omega arith

kept-step : {X : Type 0} (test : X → Bool) (first : X) (rest : List X) → length (filter test rest) ≤ length rest
    → (b : Bool) → test first ≡ b → length (filter test (first ∷ rest)) ≤ length (first ∷ rest)
kept-step test first rest later true is = rw is (omega arith)
kept-step test first rest later false is = rw is (omega arith)

few-kept : {X : Type 0} (test : X → Bool) (xs : List X) → length (filter test xs) ≤ length xs
few-kept test [] = omega arith
few-kept test (first ∷ rest) = kept-step test first rest (few-kept test rest) _ refl

four : (people seed before : ℕ) → length (transfer_texts people seed (3 * people + 3 * before)) ≡ 4
unfolding transfer_texts
four people seed before = refl

two : (number : ℕ) → length (erasure_texts number) ≡ 2
unfolding erasure_texts
two number = refl

few-texts : (people seed : ℕ) → length (made_texts people seed) ≤ 8 * people + 4
few-texts people seed =
    let transfers = λ (before : ℕ). transfer_texts people seed (3 * people + 3 * before) in
    let users = length-map-range_with_len user_text 1 people in
    let notes = length-map-range_with_len (note_text people seed) 0 people in
    let moved = each-long transfers 4 (range_with_len 0 people) (four people seed) in
    let movers = length-range_with_len 0 people in
    let gone = each-long erasure_texts 2 (erased_people people) two in
    let goers = few-kept (λ number. number % 4 == 1) (range_with_len 1 people) in
    let all = length-range_with_len 1 people in
    let last : List (List ℕ) = codes "SELECT * FROM held" ∷ [] in
    let erasures = flat_map erasure_texts (erased_people people) in
    let moves = flat_map transfers (range_with_len 0 people) in
    let noted = map (note_text people seed) (range_with_len 0 people) in
    let first = map user_text (range_with_len 1 people) in
    let with_users = joined 3 people schema_texts first (omega arith) (omega arith) in
    let with_notes = joined (3 + people) people (schema_texts ++ first) noted with_users (omega arith) in
    let with_moves = joined (3 + people + people) (4 * people) (schema_texts ++ first ++ noted) moves with_notes (omega arith) in
    let with_ends = joined (3 + people + people + 4 * people) (2 * people) (schema_texts ++ first ++ noted ++ moves) erasures with_moves (omega arith) in
    let whole = joined (3 + people + people + 4 * people + 2 * people) 1 (schema_texts ++ first ++ noted ++ moves ++ erasures) last with_ends (omega arith) in
    omega (arith, whole)

pub large-few : (people seed : ℕ) (calls : List ScriptCall) → people ≤ PEOPLE → IsMade people seed calls → length calls ≤ INPUT_CALLS + SESSIONS
large-few people seed calls most made =
    let many = as-many (made_texts people seed) made.requests made.read in
    let few = few-texts people seed in
    let numbered = length-numbered [] (map in_one_session (made.requests ++ End ∷ [])) in
    let mapped = length-map (made.requests ++ End ∷ []) in_one_session in
    let appended = length-append made.requests (End ∷ []) in
    let same = ap (λ (calls : List ScriptCall). length calls) made.calls_are in
    omega arith

pub large-sessions : (people seed : ℕ) (calls : List ScriptCall) → IsMade people seed calls → AllByRecursion IsOfASession calls
large-sessions people seed calls made =
    subst (AllByRecursion IsOfASession) (sym made.calls_are)
    (all-asking IsOfASession (λ request. Unit {0}) [] (made.requests ++ End ∷ []) (λ before request any. (omega arith, omega arith)) (anything (made.requests ++ End ∷ [])))

pub large-numbered : (people seed : ℕ) (calls : List ScriptCall) → IsMade people seed calls → AreNumbered [] calls
large-numbered people seed calls made = subst (AreNumbered []) (sym made.calls_are) (come-next [] (map in_one_session (made.requests ++ End ∷ [])))

pub large-readable : (people seed : ℕ) (calls : List ScriptCall) → 0 < people → people ≤ PEOPLE → IsMade people seed calls
    → AllByRecursion (λ call. IsReadable call.request) calls
large-readable people seed calls some most made =
    subst (AllByRecursion (λ (call : ScriptCall). IsReadable call.request)) (sym made.calls_are)
    (all-asking (λ call. IsReadable call.request) IsReadable [] (made.requests ++ End ∷ []) (λ before request is. is)
    (all-readable (made_texts people seed) made.requests (made-short people seed some most) made.read))
