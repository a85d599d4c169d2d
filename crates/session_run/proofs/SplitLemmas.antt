-- The calls of a script, split by their sessions, are such as sessions may be served with.
use Rattle.std.proofs.Common.{◌≡◌, ◌≢◌, ◌∙◌, ℕ, zero, suc, ◌+◌, ◌<◌, ◌≤◌, List, [], ◌∷◌, ◌++◌, map, Bool, true, false, refl, ap, sym, subst, arith, inl, inr}
use Rattle.std.specs.Prelude.{filter}
use Rattle.std.specs.List.{AllByRecursion, list_any, range_with_len}
use Rattle.std.proofs.lemmas.Bool.Decides.{eqb_tells}
use Rattle.own_model.specs.declared.limit.TheConstants.{SESSIONS}
use Rattle.own_model.specs.declared.script.ScriptCall.{ScriptCall}
use Rattle.grammar_model.specs.Readable.{IsReadable}
use Rattle.script_model.specs.Numbered.{AreNumbered, count_of, is_of}
use Rattle.script_model.specs.Session.{sessions}
use Rattle.script_model.specs.Split.{calls_in, numbered_request, split}
use Rattle.script_model.proofs.Counts.{count-append, count-own}
use Rattle.session_run.specs.Serving.{AreReadable}
use Rattle.session_run.specs.Sessions.{IsElsewhere, IsServable, AreOwnNumbers, StandOnce, numbers_of}

-- what all have, those have that pass a test
filter_step : {X : Type 0} (P : X → Type 0) (test : X → Bool) (first : X) (rest : List X) → P first → AllByRecursion P (filter test rest)
    → (passes : Bool) → test first ≡ passes → AllByRecursion P (filter test (first ∷ rest))
filter_step P test first rest has later true is = rw is (has, later)
filter_step P test first rest has later false is = rw is later

all_filter : {X : Type 0} (P : X → Type 0) (test : X → Bool) (xs : List X) → AllByRecursion P xs → AllByRecursion P (filter test xs)
all_filter P test [] all = tt
all_filter P test (first ∷ rest) all = filter_step P test first rest all.0 (all_filter P test rest all.1) _ refl

-- a number is none of those from a greater one on
below_apart : (number from count : ℕ) → number < from → IsElsewhere number (range_with_len from count)
below_apart number from zero below = tt
below_apart number from (suc count) below = (λ same. omega arith, below_apart number (from + 1) count (omega arith))

-- each number stands once in a range, and among those of it that pass a test
once_step : (test : ℕ → Bool) (from count : ℕ) → StandOnce (filter test (range_with_len (from + 1) count))
    → (passes : Bool) → test from ≡ passes → StandOnce (filter test (from ∷ range_with_len (from + 1) count))
once_step test from count later true is =
    rw is (all_filter (λ number. from ≢ number) test (range_with_len (from + 1) count) (below_apart from (from + 1) count (omega arith)), later)
once_step test from count later false is = rw is later

range_once : (test : ℕ → Bool) (from count : ℕ) → StandOnce (filter test (range_with_len from count))
range_once test from zero = tt
range_once test from (suc count) = once_step test from count (range_once test (from + 1) count) _ refl

numbers_once : (from count : ℕ) → StandOnce (range_with_len from count)
numbers_once from zero = tt
numbers_once from (suc count) = (below_apart from (from + 1) count (omega arith), numbers_once (from + 1) count)

numbers_in : (calls : List ScriptCall) (numbers : List ℕ) → numbers_of (map (calls_in calls) numbers) ≡ numbers
numbers_in calls [] = refl
numbers_in calls (number ∷ numbers) = ap (λ rest. number ∷ rest) (numbers_in calls numbers)

-- each session stands once
pub split-once : (calls : List ScriptCall) → StandOnce (numbers_of (split calls))
unfolding split
split-once calls = subst StandOnce (sym (numbers_in calls _)) (range_once (λ session. list_any (is_of session) calls) 1 SESSIONS)

-- a session is one of those that there are
abbrev IsSession : ℕ → Type 0
IsSession session = (1 ≤ session) × (session ≤ SESSIONS)

range_within : (from count most : ℕ) → 1 ≤ from → from + count ≤ most + 1 → AllByRecursion (λ number. (1 ≤ number) × (number ≤ most)) (range_with_len from count)
range_within from zero most some few = tt
range_within from (suc count) most some few = ((some, omega arith), range_within (from + 1) count most (omega arith) (omega arith))

readable_in : (calls : List ScriptCall) → AllByRecursion (λ call. IsReadable call.request) calls → AreReadable (map numbered_request calls)
readable_in [] all = tt
readable_in (call ∷ calls) all = (all.0, readable_in calls all.1)

servable_in : (calls : List ScriptCall) → AllByRecursion (λ call. IsReadable call.request) calls → (numbers : List ℕ) → AllByRecursion IsSession numbers
    → AllByRecursion IsServable (map (calls_in calls) numbers)
servable_in calls readable [] all = tt
servable_in calls readable (number ∷ numbers) all = (
  record {
    first = all.0.0;
    last = all.0.1;
    readable = readable_in (filter (is_of number) calls) (all_filter (λ call. IsReadable call.request) (is_of number) calls readable);
  },
  servable_in calls readable numbers all.1,
)

-- each may be served, where each call can be read
pub split-servable : (calls : List ScriptCall) → AllByRecursion (λ call. IsReadable call.request) calls → AllByRecursion IsServable (split calls)
unfolding split
split-servable calls readable =
    servable_in calls readable _ (all_filter IsSession (λ session. list_any (is_of session) calls) sessions (range_within 1 SESSIONS SESSIONS (omega arith) (omega arith)))

module _ (session : ℕ) (before calls : List ScriptCall) (call : ScriptCall) (number : call.call ≡ count_of call.session.0 before + 1)
    (later : map (λ call. call.call) (filter (is_of session) calls) ≡ range_with_len (count_of session (before ++ call ∷ []) + 1) (count_of session calls)) where
  own : is_of session call ≡ true → call.session.0 ≡ session
  own is = elim (eqb_tells call.session.0 session) [ inl (true_is, same) ↦ same | inr (false_is, other) ↦ let never : ⊥ = cc in absurd never ]

  -- a call of another session counts for none of this one
  counts : is_of session call ≡ false → count_of session (before ++ call ∷ []) ≡ count_of session before
  counts is =
      let both = count-append session before (call ∷ []) in
      let none : count_of session (call ∷ []) ≡ 0 = rw is refl in
      omega arith

  numbered_step : (test : Bool) → is_of session call ≡ test
      → map (λ call. call.call) (filter (is_of session) (call ∷ calls)) ≡ range_with_len (count_of session before + 1) (count_of session (call ∷ calls))
  numbered_step true is =
      let same = own is in
      let first : call.call ≡ count_of session before + 1 = subst (λ s. call.call ≡ count_of s before + 1) same number in
      let one_more : count_of session (before ++ call ∷ []) ≡ count_of session before + 1 =
      subst (λ s. count_of s (before ++ call ∷ []) ≡ count_of s before + 1) same (count-own before call) in
      rw is (ap (λ first. first ∷ map (λ call. call.call) (filter (is_of session) calls)) first
      ∙ ap (λ rest. (count_of session before + 1) ∷ rest) (later ∙ ap (λ from. range_with_len (from + 1) (count_of session calls)) one_more))
  numbered_step false is = rw is (later ∙ ap (λ from. range_with_len (from + 1) (count_of session calls)) (counts is))

-- the calls of a session are numbered from those that it had
numbered_in : (session : ℕ) (before calls : List ScriptCall) → AreNumbered before calls
    → map (λ call. call.call) (filter (is_of session) calls) ≡ range_with_len (count_of session before + 1) (count_of session calls)
numbered_in session before [] numbered = refl
numbered_in session before (call ∷ calls) numbered = numbered_step session before calls call numbered.0 (numbered_in session (before ++ call ∷ []) calls numbered.1) _ refl

numbers_of_requests : (calls : List ScriptCall) → map (λ asked. asked.0) (map numbered_request calls) ≡ map (λ call. call.call) calls
numbers_of_requests [] = refl
numbers_of_requests (call ∷ calls) = ap (λ rest. call.call ∷ rest) (numbers_of_requests calls)

once_in : (calls : List ScriptCall) → AreNumbered [] calls → (numbers : List ℕ) → AllByRecursion AreOwnNumbers (map (calls_in calls) numbers)
once_in calls numbered [] = tt
once_in calls numbered (number ∷ numbers) = (
  subst StandOnce (sym (numbers_of_requests (filter (is_of number) calls) ∙ numbered_in number [] calls numbered)) (numbers_once (count_of number [] + 1) (count_of number calls)),
  once_in calls numbered numbers,
)

-- and so do the numbers of the calls of each
pub split-numbered : (calls : List ScriptCall) → AreNumbered [] calls → AllByRecursion AreOwnNumbers (split calls)
unfolding split
split-numbered calls numbered = once_in calls numbered _
