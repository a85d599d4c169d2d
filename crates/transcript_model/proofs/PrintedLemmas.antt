-- The text of calls, call by call: a call's place, and its lines as the history grows.
use Rattle.std.proofs.Common.{◌≡◌, ℕ, ◌+◌, ◌<◌, ◌≤◌, List, [], ◌∷◌, ◌++◌, length, map, Bool, true, false, refl, ap, sym, subst, ◌∙◌, arith, append-nil, rules, inl, inr}
use Rattle.std.proofs.lemmas.Bool.{eqb-true}
use Rattle.std.proofs.lemmas.Bool.Decides.{eqb_tells}
use Rattle.std.specs.Prelude.{Option, None, Some, ◌==◌, ◌&&◌}
use Rattle.std.specs.List.{AllByRecursion, flat_map}
use Rattle.std.proofs.lemmas.Grind.{flat_map-append}
use Rattle.std.proofs.lemmas.List.{take-append-le}
use Rattle.std.proofs.lemmas.List.Sums.{fold-append}
use Rattle.own_model.specs.declared.history.Entry.{Entry}
use Rattle.own_model.specs.declared.history.Verdict.{Verdict}
use Rattle.own_model.specs.declared.script.ScriptCall.{ScriptCall}
use Rattle.own_model.specs.Db.{Db}
use Rattle.schema_model.proofs.Places.{slice_get-append_below}
use Rattle.history_model.specs.History.{History}
use Rattle.history_model.specs.Made.{Want, Spared, Unshown, Unmade, Called, added, after_call, entry_of, made, place_by}
use Rattle.script_model.specs.Numbered.{count_of}
use Rattle.transcript_model.specs.Printed.{is_of, lines_at, lines_of, looks, place_from, place_of, printed}
use Rattle.history_model.proofs.HistoryLemmas.{reply-append}

-- no entry is of the call
abbrev pub NoneOf : ScriptCall → History → Type 0
NoneOf call history = AllByRecursion (λ entry. is_of call entry ≡ false) history

-- a call that no entry is of has no place
pub place_from-none : (place : ℕ) (call : ScriptCall) (history : History) → NoneOf call history → place_from place call history ≡ None
unfolding place_from
place_from-none place call [] none = refl
place_from-none place call (entry ∷ history) none = rw none.0 (place_from-none (place + 1) call history none.1)

append_step : (place : ℕ) (call : ScriptCall) (entry : Entry) (history more : History)
    → place_from (place + 1) call (history ++ more) ≡ place_from (place + 1) call history
    → (b : Bool) → is_of call entry ≡ b → place_from place call (entry ∷ (history ++ more)) ≡ place_from place call (entry ∷ history)
unfolding place_from
append_step place call entry history more later true is = rw is refl
append_step place call entry history more later false is = rw is later

-- entries of other calls don't change a call's place
place_from-append : (place : ℕ) (call : ScriptCall) (history more : History) → NoneOf call more
    → place_from place call (history ++ more) ≡ place_from place call history
unfolding place_from
place_from-append place call [] more none = place_from-none place call more none
place_from-append place call (entry ∷ history) more none =
    append_step place call entry history more (place_from-append (place + 1) call history more none) _ refl

last_step : (place : ℕ) (call : ScriptCall) (first entry : Entry) (history : History) → is_of call first ≡ false
    → place_from (place + 1) call (history ++ entry ∷ []) ≡ Some ((place + 1) + length history)
    → place_from place call (first ∷ (history ++ entry ∷ [])) ≡ Some (place + length (first ∷ history))
unfolding place_from
last_step place call first entry history none later = rw none (later ∙ ap (λ n. Some n) (omega arith))

-- the last entry is of the call, and no other
pub place_from-last : (place : ℕ) (call : ScriptCall) (history : History) (entry : Entry) → NoneOf call history → is_of call entry ≡ true
    → place_from place call (history ++ entry ∷ []) ≡ Some (place + length history)
unfolding place_from
place_from-last place call [] entry none is = rw is (ap (λ n. Some n) (omega arith))
place_from-last place call (first ∷ history) entry none is =
    last_step place call first entry history none.0 (place_from-last (place + 1) call history entry none.1 is)

within_step : (from place : ℕ) (call : ScriptCall) (entry : Entry) (history : History)
    → (place_from (from + 1) call history ≡ Some place → place < (from + 1) + length history)
    → (b : Bool) → is_of call entry ≡ b → place_from from call (entry ∷ history) ≡ Some place → place < from + length (entry ∷ history)
unfolding place_from
within_step from place call entry history later true is found =
    let both : ◌≡◌ {A = Option ℕ} (Some from) (Some place) = rw is at found in
    let same : from ≡ place = cc in omega arith
within_step from place call entry history later false is found = let more = later (rw is at found) in omega arith

-- a place that a call has is one of the history's
place_from-within : (from place : ℕ) (call : ScriptCall) (history : History) → place_from from call history ≡ Some place → place < from + length history
unfolding place_from
place_from-within from place call [] found = let never : ⊥ = cc in absurd never
place_from-within from place call (entry ∷ history) found =
    within_step from place call entry history (place_from-within (from + 1) place call history) _ refl found

-- a call that looks does so whatever comes later
looks-append : (base : Db) (history more : History) (place : ℕ) → place < length history → looks base (history ++ more) place ≡ looks base history place
unfolding looks
looks-append base history more place lt =
    let le : place ≤ length history = omega arith in
    rw (take-append-le place history more le, slice_get-append_below history more place lt) refl

lines_step : (base : Db) (history more : History) (called : Called) (place : Option ℕ) → place_of history called.call ≡ place
    → lines_at base (history ++ more) called place ≡ lines_at base history called place
lines_step base history more called None is = refl
lines_step base history more called (Some place) is =
    let within : place < length history = (let lt = place_from-within 0 place called.call history is in omega arith) in
    rw (reply-append base history more place within, looks-append base history more place within) refl

-- the lines of a call that has its entry, or gets none, stay
lines_of-append : (base : Db) (history more : History) (called : Called) → NoneOf called.call more
    → lines_of base (history ++ more) called ≡ lines_of base history called
unfolding lines_of
lines_of-append base history more called none =
    ap (lines_at base (history ++ more) called) (place_from-append 0 called.call history more none) ∙ lines_step base history more called _ refl

-- so does the text of such calls
pub printed-append : (base : Db) (history more : History) (calls : List Called) → AllByRecursion (λ called. NoneOf called.call more) calls
    → printed base (history ++ more) calls ≡ printed base history calls
unfolding printed
printed-append base history more [] none = refl
printed-append base history more (called ∷ calls) none =
    ap (λ lines. lines ++ printed base (history ++ more) calls) (lines_of-append base history more called none.0)
    ∙ ap (λ rest. lines_of base history called ++ rest) (printed-append base history more calls none.1)

-- a smaller number is another
unequal : (m n : ℕ) → m < n → (m == n) ≡ false
unequal m n lt = elim (eqb_tells m n) [ inl (is, same) ↦ absurd (omega arith) | inr (is, other) ↦ is ]

unequal_above : (m n : ℕ) → m < n → (n == m) ≡ false
unequal_above m n lt = elim (eqb_tells n m) [ inl (is, same) ↦ absurd (omega arith) | inr (is, other) ↦ is ]

-- the calls, and the entries of a history, whose numbers are at most that of the calls of their session among these
abbrev pub CallsWithin : List ScriptCall → List ScriptCall → Type 0
CallsWithin done calls = AllByRecursion (λ call. call.call ≤ count_of call.session.0 done) calls

abbrev pub EntriesWithin : List ScriptCall → History → Type 0
EntriesWithin done history = AllByRecursion (λ entry. entry.call ≤ count_of entry.session.0 done) history

-- the call that comes next in its session
abbrev pub IsNext : List ScriptCall → ScriptCall → Type 0
IsNext done call = call.call ≡ count_of call.session.0 done + 1

-- one of the same session has another number
other_number : (done : List ScriptCall) (session number own next : ℕ) → number ≤ count_of session done → next ≡ count_of own done + 1
    → (b : Bool) → (session == own) ≡ b → (b && (number == next)) ≡ false
other_number done session number own next within is false other = refl
other_number done session number own next within is true same =
    let one : session ≡ own = eqb-true session own same in
    unequal number next (let less : number ≤ count_of own done = subst (λ s. number ≤ count_of s done) one within in omega arith)

-- none of them is of the next call
pub none_within : (done : List ScriptCall) (call : ScriptCall) (history : History) → IsNext done call → EntriesWithin done history → NoneOf call history
none_within done call [] next within = tt
none_within done call (entry ∷ history) next within =
    (other_number done entry.session.0 entry.call call.session.0 call.call within.0 next _ refl, none_within done call history next within.1)

-- and one of the same session that comes later has another number
later_number : (done : List ScriptCall) (session number own before : ℕ) → number ≡ count_of session done + 1 → before ≤ count_of own done
    → (b : Bool) → (session == own) ≡ b → (b && (number == before)) ≡ false
later_number done session number own before is within false other = refl
later_number done session number own before is within true same =
    let one : session ≡ own = eqb-true session own same in
    unequal_above before number (let less : before ≤ count_of session done = subst (λ s. before ≤ count_of s done) (sym one) within in omega arith)

-- an entry of the next call is of none of them
others_within : (done : List ScriptCall) (entry : Entry) (calls : List Called) → entry.call ≡ count_of entry.session.0 done + 1
    → CallsWithin done (map (λ called. called.call) calls) → AllByRecursion (λ called. NoneOf called.call (entry ∷ [])) calls
others_within done entry [] next within = tt
others_within done entry (called ∷ calls) next within =
    ((later_number done entry.session.0 entry.call called.call.session.0 called.call.call next within.0 _ refl, tt), others_within done entry calls next within.1)

nothing_of : (calls : List Called) → AllByRecursion (λ called. NoneOf called.call []) calls
nothing_of [] = tt
nothing_of (called ∷ calls) = (tt, nothing_of calls)

pub others_added : (done : List ScriptCall) (entry : Entry) (want : Want) (calls : List Called) → entry.call ≡ count_of entry.session.0 done + 1
    → CallsWithin done (map (λ called. called.call) calls) → AllByRecursion (λ called. NoneOf called.call (added entry want)) calls
others_added done entry Spared calls next within = others_within done entry calls next within
others_added done entry Unshown calls next within = others_within done entry calls next within
others_added done entry Unmade calls next within = nothing_of calls

is_of_own : (call : ScriptCall) (verdict : Verdict) → is_of call (entry_of call verdict) ≡ true
is_of_own call verdict = search rules

pub place_added : (history : History) (call : ScriptCall) (want : Want) (verdict : Verdict) → NoneOf call history
    → place_of (history ++ added (entry_of call verdict) want) call ≡ place_by want (length history)
place_added history call Spared verdict none = place_from-last 0 call history (entry_of call verdict) none (is_of_own call verdict) ∙ ap (λ n. Some n) (omega arith)
place_added history call Unshown verdict none = place_from-last 0 call history (entry_of call verdict) none (is_of_own call verdict) ∙ ap (λ n. Some n) (omega arith)
place_added history call Unmade verdict none = ap (λ h. place_of h call) (append-nil history) ∙ place_from-none 0 call history none

pub made-append : (calls : List Called) (called : Called) → made (calls ++ called ∷ []) ≡ after_call (made calls) called
unfolding made
made-append calls called = fold-append after_call [] calls (called ∷ [])

pub printed-last : (base : Db) (history : History) (calls : List Called) (called : Called)
    → printed base history (calls ++ called ∷ []) ≡ printed base history calls ++ lines_of base history called
unfolding printed
printed-last base history calls called =
    flat_map-append (lines_of base history) calls (called ∷ []) ∙ ap (λ lines. flat_map (lines_of base history) calls ++ lines) (append-nil (lines_of base history called))

pub lines_of-place : (base : Db) (history : History) (called : Called) (place : Option ℕ) → place_of history called.call ≡ place
    → lines_at base history called place ≡ lines_of base history called
unfolding lines_of
lines_of-place base history called place is = ap (lines_at base history called) (sym is)
