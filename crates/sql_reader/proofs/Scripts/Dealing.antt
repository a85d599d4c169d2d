-- Calls, dealt to the lists of their sessions.
use Rattle.std.proofs.Common.{◌≡◌, ◌<◌, ◌≤◌, ◌+◌, ◌-◌, ℕ, suc, Bool, true, false, List, [], ◌∷◌, ◌++◌, length, get_or, set, map, inl, inr, refl, sym, ap, ◌∙◌, subst, arith, append_assoc}
use Rattle.std.specs.Prelude.{◌||◌, filter, if◌then◌else◌, All}
use Rattle.std.specs.List.{list_any, range_with_len}
use Rattle.std.proofs.lemmas.Bool.{cases_eq, cases_Bool, eq-eqb, ne_eqb}
use Rattle.std.proofs.lemmas.List.{append-nil, length-append, length-set, map-append, get_or-set_same, get_or-set_other, get_or_at, same_lists}
use Rattle.std.proofs.lemmas.List.FromFn.{length-map-range_with_len, get_or-map-range_with_len, map-range_with_len_more}
use Rattle.std.proofs.lemmas.List.Elements.{filter-append}
use Rattle.own_model.specs.declared.limit.TheConstants.{SESSIONS}
use Rattle.own_model.specs.declared.request.Request.{Request}
use Rattle.own_model.specs.declared.script.ScriptCall.{ScriptCall}
use Rattle.own_model.specs.declared.script.SessionCalls.{SessionCalls}
use Rattle.script_model.specs.Numbered.{is_of}
use Rattle.script_model.specs.Split.{IsOfASession, numbered_request, calls_in, split}
use Rattle.sql_reader.specs.scripts.Lists.{list_of, lists_of}
use Rattle.sql_reader.proofs.Scripts.Ends.{range_more}

-- empty lists of the sessions below this one
pub record EmptyTo (session : ℕ) (lists : List (List (ℕ × Request))) : Type 0 where
  pub some : 1 ≤ session
  pub within : session ≤ SESSIONS + 1
  pub are : lists ≡ map (list_of []) (range_with_len 1 (session - 1))

pub EmptyTo-more : (session : ℕ) (lists : List (List (ℕ × Request))) → session ≤ SESSIONS → EmptyTo session lists → EmptyTo (session + 1) (lists ++ [] ∷ [])
EmptyTo-more session lists within empty =
    let next : session + 1 - 1 ≡ session - 1 + 1 = omega (arith, empty.some) in
    record {
      some = omega arith;
      within = omega arith;
      are = ap (λ l. l ++ [] ∷ []) empty.are ∙ sym (ap (λ n. map (list_of []) (range_with_len 1 n)) next ∙ map-range_with_len_more (list_of []) 1 (session - 1) session (omega (arith, empty.some)));
    }

pub EmptyTo-all : (session : ℕ) (lists : List (List (ℕ × Request))) → SESSIONS < session → EmptyTo session lists → lists ≡ lists_of []
unfolding lists_of
EmptyTo-all session lists past empty = let whole : session - 1 ≡ SESSIONS = omega (arith, empty.within) in empty.are ∙ ap (λ n. map (list_of []) (range_with_len 1 n)) whole

-- how many lists there are
pub length-lists_of : (calls : List ScriptCall) → length (lists_of calls) ≡ SESSIONS
unfolding lists_of
length-lists_of calls = length-map-range_with_len (list_of calls) 1 SESSIONS

get_or-lists_of : (calls : List ScriptCall) (place : ℕ) (default : List (ℕ × Request)) → place < SESSIONS → get_or (lists_of calls) place default ≡ list_of calls (place + 1)
unfolding lists_of
get_or-lists_of calls place default within = get_or-map-range_with_len (list_of calls) 1 SESSIONS place (place + 1) default within (omega arith)

list_of-push : (calls : List ScriptCall) (call : ScriptCall) (session : ℕ) → list_of (calls ++ call ∷ []) session ≡ list_of calls session ++ map numbered_request (if is_of session call then call ∷ [] else [])
list_of-push calls call session = ap (map numbered_request) (filter-append (is_of session) calls (call ∷ [])) ∙ map-append numbered_request (filter (is_of session) calls) (filter (is_of session) (call ∷ []))

-- one call more
pub lists_of-push : (calls : List ScriptCall) (call : ScriptCall) (list : List (ℕ × Request)) → IsOfASession call → list ≡ get_or (lists_of calls) (call.session.0 - 1) list → lists_of (calls ++ call ∷ []) ≡ set (lists_of calls) (call.session.0 - 1) (list ++ numbered_request call ∷ [])
lists_of-push calls call list own is =
    let place = call.session.0 - 1 in
    let more = list ++ numbered_request call ∷ [] in
    same_lists (lists_of (calls ++ call ∷ [])) (set (lists_of calls) place more)
    (length-lists_of (calls ++ call ∷ []) ∙ sym (length-set (lists_of calls) place more ∙ length-lists_of calls))
    (λ k default within.
    let below : k < SESSIONS = omega (arith, length-lists_of (calls ++ call ∷ [])) in
    get_or-lists_of (calls ++ call ∷ []) k default below ∙ list_of-push calls call (k + 1)
    ∙ elim (cases_eq place k) [
      | inl same ↦
          let mine : call.session.0 ≡ k + 1 = omega (arith, own.0) in
          let here : list ≡ list_of calls (k + 1) = is ∙ get_or-lists_of calls place list (omega (arith, own.0, own.1)) ∙ ap (λ n. list_of calls (n + 1)) same in
          ap (λ b. list_of calls (k + 1) ++ map numbered_request (if b then call ∷ [] else [])) (eq-eqb call.session.0 (k + 1) mine) ∙ ap (λ l. l ++ numbered_request call ∷ []) (sym here)
          ∙ sym (ap (λ n. get_or (set (lists_of calls) place more) n default) (sym same) ∙ get_or-set_same (lists_of calls) place more default (omega (arith, length-lists_of calls, own.0, own.1)))
      | inr differs ↦
          ap (λ b. list_of calls (k + 1) ++ map numbered_request (if b then call ∷ [] else [])) (ne_eqb call.session.0 (k + 1) (λ same. differs (omega arith))) ∙ append-nil (list_of calls (k + 1))
          ∙ sym (get_or-set_other (lists_of calls) place k more default (λ same. differs (sym same)) ∙ get_or-lists_of calls k default below)
    ])

-- the calls so far are dealt, and the rest are left
pub record Dealt (calls dealt rest : List ScriptCall) (lists : List (List (ℕ × Request))) : Type 0 where
  pub split : calls ≡ dealt ++ rest
  pub are : lists ≡ lists_of dealt

pub Dealt-start : (calls : List ScriptCall) (lists : List (List (ℕ × Request))) → lists ≡ lists_of [] → Dealt calls [] calls lists
Dealt-start calls lists are = record { split = refl; are = are }

-- the next call is one of the calls
pub Dealt-own : (calls dealt rest more : List ScriptCall) (lists : List (List (ℕ × Request))) (call : ScriptCall) → All IsOfASession calls → Dealt calls dealt rest lists → rest ≡ call ∷ more → IsOfASession call
Dealt-own calls dealt rest more lists call own before next =
    let split : calls ≡ dealt ++ call ∷ more = before.split ∙ ap (λ l. dealt ++ l) next in
    let here : get_or calls (length dealt) call ≡ call = ap (λ l. get_or l (length dealt) call) split ∙ get_or_at dealt call more call (length dealt) refl in
    subst IsOfASession here (own (length dealt) call (omega (arith, ap length split, length-append dealt (call ∷ more))))

pub Dealt-more : (calls dealt rest more : List ScriptCall) (lists : List (List (ℕ × Request))) (call : ScriptCall) (list added : List (ℕ × Request)) → All IsOfASession calls → Dealt calls dealt rest lists → rest ≡ call ∷ more
    → list ≡ get_or lists (call.session.0 - 1) list → added ≡ list ++ numbered_request call ∷ [] → Dealt calls (dealt ++ call ∷ []) more (set lists (call.session.0 - 1) added)
Dealt-more calls dealt rest more lists call list added own before next is adds =
    record {
      split = before.split ∙ ap (λ l. dealt ++ l) next ∙ sym (append_assoc dealt (call ∷ []) more);
      are = (λ i. set (before.are i) (call.session.0 - 1) (adds i)) ∙ sym (lists_of-push dealt call list (Dealt-own calls dealt rest more lists call own before next) (is ∙ ap (λ l. get_or l (call.session.0 - 1) list) before.are));
    }

pub Dealt-all : (calls dealt rest : List ScriptCall) (lists : List (List (ℕ × Request))) → Dealt calls dealt rest lists → rest ≡ [] → lists ≡ lists_of calls
Dealt-all calls dealt rest lists all none = all.are ∙ ap lists_of (sym (all.split ∙ ap (λ l. dealt ++ l) none ∙ append-nil dealt))

-- the session has a call
abbrev has : List ScriptCall → ℕ → Bool
has calls session = list_any (is_of session) calls

has_call : (calls : List ScriptCall) (session : ℕ) → 0 < length (list_of calls session) → has calls session ≡ true
has_call [] session some = absurd (omega arith)
has_call (call ∷ calls) session some =
    elim (cases_Bool (is_of session call)) [
      | inl mine ↦ ap (λ b. b || has calls session) mine
      | inr other ↦ ap (λ b. b || has calls session) other ∙ has_call calls session (subst (λ b. 0 < length (map numbered_request (if b then call ∷ filter (is_of session) calls else filter (is_of session) calls))) other some)
    ]

has_no_call : (calls : List ScriptCall) (session : ℕ) → length (list_of calls session) ≡ 0 → has calls session ≡ false
has_no_call [] session none = refl
has_no_call (call ∷ calls) session none =
    elim (cases_Bool (is_of session call)) [
      | inl mine ↦ absurd (omega (arith, subst (λ b. length (map numbered_request (if b then call ∷ filter (is_of session) calls else filter (is_of session) calls)) ≡ 0) mine none))
      | inr other ↦ ap (λ b. b || has calls session) other ∙ has_no_call calls session (subst (λ b. length (map numbered_request (if b then call ∷ filter (is_of session) calls else filter (is_of session) calls)) ≡ 0) other none)
    ]

-- The calls of the sessions below this one are gathered, and the lists of the others are left.
pub record Gathered (calls : List ScriptCall) (session : ℕ) (rest : List (List (ℕ × Request))) (gathered : List SessionCalls) : Type 0 where
  pub some : 1 ≤ session
  pub within : session ≤ SESSIONS + 1
  pub rest_is : rest ≡ map (list_of calls) (range_with_len session (SESSIONS + 1 - session))
  pub gathered_is : gathered ≡ map (calls_in calls) (filter (has calls) (range_with_len 1 (session - 1)))

pub Gathered-start : (calls : List ScriptCall) (lists : List (List (ℕ × Request))) → lists ≡ lists_of calls → Gathered calls 1 lists []
unfolding lists_of
Gathered-start calls lists are = record { some = omega arith; within = omega arith; rest_is = are; gathered_is = refl }

pub Gathered-within : (calls : List ScriptCall) (session : ℕ) (rest more : List (List (ℕ × Request))) (list : List (ℕ × Request)) (gathered : List SessionCalls) → Gathered calls session rest gathered → rest ≡ list ∷ more → session ≤ SESSIONS
Gathered-within calls session rest more list gathered before next =
    omega (arith, before.within, ap length next, ap length before.rest_is, length-map-range_with_len (list_of calls) session (SESSIONS + 1 - session))

-- the list of the session
module _ (calls : List ScriptCall) (session : ℕ) (rest more : List (List (ℕ × Request))) (list : List (ℕ × Request)) (gathered : List SessionCalls) (before : Gathered calls session rest gathered) (next : rest ≡ list ∷ more) where
  parts : (list ≡ list_of calls session) × (more ≡ map (list_of calls) (range_with_len (session + 1) (SESSIONS + 1 - (session + 1))))
  parts =
      let within = Gathered-within calls session rest more list gathered before next in
      let count : SESSIONS + 1 - session ≡ suc (SESSIONS + 1 - (session + 1)) = omega arith in
      let both : list ∷ more ≡ list_of calls session ∷ map (list_of calls) (range_with_len (session + 1) (SESSIONS + 1 - (session + 1))) = sym next ∙ before.rest_is ∙ ap (λ n. map (list_of calls) (range_with_len session n)) count in
      (cc, cc)

  gathered_more : map (calls_in calls) (filter (has calls) (range_with_len 1 (session + 1 - 1))) ≡ gathered ++ map (calls_in calls) (if has calls session then session ∷ [] else [])
  gathered_more =
      let count : session + 1 - 1 ≡ suc (session - 1) = omega (arith, before.some) in
      let last : 1 + (session - 1) ≡ session = omega (arith, before.some) in
      ap (λ n. map (calls_in calls) (filter (has calls) (range_with_len 1 n))) count ∙ ap (λ l. map (calls_in calls) (filter (has calls) l)) (range_more 1 (session - 1) ∙ ap (λ n. range_with_len 1 (session - 1) ++ n ∷ []) last)
      ∙ ap (map (calls_in calls)) (filter-append (has calls) (range_with_len 1 (session - 1)) (session ∷ [])) ∙ map-append (calls_in calls) (filter (has calls) (range_with_len 1 (session - 1))) (filter (has calls) (session ∷ []))
      ∙ ap (λ l. l ++ map (calls_in calls) (if has calls session then session ∷ [] else [])) (sym before.gathered_is)

  pub Gathered-none : length list ≡ 0 → Gathered calls (session + 1) more gathered
  Gathered-none none =
      let within = Gathered-within calls session rest more list gathered before next in
      let test : has calls session ≡ false = has_no_call calls session (sym (ap length parts.0) ∙ none) in
      record {
        some = omega arith;
        within = omega arith;
        rest_is = parts.1;
        gathered_is = sym (gathered_more ∙ ap (λ b. gathered ++ map (calls_in calls) (if b then session ∷ [] else [])) test ∙ append-nil gathered);
      }

  pub Gathered-some : (added : List SessionCalls) → 0 < length list → added ≡ gathered ++ record { session = record { 0 = session }; calls = list } ∷ [] → Gathered calls (session + 1) more added
  Gathered-some added some adds =
      let within = Gathered-within calls session rest more list gathered before next in
      let test : has calls session ≡ true = has_call calls session (omega (arith, ap length parts.0)) in
      record {
        some = omega arith;
        within = omega arith;
        rest_is = parts.1;
        gathered_is = adds ∙ ap (λ l. gathered ++ record { session = record { 0 = session }; calls = l } ∷ []) parts.0 ∙ sym (gathered_more ∙ ap (λ b. gathered ++ map (calls_in calls) (if b then session ∷ [] else [])) test);
      }

pub Gathered-all : (calls : List ScriptCall) (session : ℕ) (rest : List (List (ℕ × Request))) (gathered : List SessionCalls) → Gathered calls session rest gathered → rest ≡ [] → gathered ≡ split calls
unfolding split
Gathered-all calls session rest gathered all none =
    let whole : session - 1 ≡ SESSIONS = omega (arith, all.some, all.within, ap length none, ap length all.rest_is, length-map-range_with_len (list_of calls) session (SESSIONS + 1 - session)) in
    all.gathered_is ∙ ap (λ n. map (calls_in calls) (filter (has calls) (range_with_len 1 n))) whole
