-- A call more of one session has the session's next number.
use Rattle.std.proofs.Common.{◌≡◌, ℕ, ◌+◌, List, [], ◌∷◌, ◌++◌, length, map, refl, ap, sym, ◌∙◌, arith}
use Rattle.std.specs.List.{AllByRecursion}
use Rattle.std.proofs.lemmas.List.{map-append}
use Rattle.std.proofs.Common.{append_assoc}
use Rattle.own_model.specs.declared.request.Request.{Request}
use Rattle.own_model.specs.declared.script.ScriptCall.{ScriptCall}
use Rattle.script_model.specs.Numbered.{Asking, call_after, count_of, numbered_after}
use Rattle.made_model.specs.Made.{calls_asking, in_one_session}

-- an asking more is a call more
numbered-more : (before : List ScriptCall) (askings : List Asking) (asking : Asking)
    → numbered_after before (askings ++ asking ∷ []) ≡ numbered_after before askings ++ call_after (before ++ numbered_after before askings) asking ∷ []
unfolding numbered_after
numbered-more before [] asking = ap (λ (behind : List ScriptCall). call_after behind asking ∷ []) (sym (Rattle.std.proofs.lemmas.List.append-nil before))
numbered-more before (first ∷ askings) asking =
    let here = call_after before first in
    let later = numbered-more (before ++ here ∷ []) askings asking in
    let same : before ++ here ∷ [] ++ numbered_after (before ++ here ∷ []) askings ≡ before ++ (here ∷ numbered_after (before ++ here ∷ []) askings) = append_assoc before (here ∷ []) (numbered_after (before ++ here ∷ []) askings) in
    ap (λ (calls : List ScriptCall). here ∷ calls) later
    ∙ ap (λ (behind : List ScriptCall). here ∷ (numbered_after (before ++ here ∷ []) askings ++ call_after behind asking ∷ [])) same

-- all of one session are counted
all-counted : (calls : List ScriptCall) → AllByRecursion (λ call. call.session.0 ≡ 1) calls → count_of 1 calls ≡ length calls
all-counted [] all = refl
all-counted (call ∷ calls) all = let rest = all-counted calls all.1 in let here = all.0 in rw here (omega arith)

of-one : (before : List ScriptCall) (requests : List Request) → AllByRecursion (λ call. call.session.0 ≡ 1) (numbered_after before (map in_one_session requests))
unfolding numbered_after
of-one before [] = tt
of-one before (request ∷ requests) = (refl, of-one (before ++ call_after before (in_one_session request) ∷ []) requests)

-- the call behind those that ask for these
pub asking-more : (calls : List ScriptCall) (requests : List Request) (request : Request) → calls ≡ calls_asking requests
    → calls ++ record { session = record { 0 = 1 }; call = length calls + 1; request = request } ∷ [] ≡ calls_asking (requests ++ request ∷ [])
asking-more calls requests request is =
    let asked = map in_one_session requests in
    let mapped = map-append in_one_session requests (request ∷ []) in
    let more = numbered-more [] asked (in_one_session request) in
    let count = all-counted (numbered_after [] asked) (of-one [] requests) in
    ap (λ (calls : List ScriptCall). calls ++ record { session = record { 0 = 1 }; call = length calls + 1; request = request } ∷ []) is
    ∙ ap (λ (count : ℕ). numbered_after [] asked ++ record { session = record { 0 = 1 }; call = count + 1; request = request } ∷ []) (sym count)
    ∙ sym more ∙ ap (λ (askings : List Asking). numbered_after [] askings) (sym mapped)
