-- The calls of each session, counted.
use Rattle.std.proofs.Common.{◌≡◌, ◌≢◌, ◌≤◌, ◌+◌, ◌-◌, ℕ, List, [], ◌∷◌, ◌++◌, length, get_or, set, inl, inr, refl, sym, ap, ◌∙◌, subst, arith}
use Rattle.std.specs.Prelude.{filter, if◌then◌else◌}
use Rattle.std.proofs.lemmas.Bool.{cases_eq, eq-eqb, ne_eqb, cond_both}
use Rattle.std.proofs.lemmas.List.{length-append, length-set, get_or-set_same, get_or-set_other}
use Rattle.std.proofs.lemmas.List.Elements.{filter-append}
use Rattle.own_model.specs.declared.limit.TheConstants.{SESSIONS}
use Rattle.own_model.specs.declared.request.Request.{Request}
use Rattle.own_model.specs.declared.script.ScriptCall.{ScriptCall}
use Rattle.script_model.specs.Numbered.{is_of, count_of, call_after}
use Rattle.sql_reader.specs.scripts.Counts.{AreCounted, asking}

-- a session has no more calls than there are
pub count_of-le-length : (session : ℕ) (calls : List ScriptCall) → count_of session calls ≤ length calls
count_of-le-length session [] = omega arith
count_of-le-length session (call ∷ calls) =
    cond_both (is_of session call) (call ∷ filter (is_of session) calls) (filter (is_of session) calls) (λ l. length l ≤ length (call ∷ calls))
    (λ mine. omega (arith, count_of-le-length session calls)) (λ other. omega (arith, count_of-le-length session calls))

count_of-push : (session : ℕ) (calls : List ScriptCall) (call : ScriptCall) → count_of session (calls ++ call ∷ []) ≡ count_of session calls + length (if is_of session call then call ∷ [] else [])
count_of-push session calls call = ap length (filter-append (is_of session) calls (call ∷ [])) ∙ length-append (filter (is_of session) calls) (filter (is_of session) (call ∷ []))

-- the session's call is counted
pub count_of-own : (session : ℕ) (calls : List ScriptCall) (call : ScriptCall) → call.session.0 ≡ session → count_of session (calls ++ call ∷ []) ≡ count_of session calls + 1
count_of-own session calls call same = count_of-push session calls call ∙ ap (λ b. count_of session calls + length (if b then call ∷ [] else [])) (eq-eqb call.session.0 session same)

-- another session's isn't
pub count_of-other : (session : ℕ) (calls : List ScriptCall) (call : ScriptCall) → call.session.0 ≢ session → count_of session (calls ++ call ∷ []) ≡ count_of session calls
count_of-other session calls call other = count_of-push session calls call ∙ ap (λ b. count_of session calls + length (if b then call ∷ [] else [])) (ne_eqb call.session.0 session other) ∙ omega arith

-- one call more
pub AreCounted-push : (counts : List ℕ) (calls : List ScriptCall) (session : ℕ) (request : Request) → 1 ≤ session → session ≤ SESSIONS → AreCounted counts calls → AreCounted (set counts (session - 1) (get_or counts (session - 1) 0 + 1)) (calls ++ call_after calls (asking session request) ∷ [])
AreCounted-push counts calls session request some within counted =
    record {
      long = length-set counts (session - 1) (get_or counts (session - 1) 0 + 1) ∙ counted.long;
      each = λ other some_other within_other. elim (cases_eq session other) [
        | inl same ↦
            subst (λ n. get_or (set counts (session - 1) (get_or counts (session - 1) 0 + 1)) (n - 1) 0 ≡ count_of n (calls ++ call_after calls (asking session request) ∷ [])) same
            (get_or-set_same counts (session - 1) (get_or counts (session - 1) 0 + 1) 0 (omega (arith, counted.long)) ∙ ap (λ n. n + 1) (counted.each session some within) ∙ sym (count_of-own session calls (call_after calls (asking session request)) refl))
        | inr differs ↦
            get_or-set_other counts (session - 1) (other - 1) (get_or counts (session - 1) 0 + 1) 0 (λ same. differs (omega arith)) ∙ counted.each other some_other within_other
            ∙ sym (count_of-other other calls (call_after calls (asking session request)) differs)
      ];
    }
