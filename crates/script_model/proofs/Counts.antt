-- How many calls a session has.
use Rattle.std.proofs.Common.{◌≡◌, ℕ, ◌+◌, ◌≤◌, List, [], ◌∷◌, ◌++◌, Bool, true, false, refl, arith, inl, inr}
use Rattle.std.specs.Prelude.{◌==◌}
use Rattle.std.proofs.lemmas.Bool.Decides.{eqb_tells}
use Rattle.own_model.specs.declared.script.ScriptCall.{ScriptCall}
use Rattle.script_model.specs.Numbered.{count_of, is_of}

own_step : (session : ℕ) (call : ScriptCall) (b : Bool) → is_of session call ≡ b → b ≡ true → count_of session (call ∷ []) ≡ 1
own_step session call true is own = rw is refl
own_step session call false is own = cc

last_step : (session : ℕ) (first : ScriptCall) (calls more : List ScriptCall) (least : ℕ)
    → count_of session (calls ++ more) ≡ count_of session calls + count_of session more
    → (b : Bool) → is_of session first ≡ b → count_of session (first ∷ (calls ++ more)) ≡ count_of session (first ∷ calls) + count_of session more
last_step session first calls more least later true is = rw is (omega (arith, later))
last_step session first calls more least later false is = rw is later

-- of two lists together: those of the one and those of the other
pub count-append : (session : ℕ) (calls more : List ScriptCall) → count_of session (calls ++ more) ≡ count_of session calls + count_of session more
count-append session [] more = omega arith
count-append session (first ∷ calls) more = last_step session first calls more 0 (count-append session calls more) _ refl

-- one call more leaves no fewer
pub count-more : (session : ℕ) (calls : List ScriptCall) (call : ScriptCall) → count_of session calls ≤ count_of session (calls ++ call ∷ [])
count-more session calls call = let both = count-append session calls (call ∷ []) in omega arith

same_session : (session : ℕ) → (session == session) ≡ true
same_session session = elim (eqb_tells session session) [ inl (is, same) ↦ is | inr (is, other) ↦ absurd (other refl) ]

-- and one more of its own session
pub count-own : (calls : List ScriptCall) (call : ScriptCall) → count_of call.session.0 (calls ++ call ∷ []) ≡ count_of call.session.0 calls + 1
count-own calls call =
    let both = count-append call.session.0 calls (call ∷ []) in
    let one = own_step call.session.0 call _ refl (same_session call.session.0) in
    omega arith
