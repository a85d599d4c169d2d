-- An End more.
use Rattle.std.proofs.Common.{◌≡◌, ◌≤◌, ◌+◌, ◌-◌, ℕ, List, [], ◌∷◌, ◌++◌, get_or, inl, inr, sym, ap, ◌∙◌, subst, arith, append_assoc}
use Rattle.std.specs.Prelude.{if◌then◌else◌}
use Rattle.std.proofs.lemmas.Bool.{cases_lt, lt-ltb, le-ltb}
use Rattle.std.proofs.lemmas.List.{append-nil}
use Rattle.own_model.specs.declared.limit.TheConstants.{SESSIONS}
use Rattle.own_model.specs.declared.request.Request.TheVariants.{End}
use Rattle.own_model.specs.declared.script.ScriptCall.{ScriptCall}
use Rattle.script_model.specs.Numbered.{count_of}
use Rattle.sql_reader.specs.scripts.Counts.{AreCounted}
use Rattle.sql_reader.proofs.Scripts.Ends.{EndsTo, EndsTo-none, EndsTo-some}
use Rattle.call_stream.specs.Taken.{ends_at}

pub ends_step : (calls : List ScriptCall) (counts : List ℕ) (session : ℕ) (ends : List ScriptCall) → AreCounted counts calls → 1 ≤ session → session ≤ SESSIONS → EndsTo calls session (calls ++ ends) → EndsTo calls (session + 1) (calls ++ (ends ++ ends_at session (get_or counts (session - 1) 0)))
ends_step calls counts session ends counted some within to =
    let count = get_or counts (session - 1) 0 in
    let end : ScriptCall = record { session = record { 0 = session }; call = count + 1; request = End } in
    let same : count ≡ count_of session (calls ++ ends) = counted.each session some within ∙ sym (to.later session (omega arith)) in
    elim (cases_lt 0 count) [
      | inl more ↦
          subst (λ b. EndsTo calls (session + 1) (calls ++ (ends ++ (if b then end ∷ [] else [])))) (sym (lt-ltb 0 count more))
          (EndsTo-some calls session (calls ++ ends) (calls ++ (ends ++ end ∷ [])) within (omega (arith, same, more)) to
          (sym (append_assoc calls ends (end ∷ [])) ∙ ap (λ n. (calls ++ ends) ++ record { session = record { 0 = session }; call = n + 1; request = End } ∷ []) same))
      | inr none ↦
          subst (λ b. EndsTo calls (session + 1) (calls ++ (ends ++ (if b then end ∷ [] else [])))) (sym (le-ltb 0 count none))
          (subst (λ l. EndsTo calls (session + 1) (calls ++ l)) (sym (append-nil ends)) (EndsTo-none calls session (calls ++ ends) within (omega (arith, same, none)) to))
    ]
