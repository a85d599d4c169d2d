-- The calls of a history that calls make.
use Rattle.std.proofs.Common.{◌≡◌, List, [], ◌∷◌, ◌++◌, map, fold, refl, ap, sym, ◌∙◌, append_assoc}
use Rattle.std.specs.Prelude.{filter}
use Rattle.std.proofs.lemmas.List.{append-nil, map-append}
use Rattle.own_model.specs.declared.history.Verdict.{Verdict}
use Rattle.own_model.specs.declared.script.ScriptCall.{ScriptCall}
use Rattle.history_model.specs.History.{History}
use Rattle.history_model.specs.Made.{Called, Want, Spared, Unshown, Unmade, added, after_call, entry_of, made}
use Rattle.history_model.specs.Named.{called_name, entry_name, was_made}

-- a call is named where it is made
kept : (call : ScriptCall) (want : Want) (verdict : Verdict) (calls : List Called)
    → map entry_name (added (entry_of call verdict) want) ++ map called_name (filter was_made calls)
    ≡ map called_name (filter was_made (record { call = call; want = want; verdict = verdict } ∷ calls))
kept call Spared verdict calls = refl
kept call Unshown verdict calls = refl
kept call Unmade verdict calls = refl

-- the calls of the history so far, and then those that are made
named_fold : (history : History) (calls : List Called)
    → map entry_name (fold (after_call) history calls) ≡ map entry_name history ++ map called_name (filter was_made calls)
named_fold history [] = sym (append-nil (map entry_name history))
named_fold history (first ∷ calls) =
    let own = added (entry_of first.call first.verdict) first.want in
    let rest = map called_name (filter was_made calls) in
    named_fold (after_call history first) calls
    ∙ (ap (λ names. names ++ rest) (map-append entry_name history own)
    ∙ (append_assoc (map entry_name history) (map entry_name own) rest
    ∙ ap (λ names. map entry_name history ++ names) (kept first.call first.want first.verdict calls)))

-- the calls of the history that calls make
pub named-made : (calls : List Called) → map entry_name (made calls) ≡ map called_name (filter was_made calls)
unfolding made
named-made calls = named_fold [] calls
