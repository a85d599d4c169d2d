-- What sessions ask for, numbered one after another.
use Rattle.std.proofs.Common.{◌≡◌, ◌<◌, ◌≤◌, List, [], ◌∷◌, ◌++◌, length, map, refl, sym, ap, subst, ◌∙◌, arith, append_assoc}
use Rattle.std.specs.List.{AllByRecursion}
use Rattle.std.proofs.lemmas.List.{append-nil, length-append, length-map, map-append}
use Rattle.own_base.specs.declared.number.SessionNo.{SessionNo}
use Rattle.own_model.specs.declared.limit.TheConstants.{INPUT_CALLS}
use Rattle.own_model.specs.declared.request.Request.{Request}
use Rattle.own_model.specs.declared.script.ScriptCall.{ScriptCall}
use Rattle.script_model.specs.Numbered.{call_after, calls_of, numbered_after}
use Rattle.script_model.proofs.InputCalls.{length-numbered}
use Rattle.sql_reader.specs.scripts.Counts.{asking, asking_of, IsOfOne}
use Rattle.sql_reader.specs.scripts.TextCalls.{ends_after}
use Rattle.sql_reader.proofs.Scripts.Ends.{calls_of-text}
use Rattle.sql_reader.proofs.Scripts.Numbering.{numbered_after-append, numbered_after-cons, numbered_after-nil}

abbrev Asked : Type 0
Asked = List (SessionNo × Request)

-- the first of what is asked is numbered
pub record NumberedTo (asked numbered rest : Asked) (calls : List ScriptCall) : Type 0 where
  pub split : asked ≡ numbered ++ rest
  pub are : calls ≡ numbered_after [] (map asking_of numbered)

pub NumberedTo-start : (asked : Asked) (calls : List ScriptCall) → calls ≡ [] → NumberedTo asked [] asked calls
NumberedTo-start asked calls none = record { split = refl; are = none ∙ sym (numbered_after-nil []) }

-- the next is of one of the sessions, and not one too many
pub NumberedTo-own : (asked numbered rest more : Asked) (calls : List ScriptCall) (next : SessionNo × Request) → AllByRecursion IsOfOne asked → length asked ≤ INPUT_CALLS → NumberedTo asked numbered rest calls → rest ≡ next ∷ more
    → IsOfOne next × (length calls < INPUT_CALLS)
NumberedTo-own asked numbered rest more calls next own few so_far is =
    let split : asked ≡ numbered ++ next ∷ more = so_far.split ∙ ap (λ l. numbered ++ l) is in (
      (own_in numbered (subst (AllByRecursion IsOfOne) split own)).0,
      omega (arith, ap length split, length-append numbered (next ∷ more), ap length so_far.are, length-numbered [] (map asking_of numbered), length-map numbered asking_of),
    )
  where
    own_in : (front : Asked) → AllByRecursion IsOfOne (front ++ next ∷ more) → AllByRecursion IsOfOne (next ∷ more)
    own_in [] all = all
    own_in (first ∷ front) all = own_in front all.1

-- the next is numbered
pub NumberedTo-more : (asked numbered rest more : Asked) (calls after : List ScriptCall) (next : SessionNo × Request) → NumberedTo asked numbered rest calls → rest ≡ next ∷ more
    → after ≡ calls ++ call_after calls (asking next.0.0 next.1) ∷ [] → NumberedTo asked (numbered ++ next ∷ []) more after
NumberedTo-more asked numbered rest more calls after next so_far is added =
    let before = numbered_after [] (map asking_of numbered) in
    let one : numbered_after before (asking_of next ∷ []) ≡ call_after before (asking_of next) ∷ [] =
    numbered_after-cons before (asking_of next) [] ∙ ap (λ l. call_after before (asking_of next) ∷ l) (numbered_after-nil (before ++ call_after before (asking_of next) ∷ [])) in
    record {
      split = so_far.split ∙ ap (λ l. numbered ++ l) is ∙ sym (append_assoc numbered (next ∷ []) more);
      are = added ∙ (λ i. so_far.are i ++ call_after (so_far.are i) (asking_of next) ∷ [])
          ∙ ap (λ l. before ++ l) (sym one) ∙ sym (numbered_after-append [] (map asking_of numbered) (asking_of next ∷ [])) ∙ ap (numbered_after []) (sym (map-append asking_of numbered (next ∷ [])));
    }

-- all are, and the Ends behind them
pub NumberedTo-all : (asked numbered rest : Asked) (calls all : List ScriptCall) → NumberedTo asked numbered rest calls → rest ≡ [] → all ≡ calls ++ numbered_after calls (ends_after calls) → all ≡ calls_of (map asking_of asked)
NumberedTo-all asked numbered rest calls all so_far none ends =
    let same : numbered ≡ asked = sym (so_far.split ∙ ap (λ l. numbered ++ l) none ∙ append-nil numbered) in
    let are : calls ≡ numbered_after [] (map asking_of asked) = so_far.are ∙ ap (λ l. numbered_after [] (map asking_of l)) same in
    ends ∙ (λ i. are i ++ numbered_after (are i) (ends_after (are i))) ∙ sym (calls_of-text (map asking_of asked))

-- there are as many
pub NumberedTo-length : (asked numbered rest : Asked) (calls : List ScriptCall) → length asked ≤ INPUT_CALLS → NumberedTo asked numbered rest calls → length calls ≤ INPUT_CALLS
NumberedTo-length asked numbered rest calls few so_far =
    omega (arith, ap length so_far.split, length-append numbered rest, ap length so_far.are, length-numbered [] (map asking_of numbered), length-map numbered asking_of)
