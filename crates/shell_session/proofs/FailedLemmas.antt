-- Whether a call was answered with a fault of the disk, as a history grows.
use Rattle.std.proofs.Common.{◌≡◌, ℕ, ◌<◌, ◌≤◌, ◌+◌, List, [], ◌∷◌, ◌++◌, Bool, true, false, length, arith, refl, sym, ap, subst, ◌∙◌, inl, inr, ⊎_elim}
use Rattle.std.specs.Prelude.{◌⊎◌, Option, None, Some, slice_get}
use Rattle.std.proofs.lemmas.Bool.{cases_lt}
use Rattle.std.proofs.lemmas.List.{length-append}
use Rattle.std.proofs.lemmas.Option.{slice_get_past}
use Rattle.own_model.specs.declared.history.Entry.{Entry}
use Rattle.own_model.specs.declared.reply.Reply.{Reply}
use Rattle.own_model.specs.Db.{Db}
use Rattle.history_model.specs.History.{History, is_disk, reply}
use Rattle.history_model.proofs.HistoryLemmas.{reply-append}
use Rattle.shell_session.specs.Opening.{IsFailedIn}

no_reply : (base : Db) (history : History) (place : ℕ) → slice_get history place ≡ None → reply base history place ≡ None
unfolding reply
no_reply base history place none = rw none refl

failed_within : (base : Db) (history : History) (place : ℕ) (told : Reply) → reply base history place ≡ Some told → place < length history
failed_within base history place told is =
    ⊎_elim (λ within. within) (λ past. let none = no_reply base history place (slice_get_past history place past) in let never : ⊥ = cc in absurd never)
    (cases_lt place (length history))

pub none-failed : (base : Db) → IsFailedIn base [] → ⊥
none-failed base failed = let within = failed_within base [] failed.place failed.told failed.at in omega (arith, within)

-- it stays so, however the history goes on
pub failed-kept : (base : Db) (history more : History) → IsFailedIn base history → IsFailedIn base (history ++ more)
failed-kept base history more failed = record {
  place = failed.place;
  told = failed.told;
  at = reply-append base history more failed.place (failed_within base history failed.place failed.told failed.at) ∙ failed.at;
  is = failed.is;
}

-- after one call more it was so before, or is so of that one
pub failed-more : (base : Db) (history : History) (entry : Entry) (told : Reply) → reply base (history ++ entry ∷ []) (length history) ≡ Some told
    → IsFailedIn base (history ++ entry ∷ []) → IsFailedIn base history ⊎ (is_disk told ≡ true)
failed-more base history entry told answered failed =
    let within = failed_within base (history ++ entry ∷ []) failed.place failed.told failed.at in
    let long = length-append history (entry ∷ []) in
    ⊎_elim (λ before. inl (record { place = failed.place; told = failed.told; at = sym (reply-append base history (entry ∷ []) failed.place before) ∙ failed.at; is = failed.is }))
    (λ last.
    let at : failed.place ≡ length history = omega (arith, within, long, last) in
    let same : Some told ≡ Some failed.told = sym answered ∙ (ap (reply base (history ++ entry ∷ [])) (sym at) ∙ failed.at) in
    let told_is : told ≡ failed.told = cc in
    inr (ap is_disk told_is ∙ failed.is))
    (cases_lt failed.place (length history))
