-- Which entries were answered with a fault of the disk, as a history grows.
use Rattle.std.proofs.Common.{◌≡◌, ℕ, ◌<◌, ◌≤◌, ◌⊎◌, [], ◌++◌, Bool, true, false, length, inl, inr, ⊎_elim, refl, ap, sym, ◌∙◌, arith}
use Rattle.std.specs.Prelude.{Option, None, Some, slice_get}
use Rattle.std.specs.Option.{option_map_or}
use Rattle.std.proofs.lemmas.Bool.{cases_lt}
use Rattle.std.proofs.lemmas.List.{length-append}
use Rattle.std.proofs.lemmas.Option.{slice_get_past}
use Rattle.own_model.specs.declared.history.Entry.{Entry}
use Rattle.own_model.specs.declared.refusal.Refusal.TheVariants.{Syntax, NoTable, NoColumn, WrongKind, Count, NameTaken, BadSchema, Cycle, HasRows, KeyWrite, NotSubject, NullValue, Duplicate, Range, Inside, Outside, Busy, Conflict, Doomed, NoSubject, Unique, Reference, Owner, TooBig, Limit, Disk, Down, Memory}
use Rattle.own_model.specs.declared.reply.Reply.{Reply}
use Rattle.own_model.specs.declared.reply.Reply.TheVariants.{Done, Counted, Rows, Got, Forgot, Graph, Ended, Refused}
use Rattle.own_model.specs.Db.{Db}
use Rattle.history_model.specs.History.{History, is_disk, reply}
use Rattle.history_model.specs.Made.{Want, Spared, Unmade, Unshown, added}
use Rattle.history_model.proofs.HistoryLemmas.{reply-append}
use Rattle.history_model.specs.Fails.{HasFailed, TellsFailure, fails_at}

-- the one reply that tells it
disk_is : (told : Reply) → is_disk told ≡ true → told ≡ Refused Disk
disk_is Done is = cc
disk_is (Counted count) is = cc
disk_is (Rows rows) is = cc
disk_is (Got rows) is = cc
disk_is (Forgot removed changed) is = cc
disk_is (Graph lines) is = cc
disk_is Ended is = cc
disk_is (Refused (Syntax byte)) is = cc
disk_is (Refused (NoTable name)) is = cc
disk_is (Refused (NoColumn name)) is = cc
disk_is (Refused (WrongKind name)) is = cc
disk_is (Refused (Count got wanted)) is = cc
disk_is (Refused (NameTaken name)) is = cc
disk_is (Refused (BadSchema rule name)) is = cc
disk_is (Refused (Cycle table through)) is = cc
disk_is (Refused (HasRows name)) is = cc
disk_is (Refused (KeyWrite name)) is = cc
disk_is (Refused (NotSubject name)) is = cc
disk_is (Refused (NullValue name)) is = cc
disk_is (Refused (Duplicate table key)) is = cc
disk_is (Refused (Range name)) is = cc
disk_is (Refused Inside) is = cc
disk_is (Refused Outside) is = cc
disk_is (Refused (Busy session)) is = cc
disk_is (Refused (Conflict session table key)) is = cc
disk_is (Refused (Doomed place)) is = cc
disk_is (Refused (NoSubject table key)) is = cc
disk_is (Refused (Unique table key column)) is = cc
disk_is (Refused (Reference table key column)) is = cc
disk_is (Refused (Owner table key)) is = cc
disk_is (Refused (TooBig bytes)) is = cc
disk_is (Refused (Limit passed)) is = cc
disk_is (Refused Disk) is = refl
disk_is (Refused (Down place)) is = cc
disk_is (Refused Memory) is = cc

disk_found : (found : Option Reply) → option_map_or is_disk found false ≡ true → found ≡ Some (Refused Disk)
disk_found None is = cc
disk_found (Some told) is = ap Some (disk_is told is)

no_reply : (base : Db) (history : History) (place : ℕ) → slice_get history place ≡ None → reply base history place ≡ None
unfolding reply
no_reply base history place none = rw none refl

module _ (base : Db) where
  -- an entry that is answered so is one of the history
  pub failed-at : (history : History) (place : ℕ) → fails_at base history place ≡ true → HasFailed base history
  failed-at history place is = (place, disk_found (reply base history place) is)

  -- behind the last there is none
  pub fails-past : (history : History) (place : ℕ) → length history ≤ place → fails_at base history place ≡ false
  fails-past history place past = rw (no_reply base history place (slice_get_past history place past)) refl

  -- one that is answered so is within the history
  failed_within : (history : History) (place : ℕ) → reply base history place ≡ Some (Refused Disk) → place < length history
  failed_within history place is =
      ⊎_elim (λ within. within) (λ past. let none = no_reply base history place (slice_get_past history place past) in let never : ⊥ = cc in absurd never)
      (cases_lt place (length history))

  pub none-failed : HasFailed base [] → ⊥
  none-failed failed = let within = failed_within [] failed.0 failed.1 in omega arith

  -- it stays so, however the history goes on
  pub failed-kept : (history more : History) → HasFailed base history → HasFailed base (history ++ more)
  failed-kept history more failed = (failed.0, reply-append base history more failed.0 (failed_within history failed.0 failed.1) ∙ failed.1)

  -- after one entry at most it was so before, or is so of that one
  failed_split : (history more : History) → length more ≤ 1 → HasFailed base (history ++ more)
      → HasFailed base history ⊎ (fails_at base (history ++ more) (length history) ≡ true)
  failed_split history more few failed =
      let within = failed_within (history ++ more) failed.0 failed.1 in
      let long = length-append history more in
      ⊎_elim (λ before. inl (failed.0, sym (reply-append base history more failed.0 before) ∙ failed.1))
      (λ last. let at : failed.0 ≡ length history = omega arith in inr (rw (sym at, failed.1) refl))
      (cases_lt failed.0 (length history))

  added_few : (entry : Entry) (want : Want) → length (added entry want) ≤ 1
  added_few entry Spared = omega arith
  added_few entry Unshown = omega arith
  added_few entry Unmade = omega arith

  pub failed-more : (history : History) (entry : Entry) (want : Want) → HasFailed base (history ++ added entry want)
      → HasFailed base history ⊎ (fails_at base (history ++ added entry want) (length history) ≡ true)
  failed-more history entry want = failed_split history (added entry want) (added_few entry want)

  -- whether one was answered so, as an entry more comes that wasn't
  pub tells-more : (history after : History) (entry : Entry) (want : Want) → after ≡ history ++ added entry want → (failed : Bool) → TellsFailure failed base history
      → fails_at base after (length history) ≡ false → TellsFailure failed base after
  tells-more history after entry want grown true before none = rw grown (failed-kept history (added entry want) before)
  tells-more history after entry want grown false before none =
      λ failed. ⊎_elim before (λ last. let other = rw grown at none in let never : ⊥ = cc in absurd never) (failed-more history entry want (rw grown at failed))
