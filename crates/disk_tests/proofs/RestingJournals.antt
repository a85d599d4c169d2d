-- Journals that still rest with something after a call.
use Rattle.std.proofs.Common.{ℕ, List}
use Rattle.std.specs.Prelude.{Result, Ok, Err, OnOk}
use Rattle.own_base.specs.declared.number.Area.{Area}
use Rattle.disk_model.specs.Area.{Stored}
use Rattle.commit_journal.specs.JournalState.{IsAtRest, Rests}
use Rattle.commit_journal.specs.declared.journal.Journal.{Journal}

module _ {D R E : Type 0} (holds : D → Area → List ℕ) (leaves : D → Area → List ℕ → Type 0) (Honest : Type 0) (honest : Honest) where
  -- with a change of what it rested with
  pub changed_rests : (old new : Journal D) (change : Stored → Stored) (result : Result R E)
      → OnOk result ((stored : Stored) → Honest → Rests holds leaves old stored → Rests holds leaves new (change stored))
      → IsAtRest holds leaves old → OnOk result (IsAtRest holds leaves new)
  changed_rests old new change (Ok value) changes rest = record { stored = change rest.stored; rests = changes rest.stored honest rest.rests }
  changed_rests old new change (Err e) changes rest = tt

  -- with another
  pub other_rests : (new : Journal D) (stored : Stored) (result : Result R E)
      → OnOk result (Honest → Rests holds leaves new stored) → OnOk result (IsAtRest holds leaves new)
  other_rests new stored (Ok value) rests = record { stored = stored; rests = rests honest }
  other_rests new stored (Err e) rests = tt
