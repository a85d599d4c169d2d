-- What calls do to the disk, one after another.
use Rattle.std.proofs.Common.{◌≡◌, ℕ, zero, suc, ◌<◌, ◌⊎◌, List, [], ◌∷◌, ◌++◌, Bool, true, false, IsTrue, length, get_or, inl, inr, refl, sym, subst, ◌∙◌, arith}
use Rattle.std.specs.Prelude.{Contains}
use Rattle.std.proofs.lemmas.List.Elements.{Contains-append_cases}
use Rattle.own_base.specs.declared.number.Area.{Area}
use Rattle.own_base.specs.declared.number.Area.TheVariants.{A, B}
use Rattle.outer_world.specs.FaultCount.{CountRose}
use Rattle.outer_world.specs.LeavesOnly.{LeavesOnly}
use Rattle.outer_world.proofs.Moments.{begun, then, weaker}
use Rattle.own_model.specs.declared.history.Entry.{Entry}
use Rattle.own_model.specs.declared.history.Verdict.TheVariants.{DiskFault}
use Rattle.own_model.specs.Db.{Db}
use Rattle.state_model.specs.Sound.{Sound}
use Rattle.history_model.specs.History.{History}
use Rattle.history_model.specs.Made.{Want, added}
use Rattle.history_model.specs.Serial.{IsHistory}
use Rattle.crash_model.specs.LeftBy.{IsLeftOf}
use Rattle.crash_model.specs.StoreIn.{IsStoreIn}
use Rattle.crash_model.proofs.LeftLemmas.{left-more, left-now, whole-none}
use Rattle.crash_model.specs.MovesDisk.{IsLeftByEither}
use Rattle.history_model.specs.Fails.{HasFailed, TellsFailure, fails_at}
use Rattle.crash_model.specs.MovesDisk.{MovesDisk, MovesDiskOnce}
use Rattle.history_model.proofs.Failures.{failed-at, failed-kept, failed-more, none-failed}

-- of a history with one entry more
pub among-more : (history : History) (last entry : Entry) → Contains (history ++ last ∷ []) entry → Contains history entry ⊎ (last ≡ entry)
among-more history last entry among = elim (Contains-append_cases history (last ∷ []) entry among) [
  | inl before ↦ inl before
  | inr behind ↦ inr (only behind.0 behind.1 behind.2)
]
  where
    only : (n : ℕ) → n < length (last ∷ []) → get_or (last ∷ []) n entry ≡ entry → last ≡ entry
    only zero within is = is
    only (suc n) within is = absurd (omega arith)

-- and of one without any
among-none : (entry : Entry) → Contains [] entry → ⊥
among-none entry among = let within = among.1 in absurd (omega arith)

module _ {D : Type 0} (leaves : D → Area → List ℕ → Type 0) (moment : D → ℕ) (might : D → ℕ → List ℕ → List ℕ → Type 0)
    (only_now : (disk : D) (a b : List ℕ) → might disk (moment disk) a b → leaves disk A a × leaves disk B b)
    (honest : D → Bool) (faults : D → ℕ) (base : Db) (start : ℕ) (sound : Sound base) where
  -- none was made yet
  pub moves-none : (disk : D) → (IsTrue (honest disk) → (a b : List ℕ) → leaves disk A a → leaves disk B b → IsStoreIn a b base start)
      → MovesDisk moment might honest faults base start [] disk disk
  moves-none disk left = record {
    honesty = refl;
    time = omega arith;
    risen = omega arith;
    rose = λ failed. absurd (none-failed base failed);
    steady = λ none. refl;
    told = λ entry among failed. absurd (among-none entry among);
    moments = λ can. begun leaves moment might only_now disk (IsLeftOf base start [])
        (λ a b in_a in_b. left-now base start a b [] sound tt (inl (whole-none base start a b (left can a b in_a in_b))));
  }

  module _ (history after : History) (entry : Entry) (want : Want) (grown : after ≡ history ++ added entry want) (entered : IsHistory history) (entered_after : IsHistory after)
      (old mid new : D) (so_far : MovesDisk moment might honest faults base start history old mid) (step : MovesDiskOnce moment might honest faults base start history after mid new) where
    -- what was left of the history before is left of it now
    left_still : (a b : List ℕ) → IsLeftOf base start history a b → IsLeftOf base start after a b
    left_still a b left = rw grown (left-more base start a b history (added entry want) left)

    left_either : (a b : List ℕ) → IsLeftByEither base start history after a b → IsLeftOf base start after a b
    left_either a b (inl before) = left_still a b (left-now base start a b history sound entered before)
    left_either a b (inr now) = left-now base start a b after sound entered_after now

    since_then : (new ≡ mid) ⊎ LeavesOnly moment might (IsLeftByEither base start history after) mid new
        → LeavesOnly moment might (IsLeftOf base start after) old mid → LeavesOnly moment might (IsLeftOf base start after) old new
    since_then (inl same) past = rw same past
    since_then (inr only) past =
        then leaves moment might only_now old mid new (IsLeftOf base start after) past
        (weaker leaves moment might only_now mid new (IsLeftByEither base start history after) (IsLeftOf base start after) left_either only)

    rose_by : HasFailed base history ⊎ (fails_at base after (length history) ≡ true) → CountRose (faults old) (faults new)
    rose_by (inl before) = let rose = so_far.rose before in let risen = step.risen in λ far. let near = rose (omega arith) in omega arith
    rose_by (inr last) = let rose = step.rose last in let risen = so_far.risen in λ far. let near = rose far in omega arith

    told_by : (said : Entry) → Contains history said ⊎ CountRose (faults mid) (faults new) → said.verdict ≡ DiskFault → CountRose (faults old) (faults new)
    told_by said (inl before) failed = let rose = so_far.told said before failed in let risen = step.risen in λ far. let near = rose (omega arith) in omega arith
    told_by said (inr rose) failed = let risen = so_far.risen in λ far. let near = rose far in omega arith

    steady_by : TellsFailure false base after → (is : Bool) → fails_at base after (length history) ≡ is → faults new ≡ faults old
    steady_by none true is = absurd (none (failed-at base after (length history) is))
    steady_by none false is = step.steady is ∙ so_far.steady (λ failed. none (rw grown (failed-kept base history (added entry want) failed)))

    -- one more was
    pub moves-more : MovesDisk moment might honest faults base start after old new
    moves-more =
        let time_before = so_far.time in
        let time_then = step.time in
        let risen_before = so_far.risen in
        let risen_then = step.risen in
        record {
          honesty = step.honesty ∙ so_far.honesty;
          time = omega arith;
          risen = omega arith;
          rose = λ failed. rose_by (rw grown (failed-more base history entry want (rw grown at failed)));
          steady = λ none. steady_by none _ refl;
          told = λ said among failed. told_by said (step.told said among failed) failed;
          moments = λ can. since_then (step.moments (subst IsTrue (sym so_far.honesty) can))
              (weaker leaves moment might only_now old mid (IsLeftOf base start history) (IsLeftOf base start after) left_still (so_far.moments can));
        }
