-- Calls that change nothing, one after another.
use Rattle.std.proofs.Common.{ℕ, List}
use Rattle.own_base.specs.declared.number.Area.{Area}
use Rattle.own_base.specs.declared.number.Area.TheVariants.{A, B}
use Rattle.outer_world.proofs.Moments.{goes_on, then, weaker}
use Rattle.outer_world.specs.Elapses.{Elapses}
use Rattle.outer_world.specs.Stays.{Stays}
use Rattle.commit_journal.proofs.Steps.{stays_then, synced_stays}
use Rattle.commit_journal.specs.AreaCalls.{AreSynced}
use Rattle.crash_recover.specs.Undisturbed.{IsUndisturbed}

module _ {D : Type 0} (holds : D → Area → List ℕ) (leaves : D → Area → List ℕ → Type 0) (moment : D → ℕ) (might : D → ℕ → List ℕ → List ℕ → Type 0) (only_now : (disk : D) (a b : List ℕ) → might disk (moment disk) a b → leaves disk A a × leaves disk B b) where
  -- a call more
  pub one_more : (start old new : D) → IsUndisturbed holds leaves moment might start old → Stays holds leaves A old new → Stays holds leaves B old new → Elapses leaves moment might old new
      → IsUndisturbed holds leaves moment might start new
  one_more start old new so_far in_a in_b elapses = record {
    a = stays_then holds leaves start old new A so_far.a in_a;
    b = stays_then holds leaves start old new B so_far.b in_b;
    moments = goes_on leaves moment might only_now start old new (λ x y. leaves start A x × leaves start B y) so_far.moments elapses
        (λ x y left_a left_b. (so_far.a.no_more x (in_a.no_more x left_a), so_far.b.no_more y (in_b.no_more y left_b)));
  }

  -- a run of them more
  pub and_then : (start old new : D) → IsUndisturbed holds leaves moment might start old → IsUndisturbed holds leaves moment might old new → IsUndisturbed holds leaves moment might start new
  and_then start old new first second = record {
    a = stays_then holds leaves start old new A first.a second.a;
    b = stays_then holds leaves start old new B first.b second.b;
    moments = then leaves moment might only_now start old new (λ x y. leaves start A x × leaves start B y) first.moments
        (weaker leaves moment might only_now old new (λ x y. leaves old A x × leaves old B y) (λ x y. leaves start A x × leaves start B y)
        (λ x y both. (first.a.no_more x both.0, first.b.no_more y both.1)) second.moments);
  }

  -- what couldn't be lost can't be now
  pub still_synced : (old new : D) → IsUndisturbed holds leaves moment might old new → AreSynced holds leaves old → AreSynced holds leaves new
  still_synced old new kept synced = record {
    a = synced_stays holds leaves old new A synced.a kept.a;
    b = synced_stays holds leaves old new B synced.b kept.b;
  }
