-- How what crashes leave since a moment goes on.
use Rattle.std.proofs.Common.{ℕ, ⊎_elim, List, arith}
use Rattle.own_base.specs.declared.number.Area.{Area}
use Rattle.own_base.specs.declared.number.Area.TheVariants.{A, B}
use Rattle.outer_world.specs.LeavesOnly.{LeavesOnly}
use Rattle.crash_model.specs.LeavesSince.{LeavesSince}

module _ {D : Type 0} (leaves : D → Area → List ℕ → Type 0) (moment : D → ℕ) (might : D → ℕ → List ℕ → List ℕ → Type 0) where
  -- since this very moment a crash leaves what it may leave now
  pub since-now : (disk : D) (P : List ℕ → List ℕ → Type 0) → ((a b : List ℕ) → might disk (moment disk) a b → leaves disk A a × leaves disk B b)
      → ((a b : List ℕ) → leaves disk A a → leaves disk B b → P a b) → LeavesSince moment might (moment disk) P disk
  since-now disk P only_now now = record {
    later = omega arith;
    each = λ a b left. let both = only_now a b left in now a b both.0 both.1;
  }

  -- a run of calls more
  pub since-more : (since : ℕ) (old new : D) (P Q R : List ℕ → List ℕ → Type 0) → LeavesSince moment might since P old → LeavesOnly moment might Q old new
      → ((a b : List ℕ) → P a b → R a b) → ((a b : List ℕ) → Q a b → R a b) → LeavesSince moment might since R new
  since-more since old new P Q R so_far only from_p from_q =
      let before = so_far.later in
      let after = only.later in
      record {
        later = omega arith;
        each = λ a b left. ⊎_elim (λ past. from_p a b (so_far.each a b past)) (λ more. from_q a b more) (only.earlier since a b before left);
      }
