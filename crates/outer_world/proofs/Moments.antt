-- How what crashes leave goes on from call to call.
use Rattle.std.proofs.Common.{ℕ, inl, inr, ⊎_elim, List, arith}
use Rattle.own_base.specs.declared.number.Area.{Area}
use Rattle.own_base.specs.declared.number.Area.TheVariants.{A, B}
use Rattle.outer_world.specs.Elapses.{Elapses}
use Rattle.outer_world.specs.LeavesOnly.{LeavesOnly}

module _ {D : Type 0} (leaves : D → Area → List ℕ → Type 0) (moment : D → ℕ) (might : D → ℕ → List ℕ → List ℕ → Type 0) (only_now : (disk : D) (a b : List ℕ) → might disk (moment disk) a b → leaves disk A a × leaves disk B b) where
  -- at first there is what a crash may leave now
  pub begun : (disk : D) (P : List ℕ → List ℕ → Type 0) → ((a b : List ℕ) → leaves disk A a → leaves disk B b → P a b) → LeavesOnly moment might P disk disk
  begun disk P now = record {
    later = omega arith;
    between = λ a b left. let both = only_now disk a b left in now a b both.0 both.1;
    earlier = λ since a b before left. inl left;
  }

  -- a call more
  pub goes_on : (start old new : D) (P : List ℕ → List ℕ → Type 0) → LeavesOnly moment might P start old → Elapses leaves moment might old new
      → ((a b : List ℕ) → leaves new A a → leaves new B b → P a b) → LeavesOnly moment might P start new
  goes_on start old new P so_far elapses now =
      let later = so_far.later in
      let further = elapses.later in
      record {
        later = omega arith;
        between = λ a b left. ⊎_elim (λ past. so_far.between a b past) (λ both. now a b both.0 both.1) (elapses.nothing_else (moment start) a b later left);
        earlier = λ since a b before left. ⊎_elim (λ past. so_far.earlier since a b before past) (λ both. inr (now a b both.0 both.1)) (elapses.nothing_else since a b (omega arith) left);
      }

  -- a run of calls more
  pub then : (start old new : D) (P : List ℕ → List ℕ → Type 0) → LeavesOnly moment might P start old → LeavesOnly moment might P old new → LeavesOnly moment might P start new
  then start old new P first second =
      let later = first.later in
      let further = second.later in
      record {
        later = omega arith;
        between = λ a b left. ⊎_elim (λ past. first.between a b past) (λ more. more) (second.earlier (moment start) a b later left);
        earlier = λ since a b before left. ⊎_elim (λ past. first.earlier since a b before past) (λ more. inr more) (second.earlier since a b (omega arith) left);
      }

  -- of which less is said
  pub weaker : (start new : D) (P Q : List ℕ → List ℕ → Type 0) → ((a b : List ℕ) → P a b → Q a b) → LeavesOnly moment might P start new → LeavesOnly moment might Q start new
  weaker start new P Q to_q leaves_p = record {
    later = leaves_p.later;
    between = λ a b left. to_q a b (leaves_p.between a b left);
    earlier = λ since a b before left. ⊎_elim (λ past. inl past) (λ more. inr (to_q a b more)) (leaves_p.earlier since a b before left);
  }
