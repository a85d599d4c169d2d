-- What is left where something is prepared, by what the disk said of it.
use Rattle.std.proofs.Common.{◌≡◌, ◌≢◌, ◌+◌, ℕ, List, true, false, None, Some, inl, inr, refl, subst, sym}
use Rattle.std.specs.Prelude.{◌⊎◌, Bool, Option, is_some}
use Rattle.own_base.specs.declared.number.Area.{Area}
use Rattle.own_base.specs.declared.number.Area.TheVariants.{A, B}
use Rattle.own_model.specs.declared.history.Verdict.{Verdict}
use Rattle.own_model.specs.declared.history.Verdict.TheVariants.{Took, DiskFault, NoRoom}
use Rattle.own_model.specs.Db.{Db}
use Rattle.store_disk.specs.declared.store_disk.StoreDisk.{StoreDisk}
use Rattle.engine_core.specs.Answered.{IsPrepared, MayBeLeft, behind_by, is_anew, is_laid, left, size_of, write_size}
use Rattle.engine_core.specs.Stored.{Carries, IsUp}
use Rattle.engine_core.specs.declared.prepared.Prepared.{Prepared}
use Rattle.engine_core.proofs.Carried.{carries-same}

-- what isn't something is nothing
pub none-prepared : (next : Option Prepared) → ((prepared : Prepared) → next ≡ Some prepared → ⊥) → next ≡ None
none-prepared None not = refl
none-prepared (Some prepared) not = absurd (not prepared refl)

-- what is prepared may be left
pub prepared-is : (db : Db) (next : Option Prepared) (prepared : Prepared) → next ≡ Some prepared → MayBeLeft db next → IsPrepared db prepared
prepared-is db next prepared is may = subst (MayBeLeft db) is may

-- the disk failed, or has no room
pub refused-verdict : (verdict : Verdict) → (verdict ≡ DiskFault) ⊎ (verdict ≡ NoRoom) → verdict ≢ Took
refused-verdict verdict (inl fault) took = absurd (cc)
refused-verdict verdict (inr room) took = absurd (cc)

module _ {D : Type 0} (holds : D → Area → List ℕ) (leaves : D → Area → List ℕ → Type 0) (moment : D → ℕ) (might_have_left : D → ℕ → List ℕ → List ℕ → Type 0) (honest : D → Bool) (faults : D → ℕ)
    (store : StoreDisk D) (db : Db) (next : Option Prepared) where
  -- where nothing is prepared the disk isn't asked
  pub carries-none : ((disk : D) (a b : List ℕ) → might_have_left disk (moment disk) a b → leaves disk A a × leaves disk B b) → IsUp holds leaves honest store db → next ≡ None
      → Carries holds leaves moment might_have_left honest faults db (left db next) (is_some next) (is_some next) (is_laid next) (write_size (store.commits + 1) next) store Took store
  carries-none only_now up none =
      subst (λ next. Carries holds leaves moment might_have_left honest faults db (left db next) (is_some next) (is_some next) (is_laid next) (write_size (store.commits + 1) next) store Took store) (sym none)
      (carries-same holds leaves moment might_have_left only_now honest faults store db db false false up refl refl refl)

  -- else it is asked to take what that writes
  pub carries-some : (prepared : Prepared) (verdict : Verdict) (new : StoreDisk D) → next ≡ Some prepared
      → Carries holds leaves moment might_have_left honest faults db (behind_by db prepared.state) true true (is_anew prepared.state) (size_of (store.commits + 1) prepared.state prepared.bytes) store verdict new
      → Carries holds leaves moment might_have_left honest faults db (left db next) (is_some next) (is_some next) (is_laid next) (write_size (store.commits + 1) next) store verdict new
  carries-some prepared verdict new is carries =
      subst (λ next. Carries holds leaves moment might_have_left honest faults db (left db next) (is_some next) (is_some next) (is_laid next) (write_size (store.commits + 1) next) store verdict new) (sym is) carries
