-- What the program did where no run was made, and what a run over an empty disk did.
use Rattle.std.proofs.Common.{◌≡◌, ℕ, ◌<◌, List, [], ◌∷◌, Bool, IsTrue, length, inl, inr, refl, arith}
use Rattle.std.specs.Prelude.{Option, None, Some}
use Rattle.own_base.specs.declared.number.Area.{Area}
use Rattle.own_base.specs.declared.number.Area.TheVariants.{A, B}
use Rattle.own_model.specs.Db.{Db, empty}
use Rattle.history_model.specs.History.{History}
use Rattle.disk_model.specs.Area.{IsOpened}
use Rattle.crash_model.specs.StoreIn.{IsStoreIn}
use Rattle.store_top.specs.declared.served.TopFault.{TopFault}
use Rattle.store_top.specs.declared.served.TopFault.TheVariants.{Usage, Memory}
use Rattle.store_top.specs.OnDisk.{IsServedOver, OnDiskBy}
use Rattle.store_words.specs.declared.words.Mode.{Mode}
use Rattle.store_words.specs.declared.words.Mode.TheVariants.{Make, Serve, Step}
use Rattle.store_top.specs.RanAs.{IsWholeAs, RanAs, ServedAs}
use Rattle.store_top.proofs.RanLemmas.{ran-usage}
use Rattle.store_top.proofs.RanAsLemmas.{ran_as-out_of_memory}
use Rattle.store_main.specs.Ended.{IsFresh, RanOver}
use Rattle.store_main.specs.Words.{served_mode}

module _ {R W : Type 0} (remaining : R → Option (List ℕ)) (reads : R → ℕ) (read_fails : R → R → Type 0)
    (written : W → Option (List ℕ)) (writes : W → ℕ) (write_fails : W → W → Type 0) (in_memory : Bool) (source : R) (sink : W) where
  -- the words were no mode's
  pub over-usage : RanOver remaining reads read_fails written writes write_fails in_memory None source source sink sink (Some Usage)
  over-usage = record {
    opened = None;
    history = [];
    fresh = λ is. tt;
    ran = ran-usage remaining reads read_fails writes write_fails source source sink sink [] _ _ _ None (record { unopened = refl; unwritten = refl; uncalled = refl }) refl;
  }

  -- memory was refused
  pub over-memory : (mode : Option Mode) → RanOver remaining reads read_fails written writes write_fails in_memory mode source source sink sink (Some Memory)
  over-memory mode = record {
    opened = None;
    history = [];
    fresh = λ is. tt;
    ran = ran_as-out_of_memory remaining reads read_fails written writes write_fails source sink sink None [] (record { unopened = refl; unwritten = refl; uncalled = refl }) mode;
  }

-- an area without bytes isn't opened
not_opened : IsOpened [] → ⊥
not_opened opened = let room = opened.room in omega arith

-- two of them hold the empty store
empty_store : (db : Db) (number : ℕ) → IsStoreIn [] [] db number → db ≡ empty
empty_store db number store = elim store.is_judged [
  | inl nothing ↦ (rw nothing.1 at store.is_of).0
  | inr (inl a) ↦ absurd (not_opened a.0)
  | inr (inr (inl b)) ↦ absurd (not_opened b.0)
  | inr (inr (inr both)) ↦ absurd (not_opened both.0)
]

-- what became of an honest disk, whatever the mode
module _ {D : Type 0} (holds : D → Area → List ℕ) (leaves : D → Area → List ℕ → Type 0) (moment : D → ℕ) (might : D → ℕ → List ℕ → List ℕ → Type 0) (old new : D) (history : History) where
  over_as : (mode : Option Mode) (base : Db) → ServedAs holds leaves moment might old new history mode base → IsServedOver holds leaves old new base history
  over_as None base served = served.over
  over_as (Some Step) base served = served.over
  over_as (Some Serve) base served = served.over
  over_as (Some (Make people seed)) base served = served.over

  -- a run over an honest disk without bytes began with no table
  pub fresh-served : (honest : D → Bool) (faults : D → ℕ) (mode : Option Mode) (opened : Option Db) (fault : Option TopFault)
      → OnDiskBy holds leaves moment might honest faults old new opened history (ServedAs holds leaves moment might old new history mode) fault → IsTrue (honest old)
      → holds old A ≡ [] → holds old B ≡ [] → IsFresh opened
  fresh-served honest faults mode None fault on can in_a in_b = tt
  fresh-served honest faults mode (Some base) fault on can in_a in_b =
      let over = over_as mode base (on.served base refl can) in
      empty_store base over.start (rw (in_a, in_b) at over.store)

-- too few words name no mode
pub few_serve_none : (words : List (List ℕ)) → length words < 2 → served_mode words ≡ None
few_serve_none [] few = refl
few_serve_none (name ∷ []) few = refl
few_serve_none (name ∷ store ∷ words) few = let never : ⊥ = omega (arith, few) in absurd never

-- a run without a fault came to its end
pub whole_as : {R W : Type 0} (remaining : R → Option (List ℕ)) (reads : R → ℕ) (read_fails : R → R → Type 0) (written : W → Option (List ℕ)) (writes : W → ℕ) (write_fails : W → W → Type 0)
    (source_old source_new : R) (sink_old sink_new : W) (opened : Option Db) (history : History) (mode : Option Mode)
    → RanAs remaining reads read_fails written writes write_fails source_old source_new sink_old sink_new opened history None mode
    → IsWholeAs (remaining source_old) (remaining source_new) (written sink_old) (written sink_new) opened history mode
whole_as remaining reads read_fails written writes write_fails source_old source_new sink_old sink_new opened history None ran = ran.whole refl
whole_as remaining reads read_fails written writes write_fails source_old source_new sink_old sink_new opened history (Some Step) ran = ran.whole refl
whole_as remaining reads read_fails written writes write_fails source_old source_new sink_old sink_new opened history (Some Serve) ran = ran.whole refl
whole_as remaining reads read_fails written writes write_fails source_old source_new sink_old sink_new opened history (Some (Make people seed)) ran = ran.0.whole refl

-- by what the program did over its store
pub whole-over : {R W : Type 0} (remaining : R → Option (List ℕ)) (reads : R → ℕ) (read_fails : R → R → Type 0) (written : W → Option (List ℕ)) (writes : W → ℕ) (write_fails : W → W → Type 0)
    (in_memory : Bool) (mode : Option Mode) (source_old source_new : R) (sink_old sink_new : W) (fault : Option TopFault)
    → (over : RanOver remaining reads read_fails written writes write_fails in_memory mode source_old source_new sink_old sink_new fault) → fault ≡ None
    → IsWholeAs (remaining source_old) (remaining source_new) (written sink_old) (written sink_new) over.opened over.history mode
whole-over remaining reads read_fails written writes write_fails in_memory mode source_old source_new sink_old sink_new fault over none =
    whole_as remaining reads read_fails written writes write_fails source_old source_new sink_old sink_new over.opened over.history mode (rw none at over.ran)
