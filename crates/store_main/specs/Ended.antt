-- What the program did.
use Rattle.std.specs.Prelude.{◌≡◌, ◌⊎◌, ℕ, List, Bool, true, Option, None, Some}
use Rattle.own_model.specs.Db.{Db, empty}
use Rattle.history_model.specs.History.{History}
use Rattle.store_top.specs.declared.served.TopFault.{TopFault}
use Rattle.store_top.specs.declared.served.TopFault.TheVariants.{Usage, Disk, Memory}
use Rattle.store_words.specs.declared.words.Mode.{Mode}
use Rattle.store_top.specs.RanAs.{RanAs}

-- No store was opened, or one without a table.
abbrev pub IsFresh : Option Db → Type 0
IsFresh None = Unit {0}
IsFresh (Some base) = base ≡ empty

-- A run over some store did this, by its mode; the one in memory is empty at first.
pub record RanOver {R W : Type 0} (remaining : R → Option (List ℕ)) (reads : R → ℕ) (read_fails : R → R → Type 0)
    (written : W → Option (List ℕ)) (writes : W → ℕ) (write_fails : W → W → Type 0)
    (in_memory : Bool) (mode : Option Mode) (source_old source_new : R) (sink_old sink_new : W) (fault : Option TopFault) : Type 0 where
  pub opened : Option Db
  pub history : History
  pub fresh : in_memory ≡ true → IsFresh opened
  pub ran : RanAs remaining reads read_fails written writes write_fails source_old source_new sink_old sink_new opened history fault mode

-- The files of a folder could not be opened, and nothing was read or written.
pub record IsWithoutFiles {R W : Type 0} (source_old source_new : R) (sink_old sink_new : W) (fault : Option TopFault) : Type 0 where
  pub told : fault ≡ Some Disk
  pub unread : source_new ≡ source_old
  pub unwritten : sink_new ≡ sink_old

-- the faults of words that aren't served
abbrev pub IsOfWords : Option TopFault → Type 0
IsOfWords fault = (fault ≡ Some Usage) ⊎ (fault ≡ Some Memory)
