-- What a run did, by its mode.
use Rattle.std.proofs.Common.{◌≡◌, ℕ, List, refl}
use Rattle.std.specs.Prelude.{Option, None, Some}
use Rattle.own_model.specs.Db.{Db}
use Rattle.history_model.specs.History.{History}
use Rattle.store_words.specs.declared.words.Mode.{Mode}
use Rattle.store_words.specs.declared.words.Mode.TheVariants.{Step, Serve, Make}
use Rattle.store_top.specs.declared.served.TopFault.TheVariants.{Memory}
use Rattle.store_top.specs.RanAs.{RanAs}
use Rattle.store_top.specs.Top.{IsUnserved}
use Rattle.store_top.proofs.RanLemmas.{ran-out_of_memory}
use Rattle.store_top.proofs.RanMadeLemmas.{ran_made-out_of_memory}

module _ {R W : Type 0} (remaining : R → Option (List ℕ)) (reads : R → ℕ) (read_fails : R → R → Type 0) (written : W → Option (List ℕ)) (writes : W → ℕ) (write_fails : W → W → Type 0)
    (source : R) (sink_old sink_new : W) (opened : Option Db) (history : History) (untouched : IsUnserved sink_old sink_new opened history) where
  -- memory was refused before anything was read
  pub ran_as-out_of_memory : (mode : Option Mode) → RanAs remaining reads read_fails written writes write_fails source source sink_old sink_new opened history (Some Memory) mode
  ran_as-out_of_memory None = ran-out_of_memory remaining reads read_fails writes write_fails source source sink_old sink_new history _ _ _ opened untouched refl
  ran_as-out_of_memory (Some Step) = ran-out_of_memory remaining reads read_fails writes write_fails source source sink_old sink_new history _ _ _ opened untouched refl
  ran_as-out_of_memory (Some Serve) = ran-out_of_memory remaining reads read_fails writes write_fails source source sink_old sink_new history _ _ _ opened untouched refl
  ran_as-out_of_memory (Some (Make people seed)) = (ran_made-out_of_memory written writes write_fails people seed sink_old sink_new history opened untouched, refl)
