-- Two areas that hold nothing but a database, and whether a history that grows laid the store anew.
use Rattle.std.proofs.Common.{◌≡◌, ◌∙◌, ℕ, List, [], ◌∷◌, ◌++◌, Bool, false, fold, refl, sym}
use Rattle.own_base.specs.declared.number.Area.{Area}
use Rattle.own_base.specs.declared.number.Area.TheVariants.{A, B}
use Rattle.own_model.specs.declared.history.Entry.{Entry}
use Rattle.own_model.specs.Db.{Db}
use Rattle.history_model.specs.History.{History, happens, world}
use Rattle.history_model.specs.World.{World, start}
use Rattle.crash_model.specs.Alone.{IsAlone, is_laid_behind, laid_after, laid_from}

-- they have the bytes that follow from it
pub alone-equal : (db : Db) (number epoch : ℕ) (area : Area) (a b other_a other_b : List ℕ) → IsAlone db number epoch area a b → IsAlone db number epoch area other_a other_b
    → (a ≡ other_a) × (b ≡ other_b)
alone-equal db number epoch A a b other_a other_b one other = (one.here ∙ sym other.here, one.beside ∙ sym other.beside)
alone-equal db number epoch B a b other_a other_b one other = (one.beside ∙ sym other.beside, one.here ∙ sym other.here)

laid_last : (history : History) (was : Bool) (world : World) (entry : Entry) → laid_from was world (history ++ entry ∷ []) ≡ laid_after (laid_from was world history) (fold happens world history) entry
laid_last [] was world entry = refl
laid_last (first ∷ history) was world entry = laid_last history (laid_after was world first) (happens world first) entry

-- behind an entry more
pub laid-append : (base : Db) (history : History) (entry : Entry) → is_laid_behind base (history ++ entry ∷ []) ≡ laid_after (is_laid_behind base history) (world base history) entry
unfolding is_laid_behind world
laid-append base history entry = laid_last history false (start base) entry

-- before any entry nothing was written
pub laid-none : (base : Db) → is_laid_behind base [] ≡ false
unfolding is_laid_behind
laid-none base = refl
