-- What a crash leaves of a journal that keeps a database.
use Rattle.std.proofs.Common.{◌≡◌, ◌∙◌, ℕ, List, [], ◌∷◌, subst, sym}
use Rattle.own_base.specs.declared.number.Area.{Area}
use Rattle.own_base.specs.declared.number.Area.TheVariants.{A, B}
use Rattle.own_model.specs.Db.{Db}
use Rattle.outer_world.specs.OtherArea.{bytes_in, other_of}
use Rattle.crash_model.specs.StoreIn.{IsStoreIn}
use Rattle.crash_model.proofs.StoreLemmas.{represented-store}
use Rattle.commit_journal.specs.declared.journal.Journal.{Journal}
use Rattle.commit_journal.proofs.AreaBytes.{closed_gate, represent_in, shut_below}
use Rattle.commit_journal.proofs.Steps.{left_in, synced_in}
use Rattle.disk_model.specs.Area.{IsBelow, Says}
use Rattle.store_disk.specs.Kept.{IsKept}

-- the store of that database
pub kept-left : {D : Type 0} (holds : D → Area → List ℕ) (leaves : D → Area → List ℕ → Type 0) (journal : Journal D) (db : Db) (number : ℕ) → IsKept holds leaves journal db number
    → (a b : List ℕ) → leaves journal.disk A a → leaves journal.disk B b → IsStoreIn a b db number
kept-left holds leaves journal db number kept a b in_a in_b =
    let area = journal.area in
    let rests = kept.rests in
    let here = (synced_in holds leaves journal.disk area rests.synced).only (bytes_in area a b) (left_in holds leaves journal.disk area a b in_a in_b) in
    let other = other_of area in
    let beside = (synced_in holds leaves journal.disk other rests.synced).only (bytes_in other a b) (left_in holds leaves journal.disk other a b in_a in_b) in
    represented-store a b kept.stored kept.image kept.behind db number
    (represent_in area kept.stored a b (subst (λ bytes. Says bytes kept.stored) (sym here) rests.says)
    (subst (λ bytes. IsBelow bytes kept.stored.epoch) (sym (beside ∙ rests.beside)) (shut_below (0 ∷ []) kept.stored.epoch closed_gate)))
    kept.stored_as kept.store
