-- What entries more do to a history.
use Rattle.std.proofs.Common.{◌≡◌, ℕ, ◌<◌, ◌≤◌, [], ◌∷◌, ◌++◌, length, take, refl, ap, sym, ◌∙◌, ◌+◌, arith}
use Rattle.std.specs.Prelude.{Some, fold, slice_index_or}
use Rattle.std.proofs.lemmas.List.{length-take-le, take-append-le, take_more}
use Rattle.std.proofs.lemmas.List.Sums.{fold-append}
use Rattle.std.proofs.Math.Seq.{take-append_seam, take-length}
use Rattle.own_model.specs.declared.history.Entry.{Entry}
use Rattle.own_model.specs.Db.{Db}
use Rattle.schema_model.proofs.Places.{slice_get-append_below, slice_get-push}
use Rattle.history_model.specs.History.{History, flat, flat_after, happens, reply, standing, world}
use Rattle.history_model.specs.Reply.{answer}
use Rattle.history_model.specs.World.{World, start}

-- before any entry
pub world-empty : (base : Db) → world base [] ≡ start base
unfolding world
world-empty base = refl

-- the world after one entry more
pub world-append : (base : Db) (history : History) (entry : Entry) → world base (history ++ entry ∷ []) ≡ happens (world base history) entry
unfolding world
world-append base history entry = fold-append happens (start base) history (entry ∷ [])

-- the flat database is that of the world
pub flat-world : (base : Db) (history : History) → flat base history ≡ (world base history).flat
unfolding flat
flat-world base history = refl

-- and so is how a session stands
pub standing-world : (base : Db) (history : History) (session : ℕ) → standing base history session ≡ (world base history).standing session
unfolding standing
standing-world base history session = refl

-- the flat database after one entry more
pub flat-append : (base : Db) (history : History) (entry : Entry)
    → flat base (history ++ entry ∷ []) ≡ flat_after (world base history) entry (answer (world base history) entry)
unfolding flat
flat-append base history entry = ap (λ world. world.flat) (world-append base history entry)

-- how a session stands after one entry more
pub standing-append : (base : Db) (history : History) (entry : Entry) (session : ℕ)
    → standing base (history ++ entry ∷ []) session ≡ (happens (world base history) entry).standing session
unfolding standing
standing-append base history entry session = ap (λ world. world.standing session) (world-append base history entry)

place_fold : (before : World) (history : History) → (fold happens before history).place ≡ before.place + length history
place_fold before [] = omega arith
place_fold before (entry ∷ history) = let more = place_fold (happens before entry) history in omega arith

-- there are as many places as entries
pub place-world : (base : Db) (history : History) → (world base history).place ≡ length history
unfolding world
place-world base history = let long = place_fold (start base) history in omega arith

-- the reply to the last entry
pub reply-last : (base : Db) (history : History) (entry : Entry)
    → reply base (history ++ entry ∷ []) (length history) ≡ Some (answer (world base history) entry)
unfolding reply
reply-last base history entry = rw (take-append_seam, slice_get-push) refl

-- replies don't change when the history grows
pub reply-append : (base : Db) (history more : History) (place : ℕ) → place < length history → reply base (history ++ more) place ≡ reply base history place
unfolding reply
reply-append base history more place lt =
    let le : place ≤ length history = omega arith in
    rw (take-append-le place history more le, slice_get-append_below history more place lt) refl

-- a history is its front and its last entry
pub last_of : (history : History) (last : ℕ) (entry : Entry) → length history ≡ last + 1 → entry ≡ slice_index_or history last entry
    → take last history ++ entry ∷ [] ≡ history
last_of history last entry long is =
    let lt : last < length history = omega arith in
    ap (λ e. take last history ++ e ∷ []) is ∙ (sym (take_more history last entry lt) ∙ (ap (λ n. take n history) (sym long) ∙ take-length history))

-- the world of a history by its last entry
pub world-by_last : (base : Db) (history : History) (last : ℕ) (entry : Entry) → length history ≡ last + 1 → entry ≡ slice_index_or history last entry
    → world base history ≡ happens (world base (take last history)) entry
world-by_last base history last entry long is =
    ap (world base) (sym (last_of history last entry long is)) ∙ world-append base (take last history) entry

-- its flat database
pub flat-by_last : (base : Db) (history : History) (last : ℕ) (entry : Entry) → length history ≡ last + 1 → entry ≡ slice_index_or history last entry
    → flat base history ≡ flat_after (world base (take last history)) entry (answer (world base (take last history)) entry)
flat-by_last base history last entry long is =
    ap (flat base) (sym (last_of history last entry long is)) ∙ flat-append base (take last history) entry

-- the reply to the last entry
pub reply-by_last : (base : Db) (history : History) (last : ℕ) (entry : Entry) → length history ≡ last + 1 → entry ≡ slice_index_or history last entry
    → reply base history last ≡ Some (answer (world base (take last history)) entry)
reply-by_last base history last entry long is =
    let front = length-take-le last history (omega arith) in
    ap (λ h. reply base h last) (sym (last_of history last entry long is))
    ∙ (ap (λ n. reply base (take last history ++ entry ∷ []) n) (sym front) ∙ reply-last base (take last history) entry)
