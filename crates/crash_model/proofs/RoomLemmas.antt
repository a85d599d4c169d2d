-- Where a journal stands behind a history that grows, and where there was no room.
use Rattle.std.proofs.Common.{◌≡◌, ℕ, ◌+◌, List, [], ◌∷◌, ◌++◌, Bool, true, false, length, take, fold, refl, ap, sym, subst, ◌∙◌, arith}
use Rattle.std.specs.Prelude.{Option, Some, if◌then◌else◌, nat_lt, slice_get}
use Rattle.std.proofs.lemmas.Bool.{ltb-false, ltb-true}
use Rattle.std.proofs.lemmas.List.{length-append, take-append-le}
use Rattle.std.proofs.lemmas.Option.{slice_get_within}
use Rattle.std.proofs.Math.Seq.{take-append_seam}
use Rattle.own_model.specs.declared.history.Entry.{Entry}
use Rattle.own_model.specs.declared.history.Verdict.{Verdict}
use Rattle.own_model.specs.Db.{Db}
use Rattle.schema_model.proofs.Places.{slice_get-append_below, slice_get-push}
use Rattle.history_model.specs.AsksDisk.{asks_disk, under}
use Rattle.history_model.specs.Commits.{commits, commits_from, is_commit}
use Rattle.history_model.specs.History.{History, happens, world}
use Rattle.history_model.specs.Reply.{answer}
use Rattle.history_model.specs.World.{World, start}
use Rattle.crash_model.specs.Room.{IsNoRoomExact, IsNoRoomExactAt, JournalEnd, bytes_written, journal_after, journal_behind, journal_from}

-- a place, where it is that of a commit, is one more
long_if : (is : Bool) (place : ℕ) (places : List ℕ) → length ((if is then place ∷ [] else []) ++ places) ≡ (if is then 1 else 0) + length places
long_if true place places = omega arith
long_if false place places = omega arith

journal_last : (history : History) (at : JournalEnd) (world : World) (number : ℕ) (entry : Entry)
    → journal_from at world number (history ++ entry ∷ []) ≡ journal_after (journal_from at world number history) (fold happens world history) (number + length (commits_from world history)) entry
journal_last [] at world number entry = let same : number ≡ number + 0 = omega arith in ap (λ number. journal_after at world number entry) same
journal_last (first ∷ history) at world number entry =
    let grown : ℕ = if is_commit world first (answer world first) then 1 else 0 in
    let next = journal_after at world number first in
    let long = long_if (is_commit world first (answer world first)) world.place (commits_from (happens world first) history) in
    let same : (number + grown) + length (commits_from (happens world first) history) ≡ number + length (commits_from world (first ∷ history)) = omega arith in
    journal_last history next (happens world first) (number + grown) entry
    ∙ ap (λ whole. journal_after (journal_from next (happens world first) (number + grown) history) (fold happens (happens world first) history) whole entry) same

-- the journal behind an entry more
pub journal-append : (at : JournalEnd) (base : Db) (number : ℕ) (history : History) (entry : Entry)
    → journal_behind at base number (history ++ entry ∷ []) ≡ journal_after (journal_behind at base number history) (world base history) (number + length (commits base history)) entry
unfolding journal_behind commits world
journal-append at base number history entry = journal_last history at (start base) number entry

pub journal-none : (at : JournalEnd) (base : Db) (number : ℕ) → journal_behind at base number [] ≡ at
unfolding journal_behind
journal-none at base number = refl

-- what an entry asks and writes isn't by what the disk said
pub asks-under : (world : World) (verdict : Verdict) (entry : Entry) → asks_disk world (under verdict entry) ≡ asks_disk world entry
unfolding asks_disk
asks-under world verdict entry = refl

pub bytes-under : (world : World) (verdict : Verdict) (entry : Entry) (number : ℕ) → bytes_written world (under verdict entry) number ≡ bytes_written world entry number
unfolding asks_disk bytes_written
bytes-under world verdict entry number = refl

-- no entry found no room
pub exact-none : (at : JournalEnd) (base : Db) (number : ℕ) → IsNoRoomExact at base number []
exact-none at base number place entry is = absurd (cc)

-- with an entry more, where that is so of it
module _ (at : JournalEnd) (base : Db) (number : ℕ) (history : History) (entry : Entry) (exact : IsNoRoomExact at base number history) (last : IsNoRoomExactAt at base number history entry) where
  by_place : (place : ℕ) (found : Entry) (before : Bool) → nat_lt place (length history) ≡ before → slice_get (history ++ entry ∷ []) place ≡ Some found
      → IsNoRoomExactAt at base number (take place (history ++ entry ∷ [])) found
  by_place place found true before is =
      let within = ltb-true place (length history) before in
      subst (λ front. IsNoRoomExactAt at base number front found) (sym (take-append-le place history (entry ∷ []) (omega arith)))
      (exact place found (sym (slice_get-append_below history (entry ∷ []) place within) ∙ is))
  by_place place found false before is =
      let past = ltb-false place (length history) before in
      let within = slice_get_within (history ++ entry ∷ []) place found is in
      let long = length-append history (entry ∷ []) in
      let same : length history ≡ place = omega arith in
      let found_is : ◌≡◌ {A = Option Entry} (Some entry) (Some found) = sym (slice_get-push history entry) ∙ (ap (slice_get (history ++ entry ∷ [])) same ∙ is) in
      let is_last : entry ≡ found = cc in
      subst (λ place. IsNoRoomExactAt at base number (take place (history ++ entry ∷ [])) found) same
      (subst (λ front. IsNoRoomExactAt at base number front found) (sym (take-append_seam history (entry ∷ [])))
      (subst (IsNoRoomExactAt at base number history) is_last last))

  pub exact-more : IsNoRoomExact at base number (history ++ entry ∷ [])
  exact-more place found is = by_place place found (nat_lt place (length history)) refl is
