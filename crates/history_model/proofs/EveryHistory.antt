-- Every history on a sound database is serial.
use Rattle.std.proofs.Common.{◌≡◌, ℕ, true, false, zero, suc, List, [], ◌∷◌, ◌++◌, take, refl, ap, sym, subst, ◌∙◌, append_assoc}
use Rattle.std.specs.Prelude.{◌==◌, drop}
use Rattle.std.specs.List.{AllByRecursion}
use Rattle.std.proofs.lemmas.Bool.{ne_eqb}
use Rattle.std.proofs.lemmas.List.{append-nil, take-append-drop}
use Rattle.own_model.specs.declared.history.Entry.{Entry}
use Rattle.own_model.specs.Db.{Db, empty}
use Rattle.state_model.specs.Sound.{Sound}
use Rattle.state_model.proofs.WellFormedLemmas.{sound-empty}
use Rattle.run_model.specs.Agree.{Agree}
use Rattle.history_model.specs.Held.{held, is_open}
use Rattle.history_model.specs.History.{History, dooms, flat, happens, standing, world}
use Rattle.history_model.specs.Reply.{answer}
use Rattle.history_model.specs.Serial.{AreGiven, IsEntry, IsHistory, Serial}
use Rattle.history_model.specs.World.{Block, Open, World, start}
use Rattle.history_model.proofs.BlockLemmas.{given-later}
use Rattle.history_model.proofs.HistoryLemmas.{reply-last, standing-append, world-append, world-empty}
use Rattle.history_model.proofs.SerialLemmas.{held-kept, serial-step}
use Rattle.history_model.proofs.Worlds.{IsSerialWorld, open-block}

each_take : {X : Type 0} (P : X → Type 0) (many : ℕ) (xs : List X) → AllByRecursion P xs → AllByRecursion P (take many xs)
each_take P zero xs all = tt
each_take P (suc many) [] all = tt
each_take P (suc many) (x ∷ xs) all = (all.0, each_take P many xs all.1)

-- before any entry
serial-start : (base : Db) → Sound base → IsSerialWorld base [] (start base)
unfolding held
serial-start base sound = record { sound = sound; stands = λ session. tt; apart = λ session other differs. tt; place = refl }

module _ (base : Db) where
  -- after entries more
  serial-entries : (before more : History) → IsSerialWorld base before (world base before) → IsHistory more → IsSerialWorld base (before ++ more) (world base (before ++ more))
  serial-entries before [] is entered = rw append-nil is
  serial-entries before (entry ∷ more) is entered =
      let now : World = world base before in
      let step = serial-step base before now is entry entered.0 (answer now entry) (reply-last base before entry) refl in
      let after : IsSerialWorld base (before ++ entry ∷ []) (world base (before ++ entry ∷ [])) =
      subst (IsSerialWorld base (before ++ entry ∷ [])) (sym (world-append base before entry)) step in
      subst (λ history. IsSerialWorld base history (world base history)) (append_assoc before (entry ∷ []) more)
      (serial-entries (before ++ entry ∷ []) more after entered.1)

  -- the world that a history leaves
  pub serial-world : (history : History) → Sound base → IsHistory history → IsSerialWorld base history (world base history)
  serial-world history sound entered =
      serial-entries [] history (subst (IsSerialWorld base []) (sym (world-empty base)) (serial-start base sound)) entered

  -- the rows that an open transaction holds are the same before and after an entry that leaves it open
  pub held-history : (history : History) (entry : Entry) → Sound base → IsHistory history → IsEntry entry
      → (session : ℕ) → is_open (standing base (history ++ entry ∷ []) session) ≡ true
      → Agree (held (world base history) session) (flat base history) (flat base (history ++ entry ∷ []))
  unfolding flat standing
  held-history history entry sound entered is_entry session opened =
      let now : World = world base history in
      let next = ap (λ (after : World). is_open (after.standing session)) (world-append base history entry) in
      subst (λ (after : World). Agree (held now session) now.flat after.flat) (sym (world-append base history entry))
      (held-kept base history now (serial-world history sound entered) entry is_entry (answer now entry) (reply-last base history entry) refl session (sym next ∙ opened))

  -- so they are where the entry is another session's, and doesn't doom the transaction
  pub kept-at : (history : History) (entry : Entry) → Sound base → IsHistory history → IsEntry entry
      → (other : ℕ) → (other ≡ entry.session.0 → ⊥) → dooms (world base history) entry (answer (world base history) entry) other ≡ false
      → is_open ((world base history).standing other) ≡ true → Agree (held (world base history) other) (flat base history) (flat base (history ++ entry ∷ []))
  kept-at history entry sound entered is_entry other differs undoomed opened =
      let apart : (other == entry.session.0) ≡ false = ne_eqb other entry.session.0 differs in
      let next : (happens (world base history) entry).standing other ≡ (world base history).standing other = rw (apart, undoomed) refl in
      held-history history entry sound entered is_entry other (ap is_open (standing-append base history entry other ∙ next) ∙ opened)

  module _ (history : History) (sound : Sound base) (entered : IsHistory history) (place : ℕ) where
    abbrev front : History
    front = take place history

    at_place : IsSerialWorld base front (world base front)
    at_place = serial-world front sound (each_take IsEntry place history entered)

    sound_at : Sound (flat base front)
    unfolding flat
    sound_at = at_place.sound

    whole_at : (session begun : ℕ) (block : Block) → standing base front session ≡ Open begun block → AreGiven base history (flat base front) block
    unfolding flat standing
    whole_at session begun block opened =
        let own = open-block base front (world base front) at_place session begun block opened in
        let given : AreGiven base (front ++ drop place history) (flat base front) block =
        given-later base front (drop place history) (flat base front) block own.stated own.given in
        subst (λ history. AreGiven base history (flat base front) block) (take-append-drop place history) given

  pub serial-history : (history : History) → Sound base → IsHistory history → Serial base history
  serial-history history sound entered = record {
    sound = λ place within. sound_at history sound entered place;
    whole = λ place session begun block within opened. whole_at history sound entered place session begun block opened;
  }

-- and so is every history on the empty database
pub serial-empty : (history : History) → IsHistory history → Serial empty history
serial-empty history entered = serial-history empty history sound-empty entered
