-- After an entry the state represents the next world.
use Rattle.std.proofs.Common.{◌≡◌, ◌∙◌, ◌==◌, ℕ, [], length, Bool, true, false, None, ap, refl, subst, sym}
use Rattle.std.specs.Prelude.{if◌then◌else◌}
use Rattle.std.proofs.lemmas.Bool.{eqb-false, eqb-true, ne_eqb}
use Rattle.own_base.specs.declared.number.Place.{Place}
use Rattle.own_model.specs.declared.history.Entry.{Entry}
use Rattle.own_model.specs.declared.reply.Reply.{Reply}
use Rattle.own_model.specs.declared.schema.Schema.{Schema}
use Rattle.own_model.specs.Db.{Db}
use Rattle.state_model.specs.Sound.{Sound}
use Rattle.state_model.specs.Weight.{weight}
use Rattle.run_model.specs.Agree.{Agree}
use Rattle.history_model.specs.HasWritten.{has_written}
use Rattle.history_model.specs.Held.{held, is_open, items_held}
use Rattle.history_model.specs.History.{History, after_request, doomed_at, dooms, flat, flat_after, happens, is_conflict, is_failure, other_after, own_after, standing, world}
use Rattle.history_model.specs.Reply.{answer, reply_in}
use Rattle.history_model.specs.Serial.{IsEntry, IsHistory}
use Rattle.history_model.specs.World.{SessionStanding, Outside, Open, Doomed, World}
use Rattle.history_model.proofs.EveryHistory.{serial-world}
use Rattle.history_model.proofs.HistoryLemmas.{place-world, reply-last}
use Rattle.history_model.proofs.SerialLemmas.{held-kept, serial-step}
use Rattle.history_model.proofs.Worlds.{IsSerialWorld}
use Rattle.row_locks.specs.SessionItems.{items_by as held_by}
use Rattle.row_locks.specs.RepresentsItems.{RepresentsItems}
use Rattle.row_locks.proofs.Holders.{stand-same}
use Rattle.txn_core.specs.declared.session_state.SessionState.{SessionState}
use Rattle.txn_core.specs.declared.session_state.SessionState.TheVariants as kept
use Rattle.txn_core.specs.SessionStates.{RepresentsSession, state_by, once_doomed}
use Rattle.txn_core.proofs.RepresentsSteps.{represents_dooming}
use Rattle.txn_core.proofs.OpenBlocks.{represents_elsewhere}
use Rattle.engine_core.specs.RepresentsWorld.{RepresentsWorld}
use Rattle.engine_core.specs.declared.state.State.{State}

module _ (history : History) (entry : Entry) (entered : IsHistory history) (is_entry : IsEntry entry)
    (before : State) (based : Sound before.opened) (stands : RepresentsWorld before (world before.opened history)) (up : (world before.opened history).down ≡ None) where
  abbrev now : World
  now = world before.opened history

  abbrev session : ℕ
  session = entry.session.0

  abbrev told : Reply
  told = answer now entry

  abbrev next_flat : Db
  next_flat = flat_after now entry told

  is_serial : IsSerialWorld before.opened history now
  is_serial = serial-world before.opened history based entered

  -- nothing is wrong with the state, before it and behind it
  pub sound-now : Sound (world before.opened history).flat
  sound-now = is_serial.sound

  pub sound-next : Sound (flat_after (world before.opened history) entry (answer (world before.opened history) entry))
  sound-next = (serial-step before.opened history now is_serial entry is_entry told (reply-last before.opened history entry) refl).sound

  -- what it is answered, by how its session stands
  pub answer-in : answer (world before.opened history) entry ≡ reply_in (world before.opened history) entry.session.0 entry.verdict ((world before.opened history).standing entry.session.0) entry.request
  unfolding answer
  answer-in = rw up refl

  -- and how its session stands then, unless it was answered for want of the disk
  pub own-in : is_failure (answer (world before.opened history) entry) ≡ false → own_after (world before.opened history) entry (answer (world before.opened history) entry)
      ≡ after_request (world before.opened history).place ((world before.opened history).standing entry.session.0) entry.request (is_conflict (answer (world before.opened history) entry))
  own-in works = rw works refl

  module _ (other : ℕ) (differs : other ≡ entry.session.0 → ⊥) where
    apart : (other == session) ≡ false
    apart = ne_eqb other session differs

    -- another session that isn't doomed stands as it did
    module _ (undoomed : dooms now entry told other ≡ false) where
      same_standing : (happens now entry).standing other ≡ now.standing other
      same_standing = rw (apart, undoomed) refl

      agree : is_open (now.standing other) ≡ true → Agree (held now other) now.flat next_flat
      agree opened = held-kept before.opened history now is_serial entry is_entry told (reply-last before.opened history entry) refl other (ap is_open same_standing ∙ opened)

      stands_still : (one : SessionState) (stood : SessionStanding) → now.standing other ≡ stood → RepresentsSession now.flat one stood → RepresentsSession next_flat one stood
      unfolding flat standing
      stands_still kept.Nothing Outside is stood = tt
      stands_still (kept.Open txn) (Open begun block) is stood =
          let same = agree (ap is_open is) in (
            represents_elsewhere before.opened history based entered other begun block is txn.space stood.0 next_flat sound-next same,
            stood.1,
            λ wrote. ap (λ schema. has_written schema block) (sym same.schema) ∙ stood.2 wrote,
          )
      stands_still (kept.Doomed place) (Doomed by) is stood = stood
      stands_still kept.Nothing (Open begun block) is stood = absurd stood
      stands_still kept.Nothing (Doomed by) is stood = absurd stood
      stands_still (kept.Open txn) Outside is stood = absurd stood
      stands_still (kept.Open txn) (Doomed by) is stood = absurd stood
      stands_still (kept.Doomed place) Outside is stood = absurd stood
      stands_still (kept.Doomed place) (Open begun block) is stood = absurd stood

      -- and holds what it held
      holds_still : (stood : SessionStanding) → now.standing other ≡ stood → items_held next_flat.schema stood ≡ items_held now.flat.schema stood
      holds_still Outside is = refl
      holds_still (Open begun block) is = ap (λ schema. items_held schema (Open begun block)) (sym (agree (ap is_open is)).schema)
      holds_still (Doomed by) is = refl

      kept_still : RepresentsSession next_flat (state_by before.txns.states other) (now.standing other)
      kept_still = stands_still (state_by before.txns.states other) (now.standing other) refl (stands.states other)

      held_still : RepresentsItems (held_by before.txns.held other) (items_held next_flat.schema (now.standing other))
      unfolding held
      held_still = subst (λ items. RepresentsItems (held_by before.txns.held other) items) (sym (holds_still (now.standing other) refl)) (stands.held other)

    -- one that is doomed holds nothing
    none_held : (schema : Schema) (place : ℕ) (stood : SessionStanding) → items_held schema (doomed_at place stood) ≡ []
    none_held schema place Outside = refl
    none_held schema place (Open begun block) = refl
    none_held schema place (Doomed by) = refl

  -- what is kept of another session behind the entry: it is once_doomed where it is doomed, else it is as it was
  pub record IsLeft (place : Place) (after : State) (other : ℕ) : Type 0 where
    pub states : state_by after.txns.states other
        ≡ (if dooms (world before.opened history) entry (answer (world before.opened history) entry) other then once_doomed place (state_by before.txns.states other) else state_by before.txns.states other)
    pub held : held_by after.txns.held other ≡ (if dooms (world before.opened history) entry (answer (world before.opened history) entry) other then [] else held_by before.txns.held other)

  module _ (after : State) (place : Place) (at : place.0 ≡ length history) (version : after.version ≡ flat_after (world before.opened history) entry (answer (world before.opened history) entry))
      (weighs : weight after.version ≡ after.weighs)
      (own_kept : RepresentsSession (flat_after (world before.opened history) entry (answer (world before.opened history) entry)) (state_by after.txns.states entry.session.0)
      (own_after (world before.opened history) entry (answer (world before.opened history) entry)))
      (own_held : RepresentsItems (held_by after.txns.held entry.session.0) (items_held (flat_after (world before.opened history) entry (answer (world before.opened history) entry)).schema
      (own_after (world before.opened history) entry (answer (world before.opened history) entry))))
      (others : (other : ℕ) → (other ≡ entry.session.0 → ⊥) → IsLeft place after other) where
    here : place.0 ≡ now.place
    here = at ∙ sym (place-world before.opened history)

    -- of another session
    kept_by_doom : (other : ℕ) (differs : other ≡ session → ⊥) (b : Bool) → dooms now entry told other ≡ b
        → RepresentsSession next_flat (if b then once_doomed place (state_by before.txns.states other) else state_by before.txns.states other) (if b then doomed_at now.place (now.standing other) else now.standing other)
    kept_by_doom other differs true doomed =
        subst (λ n. RepresentsSession next_flat (once_doomed place (state_by before.txns.states other)) (doomed_at n (now.standing other))) here
        (represents_dooming now.flat next_flat place (state_by before.txns.states other) (now.standing other) (stands.states other))
    kept_by_doom other differs false undoomed = kept_still other differs undoomed

    held_by_doom : (other : ℕ) (differs : other ≡ session → ⊥) (b : Bool) → dooms now entry told other ≡ b
        → RepresentsItems (if b then [] else held_by before.txns.held other) (items_held next_flat.schema (if b then doomed_at now.place (now.standing other) else now.standing other))
    held_by_doom other differs true doomed = rw (none_held other differs next_flat.schema now.place (now.standing other)) (stand-same [])
    held_by_doom other differs false undoomed = held_still other differs undoomed

    kept_at : (one : ℕ) (b : Bool) → (one == session) ≡ b → RepresentsSession next_flat (state_by after.txns.states one) (if b then own_after now entry told else other_after now entry told one)
    kept_at one true same = subst (λ n. RepresentsSession next_flat (state_by after.txns.states n) (own_after now entry told)) (sym (eqb-true one session same)) own_kept
    kept_at one false apart =
        let differs = eqb-false one session apart in
        subst (λ found. RepresentsSession next_flat found (other_after now entry told one)) (sym (others one differs).states) (kept_by_doom one differs (dooms now entry told one) refl)

    held_at : (one : ℕ) (b : Bool) → (one == session) ≡ b
        → RepresentsItems (held_by after.txns.held one) (items_held next_flat.schema (if b then own_after now entry told else other_after now entry told one))
    held_at one true same = subst (λ n. RepresentsItems (held_by after.txns.held n) (items_held next_flat.schema (own_after now entry told))) (sym (eqb-true one session same)) own_held
    held_at one false apart =
        let differs = eqb-false one session apart in
        subst (λ found. RepresentsItems found (items_held next_flat.schema (other_after now entry told one))) (sym (others one differs).held) (held_by_doom one differs (dooms now entry told one) refl)

    pub stands-next : RepresentsWorld after (happens (world before.opened history) entry)
    unfolding held
    stands-next = record {
      flat = version;
      weighs = weighs;
      states = λ one. kept_at one (one == session) refl;
      held = λ one. held_at one (one == session) refl;
    }
