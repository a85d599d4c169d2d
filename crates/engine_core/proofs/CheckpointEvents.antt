-- A CHECKPOINT outside a transaction.
use Rattle.std.proofs.Common.{◌≡◌, ◌∙◌, ℕ, List, Bool, true, false, ap, inr, refl, subst, sym}
use Rattle.std.specs.Prelude.{Err, IfOk, Ok, OnErr, Result}
use Rattle.own_base.specs.declared.number.Area.{Area}
use Rattle.own_model.specs.declared.history.Entry.{Entry}
use Rattle.own_model.specs.declared.history.Verdict.{Verdict}
use Rattle.own_model.specs.declared.history.Verdict.TheVariants.{Took, DiskFault, NoRoom}
use Rattle.own_model.specs.declared.limit.LimitName.TheVariants as limit
use Rattle.own_model.specs.declared.refusal.Refusal.TheVariants as refusal
use Rattle.own_model.specs.declared.reply.Reply.{Reply}
use Rattle.own_model.specs.declared.reply.Reply.TheVariants.{Done, Refused}
use Rattle.own_model.specs.declared.request.Request.TheVariants.{Run}
use Rattle.own_model.specs.declared.statement.Statement.TheVariants.{Checkpoint}
use Rattle.own_model.specs.Db.{Db}
use Rattle.run_model.specs.Run.{run}
use Rattle.history_model.specs.AsksDisk.{asks_disk, under}
use Rattle.history_model.specs.Commits.{is_commit, is_create}
use Rattle.history_model.specs.Held.{held, items_held}
use Rattle.history_model.specs.History.{History, after_request, flat_after, happens, is_conflict, is_failure, left_by, own_after, world}
use Rattle.history_model.specs.Reply.{answer, by_verdict, reply_in}
use Rattle.history_model.specs.World.{Outside, World}
use Rattle.history_model.proofs.DoomLemmas.{undoomed}
use Rattle.row_locks.specs.SessionItems.{items_by as held_by}
use Rattle.row_locks.specs.RepresentsItems.{RepresentsItems}
use Rattle.txn_core.specs.declared.session_state.SessionState.TheVariants as kept
use Rattle.txn_core.specs.SessionStates.{RepresentsSession, state_by}
use Rattle.txn_core.proofs.Statements.{none_moved}
use Rattle.store_disk.specs.declared.store_disk.StoreDisk.{StoreDisk}
use Rattle.crash_model.specs.Room.{LaidAnew, bytes_written, image_bytes, lays_anew, left_where_taken, written_by, written_bytes, written_of}
use Rattle.engine_core.specs.RepresentsWorld.{IsEvent, RepresentsWorld, Serves}
use Rattle.engine_core.specs.Stored.{Carries, Stores}
use Rattle.engine_core.specs.declared.state.State.{State}
use Rattle.engine_core.proofs.CalmEvents.{others-same, stands-calm, stands-unmoved}
use Rattle.engine_core.proofs.Carried.{carries-of}
use Rattle.engine_core.proofs.Decided.{asks-is, commit-none, event-under, serves-fault, under-took}
use Rattle.engine_core.proofs.NextWorlds.{answer-in, own-in}
use Rattle.engine_core.proofs.Sizes.{bytes-asked}
use Rattle.engine_core.proofs.Stood.{stood-outside}
use Rattle.engine_core.proofs.UnmadeEvents.{unmade-checkpoint}

module _ (history : History) (entry : Entry) (before : State) (event : IsEvent before history entry) (nothing : state_by before.txns.states entry.session.0 ≡ kept.Nothing) (asks : entry.request ≡ Run Checkpoint) where
  abbrev now : World
  now = world before.opened history

  abbrev session : ℕ
  session = entry.session.0

  abbrev told : Reply
  told = answer now entry

  outside : now.standing session ≡ Outside
  outside = stood-outside now.flat (state_by before.txns.states session) (now.standing session) (event.stands.states session) nothing

  told_checkpoint : told ≡ by_verdict entry.verdict Done
  told_checkpoint =
      answer-in history entry event.entries event.is_entry before event.begun event.stands event.up
      ∙ (λ i. reply_in now session entry.verdict (outside i) (asks i))

  own_checkpoint : is_failure told ≡ false → own_after now entry told ≡ Outside
  own_checkpoint works =
      own-in history entry event.entries event.is_entry before event.begun event.stands event.up works
      ∙ (λ i. after_request now.place (outside i) (asks i) (is_conflict told))

  left_run : (db : Db) → (run db Checkpoint).db ≡ db
  unfolding run
  left_run db = refl

  calm : told ≡ Done → flat_after now entry told ≡ now.flat
  calm is = rw is ((λ i. left_by now.flat (outside i) (asks i)) ∙ left_run now.flat)

  stands_done : told ≡ Done → RepresentsWorld before (happens now entry)
  unfolding held
  stands_done is =
      stands-calm history entry before before event Outside refl refl (others-same session before.txns before.txns (none_moved before.txns)) (calm is)
      (λ other. undoomed now entry told other (rw asks refl)) (own_checkpoint (ap is_failure is))
      (subst (λ one. RepresentsSession now.flat one Outside) (sym nothing) tt)
      (subst (λ stood. RepresentsItems (held_by before.txns.held session) (items_held now.flat.schema stood)) outside (event.stands.held session))

  stands_refused : told ≡ Refused (refusal.Limit limit.Room) → RepresentsWorld before (happens now entry)
  stands_refused is =
      stands-unmoved history entry before before event (refusal.Limit limit.Room) is refl refl (none_moved before.txns) (own_checkpoint (ap is_failure is) ∙ sym outside)

module _ (history : History) (entry : Entry) (before : State) (event : IsEvent before history entry) (nothing : state_by before.txns.states entry.session.0 ≡ kept.Nothing) (asks : entry.request ≡ Run Checkpoint) where
  abbrev was : World
  was = world before.opened history

  told_by : (verdict : Verdict) → answer was (under verdict entry) ≡ by_verdict verdict Done
  told_by verdict = told_checkpoint history (under verdict entry) before (event-under history entry before verdict event) nothing asks

  serves_by : (verdict : Verdict) → Serves {E = ℕ} before.opened before history entry (Ok (verdict, by_verdict verdict Done))
  serves_by Took = (told_by Took, λ other. stands_done history (under Took entry) before (event-under history entry before Took event) nothing asks (told_by Took), refl)
  serves_by DiskFault = serves-fault history entry before before event (told_by DiskFault)
  serves_by NoRoom = (told_by NoRoom, λ other. stands_refused history (under NoRoom entry) before (event-under history entry before NoRoom event) nothing asks (told_by NoRoom), refl)

  -- it leaves the state, whatever the disk says
  pub serves-checkpoint : {E : Type 0} (result : Result (Verdict × Reply) E) → IfOk result (λ told. told.1 ≡ by_verdict told.0 Done) → Serves before.opened before history entry result
  serves-checkpoint (Ok told) is = subst (λ reply. Serves {E = ℕ} before.opened before history entry (Ok (told.0, reply))) (sym is) (serves_by told.0)
  serves-checkpoint (Err e) is = (event.stands, unmade-checkpoint history entry before event nothing asks)

  module _ (took : entry.verdict ≡ Took) where
    done : answer was entry ≡ Done
    done = told_checkpoint history entry before event nothing asks ∙ ap (λ verdict. by_verdict verdict Done) took

    flat_same : (happens was entry).flat ≡ was.flat
    flat_same = calm history entry before event nothing asks done

    left_is : left_where_taken was entry ≡ was.flat
    left_is = ap (λ (entry : Entry). flat_after was entry (answer was entry)) (under-took entry took) ∙ flat_same

    -- what it writes is the image of the database
    bytes_is : (number : ℕ) → asks_disk was entry ≡ true → image_bytes before.version number ≡ bytes_written was entry number
    bytes_is number asked =
        let written_is : written_of was entry number ≡ LaidAnew number = ap (λ request. written_by was.flat request (left_where_taken was entry) number) asks in
        ap (λ db. image_bytes db number) (event.stands.flat ∙ sym left_is) ∙ (ap (written_bytes (left_where_taken was entry)) (sym written_is) ∙ sym (bytes-asked was entry number asked))

    -- and so it is stored
    pub stores-checkpoint : {E D : Type 0} (holds : D → Area → List ℕ) (leaves : D → Area → List ℕ → Type 0) (moment : D → ℕ) (might_have_left : D → ℕ → List ℕ → List ℕ → Type 0) (honest : D → Bool) (faults : D → ℕ)
        (store new : StoreDisk D) (result : Result (Verdict × Reply) E)
        → IfOk result (λ told. Carries holds leaves moment might_have_left honest faults before.version before.version true false true (image_bytes before.version store.commits) store told.0 new) → OnErr result (new ≡ store)
        → Stores holds leaves moment might_have_left honest faults (world before.opened history) entry store result new
    stores-checkpoint holds leaves moment might_have_left honest faults store new (Ok told) carries same =
        let asked = asks-is was entry (Refused refusal.Disk) (told_by DiskFault) in
        carries-of holds leaves moment might_have_left honest faults before.version was.flat before.version (happens was entry).flat true (asks_disk was entry) false (is_commit was entry (answer was entry))
        true (lays_anew entry.request) (image_bytes before.version store.commits) (bytes_written was entry store.commits) store new told.0 event.stands.flat (event.stands.flat ∙ sym flat_same)
        (sym asked) (sym (commit-none was entry (answer was entry) flat_same (inr (ap is_create asks)))) (λ asked_it. sym (ap lays_anew asks)) (bytes_is store.commits asked) carries
    stores-checkpoint holds leaves moment might_have_left honest faults store new (Err e) carries same = same
