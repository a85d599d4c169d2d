-- The COMMIT of an open transaction.
use Rattle.std.proofs.Common.{◌≡◌, ◌≢◌, ◌∙◌, ◌+◌, ℕ, List, [], length, Bool, true, false, None, ap, refl, subst, sym}
use Rattle.std.specs.Prelude.{Ok, is_some, if◌then◌else◌}
use Rattle.own_base.specs.declared.number.Area.{Area}
use Rattle.own_base.specs.declared.change.Change.{Change}
use Rattle.own_base.specs.declared.number.Place.{Place}
use Rattle.own_model.specs.declared.history.Entry.{Entry}
use Rattle.own_model.specs.declared.history.Verdict.{Verdict}
use Rattle.own_model.specs.declared.history.Verdict.TheVariants.{Took, DiskFault, NoRoom}
use Rattle.own_model.specs.declared.limit.LimitName.TheVariants as limit
use Rattle.own_model.specs.declared.refusal.Refusal.{Refusal}
use Rattle.own_model.specs.declared.refusal.Refusal.TheVariants as refusal
use Rattle.own_model.specs.declared.reply.Reply.{Reply}
use Rattle.own_model.specs.declared.reply.Reply.TheVariants.{Done, Refused}
use Rattle.own_model.specs.declared.request.Request.TheVariants.{Run}
use Rattle.own_model.specs.declared.statement.Statement.TheVariants as of
use Rattle.own_model.specs.Db.{Db}
use Rattle.state_model.specs.Net.{net}
use Rattle.state_model.specs.CommitRefusal.{commit_refusal}
use Rattle.state_model.specs.Put.{put}
use Rattle.state_model.specs.Sound.{IsWellFormed}
use Rattle.state_model.specs.Weight.{weight}
use Rattle.history_model.specs.AsksDisk.{asks_disk, under}
use Rattle.history_model.specs.Commits.{is_commit, is_create}
use Rattle.history_model.specs.Held.{held, items_held}
use Rattle.history_model.specs.History.{History, after_request, dooms, flat, flat_after, forgotten, happens, is_conflict, is_disk, is_failure, left_by, own_after, standing, world}
use Rattle.history_model.specs.Reply.{answer, by_verdict, changes, commit_reply, committing, is_refusal, reply_in}
use Rattle.history_model.specs.World.{Outside, World, after_block}
use Rattle.history_model.proofs.BlockLemmas.{creates-block, kept-block, schema-block}
use Rattle.history_model.proofs.EveryHistory.{serial-world}
use Rattle.history_model.proofs.Working.{answer-works}
use Rattle.history_model.proofs.Worlds.{IsOpenBlock, open-block}
use Rattle.row_locks.specs.SessionItems.{items_by as held_by}
use Rattle.row_locks.specs.RepresentsItems.{RepresentsItems}
use Rattle.row_locks.proofs.Holders.{stand-same}
use Rattle.txn_space.specs.Changed.{changed_db}
use Rattle.txn_core.specs.declared.session_state.SessionState.{SessionState}
use Rattle.txn_core.specs.declared.session_state.SessionState.TheVariants as kept
use Rattle.txn_core.specs.SessionStates.{RepresentsSession, is_open, state_by}
use Rattle.txn_core.specs.Transactions.{AreOthersSame, AreSame, space_of}
use Rattle.txn_core.proofs.OpenBlocks.{net_block}
use Rattle.store_disk.specs.declared.store_disk.StoreDisk.{StoreDisk}
use Rattle.disk_model.specs.declared.commit.Commit.TheVariants as of_commit
use Rattle.disk_model.specs.PutOf.{puts_of}
use Rattle.crash_model.specs.Room.{Appended, bytes_written, lays_anew, left_where_taken, written_by, written_of}
use Rattle.engine_core.specs.Answered.{Tells, commits, is_laid, left, write_size}
use Rattle.engine_core.specs.HasDoomed.{HasDoomed}
use Rattle.engine_core.specs.RepresentsWorld.{IsEvent, RepresentsWorld, Serves}
use Rattle.engine_core.specs.Stored.{Carries, is_fault}
use Rattle.engine_core.specs.declared.answer.Answer.{Answer}
use Rattle.engine_core.specs.declared.state.State.{State}
use Rattle.history_model.proofs.DoomLemmas.{undoomed}
use Rattle.engine_core.proofs.CalmEvents.{stands-refused}
use Rattle.engine_core.proofs.Carried.{carries-of}
use Rattle.engine_core.proofs.Decided.{asks-is, commit-is, decided-by, disk-decided, event-under, serves-fault, took-works, under-took}
use Rattle.engine_core.proofs.NextWorlds.{answer-in, own-in, sound-now, stands-next}
use Rattle.engine_core.proofs.Sizes.{accepted-of, bytes-prepared, laid-as}
use Rattle.engine_core.proofs.Stood.{IsOpenTxn, stood-open}
use Rattle.engine_core.proofs.InstalledEvents.{same_undoomed}

module _ (history : History) (entry : Entry) (before : State) (event : IsEvent before history entry) (opened : is_open (state_by before.txns.states entry.session.0) ≡ true)
    (asks : entry.request ≡ Run of.Commit) (made : List Change)
    (nets : made ≡ net before.version (changed_db before.version (space_of (state_by before.txns.states entry.session.0)))) where
  abbrev now : World
  now = world before.opened history

  abbrev session : ℕ
  session = entry.session.0

  abbrev told : Reply
  told = answer now entry

  abbrev own : SessionState
  own = state_by before.txns.states session

  abbrev is : IsOpenTxn now.flat own (now.standing session)
  is = stood-open now.flat own (now.standing session) (event.stands.states session) opened

  opens : IsOpenBlock before.opened history now.flat session is.block
  opens = open-block before.opened history now (serial-world before.opened history event.begun event.entries) session is.begun is.block is.stands

  -- the database that its statements leave
  abbrev behind : Db
  behind = after_block now.flat is.block

  nets_flat : made ≡ net now.flat (changed_db now.flat is.txn.space)
  nets_flat =
      subst (λ space. made ≡ net now.flat (changed_db now.flat space)) (ap space_of is.is_kept)
      (subst (λ (db : Db). made ≡ net db (changed_db db (space_of own))) event.stands.flat nets)

  block_is : (made ≡ net now.flat behind) × ((put now.flat made).rows ≡ behind.rows)
  unfolding flat standing
  block_is = net_block before.opened history event.begun event.entries session is.begun is.block is.stands is.txn.space is.kept_as.0 made nets_flat

  changed_flat : put now.flat made ≡ behind
  changed_flat =
      let creates = creates-block (length history) now.flat is.block opens.stated in
      let schema = schema-block (length history) now.flat is.block opens.stated in
      λ i. record { creates = sym creates i; schema = sym schema i; rows = block_is.1 i }

  -- its changes lead to that
  changed_is : put before.version made ≡ behind
  changed_is = ap (λ db. put db made) event.stands.flat ∙ changed_flat

  pub net-committed : made ≡ net before.version (put before.version made)
  net-committed = block_is.0 ∙ ((λ i. net (sym event.stands.flat i) behind) ∙ ap (net before.version) (sym changed_is))

  pub kept-committed : IsWellFormed (put before.version made)
  kept-committed =
      subst IsWellFormed (sym changed_is)
      (kept-block (length history) now.flat is.block (sound-now history entry event.entries event.is_entry before event.begun event.stands event.up).well_formed opens.stated)

  told_commit : told ≡ commit_reply entry.verdict now.flat behind
  told_commit =
      answer-in history entry event.entries event.is_entry before event.begun event.stands event.up
      ∙ (λ i. reply_in now session entry.verdict (is.stands i) (asks i))

  own_commit : is_failure told ≡ false → own_after now entry told ≡ Outside
  own_commit works =
      own-in history entry event.entries event.is_entry before event.begun event.stands event.up works
      ∙ (λ i. after_request now.place (is.stands i) (asks i) (is_conflict told))

  left_commit : left_by now.flat (now.standing session) entry.request ≡ behind
  left_commit = λ i. left_by now.flat (is.stands i) (asks i)

  undoomed_all : (other : ℕ) → dooms now entry told other ≡ false
  undoomed_all other = undoomed now entry told other (ap (forgotten now.flat.schema) asks)

  tells_flat : (given : Answer) → Tells before.version false (Appended (of_commit.Changes (puts_of (net before.version (put before.version made))))) (λ verdict. committing verdict (changes before.version (put before.version made)) (commit_refusal before.version (put before.version made)) Done)
      (put before.version made) given → Tells now.flat false (Appended (of_commit.Changes (puts_of (net now.flat behind)))) (λ verdict. commit_reply verdict now.flat behind) behind given
  tells_flat given tells =
      subst (λ (db : Db). Tells db false (Appended (of_commit.Changes (puts_of (net db behind)))) (λ verdict. commit_reply verdict db behind) behind given) event.stands.flat
      (subst (λ (left : Db). Tells before.version false (Appended (of_commit.Changes (puts_of (net before.version left)))) (λ verdict. commit_reply verdict before.version left) left given) changed_is tells)

  -- refused where there is no room, its transaction ends as it does with any other refusal
  ends_refused : (why : Refusal) (after : State) → told ≡ Refused why → is_failure (Refused why) ≡ false → after.version ≡ before.version → after.weighs ≡ before.weighs
      → AreOthersSame entry.session.0 before.txns after.txns → state_by after.txns.states entry.session.0 ≡ kept.Nothing → held_by after.txns.held entry.session.0 ≡ []
      → RepresentsWorld after (happens now entry)
  ends_refused why after is_told works version weighs finished keeps holds =
      stands-refused history entry before after event why is_told Outside version weighs finished (own_commit (ap is_failure is_told ∙ works))
      (subst (λ one. RepresentsSession now.flat one Outside) (sym keeps) tt)
      (subst (λ items. RepresentsItems items []) (sym holds) (stand-same []))

  -- by what is told where the disk takes it
  module _ (given : Answer) (tells : Tells now.flat false (Appended (of_commit.Changes (puts_of (net now.flat behind)))) (λ verdict. commit_reply verdict now.flat behind) behind given) (took : entry.verdict ≡ Took) where
    told_took : told ≡ commit_reply Took now.flat behind
    told_took = told_commit ∙ ap (λ verdict. commit_reply verdict now.flat behind) took

    replied : told ≡ given.reply
    replied = told_took ∙ sym tells.told

    works_took : is_failure told ≡ false
    works_took = answer-works now entry took event.up

    left_is : left before.version given.next ≡ flat_after now entry told
    left_is =
        ap (λ db. left db given.next) event.stands.flat
        ∙ (tells.leaves
        ∙ (ap (λ reply. if is_refusal reply then now.flat else behind) (sym told_took)
        ∙ ap (λ (db : Db). if is_refusal told then now.flat else db) (sym left_commit)))

    counted_is : is_some given.next ≡ is_commit now entry told
    counted_is =
        tells.counted
        ∙ (ap (commits false now.flat behind) (sym told_took)
        ∙ sym (commit-is now entry told false behind left_commit (ap is_create asks)))

    -- what is prepared is what the entry leaves, and writes what it writes
    left_as : left now.flat given.next ≡ left_where_taken now entry
    left_as = ap (λ db. left db given.next) (sym event.stands.flat) ∙ (left_is ∙ sym (ap (λ (entry : Entry). flat_after now entry (answer now entry)) (under-took entry took)))

    written_as : (number : ℕ) → is_some given.next ≡ true → Appended (of_commit.Changes (puts_of (net now.flat behind))) ≡ written_of now entry number
    written_as number some =
        let accepted : is_refusal told ≡ false = ap is_refusal told_took ∙ accepted-of _ _ (sym tells.counted ∙ some) in
        let as_left : left_where_taken now entry ≡ behind =
        ap (λ (entry : Entry). flat_after now entry (answer now entry)) (under-took entry took)
        ∙ (ap (λ (b : Bool). if b then now.flat else left_by now.flat (now.standing session) entry.request) accepted ∙ left_commit) in
        ap (λ request. written_by now.flat request behind number) (sym asks) ∙ ap (λ db. written_by now.flat entry.request db number) (sym as_left)

    stores_took : is_disk (commit_reply DiskFault now.flat behind) ≡ asks_disk now entry → {D : Type 0} (holds : D → Area → List ℕ) (leaves : D → Area → List ℕ → Type 0) (moment : D → ℕ)
        (might_have_left : D → ℕ → List ℕ → List ℕ → Type 0) (honest : D → Bool) (faults : D → ℕ) (store new : StoreDisk D) (verdict : Verdict)
        → Carries holds leaves moment might_have_left honest faults before.version (left before.version given.next) (is_some given.next) (is_some given.next) (is_laid given.next) (write_size (store.commits + 1) given.next) store verdict new
        → Carries holds leaves moment might_have_left honest faults now.flat (happens now entry).flat (asks_disk now entry) (is_commit now entry told) (lays_anew entry.request) (bytes_written now entry store.commits) store verdict new
    stores_took asks_is holds leaves moment might_have_left honest faults store new verdict carries =
        let works : is_disk (commit_reply Took now.flat behind) ≡ false = sym (ap is_disk told_took) ∙ took-works now entry took event.up in
        let asked_is = sym (disk-decided (λ verdict. commit_reply verdict now.flat behind) given.next tells.decided works) ∙ asks_is in
        carries-of holds leaves moment might_have_left honest faults before.version now.flat (left before.version given.next) (happens now entry).flat (is_some given.next) (asks_disk now entry)
        (is_some given.next) (is_commit now entry told) (is_laid given.next) (lays_anew entry.request) (write_size (store.commits + 1) given.next) (bytes_written now entry store.commits) store new verdict
        event.stands.flat left_is asked_is counted_is
        (λ asked_it. laid-as given.next (Appended (of_commit.Changes (puts_of (net now.flat behind)))) tells.writes (asked_is ∙ asked_it) ∙ sym (ap lays_anew asks))
        (bytes-prepared now entry store.commits now.flat given.next (Appended (of_commit.Changes (puts_of (net now.flat behind)))) asked_is tells.writes tt (written_as store.commits) (λ some. left_as)) carries

    module _ (place : Place) (at : place.0 ≡ length history) (middle after : State) (version : middle.version ≡ left before.version given.next) (weighs : weight middle.version ≡ middle.weighs)
        (none : given.erased ≡ []) (doomed : HasDoomed given.erased place before.txns middle.txns)
        (version_after : after.version ≡ middle.version) (weighs_after : after.weighs ≡ middle.weighs)
        (finished : AreOthersSame entry.session.0 middle.txns after.txns) (keeps : state_by after.txns.states entry.session.0 ≡ kept.Nothing) (holds : held_by after.txns.held entry.session.0 ≡ []) where
      same : AreSame before.txns middle.txns
      same =
          same_undoomed place before.txns middle.txns (held now) event.stands.held
          (subst (λ names. HasDoomed names place before.txns middle.txns) none doomed)

      serves_took : (answer now entry ≡ given.reply) × (Took ≢ DiskFault → RepresentsWorld after (happens now entry)) × (is_disk given.reply ≡ false)
      serves_took = (
        replied,
        λ other. stands-next history entry event.entries event.is_entry before event.begun event.stands event.up after place at (version_after ∙ (version ∙ left_is))
            (ap weight version_after ∙ (weighs ∙ sym weighs_after))
            (subst (λ stood. RepresentsSession (flat_after now entry told) (state_by after.txns.states session) stood) (sym (own_commit works_took))
            (subst (λ one. RepresentsSession (flat_after now entry told) one Outside) (sym keeps) tt))
            (subst (λ stood. RepresentsItems (held_by after.txns.held session) (items_held (flat_after now entry told).schema stood)) (sym (own_commit works_took))
            (subst (λ items. RepresentsItems items []) (sym holds) (stand-same [])))
            (λ other differs. record {
              states = rw (undoomed_all other) (finished.states other differs ∙ same.states other);
              held = rw (undoomed_all other) (finished.held other differs ∙ same.held other);
            }),
        sym (ap is_disk replied) ∙ took-works now entry took event.up,
      )

module _ (history : History) (entry : Entry) (before : State) (event : IsEvent before history entry) (opened : is_open (state_by before.txns.states entry.session.0) ≡ true)
    (asks : entry.request ≡ Run of.Commit) (made : List Change)
    (nets : made ≡ net before.version (changed_db before.version (space_of (state_by before.txns.states entry.session.0))))
    (given : Answer)
    (tells : Tells before.version false (Appended (of_commit.Changes (puts_of (net before.version (put before.version made))))) (λ verdict. committing verdict (changes before.version (put before.version made)) (commit_refusal before.version (put before.version made)) Done)
    (put before.version made) given) where
  abbrev at_commit : World
  at_commit = world before.opened history

  abbrev replies : Verdict → Reply
  replies verdict = commit_reply verdict at_commit.flat (behind history entry before event opened asks made nets)

  tells_now : Tells at_commit.flat false (Appended (of_commit.Changes (puts_of (net at_commit.flat (behind history entry before event opened asks made nets))))) replies (behind history entry before event opened asks made nets) given
  tells_now = tells_flat history entry before event opened asks made nets given tells

  told_by : (verdict : Verdict) → answer at_commit (under verdict entry) ≡ replies verdict
  told_by verdict = told_commit history (under verdict entry) before (event-under history entry before verdict event) opened asks made nets

  refused_by : (verdict : Verdict) → given.next ≢ None → answer at_commit (under verdict entry) ≡ by_verdict verdict given.reply
  refused_by verdict some = told_by verdict ∙ (decided-by replies given.next tells_now.decided some verdict ∙ ap (by_verdict verdict) (sym tells_now.told))

  -- where the disk failed that is told
  pub serves-commit_fault : (after : State) (told : Verdict × Reply) → is_fault told.0 ≡ true → told.1 ≡ by_verdict told.0 given.reply → (told.0 ≢ Took → given.next ≢ None)
      → Serves {E = ℕ} before.opened after history entry (Ok told)
  serves-commit_fault after told fault is some = by told.0 told.1 fault is some
    where
      by : (verdict : Verdict) (reply : Reply) → is_fault verdict ≡ true → reply ≡ by_verdict verdict given.reply → (verdict ≢ Took → given.next ≢ None)
          → Serves {E = ℕ} before.opened after history entry (Ok (verdict, reply))
      by Took reply fault is some = absurd (cc)
      by NoRoom reply fault is some = absurd (cc)
      by DiskFault reply fault is some =
          let other : DiskFault ≢ Took = λ same. absurd (cc) in
          subst (λ reply. Serves {E = ℕ} before.opened after history entry (Ok (DiskFault, reply))) (sym is)
          (serves-fault history entry before after event (refused_by DiskFault (some other)))

  module _ (place : Place) (at : place.0 ≡ length history) (middle after : State) (none : given.erased ≡ []) (version_after : after.version ≡ middle.version) (weighs_after : after.weighs ≡ middle.weighs)
      (finished : AreOthersSame entry.session.0 middle.txns after.txns) (keeps : state_by after.txns.states entry.session.0 ≡ kept.Nothing) (holds : held_by after.txns.held entry.session.0 ≡ []) where
    by_told : (verdict : Verdict) (reply : Reply) → is_fault verdict ≡ false → reply ≡ by_verdict verdict given.reply
        → (verdict ≡ Took → middle.version ≡ left before.version given.next) → (verdict ≡ Took → weight middle.version ≡ middle.weighs) → (verdict ≡ Took → HasDoomed given.erased place before.txns middle.txns)
        → (verdict ≡ NoRoom → middle ≡ before) → (verdict ≢ Took → given.next ≢ None) → Serves {E = ℕ} before.opened after history entry (Ok (verdict, reply))
    by_told Took reply works is version weighs doomed stays some =
        subst (λ reply. Serves {E = ℕ} before.opened after history entry (Ok (Took, reply))) (sym is)
        (serves_took history (under Took entry) before (event-under history entry before Took event) opened asks made nets given tells_now refl place at middle after (version refl) (weighs refl) none (doomed refl)
        version_after weighs_after finished keeps holds)
    by_told DiskFault reply works is version weighs doomed stays some = absurd (cc)
    by_told NoRoom reply works is version weighs doomed stays some =
        let other : NoRoom ≢ Took = λ same. absurd (cc) in
        let same = stays refl in
        let told = refused_by NoRoom (some other) in
        subst (λ reply. Serves {E = ℕ} before.opened after history entry (Ok (NoRoom, reply))) (sym is) (
          told,
          λ no_fault. ends_refused history (under NoRoom entry) before (event-under history entry before NoRoom event) opened asks made nets (refusal.Limit limit.Room) after told refl
              (version_after ∙ ap (λ (state : State). state.version) same) (weighs_after ∙ ap (λ (state : State). state.weighs) same)
              (subst (λ (state : State). AreOthersSame entry.session.0 state.txns after.txns) same finished) keeps holds,
          refl,
        )

    -- else its transaction ends
    pub serves-commit : (told : Verdict × Reply) → is_fault told.0 ≡ false → told.1 ≡ by_verdict told.0 given.reply
        → (told.0 ≡ Took → middle.version ≡ left before.version given.next) → (told.0 ≡ Took → weight middle.version ≡ middle.weighs) → (told.0 ≡ Took → HasDoomed given.erased place before.txns middle.txns)
        → (told.0 ≡ NoRoom → middle ≡ before) → (told.0 ≢ Took → given.next ≢ None) → Serves {E = ℕ} before.opened after history entry (Ok told)
    serves-commit told works is version weighs doomed stays some = by_told told.0 told.1 works is version weighs doomed stays some

  -- and so it is stored
  pub stores-commit : entry.verdict ≡ Took → {D : Type 0} (holds : D → Area → List ℕ) (leaves : D → Area → List ℕ → Type 0) (moment : D → ℕ)
      (might_have_left : D → ℕ → List ℕ → List ℕ → Type 0) (honest : D → Bool) (faults : D → ℕ) (store new : StoreDisk D) (verdict : Verdict)
      → Carries holds leaves moment might_have_left honest faults before.version (left before.version given.next) (is_some given.next) (is_some given.next) (is_laid given.next) (write_size (store.commits + 1) given.next) store verdict new
      → Carries holds leaves moment might_have_left honest faults (world before.opened history).flat (happens (world before.opened history) entry).flat (asks_disk (world before.opened history) entry)
      (is_commit (world before.opened history) entry (answer (world before.opened history) entry)) (lays_anew entry.request) (bytes_written (world before.opened history) entry store.commits) store verdict new
  stores-commit took = stores_took history entry before event opened asks made nets given tells_now took (sym (asks-is at_commit entry (replies DiskFault) (told_by DiskFault)))
