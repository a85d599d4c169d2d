-- A statement outside a transaction, which may commit and erase.
use Rattle.std.proofs.Common.{◌≡◌, ◌∙◌, ◌<◌, ◌≤◌, ◌+◌, ℕ, zero, suc, List, [], length, Bool, true, false, ap, arith, inl, inr, not, refl, subst, sym}
use Rattle.std.specs.Prelude.{◌≢◌, ◌⊎◌, ◌&&◌, Err, IfOk, None, Ok, OnErr, Result, is_some, nat_lt, if◌then◌else◌}
use Rattle.std.specs.Option.{option_map_or}
use Rattle.std.proofs.lemmas.Bool.{ltb-false, ltb-true}
use Rattle.own_base.specs.declared.number.Area.{Area}
use Rattle.own_base.specs.declared.number.Place.{Place}
use Rattle.own_model.specs.declared.footprint.FootItem.{FootItem}
use Rattle.own_model.specs.declared.history.Entry.{Entry}
use Rattle.own_model.specs.declared.history.Verdict.{Verdict}
use Rattle.own_model.specs.declared.history.Verdict.TheVariants.{Took, DiskFault, NoRoom}
use Rattle.own_model.specs.declared.limit.LimitName.TheVariants as limit
use Rattle.own_model.specs.declared.limit.TheConstants.{SESSIONS}
use Rattle.own_model.specs.declared.refusal.Refusal.{Refusal}
use Rattle.own_model.specs.declared.refusal.Refusal.TheVariants as refusal
use Rattle.own_model.specs.declared.reply.Reply.{Reply}
use Rattle.own_model.specs.declared.reply.Reply.TheVariants.{Refused}
use Rattle.own_model.specs.declared.request.Request.TheVariants.{Run}
use Rattle.own_model.specs.declared.statement.Statement.{Statement}
use Rattle.own_model.specs.declared.statement.Statement.TheVariants as of
use Rattle.own_model.specs.Db.{Db}
use Rattle.state_model.specs.Weight.{weight}
use Rattle.run_model.specs.Run.{run}
use Rattle.history_model.specs.AsksDisk.{asks_disk, under}
use Rattle.history_model.specs.Commits.{is_commit, is_create}
use Rattle.history_model.specs.Held.{held, items_held}
use Rattle.history_model.specs.History.{History, after_request, dooms, flat_after, forgotten, happens, is_conflict, is_disk, is_doomed_by, is_failure, left_by, lie_on, own_after, world}
use Rattle.history_model.specs.Reply.{answer, by_verdict, is_refusal, reply_in, reply_outside}
use Rattle.history_model.specs.World.{SessionStanding, Outside, Open, Doomed, World}
use Rattle.history_model.proofs.EveryHistory.{serial-world}
use Rattle.history_model.proofs.Working.{answer-works}
use Rattle.history_model.proofs.Worlds.{IsSerialWorld, IsStanding}
use Rattle.row_locks.specs.SessionItems.{items_by as held_by}
use Rattle.row_locks.specs.RepresentsItems.{AreHeld, RepresentsItems}
use Rattle.row_locks.proofs.Holders.{none_lie, stand-same}
use Rattle.txn_core.specs.declared.session_state.SessionState.{SessionState}
use Rattle.txn_core.specs.declared.session_state.SessionState.TheVariants as kept
use Rattle.txn_core.specs.SessionStates.{RepresentsSession, state_by, once_doomed}
use Rattle.txn_core.specs.Transactions.{AreSame, Transactions}
use Rattle.txn_core.proofs.Statements.{none_moved}
use Rattle.store_disk.specs.declared.store_disk.StoreDisk.{StoreDisk}
use Rattle.crash_model.specs.Room.{bytes_written, lays_anew, left_where_taken, written_by, written_of}
use Rattle.engine_core.specs.Answered.{Erases, Tells, commits, is_laid, left, write_size}
use Rattle.engine_core.specs.Asked.{RunsByItself}
use Rattle.engine_core.specs.HasDoomed.{HasDoomed}
use Rattle.engine_core.specs.RepresentsWorld.{IsEvent, RepresentsWorld, Serves}
use Rattle.engine_core.specs.Stored.{Carries, Stores}
use Rattle.engine_core.specs.declared.answer.Answer.{Answer}
use Rattle.engine_core.specs.declared.state.State.{State}
use Rattle.engine_core.proofs.CalmEvents.{stands-unmoved}
use Rattle.engine_core.proofs.Carried.{carries-of}
use Rattle.engine_core.proofs.Decided.{asks-is, commit-is, decided-by, disk-decided, event-under, serves-fault, took-works, under-took}
use Rattle.engine_core.proofs.NextWorlds.{IsLeft, answer-in, own-in, stands-next}
use Rattle.engine_core.proofs.Sizes.{IsOfNumber, accepted-of, bytes-prepared, is_image, laid-as}
use Rattle.engine_core.proofs.Stood.{stood-outside}
use Rattle.engine_core.proofs.UnmadeEvents.{unmade-outside}

-- a number is one of a session, or none
in_range : (number : ℕ) → ((number ≡ 0) ⊎ (SESSIONS < number)) ⊎ ((1 ≤ number) × (number ≤ SESSIONS))
in_range zero = inl (inl refl)
in_range (suc number) = by (nat_lt SESSIONS (suc number)) refl
  where
    by : (b : Bool) → nat_lt SESSIONS (suc number) ≡ b → ((suc number ≡ 0) ⊎ (SESSIONS < suc number)) ⊎ ((1 ≤ suc number) × (suc number ≤ SESSIONS))
    by true is = inl (inr (ltb-true SESSIONS (suc number) is))
    by false is = let most = ltb-false SESSIONS (suc number) is in inr (omega arith, omega arith)

either_same : {X : Type 0} (b : Bool) (one other : X) → one ≡ other → (if b then one else other) ≡ other
either_same true one other same = same
either_same false one other same = refl

-- what a session that is outside keeps is nothing, whatever is once_doomed
doomed_nothing : (b : Bool) (place : Place) (one : SessionState) → one ≡ kept.Nothing → (if b then once_doomed place one else one) ≡ kept.Nothing
doomed_nothing true place one is = ap (once_doomed place) is
doomed_nothing false place one is = is

-- Where no row was erased, nobody is doomed.
pub same_undoomed : (place : Place) (before after : Transactions) (held : ℕ → List FootItem) → AreHeld before.held held → HasDoomed [] place before after → AreSame before after
same_undoomed place before after held are doomed = record {
  states = λ session. kept_in session (in_range session);
  held = λ session. held_in session (in_range session);
}
  where
    kept_in : (session : ℕ) → ((session ≡ 0) ⊎ (SESSIONS < session)) ⊎ ((1 ≤ session) × (session ≤ SESSIONS)) → state_by after.states session ≡ state_by before.states session
    kept_in session (inl out) = (doomed.others session out).0
    kept_in session (inr within) = (doomed.once_doomed held are session within.0 within.1).0

    held_in : (session : ℕ) → ((session ≡ 0) ⊎ (SESSIONS < session)) ⊎ ((1 ≤ session) × (session ≤ SESSIONS)) → held_by after.held session ≡ held_by before.held session
    held_in session (inl out) = (doomed.others session out).1
    held_in session (inr within) = (doomed.once_doomed held are session within.0 within.1).1

-- What runs by itself lays the store anew just where an image is to be written, and that with a commit more.
laid_by : (asked : Statement) → RunsByItself asked → (db behind : Db) (number : ℕ) → is_image (written_by db (Run asked) behind number) ≡ lays_anew (Run asked)
laid_by of.Begin none db behind number = refl
laid_by (of.CreateTable table) none db behind number = refl
laid_by (of.CreateView view) none db behind number = refl
laid_by (of.Insert table columns rows) none db behind number = refl
laid_by (of.Update table sets cond) none db behind number = refl
laid_by (of.Delete table cond) none db behind number = refl
laid_by (of.Select select) none db behind number = refl
laid_by of.Commit none db behind number = refl
laid_by of.Rollback none db behind number = refl
laid_by (of.GdprGet table key) none db behind number = refl
laid_by (of.GdprForget table key) none db behind number = refl
laid_by of.Explain none db behind number = refl
laid_by of.Checkpoint none db behind number = absurd none

pub numbered-by : (asked : Statement) → RunsByItself asked → (db behind : Db) (number : ℕ) → IsOfNumber (number + 1) (written_by db (Run asked) behind number)
numbered-by of.Begin none db behind number = absurd none
numbered-by (of.CreateTable table) none db behind number = tt
numbered-by (of.CreateView view) none db behind number = tt
numbered-by (of.Insert table columns rows) none db behind number = tt
numbered-by (of.Update table sets cond) none db behind number = tt
numbered-by (of.Delete table cond) none db behind number = tt
numbered-by (of.Select select) none db behind number = tt
numbered-by of.Commit none db behind number = absurd none
numbered-by of.Rollback none db behind number = absurd none
numbered-by (of.GdprGet table key) none db behind number = tt
numbered-by (of.GdprForget table key) none db behind number = refl
numbered-by of.Explain none db behind number = tt
numbered-by of.Checkpoint none db behind number = absurd none

module _ (history : History) (entry : Entry) (before : State) (event : IsEvent before history entry) where
  abbrev now : World
  now = world before.opened history

  abbrev session : ℕ
  session = entry.session.0

  abbrev told : Reply
  told = answer now entry

  abbrev own : SessionState
  own = state_by before.txns.states session

  is_serial : IsSerialWorld before.opened history now
  is_serial = serial-world before.opened history event.begun event.entries

  -- a number that is no session's holds nothing
  none_held : (other : ℕ) → (other ≡ 0) ⊎ (SESSIONS < other) → held now other ≡ []
  unfolding held
  none_held other out = by (now.standing other) (is_serial.stands other)
    where
      by : (stood : SessionStanding) → IsStanding before.opened history now.flat other stood → items_held now.flat.schema stood ≡ []
      by Outside stands = refl
      by (Doomed by_place) stands = refl
      by (Open begun block) stands = absurd (no out)
        where
          no : (other ≡ 0) ⊎ (SESSIONS < other) → ⊥
          no (inl is_zero) = let first = stands.first in omega arith
          no (inr past) = let last = stands.last in omega arith

  -- A statement outside a transaction that runs by itself
  module _ (asked : Statement) (asks : entry.request ≡ Run asked) (itself : RunsByItself asked) (nothing : state_by before.txns.states entry.session.0 ≡ kept.Nothing) where
    stands_outside : now.standing session ≡ Outside
    stands_outside = stood-outside now.flat own (now.standing session) (event.stands.states session) nothing

    told_outside : told ≡ reply_outside now session entry.verdict asked
    told_outside =
        answer-in history entry event.entries event.is_entry before event.begun event.stands event.up
        ∙ (λ i. reply_in now session entry.verdict (stands_outside i) (asks i))

    own_outside : is_failure told ≡ false → own_after now entry told ≡ Outside
    own_outside works =
        own-in history entry event.entries event.is_entry before event.begun event.stands event.up works
        ∙ ((λ i. after_request now.place (stands_outside i) (asks i) (is_conflict told)) ∙ by asked itself)
      where
        by : (asked : Statement) → RunsByItself asked → after_request now.place Outside (Run asked) (is_conflict told) ≡ Outside
        by of.Begin none = absurd none
        by (of.CreateTable table) none = refl
        by (of.CreateView view) none = refl
        by (of.Insert table columns rows) none = refl
        by (of.Update table sets cond) none = refl
        by (of.Delete table cond) none = refl
        by (of.Select select) none = refl
        by of.Commit none = absurd none
        by of.Rollback none = absurd none
        by (of.GdprGet table key) none = refl
        by (of.GdprForget table key) none = refl
        by of.Explain none = refl
        by of.Checkpoint none = absurd none

    -- a refusal that isn't for want of the disk leaves the state
    unmoved_outside : (why : Refusal) → told ≡ Refused why → is_failure (Refused why) ≡ false → RepresentsWorld before (happens now entry)
    unmoved_outside why is works =
        stands-unmoved history entry before before event why is refl refl (none_moved before.txns) (own_outside (ap is_failure is ∙ works) ∙ sym stands_outside)

    run_is : left_by now.flat (now.standing session) entry.request ≡ (run now.flat asked).db
    run_is = λ i. left_by now.flat (stands_outside i) (asks i)

    -- by what is told where the disk takes it
    module _ (given : Answer) (number : ℕ) (tells : Tells before.version (is_create (Run asked)) (written_by before.version (Run asked) (run before.version asked).db number) (λ verdict. reply_outside (world before.opened history) entry.session.0 verdict asked) (run before.version asked).db given)
        (took : entry.verdict ≡ Took) where
      told_took : told ≡ reply_outside now session Took asked
      told_took = told_outside ∙ ap (λ verdict. reply_outside now session verdict asked) took

      replied : told ≡ given.reply
      replied = told_took ∙ sym tells.told

      works_took : is_failure told ≡ false
      works_took = answer-works now entry took event.up

      left_is : left before.version given.next ≡ flat_after now entry told
      left_is =
          tells.leaves
          ∙ (ap (λ reply. if is_refusal reply then before.version else (run before.version asked).db) (sym told_took)
          ∙ (ap (λ (db : Db). if is_refusal told then db else (run db asked).db) event.stands.flat
          ∙ ap (λ (db : Db). if is_refusal told then now.flat else db) (sym run_is)))

      counted_is : is_some given.next ≡ is_commit now entry told
      counted_is =
          tells.counted
          ∙ ((λ i. commits (is_create (Run asked)) (event.stands.flat i) (run (event.stands.flat i) asked).db (sym told_took i))
          ∙ sym (commit-is now entry told (is_create (Run asked)) (run now.flat asked).db run_is (ap is_create asks)))

      -- what is prepared is what the entry leaves, and writes what it writes
      left_as : left before.version given.next ≡ left_where_taken now entry
      left_as = left_is ∙ sym (ap (λ (entry : Entry). flat_after now entry (answer now entry)) (under-took entry took))

      written_as : is_some given.next ≡ true → written_by before.version (Run asked) (run before.version asked).db number ≡ written_of now entry number
      written_as some =
          let accepted : is_refusal told ≡ false = ap is_refusal told_took ∙ accepted-of _ _ (sym tells.counted ∙ some) in
          let behind : left_where_taken now entry ≡ (run now.flat asked).db =
          ap (λ (entry : Entry). flat_after now entry (answer now entry)) (under-took entry took)
          ∙ (ap (λ (b : Bool). if b then now.flat else left_by now.flat (now.standing session) entry.request) accepted ∙ run_is) in
          (λ i. written_by (event.stands.flat i) (sym asks i) (run (event.stands.flat i) asked).db number) ∙ ap (λ db. written_by now.flat entry.request db number) (sym behind)

      -- what is installed is what the entry does to the disk
      pub stores-outside : is_disk (reply_outside (world before.opened history) entry.session.0 DiskFault asked) ≡ asks_disk (world before.opened history) entry → {D : Type 0} (holds : D → Area → List ℕ) (leaves : D → Area → List ℕ → Type 0) (moment : D → ℕ)
          (might_have_left : D → ℕ → List ℕ → List ℕ → Type 0) (honest : D → Bool) (faults : D → ℕ) (store new : StoreDisk D) (verdict : Verdict) → number ≡ store.commits
          → Carries holds leaves moment might_have_left honest faults before.version (left before.version given.next) (is_some given.next) (is_some given.next) (is_laid given.next) (write_size (store.commits + 1) given.next) store verdict new
          → Carries holds leaves moment might_have_left honest faults (world before.opened history).flat (happens (world before.opened history) entry).flat (asks_disk (world before.opened history) entry)
          (is_commit (world before.opened history) entry (answer (world before.opened history) entry)) (lays_anew entry.request) (bytes_written (world before.opened history) entry store.commits) store verdict new
      stores-outside asks_is holds leaves moment might_have_left honest faults store new verdict numbered carries =
          let works : is_disk (reply_outside now session Took asked) ≡ false = sym (ap is_disk told_took) ∙ took-works now entry took event.up in
          let asked_is = sym (disk-decided (λ verdict. reply_outside now session verdict asked) given.next tells.decided works) ∙ asks_is in
          let size : write_size (store.commits + 1) given.next ≡ bytes_written now entry store.commits =
          subst (λ number. write_size (number + 1) given.next ≡ bytes_written now entry number) numbered
          (bytes-prepared now entry number before.version given.next _ asked_is tells.writes (numbered-by asked itself before.version (run before.version asked).db number) written_as (λ some. left_as)) in
          carries-of holds leaves moment might_have_left honest faults before.version now.flat (left before.version given.next) (happens now entry).flat (is_some given.next) (asks_disk now entry)
          (is_some given.next) (is_commit now entry told) (is_laid given.next) (lays_anew entry.request) (write_size (store.commits + 1) given.next) (bytes_written now entry store.commits) store new verdict
          event.stands.flat left_is asked_is counted_is
          (λ asked_it. laid-as given.next _ tells.writes (asked_is ∙ asked_it) ∙ (laid_by asked itself before.version (run before.version asked).db number ∙ sym (ap lays_anew asks))) size carries

      module _ (erased : Erases before.version (Run asked) given) (after : State) (place : Place) (at : place.0 ≡ length history)
          (version : after.version ≡ left before.version given.next) (weighs : weight after.version ≡ after.weighs)
          (doomed : HasDoomed given.erased place before.txns after.txns) where
        erased_now : Erases now.flat (Run asked) given
        erased_now = subst (λ db. Erases db (Run asked) given) event.stands.flat erased

        -- whether another session is doomed is whether an erased row lies on what it holds
        dooms_is : (other : ℕ) → dooms now entry told other ≡ lie_on given.erased (held now other)
        unfolding dooms
        dooms_is other =
            (λ i. not (is_refusal (replied i)) && option_map_or (is_doomed_by now other) (forgotten now.flat.schema (asks i)) false) ∙ sym (erased_now (held now other))

        others : (other : ℕ) → (other ≡ session → ⊥) → IsLeft history entry event.entries event.is_entry before event.begun event.stands event.up place after other
        others other differs = by (in_range other)
          where
            by : ((other ≡ 0) ⊎ (SESSIONS < other)) ⊎ ((1 ≤ other) × (other ≤ SESSIONS))
                → IsLeft history entry event.entries event.is_entry before event.begun event.stands event.up place after other
            by (inr within) = record {
              states = (doomed.once_doomed (held now) event.stands.held other within.0 within.1).0
                  ∙ ap (λ (b : Bool). if b then once_doomed place (state_by before.txns.states other) else state_by before.txns.states other) (sym (dooms_is other));
              held = (doomed.once_doomed (held now) event.stands.held other within.0 within.1).1
                  ∙ ap (λ (b : Bool). if b then [] else held_by before.txns.held other) (sym (dooms_is other));
            }
            by (inl out) =
                let undoomed : dooms now entry told other ≡ false = dooms_is other ∙ (ap (lie_on given.erased) (none_held other out) ∙ none_lie given.erased) in
                record {
                  states = (doomed.others other out).0 ∙ ap (λ (b : Bool). if b then once_doomed place (state_by before.txns.states other) else state_by before.txns.states other) (sym undoomed);
                  held = (doomed.others other out).1 ∙ ap (λ (b : Bool). if b then [] else held_by before.txns.held other) (sym undoomed);
                }

        own_kept : state_by after.txns.states session ≡ kept.Nothing
        own_kept =
            (doomed.once_doomed (held now) event.stands.held session event.is_entry.first event.is_entry.last).0
            ∙ doomed_nothing (lie_on given.erased (held now session)) place own nothing

        own_held : RepresentsItems (held_by after.txns.held session) []
        unfolding held
        own_held =
            subst (λ items. RepresentsItems items []) (sym ((doomed.once_doomed (held now) event.stands.held session event.is_entry.first event.is_entry.last).1))
            (by (lie_on given.erased (held now session)))
          where
            before_held : RepresentsItems (held_by before.txns.held session) []
            before_held = subst (λ stood. RepresentsItems (held_by before.txns.held session) (items_held now.flat.schema stood)) stands_outside (event.stands.held session)

            by : (b : Bool) → RepresentsItems (if b then [] else held_by before.txns.held session) []
            by true = stand-same []
            by false = before_held

        serves_took : (answer now entry ≡ given.reply) × (Took ≢ DiskFault → RepresentsWorld after (happens now entry)) × (is_disk given.reply ≡ false)
        serves_took = (
          replied,
          λ other. stands-next history entry event.entries event.is_entry before event.begun event.stands event.up after place at (version ∙ left_is) weighs
              (subst (λ stood. RepresentsSession (flat_after now entry told) (state_by after.txns.states session) stood) (sym (own_outside works_took))
              (subst (λ one. RepresentsSession (flat_after now entry told) one Outside) (sym own_kept) tt))
              (subst (λ stood. RepresentsItems (held_by after.txns.held session) (items_held (flat_after now entry told).schema stood)) (sym (own_outside works_took)) own_held)
              others,
          sym (ap is_disk replied) ∙ took-works now entry took event.up,
        )

module _ (history : History) (entry : Entry) (before after : State) (event : IsEvent before history entry) (place : Place) (at : place.0 ≡ length history)
    (asked : Statement) (asks : entry.request ≡ Run asked) (itself : RunsByItself asked) (nothing : state_by before.txns.states entry.session.0 ≡ kept.Nothing)
    (given : Answer) (number : ℕ) (tells : Tells before.version (is_create (Run asked)) (written_by before.version (Run asked) (run before.version asked).db number) (λ verdict. reply_outside (world before.opened history) entry.session.0 verdict asked) (run before.version asked).db given) where
  abbrev session_of : ℕ
  session_of = entry.session.0

  abbrev replies : Verdict → Reply
  replies verdict = reply_outside (world before.opened history) session_of verdict asked

  -- what it is answered, by what the disk said
  pub told-outside : (verdict : Verdict) → answer (world before.opened history) (under verdict entry) ≡ reply_outside (world before.opened history) entry.session.0 verdict asked
  told-outside verdict = told_outside history (under verdict entry) before (event-under history entry before verdict event) asked asks itself nothing

  refused_by : (verdict : Verdict) (reply : Reply) → given.next ≢ None → reply ≡ by_verdict verdict given.reply → (verdict ≡ Took → ⊥) → answer (world before.opened history) (under verdict entry) ≡ by_verdict verdict given.reply
  refused_by verdict reply some is other = told-outside verdict ∙ (decided-by replies given.next tells.decided some verdict ∙ ap (by_verdict verdict) (sym tells.told))

  serves_by : (verdict : Verdict) (reply : Reply) → Erases before.version (Run asked) given → reply ≡ by_verdict verdict given.reply
      → (verdict ≡ Took → after.version ≡ left before.version given.next) → (verdict ≡ Took → weight after.version ≡ after.weighs) → (verdict ≡ Took → HasDoomed given.erased place before.txns after.txns)
      → (verdict ≡ NoRoom → after ≡ before) → (verdict ≢ Took → given.next ≢ None) → Serves {E = ℕ} before.opened after history entry (Ok (verdict, reply))
  serves_by Took reply erased is version weighs doomed stays some =
      subst (λ reply. Serves {E = ℕ} before.opened after history entry (Ok (Took, reply))) (sym is)
      (serves_took history (under Took entry) before (event-under history entry before Took event) asked asks itself nothing given number tells refl erased after place at (version refl) (weighs refl) (doomed refl))
  serves_by DiskFault reply erased is version weighs doomed stays some =
      let other : DiskFault ≢ Took = λ same. absurd (cc) in
      subst (λ reply. Serves {E = ℕ} before.opened after history entry (Ok (DiskFault, reply))) (sym is)
      (serves-fault history entry before after event (refused_by DiskFault reply (some other) is other))
  serves_by NoRoom reply erased is version weighs doomed stays some =
      let other : NoRoom ≢ Took = λ same. absurd (cc) in
      let told = refused_by NoRoom reply (some other) is other in
      subst (λ reply. Serves {E = ℕ} before.opened after history entry (Ok (NoRoom, reply))) (sym is) (
        told,
        λ no_fault. subst (λ state. RepresentsWorld state (happens (world before.opened history) (under NoRoom entry))) (sym (stays refl))
            (unmoved_outside history (under NoRoom entry) before (event-under history entry before NoRoom event) asked asks itself nothing (refusal.Limit limit.Room) told refl),
        refl,
      )

  -- What an answer leads to is left where the disk takes its record; where there is no room for it the state is as it was.
  pub serves-installed : Erases before.version (Run asked) given → (told : Verdict × Reply) → told.1 ≡ by_verdict told.0 given.reply
      → (told.0 ≡ Took → after.version ≡ left before.version given.next) → (told.0 ≡ Took → weight after.version ≡ after.weighs) → (told.0 ≡ Took → HasDoomed given.erased place before.txns after.txns)
      → (told.0 ≡ NoRoom → after ≡ before) → (told.0 ≢ Took → given.next ≢ None) → Serves {E = ℕ} before.opened after history entry (Ok told)
  serves-installed erased told is version weighs doomed stays some = serves_by told.0 told.1 erased is version weighs doomed stays some

  -- by what installing it came to: where memory was refused the state is as it was
  pub serves-result : {E : Type 0} → Erases before.version (Run asked) given → (result : Result (Verdict × Reply) E) → IfOk result (λ told. told.1 ≡ by_verdict told.0 given.reply)
      → IfOk result (λ told. told.0 ≡ Took → after.version ≡ left before.version given.next) → IfOk result (λ told. told.0 ≡ Took → weight after.version ≡ after.weighs)
      → IfOk result (λ told. told.0 ≡ Took → HasDoomed given.erased place before.txns after.txns) → IfOk result (λ told. told.0 ≡ NoRoom → after ≡ before) → IfOk result (λ told. told.0 ≢ Took → given.next ≢ None)
      → OnErr result (after ≡ before) → Serves before.opened after history entry result
  serves-result erased (Ok told) is version weighs doomed stays some same = serves-installed erased told is version weighs doomed stays some
  serves-result erased (Err refused) is version weighs doomed stays some same =
      (subst (λ state. RepresentsWorld state (world before.opened history)) (sym same) event.stands, unmade-outside history entry before event nothing asked asks itself)

  -- and so it is stored
  pub stores-installed : entry.verdict ≡ Took → {D : Type 0} (holds : D → Area → List ℕ) (leaves : D → Area → List ℕ → Type 0) (moment : D → ℕ)
      (might_have_left : D → ℕ → List ℕ → List ℕ → Type 0) (honest : D → Bool) (faults : D → ℕ) (store new : StoreDisk D) (verdict : Verdict) → number ≡ store.commits
      → Carries holds leaves moment might_have_left honest faults before.version (left before.version given.next) (is_some given.next) (is_some given.next) (is_laid given.next) (write_size (store.commits + 1) given.next) store verdict new
      → Carries holds leaves moment might_have_left honest faults (world before.opened history).flat (happens (world before.opened history) entry).flat (asks_disk (world before.opened history) entry)
      (is_commit (world before.opened history) entry (answer (world before.opened history) entry)) (lays_anew entry.request) (bytes_written (world before.opened history) entry store.commits) store verdict new
  stores-installed took = stores-outside history entry before event asked asks itself nothing given number tells took (sym (asks-is (world before.opened history) entry (replies DiskFault) (told-outside DiskFault)))

  pub stores-result : entry.verdict ≡ Took → {D E : Type 0} (holds : D → Area → List ℕ) (leaves : D → Area → List ℕ → Type 0) (moment : D → ℕ)
      (might_have_left : D → ℕ → List ℕ → List ℕ → Type 0) (honest : D → Bool) (faults : D → ℕ) (store new : StoreDisk D) → number ≡ store.commits → (result : Result (Verdict × Reply) E)
      → IfOk result (λ told. Carries holds leaves moment might_have_left honest faults before.version (left before.version given.next) (is_some given.next) (is_some given.next) (is_laid given.next) (write_size (store.commits + 1) given.next) store told.0 new)
      → OnErr result (new ≡ store) → Stores holds leaves moment might_have_left honest faults (world before.opened history) entry store result new
  stores-result took holds leaves moment might_have_left honest faults store new numbered (Ok told) carries same =
      stores-installed took holds leaves moment might_have_left honest faults store new told.0 numbered carries
  stores-result took holds leaves moment might_have_left honest faults store new numbered (Err refused) carries same = same
