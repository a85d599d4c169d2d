-- What an engine keeps, before any call and with one call more.
use Rattle.std.proofs.Common.{◌≡◌, ◌∙◌, ℕ, ◌+◌, ◌<◌, ◌≤◌, List, [], ◌∷◌, ◌++◌, Bool, true, false, length, inl, inr, refl, ap, sym, subst, arith}
use Rattle.std.specs.Prelude.{◌≢◌, ◌⊎◌, Contains, ◌&&◌, nat_lt, Option, None, Some, Result, Ok, Err, IfOk, OnErr, IsTrue, is_some, option_map, if◌then◌else◌}
use Rattle.std.specs.Option.{option_map_or}
use Rattle.std.proofs.lemmas.Bool.{ltb-false, ltb-true}
use Rattle.std.proofs.lemmas.List.{length-append}
use Rattle.own_base.specs.declared.number.Area.{Area}
use Rattle.own_base.specs.declared.number.Area.TheVariants.{A, B}
use Rattle.own_base.specs.declared.number.Place.{Place}
use Rattle.own_model.specs.declared.history.Entry.{Entry}
use Rattle.own_model.specs.declared.history.Verdict.{Verdict}
use Rattle.own_model.specs.declared.history.Verdict.TheVariants.{Took, DiskFault, NoRoom}
use Rattle.own_model.specs.declared.reply.Reply.{Reply}
use Rattle.own_model.specs.Db.{Db}
use Rattle.outer_world.specs.FaultCount.{CountRose}
use Rattle.outer_world.specs.LeavesOnly.{LeavesOnly}
use Rattle.outer_world.proofs.Moments.{weaker}
use Rattle.schema_model.proofs.Places.{all-append}
use Rattle.state_model.specs.Sound.{Sound}
use Rattle.history_model.specs.AsksDisk.{asks_disk, under}
use Rattle.history_model.specs.Commits.{commits, is_commit}
use Rattle.history_model.specs.Fails.{fails_at}
use Rattle.history_model.specs.History.{History, down_after, flat, happens, is_disk, reply, world}
use Rattle.history_model.specs.Made.{Spared}
use Rattle.history_model.specs.Reply.{answer, by_verdict, is_refusal}
use Rattle.history_model.specs.Serial.{IsEntry, IsHistory}
use Rattle.history_model.specs.World.{World}
use Rattle.history_model.proofs.DiskAnswers.{answer-decided}
use Rattle.history_model.proofs.HistoryLemmas.{flat-world, reply-last, world-append}
use Rattle.history_model.proofs.RefusalLemmas.{answer-down}
use Rattle.crash_model.specs.Alone.{IsAloneOn, is_laid_behind, laid_by}
use Rattle.crash_model.proofs.AloneLemmas.{laid-append, laid-none}
use Rattle.crash_model.specs.LeftBy.{IsLate, IsLeftBy, IsWhole}
use Rattle.crash_model.specs.MovesDisk.{IsLeftByEither, MovesDisk, MovesDiskOnce}
use Rattle.crash_model.specs.Room.{IsNoRoomExact, JournalEnd, bytes_written, is_taken, journal_behind, journal_with, lays_anew, room}
use Rattle.crash_model.specs.StoreIn.{IsStoreIn}
use Rattle.crash_model.proofs.LeftLemmas.{commits-down, commits-more, down-whole, late-last, whole-none, whole-refused}
use Rattle.crash_model.proofs.Moves.{among-more, moves-more, moves-none}
use Rattle.crash_model.proofs.RoomLemmas.{asks-under, bytes-under, exact-more, exact-none, journal-append, journal-none}
use Rattle.own_model.specs.declared.limit.TheConstants.{JOURNAL_ROOM}
use Rattle.store_disk.specs.Kept.{HasRoomFor, IsKept}
use Rattle.store_disk.specs.declared.store_disk.StoreDisk.{StoreDisk}
use Rattle.store_disk.proofs.LeftKept.{kept-left}
use Rattle.engine_core.specs.Made.{IsEndOf, IsMade, Stands}
use Rattle.engine_core.specs.RepresentsWorld.{RepresentsWorld}
use Rattle.engine_core.specs.Seen.{IsAloneBehind, Makes, Seen, Writes}
use Rattle.engine_core.specs.Stored.{Carries, IsLaidAnew, grown_by, is_fault, kept_by}
use Rattle.engine_core.specs.declared.state.State.{State}

-- the disk has failed where it fails now
fails_of : (down : Option Place) (b : Bool) (p : ℕ) → option_map (λ (place : Place). place.0) down ≡ (if b then Some p else None) → is_some down ≡ b
fails_of None true p is = let never : ◌≡◌ {A = Option ℕ} None (Some p) = is in cc
fails_of None false p is = refl
fails_of (Some q) true p is = refl
fails_of (Some q) false p is = let never : ◌≡◌ {A = Option ℕ} (Some q.0) None = is in cc

is_failed : (verdict : Verdict) → is_fault verdict ≡ true → verdict ≡ DiskFault
is_failed Took is = let never : false ≡ true = is in cc
is_failed DiskFault is = refl
is_failed NoRoom is = let never : false ≡ true = is in cc

none_of : (down : Option Place) → is_some down ≡ false → down ≡ None
none_of None is = refl
none_of (Some place) is = let never : true ≡ false = is in cc

-- an entry of which the disk said what it says
pub under_same : (call : Entry) → call.verdict ≡ Took → under Took call ≡ call
under_same call took = λ i. record { session = call.session; verdict = sym took i; call = call.call; request = call.request }

-- what asks the disk, and isn't taken, is refused
module _ (world_before : World) (call : Entry) where
  asked_of : (b : Bool) (verdict : Verdict) → asks_disk world_before call ≡ b → verdict ≢ Took → (asks_disk world_before call ≡ false → verdict ≡ Took) → asks_disk world_before call ≡ true
  asked_of true verdict is other unasked = is
  asked_of false verdict is other unasked = absurd (other (unasked is))

  refused_step : (verdict : Verdict) → verdict ≢ Took → (reply : Reply) → is_refusal (by_verdict verdict reply) ≡ true
  refused_step Took other reply = absurd (other refl)
  refused_step DiskFault other reply = refl
  refused_step NoRoom other reply = refl

  pub refused-under : (verdict : Verdict) → verdict ≢ Took → (asks_disk world_before call ≡ false → verdict ≡ Took) → is_refusal (answer world_before (under verdict call)) ≡ true
  refused-under verdict other unasked =
      let asked = asked_of _ verdict refl other unasked in
      ap is_refusal (answer-decided world_before call verdict asked).0 ∙ refused_step verdict other (answer world_before (under Took call))

  -- it leaves the flat database, and is no commit
  pub flat-refused : (entry : Entry) → is_refusal (answer world_before entry) ≡ true → (happens world_before entry).flat ≡ world_before.flat
  flat-refused entry refused = rw refused refl

  pub uncommitted-refused : (entry : Entry) → is_refusal (answer world_before entry) ≡ true → is_commit world_before entry (answer world_before entry) ≡ false
  uncommitted-refused entry refused = rw refused refl

  -- the database that is kept is the flat one
  pub kept-flat : call.verdict ≡ Took → (verdict : Verdict) → (asks_disk world_before call ≡ false → verdict ≡ Took)
      → kept_by verdict world_before.flat (happens world_before call).flat ≡ (happens world_before (under verdict call)).flat
  kept-flat took Took unasked = ap (λ entry. (happens world_before entry).flat) (sym (under_same call took))
  kept-flat took DiskFault unasked = sym (flat-refused (under DiskFault call) (refused-under DiskFault (λ is. cc) unasked))
  kept-flat took NoRoom unasked = sym (flat-refused (under NoRoom call) (refused-under NoRoom (λ is. cc) unasked))

  -- and counted is what commits
  pub grown-commits : call.verdict ≡ Took → (verdict : Verdict) → (asks_disk world_before call ≡ false → verdict ≡ Took)
      → grown_by verdict (is_commit world_before call (answer world_before call))
      ≡ (if is_commit world_before (under verdict call) (answer world_before (under verdict call)) then 1 else 0)
  grown-commits took Took unasked =
      ap (λ (entry : Entry). if is_commit world_before entry (answer world_before entry) then 1 else 0) (sym (under_same call took))
  grown-commits took DiskFault unasked = rw (uncommitted-refused (under DiskFault call) (refused-under DiskFault (λ is. cc) unasked)) refl
  grown-commits took NoRoom unasked = rw (uncommitted-refused (under NoRoom call) (refused-under NoRoom (λ is. cc) unasked)) refl

-- how many commits there are with an entry more
long_if : (b : Bool) (place : ℕ) → length (if b then place ∷ [] else []) ≡ (if b then 1 else 0)
long_if true place = refl
long_if false place = refl

pub commits-counted : (base : Db) (history : History) (entry : Entry)
    → length (commits base (history ++ entry ∷ [])) ≡ length (commits base history) + (if is_commit (world base history) entry (answer (world base history) entry) then 1 else 0)
commits-counted base history entry =
    let own = if is_commit (world base history) entry (answer (world base history) entry) then length history ∷ [] else [] in
    ap length (commits-more base history entry)
    ∙ (length-append (commits base history) own
    ∙ ap (λ n. length (commits base history) + n) (long_if (is_commit (world base history) entry (answer (world base history) entry)) (length history)))

module _ {D : Type 0} (holds : D → Area → List ℕ) (leaves : D → Area → List ℕ → Type 0) (moment : D → ℕ) (might : D → ℕ → List ℕ → List ℕ → Type 0) (honest : D → Bool) (faults : D → ℕ)
    (only_now : (disk : D) (a b : List ℕ) → might disk (moment disk) a b → leaves disk A a × leaves disk B b)
    (now_counts : (disk : D) (since : ℕ) (a b : List ℕ) → since ≤ moment disk → leaves disk A a → leaves disk B b → might disk since a b) where
  -- where the journal stands after a call that the disk didn't fail
  journal_moved : (verdict : Verdict) (asks lays counts : Bool) (size : ℕ) (db next : Db) (before after : StoreDisk D) (at : JournalEnd)
      → Carries holds leaves moment might honest faults db next asks counts lays size before verdict after → verdict ≢ DiskFault
      → IsEndOf before.journal at → IsEndOf after.journal (if is_taken verdict && asks then journal_with at lays size else at)
  journal_moved Took false lays counts size db next before after at carries sound was = subst (λ (store : StoreDisk D). IsEndOf store.journal at) (sym (carries.unasked refl).0) was
  journal_moved Took true true counts size db next before after at carries sound was =
      let laid = carries.anew refl refl refl in
      (laid.at.of_epoch ∙ ap (λ n. n + 1) was.0, laid.at.up_to)
  journal_moved Took true false counts size db next before after at carries sound was =
      let added = carries.added refl refl refl in
      (added.0 ∙ was.0, added.1 ∙ ap (λ n. n + size) was.1)
  journal_moved DiskFault asks lays counts size db next before after at carries sound was = absurd (sound refl)
  journal_moved NoRoom asks lays counts size db next before after at carries sound was = subst (λ (store : StoreDisk D). IsEndOf store.journal at) (sym (carries.room refl).0) was

  -- nothing but this database is there, where the store was laid anew
  abbrev alone_in : Db → StoreDisk D → Type 0
  alone_in db store = IsTrue (honest store.journal.disk) → IsAloneOn holds leaves store.journal.disk db store.commits store.journal.epoch store.journal.area

  abbrev alone_by : Bool → Db → StoreDisk D → Type 0
  alone_by laid db store = laid ≡ true → alone_in db store

  -- a disk that failed isn't laid anew
  works_laid : (verdict : Verdict) (asks lays was_laid : Bool) → (asks ≡ false → verdict ≡ Took) → (if asks then laid_by was_laid verdict lays else was_laid) ≡ true → is_fault verdict ≡ false
  works_laid Took asks lays was_laid unasked laid = refl
  works_laid NoRoom asks lays was_laid unasked laid = refl
  works_laid DiskFault true lays was_laid unasked laid = let never : false ≡ true = laid in absurd (cc)
  works_laid DiskFault false lays was_laid unasked laid = let never : ◌≡◌ {A = Verdict} DiskFault Took = unasked refl in absurd (cc)

  -- so it goes on over a call: laid anew it is there, and where nothing is done to the disk it stays
  alone_moved : (verdict : Verdict) (asks lays counts was_laid : Bool) (size : ℕ) (db next : Db) (before after : StoreDisk D)
      → Carries holds leaves moment might honest faults db next asks counts lays size before verdict after
      → alone_by was_laid db before → alone_by (if asks then laid_by was_laid verdict lays else was_laid) (kept_by verdict db next) after
  alone_moved Took false lays counts was_laid size db next before after carries was =
      let none = carries.unasked refl in
      subst (λ store. alone_by was_laid next store) (sym none.0) (subst (λ db. alone_by was_laid db before) (sym none.2) was)
  alone_moved Took true true counts was_laid size db next before after carries was = λ laid is.
      let anew = carries.anew refl refl refl in
      subst (λ epoch. IsAloneOn holds leaves after.journal.disk next after.commits epoch after.journal.area) (sym anew.at.of_epoch)
      (subst (λ area. IsAloneOn holds leaves after.journal.disk next after.commits (before.journal.epoch + 1) area) (sym anew.at.in_area) (anew.alone (subst IsTrue carries.honesty is)))
  alone_moved Took true false counts was_laid size db next before after carries was = λ laid is. let never : false ≡ true = laid in absurd (cc)
  alone_moved DiskFault false lays counts was_laid size db next before after carries was =
      let none = carries.unasked refl in
      let never : ◌≡◌ {A = Verdict} DiskFault Took = none.1 in absurd (cc)
  alone_moved DiskFault true lays counts was_laid size db next before after carries was = λ laid is. let never : false ≡ true = laid in absurd (cc)
  alone_moved NoRoom false lays counts was_laid size db next before after carries was =
      let none = carries.unasked refl in
      let never : ◌≡◌ {A = Verdict} NoRoom Took = none.1 in absurd (cc)
  alone_moved NoRoom true lays counts was_laid size db next before after carries was = subst (λ store. alone_by was_laid db store) (sym (carries.room refl).0) was

  -- before any call
  pub stands-begun : (state : State) (store : StoreDisk D) (start : ℕ) (at : JournalEnd) → IsEndOf store.journal at → start ≡ store.commits → Sound state.opened → RepresentsWorld state (world state.opened []) → store.journal.failed ≡ false
      → (IsTrue (honest store.journal.disk) → IsKept holds leaves store.journal state.opened store.commits)
      → Stands holds leaves moment might honest faults store.journal.disk start at state store None []
  unfolding flat commits world
  stands-begun state store start at ends begins sound represents up kept = record {
    entries = tt;
    begun = sound;
    represents = λ none. represents;
    down_is = refl;
    failed = up;
    kept = λ none is. kept is;
    count = omega arith;
    left = λ is a b in_a in_b.
        inl (subst (λ n. IsWhole state.opened n [] a b) (sym begins)
        (whole-none state.opened store.commits a b (kept-left holds leaves store.journal state.opened store.commits (kept is) a b in_a in_b)));
    ends = λ none. subst (IsEndOf store.journal) (sym (journal-none at state.opened start)) ends;
    exact = exact-none at state.opened start;
    alone = λ laid. let never : false ≡ true = sym (laid-none state.opened) ∙ laid in absurd (cc);
    moves = moves-none leaves moment might only_now honest faults state.opened start sound store.journal.disk
        (λ is a b in_a in_b. subst (IsStoreIn a b state.opened) (sym begins) (kept-left holds leaves store.journal state.opened store.commits (kept is) a b in_a in_b));
  }

  module _ {opening : D} (start : ℕ) (at : JournalEnd) (state_old state : State) (store_old store : StoreDisk D) (down_old down : Option Place) (history_old history : History) (old : Stands holds leaves moment might honest faults opening start at state_old store_old down_old history_old)
      (call : Entry) (took : call.verdict ≡ Took) (place : ℕ) (told : Reply)
      (made : IsMade holds leaves moment might honest faults state_old.opened history_old history state store_old store down_old down call place told) where
    abbrev base : Db
    base = state_old.opened

    abbrev now : World
    now = world base history_old

    abbrev entry : Entry
    entry = under made.verdict call

    after_is : world base history ≡ happens now entry
    after_is = ap (world base) made.history ∙ world-append base history_old entry

    flat_after : flat base history ≡ (happens now entry).flat
    flat_after = flat-world base history ∙ ap (λ (w : World). w.flat) after_is

    -- while the disk hadn't failed
    module _ (up : down_old ≡ None) where
      carries : Carries holds leaves moment might honest faults now.flat (happens now call).flat (asks_disk now call) (is_commit now call (answer now call)) (lays_anew call.request) (bytes_written now call store_old.commits) store_old made.verdict store
      carries = made.carries up

      unasked : asks_disk now call ≡ false → made.verdict ≡ Took
      unasked is = (carries.unasked is).1

      was_up : now.down ≡ None
      was_up = old.down_is ∙ ap (option_map (λ (place : Place). place.0)) up

      down_then : option_map (λ (place : Place). place.0) down ≡ (if is_fault made.verdict then Some now.place else None)
      down_then =
          sym made.down_is
          ∙ (ap (λ (w : World). w.down) after_is
          ∙ ((λ i. down_after now.place (was_up i) (is_disk (made.answered i))) ∙ ap (λ b. if b then Some now.place else None) made.fault))

      failed_is : is_some down ≡ is_fault made.verdict
      failed_is = fails_of down (is_fault made.verdict) now.place down_then

      honest_old : IsTrue (honest store.journal.disk) → IsTrue (honest store_old.journal.disk)
      honest_old is = subst IsTrue carries.honesty is

      kept_now : made.verdict ≢ DiskFault → IsTrue (honest store.journal.disk) → IsKept holds leaves store.journal (flat base history) store.commits
      kept_now sound is =
          subst (λ db. IsKept holds leaves store.journal db store.commits) (kept-flat now call took made.verdict unasked ∙ sym flat_after) (carries.kept sound (honest_old is))

      count_now : store.commits ≡ start + length (commits base history)
      count_now =
          let was = old.count in
          let grown = carries.commits in
          let by = grown-commits now call took made.verdict unasked in
          let long = ap (λ h. length (commits base h)) made.history ∙ commits-counted base history_old entry in
          omega arith

      whole_kept : (a b : List ℕ) → IsStoreIn a b (flat base history) store.commits → IsWhole base start history a b
      whole_kept a b is = subst (IsStoreIn a b (flat base history)) count_now is

      -- a crash leaves what was there, or it with the call
      whole_old : (a b : List ℕ) → IsStoreIn a b now.flat store_old.commits → IsWhole base start history_old a b
      whole_old a b is = subst (IsStoreIn a b (flat base history_old)) old.count (subst (λ db. IsStoreIn a b db store_old.commits) (sym (flat-world base history_old)) is)

      whole_took : (a b : List ℕ) → IsStoreIn a b (happens now call).flat (store_old.commits + (if is_commit now call (answer now call) then 1 else 0))
          → IsWhole base start (history_old ++ under Took call ∷ []) a b
      whole_took a b is =
          let same : under Took call ≡ call = under_same call took in
          let flat_is : flat base (history_old ++ call ∷ []) ≡ (happens now call).flat = flat-world base (history_old ++ call ∷ []) ∙ ap (λ (w : World). w.flat) (world-append base history_old call) in
          let long = commits-counted base history_old call in
          let was = old.count in
          let number : store_old.commits + (if is_commit now call (answer now call) then 1 else 0) ≡ start + length (commits base (history_old ++ call ∷ [])) = omega arith in
          subst (λ entry. IsWhole base start (history_old ++ entry ∷ []) a b) (sym same)
          (subst (IsStoreIn a b (flat base (history_old ++ call ∷ []))) number (subst (λ db. IsStoreIn a b db (store_old.commits + (if is_commit now call (answer now call) then 1 else 0))) (sym flat_is) is))

      late_next : made.verdict ≡ DiskFault → (a b : List ℕ) → IsStoreIn a b (happens now call).flat (store_old.commits + (if is_commit now call (answer now call) then 1 else 0)) → IsLate base start history a b
      late_next is a b next =
          let asked = asked_of now call _ DiskFault refl (λ never. let no : ◌≡◌ {A = Verdict} DiskFault Took = never in cc) (λ unasks. sym is ∙ unasked unasks) in
          let refused : answer now (under DiskFault call) ≡ by_verdict DiskFault (answer now (under Took call)) = (answer-decided now call DiskFault asked).0 in
          subst (λ h. IsLate base start h a b) (ap (λ v. history_old ++ under v call ∷ []) (sym is) ∙ sym made.history) (late-last base start a b history_old call refused (whole_took a b next))

      either_left : (verdict : Verdict) → made.verdict ≡ verdict → (a b : List ℕ)
          → IsStoreIn a b now.flat store_old.commits ⊎ IsStoreIn a b (happens now call).flat (store_old.commits + (if is_commit now call (answer now call) then 1 else 0))
          → verdict ≢ NoRoom → IsLeftBy base start history_old a b ⊎ IsLeftBy base start history a b
      either_left verdict is a b (inl was) other = inl (inl (whole_old a b was))
      either_left Took is a b (inr next) other =
          inr (inl (subst (λ h. IsWhole base start h a b) (ap (λ v. history_old ++ under v call ∷ []) (sym is) ∙ sym made.history) (whole_took a b next)))
      either_left DiskFault is a b (inr next) other = inr (inr (late_next is a b next))
      either_left NoRoom is a b (inr next) other = absurd (other refl)

      -- and where the disk failed, one of them
      failed_left : made.verdict ≡ DiskFault → (a b : List ℕ)
          → IsStoreIn a b now.flat store_old.commits ⊎ IsStoreIn a b (happens now call).flat (store_old.commits + (if is_commit now call (answer now call) then 1 else 0))
          → IsLeftBy base start history a b
      failed_left is a b (inl was) =
          let refused : is_refusal (answer now entry) ≡ true = refused-under now call made.verdict (λ took. let never : DiskFault ≡ Took = sym is ∙ took in cc) unasked in
          inl (subst (λ h. IsWhole base start h a b) (sym made.history) (whole-refused base start a b history_old entry refused (whole_old a b was)))
      failed_left is a b (inr next) = inr (late_next is a b next)

      -- What a crash leaves now
      left_now : (verdict : Verdict) → made.verdict ≡ verdict → IsTrue (honest store.journal.disk) → (a b : List ℕ) → leaves store.journal.disk A a → leaves store.journal.disk B b → IsLeftBy base start history a b
      left_now DiskFault is honest_now a b in_a in_b =
          let between = (carries.left (honest_old honest_now)).between a b (now_counts store.journal.disk (moment store_old.journal.disk) a b carries.time in_a in_b) in
          failed_left is a b between
      left_now Took is honest_now a b in_a in_b =
          let kept = kept_now (λ fault. let never : Took ≡ DiskFault = sym is ∙ fault in cc) honest_now in
          inl (whole_kept a b (kept-left holds leaves store.journal (flat base history) store.commits kept a b in_a in_b))
      left_now NoRoom is honest_now a b in_a in_b =
          let kept = kept_now (λ fault. let never : NoRoom ≡ DiskFault = sym is ∙ fault in cc) honest_now in
          inl (whole_kept a b (kept-left holds leaves store.journal (flat base history) store.commits kept a b in_a in_b))

      -- where the journal stands
      bytes_is : bytes_written now call store_old.commits ≡ bytes_written now entry (start + length (commits base history_old))
      bytes_is = ap (bytes_written now call) old.count ∙ sym (bytes-under now made.verdict call (start + length (commits base history_old)))

      abbrev behind : JournalEnd
      behind = journal_behind at base start history_old

      ends_is : journal_behind at base start history
          ≡ (if is_taken made.verdict && asks_disk now call then journal_with behind (lays_anew call.request) (bytes_written now call store_old.commits) else behind)
      ends_is =
          ap (journal_behind at base start) made.history
          ∙ (journal-append at base start history_old entry
          ∙ (λ i. if is_taken made.verdict && asks-under now made.verdict call i then journal_with behind (lays_anew call.request) (sym bytes_is i) else behind))

      ends_now : made.verdict ≢ DiskFault → IsEndOf store.journal (journal_behind at base start history)
      ends_now sound =
          subst (IsEndOf store.journal) (sym ends_is)
          (journal_moved made.verdict (asks_disk now call) (lays_anew call.request) (is_commit now call (answer now call)) (bytes_written now call store_old.commits) now.flat (happens now call).flat
          store_old store behind carries sound (old.ends up))

      -- and whether nothing but the database is there
      laid_is : is_laid_behind base history ≡ (if asks_disk now call then laid_by (is_laid_behind base history_old) made.verdict (lays_anew call.request) else is_laid_behind base history_old)
      laid_is =
          ap (is_laid_behind base) made.history
          ∙ (laid-append base history_old entry
          ∙ (λ i. if asks-under now made.verdict call i then laid_by (is_laid_behind base history_old) made.verdict (lays_anew call.request) else is_laid_behind base history_old))

      alone_now : alone_by (is_laid_behind base history) (flat base history) store
      alone_now =
          subst (λ laid. alone_by laid (flat base history) store) (sym laid_is)
          (subst (λ db. alone_by (if asks_disk now call then laid_by (is_laid_behind base history_old) made.verdict (lays_anew call.request) else is_laid_behind base history_old) db store)
          (kept-flat now call took made.verdict unasked ∙ sym flat_after)
          (alone_moved made.verdict (asks_disk now call) (lays_anew call.request) (is_commit now call (answer now call)) (is_laid_behind base history_old) (bytes_written now call store_old.commits) now.flat (happens now call).flat
          store_old store carries (subst (λ db. alone_by (is_laid_behind base history_old) db store_old) (flat-world base history_old) (λ laid. (old.alone laid).1))))

      none_now : is_laid_behind base history ≡ true → down ≡ None
      none_now laid = none_of down (failed_is ∙ works_laid made.verdict (asks_disk now call) (lays_anew call.request) (is_laid_behind base history_old) unasked (sym laid_is ∙ laid))

      -- where there is no room
      abbrev needed : ℕ
      needed = room at base start history_old entry

      fits : HasRoomFor store_old.journal store_old.commits (bytes_written now call store_old.commits) → needed ≤ JOURNAL_ROOM
      fits has =
          let epoch = has.room.epoch in
          let end = has.room.end in
          let more = has.one_more in
          let ends = old.ends up in
          let at_epoch = ends.0 in
          let at_end = ends.1 in
          let count = old.count in
          let bytes = bytes_is in
          omega arith

      fitting : needed ≤ JOURNAL_ROOM → HasRoomFor store_old.journal store_old.commits (bytes_written now call store_old.commits)
      fitting few =
          let ends = old.ends up in
          let at_epoch = ends.0 in
          let at_end = ends.1 in
          let count = old.count in
          let bytes = bytes_is in
          record { room = record { epoch = omega arith; end = omega arith }; one_more = omega arith }

      lacking : (HasRoomFor store_old.journal store_old.commits (bytes_written now call store_old.commits) → ⊥) → JOURNAL_ROOM < needed
      lacking none = by (nat_lt JOURNAL_ROOM needed) refl
        where
          by : (b : Bool) → nat_lt JOURNAL_ROOM needed ≡ b → JOURNAL_ROOM < needed
          by true is = ltb-true JOURNAL_ROOM needed is
          by false is = absurd (none (fitting (ltb-false JOURNAL_ROOM needed is)))

      refused_for : (verdict : Verdict) → made.verdict ≡ verdict → asks_disk now call ≡ true → JOURNAL_ROOM < needed → made.verdict ≡ NoRoom
      refused_for NoRoom is asked lacks = is
      refused_for Took is asked lacks =
          let few = fits (carries.roomy asked (λ none. let never : ◌≡◌ {A = Verdict} Took NoRoom = sym is ∙ none in cc)) in
          absurd (omega arith)
      refused_for DiskFault is asked lacks =
          let few = fits (carries.roomy asked (λ none. let never : ◌≡◌ {A = Verdict} DiskFault NoRoom = sym is ∙ none in cc)) in
          absurd (omega arith)

      asked_for : made.verdict ≡ NoRoom → asks_disk now call ≡ true
      asked_for is = asked_of now call _ NoRoom refl (λ never. let no : ◌≡◌ {A = Verdict} NoRoom Took = never in cc) (λ unasks. sym is ∙ unasked unasks)

      exact_now : IsNoRoomExact at base start history
      exact_now =
          subst (IsNoRoomExact at base start) (sym made.history)
          (exact-more at base start history_old entry old.exact
          ((λ is. (asks-under now made.verdict call ∙ asked_for is, lacking (carries.room is).1)), (λ both. refused_for _ refl (sym (asks-under now made.verdict call) ∙ both.0) both.1)))

    -- once it had failed nothing is done to it
    module _ (failed_at : Place) (was : down_old ≡ Some failed_at) where
      still : (store ≡ store_old) × (made.verdict ≡ Took) × (down ≡ down_old)
      still = made.still (λ none. let never : ◌≡◌ {A = Option Place} None (Some failed_at) = sym none ∙ was in cc)

      was_down : now.down ≡ Some failed_at.0
      was_down = old.down_is ∙ ap (option_map (λ (place : Place). place.0)) was

      count_still : store.commits ≡ start + length (commits base history)
      count_still =
          ap (λ (store : StoreDisk D). store.commits) still.0
          ∙ (old.count
          ∙ (ap (λ places. start + length places) (sym (commits-down base history_old entry failed_at.0 was_down)) ∙ ap (λ h. start + length (commits base h)) (sym made.history)))

      unasked_still : asks_disk now call ≡ false
      unfolding asks_disk
      unasked_still = ap is_disk (answer-down now (under DiskFault call) failed_at.0 was_down)

      exact_still : IsNoRoomExact at base start history
      exact_still =
          subst (IsNoRoomExact at base start) (sym made.history)
          (exact-more at base start history_old entry old.exact (
            (λ is. let never : ◌≡◌ {A = Verdict} Took NoRoom = sym still.1 ∙ is in cc),
            (λ both. let never : true ≡ false = sym both.0 ∙ (asks-under now made.verdict call ∙ unasked_still) in cc),
          ))

      laid_still : is_laid_behind base history ≡ is_laid_behind base history_old
      laid_still =
          ap (is_laid_behind base) made.history
          ∙ (laid-append base history_old entry
          ∙ ap (λ (asks : Bool). if asks then laid_by (is_laid_behind base history_old) made.verdict (lays_anew call.request) else is_laid_behind base history_old) (asks-under now made.verdict call ∙ unasked_still))

      alone_still : is_laid_behind base history ≡ true → (down ≡ None) × alone_in (flat base history) store
      alone_still laid =
          let up = (old.alone (sym laid_still ∙ laid)).0 in
          let never : ◌≡◌ {A = Option Place} None (Some failed_at) = sym up ∙ was in absurd (cc)

      left_still : IsTrue (honest store.journal.disk) → (a b : List ℕ) → leaves store.journal.disk A a → leaves store.journal.disk B b → IsLeftBy base start history a b
      left_still =
          subst (λ (store : StoreDisk D). IsTrue (honest store.journal.disk) → (a b : List ℕ) → leaves store.journal.disk A a → leaves store.journal.disk B b → IsLeftBy base start history a b) (sym still.0)
          (λ is a b in_a in_b. subst (λ h. IsLeftBy base start h a b) (sym made.history) (down-whole base start a b history_old entry failed_at.0 was_down (old.left is a b in_a in_b)))

    -- ---- what the call did to the disk

    abbrev seen_old : Area → ℕ → Seen D
    seen_old area spare = record { base = base; start = start; area = area; journal = at; opening = opening; history = history_old; spare = spare; store = store_old }

    abbrev seen_new : Area → ℕ → Seen D
    seen_new area spare = record { base = base; start = start; area = area; journal = at; opening = opening; history = history; spare = spare; store = store }

    -- where nothing is done to it, a crash leaves what it left
    left_same : store ≡ store_old → IsTrue (honest store_old.journal.disk) → LeavesOnly moment might (IsLeftByEither base start history_old history) store_old.journal.disk store.journal.disk
    left_same same is =
        subst (λ (store : StoreDisk D). LeavesOnly moment might (IsLeftByEither base start history_old history) store_old.journal.disk store.journal.disk) (sym same) (record {
          later = omega arith;
          between = λ a b left. let both = only_now store_old.journal.disk a b left in inl (old.left is a b both.0 both.1);
          earlier = λ since a b before left. inl left;
        })

    left_asked : (up : down_old ≡ None) (verdict : Verdict) → made.verdict ≡ verdict → IsTrue (honest store_old.journal.disk)
        → LeavesOnly moment might (IsLeftByEither base start history_old history) store_old.journal.disk store.journal.disk
    left_asked up NoRoom is honest_old = left_same ((carries up).room is).0 honest_old
    left_asked up Took is honest_old =
        weaker leaves moment might only_now store_old.journal.disk store.journal.disk _ (IsLeftByEither base start history_old history)
        (λ a b left. either_left up Took is a b left (λ no. cc)) ((carries up).left honest_old)
    left_asked up DiskFault is honest_old =
        weaker leaves moment might only_now store_old.journal.disk store.journal.disk _ (IsLeftByEither base start history_old history)
        (λ a b left. either_left up DiskFault is a b left (λ no. cc)) ((carries up).left honest_old)

    writes_by : (was : Option Place) → down_old ≡ was → (area : Area) (spare spare_after : ℕ) → Writes holds leaves moment might honest faults (seen_old area spare) (seen_new area spare_after) call made.verdict told
    writes_by None was area spare spare_after =
        let by = carries was in
        record {
          fault = made.fault;
          rose = by.rose;
          steady = by.steady;
          unasked = λ asks. let none = by.unasked asks in (none.0, none.1);
          room = by.room;
          roomy = by.roomy;
          anew = λ asks lays took_it.
              subst (λ db. IsLaidAnew holds leaves honest db (bytes_written now call store_old.commits) store_old store)
              (ap (λ entry. (happens now entry).flat) (sym (under_same call took) ∙ ap (λ v. under v call) (sym took_it)) ∙ sym flat_after) (by.anew asks lays took_it);
          left = left_asked was _ refl;
          honesty = by.honesty;
          time = by.time;
          risen = by.risen;
        }
    writes_by (Some failed_at) was area spare spare_after =
        let same = (still failed_at was).0 in
        let is_took = (still failed_at was).1 in
        let disk_is : store.journal.disk ≡ store_old.journal.disk = ap (λ (store : StoreDisk D). store.journal.disk) same in
        record {
          fault = made.fault;
          rose = λ is. let never : ◌≡◌ {A = Verdict} Took DiskFault = sym is_took ∙ is in cc;
          steady = λ other. ap faults disk_is;
          unasked = λ asks. (same, is_took);
          room = λ is. let never : ◌≡◌ {A = Verdict} Took NoRoom = sym is_took ∙ is in cc;
          roomy = λ asks other. let never : true ≡ false = sym asks ∙ unasked_still failed_at was in absurd (cc);
          anew = λ asks lays took_it. let never : true ≡ false = sym asks ∙ unasked_still failed_at was in cc;
          left = left_same same;
          honesty = ap honest disk_is;
          time = let is = ap moment disk_is in omega arith;
          risen = let is = ap faults disk_is in omega arith;
        }

    pub writes-made : (area : Area) (spare spare_after : ℕ) → Writes holds leaves moment might honest faults (seen_old area spare) (seen_new area spare_after) call made.verdict told
    writes-made = writes_by _ refl

    pub makes-made : (area : Area) (spare spare_after : ℕ) → spare ≤ spare_after + 1 → Makes (seen_old area spare) (seen_new area spare_after) (under made.verdict call) place told
    makes-made area spare spare_after room = record {
      history = made.history;
      stands = made.at;
      answered =
          ap (λ h. reply base h place) made.history
          ∙ (ap (reply base (history_old ++ entry ∷ [])) made.at ∙ (reply-last base history_old entry ∙ ap (λ r. Some r) made.answered));
      base = refl;
      start = refl;
      area = refl;
      journal = refl;
      opening = refl;
      spare = room;
    }

    -- whether it was answered with a fault of the disk
    fails_now : fails_at base history (length history_old) ≡ is_fault made.verdict
    fails_now =
        ap (λ found. option_map_or is_disk found false) (ap (λ h. reply base h (length history_old)) made.history ∙ (reply-last base history_old entry ∙ ap (λ r. Some r) made.answered))
        ∙ made.fault

    -- and the entry tells a fault only where the disk's count rose
    told_once : (said : Entry) → Contains history said → said.verdict ≡ DiskFault → Contains history_old said ⊎ CountRose (faults store_old.journal.disk) (faults store.journal.disk)
    told_once said among failed =
        elim (among-more history_old (under made.verdict call) said (subst (λ h. Contains h said) made.history among)) [
          | inl before ↦ inl before
          | inr same ↦ inr ((writes-made A 0 0).rose (ap (λ (e : Entry). e.verdict) same ∙ failed))
        ]

    moved_once : MovesDiskOnce moment might honest faults base start history_old history store_old.journal.disk store.journal.disk
    moved_once =
        let writes = writes-made A 0 0 in
        record {
          honesty = writes.honesty;
          time = writes.time;
          risen = writes.risen;
          rose = λ is. writes.rose (is_failed made.verdict (sym fails_now ∙ is));
          steady = λ none. writes.steady (λ fault. let never : true ≡ false = ap is_fault (sym fault) ∙ (sym fails_now ∙ none) in cc);
          told = told_once;
          moments = λ can. inr (writes.left can);
        }

    module _ (is_entry : IsEntry call) (opened : state.opened ≡ state_old.opened) where
      entries_now : IsHistory history
      entries_now =
          subst IsHistory (sym made.history)
          (all-append IsEntry history_old (entry ∷ []) old.entries (record { readable = is_entry.readable; first = is_entry.first; last = is_entry.last }, tt))

      moves_now : MovesDisk moment might honest faults base start history opening store.journal.disk
      moves_now =
          moves-more leaves moment might only_now honest faults base start old.begun history_old history entry Spared made.history old.entries entries_now opening store_old.journal.disk
          store.journal.disk old.moves moved_once

      -- what is so over the database that was opened is so over that of the state
      over : (P : Db → Type 0) → P base → P state.opened
      over P is = subst P (sym opened) is

      by_down : (was : Option Place) → down_old ≡ was → Stands holds leaves moment might honest faults opening start at state store down history
      by_down None was = record {
        entries = entries_now;
        begun = over Sound old.begun;
        represents = λ none. over (λ db. RepresentsWorld state (world db history)) (made.represents none);
        down_is = over (λ db. (world db history).down ≡ option_map (λ (place : Place). place.0) down) made.down_is;
        failed = (carries was).failed ∙ sym (failed_is was);
        kept = λ none is.
            let sound : made.verdict ≢ DiskFault = λ fault. let never : true ≡ false = ap is_fault (sym fault) ∙ (sym (failed_is was) ∙ ap is_some none) in cc in
            over (λ db. IsKept holds leaves store.journal (flat db history) store.commits) (kept_now was sound is);
        count = over (λ db. store.commits ≡ start + length (commits db history)) (count_now was);
        left = λ is a b in_a in_b. over (λ db. IsLeftBy db start history a b) (left_now was _ refl is a b in_a in_b);
        ends = λ none.
            let sound : made.verdict ≢ DiskFault = λ fault. let never : true ≡ false = ap is_fault (sym fault) ∙ (sym (failed_is was) ∙ ap is_some none) in cc in
            over (λ db. IsEndOf store.journal (journal_behind at db start history)) (ends_now was sound);
        exact = over (λ db. IsNoRoomExact at db start history) (exact_now was);
        alone = over (λ db. is_laid_behind db history ≡ true → (down ≡ None) × alone_in (flat db history) store) (λ laid. (none_now was laid, alone_now was laid));
        moves = over (λ db. MovesDisk moment might honest faults db start history opening store.journal.disk) moves_now;
      }
      by_down (Some failed_at) was = record {
        entries = entries_now;
        begun = over Sound old.begun;
        represents = λ none. over (λ db. RepresentsWorld state (world db history)) (made.represents none);
        down_is = over (λ db. (world db history).down ≡ option_map (λ (place : Place). place.0) down) made.down_is;
        failed = ap (λ (store : StoreDisk D). store.journal.failed) (still failed_at was).0 ∙ (old.failed ∙ ap is_some (sym (still failed_at was).2));
        kept = λ none is. let never : ◌≡◌ {A = Option Place} None (Some failed_at) = sym none ∙ ((still failed_at was).2 ∙ was) in absurd (cc);
        count = over (λ db. store.commits ≡ start + length (commits db history)) (count_still failed_at was);
        left = λ is a b in_a in_b. over (λ db. IsLeftBy db start history a b) (left_still failed_at was is a b in_a in_b);
        ends = λ none. let never : ◌≡◌ {A = Option Place} None (Some failed_at) = sym none ∙ ((still failed_at was).2 ∙ was) in absurd (cc);
        exact = over (λ db. IsNoRoomExact at db start history) (exact_still failed_at was);
        alone = over (λ db. is_laid_behind db history ≡ true → (down ≡ None) × alone_in (flat db history) store) (alone_still failed_at was);
        moves = over (λ db. MovesDisk moment might honest faults db start history opening store.journal.disk) moves_now;
      }

      -- with the call
      pub stands-made : Stands holds leaves moment might honest faults opening start at state store down history
      stands-made = by_down _ refl

  -- ---- a call, whether it was made or not

  module _ {opening : D} (start : ℕ) (at : JournalEnd) (state_old state : State) (store_old store : StoreDisk D) (down_old down : Option Place) (history_old history : History) (old : Stands holds leaves moment might honest faults opening start at state_old store_old down_old history_old)
      (opened : state.opened ≡ state_old.opened) where
    -- where memory kept it from being made, all is as it was
    stands_unmade : (down_old ≡ None → RepresentsWorld state (world state_old.opened history_old)) → Stands holds leaves moment might honest faults opening start at state store_old down_old history_old
    stands_unmade represents =
        let over : (P : Db → Type 0) → P state_old.opened → P state.opened = λ P is. subst P (sym opened) is in
        record {
          entries = old.entries;
          begun = over Sound old.begun;
          represents = λ none. over (λ db. RepresentsWorld state (world db history_old)) (represents none);
          down_is = over (λ db. (world db history_old).down ≡ option_map (λ (place : Place). place.0) down_old) old.down_is;
          failed = old.failed;
          kept = λ none is. over (λ db. IsKept holds leaves store_old.journal (flat db history_old) store_old.commits) (old.kept none is);
          count = over (λ db. store_old.commits ≡ start + length (commits db history_old)) old.count;
          left = λ is a b in_a in_b. over (λ db. IsLeftBy db start history_old a b) (old.left is a b in_a in_b);
          ends = λ none. over (λ db. IsEndOf store_old.journal (journal_behind at db start history_old)) (old.ends none);
          exact = over (λ db. IsNoRoomExact at db start history_old) old.exact;
          alone = over (λ db. is_laid_behind db history_old ≡ true → (down_old ≡ None) × alone_in (flat db history_old) store_old) old.alone;
          moves = over (λ db. MovesDisk moment might honest faults db start history_old opening store_old.journal.disk) old.moves;
        }

    pub stands-after : {T E : Type 0} (reply : T → Reply) (call : Entry) → call.verdict ≡ Took → IsEntry call → (result : Result (Place × T) E)
        → IfOk result (λ made. IsMade holds leaves moment might honest faults state_old.opened history_old history state store_old store down_old down call made.0.0 (reply made.1))
        → OnErr result ((history ≡ history_old) × (down_old ≡ None → RepresentsWorld state (world state_old.opened history_old)) × (store ≡ store_old) × (down ≡ down_old))
        → Stands holds leaves moment might honest faults opening start at state store down history
    stands-after reply call took is_entry (Ok told) made unmade = stands-made start at state_old state store_old store down_old down history_old history old call took told.0.0 (reply told.1) made is_entry opened
    stands-after reply call took is_entry (Err refused) made unmade =
        subst (λ (history : History). Stands holds leaves moment might honest faults opening start at state store down history) (sym unmade.0)
        (subst (λ (down : Option Place). Stands holds leaves moment might honest faults opening start at state store down history_old) (sym unmade.3)
        (subst (λ (store : StoreDisk D). Stands holds leaves moment might honest faults opening start at state store down_old history_old) (sym unmade.2) (stands_unmade unmade.1)))

  -- what a disk is that a history laid anew, as the history tells it
  pub alone-behind : {opening : D} (start : ℕ) (at : JournalEnd) (state : State) (store : StoreDisk D) (down : Option Place) (history : History) → Stands holds leaves moment might honest faults opening start at state store down history
      → is_laid_behind state.opened history ≡ true → IsTrue (honest store.journal.disk) → IsAloneBehind holds leaves store.journal.disk at state.opened start history
  alone-behind start at state store down history stands laid is =
      let both = stands.alone laid in
      record {
        area = store.journal.area;
        alone = subst (λ epoch. IsAloneOn holds leaves store.journal.disk (flat state.opened history) (start + length (commits state.opened history)) epoch store.journal.area) (stands.ends both.0).0
            (subst (λ number. IsAloneOn holds leaves store.journal.disk (flat state.opened history) number store.journal.epoch store.journal.area) stands.count (both.1 is));
      }
