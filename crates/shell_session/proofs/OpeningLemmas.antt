-- What an opening of the store finds on the disk and does to it, and what an opening anew does.
use Rattle.std.proofs.Common.{◌≡◌, ℕ, ◌≤◌, ◌+◌, List, [], ◌∷◌, ◌++◌, Bool, true, false, length, arith, IsTrue, refl, sym, ap, subst, subst₂, ◌∙◌, inl, inr, ⊎_elim}
use Rattle.std.specs.Prelude.{◌≢◌, ◌⊎◌, IfErr, IfOk, Option, None, Some, Result, Ok, Err}
use Rattle.own_base.specs.declared.number.Area.{Area}
use Rattle.own_base.specs.declared.number.Area.TheVariants.{A, B}
use Rattle.own_model.specs.declared.history.Entry.{Entry}
use Rattle.own_model.specs.declared.refusal.Refusal.TheVariants as refusal
use Rattle.own_model.specs.declared.reply.Reply.TheVariants.{Refused}
use Rattle.own_model.specs.Db.{Db}
use Rattle.outer_world.specs.FaultCount.{CountRose}
use Rattle.outer_world.specs.LeavesOnly.{LeavesOnly}
use Rattle.outer_world.specs.Stays.{Stays}
use Rattle.outer_world.proofs.Moments.{begun, then, weaker}
use Rattle.history_model.specs.Commits.{commits}
use Rattle.history_model.specs.History.{History, flat}
use Rattle.disk_model.specs.Judged.{IsDatabaseOf, IsJudged}
use Rattle.disk_model.specs.JudgedArea as found
use Rattle.disk_model.proofs.JudgedOnce.{judged-once}
use Rattle.crash_model.specs.LeftBy.{IsLate, IsLeftBy, IsWhole}
use Rattle.crash_model.specs.StoreIn.{IsStoreIn}
use Rattle.crash_model.proofs.LeftLemmas.{whole-none}
use Rattle.crash_model.proofs.StoreLemmas.{one-store}
use Rattle.reply_json.specs.declared.columns.TableNames.{TableNames}
use Rattle.crash_recover.specs.Opening.{AreAlike, IsLeft}
use Rattle.crash_recover.specs.declared.open.OpenFault.{OpenFault}
use Rattle.crash_recover.specs.declared.open.OpenFault.TheVariants as opening
use Rattle.engine_core.specs.Seen.{Seen, disk_of}
use Rattle.shell_session.specs.DiskView.{DiskView}
use Rattle.shell_session.specs.Kept.{Keeps, IsMarked}
use Rattle.shell_session.specs.Life.{EndsLaid, IsRenewed, Moves}
use Rattle.shell_session.specs.Names.{table_names}
use Rattle.shell_session.specs.OnDisk.{IsFoundDamaged, IsNotOpened, IsNotRenewed, IsOpened}
use Rattle.shell_session.specs.Opening.{HasFailed, IsAtRest, IsFailedIn, IsLeftOver, Opening, opening_of}
use Rattle.shell_session.specs.Status.{unopened}
use Rattle.shell_session.specs.declared.book.Book.{Book}
use Rattle.shell_session.specs.declared.ending.ShellFault.TheVariants.{Disk, Damaged}
use Rattle.shell_session.proofs.FailedLemmas.{none-failed}
use Rattle.shell_session.proofs.StandingLemmas.{none-open}

-- what is so of a value, where there is one, and of an error
pub ok-then : {T E : Type 0} (result : Result T E) (P Q : T → Type 0) → ((value : T) → P value → Q value) → IfOk result P → IfOk result Q
ok-then (Ok value) P Q to is = to value is
ok-then (Err why) P Q to is = is

pub err-then : {T E : Type 0} (result : Result T E) (P Q : E → Type 0) → ((why : E) → P why → Q why) → IfErr result P → IfErr result Q
err-then (Ok value) P Q to is = is
err-then (Err why) P Q to is = to why is

-- which fault of an opening is told so
disk_fault : (fault : OpenFault) → unopened fault ≡ Disk → fault ≡ opening.DiskFault
disk_fault opening.DiskFault is = refl
disk_fault (opening.Damaged area offset) is = cc
disk_fault opening.Memory is = cc

damaged_fault : (fault : OpenFault) (area : Area) (offset : ℕ) → unopened fault ≡ Damaged area offset → fault ≡ opening.Damaged area offset
damaged_fault opening.DiskFault area offset is = cc
damaged_fault (opening.Damaged at place) area offset is = cc
damaged_fault opening.Memory area offset is = cc

-- where two areas hold a store they aren't damaged
store-undamaged : (a b : List ℕ) (db : Db) (number : ℕ) (area : Area) (offset : ℕ) → IsStoreIn a b db number → IsJudged a b (found.Damaged area offset) → ⊥
store-undamaged a b db number area offset store damaged =
    let same = judged-once a b store.judged (found.Damaged area offset) store.is_judged damaged in
    subst (λ judged. IsDatabaseOf judged db number) same store.is_of

module _ {D : Type 0} (holds : D → Area → List ℕ) (view : DiskView D) where
  -- the store of a disk was opened,
  pub record OpensStore (disk : D) (engine : Seen D) : Type 0 where
    pub base : IsTrue (view.honest disk) → IsStoreIn (holds disk A) (holds disk B) engine.base engine.start
    pub history : engine.history ≡ []
    pub left : IsTrue (view.honest disk) → (a b : List ℕ) → view.leaves (disk_of engine) A a → view.leaves (disk_of engine) B b → IsStoreIn a b engine.base engine.start
    pub moments : IsTrue (view.honest disk) → LeavesOnly view.moment view.might_have_left (IsLeft holds view.leaves disk) disk (disk_of engine)
    pub honesty : view.honest (disk_of engine) ≡ view.honest disk
    pub time : view.moment disk ≤ view.moment (disk_of engine)
    pub steady : view.faults (disk_of engine) ≡ view.faults disk

  -- or it wasn't
  pub record OpensNone (disk : D) (fault : OpenFault) (back : D) : Type 0 where
    pub moments : IsTrue (view.honest disk) → LeavesOnly view.moment view.might_have_left (IsLeft holds view.leaves disk) disk back
    pub honesty : view.honest back ≡ view.honest disk
    pub time : view.moment disk ≤ view.moment back
    pub damaged : (area : Area) (offset : ℕ) → fault ≡ opening.Damaged area offset → IsTrue (view.honest disk) → IsJudged (holds disk A) (holds disk B) (found.Damaged area offset)
    pub kept_a : (area : Area) (offset : ℕ) → fault ≡ opening.Damaged area offset → IsTrue (view.honest disk) → Stays holds view.leaves A disk back
    pub kept_b : (area : Area) (offset : ℕ) → fault ≡ opening.Damaged area offset → IsTrue (view.honest disk) → Stays holds view.leaves B disk back
    pub rose : fault ≡ opening.DiskFault → CountRose (view.faults disk) (view.faults back)
    pub steady : fault ≢ opening.DiskFault → view.faults back ≡ view.faults disk
    pub risen : view.faults disk ≤ view.faults back

  pub opened-first : (disk : D) (engine : Seen D) → OpensStore disk engine → IsOpened holds view disk (opening_of engine)
  opened-first disk engine opens = record {
    fresh = opens.history;
    honesty = opens.honesty;
    time = opens.time;
    steady = opens.steady;
    held = opens.base;
    now = λ can a b in_a in_b. inl (rw opens.history (whole-none engine.base engine.start a b (opens.left can a b in_a in_b)));
    moments = opens.moments;
  }

  pub opened-none : (disk : D) (fault : OpenFault) (back : D) → OpensNone disk fault back → IsNotOpened holds view disk back (unopened fault)
  opened-none disk fault back opens = record {
    honesty = opens.honesty;
    time = opens.time;
    risen = opens.risen;
    rose = λ is. opens.rose (disk_fault fault is);
    steady = λ other. opens.steady (λ is. other (ap unopened is));
    damaged = λ area offset is can. let damage = damaged_fault fault area offset is in
        record { judged = opens.damaged area offset damage can; kept_a = opens.kept_a area offset damage can; kept_b = opens.kept_b area offset damage can };
    moments = opens.moments;
  }

  module _ (only_now : (disk : D) (a b : List ℕ) → view.might_have_left disk (view.moment disk) a b → view.leaves disk A a × view.leaves disk B b) where
    -- the store of an opening at rest, whose disk failed no call, is opened anew
    module _ (reads_may_stay : (disk : D) (area : Area) → IsTrue (view.honest disk) → view.leaves disk area (holds disk area)) (before : Opening D) (laid : EndsLaid before.base before.history) (whole : HasFailed before → ⊥) (at_rest : IsAtRest before)
        (left : IsTrue (view.honest before.disk) → (a b : List ℕ) → view.leaves before.disk A a → view.leaves before.disk B b → IsLeftOver before a b) where
      abbrev number : ℕ
      number = before.start + length (commits before.base before.history)

      -- all commits, since the disk failed none
      all_left : (a b : List ℕ) → IsLeftOver before a b → IsStoreIn a b (flat before.base before.history) number
      all_left a b (inl all) = all
      all_left a b (inr late) = absurd (whole (record { place = late.place; told = Refused refusal.Disk; at = late.failed; is = refl }))

      held_before : IsTrue (view.honest before.disk) → IsStoreIn (holds before.disk A) (holds before.disk B) (flat before.base before.history) number
      held_before can = all_left _ _ (left can (holds before.disk A) (holds before.disk B) (reads_may_stay before.disk A can) (reads_may_stay before.disk B can))

      left_before : IsTrue (view.honest before.disk) → (a b : List ℕ) → IsLeft holds view.leaves before.disk a b → IsLeftOver before a b
      left_before can a b (inl both) = left can a b both.0 both.1
      left_before can a b (inr alike) =
          let one = one-store (holds before.disk A) (holds before.disk B) alike.db (flat before.base before.history) alike.number number alike.before (held_before can) in
          inl (subst₂ (IsStoreIn a b) one.0 one.1 alike.after)

      pub renewed-over : (engine : Seen D) → OpensStore before.disk engine → IsRenewed view before (opening_of engine)
      renewed-over engine opens = record {
        fresh = opens.history;
        laid = laid;
        at_rest = at_rest;
        whole = whole;
        base = λ can. (one-store (holds before.disk A) (holds before.disk B) engine.base (flat before.base before.history) engine.start number (opens.base can) (held_before can)).0;
        start = λ can. (one-store (holds before.disk A) (holds before.disk B) engine.base (flat before.base before.history) engine.start number (opens.base can) (held_before can)).1;
        moves = record {
          honesty = opens.honesty;
          time = opens.time;
          risen = let steady = opens.steady in omega (arith, steady);
          rose = λ is. cc;
          steady = λ is. opens.steady;
          now = λ can a b in_a in_b. inl (rw opens.history (whole-none engine.base engine.start a b (opens.left can a b in_a in_b)));
          moments = λ can. weaker view.leaves view.moment view.might_have_left only_now before.disk (disk_of engine) (IsLeft holds view.leaves before.disk)
              (λ a b. IsLeftOver before a b ⊎ IsLeftOver (opening_of engine) a b) (λ a b is. inl (left_before can a b is)) (opens.moments can);
        };
      }

      pub renewed-none : (fault : OpenFault) (back : D) → OpensNone before.disk fault back → IsNotRenewed view before back (unopened fault)
      renewed-none fault back opens = record {
        laid = laid;
        at_rest = at_rest;
        whole = whole;
        honesty = opens.honesty;
        time = opens.time;
        risen = opens.risen;
        rose = λ is. opens.rose (disk_fault fault is);
        steady = λ other. opens.steady (λ is. other (ap unopened is));
        undamaged = λ area offset is can.
            store-undamaged (holds before.disk A) (holds before.disk B) (flat before.base before.history) number area offset (held_before can)
            (opens.damaged area offset (damaged_fault fault area offset is) can);
        moments = λ can. weaker view.leaves view.moment view.might_have_left only_now before.disk back (IsLeft holds view.leaves before.disk) (IsLeftOver before) (left_before can) (opens.moments can);
      }

-- a book that knows no names
nameless-named : {D : Type 0} (book : Book) (opening : Opening D) → book.tables ≡ None → (tables : List TableNames) → book.tables ≡ Some tables → tables ≡ table_names (flat opening.base opening.history).schema
nameless-named book opening nameless tables known = let never : ◌≡◌ {A = Option (List TableNames)} None (Some tables) = sym nameless ∙ known in cc

-- a book that tells the same, and the names that it knows
pub keeps-named : {D : Type 0} (old new : Book) (opening : Opening D) → new.marks ≡ old.marks → new.failed ≡ old.failed
    → ((tables : List TableNames) → new.tables ≡ Some tables → tables ≡ table_names (flat opening.base opening.history).schema) → Keeps old opening → Keeps new opening
keeps-named old new opening marks failed named keeps = record {
  long = subst (λ (marks : List Bool). length marks ≡ 16) (sym marks) keeps.long;
  failed = λ is. keeps.failed (sym failed ∙ is);
  whole = λ is. keeps.whole (sym failed ∙ is);
  marks = λ is session begun block stood. subst (λ (marks : List Bool). IsMarked marks session) (sym marks) (keeps.marks (sym failed ∙ is) session begun block stood);
  names = named;
}

-- a book of no calls, and of no names
pub keeps-none : {D : Type 0} (book : Book) (first : Opening D) → first.history ≡ [] → length book.marks ≡ 16 → book.failed ≡ false → book.tables ≡ None → Keeps book first
keeps-none book first fresh long works nameless = record {
  long = long;
  failed = λ is. let never : false ≡ true = sym works ∙ is in cc;
  whole = λ is failed. none-failed first.base (rw fresh at failed);
  marks = λ is session begun block stands. absurd (none-open first.base session begun block (rw fresh at stands));
  names = nameless-named book first nameless;
}

-- another book that tells the same, and no names
pub keeps-same : {D : Type 0} (old new : Book) (opening : Opening D) → new.marks ≡ old.marks → new.failed ≡ old.failed → new.tables ≡ None → Keeps old opening → Keeps new opening
keeps-same old new opening marks failed nameless keeps = keeps-named old new opening marks failed (nameless-named new opening nameless) keeps
