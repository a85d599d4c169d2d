-- What a run did to its disk, by how it ended.
use Rattle.std.proofs.Common.{◌≡◌, ℕ, ◌≤◌, List, [], Bool, true, IsTrue, inl, inr, refl, ap, sym, subst, ◌∙◌, arith}
use Rattle.std.specs.Prelude.{◌≢◌, ◌⊎◌, Option, None, Some}
use Rattle.std.specs.Io.KnownBytes.{Appends}
use Rattle.own_base.specs.declared.number.Area.{Area}
use Rattle.own_base.specs.declared.number.Area.TheVariants.{A, B}
use Rattle.outer_world.specs.FaultCount.{CountRose}
use Rattle.outer_world.specs.LeavesOnly.{LeavesOnly}
use Rattle.outer_world.specs.Stays.{Stays}
use Rattle.outer_world.proofs.Moments.{begun, then, weaker}
use Rattle.own_model.specs.declared.script.ScriptCall.{ScriptCall}
use Rattle.own_model.specs.Db.{Db}
use Rattle.history_model.specs.History.{History}
use Rattle.disk_model.specs.Judged.{IsJudged}
use Rattle.disk_model.specs.JudgedArea as found
use Rattle.crash_model.specs.Alone.{is_laid_behind}
use Rattle.crash_model.specs.LeftBy.{IsLeftBy, IsLeftOf}
use Rattle.engine_core.specs.Seen.{IsAloneBehind}
use Rattle.crash_model.specs.Room.{IsNoRoomExact, JournalEnd}
use Rattle.crash_model.specs.StoreIn.{IsStoreIn}
use Rattle.crash_recover.specs.Opening.{IsLeft}
use Rattle.crash_recover.specs.declared.open.OpenFault.{OpenFault}
use Rattle.crash_recover.specs.declared.open.OpenFault.TheVariants as opening
use Rattle.store_disk.specs.OpensAt.{OpensAt}
use Rattle.store_top.specs.declared.served.TopFault.{TopFault}
use Rattle.store_top.specs.declared.served.TopFault.TheVariants.{Disk, Damaged}
use Rattle.store_top.specs.OnDisk.{IsServedOn, IsServedOver, IsServedSince, OnDiskBy}
use Rattle.store_top.specs.Status.{unopened}
use Rattle.store_top.specs.declared.serving.Telling.{Telling}
use Rattle.store_top.specs.declared.serving.Telling.TheVariants.{Lines, Summary}
use Rattle.history_model.specs.Fails.{HasFailed}
use Rattle.crash_model.specs.MovesDisk.{MovesDisk}
use Rattle.store_top.specs.Steps.{RunsTo, StopsAtCall, SumsUp, ToldBefore, ToldInPart}
use Rattle.store_top.specs.Top.{IsBeforeOpening, ServedBy, ServesCallsAs}
use Rattle.store_top.proofs.Runs.{calls-failed, calls-later, calls-undamaged, calls-whole}

-- which fault an opening's was
disk_fault : (fault : OpenFault) → Some (unopened fault) ≡ Some Disk → fault ≡ opening.DiskFault
disk_fault opening.DiskFault is = refl
disk_fault (opening.Damaged area offset) is = cc
disk_fault opening.Memory is = cc

damaged_fault : (fault : OpenFault) (area : Area) (offset : ℕ) → Some (unopened fault) ≡ Some (Damaged area offset) → fault ≡ opening.Damaged area offset
damaged_fault opening.DiskFault area offset is = cc
damaged_fault (opening.Damaged at place) area offset is = cc
damaged_fault opening.Memory area offset is = cc

not_before : (fault : OpenFault) → IsBeforeOpening (Some (unopened fault)) → ⊥
not_before opening.DiskFault before = before
not_before (opening.Damaged area offset) before = before
not_before opening.Memory before = before

module _ {D : Type 0} (holds : D → Area → List ℕ) (leaves : D → Area → List ℕ → Type 0) (moment : D → ℕ) (might : D → ℕ → List ℕ → List ℕ → Type 0)
    (honest : D → Bool) (faults : D → ℕ) (old new : D) (opened : Option Db) (history : History) (Served : Db → Type 0) where
  abbrev Did : Option TopFault → Type 0
  Did fault = OnDiskBy holds leaves moment might honest faults old new opened history Served fault

  -- no store was opened, since the run ended before that
  pub on_disk-before : ((disk : D) (a b : List ℕ) → might disk (moment disk) a b → leaves disk A a × leaves disk B b) → (fault : TopFault) → new ≡ old → opened ≡ None → Some fault ≢ Some Disk
      → ((area : Area) (offset : ℕ) → Some fault ≢ Some (Damaged area offset)) → Did (Some fault)
  on_disk-before only_now fault same none other sound = record {
    rose = λ is. absurd (other is);
    failed = λ base over failed. let never : ⊥ = cc in absurd never;
    told = λ base over entry among failed. let never : ⊥ = cc in absurd never;
    steady = λ other failed. ap faults same;
    whole = λ is. ap faults same;
    risen = rw same (omega arith);
    untouched = λ before. same;
    damaged = λ area offset is. absurd (sound area offset is);
    honesty = ap honest same;
    time = rw same (omega arith);
    unopened = λ none can. rw same (begun leaves moment might only_now old (IsLeft holds leaves old) (λ a b in_a in_b. inl (in_a, in_b)));
    served = λ base over. let never : ⊥ = cc in absurd never;
  }

  -- the opening failed
  pub on_disk-unopened : (fault : OpenFault) → opened ≡ None
      → ((area : Area) (offset : ℕ) → fault ≡ opening.Damaged area offset → IsTrue (honest old) → IsJudged (holds old A) (holds old B) (found.Damaged area offset))
      → ((area : Area) (offset : ℕ) → fault ≡ opening.Damaged area offset → IsTrue (honest old) → Stays holds leaves A old new)
      → ((area : Area) (offset : ℕ) → fault ≡ opening.Damaged area offset → IsTrue (honest old) → Stays holds leaves B old new)
      → (fault ≡ opening.DiskFault → CountRose (faults old) (faults new)) → (fault ≢ opening.DiskFault → faults new ≡ faults old) → faults old ≤ faults new
      → honest new ≡ honest old → moment old ≤ moment new → (IsTrue (honest old) → LeavesOnly moment might (IsLeft holds leaves old) old new)
      → Did (Some (unopened fault))
  on_disk-unopened fault none damaged kept_a kept_b rose steady risen honesty time moments = record {
    rose = λ is. rose (disk_fault fault is);
    failed = λ base over failed. let never : ⊥ = cc in absurd never;
    told = λ base over entry among failed. let never : ⊥ = cc in absurd never;
    steady = λ other failed. steady (λ is. other (rw is refl));
    whole = λ is. let never : ⊥ = cc in absurd never;
    risen = risen;
    untouched = λ before. absurd (not_before fault before);
    damaged = λ area offset is can. let damage = damaged_fault fault area offset is in
        record { judged = damaged area offset damage can; kept_a = kept_a area offset damage can; kept_b = kept_b area offset damage can };
    honesty = honesty;
    time = time;
    unopened = λ none can. moments can;
    served = λ base over. let never : ⊥ = cc in absurd never;
  }

  -- calls were served over the database that was opened, since a moment at which the disk was so
  module _ (mid : D) (base : Db) (start : ℕ) (over : opened ≡ Some base)
      (store : IsTrue (honest old) → IsStoreIn (holds old A) (holds old B) base start) (honesty : honest mid ≡ honest old) (time : moment old ≤ moment mid) (steady : faults mid ≡ faults old)
      (moves : MovesDisk moment might honest faults base start history mid new)
      (left : IsTrue (honest new) → (a b : List ℕ) → leaves new A a → leaves new B b → IsLeftBy base start history a b)
      (area : Area) (journal : JournalEnd) (opens : IsTrue (honest old) → OpensAt (holds old A) (holds old B) area journal.epoch journal.end) (exact : IsNoRoomExact journal base start history)
      (alone : is_laid_behind base history ≡ true → IsTrue (honest new) → IsAloneBehind holds leaves new journal base start history) where
    abbrev Either : List ℕ → List ℕ → Type 0
    Either a b = IsLeft holds leaves old a b ⊎ IsLeftOf base start history a b

    served_over : IsTrue (honest old) → IsServedOver holds leaves old new base history
    served_over can = record {
      start = start;
      store = store can;
      left = left (subst IsTrue (sym (moves.honesty ∙ honesty)) can);
      area = area;
      journal = journal;
      opens = opens can;
      exact = exact;
      alone = λ laid. alone laid (subst IsTrue (sym (moves.honesty ∙ honesty)) can);
    }

    -- one after another
    pub served-on : ((disk : D) (a b : List ℕ) → might disk (moment disk) a b → leaves disk A a × leaves disk B b) → (IsTrue (honest old) → LeavesOnly moment might (IsLeft holds leaves old) old mid) → IsTrue (honest old) → IsServedOn holds leaves moment might old new base history
    unfolding served_over
    served-on only_now moments can = record {
      over = served_over can;
      moments = then leaves moment might only_now old mid new Either
          (weaker leaves moment might only_now old mid (IsLeft holds leaves old) Either (λ a b before. inl before) (moments can))
          (weaker leaves moment might only_now mid new (IsLeftOf base start history) Either (λ a b of. inr of) (moves.moments (subst IsTrue (sym honesty) can)));
    }

    -- or side by side
    pub served-since : IsTrue (honest old) → IsServedSince holds leaves moment might old new base history
    unfolding served_over
    served-since can =
        let moments = moves.moments (subst IsTrue (sym honesty) can) in
        record { over = served_over can; opening = moment mid; later = time; moments = record { later = moments.later; each = moments.between } }

    rose_since : HasFailed base history → CountRose (faults old) (faults new)
    rose_since failed = rw (← steady) (moves.rose failed)

    pub on_disk-served : (IsTrue (honest old) → Served base) → (rose whole part before : Type 0) (fault : Option TopFault) → ServedBy base history rose whole part before fault → Did fault
    on_disk-served served rose whole part before fault serves =
        let later = moves.time in
        let risen = moves.risen in
        record {
          rose = λ is. rose_since (calls-failed base history rose whole part before fault serves is);
          failed = λ of is failed. let same : of ≡ base = cc in rose_since (subst (λ db. HasFailed db history) same failed);
          told = λ of is entry among failed. rw (← steady) (moves.told entry among failed);
          steady = λ other none. moves.steady (none base over) ∙ steady;
          whole = λ is. moves.steady (calls-whole base history rose whole part before fault serves is) ∙ steady;
          risen = omega arith;
          untouched = λ early. absurd (calls-later base history rose whole part before fault serves early);
          damaged = λ area offset is. absurd (calls-undamaged base history rose whole part before fault area offset serves is);
          honesty = moves.honesty ∙ honesty;
          time = omega arith;
          unopened = λ none. let never : ⊥ = cc in absurd never;
          served = λ of is can. let same : base ≡ of = cc in subst Served same (served can);
        }

    -- whatever was told of calls that were made one after another
    pub on_disk-served_as : (IsTrue (honest old) → Served base) → (telling : Telling) (calls : List ScriptCall) (written_old written_new : Option (List ℕ)) (rose : Type 0) (fault : Option TopFault)
        → ServesCallsAs telling base calls history written_old written_new rose fault → Did fault
    on_disk-served_as served Lines calls written_old written_new rose fault serves =
        on_disk-served served rose (RunsTo base calls history written_old written_new) (StopsAtCall base calls history (ToldInPart written_old written_new))
        (StopsAtCall base calls history (ToldBefore written_old written_new)) fault serves
    on_disk-served_as served Summary calls written_old written_new rose fault serves =
        on_disk-served served rose (SumsUp base calls history (Appends written_old written_new)) (SumsUp base calls history (ToldInPart written_old written_new []))
        (SumsUp base calls history (ToldBefore written_old written_new [])) fault serves
