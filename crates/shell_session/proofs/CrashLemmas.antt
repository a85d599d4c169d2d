-- What events do to a disk, one after another.
use Rattle.std.proofs.Common.{◌≡◌, ℕ, ◌≤◌, ◌+◌, List, [], ◌∷◌, ◌++◌, Bool, true, false, length, arith, IsTrue, refl, sym, ap, subst, ◌∙◌, inl, inr, ⊎_elim, append-nil}
use Rattle.std.specs.Prelude.{◌≢◌, ◌⊎◌, Option, None, Some}
use Rattle.own_base.specs.declared.number.Area.{Area}
use Rattle.own_base.specs.declared.number.Area.TheVariants.{A, B}
use Rattle.own_model.specs.declared.reply.Reply.{Reply}
use Rattle.own_model.specs.declared.script.ScriptCall.{ScriptCall}
use Rattle.own_model.specs.Db.{Db}
use Rattle.outer_world.specs.FaultCount.{CountRose}
use Rattle.outer_world.specs.LeavesOnly.{LeavesOnly}
use Rattle.outer_world.proofs.Moments.{begun, then, weaker}
use Rattle.history_model.specs.History.{is_disk}
use Rattle.history_model.specs.Made.{entry_of}
use Rattle.crash_recover.specs.Opening.{IsLeft}
use Rattle.shell_session.specs.Answered.{IsAnswered}
use Rattle.shell_session.specs.DiskView.{DiskView}
use Rattle.shell_session.specs.Life.{Called, Event, Happen, Happens, IsCalled, IsLeftOnTheWay, Laid, Moves, Renewed}
use Rattle.shell_session.specs.OnDisk.{IsCalm, IsClosedOver, IsCutOff, IsEnded, IsNotRenewed, IsOpened, OnDisk}
use Rattle.shell_session.specs.Opening.{HasFailed, IsFailedIn, IsLeftOver, Opening}
use Rattle.shell_session.specs.declared.ending.ShellFault.{ShellFault}
use Rattle.shell_session.specs.declared.ending.ShellFault.TheVariants.{Read, Write, Disk, Damaged, Input, Memory, Refused}
use Rattle.shell_session.proofs.FailedLemmas.{failed-kept, failed-more, none-failed}

-- whether an event is a call that the disk failed
abbrev pub fails : Event → Bool
fails (Called telling) = is_disk telling.told
fails (Laid call place told) = is_disk told
fails Renewed = false

module _ {D : Type 0} (view : DiskView D) where
  -- what each event did to the disk
  moves_of : (before : Opening D) (event : Event) (after : Opening D) → Happens view before event after → Moves view before after (fails event)
  moves_of before (Called telling) after happens = happens.0.moves
  moves_of before (Laid call place told) after happens = happens.0.moves
  moves_of before Renewed after happens = happens.moves

  -- a call that the disk failed is one of the history from then on, until the store is opened anew
  call-failed : (before after : Opening D) (call : ScriptCall) (place : Option ℕ) (told : Reply) → IsCalled view before after call place told
      → HasFailed before ⊎ (is_disk told ≡ true) → HasFailed after
  call-failed before after call (Some place) told called (inl was) =
      let made = called.answered in
      rw (called.base, made.history_is) (failed-kept before.base before.history (entry_of call made.verdict ∷ []) was)
  call-failed before after call (Some place) told called (inr is) =
      let made = called.answered in
      record { place = place; told = told; at = rw called.base made.reply_is; is = is }
  call-failed before after call None told called (inl was) = rw (called.base, called.answered.history_is) was
  call-failed before after call None told called (inr is) = let works : is_disk told ≡ false = ap is_disk called.answered.told_is in cc

  -- and such a call is one of the history before, or it is this one
  call-fails : (before after : Opening D) (call : ScriptCall) (place : Option ℕ) (told : Reply) → IsCalled view before after call place told
      → HasFailed after → HasFailed before ⊎ (is_disk told ≡ true)
  call-fails before after call (Some place) told called failed =
      let made = called.answered in
      failed-more before.base before.history (entry_of call made.verdict) told (rw (made.history_is, made.place_is) at made.reply_is) (rw (called.base, made.history_is) at failed)
  call-fails before after call None told called failed = inl (rw (called.base, called.answered.history_is) at failed)

  event-failed : (before : Opening D) (event : Event) (after : Opening D) → Happens view before event after → HasFailed before ⊎ (fails event ≡ true) → HasFailed after
  event-failed before (Called telling) after happens either = call-failed before after telling.call telling.place telling.told happens.0 either
  event-failed before (Laid call place told) after happens either = call-failed before after call place told happens.0 either
  event-failed before Renewed after happens (inl was) = absurd (happens.whole was)
  event-failed before Renewed after happens (inr is) = cc

  event-fails : (before : Opening D) (event : Event) (after : Opening D) → Happens view before event after → HasFailed after → HasFailed before ⊎ (fails event ≡ true)
  event-fails before (Called telling) after happens failed = call-fails before after telling.call telling.place telling.told happens.0 failed
  event-fails before (Laid call place told) after happens failed = call-fails before after call place told happens.0 failed
  event-fails before Renewed after happens failed = absurd (none-failed after.base (rw happens.fresh at failed))

  -- it stays so
  happen-failed : (before after : Opening D) (events : List Event) → Happen view before events after → HasFailed before → HasFailed after
  happen-failed before after [] happened failed = subst HasFailed (sym happened) failed
  happen-failed before after (event ∷ events) happened failed =
      happen-failed happened.0 after events happened.2 (event-failed before event happened.0 happened.1 (inl failed))

  -- Disks that go on: their moment doesn't fall, nor does their count of faults, and what they tell stays as true.
  pub record GoesOn (old new : D) : Type 0 where
    pub honesty : view.honest new ≡ view.honest old
    pub time : view.moment old ≤ view.moment new
    pub risen : view.faults old ≤ view.faults new

  pub goes-on : (before after : Opening D) (events : List Event) → Happen view before events after → GoesOn before.disk after.disk
  goes-on before after [] happened = rw happened (record { honesty = refl; time = omega arith; risen = omega arith })
  goes-on before after (event ∷ events) happened =
      let moves = moves_of before event happened.0 happened.1 in
      let rest = goes-on happened.0 after events happened.2 in
      let time = moves.time in
      let time_then = rest.time in
      let risen = moves.risen in
      let risen_then = rest.risen in
      record { honesty = rest.honesty ∙ moves.honesty; time = omega (arith, time, time_then); risen = omega (arith, risen, risen_then) }

  -- without such a call the count of faults stands still,
  pub count-steady : (before after : Opening D) (events : List Event) → Happen view before events after → (HasFailed after → ⊥) → view.faults after.disk ≡ view.faults before.disk
  count-steady before after [] happened none = ap (λ opening. view.faults opening.disk) happened
  count-steady before after (event ∷ events) happened none =
      let moves = moves_of before event happened.0 happened.1 in
      count-steady happened.0 after events happened.2 none ∙ moves.steady (works (fails event) refl)
    where
      works : (is : Bool) → fails event ≡ is → fails event ≡ false
      works true is = absurd (none (happen-failed happened.0 after events happened.2 (event-failed before event happened.0 happened.1 (inr is))))
      works false is = is

  -- and with one it rose
  pub count-rose : (before after : Opening D) (events : List Event) → Happen view before events after → (HasFailed before → ⊥) → HasFailed after
      → CountRose (view.faults before.disk) (view.faults after.disk)
  count-rose before after [] happened none failed = absurd (none (subst HasFailed happened failed))
  count-rose before after (event ∷ events) happened none failed =
      by (fails event) refl (λ none_then. count-rose happened.0 after events happened.2 none_then failed)
    where
      by : (is : Bool) → fails event ≡ is → ((HasFailed happened.0 → ⊥) → CountRose (view.faults happened.0.disk) (view.faults after.disk)) → CountRose (view.faults before.disk) (view.faults after.disk)
      by true is later_rose = λ far.
          let moves = moves_of before event happened.0 happened.1 in
          let rest = goes-on happened.0 after events happened.2 in
          let later = rest.risen in
          let rose = moves.rose is (omega (arith, far, later)) in
          omega (arith, rose, later)
      by false is later_rose = λ far.
          let moves = moves_of before event happened.0 happened.1 in
          let steady = moves.steady is in
          let none_then : HasFailed happened.0 → ⊥ = λ then_failed. ⊎_elim none (λ now. let never : false ≡ true = sym is ∙ now in cc) (event-fails before event happened.0 happened.1 then_failed) in
          let rose = later_rose none_then far in
          omega (arith, rose, steady)

  module _ (only_now : (disk : D) (a b : List ℕ) → view.might_have_left disk (view.moment disk) a b → view.leaves disk A a × view.leaves disk B b) where
    -- what a crash leaves now
    abbrev pub IsLeftNow : Opening D → Type 0
    IsLeftNow opening = (a b : List ℕ) → view.leaves opening.disk A a → view.leaves opening.disk B b → IsLeftOver opening a b

    pub left-now : (before after : Opening D) (events : List Event) → Happen view before events after → IsTrue (view.honest before.disk) → IsLeftNow before → IsLeftNow after
    left-now before after [] happened can now = subst IsLeftNow (sym happened) now
    left-now before after (event ∷ events) happened can now =
        let moves = moves_of before event happened.0 happened.1 in
        left-now happened.0 after events happened.2 (subst IsTrue (sym moves.honesty) can) (moves.now can)

    -- a crash since leaves what the history said on the way
    pub left-since : (here last : Opening D) (events : List Event) → Happen view here events last → IsTrue (view.honest here.disk) → IsLeftNow here
        → LeavesOnly view.moment view.might_have_left (IsLeftOnTheWay view here events last) here.disk last.disk
    left-since here last [] happened can now =
        subst (λ opening. LeavesOnly view.moment view.might_have_left (IsLeftOnTheWay view here [] opening) here.disk opening.disk) (sym happened)
        (begun view.leaves view.moment view.might_have_left only_now here.disk (IsLeftOnTheWay view here [] here)
        (λ a b in_a in_b. record { done = []; rest = []; events_are = refl; mid = here; came = refl; goes = refl; is = now a b in_a in_b }))
    left-since here last (event ∷ events) happened can now =
        let next = happened.0 in
        let moves = moves_of here event next happened.1 in
        let can_then = subst IsTrue (sym moves.honesty) can in
        let Way : List ℕ → List ℕ → Type 0 = IsLeftOnTheWay view here (event ∷ events) last in
        then view.leaves view.moment view.might_have_left only_now here.disk next.disk last.disk Way
        (weaker view.leaves view.moment view.might_have_left only_now here.disk next.disk (λ a b. IsLeftOver here a b ⊎ IsLeftOver next a b) Way
        (λ a b either. ⊎_elim
        (λ before. record { done = []; rest = event ∷ events; events_are = refl; mid = here; came = refl; goes = happened; is = before })
        (λ after. record { done = event ∷ []; rest = events; events_are = refl; mid = next; came = (next, happened.1, refl); goes = happened.2; is = after })
        either)
        (moves.moments can))
        (weaker view.leaves view.moment view.might_have_left only_now next.disk last.disk (IsLeftOnTheWay view next events last) Way
        (λ a b on_way. record {
          done = event ∷ on_way.done;
          rest = on_way.rest;
          events_are = ap (λ all. event ∷ all) on_way.events_are;
          mid = on_way.mid;
          came = (next, happened.1, on_way.came);
          goes = on_way.goes;
          is = on_way.is;
        })
        (left-since next last events happened.2 can_then (moves.now can)))

    -- at the end of the way
    way-end : (here last : Opening D) (events : List Event) → Happen view here events last → (a b : List ℕ) → IsLeftOver last a b → IsLeftOnTheWay view here events last a b
    way-end here last events happened a b is = record { done = events; rest = []; events_are = sym (append-nil events); mid = last; came = happened; goes = refl; is = is }

    -- and of what the disk is after the end of a life
    ended-since : (here last : Opening D) (events : List Event) (fault : Option ShellFault) (new : D) → Happen view here events last → IsTrue (view.honest here.disk) → IsLeftNow here
        → IsEnded view last fault new → LeavesOnly view.moment view.might_have_left (IsLeftOnTheWay view here events last) here.disk new
    ended-since here last events fault new happened can now (inl closed) =
        subst (λ disk. LeavesOnly view.moment view.might_have_left (IsLeftOnTheWay view here events last) here.disk disk) (sym closed.disk) (left-since here last events happened can now)
    ended-since here last events fault new happened can now (inr cut) =
        then view.leaves view.moment view.might_have_left only_now here.disk last.disk new (IsLeftOnTheWay view here events last)
        (left-since here last events happened can now)
        (weaker view.leaves view.moment view.might_have_left only_now last.disk new (IsLeftOver last) (IsLeftOnTheWay view here events last) (way-end here last events happened)
        (cut.not_renewed.moments (subst IsTrue (sym (goes-on here last events happened).honesty) can)))

  -- the end of a life, as the disk goes on
  ended-on : (last : Opening D) (fault : Option ShellFault) (new : D) → IsEnded view last fault new → GoesOn last.disk new
  ended-on last fault new (inl closed) = rw closed.disk (record { honesty = refl; time = omega arith; risen = omega arith })
  ended-on last fault new (inr cut) = record { honesty = cut.not_renewed.honesty; time = cut.not_renewed.time; risen = cut.not_renewed.risen }

  -- a fault of the disk at the end
  ended-rose : (first last : Opening D) (events : List Event) (fault : Option ShellFault) (new : D) → Happen view first events last → (HasFailed first → ⊥)
      → IsEnded view last fault new → fault ≡ Some Disk → CountRose (view.faults first.disk) (view.faults new)
  ended-rose first last events fault new happened none (inl closed) is =
      rw closed.disk (count-rose first last events happened none (closed.failed is))
  ended-rose first last events fault new happened none (inr cut) is = λ far.
      let same : Some cut.why ≡ Some Disk = sym cut.fault_is ∙ is in
      let why : cut.why ≡ Disk = cc in
      let rose = cut.not_renewed.rose why far in
      let steady = count-steady first last events happened cut.not_renewed.whole in
      omega (arith, rose, steady)

  ended-steady : (first last : Opening D) (events : List Event) (fault : Option ShellFault) (new : D) → Happen view first events last
      → IsEnded view last fault new → fault ≢ Some Disk → (HasFailed last → ⊥) → view.faults new ≡ view.faults first.disk
  ended-steady first last events fault new happened (inl closed) other none = ap view.faults closed.disk ∙ count-steady first last events happened none
  ended-steady first last events fault new happened (inr cut) other none =
      cut.not_renewed.steady (λ is. other (cut.fault_is ∙ ap Some is)) ∙ count-steady first last events happened none

  calm_other : (fault : Option ShellFault) → IsCalm fault → fault ≢ Some Disk
  calm_other None calm is = cc
  calm_other (Some Refused) calm is = cc
  calm_other (Some Read) calm is = absurd calm
  calm_other (Some Write) calm is = absurd calm
  calm_other (Some Disk) calm is = absurd calm
  calm_other (Some (Damaged area offset)) calm is = absurd calm
  calm_other (Some (Input why)) calm is = absurd calm
  calm_other (Some Memory) calm is = absurd calm

  ended-whole : (last : Opening D) (fault : Option ShellFault) (new : D) → IsEnded view last fault new → IsCalm fault → HasFailed last → ⊥
  ended-whole last fault new (inl closed) calm failed = closed.calm calm failed
  ended-whole last fault new (inr cut) calm failed = cut.not_renewed.whole failed

  ended-undamaged : (last : Opening D) (fault : Option ShellFault) (new : D) → IsEnded view last fault new → IsTrue (view.honest last.disk)
      → (area : Area) (offset : ℕ) → fault ≢ Some (Damaged area offset)
  ended-undamaged last fault new (inl closed) can area offset is = closed.undamaged area offset is
  ended-undamaged last fault new (inr cut) can area offset is =
      let same : Some cut.why ≡ Some (Damaged area offset) = sym cut.fault_is ∙ is in
      let why : cut.why ≡ Damaged area offset = cc in
      cut.not_renewed.undamaged area offset why can

  -- What a life did to the disk.
  pub on-disk : (holds : D → Area → List ℕ)
      (only_now : (disk : D) (a b : List ℕ) → view.might_have_left disk (view.moment disk) a b → view.leaves disk A a × view.leaves disk B b)
      (now_counts : (disk : D) (since : ℕ) (a b : List ℕ) → since ≤ view.moment disk → view.leaves disk A a → view.leaves disk B b → view.might_have_left disk since a b)
      (old new : D) (first last : Opening D) (events : List Event) (fault : Option ShellFault)
      → IsOpened holds view old first → Happen view first events last → IsEnded view last fault new → OnDisk holds view old new first events last fault
  on-disk holds only_now now_counts old new first last events fault opened happened ended =
      let none : HasFailed first → ⊥ = λ failed. none-failed first.base (rw opened.fresh at failed) in
      let way = goes-on first last events happened in
      let end = ended-on last fault new ended in
      let steady = opened.steady in
      let time = opened.time in
      let way_time = way.time in
      let end_time = end.time in
      let way_risen = way.risen in
      let end_risen = end.risen in
      let can_first : IsTrue (view.honest old) → IsTrue (view.honest first.disk) = λ can. subst IsTrue (sym opened.honesty) can in
      let can_last : IsTrue (view.honest old) → IsTrue (view.honest last.disk) = λ can. subst IsTrue (sym way.honesty) (can_first can) in
      record {
        rose = λ is. rw (← steady) (ended-rose first last events fault new happened none ended is);
        failed = λ failed far.
            let rose = count-rose first last events happened none failed (omega (arith, far, end_risen)) in
            omega (arith, rose, steady, end_risen);
        steady = λ other works. ended-steady first last events fault new happened ended other works ∙ steady;
        calm = λ calm. ended-steady first last events fault new happened ended (calm_other fault calm) (ended-whole last fault new ended calm) ∙ steady;
        risen = omega (arith, steady, way_risen, end_risen);
        undamaged = λ area offset is can. ended-undamaged last fault new ended (can_last can) area offset is;
        honesty = end.honesty ∙ (way.honesty ∙ opened.honesty);
        time = omega (arith, time, way_time, end_time);
        left = λ can a b in_a in_b.
            let now = left-now only_now first last events happened (can_first can) (opened.now can) in
            let since = ended-since only_now last last [] fault new refl (can_last can) now ended in
            let way_here = since.between a b (now_counts new (view.moment last.disk) a b end_time in_a in_b) in
            at_end last a b way_here;
        since = λ can done rest here parts came goes a b left.
            let here_on = goes-on first here done came in
            let can_here = subst IsTrue (sym here_on.honesty) (can_first can) in
            (ended-since only_now here last rest fault new goes can_here (left-now only_now first here done came (can_first can) (opened.now can)) ended).between a b left;
        moments = λ can.
            then view.leaves view.moment view.might_have_left only_now old first.disk new (λ a b. IsLeft holds view.leaves old a b ⊎ IsLeftOnTheWay view first events last a b)
            (weaker view.leaves view.moment view.might_have_left only_now old first.disk (IsLeft holds view.leaves old) (λ a b. IsLeft holds view.leaves old a b ⊎ IsLeftOnTheWay view first events last a b)
            (λ a b before. inl before) (opened.moments can))
            (weaker view.leaves view.moment view.might_have_left only_now first.disk new (IsLeftOnTheWay view first events last) (λ a b. IsLeft holds view.leaves old a b ⊎ IsLeftOnTheWay view first events last a b)
            (λ a b on_way. inr on_way) (ended-since only_now first last events fault new happened (can_first can) (opened.now can) ended));
      }
    where
      -- on a way without events there is one opening alone
      no_events : (done rest : List Event) → [] ≡ done ++ rest → done ≡ []
      no_events [] rest is = refl
      no_events (event ∷ done) rest is = cc

      at_end : (last : Opening D) (a b : List ℕ) → IsLeftOnTheWay view last [] last a b → IsLeftOver last a b
      at_end last a b on_way =
          let none = no_events on_way.done on_way.rest on_way.events_are in
          let same : on_way.mid ≡ last = subst (λ done. Happen view last done on_way.mid) none on_way.came in
          subst (λ opening. IsLeftOver opening a b) same on_way.is
