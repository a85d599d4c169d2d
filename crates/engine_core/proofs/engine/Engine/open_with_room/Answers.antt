use Rattle.std.proofs.Common.{subst, sym}
use Rattle.std.specs.Prelude.{IsTrue}
use Rattle.crash_model.specs.StoreIn.{IsStoreIn}
use Rattle.store_disk.specs.Kept.{IsKept}
use Rattle.store_disk.proofs.LeftKept.{kept-left}
use Rattle.engine_core.proofs.EngineStands.{stands-begun}
use Rattle.engine_core.proofs.engine.Engine.open_with_room.Goals as goal

-- nothing was made yet, and the disk keeps what was opened
pub invariant_of-result : goal.invariant_of-result
invariant_of-result g c =
    let D = g.D.Disk in
    let store = c.in_ok-store.store in
    rw (c.in-Ok.ensures.history, c.of-opening.ensures) (
      stands-begun D.holds D.leaves D.moment D.might_have_left D.honest D.faults g.met.D.Disk.only_now g.met.D.Disk.now_counts c.in-Ok.state store c.commits-start.result
          (record { epoch = c.epoch-epoch.result; end = c.end-end.result }) (sym c.epoch-epoch.ensures, sym c.end-end.ensures) c.commits-start.ensures
          c.in-Ok.ensures.sound c.in-Ok.ensures.stands c.in_ok-store.ensures.sound
          (λ honest. subst (λ db. IsKept D.holds D.leaves store.journal db store.commits) (sym c.in-Ok.ensures.base) (c.in_ok-store.ensures.kept (subst IsTrue c.in_ok-store.ensures.honesty honest))),
      tt,
    )

pub returns-in-Ok-clause-left : goal.returns-in-Ok-clause-left
returns-in-Ok-clause-left g c honest a b in_a in_b =
    let D = g.D.Disk in
    let store = c.in_ok-store.store in
    subst (λ db. IsStoreIn a b db c.commits-start.result) (sym c.in-Ok.ensures.base)
    (subst (IsStoreIn a b c.in_ok-store.replayed) (sym c.commits-start.ensures) (kept-left D.holds D.leaves store.journal c.in_ok-store.replayed store.commits (c.in_ok-store.ensures.kept honest) a b in_a in_b))

pub returns-in-Ok-clause-start : goal.returns-in-Ok-clause-start
returns-in-Ok-clause-start g c honest = rw (c.of-opening.ensures, c.epoch-epoch.ensures, c.end-end.ensures) (c.in_ok-store.ensures.start honest)
