use Rattle.std.proofs.Common.{◌≡◌, ◌∙◌, List, ap, subst, sym}
use Rattle.std.specs.List.{AllByRecursion}
use Rattle.own_model.specs.declared.script.ScriptCall.{ScriptCall}
use Rattle.own_model.specs.declared.script.SessionCalls.{SessionCalls}
use Rattle.own_model.specs.Db.{Db}
use Rattle.script_model.specs.Split.{split}
use Rattle.session_run.specs.Sessions.{AreOwnNumbers, IsServable, StandOnce, numbers_of}
use Rattle.session_run.proofs.SplitLemmas.{split-numbered, split-once, split-servable}
use Rattle.store_top.specs.OnDisk.{IsServedSince}
use Rattle.store_top.specs.RanTogether.{ServesTogether}
use Rattle.store_top.proofs.OnDiskLemmas.{on_disk-served, on_disk-unopened, served-since}
use Rattle.store_top.proofs.together.serve_together.Goals as goal

-- the sessions are those of the calls, split
pub serve_by_turn-requires-clause-servable : goal.serve_by_turn-requires-clause-servable
serve_by_turn-requires-clause-servable g c κs within =
    subst (AllByRecursion IsServable) (sym (c.in-Ok.ensures ∙ ap split c.from_vec.ensures)) (split-servable c.args.calls.items c.requires.readable)

pub serve_by_turn-requires-clause-once : goal.serve_by_turn-requires-clause-once
serve_by_turn-requires-clause-once g c κs within =
    subst (λ (sessions : List SessionCalls). StandOnce (numbers_of sessions)) (sym (c.in-Ok.ensures ∙ ap split c.from_vec.ensures)) (split-once c.args.calls.items)

pub serve_by_turn-requires-clause-numbered : goal.serve_by_turn-requires-clause-numbered
serve_by_turn-requires-clause-numbered g c κs within =
    subst (AllByRecursion AreOwnNumbers) (sym (c.in-Ok.ensures ∙ ap split c.from_vec.ensures)) (split-numbered c.args.calls.items c.requires.numbered)

pub returns-in-Ok-open_with_room-clause-served : goal.returns-in-Ok-open_with_room-clause-served
returns-in-Ok-open_with_room-clause-served g c =
    rw (c.serve_by_turn.ensures.opened, sym (c.in-Ok.ensures ∙ ap split c.from_vec.ensures)) c.serve_by_turn.ensures.served

-- calls were served
pub returns-in-Ok-open_with_room-clause-on_disk : goal.returns-in-Ok-open_with_room-clause-on_disk
returns-in-Ok-open_with_room-clause-on_disk g c =
    let D = g.D.Disk in
    let opened = c.in-Ok-open_with_room.ensures in
    let engine = c.in-Ok-open_with_room.engine in
    let served = c.serve_by_turn.ensures in
    let end = c.serve_by_turn.result in
    let disk = served.disk in
    let moved = opened.time in
    let Served : Db → Type 0 = λ base. IsServedSince D.holds D.leaves D.moment D.might_have_left c.args.disk end.disk base end.history in
    on_disk-served D.holds D.leaves D.moment D.might_have_left D.honest D.faults c.args.disk end.disk end.opened end.history Served
    disk.mid engine.base engine.start served.opened opened.base (disk.honesty ∙ opened.honesty) (rw disk.time moved) (disk.steady ∙ opened.steady) disk.moves disk.left
    engine.area engine.journal opened.start disk.exact disk.alone
    (served-since D.holds D.leaves D.moment D.might_have_left D.honest D.faults c.args.disk end.disk end.opened end.history Served
    disk.mid engine.base engine.start served.opened opened.base (disk.honesty ∙ opened.honesty) (rw disk.time moved) (disk.steady ∙ opened.steady) disk.moves disk.left
    engine.area engine.journal opened.start disk.exact disk.alone)
    _ _ _ _ end.fault served.served

-- no store was opened
pub returns-in-Err-open_with_room-clause-on_disk : goal.returns-in-Err-open_with_room-clause-on_disk
returns-in-Err-open_with_room-clause-on_disk g c =
    let D = g.D.Disk in
    let opening = c.in-Err-open_with_room.ensures in
    let ended = c.without_calls-in-Err-open_with_room.ensures in
    let end = c.without_calls-in-Err-open_with_room.result in
    rw (ended.fault, ended.disk, c.unopened.ensures) (on_disk-unopened D.holds D.leaves D.moment D.might_have_left D.honest D.faults c.args.disk _
    end.opened end.history _ _ ended.opened opening.damaged opening.kept_a opening.kept_b opening.fault opening.steady_err opening.risen
    opening.honesty_err opening.time_err opening.moments_err)
