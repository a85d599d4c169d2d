use Rattle.std.proofs.Common.{◌∙◌, ◌-◌, ap, refl, subst, sym}
use Rattle.std.specs.Prelude.{IfSome, is_some, vec_len}
use Rattle.std.specs.Vec.{vec_capacity}
use Rattle.own_model.specs.declared.history.Entry.{Entry}
use Rattle.own_model.specs.declared.history.Verdict.TheVariants.{Took}
use Rattle.own_model.specs.Db.{Db}
use Rattle.history_model.proofs.EveryHistory.{serial-history}
use Rattle.history_model.proofs.HistoryLemmas.{flat-world}
use Rattle.store_disk.specs.Kept.{IsKept}
use Rattle.serve_model.specs.Ahead.{IsBoundAhead}
use Rattle.serve_model.specs.declared.step.Step.{Step}
use Rattle.engine_core.specs.Came.{reply_by}
use Rattle.engine_core.specs.Seen.{Seen, Steps, entry as made}
use Rattle.engine_core.proofs.EngineStands.{makes-made, stands-after, writes-made}
use Rattle.engine_core.proofs.LookSteps.{steps-came}
use Rattle.engine_core.proofs.RepresentsLemmas.{leaves-of}
use Rattle.engine_core.proofs.engine.Engine.step_ahead.Goals as goal
use Rattle.engine_core.proofs.engine.Engine.step_ahead.Goals.{in-Err, in-Ok}

pub make-requires-clause-seen : goal.make-requires-clause-seen
make-requires-clause-seen g c = c.self.invariant.1

pub make-requires-clause-ahead : goal.make-requires-clause-ahead
make-requires-clause-ahead g c =
    subst (λ (seen : Seen g.row.D.Denot). IfSome c.args.ahead (IsBoundAhead seen.base seen.history c.args.request)) (sym c.self.view_is) c.requires.ahead

-- while the disk hasn't failed it keeps the state
pub make-requires-clause-store : goal.make-requires-clause-store
make-requires-clause-store g c none = record {
  sound = c.self.invariant.0.failed ∙ ap is_some none;
  kept = λ honest.
      let D = g.D.Disk in
      let store = c.self.inside.store in
      subst (λ db. IsKept D.holds D.leaves store.journal db store.commits) (flat-world _ _ ∙ sym (c.self.invariant.0.represents none).flat) (c.self.invariant.0.kept none honest);
}

pub invariant_of-self : goal.invariant_of-self
invariant_of-self g c =
    let D = g.D.Disk in
    let was = c.self.inside in
    let now = c.make.new in (
      stands-after D.holds D.leaves D.moment D.might_have_left D.honest D.faults g.met.D.Disk.only_now g.met.D.Disk.now_counts was.start (record { epoch = was.epoch; end = was.end }) was.state now.state was.store now.store was.down now.down was.history.items now.history.items
          c.self.invariant.0 c.make.ensures.opened reply_by (made c.args.session c.args.call c.args.request Took) refl
          (record { readable = c.requires.readable; first = c.requires.first; last = c.requires.last }) c.make.result c.make.ensures.made c.make.ensures.unmade,
      c.make.ensures.seen,
    )

pub returns-clause-steps : goal.returns-clause-steps
returns-clause-steps g c =
    let D = g.D.Disk in
    let was = c.self.inside in
    let now = c.make.new in
    let call : Entry = made c.args.session c.args.call c.args.request Took in
    let first = was.opening.value.journal in
    let spare = vec_capacity was.history - vec_len was.history in
    let spare_after = vec_capacity now.history - vec_len now.history in
    let before : Seen g.row.D.Denot = record { base = was.state.opened; start = was.start; area = first.area; journal = record { epoch = was.epoch; end = was.end }; opening = first.disk; history = was.history.items; spare = spare; store = was.store } in
    let after : Db → Seen g.row.D.Denot = λ base. record { base = base; start = was.start; area = first.area; journal = record { epoch = was.epoch; end = was.end }; opening = first.disk; history = now.history.items; spare = spare_after; store = now.store } in
    let steps : Step Db → Type 0 = λ step. Steps D.holds D.leaves D.moment D.might_have_left D.honest D.faults before (after was.state.opened) call step in
    let told : steps c.match-make.result =
    elim c.match-make.branch [
      | in-Ok w ↦ subst steps (sym (w.result-is ∙ w.step_of.ensures))
          (steps-came D.holds D.leaves D.moment D.might_have_left D.honest D.faults before (after was.state.opened) call refl w.in-Ok.place w.in-Ok.came w.in-Ok.ensures.made.verdict
          (makes-made D.holds D.leaves D.moment D.might_have_left D.honest D.faults g.met.D.Disk.only_now g.met.D.Disk.now_counts was.start (record { epoch = was.epoch; end = was.end }) was.state now.state was.store now.store was.down now.down was.history.items
          now.history.items c.self.invariant.0 call refl w.in-Ok.place.0 (reply_by w.in-Ok.came) w.in-Ok.ensures.made first.area spare spare_after c.make.ensures.room)
          (writes-made D.holds D.leaves D.moment D.might_have_left D.honest D.faults g.met.D.Disk.only_now g.met.D.Disk.now_counts was.start (record { epoch = was.epoch; end = was.end }) was.state now.state was.store now.store was.down now.down was.history.items
          now.history.items c.self.invariant.0 call refl w.in-Ok.place.0 (reply_by w.in-Ok.came) w.in-Ok.ensures.made first.area spare spare_after)
          w.in-Ok.ensures.comes)
      | in-Err w ↦ subst steps (sym w.result-is)
          (leaves-of was.state.opened was.start first.area _ first.disk was.history.items now.history.items spare spare_after was.store now.store call w.in-Err.ensures.unmade.0 w.in-Err.ensures.room_left w.in-Err.ensures.unmade.2
          w.in-Err.ensures.spared)
    ] in
    subst (λ seen. Steps D.holds D.leaves D.moment D.might_have_left D.honest D.faults seen (after now.state.opened) call c.match-make.result) c.self.view_is
    (subst (λ base. Steps D.holds D.leaves D.moment D.might_have_left D.honest D.faults before (after base) call c.match-make.result) (sym c.make.ensures.opened) told)

pub returns-clause-serial : goal.returns-clause-serial
returns-clause-serial g c = let stands = (invariant_of-self g c).0 in serial-history c.make.new.state.opened c.make.new.history.items stands.begun stands.entries

pub returns-clause-count : goal.returns-clause-count
returns-clause-count g c = (invariant_of-self g c).0.count

pub returns-clause-left : goal.returns-clause-left
returns-clause-left g c = (invariant_of-self g c).0.left
