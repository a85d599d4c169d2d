use Rattle.std.proofs.Common.{◌≡◌, ◌∙◌, ℕ, [], ◌∷◌, ◌++◌, ap, refl, rules, subst, sym}
use Rattle.std.specs.Prelude.{None, Some, Ok, option_map, if◌then◌else◌}
use Rattle.own_base.specs.declared.number.Place.{Place}
use Rattle.own_model.specs.declared.history.Verdict.TheVariants.{Took}
use Rattle.own_model.specs.declared.refusal.Refusal.TheVariants.{Down}
use Rattle.own_model.specs.declared.reply.Reply.TheVariants.{Refused}
use Rattle.history_model.specs.AsksDisk.{under}
use Rattle.engine_core.specs.declared.came.Came.TheVariants.{Replied}
use Rattle.history_model.specs.History.{History, world}
use Rattle.engine_core.specs.Came.{ComesAs, reply_by}
use Rattle.engine_core.specs.RepresentsWorld.{Serves}
use Rattle.engine_core.specs.Stored.{Stores, is_fault}
use Rattle.engine_core.proofs.LookEvents.{comes-as, no-look-down}
use Rattle.engine_core.proofs.MadeCalls.{made-down, made-up}
use Rattle.engine_core.proofs.engine.make.Goals as goal
use Rattle.engine_core.proofs.engine.make.Goals.{then-is_fault, else-is_fault}

-- the disk has failed, and that is told
pub returns-in-Some-clause-made : goal.returns-in-Some-clause-made
returns-in-Some-clause-made g c =
    let D = g.D.Disk in
    made-down D.holds D.leaves D.moment D.might_have_left D.honest D.faults c.args.state.now.opened c.args.history.now.items c.push_reserved.new.self.items c.args.state.now c.args.store.now c.args.store.now
    c.args.down.now c.args.down.now c.args.entry c.len.result (search rules) c.requires.down c.in-Some.failed c.in-Some.is c.requires.took
    (c.push_reserved.ensures.items ∙ ap (λ (items : History). items ++ c.args.entry ∷ []) c.reserve.ensures.items) refl refl

-- then it is no look
pub returns-in-Some-clause-comes : goal.returns-in-Some-clause-comes
returns-in-Some-clause-comes g c =
    comes-as c.args.at_once (world c.args.state.now.opened c.args.history.now.items) c.args.entry (Replied Took (Refused (Down c.in-Some.failed))) tt
    (no-look-down (world c.args.state.now.opened c.args.history.now.items) c.args.entry c.in-Some.failed.0 (c.requires.down ∙ ap (option_map (λ (place : Place). place.0)) c.in-Some.is))

-- or the call was served, and the place is where the disk failed, if it did
pub returns-after-is_fault-clause-made : goal.returns-after-is_fault-clause-made
returns-after-is_fault-clause-made g c =
    let D = g.D.Disk in
    let same = c.deref.ensures.value ∙ c.reserve.ensures.items in
    let verdict = c.verdict_by-verdict.result in
    let reply = reply_by c.in-Ok.came in
    let call = c.args.entry in
    let up : c.args.down.now ≡ None = c.in_default.is in
    let fails : option_map (λ (place : Place). place.0) c.if-is_fault.down ≡ (if is_fault verdict then Some c.len.result else None) =
    elim c.if-is_fault.branch [
      | then-is_fault w ↦ ap (option_map (λ (place : Place). place.0)) w.down-is ∙ ap (λ b. if b then Some c.len.result else None) w.if-is_fault.ensures
      | else-is_fault w ↦ ap (option_map (λ (place : Place). place.0)) (w.down-is ∙ up) ∙ ap (λ b. if b then Some c.len.result else None) w.if-is_fault.ensures
    ] in
    made-up D.holds D.leaves D.moment D.might_have_left D.honest D.faults c.args.state.now.opened c.args.history.now.items c.push_reserved-in-Ok.new.self.items c.serve_ahead.new.state c.args.store.now c.serve_ahead.new.store
    c.args.down.now c.if-is_fault.down call c.len.result (search rules) c.requires.down verdict reply up
    (c.push_reserved-in-Ok.ensures.items ∙ ((λ i. c.reserve.new.self.items ++ c.under.ensures i ∷ []) ∙ ap (λ (items : History). items ++ under verdict call ∷ []) c.reserve.ensures.items))
    (subst (λ (history : History). Serves {E = ℕ} c.args.state.now.opened c.serve_ahead.new.state history call (Ok (verdict, reply))) same
    (subst (λ verdict. Serves {E = ℕ} c.args.state.now.opened c.serve_ahead.new.state c.deref.result.now call (Ok (verdict, reply))) (sym c.verdict_by-verdict.ensures) c.in-Ok.ensures.served))
    (subst (λ (history : History). Stores {E = ℕ} D.holds D.leaves D.moment D.might_have_left D.honest D.faults (world c.args.state.now.opened history) call c.args.store.now (Ok (verdict, reply)) c.serve_ahead.new.store) same
    (subst (λ verdict. Stores {E = ℕ} D.holds D.leaves D.moment D.might_have_left D.honest D.faults (world c.args.state.now.opened c.deref.result.now) call c.args.store.now (Ok (verdict, reply)) c.serve_ahead.new.store)
    (sym c.verdict_by-verdict.ensures) c.in-Ok.ensures.stored))
    fails

pub returns-after-is_fault-clause-comes : goal.returns-after-is_fault-clause-comes
returns-after-is_fault-clause-comes g c =
    subst (λ (history : History). ComesAs c.args.at_once (world c.args.state.now.opened history) c.args.entry c.in-Ok.came) (c.deref.ensures.value ∙ c.reserve.ensures.items) c.in-Ok.ensures.comes
