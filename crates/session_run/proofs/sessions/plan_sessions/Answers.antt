use Rattle.std.proofs.Common.{List, [], ◌∷◌, ◌++◌, length, map, ap, ◌∙◌, sym, subst, arith, append_assoc}
use Rattle.std.specs.List.{AllByRecursion}
use Rattle.std.proofs.lemmas.List.{map-append}
use Rattle.std.specs.Vec.Iter.{into_iter_items}
use Rattle.session_run.specs.declared.sessions.Plan.{Plan}
use Rattle.session_run.specs.Jobs.{HasRoom}
use Rattle.session_run.proofs.JobLemmas.{all-append}
use Rattle.session_run.proofs.sessions.plan_sessions.Goals as goal

pub loop-calls-preserved : goal.loop-calls-preserved
loop-calls-preserved c =
    let so_far = c.loop-calls.invariant in
    let items = c.in-Some.ensures.steps.0 in
    let room = rw items at so_far.room in
    let plan : Plan = record { calls = c.in-Some.calls; tolds = c.in_ok-tolds.tolds } in
    record {
      whole = ap (λ (plans : List Plan). map (λ plan. plan.calls) plans ++ into_iter_items c.next.new.self) c.push_reserved.ensures.items
          ∙ (ap (λ calls. calls ++ into_iter_items c.next.new.self) (map-append (λ (plan : Plan). plan.calls) c.loop-calls.plans.items (plan ∷ []))
          ∙ (append_assoc (map (λ (plan : Plan). plan.calls) c.loop-calls.plans.items) (c.in-Some.calls ∷ []) _
          ∙ (ap (λ rest. map (λ (plan : Plan). plan.calls) c.loop-calls.plans.items ++ rest) (sym items) ∙ so_far.whole)));
      rooms = subst (λ plans. AllByRecursion HasRoom plans) (sym c.push_reserved.ensures.items)
          (all-append HasRoom c.loop-calls.plans.items (plan ∷ []) so_far.rooms (record { none = c.in_ok-tolds.ensures.items; room = omega (arith, c.in_ok-tolds.ensures.capacity, ap length c.items.ensures) }, tt));
      room = omega (arith, c.push_reserved.ensures.len, c.push_reserved.ensures.capacity);
    }
