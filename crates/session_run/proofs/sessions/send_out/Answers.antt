use Rattle.std.proofs.Common.{◌<◌, [], ◌∷◌, ◌++◌, length, map, ap, ◌∙◌, sym, subst, arith, append_assoc}
use Rattle.std.proofs.lemmas.List.{map-append}
use Rattle.commit_turn.specs.Passes.{view_of}
use Rattle.commit_turn.specs.Steps.{lead_without, split_off}
use Rattle.session_run.specs.declared.sessions.Job.{Job}
use Rattle.session_run.specs.Jobs.{HasPlaces, IsSentFrom, lead_sent, number_of}
use Rattle.session_run.proofs.JobLemmas.{all-append, fresh-stay, sent-long, sent-more, sent-split}
use Rattle.session_run.proofs.sessions.send_out.Goals as goal

pub loop-plan-preserved : goal.loop-plan-preserved
loop-plan-preserved g c =
    let so_far = c.loop-plan.invariant in
    let items = c.in-Some.ensures.steps.0 in
    let own = c.split-pass.ensures in
    let before = view_of c.args.lead.now in
    let done = map number_of c.loop-plan.yielded in
    let number = number_of c.in-Some.plan in
    let fresh = rw items at so_far.fresh in
    let once = rw items at so_far.once in
    let numbers = rw items at so_far.numbers in
    let room = rw items at so_far.room in
    record {
      pass = own.lead.0;
      lead = ap (λ view. view.lead) own.lead.1 ∙ so_far.lead;
      view = own.lead.1 ∙ (ap (lead_without number) so_far.view ∙ (sym (sent-more done number before)
          ∙ ap (λ numbers. lead_sent numbers before) (sym (map-append number_of c.loop-plan.yielded (c.in-Some.plan ∷ [])))));
      whole = append_assoc c.loop-plan.yielded (c.in-Some.plan ∷ []) _ ∙ (ap (λ rest. c.loop-plan.yielded ++ rest) (sym items) ∙ so_far.whole);
      plans = ap (map (λ (job : Job). job.plan)) c.push_reserved.ensures.items
          ∙ (map-append (λ (job : Job). job.plan) c.loop-plan.jobs.items _ ∙ ap (λ plans. plans ++ c.in-Some.plan ∷ []) so_far.plans);
      passes = rw c.push_reserved.ensures.items
          (all-append (IsSentFrom c.args.turn.now before) c.loop-plan.jobs.items (_ ∷ []) so_far.passes
          (record { pass = own.pass.0; view = own.pass.1 ∙ (ap (split_off number) so_far.view ∙ sent-split done number before) }, tt));
      places = subst (HasPlaces before) (sym (map-append number_of c.loop-plan.yielded (c.in-Some.plan ∷ [])))
          (all-append (λ session. session < length before.stages) done (number ∷ []) so_far.places
          (subst (λ n. number < n) (ap (λ view. length view.stages) so_far.view ∙ sent-long done before) own.place, tt));
      numbers = numbers.1;
      fresh = fresh-stay number before c.loop-plan.lead c.split-pass.new.lead _ own.lead.1 once.0 fresh.1;
      once = once.1;
      room = omega (arith, c.push_reserved.ensures.len, c.push_reserved.ensures.capacity);
    }
