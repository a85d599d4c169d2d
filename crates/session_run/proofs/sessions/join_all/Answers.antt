use Rattle.std.proofs.Common.{◌<◌, List, [], ◌∷◌, ◌++◌, length, map, ap, ◌∙◌, sym, subst, arith, append_assoc}
use Rattle.std.proofs.lemmas.List.{map-append}
use Rattle.commit_turn.specs.Passes.{view_of}
use Rattle.session_run.specs.declared.replies.SessionReplies.{SessionReplies}
use Rattle.session_run.specs.declared.replies.Told.{Told}
use Rattle.session_run.specs.declared.sessions.Job.{Job}
use Rattle.session_run.specs.Jobs.{HasPlaces, number_of, replies_of}
use Rattle.session_run.specs.Sessions.{StandOnce}
use Rattle.session_run.proofs.JobLemmas.{joined-more, once-job, place-job}
use Rattle.session_run.proofs.sessions.join_all.Goals as goal

pub loop-job-preserved : goal.loop-job-preserved
loop-job-preserved g c =
    let so_far = c.loop-job.invariant in
    let items = c.in-Some.ensures.steps.0 in
    let own = c.join.ensures in
    let passes = rw items at so_far.passes in
    let room = rw items at so_far.room in
    let whole = rw items at so_far.whole in
    let once = once-job c.loop-job.yielded c.in-Some.job _ (subst (λ (jobs : List Job). StandOnce (map (λ job. number_of job.plan) jobs)) (sym whole) c.requires.once) in
    let reply : List Told → SessionReplies = λ tolds. record { session = c.in-Some.job.plan.calls.session; replies = tolds } in
    let inside : number_of c.in-Some.job.plan < length (view_of c.loop-job.lead).stages =
    subst (λ n. number_of c.in-Some.job.plan < n) (sym so_far.joined.long)
    (place-job c.loop-job.yielded c.in-Some.job _ (view_of c.args.lead.now) (subst (λ (jobs : List Job). HasPlaces (view_of c.args.lead.now) (map (λ job. number_of job.plan) jobs)) (sym whole) c.requires.places)) in
    record {
      pass = own.pass;
      joined = joined-more c.args.lead.now c.loop-job.lead c.join.new.lead c.loop-job.yielded c.in-Some.job own.view passes.0.1 inside once own.heard.0 own.heard.1 so_far.joined;
      whole = append_assoc c.loop-job.yielded (c.in-Some.job ∷ []) _ ∙ whole;
      replies = c.push_reserved.ensures.items ∙ (ap (λ (tolds : List Told). c.loop-job.replies.items ++ reply tolds ∷ []) c.from_vec.ensures ∙ (ap (λ replies. replies ++ replies_of c.in-Some.job ∷ []) so_far.replies ∙ sym (map-append replies_of c.loop-job.yielded (c.in-Some.job ∷ []))));
      passes = passes.1;
      room = omega (arith, c.push_reserved.ensures.len, c.push_reserved.ensures.capacity);
    }
