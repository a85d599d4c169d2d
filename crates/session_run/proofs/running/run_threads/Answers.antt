use Rattle.std.proofs.Common.{◌≡◌, ◌∙◌, ℕ, List, [], ◌∷◌, ◌++◌, length, take, drop, append-nil, arith, ap, refl, sym}
use Rattle.std.proofs.Math.ListN.{drop_of_length-le}
use Rattle.std.proofs.Math.Seq.{take-length}
use Rattle.atomic_table.specs.Seated.{TableId}
use Rattle.session_run.specs.declared.sessions.Job.{Job}
use Rattle.session_run.specs.Jobs.{AreJoined, DoesJob}
use Rattle.session_run.specs.Sessions.{Pairwise}
use Rattle.session_run.proofs.RunLemmas.{done-once, done-passes, done-places, lead-mid, plans-fresh, plans-numbered, plans-once, ran-base, ran-grows, ran-lead, ran-others, ran-out, ran-serial, ran-served, ran-start, ready-jobs}
use Rattle.session_run.proofs.running.run_threads.Goals as goal

-- as many jobs are done as there were
same_long : (turn : TableId) (old new : List Job) → Pairwise (DoesJob turn) old new → length new ≡ length old
same_long turn [] [] does = refl
same_long turn [] (job ∷ new) does = absurd does
same_long turn (job ∷ old) [] does = absurd does
same_long turn (job ∷ old) (other ∷ new) does = let rest = same_long turn old new does.1 in omega arith

-- so they are all that lie in the list where they were
all_of : (turn : TableId) (count : ℕ) (old new : List Job) → count ≡ length old → Pairwise (DoesJob turn) old new → take count (new ++ drop (length new) old) ≡ new
all_of turn count old new counts does =
    let long = same_long turn old new does in
    let rest : drop (length new) old ≡ [] = drop_of_length-le old (omega arith) in
    ap (λ jobs. take count (new ++ jobs)) rest ∙ (ap (take count) (append-nil new) ∙ (ap (λ n. take n new) (counts ∙ sym long) ∙ take-length new))

pub send_out-jobs-requires-clause-numbers : goal.send_out-jobs-requires-clause-numbers
send_out-jobs-requires-clause-numbers g c = plans-numbered c.args.sessions c.in_ok-plans.plans.items c.in_ok-plans.ensures.plans c.requires.calls

pub send_out-jobs-requires-clause-fresh : goal.send_out-jobs-requires-clause-fresh
send_out-jobs-requires-clause-fresh g c = plans-fresh c.args.sessions c.in_ok-plans.plans.items c.in_ok-plans.ensures.plans c.args.lead.now c.requires.fresh

pub send_out-jobs-requires-clause-once : goal.send_out-jobs-requires-clause-once
send_out-jobs-requires-clause-once g c = plans-once c.args.sessions c.in_ok-plans.plans.items c.in_ok-plans.ensures.plans c.requires.once

pub do_jobs-requires-after_bounds : goal.do_jobs-requires-after_bounds
do_jobs-requires-after_bounds g c κs within =
    let sent = c.send_out-jobs.ensures in
    rw c.as_mut_slice.ensures.value (ready-jobs c.args.sessions c.in_ok-plans.plans.items c.in_ok-plans.ensures.plans c.args.turn.now c.args.lead.now c.send_out-jobs.new.lead c.send_out-jobs.result.items
    sent.lead.1 sent.plans sent.passes c.in_ok-plans.ensures.room c.requires.calls)

pub join_all-requires-clause-lead : goal.join_all-requires-clause-lead
join_all-requires-clause-lead g c =
    let sent = c.send_out-jobs.ensures in (
      sent.lead.0,
      lead-mid c.args.sessions c.in_ok-plans.plans.items c.in_ok-plans.ensures.plans c.args.turn.now c.args.lead.now c.send_out-jobs.new.lead c.send_out-jobs.result.items sent.lead.1 sent.plans sent.passes
          ∙ c.requires.lead.1,
    )

pub join_all-requires-clause-passes : goal.join_all-requires-clause-passes
join_all-requires-clause-passes g c =
    let sent = c.send_out-jobs.ensures in
    let does : Pairwise (DoesJob c.args.turn.now) c.send_out-jobs.result.items c.do_jobs.new.jobs = rw (← c.as_mut_slice.ensures.value) c.do_jobs.ensures in
    let all = all_of c.args.turn.now c.send_out-jobs.result.len c.send_out-jobs.result.items c.do_jobs.new.jobs (omega (arith, c.send_out-jobs.result.ok)) does in
    rw all (done-passes c.args.sessions c.in_ok-plans.plans.items c.in_ok-plans.ensures.plans c.args.turn.now c.args.lead.now c.send_out-jobs.new.lead c.send_out-jobs.result.items sent.lead.1 sent.plans sent.passes
    c.do_jobs.new.jobs does)

pub join_all-requires-clause-once : goal.join_all-requires-clause-once
join_all-requires-clause-once g c =
    let sent = c.send_out-jobs.ensures in
    let does : Pairwise (DoesJob c.args.turn.now) c.send_out-jobs.result.items c.do_jobs.new.jobs = rw (← c.as_mut_slice.ensures.value) c.do_jobs.ensures in
    let all = all_of c.args.turn.now c.send_out-jobs.result.len c.send_out-jobs.result.items c.do_jobs.new.jobs (omega (arith, c.send_out-jobs.result.ok)) does in
    rw all (done-once c.args.sessions c.in_ok-plans.plans.items c.in_ok-plans.ensures.plans c.args.turn.now c.args.lead.now c.send_out-jobs.new.lead c.send_out-jobs.result.items sent.lead.1 sent.plans sent.passes
    c.do_jobs.new.jobs does c.requires.once)

pub join_all-requires-clause-places : goal.join_all-requires-clause-places
join_all-requires-clause-places g c =
    let sent = c.send_out-jobs.ensures in
    let does : Pairwise (DoesJob c.args.turn.now) c.send_out-jobs.result.items c.do_jobs.new.jobs = rw (← c.as_mut_slice.ensures.value) c.do_jobs.ensures in
    let all = all_of c.args.turn.now c.send_out-jobs.result.len c.send_out-jobs.result.items c.do_jobs.new.jobs (omega (arith, c.send_out-jobs.result.ok)) does in
    rw all (done-places c.args.sessions c.in_ok-plans.plans.items c.in_ok-plans.ensures.plans c.args.turn.now c.args.lead.now c.send_out-jobs.new.lead c.send_out-jobs.result.items sent.lead.1 sent.plans sent.passes
    c.do_jobs.new.jobs does sent.places)

pub returns-clause-served : goal.returns-clause-served
returns-clause-served g c =
    let sent = c.send_out-jobs.ensures in
    let does : Pairwise (DoesJob c.args.turn.now) c.send_out-jobs.result.items c.do_jobs.new.jobs = rw (← c.as_mut_slice.ensures.value) c.do_jobs.ensures in
    let all = all_of c.args.turn.now c.send_out-jobs.result.len c.send_out-jobs.result.items c.do_jobs.new.jobs (omega (arith, c.send_out-jobs.result.ok)) does in
    let joined : AreJoined c.send_out-jobs.new.lead c.join_all.new.lead c.do_jobs.new.jobs = rw all at c.join_all.ensures.joined in
    rw (c.from_vec.ensures, c.join_all.ensures.replies, all) (ran-served c.args.sessions c.in_ok-plans.plans.items c.in_ok-plans.ensures.plans c.args.turn.now c.args.lead.now c.send_out-jobs.new.lead c.send_out-jobs.result.items sent.lead.1 sent.plans sent.passes
    c.do_jobs.new.jobs does c.join_all.new.lead joined)

pub returns-clause-lead : goal.returns-clause-lead
returns-clause-lead g c =
    let sent = c.send_out-jobs.ensures in
    let does : Pairwise (DoesJob c.args.turn.now) c.send_out-jobs.result.items c.do_jobs.new.jobs = rw (← c.as_mut_slice.ensures.value) c.do_jobs.ensures in
    let all = all_of c.args.turn.now c.send_out-jobs.result.len c.send_out-jobs.result.items c.do_jobs.new.jobs (omega (arith, c.send_out-jobs.result.ok)) does in
    let joined : AreJoined c.send_out-jobs.new.lead c.join_all.new.lead c.do_jobs.new.jobs = rw all at c.join_all.ensures.joined in (
      c.join_all.ensures.lead,
      ran-lead c.args.sessions c.in_ok-plans.plans.items c.in_ok-plans.ensures.plans c.args.turn.now c.args.lead.now c.send_out-jobs.new.lead c.send_out-jobs.result.items sent.lead.1 sent.plans sent.passes
          c.do_jobs.new.jobs does c.join_all.new.lead joined ∙ c.requires.lead.1,
    )

pub returns-clause-base : goal.returns-clause-base
returns-clause-base g c =
    let sent = c.send_out-jobs.ensures in
    let does : Pairwise (DoesJob c.args.turn.now) c.send_out-jobs.result.items c.do_jobs.new.jobs = rw (← c.as_mut_slice.ensures.value) c.do_jobs.ensures in
    let all = all_of c.args.turn.now c.send_out-jobs.result.len c.send_out-jobs.result.items c.do_jobs.new.jobs (omega (arith, c.send_out-jobs.result.ok)) does in
    let joined : AreJoined c.send_out-jobs.new.lead c.join_all.new.lead c.do_jobs.new.jobs = rw all at c.join_all.ensures.joined in
    ran-base c.args.sessions c.in_ok-plans.plans.items c.in_ok-plans.ensures.plans c.args.turn.now c.args.lead.now c.send_out-jobs.new.lead c.send_out-jobs.result.items sent.lead.1 sent.plans sent.passes
    c.do_jobs.new.jobs does c.join_all.new.lead joined

pub returns-clause-start : goal.returns-clause-start
returns-clause-start g c =
    let sent = c.send_out-jobs.ensures in
    let does : Pairwise (DoesJob c.args.turn.now) c.send_out-jobs.result.items c.do_jobs.new.jobs = rw (← c.as_mut_slice.ensures.value) c.do_jobs.ensures in
    let all = all_of c.args.turn.now c.send_out-jobs.result.len c.send_out-jobs.result.items c.do_jobs.new.jobs (omega (arith, c.send_out-jobs.result.ok)) does in
    let joined : AreJoined c.send_out-jobs.new.lead c.join_all.new.lead c.do_jobs.new.jobs = rw all at c.join_all.ensures.joined in
    ran-start c.args.sessions c.in_ok-plans.plans.items c.in_ok-plans.ensures.plans c.args.turn.now c.args.lead.now c.send_out-jobs.new.lead c.send_out-jobs.result.items sent.lead.1 sent.plans sent.passes
    c.do_jobs.new.jobs does c.join_all.new.lead joined

pub returns-clause-grows : goal.returns-clause-grows
returns-clause-grows g c =
    let sent = c.send_out-jobs.ensures in
    let does : Pairwise (DoesJob c.args.turn.now) c.send_out-jobs.result.items c.do_jobs.new.jobs = rw (← c.as_mut_slice.ensures.value) c.do_jobs.ensures in
    let all = all_of c.args.turn.now c.send_out-jobs.result.len c.send_out-jobs.result.items c.do_jobs.new.jobs (omega (arith, c.send_out-jobs.result.ok)) does in
    let joined : AreJoined c.send_out-jobs.new.lead c.join_all.new.lead c.do_jobs.new.jobs = rw all at c.join_all.ensures.joined in
    ran-grows c.args.sessions c.in_ok-plans.plans.items c.in_ok-plans.ensures.plans c.args.turn.now c.args.lead.now c.send_out-jobs.new.lead c.send_out-jobs.result.items sent.lead.1 sent.plans sent.passes
    c.do_jobs.new.jobs does c.join_all.new.lead joined

pub returns-clause-serial : goal.returns-clause-serial
returns-clause-serial g c =
    let sent = c.send_out-jobs.ensures in
    let does : Pairwise (DoesJob c.args.turn.now) c.send_out-jobs.result.items c.do_jobs.new.jobs = rw (← c.as_mut_slice.ensures.value) c.do_jobs.ensures in
    let all = all_of c.args.turn.now c.send_out-jobs.result.len c.send_out-jobs.result.items c.do_jobs.new.jobs (omega (arith, c.send_out-jobs.result.ok)) does in
    let joined : AreJoined c.send_out-jobs.new.lead c.join_all.new.lead c.do_jobs.new.jobs = rw all at c.join_all.ensures.joined in
    ran-serial c.args.sessions c.in_ok-plans.plans.items c.in_ok-plans.ensures.plans c.args.turn.now c.args.lead.now c.send_out-jobs.new.lead c.send_out-jobs.result.items sent.lead.1 sent.plans sent.passes
    c.do_jobs.new.jobs does c.join_all.new.lead joined

pub returns-clause-others : goal.returns-clause-others
returns-clause-others g c =
    let sent = c.send_out-jobs.ensures in
    let does : Pairwise (DoesJob c.args.turn.now) c.send_out-jobs.result.items c.do_jobs.new.jobs = rw (← c.as_mut_slice.ensures.value) c.do_jobs.ensures in
    let all = all_of c.args.turn.now c.send_out-jobs.result.len c.send_out-jobs.result.items c.do_jobs.new.jobs (omega (arith, c.send_out-jobs.result.ok)) does in
    let joined : AreJoined c.send_out-jobs.new.lead c.join_all.new.lead c.do_jobs.new.jobs = rw all at c.join_all.ensures.joined in
    ran-others c.args.sessions c.in_ok-plans.plans.items c.in_ok-plans.ensures.plans c.args.turn.now c.args.lead.now c.send_out-jobs.new.lead c.send_out-jobs.result.items sent.lead.1 sent.plans sent.passes
    c.do_jobs.new.jobs does c.join_all.new.lead joined

pub returns-clause-out : goal.returns-clause-out
returns-clause-out g c =
    let sent = c.send_out-jobs.ensures in
    let does : Pairwise (DoesJob c.args.turn.now) c.send_out-jobs.result.items c.do_jobs.new.jobs = rw (← c.as_mut_slice.ensures.value) c.do_jobs.ensures in
    let all = all_of c.args.turn.now c.send_out-jobs.result.len c.send_out-jobs.result.items c.do_jobs.new.jobs (omega (arith, c.send_out-jobs.result.ok)) does in
    let joined : AreJoined c.send_out-jobs.new.lead c.join_all.new.lead c.do_jobs.new.jobs = rw all at c.join_all.ensures.joined in
    ran-out c.args.sessions c.in_ok-plans.plans.items c.in_ok-plans.ensures.plans c.args.turn.now c.args.lead.now c.send_out-jobs.new.lead c.send_out-jobs.result.items sent.lead.1 sent.plans sent.passes
    c.do_jobs.new.jobs does c.join_all.new.lead joined c.requires.lead.0 c.join_all.ensures.lead c.requires.fresh
