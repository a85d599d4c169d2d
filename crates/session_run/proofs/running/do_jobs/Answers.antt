use Rattle.std.proofs.Common.{◌≡◌, subst}
use Rattle.session_run.specs.declared.sessions.Job.{Job}
use Rattle.session_run.specs.Jobs.{DoesJob}
use Rattle.session_run.proofs.JobLemmas.{pairwise-from_places}
use Rattle.turn_model.proofs.Sent.{passed_send}
use Rattle.session_run.proofs.SentJobs.{job_send}
use Rattle.session_run.proofs.running.do_jobs.Goals as goal

-- what is so of two jobs is so of those that they are
along : (R : Job → Job → Type 0) (x y u v : Job) → x ≡ u → y ≡ v → R x y → R u v
along R x y u v p q is = subst (λ y. R u y) q (subst (λ x. R x y) p is)

pub returns : goal.returns
returns g c = pairwise-from_places (DoesJob c.args.turn.now) _ _ c.for_each_mut.auto.s
    (λ i d inside. let at = (c.for_each_mut.ensures i d inside).1 in along (DoesJob c.args.turn.now) _ _ _ _ at.argument_is at.left at.call)

-- a job may be sent to its worker
pub for_each_mut-requires-send-T : goal.for_each_mut-requires-send-T
for_each_mut-requires-send-T g c κs within = passed_send _ _ _ job_send
