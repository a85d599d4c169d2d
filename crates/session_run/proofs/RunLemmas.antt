-- A run of sessions from its pieces.
use Rattle.std.proofs.Common.{◌≡◌, ℕ, ◌<◌, ◌≤◌, ◌≢◌, List, [], ◌∷◌, ◌++◌, length, map, refl, ap, sym, ◌∙◌, subst}
use Rattle.std.specs.Prelude.{false}
use Rattle.std.specs.List.{AllByRecursion}
use mathlib.Core.List.{IsPrefix}
use Rattle.atomic_table.specs.Seated.{TableId}
use Rattle.own_model.specs.declared.limit.TheConstants.{SESSIONS}
use Rattle.own_model.specs.declared.script.SessionCalls.{SessionCalls}
use Rattle.history_model.specs.Serial.{Serial}
use Rattle.commit_turn.specs.declared.pass.Pass.{Pass}
use Rattle.commit_turn.specs.declared.view.Stage.TheVariants.{Fresh}
use Rattle.commit_turn.specs.declared.view.View.{View}
use Rattle.commit_turn.specs.Flags.{raised}
use Rattle.commit_turn.specs.Passes.{IsFresh, IsPassOf, base, count_out, is_lead, kept, seen, start_of, view_of}
use Rattle.commit_turn.specs.Kept.{is_out, places_in}
use Rattle.commit_turn.specs.Rule.{stage_of}
use Rattle.session_run.specs.declared.sessions.Job.{Job}
use Rattle.session_run.specs.declared.sessions.Plan.{Plan}
use Rattle.session_run.specs.Jobs.{AreJoined, DoesJob, HasPlaces, HasRoom, IsJoined, IsReady, IsSentFrom, lead_sent, number_of, replies_of}
use Rattle.session_run.specs.Serving.{base_of}
use Rattle.session_run.specs.Sessions.{IsElsewhere, IsServable, IsServed, Pairwise, StandOnce, numbers_of}
use Rattle.session_run.specs.ToldCalls.{AreTold, places_told}
use Rattle.session_run.proofs.ToldLemmas.{told-grows}
use Rattle.session_run.proofs.JobLemmas.{all-both, all-map, all-mapped, all-weaker, sent-base, sent-elsewhere, sent-lead, sent-long, sent-seen, sent-start}
use Rattle.session_run.proofs.OutLemmas.{flags-back}

abbrev pub calls_of : Job → SessionCalls
calls_of job = job.plan.calls

-- jobs that were sent out for sessions may be begun
pub all-ready : (turn : TableId) (lead : View) (jobs : List Job) → AllByRecursion (IsSentFrom turn lead) jobs → AllByRecursion (λ job. HasRoom job.plan) jobs
    → AllByRecursion (λ job. IsServable (calls_of job)) jobs → AllByRecursion (IsReady turn) jobs
all-ready turn lead [] sent room calls = tt
all-ready turn lead (job ∷ jobs) sent room calls = (
  record {
    pass = sent.0.pass;
    worker = record { follows = ap (λ view. view.lead) sent.0.view; session_is = ap (λ view. view.session) sent.0.view };
    calls = calls.0;
    room = room.0;
  },
  all-ready turn lead jobs sent.1 room.1 calls.1,
)

-- jobs that were done are of the same sessions
pub same-numbers : (turn : TableId) (old new : List Job) → Pairwise (DoesJob turn) old new → map (λ job. number_of job.plan) new ≡ map (λ job. number_of job.plan) old
same-numbers turn [] [] does = refl
same-numbers turn [] (job ∷ new) does = absurd does
same-numbers turn (job ∷ old) [] does = absurd does
same-numbers turn (job ∷ old) (other ∷ new) does =
    (λ i. ap (λ session. session.0) does.0.session i ∷ same-numbers turn old new does.1 i)

-- and their passes may be joined
pub all-passes : (turn : TableId) (lead : View) (old new : List Job) → AllByRecursion (IsSentFrom turn lead) old → Pairwise (DoesJob turn) old new
    → AllByRecursion (λ job. IsPassOf turn job.pass × ((view_of job.pass).session ≡ number_of job.plan)) new
all-passes turn lead [] [] sent does = tt
all-passes turn lead [] (job ∷ new) sent does = absurd does
all-passes turn lead (job ∷ old) [] sent does = absurd does
all-passes turn lead (job ∷ old) (other ∷ new) sent does = (
  (does.0.pass, does.0.serves.stays.session ∙ (ap (λ view. view.session) sent.0.view ∙ sym (ap (λ session. session.0) does.0.session))),
  all-passes turn lead old new sent.1 does.1,
)

-- each session was served
pub all-served : (turn : TableId) (first last : Pass) (old new : List Job) → start_of last ≡ start_of first → AllByRecursion (IsSentFrom turn (view_of first)) old
    → Pairwise (DoesJob turn) old new → AllByRecursion (IsJoined last) new → Pairwise (IsServed last) (map calls_of old) (map replies_of new)
all-served turn first last [] [] start sent does joined = tt
all-served turn first last [] (job ∷ new) start sent does joined = absurd does
all-served turn first last (job ∷ old) [] start sent does joined = absurd does
all-served turn first last (job ∷ old) (other ∷ new) start sent does joined =
    let done = does.0.serves in
    let over : base_of job.pass ≡ base_of last = ap (λ view. view.start.base) sent.0.view ∙ sym (ap (λ start. start.base) start) in
    let own : number_of other.plan ≡ number_of job.plan = ap (λ session. session.0) does.0.session in (
      record {
        session = does.0.session;
        told = subst (λ base. AreTold base (seen last) job.plan.calls.session job.plan.calls.calls other.plan.tolds.items) over
            (told-grows (base_of job.pass) (seen other.pass) (seen last) job.plan.calls.session job.plan.calls.calls other.plan.tolds.items joined.0.grows done.told);
        places = ap (λ number. kept last number) (sym own)
            ∙ (ap places_in joined.0.stage ∙ (done.places ∙ ap (λ ps. ps ++ places_told other.plan.tolds.items) (ap (λ view. view.places) sent.0.view)));
      },
      all-served turn first last old new start sent.1 does.1 joined.1,
    )

-- what each has seen is serial
pub all-serial : (turn : TableId) (first : Pass) (old new : List Job) → AllByRecursion (IsSentFrom turn (view_of first)) old → Pairwise (DoesJob turn) old new
    → Serial (base_of first) (seen first) → AllByRecursion (λ job. Serial (base_of first) (seen job.pass)) new
all-serial turn first [] [] sent does serial = tt
all-serial turn first [] (job ∷ new) sent does serial = absurd does
all-serial turn first (job ∷ old) [] sent does serial = absurd does
all-serial turn first (job ∷ old) (other ∷ new) sent does serial =
    let over : base_of job.pass ≡ base_of first = ap (λ view. view.start.base) sent.0.view in
    let saw : seen job.pass ≡ seen first = ap (λ view. view.seen) sent.0.view in (
      subst (λ base. Serial base (seen other.pass)) over (does.0.serves.serial (subst (λ base. Serial base (seen job.pass)) (sym over) (subst (Serial (base_of first)) (sym saw) serial))),
      all-serial turn first old new sent.1 does.1 serial,
    )

-- what is made of each in two steps is made in one
twice : {X Y Z : Type 0} (f : X → Y) (g : Y → Z) (xs : List X) → map g (map f xs) ≡ map (λ x. g (f x)) xs
twice f g [] = refl
twice f g (x ∷ xs) = ap (λ rest. g (f x) ∷ rest) (twice f g xs)

module _ (sessions : List SessionCalls) (plans : List Plan) (calls : map (λ (plan : Plan). plan.calls) plans ≡ sessions) where
  -- plans have the numbers of their sessions
  pub plan-numbers : map number_of plans ≡ numbers_of sessions
  plan-numbers = sym (twice (λ (plan : Plan). plan.calls) (λ (calls : SessionCalls). calls.session.0) plans) ∙ ap (λ (sessions : List SessionCalls). numbers_of sessions) calls

  -- what holds of each session's calls holds of each plan's
  pub of-plans : (P : SessionCalls → Type 0) → AllByRecursion P sessions → AllByRecursion (λ (plan : Plan). P plan.calls) plans
  of-plans P all = all-map (λ (plan : Plan). plan.calls) P plans (subst (AllByRecursion P) (sym calls) all)

  -- so their numbers are of sessions that there are, stand once, and are fresh
  pub plans-numbered : AllByRecursion IsServable sessions → AllByRecursion (λ plan. number_of plan ≤ SESSIONS) plans
  plans-numbered servable = all-weaker (λ (plan : Plan). IsServable plan.calls) (λ plan. number_of plan ≤ SESSIONS) (λ plan is. is.last) plans (of-plans IsServable servable)

  pub plans-once : StandOnce (numbers_of sessions) → StandOnce (map number_of plans)
  plans-once once = subst StandOnce (sym plan-numbers) once

  pub plans-fresh : (lead : Pass) → AllByRecursion (λ (calls : SessionCalls). IsFresh lead calls.session.0) sessions → AllByRecursion (λ plan. IsFresh lead (number_of plan)) plans
  plans-fresh lead fresh = of-plans (λ (calls : SessionCalls). IsFresh lead calls.session.0) fresh

  module _ (turn : TableId) (first mid : Pass) (jobs : List Job) (sent : view_of mid ≡ lead_sent (map number_of plans) (view_of first))
      (are : map (λ (job : Job). job.plan) jobs ≡ plans) (away : AllByRecursion (IsSentFrom turn (view_of first)) jobs) where
    of_jobs : (P : Plan → Type 0) → AllByRecursion P plans → AllByRecursion (λ (job : Job). P job.plan) jobs
    of_jobs P all = all-map (λ (job : Job). job.plan) P jobs (subst (AllByRecursion P) (sym are) all)

    job_numbers : map (λ (job : Job). number_of job.plan) jobs ≡ numbers_of sessions
    job_numbers = sym (twice (λ (job : Job). job.plan) number_of jobs) ∙ (ap (map number_of) are ∙ plan-numbers)

    job_calls : map calls_of jobs ≡ sessions
    job_calls = sym (twice (λ (job : Job). job.plan) (λ (plan : Plan). plan.calls) jobs) ∙ (ap (map (λ (plan : Plan). plan.calls)) are ∙ calls)

    -- the jobs of sessions may be begun
    pub ready-jobs : AllByRecursion HasRoom plans → AllByRecursion IsServable sessions → AllByRecursion (IsReady turn) jobs
    ready-jobs room servable = all-ready turn (view_of first) jobs away (of_jobs HasRoom room) (of_jobs (λ plan. IsServable plan.calls) (of-plans IsServable servable))

    -- the lead that is left stays the lead, of a turn with the same start
    pub lead-mid : is_lead mid ≡ is_lead first
    lead-mid = ap (λ view. view.lead) sent ∙ sent-lead (map number_of plans) (view_of first)

    base_mid : base mid ≡ base first
    base_mid = ap (λ view. view.base) sent ∙ sent-base (map number_of plans) (view_of first)

    start_mid : start_of mid ≡ start_of first
    start_mid = ap (λ view. view.start) sent ∙ sent-start (map number_of plans) (view_of first)

    seen_mid : seen mid ≡ seen first
    seen_mid = ap (λ view. view.seen) sent ∙ sent-seen (map number_of plans) (view_of first)

    long_mid : length (view_of mid).stages ≡ length (view_of first).stages
    long_mid = ap (λ view. length view.stages) sent ∙ sent-long (map number_of plans) (view_of first)

    module _ (done : List Job) (does : Pairwise (DoesJob turn) jobs done) where
      done_numbers : map (λ (job : Job). number_of job.plan) done ≡ numbers_of sessions
      done_numbers = same-numbers turn jobs done does ∙ job_numbers

      -- what was done may be joined: by its passes, its numbers and the lead's places for them
      pub done-passes : AllByRecursion (λ (job : Job). IsPassOf turn job.pass × ((view_of job.pass).session ≡ number_of job.plan)) done
      done-passes = all-passes turn (view_of first) jobs done away does

      pub done-once : StandOnce (numbers_of sessions) → StandOnce (map (λ (job : Job). number_of job.plan) done)
      done-once once = subst StandOnce (sym done_numbers) once

      pub done-places : HasPlaces (view_of first) (map number_of plans) → HasPlaces (view_of mid) (map (λ (job : Job). number_of job.plan) done)
      done-places places = subst (HasPlaces (view_of mid)) (plan-numbers ∙ sym done_numbers)
          (subst (λ (n : ℕ). AllByRecursion (λ session. session < n) (map number_of plans)) (sym long_mid) places)

      module _ (last : Pass) (joined : AreJoined mid last done) where
        -- what a run of sessions comes to
        pub ran-lead : is_lead last ≡ is_lead first
        ran-lead = joined.lead ∙ lead-mid

        pub ran-base : base last ≡ base first
        ran-base = joined.base ∙ base_mid

        pub ran-start : start_of last ≡ start_of first
        ran-start = joined.start ∙ start_mid

        pub ran-served : Pairwise (IsServed last) sessions (map replies_of done)
        ran-served = subst (λ (sessions : List SessionCalls). Pairwise (IsServed last) sessions (map replies_of done)) job_calls
            (all-served turn first last jobs done ran-start away does joined.joined)

        pub ran-grows : IsPrefix (seen first) (seen last)
        ran-grows = subst (λ history. IsPrefix history (seen last)) seen_mid joined.grows

        pub ran-serial : Serial (base_of first) (seen first) → Serial (base_of last) (seen last)
        ran-serial serial = subst (λ over. Serial over (seen last)) (sym (ap (λ start. start.base) ran-start))
            (joined.serial (base_of first) (subst (Serial (base_of first)) (sym seen_mid) serial) (all-serial turn first jobs done away does serial))

        stays : (session : ℕ) → IsElsewhere session (numbers_of sessions) → stage_of (view_of last) session ≡ stage_of (view_of first) session
        stays session elsewhere =
            joined.others session (all-map (λ (job : Job). number_of job.plan) (λ number. session ≢ number) done (subst (IsElsewhere session) (sym done_numbers) elsewhere))
            ∙ (ap (λ view. stage_of view session) sent
            ∙ sent-elsewhere (map number_of plans) session (view_of first) (subst (IsElsewhere session) (sym plan-numbers) elsewhere))

        pub ran-others : (session : ℕ) → IsElsewhere session (numbers_of sessions) → kept last session ≡ kept first session
        ran-others session elsewhere = ap places_in (stays session elsewhere)

        -- no pass is away that was not
        back : AllByRecursion (λ (calls : SessionCalls). IsFresh first calls.session.0) sessions
            → AllByRecursion (λ session. is_out (stage_of (view_of last) session) ≡ is_out (stage_of (view_of first) session)) (numbers_of sessions)
        back fresh =
            let home = subst (AllByRecursion (λ session. is_out (stage_of (view_of last) session) ≡ false)) done_numbers
            (all-mapped (λ (job : Job). number_of job.plan) (λ session. is_out (stage_of (view_of last) session) ≡ false) done
            (all-weaker (IsJoined last) (λ job. is_out (stage_of (view_of last) (number_of job.plan)) ≡ false) (λ job is. ap is_out is.stage) done joined.joined)) in
            let before = all-mapped (λ (calls : SessionCalls). calls.session.0) (λ session. stage_of (view_of first) session ≡ Fresh) sessions fresh in
            all-weaker _ (λ session. is_out (stage_of (view_of last) session) ≡ is_out (stage_of (view_of first) session)) (λ session is. is.0 ∙ sym (ap is_out is.1)) (numbers_of sessions)
            (all-both (λ session. is_out (stage_of (view_of last) session) ≡ false) (λ session. stage_of (view_of first) session ≡ Fresh) (numbers_of sessions) home before)

        pub ran-out : IsPassOf turn first → IsPassOf turn last → AllByRecursion (λ (calls : SessionCalls). IsFresh first calls.session.0) sessions → count_out last ≡ count_out first
        ran-out began ended fresh = ap raised
            (ended.out ∙ (flags-back (view_of first).stages (view_of last).stages (numbers_of sessions) (joined.long ∙ long_mid) stays (back fresh) ∙ sym began.out))
