-- The jobs of the workers, from the lead and back to it.
use Rattle.std.proofs.Common.{◌≡◌, ℕ, suc, ◌<◌, ◌≤◌, ◌≢◌, List, [], ◌∷◌, ◌++◌, length, map, set, get_or, refl, ap, sym, ◌∙◌, subst, arith, inl, inr, get_or-set_same, get_or-set_other, length-set}
use Rattle.std.proofs.lemmas.List.{map-append}
use Rattle.std.specs.Prelude.{◌⊎◌}
use Rattle.std.specs.List.{AllByRecursion}
use Rattle.std.proofs.lemmas.List.Sums.{fold-append}
use mathlib.Core.List.{IsPrefix}
use Rattle.own_model.specs.Db.{Db}
use Rattle.history_model.specs.History.{History}
use Rattle.history_model.specs.Serial.{Serial}
use Rattle.commit_turn.specs.declared.pass.Pass.{Pass}
use Rattle.commit_turn.specs.declared.view.Stage.TheVariants.{Fresh, Out, Joined}
use Rattle.commit_turn.specs.declared.view.View.{View}
use Rattle.commit_turn.specs.Passes.{IsFresh, places, seen, view_of}
use Rattle.commit_turn.specs.Rule.{stage_of}
use Rattle.commit_turn.specs.Steps.{lead_with, lead_without, longer, split_off}
use Rattle.commit_turn.proofs.Prefixes.{longer_is, prefix_refl, prefix_trans}
use Rattle.session_run.specs.declared.sessions.Job.{Job}
use Rattle.session_run.specs.declared.sessions.Plan.{Plan}
use Rattle.session_run.specs.Jobs.{AreJoined, HasPlaces, IsJoined, lead_sent, number_of}
use Rattle.session_run.specs.Sessions.{IsElsewhere, Pairwise, StandOnce}

module _ {X : Type 0} where
  -- what holds of each of two lists
  pub all-append : (P : X → Type 0) (xs ys : List X) → AllByRecursion P xs → AllByRecursion P ys → AllByRecursion P (xs ++ ys)
  all-append P [] ys all more = more
  all-append P (x ∷ xs) ys all more = (all.0, all-append P xs ys all.1 more)

  pub all-weaker : (P Q : X → Type 0) → ((x : X) → P x → Q x) → (xs : List X) → AllByRecursion P xs → AllByRecursion Q xs
  all-weaker P Q weaker [] all = tt
  all-weaker P Q weaker (x ∷ xs) all = (weaker x all.0, all-weaker P Q weaker xs all.1)

  pub all-both : (P Q : X → Type 0) (xs : List X) → AllByRecursion P xs → AllByRecursion Q xs → AllByRecursion (λ x. P x × Q x) xs
  all-both P Q [] ps qs = tt
  all-both P Q (x ∷ xs) ps qs = ((ps.0, qs.0), all-both P Q xs ps.1 qs.1)

-- what holds of each that is made of an item
pub all-map : {X Y : Type 0} (f : X → Y) (P : Y → Type 0) (xs : List X) → AllByRecursion P (map f xs) → AllByRecursion (λ x. P (f x)) xs
all-map f P [] all = tt
all-map f P (x ∷ xs) all = (all.0, all-map f P xs all.1)

pub all-mapped : {X Y : Type 0} (f : X → Y) (P : Y → Type 0) (xs : List X) → AllByRecursion (λ x. P (f x)) xs → AllByRecursion P (map f xs)
all-mapped f P [] all = tt
all-mapped f P (x ∷ xs) all = (all.0, all-mapped f P xs all.1)

-- what holds of each index holds of each pair
pub pairwise-from_places : {X : Type 0} (R : X → X → Type 0) (xs ys : List X) → length ys ≡ length xs
    → ((i : ℕ) (d : X) → i < length xs → R (get_or xs i d) (get_or ys i d)) → Pairwise R xs ys
pairwise-from_places R [] [] same each = tt
pairwise-from_places R [] (y ∷ ys) same each = absurd (omega arith)
pairwise-from_places R (x ∷ xs) [] same each = absurd (omega arith)
pairwise-from_places R (x ∷ xs) (y ∷ ys) same each =
    (each 0 x (omega arith), pairwise-from_places R xs ys (omega arith) (λ i d inside. each (suc i) d (omega arith)))

-- Sending out.

-- the lead once one pass more was split off
pub sent-more : (sessions : List ℕ) (session : ℕ) (view : View) → lead_sent (sessions ++ session ∷ []) view ≡ lead_without session (lead_sent sessions view)
sent-more sessions session view = fold-append (λ lead session. lead_without session lead) view sessions (session ∷ [])

-- splitting off changes nothing that a pass split off later is made of
pub sent-split : (sessions : List ℕ) (session : ℕ) (view : View) → split_off session (lead_sent sessions view) ≡ split_off session view
sent-split [] session view = refl
sent-split (other ∷ sessions) session view = sent-split sessions session (lead_without other view)

pub sent-lead : (sessions : List ℕ) (view : View) → (lead_sent sessions view).lead ≡ view.lead
sent-lead [] view = refl
sent-lead (other ∷ sessions) view = sent-lead sessions (lead_without other view)

pub sent-seen : (sessions : List ℕ) (view : View) → (lead_sent sessions view).seen ≡ view.seen
sent-seen [] view = refl
sent-seen (other ∷ sessions) view = sent-seen sessions (lead_without other view)

pub sent-base : (sessions : List ℕ) (view : View) → (lead_sent sessions view).base ≡ view.base
sent-base [] view = refl
sent-base (other ∷ sessions) view = sent-base sessions (lead_without other view)

pub sent-start : (sessions : List ℕ) (view : View) → (lead_sent sessions view).start ≡ view.start
sent-start [] view = refl
sent-start (other ∷ sessions) view = sent-start sessions (lead_without other view)

pub sent-long : (sessions : List ℕ) (view : View) → length (lead_sent sessions view).stages ≡ length view.stages
sent-long [] view = refl
sent-long (other ∷ sessions) view = sent-long sessions (lead_without other view) ∙ length-set view.stages other Out

-- what the lead knows of a session whose pass it doesn't split off
stage_apart : (view : View) (other session : ℕ) → session ≢ other → stage_of (lead_without other view) session ≡ stage_of view session
stage_apart view other session apart = get_or-set_other view.stages other session Out Fresh apart

pub sent-elsewhere : (sessions : List ℕ) (session : ℕ) (view : View) → IsElsewhere session sessions → stage_of (lead_sent sessions view) session ≡ stage_of view session
sent-elsewhere [] session view elsewhere = refl
sent-elsewhere (other ∷ sessions) session view elsewhere =
    sent-elsewhere sessions session (lead_without other view) elsewhere.1 ∙ stage_apart view other session elsewhere.0

-- the other sessions stay fresh
pub fresh-stay : (session : ℕ) (view : View) (old new : Pass) (plans : List Plan) → view_of new ≡ lead_without session (view_of old)
    → IsElsewhere session (map number_of plans) → AllByRecursion (λ plan. IsFresh old (number_of plan)) plans → AllByRecursion (λ plan. IsFresh new (number_of plan)) plans
fresh-stay session view old new [] is elsewhere fresh = tt
fresh-stay session view old new (plan ∷ plans) is elsewhere fresh = (
  ap (λ view. stage_of view (number_of plan)) is ∙ (stage_apart (view_of old) session (number_of plan) (λ same. elsewhere.0 (sym same)) ∙ fresh.0),
  fresh-stay session view old new plans is elsewhere.1 fresh.1,
)

-- Joining.

-- a number among those that stand once is none of those before it
once_apart : (before : List ℕ) (number : ℕ) (after : List ℕ) → StandOnce (before ++ number ∷ after) → IsElsewhere number before
once_apart [] number after once = tt
once_apart (first ∷ before) number after once = ((λ same. first_apart before after once.0 (sym same)), once_apart before number after once.1)
  where
    first_apart : (before after : List ℕ) → IsElsewhere first (before ++ number ∷ after) → first ≢ number
    first_apart [] after elsewhere = elsewhere.0
    first_apart (other ∷ before) after elsewhere = first_apart before after elsewhere.1

-- nothing is joined yet
pub joined-none : (lead : Pass) → AreJoined lead lead []
joined-none lead = record {
  lead = refl;
  base = refl;
  start = refl;
  grows = prefix_refl (seen lead);
  long = refl;
  joined = tt;
  others = λ session elsewhere. refl;
  serial = λ over before all. before;
}

longer_serial : (over : Db) (one other : History) → Serial over one → Serial over other → Serial over (longer one other)
longer_serial over one other first second = by (longer_is one other)
  where
    by : ((length one < length other) × (longer one other ≡ other)) ⊎ ((length other ≤ length one) × (longer one other ≡ one)) → Serial over (longer one other)
    by (inl less) = subst (Serial over) (sym less.1) second
    by (inr more) = subst (Serial over) (sym more.1) first

module _ (old mid new : Pass) (done : List Job) (job : Job) (view : view_of new ≡ lead_with (view_of mid) (view_of job.pass)) where
  stage_other : (session : ℕ) → session ≢ (view_of job.pass).session → stage_of (view_of new) session ≡ stage_of (view_of mid) session
  stage_other session apart = ap (λ view. stage_of view session) view ∙ get_or-set_other (view_of mid).stages (view_of job.pass).session session (Joined (places job.pass)) Fresh apart

  joined_stay : IsPrefix (seen mid) (seen new) → (jobs : List Job) → AllByRecursion (λ other. (view_of job.pass).session ≢ number_of other.plan) jobs
      → AllByRecursion (IsJoined mid) jobs → AllByRecursion (IsJoined new) jobs
  joined_stay grows [] apart joined = tt
  joined_stay grows (other ∷ jobs) apart joined = (
    record {
      grows = prefix_trans (seen other.pass) (seen mid) (seen new) joined.0.grows grows;
      stage = stage_other (number_of other.plan) (λ same. apart.0 (sym same)) ∙ joined.0.stage;
    },
    joined_stay grows jobs apart.1 joined.1,
  )

  -- one pass more is joined
  pub joined-more : (view_of job.pass).session ≡ number_of job.plan → number_of job.plan < length (view_of mid).stages
      → AllByRecursion (λ other. number_of job.plan ≢ number_of other.plan) done
      → IsPrefix (seen mid) (seen new) → IsPrefix (seen job.pass) (seen new)
      → AreJoined old mid done → AreJoined old new (done ++ job ∷ [])
  joined-more session inside apart heard own before = record {
    lead = ap (λ view. view.lead) view ∙ before.lead;
    base = ap (λ view. view.base) view ∙ before.base;
    start = ap (λ view. view.start) view ∙ before.start;
    grows = prefix_trans (seen old) (seen mid) (seen new) before.grows heard;
    long = ap (λ view. length view.stages) view ∙ (length-set (view_of mid).stages (view_of job.pass).session (Joined (places job.pass)) ∙ before.long);
    joined = all-append (IsJoined new) done (job ∷ []) (joined_stay heard done (rw session apart) before.joined) (
      record {
        grows = own;
        stage = ap (λ view. stage_of view (number_of job.plan)) view
            ∙ (ap (λ number. get_or (set (view_of mid).stages number (Joined (places job.pass))) (number_of job.plan) Fresh) session
            ∙ get_or-set_same (view_of mid).stages (number_of job.plan) (Joined (places job.pass)) Fresh inside);
      },
      tt,
    );
    others = λ number elsewhere. stage_other number (rw session (last_of (λ other. number ≢ number_of other.plan) done elsewhere)) ∙ before.others number (front_of (λ other. number ≢ number_of other.plan) done elsewhere);
    serial = λ over first all. subst (Serial over) (sym (ap (λ view. view.seen) view))
        (longer_serial over (seen mid) (seen job.pass) (before.serial over first (front_of (λ other. Serial over (seen other.pass)) done all)) (last_of (λ other. Serial over (seen other.pass)) done all));
  }
    where
      front_of : (P : Job → Type 0) (jobs : List Job) → AllByRecursion P (jobs ++ job ∷ []) → AllByRecursion P jobs
      front_of P [] all = tt
      front_of P (first ∷ jobs) all = (all.0, front_of P jobs all.1)

      last_of : (P : Job → Type 0) (jobs : List Job) → AllByRecursion P (jobs ++ job ∷ []) → P job
      last_of P [] all = all.0
      last_of P (first ∷ jobs) all = last_of P jobs all.1

-- of jobs whose sessions stand once, one is of no session of those before it
pub once-job : (done : List Job) (job : Job) (rest : List Job) → StandOnce (map (λ job. number_of job.plan) (done ++ job ∷ rest))
    → AllByRecursion (λ other. number_of job.plan ≢ number_of other.plan) done
once-job done job rest once =
    all-map (λ job. number_of job.plan) (λ number. number_of job.plan ≢ number) done
    (once_apart (map (λ job. number_of job.plan) done) (number_of job.plan) (map (λ job. number_of job.plan) rest)
    (subst StandOnce (map-append (λ job. number_of job.plan) done (job ∷ rest)) once))

-- the lead has a place for the session of each
pub place-job : (done : List Job) (job : Job) (rest : List Job) (lead : View) → HasPlaces lead (map (λ job. number_of job.plan) (done ++ job ∷ rest))
    → number_of job.plan < length lead.stages
place-job [] job rest lead all = all.0
place-job (first ∷ done) job rest lead all = place-job done job rest lead all.1
