-- What it tells that a request is accepted.
use Rattle.std.proofs.Common.{◌≡◌, ℕ, Bool, true, false, cond, refl}
use Rattle.std.specs.Prelude.{Option, None, Some}
use Rattle.own_model.specs.declared.history.Verdict.{Verdict}
use Rattle.own_model.specs.declared.refusal.Refusal.{Refusal}
use Rattle.own_model.specs.declared.reply.Reply.{Reply}
use Rattle.own_model.specs.declared.reply.Reply.TheVariants.{Refused}
use Rattle.own_model.specs.Db.{Db}
use Rattle.state_model.specs.Fault.{fault}
use Rattle.state_model.specs.Net.{net}
use Rattle.state_model.specs.Payload.{payload_bytes}
use Rattle.state_model.specs.CommitRefusal.{commit_refusal, first_refusal, too_big}
use Rattle.history_model.specs.History.{is_conflict, is_failure}
use Rattle.history_model.specs.Reply.{committed, committing, is_refusal, unless_down}

-- a conflict is a refusal
pub no_conflict : (reply : Reply) → is_refusal reply ≡ false → is_conflict reply ≡ false
no_conflict (Refused why) accepted = absurd (cc)
no_conflict _ accepted = refl

-- and so is an answer for want of the disk
pub no_failure : (reply : Reply) → is_refusal reply ≡ false → is_failure reply ≡ false
no_failure (Refused why) accepted = absurd (cc)
no_failure _ accepted = refl

-- what refuses a commit isn't there
cause_step : (verdict : Verdict) (needed : Bool) (cause : Option Refusal) (reply : Reply) → is_refusal (committed verdict needed cause reply) ≡ false → cause ≡ None
cause_step verdict needed None reply accepted = refl
cause_step verdict needed (Some why) reply accepted = absurd (cc)

commit_step : (verdict : Verdict) (needed : Bool) (cause : Option Refusal) (reply : Reply) (b : Bool) → is_refusal reply ≡ b
    → is_refusal (cond b reply (committed verdict needed cause reply)) ≡ false → (is_refusal reply ≡ false) × (cause ≡ None)
commit_step verdict needed cause reply true is accepted = absurd (cc)
commit_step verdict needed cause reply false is accepted = (is, cause_step verdict needed cause reply accepted)

pub accepted-committing : (verdict : Verdict) (needed : Bool) (cause : Option Refusal) (reply : Reply) → is_refusal (committing verdict needed cause reply) ≡ false
    → (is_refusal reply ≡ false) × (cause ≡ None)
accepted-committing verdict needed cause reply accepted = commit_step verdict needed cause reply _ refl accepted

first_refusal_step : (why big : Option Refusal) → first_refusal why big ≡ None → why ≡ None
first_refusal_step None big none = refl
first_refusal_step (Some why) big none = none

-- and what is left has no fault
pub commit_refusal-fault : (before after : Db) → commit_refusal before after ≡ None → fault after ≡ None
unfolding commit_refusal
commit_refusal-fault before after none = first_refusal_step (fault after) (too_big (payload_bytes (net before after))) none

-- the disk hasn't failed
pub accepted-down : (down : Option ℕ) (reply : Reply) → is_refusal (unless_down down reply) ≡ false → is_refusal reply ≡ false
accepted-down None reply accepted = accepted
accepted-down (Some failed) reply accepted = absurd (cc)

-- nor has it where the answer isn't for want of it
pub working-down : (down : Option ℕ) (reply : Reply) → is_failure (unless_down down reply) ≡ false → unless_down down reply ≡ reply
working-down None reply works = refl
working-down (Some failed) reply works = absurd (cc)
