-- What a call comes to, as threads know it that take turns.
use Rattle.std.proofs.Common.{◌≡◌, ℕ, List, Bool}
use Rattle.own_base.specs.declared.number.Area.{Area}
use Rattle.own_base.specs.declared.number.SessionNo.{SessionNo}
use Rattle.own_model.specs.declared.history.Verdict.TheVariants.{Took}
use Rattle.own_model.specs.declared.request.Request.{Request}
use Rattle.own_model.specs.Db.{Db}
use Rattle.serve_model.specs.Steps.{Steps as Serves, entry as called}
use Rattle.serve_model.specs.declared.step.Step.{Step}
use Rattle.serve_model.specs.declared.step.Step.TheVariants.{Answered, Look, NoMemory}
use Rattle.engine_core.specs.Seen.{Seen, Steps, entry, start_of}

module _ {D : Type 0} (holds : D → Area → List ℕ) (leaves : D → Area → List ℕ → Type 0) (moment : D → ℕ) (might : D → ℕ → List ℕ → List ℕ → Type 0) (honest : D → Bool) (faults : D → ℕ)
    (before after : Seen D) (session : SessionNo) (call : ℕ) (request : Request) where
  pub serves-stepped : (step : Step Db) → Steps holds leaves moment might honest faults before after (entry session call request Took) step
      → Serves (λ (db : Db). db) before.base before.history after.history (called session call request) step
  serves-stepped (Answered place told) is = record {
    verdict = is.0;
    made = record { history = is.1.history; stands = is.1.stands };
    reads = is.3;
    answered = is.1.answered;
    unasked = λ unasked. (is.2.unasked unasked).1;
  }
  serves-stepped (Look place shown bound) is = is.looked
  serves-stepped NoMemory is = is.history

  -- what the opening found stays
  same_start : after.base ≡ before.base → after.start ≡ before.start → after.area ≡ before.area → after.journal ≡ before.journal → after.opening ≡ before.opening
      → start_of moment honest faults after ≡ start_of moment honest faults before
  same_start base start area journal opening = λ i. record {
    base = base i;
    commits = start i;
    area = area i;
    epoch = (journal i).epoch;
    end = (journal i).end;
    faults = faults (opening i);
    moment = moment (opening i);
    honest = honest (opening i);
  }

  pub start-stepped : (step : Step Db) → Steps holds leaves moment might honest faults before after (entry session call request Took) step
      → start_of moment honest faults after ≡ start_of moment honest faults before
  start-stepped (Answered place told) is = same_start is.1.base is.1.start is.1.area is.1.journal is.1.opening
  start-stepped (Look place shown bound) is = same_start is.base is.start is.area is.journal is.opening
  start-stepped NoMemory is = same_start is.base is.start is.area is.journal is.opening
