-- What a call came to that was made.
use Rattle.std.proofs.Common.{◌≡◌, ◌∙◌, ℕ, List, [], ◌∷◌, ◌++◌, Bool, ap, sym}
use Rattle.own_base.specs.declared.number.Area.{Area}
use Rattle.own_base.specs.declared.number.Place.{Place}
use Rattle.own_model.specs.declared.history.Entry.{Entry}
use Rattle.own_model.specs.declared.history.Verdict.{Verdict}
use Rattle.own_model.specs.declared.history.Verdict.TheVariants.{Took}
use Rattle.history_model.specs.AsksDisk.{under}
use Rattle.history_model.specs.History.{world}
use Rattle.history_model.proofs.HistoryLemmas.{flat-world}
use Rattle.engine_core.specs.Came.{ComesTo, reply_by, step_of}
use Rattle.engine_core.specs.Seen.{Makes, Seen, Steps, Writes}
use Rattle.engine_core.specs.declared.came.Came.{Came}
use Rattle.engine_core.specs.declared.came.Came.TheVariants.{Look, Replied}
use Rattle.engine_core.proofs.Decided.{under-took}
use Rattle.engine_core.proofs.LookEvents.{look-unasked}

-- a look's call leaves the disk, which isn't asked for it
pub steps-came : {D : Type 0} (holds : D → Area → List ℕ) (leaves : D → Area → List ℕ → Type 0) (moment : D → ℕ) (might : D → ℕ → List ℕ → List ℕ → Type 0) (honest : D → Bool) (faults : D → ℕ)
    (before after : Seen D) (call : Entry) → call.verdict ≡ Took → (place : Place) (came : Came) (verdict : Verdict) → Makes before after (under verdict call) place.0 (reply_by came)
    → Writes holds leaves moment might honest faults before after call verdict (reply_by came) → ComesTo (world before.base before.history) call came
    → Steps holds leaves moment might honest faults before after call (step_of place came)
steps-came holds leaves moment might honest faults before after call took place (Replied said reply) verdict makes writes comes = (verdict, makes, writes, comes)
steps-came holds leaves moment might honest faults before after call took place (Look shown bound) verdict makes writes comes =
    let still = writes.unasked (look-unasked (world before.base before.history) call bound comes.0) in
    record {
      looked = record {
        made = record {
          history = makes.history ∙ ap (λ (entry : Entry). before.history ++ entry ∷ []) (ap (λ verdict. under verdict call) still.1 ∙ under-took call took);
          stands = makes.stands;
        };
        reads = comes.0;
        same = comes.1 ∙ sym (flat-world before.base before.history);
      };
      base = makes.base;
      start = makes.start;
      area = makes.area;
      journal = makes.journal;
      opening = makes.opening;
      spare = makes.spare;
      store = still.0;
    }
