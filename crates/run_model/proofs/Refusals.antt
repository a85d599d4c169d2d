-- A statement that is refused leaves the database as it was.
use Rattle.std.proofs.Common.{◌≡◌, refl}
use Rattle.own_model.specs.declared.refusal.Refusal.{Refusal}
use Rattle.own_model.specs.declared.bound.Bound.{Bound}
use Rattle.own_model.specs.declared.reply.Reply.TheVariants.{Refused}
use Rattle.own_model.specs.declared.statement.Statement.{Statement}
use Rattle.own_model.specs.Db.{Db}
use Rattle.run_model.specs.Run.{Outcome, run, run_bound}
use Rattle.run_model.proofs.Outcomes.{of-run, of-run_bound}

module _ (db : Db) where
  -- where the answer is a refusal, the database is as it was
  abbrev IsIfRefused : Outcome → Type 0
  IsIfRefused outcome = (why : Refusal) → outcome.reply ≡ Refused why → outcome.db ≡ db

  pub refused-bound : (meant : Bound) (why : Refusal) → (run_bound db meant).reply ≡ Refused why → (run_bound db meant).db ≡ db
  refused-bound =
      of-run_bound db IsIfRefused (λ reply why is. refl) (λ number tuples table rows at new why is. absurd (cc)) (λ number sets cond table at none why is. absurd (cc))
      (λ number cond why is. absurd (cc)) (λ subject there why is. absurd (cc))

  pub refused-run : (found : Statement) (why : Refusal) → (run db found).reply ≡ Refused why → (run db found).db ≡ db
  refused-run =
      of-run db IsIfRefused (λ reply why is. refl) (λ number tuples table rows at new why is. absurd (cc)) (λ number sets cond table at none why is. absurd (cc))
      (λ number cond why is. absurd (cc)) (λ subject there why is. absurd (cc)) (λ table none why is. absurd (cc)) (λ view none why is. absurd (cc))
