-- Transactions in which a statement ran may run another.
use Rattle.std.proofs.Common.{◌≡◌, ◌==◌, ℕ, List, [], Bool, true, false, refl, subst, sym}
use Rattle.std.specs.Prelude.{Option, None, Some}
use Rattle.std.proofs.lemmas.Bool.{eqb-false, eqb-true}
use Rattle.own_model.specs.declared.bound.Bound.{Bound}
use Rattle.own_model.specs.declared.reply.Reply.{Reply}
use Rattle.own_model.specs.Db.{Db}
use Rattle.state_model.specs.Rows.{AreRowsOf}
use Rattle.state_model.specs.Sound.{IsWellFormed}
use Rattle.run_model.specs.Run.{run_bound}
use Rattle.run_model.proofs.SameSchema.{same_schema-bound}
use Rattle.history_model.specs.Held.{Holding}
use Rattle.txn_space.specs.declared.entry.Entry.{Entry}
use Rattle.txn_space.specs.Changed.{changed_db, changed_rows}
use Rattle.txn_space.proofs.SoundLemmas.{none_sound}
use Rattle.txn_space.proofs.OverLemmas.{changed_none}
use Rattle.txn_core.specs.declared.session_state.SessionState.TheVariants.{Nothing, Open}
use Rattle.txn_core.specs.SessionStates.{state_by}
use Rattle.txn_core.specs.Transactions.{AreOthersSame, AreSame, HasStated, Stated, Transactions, space_of}
use Rattle.state_tests.specs.Ready.{AreReady, IsReady}

-- what a transaction without changes sees is the database
seen-none : (db : Db) → IsWellFormed db → changed_db db [] ≡ db
seen-none db kept = λ i. record { creates = db.creates; schema = db.schema; rows = changed_none 0 db.schema.tables db.rows kept.ordered.rising i }

-- and may stand there
pub rows-none : (db : Db) → IsWellFormed db → (space : List (List Entry)) → space ≡ [] → AreRowsOf db.schema.tables (changed_rows db.schema.tables db.rows space)
rows-none db kept space none =
    subst (λ space. AreRowsOf db.schema.tables (changed_rows db.schema.tables db.rows space)) (sym none) (subst IsWellFormed (sym (seen-none db kept)) kept).rows

-- so who is outside a transaction is ready for one
pub ready-outside : (db : Db) → IsWellFormed db → IsReady db Nothing
ready-outside db kept = record { space = none_sound db.schema.tables; shows = subst IsWellFormed (sym (seen-none db kept)) kept; quiet = tt }

pub ready-same : (db : Db) (before after : Transactions) → AreReady db before → AreSame before after → AreReady db after
ready-same db before after ready same = λ number. subst (IsReady db) (sym (same.states number)) (ready number)

module _ (db : Db) (kept : IsWellFormed db) (session : ℕ) (before after : Transactions) (ready : AreReady db before)
    (begun : state_by after.states session ≡ Open (record { space = []; wrote = false })) (others : AreOthersSame session before after) where
  begins : (number : ℕ) (here : Bool) → (number == session) ≡ here → IsReady db (state_by after.states number)
  begins number true is =
      subst (λ one. IsReady db (state_by after.states one)) (sym (eqb-true number session is))
      (subst (IsReady db) (sym begun) (record { space = none_sound db.schema.tables; shows = subst IsWellFormed (sym (seen-none db kept)) kept; quiet = λ wrote. refl }))
  begins number false apart = subst (IsReady db) (sym (others.states number (eqb-false number session apart))) (ready number)

  -- and so is one that has begun
  pub ready-begun : AreReady db after
  ready-begun = λ number. begins number (number == session) refl

module _ (db : Db) (bound : Bound) (keeps : (other : Db) → IsWellFormed other → other.schema ≡ db.schema → IsWellFormed (run_bound other bound).db)
    (session : ℕ) (before after : Transactions) (reply : Reply) (ready : AreReady db before) where
  -- the session's own transaction
  own : HasStated db bound session before after reply → IsReady db (state_by after.states session)
  own stated =
      let seen = changed_db db (space_of (state_by before.states session)) in
      let same = same_schema-bound seen bound in
      subst (IsReady db) (sym stated.open_then) (record {
        space = stated.ran.sound;
        shows = subst IsWellFormed (λ i. record { creates = same.creates i; schema = same.schema i; rows = sym stated.ran.rows i }) (keeps seen (ready session).shows refl);
        quiet = stated.quiet;
      })

  each : HasStated db bound session before after reply → (number : ℕ) (here : Bool) → (number == session) ≡ here → IsReady db (state_by after.states number)
  each stated number true is = subst (λ one. IsReady db (state_by after.states one)) (sym (eqb-true number session is)) (own stated)
  each stated number false apart = subst (IsReady db) (sym (stated.others.states number (eqb-false number session apart))) (ready number)

  -- and those of the others
  pub ready-stated : (found : Option Holding) → Stated found db bound session before after reply → AreReady db after
  ready-stated (Some holding) is = ready-same db before after ready is.1
  ready-stated None is = λ number. each is number (number == session) refl
