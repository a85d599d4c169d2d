-- A statement in a transaction, by who stands in its way.
use Rattle.std.proofs.Common.{◌≡◌, ◌≢◌, ℕ, Option, None, Some, Result, Ok, Err, ap, refl}
use Rattle.std.specs.Prelude.{OnErr, option_map}
use Rattle.own_model.specs.declared.bound.Bound.{Bound}
use Rattle.own_model.specs.declared.refusal.Refusal.{Refusal}
use Rattle.own_model.specs.declared.reply.Reply.{Reply}
use Rattle.own_model.specs.declared.reply.Reply.TheVariants.{Refused}
use Rattle.own_model.specs.Db.{Db}
use Rattle.history_model.specs.Held.{Holding}
use Rattle.txn_core.specs.Transactions.{AreSame, HasStated, Stated, Transactions, conflict_of}

-- what holds holds after an error
pub after_error : {A E : Type 0} (result : Result A E) (P : Type 0) → P → OnErr result P
after_error (Ok a) P holds = tt
after_error (Err e) P holds = holds

-- what isn't touched is the same
pub none_moved : (before : Transactions) → AreSame before before
none_moved before = record { states = λ session. refl; held = λ session. refl }

-- one that is refused with the conflict
pub stated_conflict : (holder : Option Holding) (db : Db) (bound : Bound) (session : ℕ) (before : Transactions) (why : Refusal) → Some why ≡ option_map (conflict_of db.schema) holder
    → Stated holder db bound session before before (Refused why)
stated_conflict None db bound session before why is = absurd (cc)
stated_conflict (Some holding) db bound session before why is = let same : why ≡ conflict_of db.schema holding = cc in (ap Refused same, none_moved before)

-- and one in whose way nobody stands
pub stated_free : (holder : Option Holding) (db : Db) (bound : Bound) (session : ℕ) (before after : Transactions) (reply : Reply) (conflict : Option Refusal)
    → ((why : Refusal) → conflict ≢ Some why) → conflict ≡ option_map (conflict_of db.schema) holder
    → HasStated db bound session before after reply → Stated holder db bound session before after reply
stated_free None db bound session before after reply conflict none is ran = ran
stated_free (Some holding) db bound session before after reply conflict none is ran = absurd (none (conflict_of db.schema holding) is)
