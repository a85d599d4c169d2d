-- What a CREATE leads to.
use Rattle.std.proofs.Common.{◌≡◌, ℕ, List, Bool, true, false}
use Rattle.std.specs.Prelude.{Option, None, Some, Result, Ok, Err, IfOk}
use Rattle.own_model.specs.Db.{Db}
use Rattle.state_model.specs.Created.{Create, OfTable, OfView}
use Rattle.disk_model.specs.declared.commit.Commit.{Commit}
use Rattle.disk_model.specs.Follows.{Follows}
use Rattle.commit_replay.specs.declared.followed.Followed.{Followed}
use Rattle.disk_model.specs.TextOf.{IsTextOf}
use Rattle.commit_replay.specs.Creates.{commit_of}
use Rattle.commit_replay.specs.Leads.{Leads}

-- where it is refused, and memory isn't, nothing follows
pub leads-none : {E Why : Type 0} (db : Db) (commit : Commit) (result : Result (Option Followed) E) → IfOk result (λ followed. (followed ≡ None) × Why)
    → (Why → (after : Db) → ¬ Follows db commit after) → Leads db commit result
leads-none db commit (Ok None) is none = none is.1
leads-none db commit (Ok (Some followed)) is none = absurd (cc)
leads-none db commit (Err refused) is none = tt

-- where the text is that of no CREATE, nothing follows
pub text-none : (db after : Db) (view : Bool) (text : List ℕ) → ((made : Create) → ¬ IsTextOf made (record { view = view; text = text })) → ¬ Follows db (commit_of view text) after
text-none db after true text none follows = none (OfView follows.view) follows.text_of
text-none db after false text none follows = none (OfTable follows.table) follows.text_of
