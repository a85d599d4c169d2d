-- What a call makes of a history, and what it comes to.
use Rattle.std.specs.Prelude.{◌≡◌, ◌++◌, ◌∷◌, [], ℕ, None, Some, false, length}
use Rattle.own_base.specs.declared.number.SessionNo.{SessionNo}
use Rattle.own_model.specs.declared.history.Entry.{Entry}
use Rattle.own_model.specs.declared.history.Verdict.{Verdict}
use Rattle.own_model.specs.declared.history.Verdict.TheVariants.{Took}
use Rattle.own_model.specs.declared.bound.Bound.{Bound}
use Rattle.own_model.specs.declared.reply.Reply.{Reply}
use Rattle.own_model.specs.declared.request.Request.{Request}
use Rattle.own_model.specs.Db.{Db}
use Rattle.history_model.specs.AsksDisk.{asks_disk, under}
use Rattle.history_model.specs.History.{History, flat, reply, world}
use Rattle.serve_model.specs.Look.{look_of}
use Rattle.serve_model.specs.declared.step.Step.{Step}
use Rattle.serve_model.specs.declared.step.Step.TheVariants.{Answered, Look, NoMemory}

-- the entry of a call, as one that the disk took
abbrev pub entry : SessionNo → ℕ → Request → Entry
entry session call request = record { session = session; call = call; request = request; verdict = Took }

-- A call was made: its entry is the last of the history, which has a place for it at the end.
pub record Makes (before after : History) (made : Entry) (place : ℕ) : Type 0 where
  pub history : after ≡ before ++ made ∷ []
  pub stands : place ≡ length before

-- It was answered, and was no look: the reply is the history's at its place, and where the disk isn't asked its verdict is
-- that it took what was needed.
pub record IsAnswered (base : Db) (before after : History) (call : Entry) (place : ℕ) (told : Reply) : Type 0 where
  pub verdict : Verdict
  pub made : Makes before after (under verdict call) place
  pub reads : look_of (world base before) call ≡ None
  pub answered : reply base after place ≡ Some told
  pub unasked : asks_disk (world base before) call ≡ false → verdict ≡ Took

-- It was a look: what is lent for it shows the flat database of the history before it, and the bound statement is what its
-- own is bound to there.
pub record IsLookedAt {S : Type 0} (shows : S → Db) (base : Db) (before after : History) (call : Entry) (place : ℕ) (shown : S) (bound : Bound) : Type 0 where
  pub made : Makes before after call place
  pub reads : look_of (world base before) call ≡ Some bound
  pub same : shows shown ≡ flat base before

-- What a call came to, by its entry as one that the disk took. Where memory was refused it wasn't made.
abbrev pub Steps : {S : Type 0} → (S → Db) → Db → History → History → Entry → Step S → Type 0
Steps shows base before after call (Answered place told) = IsAnswered base before after call place.0 told
Steps shows base before after call (Look place shown bound) = IsLookedAt shows base before after call place.0 shown bound
Steps shows base before after call NoMemory = after ≡ before
