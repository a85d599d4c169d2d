-- How a call is told by what it came to.
use Rattle.std.specs.Prelude.{◌≡◌, ◌⊎◌, ℕ, Option, None, Some, IfSome}
use Rattle.std.specs.Option.{option_map}
use Rattle.own_base.specs.declared.number.Place.{Place}
use Rattle.own_model.specs.declared.bound.Bound.{Bound}
use Rattle.own_model.specs.declared.refusal.Refusal.TheVariants.{Memory}
use Rattle.own_model.specs.declared.reply.Reply.{Reply}
use Rattle.own_model.specs.declared.reply.Reply.TheVariants.{Refused}
use Rattle.own_model.specs.Db.{Db}
use Rattle.text_model.specs.Lines.{reply_lines}
use Rattle.run_model.specs.Run.{run_bound}
use Rattle.history_model.specs.History.{is_disk}
use Rattle.serve_model.specs.declared.step.Step.{Step}
use Rattle.serve_model.specs.declared.step.Step.TheVariants.{Answered, Look, NoMemory}
use Rattle.serve_model.specs.Look.{IsLook}
use Rattle.session_run.specs.declared.replies.Told.{Told}

-- the number of a place, where there is one
abbrev pub place_number : Option Place → Option ℕ
place_number place = option_map (λ place. place.0) place

-- a call is told by its reply, and its lines, where there was memory for them, are that reply's
pub record TellsReply (session call : ℕ) (place : Option Place) (reply : Reply) (told : Told) : Type 0 where
  pub call_is : told.call ≡ call
  pub place_is : told.place ≡ place
  pub failed : told.failed ≡ is_disk reply
  pub lines : IfSome told.lines (λ text. text ≡ reply_lines (place_number place) session call reply)

-- a look shows what its bound statement is answered by the database, or that memory was refused
abbrev pub IsShown : Db → Bound → Reply → Type 0
IsShown db bound reply = (reply ≡ (run_bound db bound).reply) ⊎ (reply ≡ Refused Memory)

-- a look may be asked of what is lent for it
abbrev pub MayBeLookedAt : {S : Type 0} → (S → Db) → Step S → Type 0
MayBeLookedAt shows (Answered place reply) = Unit {0}
MayBeLookedAt shows (Look place shown bound) = IsLook (shows shown).schema bound
MayBeLookedAt shows NoMemory = Unit {0}

-- a call is told by what it came to: by its reply; by what its look shows; or, without a place, that memory was refused
abbrev pub TellsStep : {S : Type 0} → (S → Db) → ℕ → ℕ → Step S → Told → Type 0
TellsStep shows session call (Answered place reply) told = TellsReply session call (Some place) reply told
TellsStep shows session call (Look place shown bound) told =
    (reply : Reply) × IsShown (shows shown) bound reply × TellsReply session call (Some place) reply told
TellsStep shows session call NoMemory told = TellsReply session call None (Refused Memory) told
