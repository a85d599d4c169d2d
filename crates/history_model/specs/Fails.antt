-- Which entries of a history were answered with a fault of the disk.
use Rattle.std.specs.Prelude.{◌≡◌, ℕ, Bool, true, false, Some}
use Rattle.std.specs.Option.{option_map_or}
use Rattle.own_model.specs.declared.refusal.Refusal.TheVariants.{Disk}
use Rattle.own_model.specs.declared.reply.Reply.TheVariants.{Refused}
use Rattle.own_model.specs.Db.{Db}
use Rattle.history_model.specs.History.{History, is_disk, reply}

-- whether the entry at a place was answered with a fault of the disk
abbrev pub fails_at : Db → History → ℕ → Bool
fails_at base history place = option_map_or is_disk (reply base history place) false

-- an entry was answered with a fault of the disk
abbrev pub HasFailed : Db → History → Type 0
HasFailed base history = (place : ℕ) × (reply base history place ≡ Some (Refused Disk))

-- one was, or none
abbrev pub TellsFailure : Bool → Db → History → Type 0
TellsFailure true base history = HasFailed base history
TellsFailure false base history = HasFailed base history → ⊥
