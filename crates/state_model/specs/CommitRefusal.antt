-- Whether a commit is accepted.
use Rattle.std.specs.Prelude.{ℕ, Option, None, Some, nat_lt, if◌then◌else◌}
use Rattle.own_model.specs.declared.limit.TheConstants.{PAYLOAD_BYTES}
use Rattle.own_model.specs.declared.refusal.Refusal.{Refusal}
use Rattle.own_model.specs.declared.refusal.Refusal.TheVariants.{TooBig}
use Rattle.own_model.specs.Db.{Db}
use Rattle.state_model.specs.Fault.{fault}
use Rattle.state_model.specs.Net.{net}
use Rattle.state_model.specs.Payload.{payload_bytes}

-- a payload that is too long, with its length
abbrev pub too_big : ℕ → Option Refusal
too_big bytes = if nat_lt PAYLOAD_BYTES bytes then Some (TooBig bytes) else None

abbrev pub first_refusal : Option Refusal → Option Refusal → Option Refusal
first_refusal (Some why) big = Some why
first_refusal None big = big

-- Why a commit that leads from one database to another is refused: the fault of what it leaves, else the length of its net's
-- payload. The payload of an empty net isn't too long.
unfoldable pub commit_refusal : Db → Db → Option Refusal
commit_refusal before after = first_refusal (fault after) (too_big (payload_bytes (net before after)))
