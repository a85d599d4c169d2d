-- What an input that was read, or couldn't be, tells.
use Rattle.std.proofs.Common.{◌≡◌, ℕ, ◌+◌, ◌≤◌, length, List, [], refl, arith}
use Rattle.std.specs.Prelude.{◌≢◌, Option, None, Some, Err}
use Rattle.std.specs.Io.KnownBytes.{Consumes, IsAtEnd}
use Rattle.outer_world.specs.PartOfBytes.{ConsumesFewer}
use Rattle.own_base.specs.declared.number.Area.{Area}
use Rattle.own_model.specs.declared.limit.TheConstants.{INPUT_BYTES}
use Rattle.own_model.specs.declared.script.InputFault.{InputFault}
use Rattle.own_model.specs.declared.script.InputFault.TheVariants.{TooLong, NotText, BadSession, TooManyCalls}
use Rattle.own_model.specs.declared.script.InputFault.TheVariants as input
use Rattle.script_model.specs.Script.{IsScript}
use Rattle.sql_reader.specs.InputFaults.{IsFaultOf}
use Rattle.store_top.specs.declared.served.TopFault.{TopFault}
use Rattle.store_top.specs.declared.served.TopFault.TheVariants.{Usage, Read, Write, Disk, Damaged, Input, Memory}
use Rattle.store_top.specs.Top.{IsUnread, ReadsAtMost, ReadsScript, RefusesInput}

-- what is at most as many is at most one more
pub more_read : {old new : Option (List ℕ)} → ReadsAtMost old new INPUT_BYTES → ReadsAtMost old new (INPUT_BYTES + 1)
more_read most = let few = most.few in record { bytes = most.bytes; read = most.read; few = omega arith }

-- fewer bytes than one more
pub reads-fewer : {old new : Option (List ℕ)} → ConsumesFewer old new (INPUT_BYTES + 1) → ReadsAtMost old new INPUT_BYTES
reads-fewer part = let few = part.1 in record { bytes = part.0; read = part.2; few = omega arith }

-- nothing was read
pub reads-nothing : (remaining : Option (List ℕ)) → ReadsAtMost remaining remaining INPUT_BYTES
reads-nothing None = record { bytes = []; read = tt; few = omega arith }
reads-nothing (Some bytes) = record { bytes = []; read = refl; few = omega arith }

-- an input that has calls isn't too long
pub script-few : {old new : Option (List ℕ)} → ReadsScript old new → ReadsAtMost old new INPUT_BYTES
script-few script = record { bytes = script.bytes; read = script.read; few = script.is_script.lawful.text.short }

-- an input that is refused for another cause has at most INPUT_BYTES bytes
not_long : (bytes : List ℕ) (why : InputFault) → IsScript bytes (Err why) → (why ≡ TooLong → ⊥) → length bytes ≤ INPUT_BYTES
not_long bytes TooLong is other = absurd (other refl)
not_long bytes (NotText byte) is other = is.0
not_long bytes (BadSession byte) is other = is.1.text.short
not_long bytes (TooManyCalls byte) is other = is.1.text.short
not_long bytes input.Memory is other = absurd is

-- which fault the bytes have, memory aside
fault_is : (bytes : List ℕ) (why : InputFault) → IsFaultOf bytes why → why ≢ input.Memory → IsScript bytes (Err why)
fault_is bytes TooLong of other = of
fault_is bytes (NotText byte) of other = of
fault_is bytes (BadSession byte) of other = of
fault_is bytes (TooManyCalls byte) of other = of
fault_is bytes input.Memory of other = absurd (other refl)

module _ {R : Type 0} (remaining : R → Option (List ℕ)) (reads : R → ℕ) (failed : Type 0) (old new : R) (bytes : List ℕ) (read : Consumes (remaining old) (remaining new) bytes)
    (end : length bytes ≤ INPUT_BYTES → IsAtEnd (remaining new)) (few : length bytes ≤ INPUT_BYTES + 1) (steady : reads new ≡ reads old) where
  -- the bytes have a fault
  pub unread-input : (why : InputFault) → IsFaultOf bytes why → why ≢ input.Memory → IsUnread remaining reads failed old new (Input why)
  unread-input why of other =
      let is = fault_is bytes why of other in
      (steady, record { bytes = bytes; read = read; ends = λ short. end (not_long bytes why is short); is_script = is }, other, record { bytes = bytes; read = read; few = few })

  -- memory for them was refused
  pub unread-memory : IsFaultOf bytes input.Memory → IsUnread remaining reads failed old new Memory
  unread-memory of = (steady, record { bytes = bytes; read = read; few = of.short })

module _ {R : Type 0} (remaining : R → Option (List ℕ)) (reads : R → ℕ) (failed : Type 0) (old new : R) where
  abbrev Unread : TopFault → Type 0
  Unread fault = IsUnread remaining reads failed old new fault

  -- such a fault is none of the words, of the disk or of what it holds
  pub unread-lawful : (fault : TopFault) → Unread fault → Some fault ≢ Some Usage
  unread-lawful fault unread is = let same : fault ≡ Usage = cc in let by : Unread Usage = rw same at unread in by

  pub unread-no_disk : (fault : TopFault) → Unread fault → Some fault ≢ Some Disk
  unread-no_disk fault unread is = let same : fault ≡ Disk = cc in let by : Unread Disk = rw same at unread in by

  pub unread-undamaged : (fault : TopFault) → Unread fault → (area : Area) (offset : ℕ) → Some fault ≢ Some (Damaged area offset)
  unread-undamaged fault unread area offset is = let same : fault ≡ Damaged area offset = cc in let by : Unread (Damaged area offset) = rw same at unread in by
