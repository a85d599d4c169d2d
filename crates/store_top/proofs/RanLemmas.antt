-- What a run that read an input did, by how it ended.
use Rattle.std.proofs.Common.{◌≡◌, ℕ, ◌+◌, List, [], Bool, true, false, refl, ap, inl, inr}
use Rattle.std.specs.Prelude.{◌≢◌, Option, None, Some}
use Rattle.own_base.specs.declared.number.Area.{Area}
use Rattle.own_model.specs.declared.limit.TheConstants.{INPUT_BYTES}
use Rattle.own_model.specs.declared.script.InputFault.{InputFault}
use Rattle.own_model.specs.declared.script.InputFault.TheVariants as input
use Rattle.own_model.specs.declared.script.ScriptCall.{ScriptCall}
use Rattle.own_model.specs.Db.{Db}
use Rattle.history_model.specs.History.{History}
use Rattle.history_model.specs.Serial.{Serial}
use Rattle.store_top.specs.declared.served.TopFault.{TopFault}
use Rattle.store_top.specs.declared.served.TopFault.TheVariants.{Usage, Read, Write, Disk, Damaged, Input, Memory}
use Rattle.store_top.specs.Ran.{LastFault, RanBy}
use Rattle.store_top.specs.Top.{IsBeforeOpening, IsUnread, IsUnserved, ReadsAtMost, ReadsScript, RefusesInput, ServedOver}
use Rattle.store_top.proofs.InputLemmas.{more_read, reads-nothing, script-few, unread-no_disk, unread-undamaged}
use Rattle.store_top.proofs.Runs.{calls-later}

-- What a run left, by its fault, where a source and a sink were handed to it.
module _ {R W : Type 0} (remaining : R → Option (List ℕ)) (reads : R → ℕ) (read_fails : R → R → Type 0)
    (writes : W → ℕ) (write_fails : W → W → Type 0)
    (source_old source_new : R) (sink_old sink_new : W) (history : History) (Whole Part Before : Db → List ScriptCall → Type 0) where
  abbrev Runs : Option Db → Option TopFault → Type 0
  Runs opened fault = RanBy remaining reads read_fails writes write_fails source_old source_new sink_old sink_new opened history Whole Part Before fault

  abbrev Silent : Type 0
  Silent = (sink_new ≡ sink_old) × (history ≡ [])

  unserved : Silent → IsUnserved sink_old sink_new None history
  unserved none = record { unopened = refl; unwritten = none.0; uncalled = none.1 }

  -- the calls of the input were served, or the store was not opened
  module _ (script : ReadsScript (remaining source_old) (remaining source_new)) (steady : reads source_new ≡ reads source_old) where
    abbrev Served : Option Db → Option TopFault → Type 0
    Served opened fault =
        ServedOver opened history (LastFault writes write_fails sink_old sink_new) Silent (λ base. Whole base script.calls) (λ base. Part base script.calls) (λ base. Before base script.calls) fault

    pub ran-served : (opened : Option Db) (fault : Option TopFault) → Served opened fault → (fault ≢ Some Write → writes sink_new ≡ writes sink_old)
        → ((base : Db) → opened ≡ Some base → Serial base history) → Runs opened fault
    ran-served (Some base) fault serves write_steady serial = record {
      read_fault = λ is. let by : Served (Some base) (Some Read) = rw is at serves in absurd by;
      read_steady = λ other. steady;
      write_fault = λ is. let by : Served (Some base) (Some Write) = rw is at serves in by.0;
      write_steady = write_steady;
      input_fault = λ why is. let by : Served (Some base) (Some (Input why)) = rw is at serves in absurd by;
      possible = λ is. let by : Served (Some base) (Some (Input input.Memory)) = rw is at serves in by;
      whole = λ is. let by : Served (Some base) None = rw is at serves in record { script = script; base = base; over = refl; did = by };
      disk = λ is. let by : Served (Some base) (Some Disk) = rw is at serves in inr (record { script = script; base = base; over = refl; did = by });
      in_part = λ is. let by : Served (Some base) (Some Write) = rw is at serves in record { script = script; base = base; over = refl; did = by.1 };
      memory = λ is. let by : Served (Some base) (Some Memory) = rw is at serves in inr (record { script = script; base = base; over = refl; did = by });
      short = λ is. script-few script;
      damaged = λ area offset is. let by : Served (Some base) (Some (Damaged area offset)) = rw is at serves in absurd by;
      silent = λ early. absurd (calls-later base history (LastFault writes write_fails sink_old sink_new) (Whole base script.calls) (Part base script.calls) (Before base script.calls) fault serves early);
      unserved = λ none. let never : ⊥ = cc in absurd never;
      at_most = more_read (script-few script);
      serial = serial;
    }
    ran-served None fault serves write_steady serial = record {
      read_fault = λ is. let by : Served None (Some Read) = rw is at serves in absurd by.1;
      read_steady = λ other. steady;
      write_fault = λ is. let by : Served None (Some Write) = rw is at serves in absurd by.1;
      write_steady = write_steady;
      input_fault = λ why is. let by : Served None (Some (Input why)) = rw is at serves in absurd by.1;
      possible = λ is. let by : Served None (Some (Input input.Memory)) = rw is at serves in by.1;
      whole = λ is. let by : Served None None = rw is at serves in absurd by.1;
      disk = λ is. inl (unserved serves.0, script);
      in_part = λ is. let by : Served None (Some Write) = rw is at serves in absurd by.1;
      memory = λ is. inl (unserved serves.0);
      short = λ is. script-few script;
      damaged = λ area offset is. (unserved serves.0, script);
      silent = λ early. unserved serves.0;
      unserved = λ none. unserved serves.0;
      at_most = more_read (script-few script);
      serial = serial;
    }

  -- no call was made
  module _ (opened : Option Db) (untouched : IsUnserved sink_old sink_new opened history) where
    -- for a fault that is none of the sink, of the disk or of what it holds
    uncalled : (fault : TopFault) → Some fault ≢ Some Write → Some fault ≢ Some Disk → ((area : Area) (offset : ℕ) → Some fault ≢ Some (Damaged area offset))
        → (Some fault ≡ Some Read → LastFault reads read_fails source_old source_new) → (Some fault ≢ Some Read → reads source_new ≡ reads source_old)
        → ((why : InputFault) → Some fault ≡ Some (Input why) → RefusesInput (remaining source_old) (remaining source_new) why) → Some fault ≢ Some (Input input.Memory)
        → (Some fault ≡ Some Memory → ReadsAtMost (remaining source_old) (remaining source_new) INPUT_BYTES) → ReadsAtMost (remaining source_old) (remaining source_new) (INPUT_BYTES + 1)
        → Runs opened (Some fault)
    uncalled fault no_write no_disk undamaged failed steady refused possible short most = record {
      read_fault = failed;
      read_steady = steady;
      write_fault = λ is. absurd (no_write is);
      write_steady = λ other. ap writes untouched.unwritten;
      input_fault = refused;
      possible = possible;
      whole = λ is. let never : ⊥ = cc in absurd never;
      disk = λ is. absurd (no_disk is);
      in_part = λ is. absurd (no_write is);
      memory = λ is. inl untouched;
      short = short;
      damaged = λ area offset is. absurd (undamaged area offset is);
      silent = λ early. untouched;
      unserved = λ none. untouched;
      at_most = most;
      serial = λ base over. let none = untouched.unopened in let never : ⊥ = cc in absurd never;
    }

    -- the input couldn't be read
    pub ran-unread : (fault : TopFault) → IsUnread remaining reads (LastFault reads read_fails source_old source_new) source_old source_new fault → Runs opened (Some fault)
    ran-unread Read unread =
        uncalled Read (λ is. cc) (λ is. cc) (λ area offset is. cc) (λ is. unread.0) (λ other. absurd (other refl)) (λ why is. let never : ⊥ = cc in absurd never) (λ is. cc)
        (λ is. unread.1) (more_read unread.1)
    ran-unread Memory unread =
        uncalled Memory (λ is. cc) (λ is. cc) (λ area offset is. cc) (λ is. let never : ⊥ = cc in absurd never) (λ other. unread.0) (λ why is. let never : ⊥ = cc in absurd never) (λ is. cc)
        (λ is. unread.1) (more_read unread.1)
    ran-unread (Input why) unread =
        uncalled (Input why) (λ is. cc) (λ is. cc) (λ area offset is. cc) (λ is. let never : ⊥ = cc in absurd never) (λ other. unread.0)
        (λ other is. let same : why ≡ other = cc in rw (← same) unread.1) (λ is. let same : why ≡ input.Memory = cc in unread.2 same) (λ is. let never : ⊥ = cc in absurd never) unread.3
    ran-unread Usage unread = absurd unread
    ran-unread Write unread = absurd unread
    ran-unread Disk unread = absurd unread
    ran-unread (Damaged area offset) unread = absurd unread

    -- or nothing was read: memory was refused
    pub ran-out_of_memory : source_new ≡ source_old → Runs opened (Some Memory)
    ran-out_of_memory same =
        let nothing : ReadsAtMost (remaining source_old) (remaining source_new) INPUT_BYTES = rw same (reads-nothing (remaining source_old)) in
        uncalled Memory (λ is. cc) (λ is. cc) (λ area offset is. cc) (λ is. let never : ⊥ = cc in absurd never) (λ other. ap reads same) (λ why is. let never : ⊥ = cc in absurd never) (λ is. cc)
        (λ is. nothing) (more_read nothing)

    -- or the words are no mode
    pub ran-usage : source_new ≡ source_old → Runs opened (Some Usage)
    ran-usage same =
        let nothing : ReadsAtMost (remaining source_old) (remaining source_new) INPUT_BYTES = rw same (reads-nothing (remaining source_old)) in
        uncalled Usage (λ is. cc) (λ is. cc) (λ area offset is. cc) (λ is. let never : ⊥ = cc in absurd never) (λ other. ap reads same) (λ why is. let never : ⊥ = cc in absurd never) (λ is. cc)
        (λ is. let never : ⊥ = cc in absurd never) (more_read nothing)
