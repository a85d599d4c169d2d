-- What a run in mode serve did.
use Rattle.std.specs.Prelude.{◌≡◌, ◌⊎◌, ℕ, List, [], Option}
use Rattle.std.specs.Io.KnownBytes.{Appends}
use Rattle.outer_world.specs.PartOfBytes.{AppendsPart}
use Rattle.own_model.specs.declared.script.SessionCalls.{SessionCalls}
use Rattle.own_model.specs.Db.{Db}
use Rattle.history_model.specs.History.{History}
use Rattle.script_model.specs.Split.{split}
use Rattle.session_run.specs.Written.{AppendsFront, MakesTogether}
use Rattle.store_top.specs.declared.served.TopFault.{TopFault}
use Rattle.store_top.specs.Ran.{RanBy}
use Rattle.store_top.specs.Top.{ServedOver}

-- What serving sessions side by side left: without a fault the text of all calls was written. Where writing failed, all were made and a
-- part of it is written, which isn't all of it; where memory was refused, a front of it, or no call was made, which `silent` says.
abbrev pub ServesTogether : List SessionCalls → Option Db → History → Option (List ℕ) → Option (List ℕ) → Type 0 → Type 0 → Option TopFault → Type 0
ServesTogether sessions opened history old new rose silent fault =
    ServedOver opened history rose silent (λ base. MakesTogether base sessions history (Appends old new)) (λ base. MakesTogether base sessions history (AppendsPart old new))
    (λ base. silent ⊎ MakesTogether base sessions history (AppendsFront old new)) fault

-- A run of an input whose sessions are served so.
abbrev pub RanTogether : {R W : Type 0} → (R → Option (List ℕ)) → (R → ℕ) → (R → R → Type 0) → (W → Option (List ℕ)) → (W → ℕ) → (W → W → Type 0)
    → R → R → W → W → Option Db → History → Option TopFault → Type 0
RanTogether remaining reads read_fails written writes write_fails source_old source_new sink_old sink_new opened history fault =
    RanBy remaining reads read_fails writes write_fails source_old source_new sink_old sink_new opened history
    (λ base calls. MakesTogether base (split calls) history (Appends (written sink_old) (written sink_new)))
    (λ base calls. MakesTogether base (split calls) history (AppendsPart (written sink_old) (written sink_new)))
    (λ base calls. ((sink_new ≡ sink_old) × (history ≡ [])) ⊎ MakesTogether base (split calls) history (AppendsFront (written sink_old) (written sink_new))) fault
