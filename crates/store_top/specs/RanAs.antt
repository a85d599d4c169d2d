-- What a run did, by its mode.
use Rattle.std.specs.Prelude.{◌≡◌, ℕ, List, Bool, false, Option, None, Some}
use Rattle.std.specs.Io.KnownBytes.{Appends}
use Rattle.own_base.specs.declared.number.Area.{Area}
use Rattle.own_model.specs.Db.{Db}
use Rattle.history_model.specs.History.{History}
use Rattle.script_model.specs.Split.{split}
use Rattle.store_words.specs.declared.words.Mode.{Mode}
use Rattle.store_words.specs.declared.words.Mode.TheVariants.{Step, Serve, Make}
use Rattle.store_top.specs.declared.served.TopFault.{TopFault}
use Rattle.store_top.specs.Ran.{Ran}
use Rattle.store_top.specs.RanMade.{MakesWhole, RanMade}
use Rattle.session_run.specs.Written.{MakesTogether}
use Rattle.store_top.specs.RanTogether.{RanTogether}
use Rattle.store_top.specs.OnDisk.{IsServedOn, IsServedSince}
use Rattle.store_top.specs.Steps.{RunsTo}
use Rattle.store_top.specs.Top.{RunsWhole}

-- Mode make reads nothing. Words that are no mode are seen as those of mode step, of which nothing comes.
abbrev pub RanAs : {R W : Type 0} → (R → Option (List ℕ)) → (R → ℕ) → (R → R → Type 0) → (W → Option (List ℕ)) → (W → ℕ) → (W → W → Type 0)
    → R → R → W → W → Option Db → History → Option TopFault → Option Mode → Type 0
RanAs remaining reads read_fails written writes write_fails source_old source_new sink_old sink_new opened history fault None =
    Ran remaining reads read_fails written writes write_fails source_old source_new sink_old sink_new opened history fault
RanAs remaining reads read_fails written writes write_fails source_old source_new sink_old sink_new opened history fault (Some Step) =
    Ran remaining reads read_fails written writes write_fails source_old source_new sink_old sink_new opened history fault
RanAs remaining reads read_fails written writes write_fails source_old source_new sink_old sink_new opened history fault (Some Serve) =
    RanTogether remaining reads read_fails written writes write_fails source_old source_new sink_old sink_new opened history fault
RanAs remaining reads read_fails written writes write_fails source_old source_new sink_old sink_new opened history fault (Some (Make people seed)) =
    RanMade written writes write_fails people seed sink_old sink_new opened history fault × (source_new ≡ source_old)

-- A run came to its end, over the database that was opened: all calls were made, none was answered with a fault of the disk, and
-- what its mode tells of them was written.
abbrev pub IsWholeAs : Option (List ℕ) → Option (List ℕ) → Option (List ℕ) → Option (List ℕ) → Option Db → History → Option Mode → Type 0
IsWholeAs remaining_old remaining_new written_old written_new opened history None =
    RunsWhole remaining_old remaining_new opened history false (λ base calls. RunsTo base calls history written_old written_new)
IsWholeAs remaining_old remaining_new written_old written_new opened history (Some Step) =
    RunsWhole remaining_old remaining_new opened history false (λ base calls. RunsTo base calls history written_old written_new)
IsWholeAs remaining_old remaining_new written_old written_new opened history (Some Serve) =
    RunsWhole remaining_old remaining_new opened history false (λ base calls. MakesTogether base (split calls) history (Appends written_old written_new))
IsWholeAs remaining_old remaining_new written_old written_new opened history (Some (Make people seed)) = MakesWhole people seed opened history written_old written_new false

-- What became of an honest disk whose store was opened.
abbrev pub ServedAs : {D : Type 0} → (D → Area → List ℕ) → (D → Area → List ℕ → Type 0) → (D → ℕ) → (D → ℕ → List ℕ → List ℕ → Type 0) → D → D → History → Option Mode → Db → Type 0
ServedAs holds leaves moment might_have_left old new history None base = IsServedOn holds leaves moment might_have_left old new base history
ServedAs holds leaves moment might_have_left old new history (Some Step) base = IsServedOn holds leaves moment might_have_left old new base history
ServedAs holds leaves moment might_have_left old new history (Some Serve) base = IsServedSince holds leaves moment might_have_left old new base history
ServedAs holds leaves moment might_have_left old new history (Some (Make people seed)) base = IsServedOn holds leaves moment might_have_left old new base history
