-- Calls made one after another, and added up.
use Rattle.std.proofs.Common.{◌≡◌, ◌≤◌, ◌<◌, ◌+◌, ◌^◌, List, [], ◌∷◌, ◌++◌, length, refl, ap, sym, ◌∙◌, append_assoc, append-nil, arith}
use Rattle.std.specs.List.{AllByRecursion}
use Rattle.std.proofs.lemmas.List.{length-append}
use Rattle.own_model.specs.declared.limit.TheConstants.{INPUT_CALLS, SESSIONS}
use Rattle.own_model.specs.declared.script.ScriptCall.{ScriptCall}
use Rattle.own_model.specs.Db.{Db}
use Rattle.script_model.specs.Split.{IsOfASession}
use Rattle.history_model.specs.History.{History}
use Rattle.history_model.specs.Made.{entry_of}
use Rattle.history_model.specs.Serial.{IsHistory}
use Rattle.made_model.specs.Answered.{answered_as, counted}
use Rattle.made_model.specs.Summary.{Summary, summary}
use Rattle.made_model.proofs.AnsweredLemmas.{answered-more, answered-none, counted-few}
use Rattle.store_top.specs.Steps.{AreReadable, TalliesCall, TalliesCalls}
use Rattle.store_top.proofs.CallsServed.{entries-added}

-- Over a database some calls are made and added up, and the rest are left.
pub record Tallying (base : Db) (calls done rest : List ScriptCall) (history : History) (tally : Summary) : Type 0 where
  pub whole : done ++ rest ≡ calls
  pub tallies : TalliesCalls base done history tally
  pub few : tally.calls ≤ length done
  pub readable : AreReadable rest
  pub sessions : AllByRecursion IsOfASession rest
  pub entries : IsHistory history

-- none is made yet
pub tallying-none : (base : Db) (calls : List ScriptCall) (tally : Summary) → tally ≡ summary [] → AreReadable calls → AllByRecursion IsOfASession calls → Tallying base calls [] calls [] tally
tallying-none base calls tally is readable sessions =
    let none = ap (λ (told : Summary). told.calls) is in
    record {
      whole = refl;
      tallies = record { replies = []; answered = answered-none base; tally_is = is };
      few = omega (arith, none);
      readable = readable;
      sessions = sessions;
      entries = tt;
    }

-- there is room for one call's reply more among those that an input may have
pub tallying-room : (base : Db) (calls done : List ScriptCall) (call : ScriptCall) (rest : List ScriptCall) (history : History) (tally : Summary) → Tallying base calls done (call ∷ rest) history tally
    → length calls ≤ INPUT_CALLS + SESSIONS → tally.calls < 2 ^ 32
tallying-room base calls done call rest history tally before most =
    let long = ap length before.whole in
    let parts = length-append done (call ∷ rest) in
    let few = before.few in
    omega (arith, long, parts, few, most)

module _ (base : Db) (calls done : List ScriptCall) (call : ScriptCall) (rest : List ScriptCall) (history after : History) (old new : Summary)
    (before : Tallying base calls done (call ∷ rest) history old) (step : TalliesCall base call history after old new) where
  -- its entry may be one of the history
  pub tallying-entered : IsHistory after
  tallying-entered = rw step.history_is (entries-added history call step.verdict step.want before.readable.0 before.sessions.0 before.entries)

  -- one more is made
  pub tallying-more : Tallying base calls (done ++ call ∷ []) rest after new
  tallying-more =
      let last = counted call.request (answered_as base history (entry_of call step.verdict) step.want) in
      let adds = step.adds before.tallies.replies before.tallies.tally_is in
      let count = ap (λ (told : Summary). told.calls) adds in
      let count_before = ap (λ (told : Summary). told.calls) before.tallies.tally_is in
      let parts = length-append before.tallies.replies last in
      let one = counted-few base history (entry_of call step.verdict) step.want call.request in
      let long = length-append done (call ∷ []) in
      let few = before.few in
      record {
        whole = append_assoc done (call ∷ []) rest ∙ before.whole;
        tallies = record {
          replies = before.tallies.replies ++ last;
          answered = rw step.history_is (answered-more base done history before.tallies.replies call step.want step.verdict before.tallies.answered step.spared step.shown);
          tally_is = adds;
        };
        few = omega (arith, count, count_before, parts, one, long, few);
        readable = before.readable.1;
        sessions = before.sessions.1;
        entries = tallying-entered;
      }

-- all are made
pub tallying-ends : (base : Db) (calls done : List ScriptCall) (history : History) (tally : Summary) → Tallying base calls done [] history tally → TalliesCalls base calls history tally
tallying-ends base calls done history tally before = rw (sym before.whole ∙ append-nil done) before.tallies
