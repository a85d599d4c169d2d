-- A call that was made, while the disk hadn't failed and once it had.
use Rattle.std.proofs.Common.{◌≡◌, ◌∙◌, ℕ, List, [], ◌∷◌, ◌++◌, Bool, length, refl, ap, sym, subst}
use Rattle.std.specs.Prelude.{◌≢◌, Option, None, Some, option_map, if◌then◌else◌}
use Rattle.own_base.specs.declared.number.Area.{Area}
use Rattle.own_base.specs.declared.number.Place.{Place}
use Rattle.own_model.specs.declared.history.Entry.{Entry}
use Rattle.own_model.specs.declared.history.Verdict.{Verdict}
use Rattle.own_model.specs.declared.history.Verdict.TheVariants.{Took, DiskFault, NoRoom}
use Rattle.own_model.specs.declared.refusal.Refusal.TheVariants.{Down}
use Rattle.own_model.specs.declared.reply.Reply.{Reply}
use Rattle.own_model.specs.declared.reply.Reply.TheVariants.{Refused}
use Rattle.own_model.specs.Db.{Db}
use Rattle.history_model.specs.AsksDisk.{asks_disk, under}
use Rattle.history_model.specs.Commits.{is_commit}
use Rattle.history_model.specs.History.{History, down_after, happens, is_disk, world}
use Rattle.history_model.specs.Reply.{answer}
use Rattle.history_model.specs.World.{World}
use Rattle.history_model.proofs.HistoryLemmas.{place-world, world-append}
use Rattle.history_model.proofs.RefusalLemmas.{answer-down}
use Rattle.store_disk.specs.declared.store_disk.StoreDisk.{StoreDisk}
use Rattle.engine_core.specs.Made.{IsMade}
use Rattle.engine_core.specs.RepresentsWorld.{RepresentsWorld}
use Rattle.crash_model.specs.Room.{bytes_written, lays_anew}
use Rattle.engine_core.specs.Stored.{Carries, is_fault}
use Rattle.engine_core.specs.declared.state.State.{State}
use Rattle.engine_core.proofs.EngineStands.{under_same}

module _ {D : Type 0} (holds : D → Area → List ℕ) (leaves : D → Area → List ℕ → Type 0) (moment : D → ℕ) (might : D → ℕ → List ℕ → List ℕ → Type 0) (honest : D → Bool) (faults : D → ℕ)
    (base : Db) (before after : History) (state : State) (store_old store : StoreDisk D) (down_old down : Option Place) (call : Entry) (place : ℕ)
    (at : place ≡ length before) (was_down : (world base before).down ≡ option_map (λ (place : Place). place.0) down_old) where
  abbrev now : World
  now = world base before

  -- where no place is told as the one where it failed, it hasn't
  unfailed : (verdict : Verdict) → (if is_fault verdict then Some place else None) ≡ None → verdict ≢ DiskFault
  unfailed Took none is = absurd (cc)
  unfailed NoRoom none is = absurd (cc)
  unfailed DiskFault none is = absurd (cc)

  -- while it hadn't, the call is served
  pub made-up : (verdict : Verdict) (told : Reply) → down_old ≡ None → after ≡ before ++ under verdict call ∷ []
      → (answer now (under verdict call) ≡ told) × (verdict ≢ DiskFault → RepresentsWorld state (happens now (under verdict call))) × (is_disk told ≡ is_fault verdict)
      → Carries holds leaves moment might honest faults now.flat (happens now call).flat (asks_disk now call) (is_commit now call (answer now call)) (lays_anew call.request) (bytes_written now call store_old.commits) store_old verdict store
      → option_map (λ (place : Place). place.0) down ≡ (if is_fault verdict then Some place else None)
      → IsMade holds leaves moment might honest faults base before after state store_old store down_old down call place told
  made-up verdict told up grown served carried down_is =
      let after_is : world base after ≡ happens now (under verdict call) = ap (world base) grown ∙ world-append base before (under verdict call) in
      let was_up : now.down ≡ None = was_down ∙ ap (option_map (λ (place : Place). place.0)) up in
      let fails : (happens now (under verdict call)).down ≡ (if is_fault verdict then Some place else None) =
      (λ i. down_after now.place (was_up i) (is_disk (served.0 i)))
      ∙ ((λ i. if served.2 i then Some now.place else None) ∙ ap (λ p. if is_fault verdict then Some p else None) (place-world base before ∙ sym at)) in
      record {
        verdict = verdict;
        history = grown;
        at = at;
        answered = served.0;
        represents = λ still_up. subst (RepresentsWorld state) (sym after_is) (served.1 (unfailed verdict (sym down_is ∙ ap (option_map (λ (place : Place). place.0)) still_up)));
        fault = served.2;
        down_is = ap (λ (w : World). w.down) after_is ∙ (fails ∙ sym down_is);
        carries = λ none. carried;
        still = λ other. absurd (other up);
      }

  -- once it had, that is told, and nothing changes
  pub made-down : (failed : Place) → down_old ≡ Some failed → call.verdict ≡ Took → after ≡ before ++ call ∷ [] → store ≡ store_old → down ≡ down_old
      → IsMade holds leaves moment might honest faults base before after state store_old store down_old down call place (Refused (Down failed))
  made-down failed was took grown same down_same =
      let entry = under Took call in
      let is_down : now.down ≡ Some failed.0 = was_down ∙ ap (option_map (λ (place : Place). place.0)) was in
      let told : answer now entry ≡ Refused (Down failed) = answer-down now entry failed.0 is_down in
      let with_entry : after ≡ before ++ entry ∷ [] = grown ∙ ap (λ one. before ++ one ∷ []) (sym (under_same call took)) in
      let after_is : world base after ≡ happens now entry = ap (world base) with_entry ∙ world-append base before entry in
      let stays : (happens now entry).down ≡ now.down = (λ i. down_after now.place (is_down i) (is_disk (answer now entry))) ∙ sym is_down in
      record {
        verdict = Took;
        history = with_entry;
        at = at;
        answered = told;
        represents = λ up. let never : ◌≡◌ {A = Option Place} None (Some failed) = sym up ∙ (down_same ∙ was) in absurd (cc);
        fault = refl;
        down_is = ap (λ (w : World). w.down) after_is ∙ (stays ∙ (was_down ∙ ap (option_map (λ (place : Place). place.0)) (sym down_same)));
        carries = λ none. let never : ◌≡◌ {A = Option Place} None (Some failed) = sym none ∙ was in absurd (cc);
        still = λ other. (same, refl, down_same);
      }
