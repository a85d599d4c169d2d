-- What the holder of a pass did, call by call.
use Rattle.std.proofs.Common.{◌≡◌, ℕ, List, [], ◌∷◌, ◌++◌, refl, ap, sym, ◌∙◌, subst, inl, inr, append_assoc, append-nil}
use Rattle.std.specs.Prelude.{false}
use mathlib.Core.List.{IsPrefix}
use Rattle.std.proofs.lemmas.List.Elements.{filter_map-append}
use Rattle.own_base.specs.declared.number.SessionNo.{SessionNo}
use Rattle.own_model.specs.declared.history.Entry.{Entry}
use Rattle.own_model.specs.declared.request.Request.{Request}
use Rattle.own_model.specs.Db.{Db}
use Rattle.history_model.specs.History.{History, world}
use Rattle.history_model.proofs.HistoryLemmas.{flat-world}
use Rattle.history_model.specs.Serial.{Serial}
use Rattle.serve_model.specs.declared.step.Step.{Step}
use Rattle.serve_model.specs.declared.step.Step.TheVariants.{Answered, Look, NoMemory}
use Rattle.serve_model.specs.Look.{IsLook}
use Rattle.serve_model.specs.Steps.{Steps, entry}
use Rattle.serve_model.proofs.LookLemmas.{look-asked}
use Rattle.commit_turn.specs.declared.pass.Pass.{Pass}
use Rattle.commit_turn.specs.declared.view.View.{View}
use Rattle.commit_turn.specs.Passes.{base, places, seen}
use Rattle.commit_turn.specs.Steps.{MayCount}
use Rattle.commit_turn.proofs.Prefixes.{prefix_refl, prefix_trans}
use Rattle.session_run.specs.declared.replies.Told.{Told}
use Rattle.session_run.specs.Telling.{MayBeLookedAt, TellsStep, place_number}
use Rattle.session_run.specs.ToldCalls.{AreTold, places_told}
use Rattle.session_run.specs.Serving.{MakesByPass, ServesCalls, base_of}
use Rattle.session_run.proofs.ToldLemmas.{step-told, told-grows, told-more}

-- what a call leaves may be given back: the entries that it found, or one more, of its session
pub may-count : {S : Type 0} (shows : S → Db) (base : Db) (found left : History) (call : Entry) (step : Step S) (view : View)
    → view.lead ≡ false → call.session.0 ≡ view.session → view.seen ≡ found → Steps shows base found left call step → MayCount view left
may-count shows base found left call (Answered place told) view lead own is step =
    inr (lead, (record call { verdict = step.verdict }, own, step.made.history ∙ ap (λ h. h ++ record call { verdict = step.verdict } ∷ []) (sym is)))
may-count shows base found left call (Look place shown bound) view lead own is step =
    inr (lead, (call, own, step.made.history ∙ ap (λ h. h ++ call ∷ []) (sym is)))
may-count shows base found left call NoMemory view lead own is step = inl (step ∙ sym is)

-- what a call left has the history before it as its beginning
pub left_begins : {S : Type 0} (shows : S → Db) (base : Db) (found left : History) (call : Entry) (step : Step S) → Steps shows base found left call step → IsPrefix found left
left_begins shows base found left call (Answered place told) step = (_, sym step.made.history)
left_begins shows base found left call (Look place shown bound) step = (_, sym step.made.history)
left_begins shows base found left call NoMemory step = ([], append-nil found ∙ sym step)

-- what a call that is a look is lent may be asked it
pub may-look : {S : Type 0} (shows : S → Db) (base : Db) (found left : History) (call : Entry) (step : Step S) → Steps shows base found left call step → MayBeLookedAt shows step
may-look shows base found left call (Answered place told) step = tt
may-look shows base found left call (Look place shown bound) step =
    subst (λ db. IsLook db.schema bound) (sym (flat-world base found) ∙ sym step.same) (look-asked (world base found) call bound step.reads)
may-look shows base found left call NoMemory step = tt

-- a call was made by a pass, and told
pub serves-one : {S : Type 0} (shows : S → Db) (old new : Pass) (session : SessionNo) (asked : ℕ × Request) (step : Step S) (told : Told)
    → MakesByPass shows old new (entry session asked.0 asked.1) step → TellsStep shows session.0 asked.0 step told
    → ServesCalls old new session (asked ∷ []) (told ∷ [])
serves-one shows old new session asked step told made tells =
    let after : seen new ≡ made.left = ap (λ view. view.seen) made.view in
    let is = step-told shows (base_of old) made.found made.left session asked told step made.steps tells in
    record {
      stays = record {
        lead = ap (λ view. view.lead) made.view;
        session = ap (λ view. view.session) made.view;
        base = ap (λ view. view.base) made.view;
        start = ap (λ view. view.start) made.view;
      };
      grows = rw after (prefix_trans (seen old) made.found made.left made.begins (left_begins shows (base_of old) made.found made.left _ step made.steps));
      told = rw after (is.0, tt);
      places = ap (λ view. view.places) made.view ∙ ap (λ ps. places old ++ ps) (sym is.1);
      serial = λ before. rw after made.serial;
    }

-- no call was made yet
pub serves-none : (pass : Pass) (session : SessionNo) → ServesCalls pass pass session [] []
serves-none pass session = record {
  stays = record { lead = refl; session = refl; base = refl; start = refl };
  grows = prefix_refl (seen pass);
  told = tt;
  places = sym (append-nil (places pass));
  serial = λ before. before;
}

-- calls, and then more of them
pub serves-more : (old mid new : Pass) (session : SessionNo) (calls more : List (ℕ × Request)) (tolds others : List Told) → ServesCalls old mid session calls tolds
    → ServesCalls mid new session more others → ServesCalls old new session (calls ++ more) (tolds ++ others)
serves-more old mid new session calls more tolds others first then =
    let base_is : base_of mid ≡ base_of old = ap (λ start. start.base) first.stays.start in
    record {
      stays = record {
        lead = then.stays.lead ∙ first.stays.lead;
        session = then.stays.session ∙ first.stays.session;
        base = then.stays.base ∙ first.stays.base;
        start = then.stays.start ∙ first.stays.start;
      };
      grows = prefix_trans (seen old) (seen mid) (seen new) first.grows then.grows;
      told = told-more (base_of old) (seen new) session calls more tolds others
          (told-grows (base_of old) (seen mid) (seen new) session calls tolds then.grows first.told)
          (subst (λ base. AreTold base (seen new) session more others) base_is then.told);
      places = then.places ∙ (ap (λ ps. ps ++ places_told others) first.places
          ∙ (append_assoc (places old) (places_told tolds) (places_told others) ∙ ap (λ ps. places old ++ ps) (sym (filter_map-append (λ told. place_number told.place) tolds others))));
      serial = λ before. subst (λ base. Serial base (seen new)) base_is (then.serial (subst (λ base. Serial base (seen mid)) (sym base_is) (first.serial before)));
    }
