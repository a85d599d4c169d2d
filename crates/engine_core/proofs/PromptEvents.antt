-- Entries that are answered without a look at the store: a doom, a text that is refused, and what begins or ends a transaction
-- without a commit.
use Rattle.std.proofs.Common.{◌≡◌, ◌∙◌, ℕ, [], Bool, true, false, None, Some, ap, refl, subst, sym}
use Rattle.std.specs.Prelude.{Ok, if◌then◌else◌}
use Rattle.own_base.specs.declared.number.Place.{Place}
use Rattle.own_model.specs.declared.history.Entry.{Entry}
use Rattle.own_model.specs.declared.history.Verdict.{Verdict}
use Rattle.own_model.specs.declared.limit.LimitName.{LimitName}
use Rattle.own_model.specs.declared.refusal.Refusal.TheVariants as refusal
use Rattle.own_model.specs.declared.reply.Reply.{Reply}
use Rattle.own_model.specs.declared.reply.Reply.TheVariants.{Done, Ended, Refused}
use Rattle.own_model.specs.declared.request.Request.{Request}
use Rattle.own_model.specs.declared.request.Request.TheVariants.{Run, Syntax, Limit, End}
use Rattle.own_model.specs.declared.statement.Statement.{Statement}
use Rattle.own_model.specs.declared.statement.Statement.TheVariants.{Begin, Commit, Rollback}
use Rattle.own_model.specs.declared.statement.Statement.TheVariants as of
use Rattle.run_model.specs.Run.{run}
use Rattle.history_model.specs.Held.{held, items_held}
use Rattle.history_model.specs.History.{History, after_request, flat_after, is_conflict, is_failure, left_by, own_after, world}
use Rattle.history_model.specs.Reply.{answer, is_refusal, reply_in}
use Rattle.history_model.specs.World.{Block, SessionStanding, Outside, Open, Doomed, World}
use Rattle.history_model.proofs.BlockLemmas.{items-nil}
use Rattle.history_model.proofs.DoomLemmas.{undoomed}
use Rattle.row_locks.specs.SessionItems.{items_by as held_by}
use Rattle.row_locks.specs.RepresentsItems.{RepresentsItems}
use Rattle.row_locks.proofs.Holders.{stand-same}
use Rattle.txn_core.specs.declared.session_state.SessionState.{SessionState}
use Rattle.txn_core.specs.declared.session_state.SessionState.TheVariants as kept
use Rattle.txn_core.specs.SessionStates.{RepresentsSession, doom_of, is_open, state_by, told as told_of}
use Rattle.txn_core.specs.Transactions.{AreOthersSame, AreSame}
use Rattle.txn_core.proofs.RepresentsSteps.{represents_begun}
use Rattle.engine_core.specs.Asked.{has_place_inside}
use Rattle.engine_core.specs.RepresentsWorld.{IsEvent, ServesAlone}
use Rattle.engine_core.specs.declared.state.State.{State}
use Rattle.engine_core.proofs.CalmEvents.{stands-calm, stands-refused, stands-unmoved}
use Rattle.engine_core.proofs.NextWorlds.{answer-in, own-in, sound-now}
use Rattle.engine_core.proofs.Stood.{IsOpenTxn, IsUndoomed, kept-doomed, stood-doomed, stood-open, stood-outside, stood-undoomed}

-- what has no place in a transaction is refused there, and leaves it as it is
inside_told : (now : World) (session : ℕ) (verdict : Verdict) (begun : ℕ) (block : Block) (statement : Statement) → has_place_inside statement ≡ false
    → reply_in now session verdict (Open begun block) (Run statement) ≡ Refused refusal.Inside
inside_told now session verdict begun block (of.CreateTable table) none = refl
inside_told now session verdict begun block (of.CreateView view) none = refl
inside_told now session verdict begun block Begin none = refl
inside_told now session verdict begun block (of.GdprGet table key) none = refl
inside_told now session verdict begun block (of.GdprForget table key) none = refl
inside_told now session verdict begun block of.Explain none = refl
inside_told now session verdict begun block of.Checkpoint none = refl
inside_told now session verdict begun block _ none = let never : true ≡ false = none in absurd (cc)

inside_stays : (place begun : ℕ) (block : Block) (statement : Statement) (conflicts : Bool) → has_place_inside statement ≡ false
    → after_request place (Open begun block) (Run statement) conflicts ≡ Open begun block
inside_stays place begun block (of.CreateTable table) conflicts none = refl
inside_stays place begun block (of.CreateView view) conflicts none = refl
inside_stays place begun block Begin conflicts none = refl
inside_stays place begun block (of.GdprGet table key) conflicts none = refl
inside_stays place begun block (of.GdprForget table key) conflicts none = refl
inside_stays place begun block of.Explain conflicts none = refl
inside_stays place begun block of.Checkpoint conflicts none = refl
inside_stays place begun block _ conflicts none = let never : true ≡ false = none in absurd (cc)

module _ (history : History) (entry : Entry) (before after : State) (event : IsEvent before history entry)
    (version : after.version ≡ before.version) (weighs : after.weighs ≡ before.weighs) where
  abbrev now : World
  now = world before.opened history

  abbrev session : ℕ
  session = entry.session.0

  abbrev told : Reply
  told = answer now entry

  abbrev own : SessionState
  own = state_by before.txns.states session

  -- by how the session stands and what it asks
  told_by : (stood : SessionStanding) (request : Request) → now.standing session ≡ stood → entry.request ≡ request → told ≡ reply_in now session entry.verdict stood request
  told_by stood request stands asks =
      answer-in history entry event.entries event.is_entry before event.begun event.stands event.up
      ∙ (λ i. reply_in now session entry.verdict (stands i) (asks i))

  own_by : (reply : Reply) (stood : SessionStanding) (request : Request) → told ≡ reply → is_failure reply ≡ false → now.standing session ≡ stood → entry.request ≡ request
      → own_after now entry told ≡ after_request now.place stood request (is_conflict told)
  own_by reply stood request is works stands asks =
      own-in history entry event.entries event.is_entry before event.begun event.stands event.up (ap is_failure is ∙ works)
      ∙ (λ i. after_request now.place (stands i) (asks i) (is_conflict told))

  flat_by : (stood : SessionStanding) (request : Request) → now.standing session ≡ stood → entry.request ≡ request → left_by now.flat stood request ≡ now.flat
      → flat_after now entry told ≡ now.flat
  flat_by stood request stands asks stays = by (is_refusal told)
    where
      left : left_by now.flat (now.standing session) entry.request ≡ now.flat
      left = (λ i. left_by now.flat (stands i) (asks i)) ∙ stays

      by : (b : Bool) → (if b then now.flat else left_by now.flat (now.standing session) entry.request) ≡ now.flat
      by true = refl
      by false = left

  -- what is kept of its items represents those that it holds
  held_by_standing : (stood : SessionStanding) → now.standing session ≡ stood → RepresentsItems (held_by before.txns.held session) (items_held now.flat.schema stood)
  unfolding held
  held_by_standing stood stands =
      subst (λ stood. RepresentsItems (held_by before.txns.held session) (items_held now.flat.schema stood)) stands (event.stands.held session)

  -- a doom is told, and nothing else done
  pub serves-doomed : (place : Place) → doom_of (state_by before.txns.states entry.session.0) ≡ Some place → AreOthersSame entry.session.0 before.txns after.txns
      → state_by after.txns.states entry.session.0 ≡ told_of (state_by before.txns.states entry.session.0)
      → held_by after.txns.held entry.session.0 ≡ held_by before.txns.held entry.session.0
      → ServesAlone {E = ℕ} before.opened after history entry (Ok (Refused (refusal.Doomed place)))
  serves-doomed place doom others keeps holds =
      let stood = stood-doomed now.flat own (now.standing session) place (event.stands.states session) doom in
      let is : told ≡ Refused (refusal.Doomed place) = told_by (Doomed place.0) entry.request stood refl in (
        is,
        stands-refused history entry before after event (refusal.Doomed place) is Outside version weighs others
            (own_by (Refused (refusal.Doomed place)) (Doomed place.0) entry.request is refl stood refl)
            (subst (λ one. RepresentsSession now.flat one Outside) (sym (keeps ∙ kept-doomed own place doom)) tt)
            (subst (λ items. RepresentsItems items []) (sym holds) (held_by_standing (Doomed place.0) stood)),
      )

  -- a text that the reader refused
  syntax_told : (byte : ℕ) (stood : SessionStanding) → IsUndoomed stood → reply_in now session entry.verdict stood (Syntax byte) ≡ Refused (refusal.Syntax byte)
  syntax_told byte Outside free = refl
  syntax_told byte (Open begun block) free = refl
  syntax_told byte (Doomed by) free = absurd free

  syntax_stays : (byte : ℕ) (stood : SessionStanding) (conflicts : Bool) → IsUndoomed stood → after_request now.place stood (Syntax byte) conflicts ≡ stood
  syntax_stays byte Outside conflicts free = refl
  syntax_stays byte (Open begun block) conflicts free = refl
  syntax_stays byte (Doomed by) conflicts free = absurd free

  limit_told : (limit : LimitName) (stood : SessionStanding) → IsUndoomed stood → reply_in now session entry.verdict stood (Limit limit) ≡ Refused (refusal.Limit limit)
  limit_told limit Outside free = refl
  limit_told limit (Open begun block) free = refl
  limit_told limit (Doomed by) free = absurd free

  limit_stays : (limit : LimitName) (stood : SessionStanding) (conflicts : Bool) → IsUndoomed stood → after_request now.place stood (Limit limit) conflicts ≡ stood
  limit_stays limit Outside conflicts free = refl
  limit_stays limit (Open begun block) conflicts free = refl
  limit_stays limit (Doomed by) conflicts free = absurd free

  module _ (none : doom_of (state_by before.txns.states entry.session.0) ≡ None) where
    free : IsUndoomed (now.standing session)
    free = stood-undoomed now.flat own (now.standing session) (event.stands.states session) none

    pub serves-syntax : (byte : ℕ) → entry.request ≡ Syntax byte → AreSame before.txns after.txns → ServesAlone {E = ℕ} before.opened after history entry (Ok (Refused (refusal.Syntax byte)))
    serves-syntax byte asks same =
        let is : told ≡ Refused (refusal.Syntax byte) = told_by (now.standing session) (Syntax byte) refl asks ∙ syntax_told byte (now.standing session) free in (
          is,
          stands-unmoved history entry before after event (refusal.Syntax byte) is version weighs same
              (own_by (Refused (refusal.Syntax byte)) (now.standing session) (Syntax byte) is refl refl asks ∙ syntax_stays byte (now.standing session) (is_conflict told) free),
        )

    pub serves-limit : (limit : LimitName) → entry.request ≡ Limit limit → AreSame before.txns after.txns → ServesAlone {E = ℕ} before.opened after history entry (Ok (Refused (refusal.Limit limit)))
    serves-limit limit asks same =
        let is : told ≡ Refused (refusal.Limit limit) = told_by (now.standing session) (Limit limit) refl asks ∙ limit_told limit (now.standing session) free in (
          is,
          stands-unmoved history entry before after event (refusal.Limit limit) is version weighs same
              (own_by (Refused (refusal.Limit limit)) (now.standing session) (Limit limit) is refl refl asks ∙ limit_stays limit (now.standing session) (is_conflict told) free),
        )

    -- the end of a session, which ends its transaction
    end_told : (stood : SessionStanding) → IsUndoomed stood → reply_in now session entry.verdict stood End ≡ Ended
    end_told Outside so = refl
    end_told (Open begun block) so = refl
    end_told (Doomed by) so = absurd so

    end_after : (stood : SessionStanding) (conflicts : Bool) → after_request now.place stood End conflicts ≡ Outside
    end_after Outside conflicts = refl
    end_after (Open begun block) conflicts = refl
    end_after (Doomed by) conflicts = refl

    end_left : (stood : SessionStanding) → left_by now.flat stood End ≡ now.flat
    end_left Outside = refl
    end_left (Open begun block) = refl
    end_left (Doomed by) = refl

    pub serves-end : entry.request ≡ End → AreOthersSame entry.session.0 before.txns after.txns → state_by after.txns.states entry.session.0 ≡ kept.Nothing
        → held_by after.txns.held entry.session.0 ≡ [] → ServesAlone {E = ℕ} before.opened after history entry (Ok Ended)
    serves-end asks others keeps holds = let is : told ≡ Ended = told_by (now.standing session) End refl asks ∙ end_told (now.standing session) free in (
      is,
      stands-calm history entry before after event Outside version weighs others
          (flat_by (now.standing session) End refl asks (end_left (now.standing session)))
          (λ other. undoomed now entry told other (rw asks refl))
          (own_by Ended (now.standing session) End is refl refl asks ∙ end_after (now.standing session) (is_conflict told))
          (subst (λ one. RepresentsSession now.flat one Outside) (sym keeps) tt)
          (subst (λ items. RepresentsItems items []) (sym holds) (stand-same [])),
    )

  -- outside a transaction
  module _ (nothing : state_by before.txns.states entry.session.0 ≡ kept.Nothing) where
    outside : now.standing session ≡ Outside
    outside = stood-outside now.flat own (now.standing session) (event.stands.states session) nothing

    begin_left : left_by now.flat Outside (Run Begin) ≡ now.flat
    unfolding run
    begin_left = refl

    begin_told : reply_in now session entry.verdict Outside (Run Begin) ≡ Done
    unfolding run
    begin_told = refl

    pub serves-begin : entry.request ≡ Run Begin → AreOthersSame entry.session.0 before.txns after.txns
        → state_by after.txns.states entry.session.0 ≡ kept.Open (record { space = []; wrote = false })
        → held_by after.txns.held entry.session.0 ≡ held_by before.txns.held entry.session.0 → ServesAlone {E = ℕ} before.opened after history entry (Ok Done)
    serves-begin asks others keeps holds = let is : told ≡ Done = told_by Outside (Run Begin) outside asks ∙ begin_told in (
      is,
      stands-calm history entry before after event (Open now.place []) version weighs others
          (flat_by Outside (Run Begin) outside asks begin_left)
          (λ other. undoomed now entry told other (rw asks refl))
          (own_by Done Outside (Run Begin) is refl outside asks)
          (subst (λ one. RepresentsSession now.flat one (Open now.place [])) (sym keeps)
          (represents_begun now.flat now.place (sound-now history entry event.entries event.is_entry before event.begun event.stands event.up).well_formed))
          (subst (λ items. RepresentsItems items (items_held now.flat.schema (Open now.place []))) (sym holds)
          (subst (λ items. RepresentsItems (held_by before.txns.held session) items) (sym (items-nil now.flat.schema)) (held_by_standing Outside outside))),
    )

    refused_outside : (request : Request) → entry.request ≡ request → reply_in now session entry.verdict Outside request ≡ Refused refusal.Outside
        → ((conflicts : Bool) → after_request now.place Outside request conflicts ≡ Outside) → AreSame before.txns after.txns
        → ServesAlone {E = ℕ} before.opened after history entry (Ok (Refused refusal.Outside))
    refused_outside request asks replies stays same =
        let is : told ≡ Refused refusal.Outside = told_by Outside request outside asks ∙ replies in (
          is,
          stands-unmoved history entry before after event refusal.Outside is version weighs same
              (own_by (Refused refusal.Outside) Outside request is refl outside asks ∙ (stays (is_conflict told) ∙ sym outside)),
        )

    pub serves-commit_outside : entry.request ≡ Run Commit → AreSame before.txns after.txns → ServesAlone {E = ℕ} before.opened after history entry (Ok (Refused refusal.Outside))
    serves-commit_outside asks same = refused_outside (Run Commit) asks refl (λ conflicts. refl) same

    pub serves-rollback_outside : entry.request ≡ Run Rollback → AreSame before.txns after.txns → ServesAlone {E = ℕ} before.opened after history entry (Ok (Refused refusal.Outside))
    serves-rollback_outside asks same = refused_outside (Run Rollback) asks refl (λ conflicts. refl) same

  -- in a transaction
  module _ (opened : is_open (state_by before.txns.states entry.session.0) ≡ true) where
    is : IsOpenTxn now.flat own (now.standing session)
    is = stood-open now.flat own (now.standing session) (event.stands.states session) opened

    -- ROLLBACK forgets it
    pub serves-rollback : entry.request ≡ Run Rollback → AreOthersSame entry.session.0 before.txns after.txns → state_by after.txns.states entry.session.0 ≡ kept.Nothing
        → held_by after.txns.held entry.session.0 ≡ [] → ServesAlone {E = ℕ} before.opened after history entry (Ok Done)
    serves-rollback asks others keeps holds = let done : told ≡ Done = told_by (Open is.begun is.block) (Run Rollback) is.stands asks in (
      done,
      stands-calm history entry before after event Outside version weighs others
          (flat_by (Open is.begun is.block) (Run Rollback) is.stands asks refl)
          (λ other. undoomed now entry told other (rw asks refl))
          (own_by Done (Open is.begun is.block) (Run Rollback) done refl is.stands asks)
          (subst (λ one. RepresentsSession now.flat one Outside) (sym keeps) tt)
          (subst (λ items. RepresentsItems items []) (sym holds) (stand-same [])),
    )

    -- what has no place in it
    pub serves-inside : (statement : Statement) → entry.request ≡ Run statement → has_place_inside statement ≡ false → AreSame before.txns after.txns
        → ServesAlone {E = ℕ} before.opened after history entry (Ok (Refused refusal.Inside))
    serves-inside statement asks none same =
        let told_inside : told ≡ Refused refusal.Inside = told_by (Open is.begun is.block) (Run statement) is.stands asks ∙ replies statement none in (
          told_inside,
          stands-unmoved history entry before after event refusal.Inside told_inside version weighs same
              (own_by (Refused refusal.Inside) (Open is.begun is.block) (Run statement) told_inside refl is.stands asks ∙ (stays statement (is_conflict told) none ∙ sym is.stands)),
        )
      where
        replies : (statement : Statement) → has_place_inside statement ≡ false → reply_in now session entry.verdict (Open is.begun is.block) (Run statement) ≡ Refused refusal.Inside
        replies statement none = inside_told now session entry.verdict is.begun is.block statement none

        stays : (statement : Statement) (conflicts : Bool) → has_place_inside statement ≡ false → after_request now.place (Open is.begun is.block) (Run statement) conflicts ≡ Open is.begun is.block
        stays statement conflicts none = inside_stays now.place is.begun is.block statement conflicts none
