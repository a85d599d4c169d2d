-- Entries that leave the flat database and doom nobody.
use Rattle.std.proofs.Common.{◌≡◌, ◌∙◌, ◌==◌, ℕ, length, Bool, true, false, None, ap, refl, subst, sym}
use Rattle.std.proofs.lemmas.Bool.{eqb-false, eqb-true}
use Rattle.own_model.specs.declared.history.Entry.{Entry}
use Rattle.own_model.specs.declared.refusal.Refusal.{Refusal}
use Rattle.own_model.specs.declared.reply.Reply.{Reply}
use Rattle.own_model.specs.declared.reply.Reply.TheVariants.{Refused}
use Rattle.own_model.specs.Db.{Db}
use Rattle.state_model.specs.Sound.{Sound}
use Rattle.state_model.specs.Weight.{weight}
use Rattle.history_model.specs.Held.{held, items_held}
use Rattle.history_model.specs.History.{History, dooms, flat_after, happens, own_after, world}
use Rattle.history_model.specs.Reply.{answer, is_refusal}
use Rattle.history_model.specs.World.{SessionStanding, World}
use Rattle.history_model.proofs.DoomLemmas.{refused-dooms}
use Rattle.row_locks.specs.SessionItems.{items_by as held_by}
use Rattle.row_locks.specs.RepresentsItems.{RepresentsItems}
use Rattle.txn_core.specs.SessionStates.{RepresentsSession, state_by}
use Rattle.txn_core.specs.Transactions.{AreOthersSame, AreSame, Transactions}
use Rattle.engine_core.specs.RepresentsWorld.{IsEvent, RepresentsWorld}
use Rattle.engine_core.specs.declared.state.State.{State}
use Rattle.engine_core.proofs.NextWorlds.{stands-next}

-- what is the same of all sessions is the same of the others
pub others-same : (session : ℕ) (before after : Transactions) → AreSame before after → AreOthersSame session before after
others-same session before after same = record { states = λ other differs. same.states other; held = λ other differs. same.held other }

-- what is the same of one and of the others is the same of all
pub all-same : (session : ℕ) (before after : Transactions) → AreOthersSame session before after → state_by after.states session ≡ state_by before.states session
    → held_by after.held session ≡ held_by before.held session → AreSame before after
all-same session before after others kept held = record {
  states = λ one. kept_at one (one == session) refl;
  held = λ one. held_at one (one == session) refl;
}
  where
    kept_at : (one : ℕ) (b : Bool) → (one == session) ≡ b → state_by after.states one ≡ state_by before.states one
    kept_at one true same = subst (λ n. state_by after.states n ≡ state_by before.states n) (sym (eqb-true one session same)) kept
    kept_at one false apart = others.states one (eqb-false one session apart)

    held_at : (one : ℕ) (b : Bool) → (one == session) ≡ b → held_by after.held one ≡ held_by before.held one
    held_at one true same = subst (λ n. held_by after.held n ≡ held_by before.held n) (sym (eqb-true one session same)) held
    held_at one false apart = others.held one (eqb-false one session apart)

-- the state represents the same world where the same is kept
pub stands-kept : (before after : State) (world : World) → after.version ≡ before.version → after.weighs ≡ before.weighs → AreSame before.txns after.txns
    → RepresentsWorld before world → RepresentsWorld after world
stands-kept before after world version weighs same stands = record {
  flat = version ∙ stands.flat;
  weighs = ap weight version ∙ (stands.weighs ∙ sym weighs);
  states = λ session. subst (λ one. RepresentsSession world.flat one (world.standing session)) (sym (same.states session)) (stands.states session);
  held = λ session. subst (λ items. RepresentsItems items (held world session)) (sym (same.held session)) (stands.held session);
}

-- so an entry may come behind it as before
pub event-kept : (history : History) (entry : Entry) (before after : State) → after.opened ≡ before.opened → after.version ≡ before.version → after.weighs ≡ before.weighs → AreSame before.txns after.txns
    → IsEvent before history entry → IsEvent after history entry
event-kept history entry before after opened version weighs same event = record {
  entries = event.entries;
  begun = subst Sound (sym opened) event.begun;
  stands = subst (λ base. RepresentsWorld after (world base history)) (sym opened) (stands-kept before after (world before.opened history) version weighs same event.stands);
  up = subst (λ base. (world base history).down ≡ None) (sym opened) event.up;
  is_entry = event.is_entry;
}

module _ (history : History) (entry : Entry) (before after : State) (event : IsEvent before history entry) where
  abbrev now : World
  now = world before.opened history

  abbrev told : Reply
  told = answer now entry

  pub stands-calm : (stood : SessionStanding) → after.version ≡ before.version → after.weighs ≡ before.weighs → AreOthersSame entry.session.0 before.txns after.txns
      → flat_after (world before.opened history) entry (answer (world before.opened history) entry) ≡ (world before.opened history).flat
      → ((other : ℕ) → dooms (world before.opened history) entry (answer (world before.opened history) entry) other ≡ false)
      → own_after (world before.opened history) entry (answer (world before.opened history) entry) ≡ stood
      → RepresentsSession (world before.opened history).flat (state_by after.txns.states entry.session.0) stood
      → RepresentsItems (held_by after.txns.held entry.session.0) (items_held (world before.opened history).flat.schema stood)
      → RepresentsWorld after (happens (world before.opened history) entry)
  stands-calm stood version weighs others calm undoomed stands kept holds =
      let is = event.stands in
      stands-next history entry event.entries event.is_entry before event.begun is event.up after (record { 0 = length history }) refl
      (version ∙ (is.flat ∙ sym calm)) (ap weight version ∙ (is.weighs ∙ sym weighs))
      (subst (λ db. RepresentsSession db (state_by after.txns.states entry.session.0) (own_after now entry told)) (sym calm)
      (subst (λ stood. RepresentsSession now.flat (state_by after.txns.states entry.session.0) stood) (sym stands) kept))
      (subst (λ (db : Db). RepresentsItems (held_by after.txns.held entry.session.0) (items_held db.schema (own_after now entry told))) (sym calm)
      (subst (λ stood. RepresentsItems (held_by after.txns.held entry.session.0) (items_held now.flat.schema stood)) (sym stands) holds))
      (λ other differs. record {
        states = rw (undoomed other) (others.states other differs);
        held = rw (undoomed other) (others.held other differs);
      })

  -- a refusal does both
  module _ (why : Refusal) (is : answer (world before.opened history) entry ≡ Refused why) where
    refusal : is_refusal told ≡ true
    refusal = ap is_refusal is

    calm : flat_after now entry told ≡ now.flat
    calm = rw refusal refl

    pub stands-refused : (stood : SessionStanding) → after.version ≡ before.version → after.weighs ≡ before.weighs → AreOthersSame entry.session.0 before.txns after.txns
        → own_after (world before.opened history) entry (answer (world before.opened history) entry) ≡ stood
        → RepresentsSession (world before.opened history).flat (state_by after.txns.states entry.session.0) stood
        → RepresentsItems (held_by after.txns.held entry.session.0) (items_held (world before.opened history).flat.schema stood)
        → RepresentsWorld after (happens (world before.opened history) entry)
    stands-refused stood version weighs others = stands-calm stood version weighs others calm (λ other. refused-dooms now entry told other refusal)

    -- and where its session stands as it did the state is the same
    pub stands-unmoved : after.version ≡ before.version → after.weighs ≡ before.weighs → AreSame before.txns after.txns
        → own_after (world before.opened history) entry (answer (world before.opened history) entry) ≡ (world before.opened history).standing entry.session.0
        → RepresentsWorld after (happens (world before.opened history) entry)
    unfolding held
    stands-unmoved version weighs same stays =
        let now_after = stands-kept before after now version weighs same event.stands in
        stands-refused (now.standing entry.session.0) version weighs (others-same entry.session.0 before.txns after.txns same) stays
        (now_after.states entry.session.0) (now_after.held entry.session.0)
