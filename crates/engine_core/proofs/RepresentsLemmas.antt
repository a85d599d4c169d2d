-- The state that an engine keeps, before any entry and with one more.
use Rattle.std.proofs.Common.{◌≡◌, ◌<◌, ◌≤◌, ℕ, [], refl, subst, sym}
use Rattle.own_base.specs.declared.number.Area.{Area}
use Rattle.own_model.specs.declared.history.Entry.{Entry}
use Rattle.own_model.specs.Db.{Db}
use Rattle.state_model.specs.Weight.{weight}
use Rattle.history_model.specs.Held.{held}
use Rattle.history_model.specs.History.{History, flat, standing, world}
use Rattle.history_model.specs.MayBeUnmade.{MayBeUnmadeFrom}
use Rattle.history_model.specs.World.{Outside}
use Rattle.history_model.proofs.HistoryLemmas.{world-empty}
use Rattle.row_locks.specs.SessionItems.{items_by as held_by}
use Rattle.row_locks.specs.RepresentsItems.{RepresentsItems}
use Rattle.row_locks.proofs.Holders.{stand-same}
use Rattle.store_disk.specs.declared.store_disk.StoreDisk.{StoreDisk}
use Rattle.txn_core.specs.declared.session_state.SessionState.TheVariants as kept
use Rattle.txn_core.specs.SessionStates.{RepresentsSession, state_by}
use Rattle.crash_model.specs.Room.{JournalEnd}
use Rattle.engine_core.specs.Seen.{LeavesUnmade}
use Rattle.engine_core.specs.RepresentsWorld.{RepresentsWorld}
use Rattle.engine_core.specs.declared.state.State.{State}

-- before any entry
pub stands-none : (state : State) (base : Db) → state.version ≡ base → weight state.version ≡ state.weighs → ((session : ℕ) → state_by state.txns.states session ≡ kept.Nothing)
    → ((session : ℕ) → held_by state.txns.held session ≡ []) → RepresentsWorld state (world base [])
unfolding held
stands-none state base version weighs nothing free =
    subst (RepresentsWorld state) (sym (world-empty base)) (record {
      flat = version;
      weighs = weighs;
      states = λ session. subst (λ one. RepresentsSession base one Outside) (sym (nothing session)) tt;
      held = λ session. subst (λ items. RepresentsItems items []) (sym (free session)) (stand-same []);
    })

-- memory kept a call from being made
may_of : (base : Db) (history : History) (entry : Entry) → MayBeUnmadeFrom (world base history).flat.schema ((world base history).standing entry.session.0) entry.request
    → MayBeUnmadeFrom (flat base history).schema (standing base history entry.session.0) entry.request
unfolding flat standing
may_of base history entry may = may

pub leaves-of : {D : Type 0} (base : Db) (start : ℕ) (area : Area) (at : JournalEnd) (opening : D) (before after : History) (spare spare_after : ℕ) (store store_after : StoreDisk D) (unmade : Entry)
    → after ≡ before → spare ≤ spare_after → store_after ≡ store
    → (0 < spare → MayBeUnmadeFrom (world base before).flat.schema ((world base before).standing unmade.session.0) unmade.request)
    → LeavesUnmade (record { base = base; start = start; area = area; journal = at; opening = opening; history = before; spare = spare; store = store }) (record { base = base; start = start; area = area; journal = at; opening = opening; history = after; spare = spare_after; store = store_after }) unmade
leaves-of base start area at opening before after spare spare_after store store_after unmade same room still may = record {
  history = same;
  spare = room;
  store = still;
  base = refl;
  start = refl;
  area = refl;
  journal = refl;
  opening = refl;
  spared = λ some. may_of base before unmade (may some);
}
