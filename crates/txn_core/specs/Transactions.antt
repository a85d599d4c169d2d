-- The states of all sessions, and what a statement in one of them makes of it.
use Rattle.std.specs.Prelude.{◌≡◌, ◌≢◌, ◌<◌, ◌++◌, ◌||◌, ℕ, List, [], Bool, false, length, not, Option, None, Some, if◌then◌else◌}
use Rattle.std.specs.List.{AllByRecursion}
use Rattle.own_base.specs.declared.number.Place.{Place}
use Rattle.own_model.specs.declared.bound.Bound.{Bound}
use Rattle.own_model.specs.declared.footprint.FootItem.{FootItem}
use Rattle.own_model.specs.declared.refusal.Refusal.{Refusal}
use Rattle.own_model.specs.declared.refusal.Refusal.TheVariants.{Conflict}
use Rattle.own_model.specs.declared.reply.Reply.{Reply}
use Rattle.own_model.specs.declared.reply.Reply.TheVariants.{Refused}
use Rattle.own_model.specs.declared.schema.Schema.{Schema}
use Rattle.own_model.specs.Db.{Db}
use Rattle.query_model.specs.Footprints.{footprint_of}
use Rattle.subject_model.specs.Get.{table_name}
use Rattle.run_model.specs.Run.{run_bound}
use Rattle.history_model.specs.Held.{Holding}
use Rattle.row_locks.specs.SessionItems.{items_by as held_by}
use Rattle.row_locks.specs.RepresentsItems.{RepresentsItems}
use Rattle.txn_space.specs.declared.entry.Entry.{Entry}
use Rattle.txn_core.specs.declared.session_state.SessionState.{SessionState}
use Rattle.txn_core.specs.declared.session_state.SessionState.TheVariants.{Nothing, Open, Doomed}
use Rattle.txn_core.specs.declared.txn.Txn.{Txn}
use Rattle.txn_core.specs.SessionStates.{IsQuiet, is_select, state_by, once_doomed}
use Rattle.txn_core.specs.Runs.{HasRun}

-- how each session stands, and the items that it holds, both by its number
pub record Transactions : Type 0 where
  pub states : List SessionState
  pub held : List (List FootItem)

-- what an open transaction has changed; nothing where none is open
abbrev pub space_of : SessionState → List (List Entry)
space_of Nothing = []
space_of (Open txn) = txn.space
space_of (Doomed place) = []

-- whether an open transaction has run a write
abbrev pub wrote_of : SessionState → Bool
wrote_of Nothing = false
wrote_of (Open txn) = txn.wrote
wrote_of (Doomed place) = false

-- an open transaction that has run no write has changed nothing
abbrev pub IsQuietState : SessionState → Type 0
IsQuietState Nothing = Unit {0}
IsQuietState (Open txn) = IsQuiet txn
IsQuietState (Doomed place) = Unit {0}

-- the state and the items of each session are the same
pub record AreSame (before after : Transactions) : Type 0 where
  pub states : (session : ℕ) → state_by after.states session ≡ state_by before.states session
  pub held : (session : ℕ) → held_by after.held session ≡ held_by before.held session

-- those of each session but one are the same
pub record AreOthersSame (session : ℕ) (before after : Transactions) : Type 0 where
  pub states : (other : ℕ) → other ≢ session → state_by after.states other ≡ state_by before.states other
  pub held : (other : ℕ) → other ≢ session → held_by after.held other ≡ held_by before.held other

-- those of the session of a number are the same
abbrev pub IsSameOf : ℕ → Transactions → Transactions → Type 0
IsSameOf session before after = (state_by after.states session ≡ state_by before.states session) × (held_by after.held session ≡ held_by before.held session)

-- What a FORGET at a place leaves of a session, by whether it dooms it: a transaction of it is doomed, and it holds nothing.
abbrev pub IsDoomedIf : Bool → Place → ℕ → Transactions → Transactions → Type 0
IsDoomedIf dooms place session before after =
    (state_by after.states session ≡ (if dooms then once_doomed place (state_by before.states session) else state_by before.states session))
    × (held_by after.held session ≡ (if dooms then [] else held_by before.held session))

-- each of these items is of a table that is there
abbrev pub AreItemsOf : Schema → List FootItem → Type 0
AreItemsOf schema items = AllByRecursion (λ item. item.table.0 < length schema.tables) items

-- why a statement is refused in whose way a session stands
abbrev pub conflict_of : Schema → Holding → Refusal
conflict_of schema holding = Conflict (record { 0 = holding.session }) (table_name schema holding.item.table.0) holding.item.key

-- A statement ran in the open transaction of a session, and that holds the rows of its footprint besides.
pub record HasStated (db : Db) (bound : Bound) (session : ℕ) (before after : Transactions) (reply : Reply) : Type 0 where
  pub txn : Txn
  pub open_then : state_by after.states session ≡ Open txn
  pub ran : HasRun db bound (space_of (state_by before.states session)) reply txn.space
  pub quiet : IsQuiet txn
  pub wrote : txn.wrote ≡ (wrote_of (state_by before.states session) || not (is_select bound))
  pub holds : (items : List FootItem) → RepresentsItems (held_by before.held session) items → RepresentsItems (held_by after.held session) (items ++ footprint_of db.schema bound)
  pub others : AreOthersSame session before after

-- What a statement came to, by who stands in its way: it is refused and nothing changes; or it ran.
abbrev pub Stated : Option Holding → Db → Bound → ℕ → Transactions → Transactions → Reply → Type 0
Stated (Some holding) db bound session before after reply = (reply ≡ Refused (conflict_of db.schema holding)) × AreSame before after
Stated None db bound session before after reply = HasStated db bound session before after reply

-- Why a write outside a transaction is refused, by who stands in its way: the conflict; or what it meets as it runs.
abbrev pub IsSingleRefusal : Option Holding → Db → Bound → Refusal → Type 0
IsSingleRefusal (Some holding) db bound why = why ≡ conflict_of db.schema holding
IsSingleRefusal None db bound why = (run_bound db bound).reply ≡ Refused why
