-- What holds of the world that a history leaves: its database is sound, each open transaction's statements give on it the
-- replies that were given, and no two sessions hold items that overlap.
use Rattle.std.proofs.Common.{◌≡◌, ℕ, ◌≤◌, [], length, true, refl, ap, subst, ◌∙◌}
use Rattle.own_model.specs.declared.limit.TheConstants.{SESSIONS}
use Rattle.own_model.specs.declared.schema.Schema.{Schema}
use Rattle.own_model.specs.Db.{Db}
use Rattle.state_model.specs.Sound.{Sound}
use Rattle.run_model.specs.Items.{items_of_all}
use Rattle.history_model.specs.Held.{held, is_open, items_held}
use Rattle.history_model.specs.History.{History}
use Rattle.history_model.specs.Sentences.{IsOther}
use Rattle.history_model.specs.Serial.{AreGiven}
use Rattle.history_model.specs.World.{Block, SessionStanding, Outside, Open, Doomed, World, statements_of}
use Rattle.history_model.proofs.ApartLemmas.{AreApart}
use Rattle.history_model.proofs.BlockLemmas.{AreOfBlock, items-nil}

-- a transaction of one of the sessions that is open after a history
pub record IsOpenBlock (base : Db) (history : History) (db : Db) (session : ℕ) (block : Block) : Type 0 where
  pub first : 1 ≤ session
  pub last : session ≤ SESSIONS
  pub stated : AreOfBlock (length history) block
  pub given : AreGiven base history db block

abbrev pub IsStanding : Db → History → Db → ℕ → SessionStanding → Type 0
IsStanding base history db session Outside = Unit {0}
IsStanding base history db session (Open begun block) = IsOpenBlock base history db session block
IsStanding base history db session (Doomed by) = Unit {0}

pub record IsSerialWorld (base : Db) (history : History) (world : World) : Type 0 where
  pub sound : Sound world.flat
  pub stands : (session : ℕ) → IsStanding base history world.flat session (world.standing session)
  pub apart : (session other : ℕ) → (session ≡ other → ⊥) → AreApart (held world session) (held world other)
  pub place : world.place ≡ length history

-- what an open transaction holds
pub held-open : (world : World) (session begun : ℕ) (block : Block) → world.standing session ≡ Open begun block
    → held world session ≡ items_of_all world.flat.schema (statements_of block)
unfolding held
held-open world session begun block is = rw is refl

-- what is known of an open transaction
pub open-block : (base : Db) (history : History) (world : World) → IsSerialWorld base history world → (session begun : ℕ) (block : Block)
    → world.standing session ≡ Open begun block → IsOpenBlock base history world.flat session block
open-block base history world is session begun block open' = subst (IsStanding base history world.flat session) open' (is.stands session)

-- a session that stands so holds nothing
abbrev pub HoldsNothing : SessionStanding → Type 0
HoldsNothing Outside = Unit {0}
HoldsNothing (Open begun block) = block ≡ []
HoldsNothing (Doomed by) = Unit {0}

pub items-nothing : (schema : Schema) (standing : SessionStanding) → HoldsNothing standing → items_held schema standing ≡ []
items-nothing schema Outside nothing = refl
items-nothing schema (Open begun block) nothing = ap (λ block. items_of_all schema (statements_of block)) nothing ∙ items-nil schema
items-nothing schema (Doomed by) nothing = refl

pub stands-nothing : (base : Db) (history : History) (db : Db) (session : ℕ) (standing : SessionStanding) → 1 ≤ session → session ≤ SESSIONS → HoldsNothing standing
    → IsStanding base history db session standing
stands-nothing base history db session Outside first last nothing = tt
stands-nothing base history db session (Open begun block) first last nothing =
    record { first = first; last = last; stated = rw nothing tt; given = rw nothing tt }
stands-nothing base history db session (Doomed by) first last nothing = tt

-- another session whose transaction is open is one of the sessions
open_step : (base : Db) (history : History) (db : Db) (session other : ℕ) → (other ≡ session → ⊥) → (standing : SessionStanding) → is_open standing ≡ true
    → IsStanding base history db other standing → IsOther session other
open_step base history db session other differs Outside open' stands = absurd (cc)
open_step base history db session other differs (Open begun block) open' stands = record { first = stands.first; last = stands.last; differs = differs }
open_step base history db session other differs (Doomed by) open' stands = absurd (cc)

pub other-open : (base : Db) (history : History) (world : World) → IsSerialWorld base history world → (session other : ℕ) → (other ≡ session → ⊥)
    → is_open (world.standing other) ≡ true → IsOther session other
other-open base history world is session other differs open' =
    open_step base history world.flat session other differs (world.standing other) open' (is.stands other)
