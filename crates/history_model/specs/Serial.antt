-- What holds at every place of a history.
use Rattle.std.specs.Prelude.{◌≡◌, ℕ, ◌≤◌, [], ◌∷◌, Some, length, take}
use Rattle.std.specs.List.{AllByRecursion}
use Rattle.own_model.specs.declared.history.Entry.{Entry}
use Rattle.own_model.specs.declared.limit.TheConstants.{SESSIONS}
use Rattle.own_model.specs.Db.{Db}
use Rattle.grammar_model.specs.Readable.{IsReadable}
use Rattle.state_model.specs.Sound.{Sound}
use Rattle.run_model.specs.Run.{run}
use Rattle.history_model.specs.History.{History, flat, reply, standing}
use Rattle.history_model.specs.World.{Block, Open}

-- an entry of one of the sessions, whose request a call's text or a session's end can give
pub record IsEntry (entry : Entry) : Type 0 where
  pub readable : IsReadable entry.request
  pub first : 1 ≤ entry.session.0
  pub last : entry.session.0 ≤ SESSIONS

-- a history of such entries, in whatever order the sessions' calls come
abbrev pub IsHistory : History → Type 0
IsHistory history = AllByRecursion IsEntry history

-- a transaction's statements, run one after another on a database, give the replies that the history gave at their places
abbrev pub AreGiven : Db → History → Db → Block → Type 0
AreGiven base history db [] = Unit {0}
AreGiven base history db (stated ∷ block) =
    (reply base history stated.place ≡ Some (run db stated.statement).reply) × AreGiven base history (run db stated.statement).db block

-- At each place up to the history's length the flat database is sound; and a transaction that is open there, run whole on
-- that database, gives the replies that were given. So one that commits there is as one that ran alone at its commit.
pub record Serial (base : Db) (history : History) : Type 0 where
  pub sound : (place : ℕ) → place ≤ length history → Sound (flat base (take place history))
  pub whole : (place session begun : ℕ) (block : Block) → place ≤ length history
      → standing base (take place history) session ≡ Open begun block → AreGiven base history (flat base (take place history)) block
