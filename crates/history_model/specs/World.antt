-- What is true after some entries of a history.
use Rattle.std.specs.Prelude.{ℕ, List, Option, None, fold, map}
use Rattle.own_model.specs.declared.statement.Statement.{Statement}
use Rattle.own_model.specs.Db.{Db}
use Rattle.run_model.specs.Run.{run}

-- a statement of a transaction, and the place at which it came
pub record Stated : Type 0 where
  pub place : ℕ
  pub statement : Statement

-- the statements that a transaction has run, in their order
abbrev pub Block : Type 0
Block = List Stated

-- How a session stands: outside any transaction; in one that began at a place, with its block; or in none, since a FORGET at
-- a place ended its transaction, which it hasn't been told.
pub data SessionStanding : Type 0 where
  Outside : SessionStanding
  Open : ℕ → Block → SessionStanding
  Doomed : ℕ → SessionStanding

-- How many entries there are, the one flat database, how each session stands, and the place at which the disk failed.
pub record World : Type 0 where
  pub place : ℕ
  pub flat : Db
  pub standing : ℕ → SessionStanding
  pub down : Option ℕ

-- before any entry
abbrev pub start : Db → World
start base = record { place = 0; flat = base; standing = λ session. Outside; down = None }

-- the database that statements leave, one after another
unfoldable pub after_all : Db → List Statement → Db
after_all db statements = fold (λ before statement. (run before statement).db) db statements

-- the statements of a block, and the database that it leaves
abbrev pub statements_of : Block → List Statement
statements_of block = map (λ stated. stated.statement) block

abbrev pub after_block : Db → Block → Db
after_block db block = after_all db (statements_of block)
