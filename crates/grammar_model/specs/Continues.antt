-- How far a text's terminals begin a statement, and where they stop.
use Rattle.std.specs.Prelude.{◌≡◌, ℕ, suc, [], take, None, Some}
use Rattle.own_base.specs.declared.text.TheConstants.{NAME_BYTES}
use Rattle.own_model.specs.declared.limit.LimitName.{LimitName}
use Rattle.own_model.specs.declared.limit.LimitName.TheVariants as limit
use Rattle.own_model.specs.declared.limit.TheConstants.{TEXT_BYTES, SELECT_ITEMS, NESTING_LEVELS}
use Rattle.own_model.specs.declared.statement.Statement.{Statement}
use Rattle.grammar_model.specs.Grammar.{statement}
use Rattle.grammar_model.specs.Limits.{Limits, store_limits, no_limits}
use Rattle.grammar_model.specs.Terminal.{Terminals}

-- some statement is written with the same first terminals, that many of them; past the last terminal: with these and
-- no more
pub record Continues (limits : Limits) (levels : ℕ) (terminals : Terminals) (count : ℕ) : Type 0 where
  pub found : Statement
  pub spelling : Terminals
  pub spells : statement limits levels found spelling []
  pub same : take count spelling ≡ take count terminals

-- no statement is written with these terminals
abbrev pub IsNone : Terminals → Type 0
IsNone terminals = (found : Statement) → statement store_limits NESTING_LEVELS found terminals [] → ⊥

-- the terminal at which no statement continues, whatever the limits
pub record IsSyntaxAt (terminals : Terminals) (at : ℕ) : Type 0 where
  pub none : IsNone terminals
  pub before : Continues store_limits NESTING_LEVELS terminals at
  pub ends : (levels : ℕ) → Continues no_limits levels terminals (suc at) → ⊥

-- the limits without all but this one, which for levels is no part of them
abbrev pub only : LimitName → Limits
only limit.Name = record { name = Some NAME_BYTES; text = None; items = None }
only limit.Text = record { name = None; text = Some TEXT_BYTES; items = None }
only limit.Items = record { name = None; text = None; items = Some SELECT_ITEMS }
only _ = no_limits

-- The terminal at which this limit alone lets no statement continue, where one would without limits. Where two limits
-- meet, a name that is too long in the place of an item too many, it is that of items.
pub record IsLimitAt (name : LimitName) (terminals : Terminals) (at : ℕ) : Type 0 where
  pub none : IsNone terminals
  pub before : Continues store_limits NESTING_LEVELS terminals at
  pub ends : (levels : ℕ) → (name ≡ limit.Nesting → levels ≡ NESTING_LEVELS) → Continues (only name) levels terminals (suc at) → ⊥
  pub goes_on : (levels : ℕ) × Continues no_limits levels terminals (suc at)
  pub not_items : name ≡ limit.Name → (levels : ℕ) × Continues (only limit.Items) levels terminals (suc at)
