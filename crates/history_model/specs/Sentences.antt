-- What the definitions of a history say, in sentences that a reader can hold against them.
use Rattle.std.specs.Prelude.{◌≡◌, ℕ, ◌<◌, ◌≤◌, List, None, Some, Contains}
use Rattle.own_model.specs.declared.footprint.FootItem.{FootItem}
use Rattle.own_model.specs.declared.limit.TheConstants.{SESSIONS}
use Rattle.own_model.specs.declared.schema.Schema.{Schema}
use Rattle.run_model.specs.Items.{items_of}
use Rattle.history_model.specs.Held.{Holding, first_overlap, held}
use Rattle.history_model.specs.World.{Block, Stated, World}

-- another session, of those that there are
pub record IsOther (session other : ℕ) : Type 0 where
  pub first : 1 ≤ other
  pub last : other ≤ SESSIONS
  pub differs : other ≡ session → ⊥

-- a session holds an item that overlaps one of the footprint, and this is the first such item of the footprint
abbrev pub StandsInTheWay : World → List FootItem → ℕ → FootItem → Type 0
StandsInTheWay world footprint other item = first_overlap (held world other) footprint ≡ Some item

-- the lowest other session that stands in the way, with the first item in whose way it stands
pub record IsHolder (world : World) (session : ℕ) (footprint : List FootItem) (found : Holding) : Type 0 where
  pub other : IsOther session found.session
  pub stands : StandsInTheWay world footprint found.session found.item
  pub lowest : (lower : ℕ) → IsOther session lower → lower < found.session → first_overlap (held world lower) footprint ≡ None

-- an item of one of a transaction's statements
pub record IsHeldBy (schema : Schema) (block : Block) (item : FootItem) : Type 0 where
  pub stated : Stated
  pub among : Contains block stated
  pub named : Contains (items_of schema stated.statement) item
