-- What a transaction that has read one row by its key replies, holds and leaves.
use Prim.Native.String.{String}
use Rattle.std.proofs.Common.{◌≡◌, ◌∙◌, ℕ, List, [], ◌∷◌, ◌++◌, false, None, ap, refl}
use Rattle.own_base.specs.declared.number.TableNo.{TableNo}
use Rattle.own_model.specs.declared.bound.Bound.TheVariants as bound
use Rattle.own_model.specs.declared.bound.Source1.TheVariants as source
use Rattle.own_model.specs.declared.footprint.FootItem.{FootItem}
use Rattle.own_model.specs.declared.history.Verdict.TheVariants.{Took}
use Rattle.own_model.specs.declared.reply.Reply.TheVariants.{Done}
use Rattle.own_model.specs.declared.request.Request.TheVariants.{Run}
use Rattle.own_model.specs.Db.{Row}
use Rattle.query_model.specs.Footprints.{footprint_of, item, key_column, pinned_step}
use Rattle.query_model.specs.Query.{reply_of}
use Rattle.query_model.specs.SelectMeaning.{source_of}
use Rattle.history_model.specs.Held.{held, holder}
use Rattle.history_model.specs.History.{after_reply, left_by}
use Rattle.history_model.specs.Reply.{answer, commit_reply}
use Rattle.history_model.specs.World.{Block, Open, World, after_all, after_block}
use Rattle.history_tests.specs.Written.{commit, select_key}
use Rattle.history_tests.proofs.KeyedSelect.{IsRight, bound_as, bound_is, items_are, meant, rows_shown, runs, wanted}
use Rattle.history_tests.proofs.Steps.{answer_in, call_of, held_one, read_inside}

-- A session has begun a transaction, and reads a row that nobody else holds.
pub record Reads (world : World) (session begun : ℕ) (table : String) (number : ℕ) (shown : List Row) : Type 0 where
  pub up : world.down ≡ None
  pub stands : world.standing session ≡ Open begun []
  pub right : IsRight world.flat.schema table number
  pub free : holder world session (footprint_of world.flat.schema (bound.Select (meant world.flat.schema table number))) ≡ None
  pub rows : rows_shown world.flat table number ≡ shown

pub read_is : {world : World} {session begun : ℕ} {table : String} {number : ℕ} {shown : List Row} (call : ℕ) → Reads world session begun table number shown
    → answer world (call_of session call (select_key table number)) ≡ reply_of shown
unfolding after_all
read_is {world = world} {session = session} {begun = begun} {table = table} {number = number} call reads =
    read_inside world session call begun [] (wanted table number) (bound.Select (meant world.flat.schema table number)) world.flat
    reads.up reads.stands refl (bound_is world.flat.schema table number reads.right) reads.free
    ∙ ap (λ outcome. outcome.reply) (runs world.flat table number reads.right) ∙ ap reply_of reads.rows

-- the block of a transaction that has read one row
abbrev pub one_read : ℕ → String → ℕ → Block
one_read place table number = record { place = place; statement = select_key table number } ∷ []

-- A session has read a row of the table of a number, and nothing else.
pub record HasRead (world : World) (session begun place : ℕ) (table : String) (number : ℕ) (at : TableNo) : Type 0 where
  pub up : world.down ≡ None
  pub stands : world.standing session ≡ Open begun (one_read place table number)
  pub right : IsRight world.flat.schema table number
  pub source : source_of world.flat.schema (wanted table number) ≡ source.Table at

-- it holds that row
abbrev pub read_footprint : World → String → ℕ → TableNo → List FootItem
read_footprint world table number at = item at (pinned_step (key_column world.flat.schema at) (bound_as world.flat.schema table number)).whole false ∷ []

abbrev pub read_item : World → String → ℕ → TableNo → List FootItem
read_item world table number at = read_footprint world table number at ++ []

pub holds_read : {world : World} {session begun place : ℕ} {table : String} {number : ℕ} {at : TableNo} → HasRead world session begun place table number at
    → held world session ≡ read_item world table number at
holds_read {world = world} {session = session} {begun = begun} {place = place} {table = table} {number = number} {at = at} read =
    held_one world session begun place (select_key table number) _ read.stands (items_are world.flat.schema table number at read.right read.source)

-- its COMMIT changes nothing
left_unchanged : {world : World} {session begun place : ℕ} {table : String} {number : ℕ} {at : TableNo} → HasRead world session begun place table number at
    → after_block world.flat (one_read place table number) ≡ world.flat
unfolding after_all
left_unchanged {world = world} {table = table} {number = number} read = ap (λ outcome. outcome.db) (runs world.flat table number read.right)

pub commit_is : {world : World} {session begun place : ℕ} {table : String} {number : ℕ} {at : TableNo} (call : ℕ) → HasRead world session begun place table number at
    → answer world (call_of session call commit) ≡ commit_reply Took world.flat world.flat
commit_is {world = world} {session = session} {begun = begun} {place = place} {table = table} {number = number} call read =
    answer_in world (call_of session call commit) (Open begun (one_read place table number)) read.up read.stands
    ∙ ap (commit_reply Took world.flat) (left_unchanged read)

pub commit_leaves : {world : World} {session begun place : ℕ} {table : String} {number : ℕ} {at : TableNo} (call : ℕ) → HasRead world session begun place table number at
    → (after_reply world (call_of session call commit) Done).flat ≡ world.flat
commit_leaves {world = world} {begun = begun} {place = place} {table = table} {number = number} call read =
    ap (λ standing. left_by world.flat standing (Run commit)) read.stands ∙ left_unchanged read
