-- The statements of a transaction: what they reply and write depends on the rows of their items alone.
use Rattle.std.proofs.Common.{◌≡◌, ℕ, ◌<◌, ◌≤◌, [], ◌∷◌, ◌++◌, false, refl, ap, ◌∙◌, arith}
use Rattle.std.specs.Prelude.{Some, length}
use Rattle.std.specs.List.{AllByRecursion, list_any}
use Rattle.std.proofs.lemmas.List.{append-nil, map-append}
use Rattle.std.proofs.lemmas.List.Concat.{flat_map-append}
use Rattle.std.proofs.lemmas.List.Sums.{fold-append}
use Rattle.own_model.specs.declared.footprint.FootItem.{FootItem}
use Rattle.own_model.specs.declared.limit.TheConstants.{STATEMENT_BYTES}
use Rattle.own_model.specs.declared.schema.Schema.{Schema}
use Rattle.own_model.specs.declared.statement.Statement.{Statement}
use Rattle.own_model.specs.Db.{Db}
use Rattle.schema_model.proofs.Places.{all-weaker}
use Rattle.grammar_model.specs.Readable.{IsWritten}
use Rattle.state_model.specs.Sound.{IsWellFormed}
use Rattle.run_model.specs.Agree.{Agree, AgreeOn, overlaps}
use Rattle.run_model.specs.Items.{TakesRows, items_of, items_of_all}
use Rattle.run_model.specs.Run.{run}
use Rattle.run_model.proofs.BlockFootprints as footprints
use Rattle.run_model.proofs.BlockFootprints.{block_replies}
use Rattle.run_model.proofs.KeptRuns.{kept-run}
use Rattle.history_model.specs.History.{History, reply}
use Rattle.history_model.specs.Serial.{AreGiven}
use Rattle.history_model.specs.World.{Block, Stated, after_all, after_block, statements_of}
use Rattle.history_model.proofs.HistoryLemmas.{reply-append}

-- a statement that the grammar gives, one of the four that take rows
pub record IsTaking (asked : Statement) : Type 0 where
  pub readable : IsWritten STATEMENT_BYTES asked
  pub takes : TakesRows asked

-- a statement of a block, which came before
pub record IsOfBlock (places : ℕ) (stated : Stated) : Type 0 where
  pub taking : IsTaking stated.statement
  pub before : stated.place < places

abbrev pub AreOfBlock : ℕ → Block → Type 0
AreOfBlock places block = AllByRecursion (IsOfBlock places) block

-- a block of a shorter history is one of a longer
pub later-of_block : (places more : ℕ) → places ≤ more → (block : Block) → AreOfBlock places block → AreOfBlock more block
later-of_block places more le = all-weaker (IsOfBlock places) (IsOfBlock more) (λ stated is. record { taking = is.taking; before = let lt = is.before in omega arith })

-- no statement
pub items-nil : (schema : Schema) → items_of_all schema (statements_of []) ≡ []
unfolding items_of_all
items-nil schema = refl

-- the others, and then the last statement
pub after-push : (db : Db) (block : Block) (last : Stated) → after_block db (block ++ last ∷ []) ≡ (run (after_block db block) last.statement).db
unfolding after_all
after-push db block last =
    ap (λ statements. after_all db statements) (map-append (λ (stated : Stated). stated.statement) block (last ∷ []))
    ∙ fold-append (λ before statement. (run before statement).db) db (statements_of block) (last.statement ∷ [])

pub items-push : (schema : Schema) (block : Block) (last : Stated)
    → items_of_all schema (statements_of (block ++ last ∷ [])) ≡ items_of_all schema (statements_of block) ++ items_of schema last.statement
unfolding items_of_all
items-push schema block last =
    ap (λ statements. items_of_all schema statements) (map-append (λ (stated : Stated). stated.statement) block (last ∷ []))
    ∙ (flat_map-append (items_of schema) (statements_of block) (last.statement ∷ [])
    ∙ ap (λ more. items_of_all schema (statements_of block) ++ more) (append-nil (items_of schema last.statement)))

module _ (base : Db) (history : History) where
  -- replies that were given stay given
  pub given-later : (more : History) (db : Db) (block : Block) → AreOfBlock (length history) block → AreGiven base history db block
      → AreGiven base (history ++ more) db block
  given-later more db [] are given = tt
  given-later more db (stated ∷ block) are given =
      (reply-append base history more stated.place are.0.before ∙ given.0, given-later more (run db stated.statement).db block are.1 given.1)

  -- and so does one more, whose reply was given
  pub given-push : (db : Db) (block : Block) (last : Stated) → AreGiven base history db block
      → reply base history last.place ≡ Some (run (after_block db block) last.statement).reply → AreGiven base history db (block ++ last ∷ [])
  unfolding after_all
  given-push db [] last given more = (more, tt)
  given-push db (stated ∷ block) last given more = (given.0, given-push (run db stated.statement).db block last given.1 more)

module _ (places : ℕ) where
  taking_each : (block : Block) → AreOfBlock places block → AllByRecursion IsTaking (statements_of block)
  taking_each [] are = tt
  taking_each (stated ∷ block) are = (are.0.taking, taking_each block are.1)

  takes : (asked : Statement) → IsTaking asked → TakesRows asked
  takes asked is = is.takes

  keeps : (db : Db) (asked : Statement) → IsTaking asked → IsWellFormed db → IsWellFormed (run db asked).db
  keeps db asked is kept = kept-run db kept asked is.readable

  -- a block leaves a kept database
  pub kept-block : (db : Db) (block : Block) → IsWellFormed db → AreOfBlock places block → IsWellFormed (after_block db block)
  unfolding after_all
  kept-block db block kept are = footprints.kept-block IsTaking takes keeps db (statements_of block) (taking_each block are) kept

  -- of the same schema
  pub schema-block : (db : Db) (block : Block) → AreOfBlock places block → (after_block db block).schema ≡ db.schema
  unfolding after_all
  schema-block db block are = (footprints.same_schema-block IsTaking takes keeps db (statements_of block) (taking_each block are)).schema

  -- and of the same creates
  pub creates-block : (db : Db) (block : Block) → AreOfBlock places block → (after_block db block).creates ≡ db.creates
  unfolding after_all
  creates-block db block are = (footprints.same_schema-block IsTaking takes keeps db (statements_of block) (taking_each block are)).creates

  -- an item that no item of a block overlaps keeps its rows
  pub still-block : (db : Db) (block : Block) → IsWellFormed db → AreOfBlock places block → (item : FootItem)
      → list_any (λ own. overlaps own item) (items_of_all db.schema (statements_of block)) ≡ false → AgreeOn db (after_block db block) item
  unfolding after_all
  still-block db block kept are = footprints.still-block IsTaking takes keeps db (statements_of block) (taking_each block are) kept

  given_replies : (base : Db) (history : History) (db other : Db) (block : Block) → block_replies db (statements_of block) ≡ block_replies other (statements_of block)
      → AreGiven base history db block → AreGiven base history other block
  given_replies base history db other [] same given = tt
  given_replies base history db other (stated ∷ block) same given =
      let first : (run db stated.statement).reply ≡ (run other stated.statement).reply = cc in
      (given.0 ∙ ap Some first, given_replies base history (run db stated.statement).db (run other stated.statement).db block (cc) given.1)

  -- a block's replies are the same where the rows of its items are
  pub given-agree : (base : Db) (history : History) (db other : Db) (block : Block) → IsWellFormed db → IsWellFormed other → AreOfBlock places block
      → Agree (items_of_all db.schema (statements_of block)) db other → AreGiven base history db block → AreGiven base history other block
  given-agree base history db other block kept kept_other are agree =
      given_replies base history db other block (footprints.same_replies-block IsTaking takes keeps (statements_of block) db other (taking_each block are) kept kept_other agree)

  -- and the databases that it leaves agree on each item on which they agreed before
  pub carries-block : (db other : Db) (block : Block) → IsWellFormed db → IsWellFormed other → AreOfBlock places block → Agree (items_of_all db.schema (statements_of block)) db other
      → (item : FootItem) → AgreeOn db other item → AgreeOn (after_block db block) (after_block other block) item
  unfolding after_all
  carries-block db other block kept kept_other are agree =
      footprints.same_left-block IsTaking takes keeps (statements_of block) db other (taking_each block are) kept kept_other agree
