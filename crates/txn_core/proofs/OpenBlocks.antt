-- What the open transactions of a history changed represents their blocks.
use Rattle.std.proofs.Common.{◌≡◌, ℕ, List, [], ◌∷◌, ◌++◌, length, ap, subst, sym, true, ◌∙◌}
use Rattle.std.specs.Prelude.{Ok}
use Rattle.own_base.specs.declared.change.Change.{Change}
use Rattle.own_model.specs.declared.bound.Bound.{Bound}
use Rattle.own_model.specs.declared.history.Entry.{Entry as Event}
use Rattle.own_model.specs.declared.reply.Reply.{Reply}
use Rattle.own_model.specs.declared.schema.Schema.{Schema}
use Rattle.own_model.specs.Db.{Db, IsOrdered}
use Rattle.schema_model.proofs.Places.{all-append}
use Rattle.query_model.specs.BoundStatement.{bound_statement}
use Rattle.state_model.specs.Net.{net, net_from}
use Rattle.state_model.specs.Put.{put}
use Rattle.state_model.specs.Rows.{AreRowsOf}
use Rattle.state_model.specs.Sound.{Sound}
use Rattle.state_model.proofs.NetLeads.{net_put}
use Rattle.run_model.specs.Agree.{Agree}
use Rattle.run_model.specs.Items.{TakesRows, items_of_all}
use Rattle.run_model.specs.Run.{run}
use Rattle.history_model.specs.Held.{held, is_open}
use Rattle.history_model.specs.History.{History, flat, standing, world}
use Rattle.history_model.specs.Serial.{IsEntry, IsHistory}
use Rattle.history_model.specs.World.{Block, Open, Stated, after_block, statements_of}
use Rattle.history_model.proofs.BlockLemmas.{kept-block, schema-block}
use Rattle.history_model.proofs.EveryHistory.{held-history, serial-world}
use Rattle.history_model.proofs.Worlds.{IsOpenBlock, held-open, open-block}
use Rattle.txn_space.specs.declared.entry.Entry.{Entry}
use Rattle.txn_space.specs.Changed.{changed_db, changed_rows}
use Rattle.txn_core.specs.Runs.{HasRun}
use Rattle.txn_core.specs.RepresentsBlock.{RepresentsBlock}
use Rattle.txn_core.proofs.Elsewhere.{represents_there}
use Rattle.txn_core.proofs.SoundBases.{base-sound}
use Rattle.txn_core.proofs.RepresentsLemmas.{reply_ran, represents_ran}

module _ (base : Db) (history : History) (sound : Sound base) (entered : IsHistory history) where
  -- the flat database is sound
  pub sound_flat : Sound (flat base history)
  unfolding flat
  sound_flat = (serial-world base history sound entered).sound

  module _ (session begun : ℕ) (block : Block) (opened : standing base history session ≡ Open begun block) (space : List (List Entry)) (stands : RepresentsBlock (flat base history) block space) where
    own : IsOpenBlock base history (flat base history) session block
    unfolding flat standing
    own = open-block base history (world base history) (serial-world base history sound entered) session begun block opened

    on_items : (other : Db) → Agree (held (world base history) session) (flat base history) other → Agree (items_of_all (flat base history).schema (statements_of block)) (flat base history) other
    unfolding flat standing
    on_items other agree = subst (λ items. Agree items (flat base history) other) (held-open (world base history) session begun block opened) agree

    -- on each sound database that is the same on the rows that the transaction holds
    pub represents_elsewhere : (other : Db) → Sound other → Agree (held (world base history) session) (flat base history) other → RepresentsBlock other block space
    represents_elsewhere other sound_other agree =
        represents_there (length history) (flat base history) other block sound_flat.well_formed sound_other.well_formed (base-sound (flat base history) sound_flat) (base-sound other sound_other)
        own.stated (on_items other agree) space stands

    -- and with a statement more
    pub represents_more : (last : Stated) (bound : Bound) (reply : Reply) (after : List (List Entry)) → TakesRows last.statement → bound_statement (flat base history).schema last.statement ≡ Ok bound
        → HasRun (flat base history) bound space reply after
        → ((run (after_block (flat base history) block) last.statement).reply ≡ reply) × RepresentsBlock (flat base history) (block ++ last ∷ []) after
    represents_more last bound reply after takes is ran = (
      reply_ran (length history) (flat base history) block space own.stated stands last takes bound is reply after ran,
      represents_ran (length history) (flat base history) block space own.stated stands last takes bound is reply after ran,
    )

    -- the schema that the block leaves is that of the database
    schema_left : (after_block (flat base history) block).schema ≡ (flat base history).schema
    schema_left = schema-block (length history) (flat base history) block own.stated

    -- the rows that the changes show may stand in their tables
    pub rows_shown : AreRowsOf (flat base history).schema.tables (changed_rows (flat base history).schema.tables (flat base history).rows space)
    rows_shown =
        subst (λ rows. AreRowsOf (flat base history).schema.tables rows) (sym stands.rows)
        (subst (λ (schema : Schema). AreRowsOf schema.tables (after_block (flat base history) block).rows) schema_left
        (kept-block (length history) (flat base history) block sound_flat.well_formed own.stated).rows)

    net_same : net (flat base history) (changed_db (flat base history) space) ≡ net (flat base history) (after_block (flat base history) block)
    unfolding net
    net_same =
        ap (λ rows. net_from 0 (flat base history).schema.tables (flat base history).rows rows) stands.rows
        ∙ ap (λ (schema : Schema). net_from 0 schema.tables (flat base history).rows (after_block (flat base history) block).rows) (sym schema_left)

    left_ordered : IsOrdered (after_block (flat base history) block)
    left_ordered = (kept-block (length history) (flat base history) block sound_flat.well_formed own.stated).ordered

    -- and their net is that of the block
    pub net_block : (changes : List Change)
        → changes ≡ net (flat base history) (changed_db (flat base history) space)
        → (changes ≡ net (flat base history) (after_block (flat base history) block)) × ((put (flat base history) changes).rows ≡ (after_block (flat base history) block).rows)
    net_block changes is =
        let all = is ∙ net_same in
        (all, ap (λ changes. (put (flat base history) changes).rows) all ∙ net_put (flat base history) (after_block (flat base history) block) sound_flat.well_formed.ordered left_ordered schema_left)

-- so behind each entry that leaves the transaction open
pub represents_behind : (base : Db) (history : History) (event : Event) (session begun : ℕ) (block : Block) (space : List (List Entry)) → Sound base → IsHistory history → IsEntry event
    → standing base history session ≡ Open begun block → is_open (standing base (history ++ event ∷ []) session) ≡ true
    → RepresentsBlock (flat base history) block space → RepresentsBlock (flat base (history ++ event ∷ [])) block space
represents_behind base history event session begun block space sound entered is_entry opened stays stands =
    represents_elsewhere base history sound entered session begun block opened space stands (flat base (history ++ event ∷ []))
    (sound_flat base (history ++ event ∷ []) sound (all-append IsEntry history (event ∷ []) entered (is_entry, tt)))
    (held-history base history event sound entered is_entry session stays)
