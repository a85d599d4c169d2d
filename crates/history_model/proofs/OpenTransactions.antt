-- What an open transaction was answered and what it writes depend on the rows that it holds alone.
use Rattle.std.proofs.Common.{◌≡◌, ℕ, length, subst}
use Rattle.own_model.specs.Db.{Db}
use Rattle.state_model.specs.Net.{net}
use Rattle.state_model.specs.Sound.{IsWellFormed, Sound}
use Rattle.run_model.specs.Agree.{Agree}
use Rattle.run_model.specs.Items.{items_of_all}
use Rattle.history_model.specs.Held.{held}
use Rattle.history_model.specs.History.{History, flat, standing, world}
use Rattle.history_model.specs.Serial.{AreGiven, IsHistory}
use Rattle.history_model.specs.World.{Block, Open, after_block, statements_of}
use Rattle.history_model.proofs.BlockLemmas.{given-agree}
use Rattle.history_model.proofs.BlockNet as nets
use Rattle.history_model.proofs.EveryHistory.{serial-world}
use Rattle.history_model.proofs.Worlds.{IsOpenBlock, held-open, open-block}

module _ (base : Db) (history : History) (session begun : ℕ) (block : Block) (other : Db) (sound : Sound base) (entered : IsHistory history)
    (opened : standing base history session ≡ Open begun block) (kept_other : IsWellFormed other) (agree : Agree (held (world base history) session) (flat base history) other) where
  own : IsOpenBlock base history (flat base history) session block
  unfolding flat standing
  own = open-block base history (world base history) (serial-world base history sound entered) session begun block opened

  well_formed : IsWellFormed (flat base history)
  unfolding flat
  well_formed = (serial-world base history sound entered).sound.well_formed

  agree_on_items : Agree (items_of_all (flat base history).schema (statements_of block)) (flat base history) other
  unfolding flat standing
  agree_on_items = subst (λ items. Agree items (flat base history) other) (held-open (world base history) session begun block opened) agree

  pub replies-open : AreGiven base history other block
  replies-open = given-agree (length history) base history (flat base history) other block well_formed kept_other own.stated agree_on_items own.given

  pub net-open : net (flat base history) (after_block (flat base history) block) ≡ net other (after_block other block)
  net-open = nets.net-agree (length history) (flat base history) other block well_formed kept_other own.stated agree_on_items
