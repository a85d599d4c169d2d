-- What an open transaction has changed represents its block, and for it with one statement more.
use Rattle.std.proofs.Common.{◌≡◌, ◌∙◌, ℕ, List, [], ◌∷◌, ◌++◌, Bool, true, false, Some, ap, inl, inr, refl, sym}
use Rattle.std.specs.Prelude.{Ok, Err}
use Rattle.std.specs.List.{list_any}
use Rattle.std.proofs.lemmas.Bool.{or_left, or_right}
use Rattle.std.proofs.lemmas.List.Folds.{list_any-append}
use Rattle.own_base.specs.declared.row_name.RowName.{RowName}
use Rattle.own_model.specs.declared.bound.Bound.{Bound}
use Rattle.own_model.specs.declared.footprint.FootItem.{FootItem}
use Rattle.own_model.specs.declared.refusal.Refusal.{Refusal}
use Rattle.own_model.specs.declared.reply.Reply.{Reply}
use Rattle.own_model.specs.declared.statement.Statement.{Statement}
use Rattle.own_model.specs.Db.{Db}
use Rattle.page_model.specs.Found.{found}
use Rattle.query_model.specs.BoundStatement.{bound_statement}
use Rattle.query_model.specs.Footprints.{footprint_of, item}
use Rattle.run_model.specs.Agree.{overlaps}
use Rattle.run_model.specs.Items.{TakesRows, items_of, items_of_all}
use Rattle.run_model.specs.Run.{Outcome, run, run_bound, run_unless}
use Rattle.run_model.proofs.StatementFootprints.{items_bound, run_bound_of}
use Rattle.state_model.specs.Sound.{IsWellFormed}
use Rattle.txn_space.specs.declared.entry.Entry.{Entry}
use Rattle.txn_space.proofs.SoundLemmas.{none_sound}
use Rattle.history_model.specs.World.{Block, Stated, after_all, after_block, statements_of}
use Rattle.history_model.proofs.BlockLemmas.{AreOfBlock, after-push, creates-block, items-push, schema-block}
use Rattle.txn_space.specs.Changed.{changed_db}
use Rattle.txn_space.proofs.OverLemmas.{changed_none}
use Rattle.txn_core.specs.Runs.{HasRun, is_entered, is_written}
use Rattle.txn_core.specs.RepresentsBlock.{RepresentsBlock}

-- what passes in one part of a list, passes in it
any_front : {X : Type 0} (p : X → Bool) (xs ys : List X) → list_any p xs ≡ true → list_any p (xs ++ ys) ≡ true
any_front p xs ys some = list_any-append p xs ys ∙ or_left (list_any p xs) (list_any p ys) some

any_back : {X : Type 0} (p : X → Bool) (xs ys : List X) → list_any p ys ≡ true → list_any p (xs ++ ys) ≡ true
any_back p xs ys some = list_any-append p xs ys ∙ or_right (list_any p xs) (list_any p ys) some

-- one of the four does what it means, and nothing where binding refuses it
run_meant : (db : Db) (asked : Statement) (bound : Bound) → TakesRows asked → bound_statement db.schema asked ≡ Ok bound → run db asked ≡ run_bound db bound
run_meant db asked bound takes is = run_bound_of db asked takes ∙ ap (run_unless db) is

run_unbound : (db : Db) (asked : Statement) (why : Refusal) → TakesRows asked → bound_statement db.schema asked ≡ Err why → (run db asked).db ≡ db
run_unbound db asked why takes is = ap (λ (outcome : Outcome). outcome.db) (run_bound_of db asked takes ∙ ap (run_unless db) is)

-- One statement more of an open transaction
module _ (places : ℕ) (flat : Db) (block : Block) (space : List (List Entry)) (are : AreOfBlock places block) (stands : RepresentsBlock flat block space) (last : Stated) (takes : TakesRows last.statement) where
  abbrev left : Db
  left = after_block flat block

  abbrev items : List FootItem
  items = items_of_all flat.schema (statements_of block)

  abbrev items_then : List FootItem
  items_then = items_of_all flat.schema (statements_of (block ++ last ∷ []))

  pub schema_left : left.schema ≡ flat.schema
  schema_left = schema-block places flat block are

  still_written : (name : RowName) → is_written items name ≡ true → is_written items_then name ≡ true
  still_written name meets =
      ap (λ items. is_written items name) (items-push flat.schema block last)
      ∙ any_front (λ own. overlaps own (item name.table (Some name.key) false)) items (items_of flat.schema last.statement) meets

  module _ (bound : Bound) (is : bound_statement flat.schema last.statement ≡ Ok bound) (reply : Reply) (after : List (List Entry))
      (ran : HasRun flat bound space reply after) where
    -- what the transaction sees is what its block leaves
    seen_left : changed_db flat space ≡ left
    seen_left = λ i. record { creates = sym (creates-block places flat block are) i; schema = sym schema_left i; rows = stands.rows i }

    runs : run left last.statement ≡ run_bound left bound
    runs = run_meant left last.statement bound takes (ap (λ schema. bound_statement schema last.statement) schema_left ∙ is)

    -- its reply is that of the statement behind the block
    pub reply_ran : (run left last.statement).reply ≡ reply
    reply_ran =
        ap (λ (outcome : Outcome). outcome.reply) runs
        ∙ (ap (λ db. (run_bound db bound).reply) (sym seen_left) ∙ ran.told)

    now_written : (name : RowName) → is_written (footprint_of flat.schema bound) name ≡ true → is_written items_then name ≡ true
    now_written name meets =
        ap (λ items. is_written items name) (items-push flat.schema block last)
        ∙ any_back (λ own. overlaps own (item name.table (Some name.key) false)) items (items_of flat.schema last.statement)
        (ap (λ items. is_written items name) (items_bound flat.schema last.statement bound is) ∙ meets)

    -- and what was changed represents the block with it
    pub represents_ran : RepresentsBlock flat (block ++ last ∷ []) after
    represents_ran = record {
      sound = ran.sound;
      rows =
          ran.rows
          ∙ (ap (λ db. (run_bound db bound).db.rows) seen_left
          ∙ (ap (λ (outcome : Outcome). outcome.db.rows) (sym runs) ∙ ap (λ (db : Db). db.rows) (sym (after-push flat block last))));
      within = λ name entered. elim (ran.within name entered) [
        | inl before ↦ still_written name (stands.within name before)
        | inr meets ↦ now_written name meets
      ];
    }

  -- A statement that binding refuses leaves what was changed.
  pub represents_unbound : (why : Refusal) → bound_statement flat.schema last.statement ≡ Err why → RepresentsBlock flat (block ++ last ∷ []) space
  represents_unbound why is =
      let same = run_unbound left last.statement why takes (ap (λ schema. bound_statement schema last.statement) schema_left ∙ is) in
      record {
        sound = stands.sound;
        rows = stands.rows ∙ ap (λ (db : Db). db.rows) (sym same ∙ sym (after-push flat block last));
        within = λ name entered. still_written name (stands.within name entered);
      }

none_entered : (name : RowName) → is_entered [] name ≡ false
unfolding found
none_entered name = refl

-- No statement changes nothing.
pub represents_none : (flat : Db) → IsWellFormed flat → RepresentsBlock flat [] []
unfolding after_all
represents_none flat kept = record {
  sound = none_sound flat.schema.tables;
  rows = changed_none 0 flat.schema.tables flat.rows kept.ordered.rising;
  within = λ name entered. let never : true ≡ false = sym entered ∙ none_entered name in absurd (cc);
}
