-- What a statement in a transaction is answered: what binding refuses it for, a conflict, or what it does after the statements
-- before it.
use Rattle.std.proofs.Common.{◌≡◌, ℕ, true, false, refl, ap, ◌∙◌}
use Rattle.std.specs.Prelude.{Some, None, Ok, Err}
use Rattle.std.proofs.lemmas.Bool.{or_parts}
use Rattle.own_model.specs.declared.bound.Bound.{Bound}
use Rattle.own_model.specs.declared.refusal.Refusal.{Refusal}
use Rattle.own_model.specs.declared.reply.Reply.{Reply}
use Rattle.own_model.specs.declared.reply.Reply.TheVariants.{Refused}
use Rattle.own_model.specs.declared.statement.Statement.{Statement}
use Rattle.query_model.specs.BoundStatement.{bound_statement}
use Rattle.query_model.specs.Footprints.{footprint_of}
use Rattle.run_model.specs.Run.{run}
use Rattle.history_model.specs.Held.{Holding, holder}
use Rattle.history_model.specs.History.{is_conflict, is_doomed}
use Rattle.history_model.specs.Reply.{conflict, reply_within}
use Rattle.history_model.specs.Since.{is_left_out}
use Rattle.history_model.specs.World.{Block, World, after_block}
use Rattle.history_model.proofs.RunReplies.{binding-of_statement, run-of_statement}
use Rattle.history_model.proofs.StatementRefusals.{is_of_others}

-- what is the statement's own is no conflict
own-unheld : (reply : Reply) → is_of_others reply ≡ false → is_conflict reply ≡ false
own-unheld reply own = (or_parts _ _ (or_parts (is_left_out reply) (is_doomed reply) own).0).0

module _ (world : World) (session : ℕ) (block : Block) (asked : Statement) where
  -- binding refuses it: that is no conflict
  pub refused-within : (why : Refusal) → bound_statement world.flat.schema asked ≡ Err why
      → (reply_within world session block asked ≡ Refused why) × (is_conflict (reply_within world session block asked) ≡ false)
  refused-within why is =
      let told : reply_within world session block asked ≡ Refused why = rw is refl in
      (told, ap is_conflict told ∙ own-unheld (Refused why) (binding-of_statement world.flat.schema asked why is))

  -- another session holds a row of it
  pub held-within : (bound : Bound) (holding : Holding) → bound_statement world.flat.schema asked ≡ Ok bound
      → holder world session (footprint_of world.flat.schema bound) ≡ Some holding
      → (reply_within world session block asked ≡ conflict world holding) × (is_conflict (reply_within world session block asked) ≡ true)
  held-within bound holding is held =
      let told : reply_within world session block asked ≡ conflict world holding = rw (is, held) refl in
      (told, ap is_conflict told)

  -- it goes on: what it is answered as it runs is no conflict
  pub not_conflict-granted : (bound : Bound) → bound_statement world.flat.schema asked ≡ Ok bound → holder world session (footprint_of world.flat.schema bound) ≡ None
      → (reply_within world session block asked ≡ (run (after_block world.flat block) asked).reply) × (is_conflict (reply_within world session block asked) ≡ false)
  not_conflict-granted bound is none =
      let told : reply_within world session block asked ≡ (run (after_block world.flat block) asked).reply = rw (is, none) refl in
      (told, ap is_conflict told ∙ own-unheld (run (after_block world.flat block) asked).reply (run-of_statement (after_block world.flat block) asked))
