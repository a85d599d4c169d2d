use Rattle.std.proofs.Common.{◌∙◌, ◌++◌, ◌||◌, List, ap, subst, sym}
use Rattle.std.specs.Prelude.{not}
use Rattle.own_model.specs.declared.footprint.FootItem.{FootItem}
use Rattle.own_model.specs.declared.schema.Schema.{Schema}
use Rattle.query_model.specs.Footprints.{footprint_of}
use Rattle.row_locks.specs.SessionItems.{items_by as held_by}
use Rattle.row_locks.specs.RepresentsItems.{RepresentsItems, holder_among}
use Rattle.txn_core.specs.declared.session_state.SessionState.{SessionState}
use Rattle.txn_core.specs.SessionStates.{is_select, state_by}
use Rattle.txn_core.specs.Runs.{HasRun}
use Rattle.txn_core.specs.Transactions.{Transactions, space_of, wrote_of}
use Rattle.txn_core.proofs.ItemsThere.{row_items_there}
use Rattle.txn_core.proofs.Statements.{after_error, stated_conflict, stated_free}
use Rattle.txn_core.proofs.txns.Txns.run.Goals as goal

-- the footprint is of tables that are there
pub conflict-requires : goal.conflict-requires
conflict-requires g c =
    let schema = (g.V.StoreView.db c.args.version.now).schema in
    let items = c.in_ok-footprint.ensures ∙ ap (λ (schema : Schema). footprint_of schema c.args.bound.now) c.schema.ensures in
    record {
      there = rw (c.schema-2.ensures, items) (row_items_there schema c.args.bound.now c.requires.store.views c.requires.bound);
    }

pub returns-in-Some-clause-stated : goal.returns-in-Some-clause-stated
returns-in-Some-clause-stated g c =
    let db = g.V.StoreView.db c.args.version.now in
    let items = c.in_ok-footprint.ensures ∙ ap (λ (schema : Schema). footprint_of schema c.args.bound.now) c.schema.ensures in
    stated_conflict (holder_among (held_by c.args.self.now.held) c.args.session.0 (footprint_of db.schema c.args.bound.now)) db c.args.bound.now c.args.session.0 c.args.self.now c.in-Some.why
    (sym c.in-Some.is
    ∙ (rw (c.schema-2.ensures, items) at c.in_ok-conflict.ensures))

-- where memory is refused for what would be held besides
pub returns-in_err-grant-clause-unmade : goal.returns-in_err-grant-clause-unmade
returns-in_err-grant-clause-unmade g c =
    after_error c.from_residual-in_err-grant.result _
    (record {
      states = λ session. ap (λ (txns : Transactions). state_by txns.states session) c.self.view_is;
      held = λ session. c.in_err-grant.ensures.unchanged session ∙ ap (λ (txns : Transactions). held_by txns.held session) c.self.view_is;
    })

-- and where it runs
pub returns-clause-stated : goal.returns-clause-stated
returns-clause-stated g c =
    let db = g.V.StoreView.db c.args.version.now in
    let session = c.args.session.0 in
    let items = c.in_ok-footprint.ensures ∙ ap (λ (schema : Schema). footprint_of schema c.args.bound.now) c.schema.ensures in
    let was = sym (ap (λ (txns : Transactions). state_by txns.states session) c.self.view_is) ∙ c.txn.ensures in
    stated_free (holder_among (held_by c.args.self.now.held) session (footprint_of db.schema c.args.bound.now)) db c.args.bound.now session c.args.self.now _ c.in_ok-reply.reply
    c.in_ok-conflict.conflict c.in_default.not-Some (rw (c.schema-2.ensures, items) at c.in_ok-conflict.ensures)
    (record {
      txn = c.in_ok-reply.txn;
      open_then = c.put.ensures.put;
      ran = subst (λ (state : SessionState). HasRun db c.args.bound.now (space_of state) c.in_ok-reply.reply c.in_ok-reply.txn.space) (sym was) c.in_ok-reply.ensures.ran;
      quiet = c.in_ok-reply.ensures.quiet;
      wrote = c.in_ok-reply.ensures.wrote ∙ ap (λ (state : SessionState). wrote_of state || not (is_select c.args.bound.now)) (sym was);
      holds = λ some stands.
          subst (λ (more : List FootItem). RepresentsItems (held_by c.grant.new.self session) (some ++ more)) items
          (c.in_ok-grant.ensures.held some (subst (λ (txns : Transactions). RepresentsItems (held_by txns.held session) some) (sym c.self.view_is) stands));
      others = record {
        states = λ other apart. c.put.ensures.others other apart ∙ ap (λ (txns : Transactions). state_by txns.states other) c.self.view_is;
        held = λ other apart. c.in_ok-grant.ensures.others other apart ∙ ap (λ (txns : Transactions). held_by txns.held other) c.self.view_is;
      };
    })
