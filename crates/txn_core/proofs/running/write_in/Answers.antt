use Rattle.std.proofs.Common.{◌∙◌, List, ap, subst, sym}
use Rattle.std.proofs.lemmas.Result.{IfOk-weaker}
use Rattle.own_base.specs.declared.change.Change.{Change}
use Rattle.own_model.specs.declared.reply.Reply.{Reply}
use Rattle.state_model.specs.Put.{put_rows}
use Rattle.txn_space.specs.Changed.{changed_rows}
use Rattle.txn_space.specs.Entries.{entries_at}
use Rattle.txn_space.specs.HasPut.{entries_put}
use Rattle.txn_core.specs.Runs.{HasRun}
use Rattle.txn_core.proofs.Runs.{has_refused, has_written, net_theirs}
use Rattle.txn_core.proofs.running.write_in.Goals as goal

pub put-put-requires-clause-changes : goal.put-put-requires-clause-changes
put-put-requires-clause-changes g c =
    let db = g.V.StoreView.db c.args.version.now in
    rw c.items.ensures
    (net_theirs db c.args.space.now c.requires.store c.requires.space c.requires.rows c.args.bound.now c.in-Ok.reply c.in-Ok.changes c.requires.write c.in-Ok.ensures.ok)

-- a write that is put
pub returns-in_ok-put-in-Ok-clause-ran : goal.returns-in_ok-put-in-Ok-clause-ran
returns-in_ok-put-in-Ok-clause-ran g c =
    let db = g.V.StoreView.db c.args.version.now in
    has_written db c.args.space.now c.requires.store c.requires.space c.requires.rows c.args.bound.now c.in-Ok.reply c.in-Ok.changes c.put-put.new.self c.requires.write
    c.in-Ok.ensures.ok c.put-put.ensures.sound
    (λ others base. c.in_ok-put-in-Ok.ensures.put others base
    ∙ ap (λ (changes : List Change). put_rows db.schema.tables changes (changed_rows db.schema.tables others c.args.space.now)) c.items.ensures)
    (λ number. c.in_ok-put-in-Ok.ensures.entries number ∙ ap (λ (changes : List Change). entries_put number changes (entries_at c.args.space.now number)) c.items.ensures)

-- one that is refused as it runs
pub returns-in-Err-clause-ran : goal.returns-in-Err-clause-ran
returns-in-Err-clause-ran g c =
    let db = g.V.StoreView.db c.args.version.now in
    IfOk-weaker c.refused.result _ _
    (λ reply is.
    subst (λ (reply : Reply). HasRun db c.args.bound.now c.args.space.now reply c.args.space.now) (sym is.0)
    (has_refused db c.args.space.now c.requires.store c.requires.space c.requires.rows c.args.bound.now c.in-Err.why c.requires.write (c.in-Err.ensures.err is.1)))
    c.refused.ensures
