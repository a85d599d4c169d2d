use Rattle.std.proofs.Common.{subst}
use Rattle.std.specs.Prelude.{IfOk}
use Rattle.commit_replay.specs.Rows.{IsWithRows}
use Rattle.commit_replay.proofs.Images.{begins-rows, no-creates-image}
use Rattle.commit_replay.proofs.image.with_image.Goals as goal

pub returns-in-Some : goal.returns-in-Some
returns-in-Some c =
    begins-rows c.args.image.now c.in-Some.state c.with_rows.result (rw (c.items.ensures, c.in-Some.is) at c.in_ok-state.ensures)
    (subst (λ tables. IfOk c.with_rows.result (IsWithRows c.in-Some.state tables)) c.items-in-Some.ensures c.with_rows.ensures.rows) c.with_rows.ensures.sound

pub returns-in-None : goal.returns-in-None
returns-in-None c = no-creates-image c.canonical_text_reads_back.ensures c.args.image.now (rw (c.items.ensures, c.in-None.is) at c.in_ok-state.ensures)
