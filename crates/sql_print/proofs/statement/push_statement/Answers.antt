use Rattle.text_model.specs.Canonical.{statement_words}
use Rattle.text_model.specs.Words.{spaced}
use Rattle.sql_print.proofs.Spaced.{spaced-first}
use Rattle.sql_print.proofs.statement.push_statement.Goals as goal

pub returns-in-Begin : goal.returns-in-Begin
unfolding statement_words spaced
returns-in-Begin c = rw c.in-Begin.is c.push.ensures

pub returns-in-Commit : goal.returns-in-Commit
unfolding statement_words spaced
returns-in-Commit c = rw c.in-Commit.is c.push-in-Commit.ensures

pub returns-in-Rollback : goal.returns-in-Rollback
unfolding statement_words spaced
returns-in-Rollback c = rw c.in-Rollback.is c.push-in-Rollback.ensures

pub returns-in-Explain : goal.returns-in-Explain
unfolding statement_words spaced
returns-in-Explain c = rw c.in-Explain.is c.push-in-Explain.ensures

pub returns-in-Checkpoint : goal.returns-in-Checkpoint
unfolding statement_words spaced
returns-in-Checkpoint c = rw c.in-Checkpoint.is c.push-in-Checkpoint.ensures

pub returns-in-GdprGet : goal.returns-in-GdprGet
unfolding statement_words
returns-in-GdprGet c = rw (c.in-GdprGet.is, spaced-first) c.push_gdpr.ensures

pub returns-in-GdprForget : goal.returns-in-GdprForget
unfolding statement_words
returns-in-GdprForget c = rw (c.in-GdprForget.is, spaced-first) c.push_gdpr-in-GdprForget.ensures
