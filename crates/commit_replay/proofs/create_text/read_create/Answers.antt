use Rattle.commit_replay.proofs.OneCreate.{limited, stopped}
use Rattle.commit_replay.proofs.create_text.read_create.Goals as goal

pub returns-in-Err-Syntax : goal.returns-in-Err-Syntax
returns-in-Err-Syntax c = λ create is. stopped create _ c.in-Err-Syntax.field-0-0 (rw (c.in-Err-Syntax.field-0-is, c.as_str.ensures) at c.in-Err-Syntax.ensures) is

pub returns-in-Err-Limit : goal.returns-in-Err-Limit
returns-in-Err-Limit c = λ create is. limited create _ c.in-Err-Limit.field-0-0 (rw (c.in-Err-Limit.field-0-is, c.as_str.ensures) at c.in-Err-Limit.ensures) is
