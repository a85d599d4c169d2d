use Rattle.std.proofs.Common.{sym, ◌∙◌}
use Rattle.micro_db.proofs.RenewLemmas.{moved-at}
use Rattle.micro_db.proofs.renewing.has_moved.Goals as goal

pub returns-then-is_name : goal.returns-then-is_name
returns-then-is_name c = λ same.
    moved-at c.args.moves.now c.partition_point-at.result c.in-Some.moved.now c.args.subject.now c.args.name.now c.in-Some.ensures.lookup.3.0 c.in-Some.ensures.lookup.1 (sym c.is_name.ensures ∙ c.if-is_name.true) (sym c.is_name-then-is_name.ensures ∙ same)
