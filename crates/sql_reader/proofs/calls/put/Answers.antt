use Rattle.std.proofs.Common.{arith}
use Rattle.sql_reader.proofs.Scripts.Counting.{count_of-le-length}
use Rattle.sql_reader.proofs.calls.put.Goals as goal

pub overflow_add-call : goal.overflow_add-call
overflow_add-call c = omega (arith, c.requires.counted.each c.args.session c.requires.some c.requires.within, count_of-le-length c.args.session c.args.list.now.items)
