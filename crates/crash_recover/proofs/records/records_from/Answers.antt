use Rattle.std.proofs.Common.{◌<◌, length, arith, drop}
use Rattle.std.proofs.lemmas.List.{take_rest}
use Rattle.std.proofs.lemmas.Result.{err_from_is_err_and}
use Rattle.disk_model.specs.JudgedRecords.{IsBroken}
use Rattle.crash_recover.specs.Records.{IsBrokenBehind}
use Rattle.crash_recover.proofs.Faults.{fault_weaker}
use Rattle.crash_recover.proofs.ReadRecords.{broken_behind, more_read, next_shorter}
use Rattle.crash_recover.proofs.records.records_from.Goals as goal

pub returns-in_err-laid : goal.returns-in_err-laid
returns-in_err-laid c =
    let p = err_from_is_err_and c.from_residual.result c.from_residual.ensures.1 in
    let rest = c.loop-rest.rest.now in
    rw (p.1, p.2)
    (fault_weaker (IsBroken c.loop-rest.state c.loop-rest.at (drop 1 rest)) (IsBrokenBehind c.args.state.now c.args.gate c.args.bytes.now) c.in_err-laid.field-0.0
    (λ offset broken. broken_behind c.args.state.now c.loop-rest.state c.args.gate c.args.bytes.now c.loop-rest.commits c.loop-rest.at rest offset c.loop-rest.invariant.are_read c.loop-rest.invariant.some c.loop-rest-test.true broken)
    (rw (take_rest rest 1) at c.in_err-laid.ensures))

pub overflow_sub-at : goal.overflow_sub-at
overflow_sub-at c =
    let short = next_shorter c.loop-rest.state c.next_commit.new.state c.loop-rest.at c.loop-rest.rest.now c.in_ok-laid.laid c.in_ok-laid.behind.now c.loop-rest.invariant.some (rw (take_rest c.loop-rest.rest.now 1) at c.in_ok-laid.ensures) in
    omega (arith, short.1)

pub loop-rest-smaller : goal.loop-rest-smaller
loop-rest-smaller c =
    let short = next_shorter c.loop-rest.state c.next_commit.new.state c.loop-rest.at c.loop-rest.rest.now c.in_ok-laid.laid c.in_ok-laid.behind.now c.loop-rest.invariant.some (rw (take_rest c.loop-rest.rest.now 1) at c.in_ok-laid.ensures) in
    omega (arith, short.1)

pub loop-rest-preserved : goal.loop-rest-preserved
loop-rest-preserved c =
    let rest = c.loop-rest.rest.now in
    let one = c.in_ok-laid.laid in
    let behind = c.in_ok-laid.behind.now in
    let short = next_shorter c.loop-rest.state c.next_commit.new.state c.loop-rest.at rest one behind c.loop-rest.invariant.some (rw (take_rest c.loop-rest.rest.now 1) at c.in_ok-laid.ensures) in
    let room = c.loop-rest.invariant.room in
    let less : length behind < length rest = short.1 in
    record {
      are_read = rw c.in_ok-add.ensures.added
          (more_read c.args.state.now c.loop-rest.state c.next_commit.new.state c.args.gate c.args.bytes.now c.loop-rest.commits c.loop-rest.at rest one behind c.loop-rest.invariant.are_read c.loop-rest.invariant.some c.loop-rest-test.true (rw (take_rest c.loop-rest.rest.now 1) at c.in_ok-laid.ensures));
      some = short.0;
      room = omega arith;
    }
