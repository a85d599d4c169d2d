use Rattle.std.proofs.Common.{rules, ◌≡◌, [], subst}
use Rattle.std.specs.Io.KnownBytes.{Appends}
use Rattle.session_run.proofs.GatheredLemmas.{gathers-written, gathers-written_part}
use Rattle.session_run.proofs.printing.gather.Goals as goal

-- the bytes don't fit where nothing is pending, and are written by themselves
pub returns-clause-gathered : goal.returns-clause-gathered
returns-clause-gathered g c =
    let start = g.W.Sink.written c.args.sink.now in
    let mid = g.W.Sink.written c.flush.new.sink in
    let kept : c.try_extend_from_slice.new.self.items ≡ c.args.pending.now.items = search rules in
    let none : c.try_extend_from_slice-2.new.self.items ≡ [] = search rules in
    gathers-written start mid (g.W.Sink.written c.write_all.new.sink) c.args.pending.now.items c.try_extend_from_slice-2.new.self.items c.args.bytes.now c.write_all.result
    (subst (Appends start mid) kept c.in_ok-flush.ensures.written) none c.write_all.ensures.written

pub returns-clause-part : goal.returns-clause-part
returns-clause-part g c =
    let start = g.W.Sink.written c.args.sink.now in
    let mid = g.W.Sink.written c.flush.new.sink in
    let kept : c.try_extend_from_slice.new.self.items ≡ c.args.pending.now.items = search rules in
    gathers-written_part start mid (g.W.Sink.written c.write_all.new.sink) c.args.pending.now.items c.args.bytes.now c.write_all.result
    (subst (Appends start mid) kept c.in_ok-flush.ensures.written) c.write_all.ensures.part
