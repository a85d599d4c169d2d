use Rattle.std.proofs.Common.{sym, subst, arith}
use Rattle.parallel_reader.specs.Cut.{Cuts}
use Rattle.parallel_reader.proofs.CutTexts.{Cuts-none, Cuts-append, Cuts-later}
use Rattle.sql_reader.proofs.Scripts.Reading.{ReadTo, ReadTo-start, call_fault, line_wrong, line_within, after_semicolon, after_session, after_all}
use Rattle.parallel_reader.proofs.cutting.cut_texts.Goals as goal

pub loop-fault-init : goal.loop-fault-init
loop-fault-init c = subst (ReadTo Cuts c.args.text.now 0 1) (sym c.new-unread.ensures.items) (ReadTo-start Cuts Cuts-none Cuts-append Cuts-later c.args.text.now c.utf8.text)

pub returns-in-Err-clause-err : goal.returns-in-Err-clause-err
returns-in-Err-clause-err c =
    call_fault Cuts Cuts-none Cuts-append Cuts-later c.args.text.now c.loop-fault.at c.loop-fault.session c.loop-fault.unread.items c.loop-fault.invariant c.next_stretch-stretch.result c.next_stretch-stretch.ensures c.in-Err.fault c.in-Err.ensures.err

pub overflow_cast-result : goal.overflow_cast-result
overflow_cast-result c =
    omega (arith, line_within Cuts Cuts-none Cuts-append Cuts-later c.args.text.now c.loop-fault.at c.loop-fault.session c.loop-fault.unread.items c.loop-fault.invariant c.next_stretch-stretch.result c.next_stretch-stretch.ensures c.in-BadLine.line c.in-BadLine.is)

pub returns-in-BadLine-clause-err : goal.returns-in-BadLine-clause-err
returns-in-BadLine-clause-err c =
    line_wrong Cuts Cuts-none Cuts-append Cuts-later c.args.text.now c.loop-fault.at c.loop-fault.session c.loop-fault.unread.items c.loop-fault.invariant c.next_stretch-stretch.result c.next_stretch-stretch.ensures c.in-BadLine.line c.add_text.new.unread.items c.in-BadLine.is c.in_default.ensures.taken

pub returns-in-End-clause-ok : goal.returns-in-End-clause-ok
returns-in-End-clause-ok c =
    after_all Cuts Cuts-none Cuts-append Cuts-later c.args.text.now c.loop-fault.at c.loop-fault.session c.loop-fault.unread.items c.loop-fault.invariant c.next_stretch-stretch.result c.next_stretch-stretch.ensures c.add_text.new.unread.items c.in-End.is c.in_default.ensures.taken c.in_default.ensures.few

pub loop-fault-preserved-in-Semicolon : goal.loop-fault-preserved-in-Semicolon
loop-fault-preserved-in-Semicolon c =
    after_semicolon Cuts Cuts-none Cuts-append Cuts-later c.args.text.now c.loop-fault.at c.loop-fault.session c.loop-fault.unread.items c.loop-fault.invariant c.next_stretch-stretch.result c.next_stretch-stretch.ensures c.add_text.new.unread.items c.in-Semicolon.is c.in_default.ensures.taken c.in_default.ensures.few

pub loop-fault-preserved : goal.loop-fault-preserved
loop-fault-preserved c =
    after_session Cuts Cuts-none Cuts-append Cuts-later c.args.text.now c.loop-fault.at c.loop-fault.session c.loop-fault.unread.items c.loop-fault.invariant c.next_stretch-stretch.result c.next_stretch-stretch.ensures c.in-Session.named c.add_text.new.unread.items c.in-Session.is c.in_default.ensures.taken c.in_default.ensures.few
