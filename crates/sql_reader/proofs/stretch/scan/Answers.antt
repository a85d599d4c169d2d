use Rattle.std.proofs.Common.{◌+◌, ◌-◌, drop, get_or, sym, ap, ◌∙◌, subst, arith}
use Rattle.std.specs.Prelude.{◌==◌}
use Rattle.std.proofs.lemmas.List.{take_rest}
use Rattle.script_model.specs.Piece.{SessionLine, Semicolon}
use Rattle.sql_reader.specs.scripts.Fronts.{AtFront, IsEmptyFront, IsTextFront}
use Rattle.sql_reader.specs.scripts.Stretches.{IsLineEnding}
use Rattle.sql_reader.proofs.Scripts.Scanning.{ScannedTo, ScannedTo-empty, ScannedTo-first, ScannedTo-later, scan-semicolon, session_line_long, held_within, scan-line, scan-end}
use Rattle.sql_reader.proofs.stretch.scan.Goals as goal
use Rattle.sql_reader.proofs.stretch.scan.Goals.{then-start-end, else-start-end}

pub loop-at-preserved-in-Empty : goal.loop-at-preserved-in-Empty
loop-at-preserved-in-Empty c =
    let same = c.as_bytes-bytes.ensures.value in
    let rest = take_rest c.as_bytes-bytes.result.now c.loop-at.at ∙ ap (drop c.loop-at.at) same in
    subst (λ l. ScannedTo c.args.text.now c.args.from (c.loop-at.at + c.in-Empty.len) (get_or l (c.loop-at.at + c.in-Empty.len - 1) 0 == 10) c.loop-at.start c.loop-at.end) (sym same)
    (ScannedTo-empty c.args.text.now c.args.from c.loop-at.at c.loop-at.begins c.loop-at.start c.loop-at.end c.in-Empty.len c.utf8.text (omega arith) c.loop-at.invariant
    (subst (λ l. IsEmptyFront c.loop-at.begins l c.in-Empty.len) rest c.in-Empty.ensures))

pub overflow_add-end : goal.overflow_add-end
overflow_add-end c =
    let rest = take_rest c.as_bytes-bytes.result.now c.loop-at.at ∙ ap (drop c.loop-at.at) c.as_bytes-bytes.ensures.value in
    let found = held_within c.args.text.now c.loop-at.at c.in-Text.len c.in-Text.held c.loop-at.begins (subst (λ l. IsTextFront c.loop-at.begins l c.in-Text.len c.in-Text.held) rest c.in-Text.ensures) in
    omega (arith, found.0, found.1)

pub loop-at-preserved : goal.loop-at-preserved
loop-at-preserved c =
    let rest = take_rest c.as_bytes-bytes.result.now c.loop-at.at ∙ ap (drop c.loop-at.at) c.as_bytes-bytes.ensures.value in
    let found = subst (λ l. IsTextFront c.loop-at.begins l c.in-Text.len c.in-Text.held) rest c.in-Text.ensures in
    elim c.if-start-end.branch [
      | then-start-end w ↦ rw w.start-is (ScannedTo-first c.args.text.now c.args.from c.loop-at.at c.loop-at.begins c.loop-at.start c.loop-at.end c.in-Text.len c.in-Text.held (omega arith) c.loop-at.invariant found w.if-start-end.true)
      | else-start-end w ↦ rw w.start-is (ScannedTo-later c.args.text.now c.args.from c.loop-at.at c.loop-at.begins c.loop-at.start c.loop-at.end c.in-Text.len c.in-Text.held (omega arith) c.loop-at.invariant found w.if-start-end.false)
    ]

pub returns-in-Semicolon : goal.returns-in-Semicolon
returns-in-Semicolon c =
    let rest = take_rest c.as_bytes-bytes.result.now c.loop-at.at ∙ ap (drop c.loop-at.at) c.as_bytes-bytes.ensures.value in
    scan-semicolon c.args.text.now c.args.from c.loop-at.at c.loop-at.begins c.loop-at.start c.loop-at.end c.utf8.text (omega arith) c.loop-at.invariant
    (subst (λ l. AtFront c.loop-at.begins l Semicolon 1) rest c.in-Semicolon.ensures)

pub line_ending-ending-requires-clause-long : goal.line_ending-ending-requires-clause-long
line_ending-ending-requires-clause-long c =
    let rest = take_rest c.as_bytes-bytes.result.now c.loop-at.at ∙ ap (drop c.loop-at.at) c.as_bytes-bytes.ensures.value in
    session_line_long c.args.text.now c.loop-at.at c.in-SessionLine.len c.loop-at.begins c.in-SessionLine.ensures.0
    (subst (λ l. AtFront c.loop-at.begins l (SessionLine c.in-SessionLine.ensures.0) c.in-SessionLine.len) rest c.in-SessionLine.ensures.1)

pub returns-in-SessionLine : goal.returns-in-SessionLine
returns-in-SessionLine c =
    let same = c.as_bytes-bytes.ensures.value in
    let rest = take_rest c.as_bytes-bytes.result.now c.loop-at.at ∙ ap (drop c.loop-at.at) same in
    scan-line c.args.text.now c.args.from c.loop-at.at c.loop-at.begins c.loop-at.start c.loop-at.end c.in-SessionLine.len c.line_ending-ending.result c.in-SessionLine.ensures.0 (omega arith) c.loop-at.invariant
    (subst (λ l. AtFront c.loop-at.begins l (SessionLine c.in-SessionLine.ensures.0) c.in-SessionLine.len) rest c.in-SessionLine.ensures.1)
    (subst (λ l. IsLineEnding l c.loop-at.at c.in-SessionLine.len c.line_ending-ending.result) same c.line_ending-ending.ensures)

pub returns : goal.returns
returns c = scan-end c.args.text.now c.args.from c.loop-at.at c.loop-at.begins c.loop-at.start c.loop-at.end (omega arith) c.loop-at.invariant
