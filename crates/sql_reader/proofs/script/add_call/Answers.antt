use Rattle.std.proofs.Common.{length, sym, ◌∙◌, subst, arith}
use Rattle.std.proofs.lemmas.Bool.{eqb-true, eqb-false}
use Rattle.sql_reader.specs.scripts.Counts.{AddsText}
use Rattle.sql_reader.specs.scripts.TextCalls.{Takes}
use Rattle.sql_reader.specs.scripts.Stretches.{is_closing}
use Rattle.sql_reader.proofs.Scripts.Numbering.{Takes-none, Takes-call, no_call, too_many_calls}
use Rattle.sql_reader.proofs.script.add_call.Goals as goal

pub returns-then-is_empty-clause-taken : goal.returns-then-is_empty-clause-taken
returns-then-is_empty-clause-taken c =
    let stretch = c.args.stretch.now in
    let none = eqb-true (length stretch.text.now) 0 (sym c.is_empty.ensures ∙ c.if-is_empty.true) in
    subst (λ l. Takes c.args.calls.now.list.items l c.args.calls.now.list.items) (sym (no_call c.args.session stretch.start (is_closing stretch.ending) stretch.text.now none)) (Takes-none c.args.calls.now.list.items)

pub returns-then-len-clause-err : goal.returns-then-len-clause-err
returns-then-len-clause-err c =
    let stretch = c.args.stretch.now in
    let some = eqb-false (length stretch.text.now) 0 (sym c.is_empty.ensures ∙ c.if-is_empty.false) in
    too_many_calls (length c.args.calls.now.list.items) c.args.session stretch.start (is_closing stretch.ending) stretch.text.now (omega (arith, some)) (omega arith)

pub returns-in-Ok-clause-taken : goal.returns-in-Ok-clause-taken
returns-in-Ok-clause-taken c =
    let stretch = c.args.stretch.now in
    let some = eqb-false (length stretch.text.now) 0 (sym c.is_empty.ensures ∙ c.if-is_empty.false) in
    Takes-call c.args.calls.now.list.items c.add_text.new.self.list.items c.args.session stretch.start (is_closing stretch.ending) stretch.text.now (omega (arith, some)) (omega arith)
    (subst (λ b. AddsText c.args.session b stretch.text.now c.args.calls.now.list.items c.add_text.new.self.list.items) c.closes-closed.ensures c.in-Ok.ensures.added)
