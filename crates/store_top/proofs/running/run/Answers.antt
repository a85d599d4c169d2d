use Rattle.std.proofs.Common.{◌∙◌, map, refl, string_bytes, subst, sym}
use Rattle.store_top.specs.Complete.{IsServedOrRefused}
use Rattle.store_top.specs.Top.{ReadsInput}
use Rattle.store_words.specs.Words.{mode_of}
use Rattle.store_words.proofs.InRange.{mode_in_range}
use Rattle.store_top.proofs.RanAsLemmas.{ran_as-out_of_memory}
use Rattle.store_top.proofs.RanLemmas.{ran-usage}
use Rattle.store_top.proofs.running.run.Goals as goal

-- the words are no mode
pub returns-in-Ok-None-clause-ran : goal.returns-in-Ok-None-clause-ran
returns-in-Ok-None-clause-ran g c =
    let source = g.R.Source in
    let sink = g.W.Sink in
    let end = c.served.ensures in
    let ended = c.without_calls.ensures in
    rw (end.fault ∙ ended.fault, sym (rw c.in-Ok-None.field-0-is at c.in-Ok-None.ensures)) (ran-usage source.remaining source.faults source.fails sink.faults sink.fails c.args.source.now c.args.source.now
    c.args.sink.now c.args.sink.now c.served.result.history _ _ _ c.served.result.opened
    (record { unopened = end.opened ∙ ended.opened; unwritten = refl; uncalled = end.history ∙ ended.history }) refl)

-- memory for the words was refused
pub returns-in-Err-clause-ran : goal.returns-in-Err-clause-ran
returns-in-Err-clause-ran g c =
    let source = g.R.Source in
    let sink = g.W.Sink in
    let end = c.served-in-Err.ensures in
    let ended = c.without_calls-in-Err.ensures in
    rw (end.fault ∙ ended.fault) (ran_as-out_of_memory source.remaining source.faults source.fails sink.written sink.faults sink.fails c.args.source.now
    c.args.sink.now c.args.sink.now c.served-in-Err.result.opened c.served-in-Err.result.history
    (record { unopened = end.opened ∙ ended.opened; unwritten = refl; uncalled = end.history ∙ ended.history }) (mode_of (map string_bytes c.args.words.now)))

-- what nothing disturbs is served: there is a mode
pub returns-in-Ok-None-clause-complete : goal.returns-in-Ok-None-clause-complete
returns-in-Ok-None-clause-complete g c words reads writes rose lawful whole =
    absurd (words (sym (rw c.in-Ok-None.field-0-is at c.in-Ok-None.ensures)))

pub returns-in-Err-clause-complete : goal.returns-in-Err-clause-complete
returns-in-Err-clause-complete g c words reads writes rose lawful whole =
    subst IsServedOrRefused (sym (c.served-in-Err.ensures.fault ∙ c.without_calls-in-Err.ensures.fault)) tt

-- in a mode that reads an input that is lawful
pub returns-in-Ok-Some-Step-clause-complete : goal.returns-in-Ok-Some-Step-clause-complete
returns-in-Ok-Some-Step-clause-complete g c words reads writes rose lawful whole =
    c.step.ensures.complete reads writes rose (lawful (subst ReadsInput (rw (c.in-Ok-Some-Step.field-0-is, c.in-Ok-Some-Step.field-0-0-is) at c.in-Ok-Some-Step.ensures) tt)) whole

pub returns-in-Ok-Some-Serve-clause-complete : goal.returns-in-Ok-Some-Serve-clause-complete
returns-in-Ok-Some-Serve-clause-complete g c words reads writes rose lawful whole =
    c.serve.ensures.complete reads writes rose (lawful (subst ReadsInput (rw (c.in-Ok-Some-Serve.field-0-is, c.in-Ok-Some-Serve.field-0-0-is) at c.in-Ok-Some-Serve.ensures) tt)) whole

-- the numbers are in their ranges
pub make-requires-clause-people : goal.make-requires-clause-people
make-requires-clause-people g c = (mode_in_range (map string_bytes c.args.words.now) _ _ (sym (rw (c.in-Ok-Some-Make.field-0-is, c.in-Ok-Some-Make.field-0-0-is) at c.in-Ok-Some-Make.ensures))).0

pub make-requires-clause-seed : goal.make-requires-clause-seed
make-requires-clause-seed g c = (mode_in_range (map string_bytes c.args.words.now) _ _ (sym (rw (c.in-Ok-Some-Make.field-0-is, c.in-Ok-Some-Make.field-0-0-is) at c.in-Ok-Some-Make.ensures))).1

-- and what it did to the disk is said by the mode
pub returns-in-Ok-Some-Make-clause-on_disk : goal.returns-in-Ok-Some-Make-clause-on_disk
returns-in-Ok-Some-Make-clause-on_disk g c =
    rw (sym (rw (c.in-Ok-Some-Make.field-0-is, c.in-Ok-Some-Make.field-0-0-is) at c.in-Ok-Some-Make.ensures)) c.make.ensures.on_disk
