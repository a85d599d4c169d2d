use Rattle.std.proofs.Common.{◌∷◌, [], ◌++◌, None, length, ap, refl, sym, ◌∙◌, subst, arith}
use Rattle.std.proofs.lemmas.Bool.{eqb-true, eqb-false}
use Rattle.sql_reader.specs.scripts.Stretches.{is_closing}
use Rattle.sql_reader.proofs.Scripts.Numbering.{no_call, too_many_calls}
use Rattle.parallel_reader.specs.Cut.{Cuts}
use Rattle.parallel_reader.specs.declared.unread.Unread.{Unread}
use Rattle.parallel_reader.proofs.CutTexts.{Cuts-call, Cuts-none}
use Rattle.parallel_reader.proofs.cutting.add_text.Goals as goal

pub returns-then-is_empty-clause-taken : goal.returns-then-is_empty-clause-taken
returns-then-is_empty-clause-taken c =
    let stretch = c.args.stretch.now in
    let none = eqb-true (length stretch.text.now) 0 (sym c.is_empty.ensures ∙ c.if-is_empty.true) in
    subst (λ l. Cuts c.args.unread.now.items l c.args.unread.now.items) (sym (no_call c.args.session stretch.start (is_closing stretch.ending) stretch.text.now none)) (Cuts-none c.args.unread.now.items)

pub returns-then-len-clause-err : goal.returns-then-len-clause-err
returns-then-len-clause-err c =
    let stretch = c.args.stretch.now in
    let some = eqb-false (length stretch.text.now) 0 (sym c.is_empty.ensures ∙ c.if-is_empty.false) in
    too_many_calls (length c.args.unread.now.items) c.args.session stretch.start (is_closing stretch.ending) stretch.text.now (omega (arith, some)) (omega (arith, c.args.unread.now.ok.0))

pub returns-clause-taken : goal.returns-clause-taken
returns-clause-taken c =
    let stretch = c.args.stretch.now in
    let some = eqb-false (length stretch.text.now) 0 (sym c.is_empty.ensures ∙ c.if-is_empty.false) in
    let next : Unread = record { session = record { 0 = c.args.session }; text = stretch.text; closed = c.closes.result; request = None } in
    Cuts-call c.args.unread.now.items c.push_reserved.new.self.items next c.args.session stretch.start (is_closing stretch.ending) stretch.text.now (omega (arith, some)) c.requires.short (omega (arith, c.args.unread.now.ok.0)) c.requires.some c.requires.within
    refl refl (sym c.closes.ensures) (c.push_reserved.ensures.items ∙ ap (λ l. l ++ next ∷ []) c.reserve.ensures.items)
