use Rattle.std.proofs.Common.{◌≡◌, List, ◌∷◌, ◌++◌, ap, sym, ◌∙◌, append_assoc}
use Rattle.std.proofs.lemmas.List.{append-nil}
use Rattle.own_base.specs.declared.change.Change.{Change}
use Rattle.shelf_erase.proofs.changes.copies_of.Goals as goal

pub loop-change-preserved : goal.loop-change-preserved
loop-change-preserved c =
    let steps : c.loop-change.change-iterator ≡ c.in-Some.change.now ∷ c.next.new.self = c.in-Some.ensures.steps in
    ap (λ (front : List Change). front ++ c.next.new.self) c.in_ok-add.ensures.added
    ∙ (append_assoc c.loop-change.list _ c.next.new.self
    ∙ (ap (λ (tail : List Change). c.loop-change.list ++ tail) (ap (λ (x : Change). x ∷ c.next.new.self) c.in_ok-copy.ensures ∙ sym steps) ∙ c.loop-change.invariant))

pub returns : goal.returns
returns c =
    sym (append-nil c.loop-change.list) ∙ (ap (λ (tail : List Change). c.loop-change.list ++ tail) (sym c.in-None.ensures.steps.0) ∙ c.loop-change.invariant)
