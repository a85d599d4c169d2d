use Rattle.std.proofs.Common.{◌≡◌, List, [], ◌∷◌, map, refl, ap, ◌∙◌, subst}
use Rattle.std.proofs.lemmas.List.{take_all}
use Rattle.shelf_model.specs.declared.shelved.Shelved.{Shelved}
use Rattle.shelf_access.specs.Gathered.{Gathers}
use Rattle.shelf_access.proofs.GatherLemmas.{gathers-more, gathers-none}
use Rattle.shelf_access.proofs.gathered.Gathered.add_all.Goals as goal

itself : (copies : List Shelved) → map (λ copy. copy) copies ≡ copies
itself [] = refl
itself (copy ∷ copies) = ap (λ rest. copy ∷ rest) (itself copies)

pub loop-copy-init : goal.loop-copy-init
loop-copy-init c = gathers-none c.args.self.now

pub loop-copy-preserved : goal.loop-copy-preserved
loop-copy-preserved c =
    gathers-more (λ (copy : Shelved). copy) c.args.copies.now c.loop-copy.copy-index c.copy-item.result c.args.self.now c.loop-copy.self c.add.new.self
    c.loop-copy-test.true c.copy-item.is c.loop-copy.invariant c.in_ok-add.ensures

pub returns : goal.returns
returns c =
    subst (λ (given : List Shelved). Gathers given c.args.self.now c.loop-copy.self)
    (ap (map (λ (copy : Shelved). copy)) (take_all c.loop-copy.copy-index c.args.copies.now c.loop-copy-test.false) ∙ itself c.args.copies.now) c.loop-copy.invariant
