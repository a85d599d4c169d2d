use Rattle.std.proofs.Common.{◌≡◌, ◌≤◌, ◌+◌, ◌++◌, List, length, map, take, ap, sym, ◌∙◌, subst, arith}
use Rattle.std.proofs.lemmas.List.{length-map, take_all}
use Rattle.own_base.specs.declared.row_name.Subject.{Subject}
use Rattle.shelf_model.specs.declared.shelved.Shelved.{Shelved}
use Rattle.shelf_model.specs.Shelf.{shelf}
use Rattle.shelf_access.specs.Gathered.{Gathers}
use Rattle.shelf_access.proofs.GatherLemmas.{gathers-both, gathers-none}
use Rattle.shelf_access.proofs.RunLemmas.{run_fits, run_taken}
use Rattle.shelf_access.proofs.gathered.Gathered.add_shelf.Goals as goal

pub loop-at-init : goal.loop-at-init
loop-at-init g c = record { counted = c.shelf_count-count.ensures; within = omega arith; gathered = gathers-none c.args.self.now }

pub overflow_add-at : goal.overflow_add-at
overflow_add-at g c =
    let all = shelf (g.S.Shelves.shelved c.args.shelves.now) c.args.subject.now.0 in
    let run = c.shelf_from-run.result.now in
    let counted = c.loop-at.invariant.counted in
    let within = c.loop-at.invariant.within in
    let fits = run_fits all c.loop-at.at (map (λ (filed : Subject × Shelved). filed.1) run) (omega arith) c.shelf_from-run.ensures in
    omega (arith, length-map run (λ (filed : Subject × Shelved). filed.1))

pub loop-at-preserved : goal.loop-at-preserved
loop-at-preserved g c =
    let all = shelf (g.S.Shelves.shelved c.args.shelves.now) c.args.subject.now.0 in
    let run = c.shelf_from-run.result.now in
    let copies : List Shelved = map (λ (filed : Subject × Shelved). filed.1) run in
    let counted = c.loop-at.invariant.counted in
    let within = c.loop-at.invariant.within in
    let inside : c.loop-at.at ≤ length all = omega arith in
    let same : length copies ≡ length run = length-map run (λ (filed : Subject × Shelved). filed.1) in
    let fits = run_fits all c.loop-at.at copies inside c.shelf_from-run.ensures in
    let longer : take (c.loop-at.at + length run) all ≡ take c.loop-at.at all ++ copies =
    ap (λ n. take (c.loop-at.at + n) all) (sym same) ∙ run_taken all c.loop-at.at copies inside c.shelf_from-run.ensures in
    record {
      counted = counted;
      within = omega arith;
      gathered = subst (λ (given : List Shelved). Gathers given c.args.self.now c.add_run.new.self) (sym longer)
          (gathers-both (take c.loop-at.at all) copies c.args.self.now c.loop-at.self c.add_run.new.self c.loop-at.invariant.gathered c.in_ok-add_run.ensures);
    }

pub returns : goal.returns
returns g c =
    let all = shelf (g.S.Shelves.shelved c.args.shelves.now) c.args.subject.now.0 in
    let counted = c.loop-at.invariant.counted in
    let past : length all ≤ c.loop-at.at = subst (λ n. n ≤ c.loop-at.at) counted c.loop-at-test.false in
    subst (λ (given : List Shelved). Gathers given c.args.self.now c.loop-at.self) (take_all c.loop-at.at all past) c.loop-at.invariant.gathered
