use Rattle.std.proofs.Common.{◌≤◌, ◌++◌, length, map, take, ap, sym, ◌∙◌, subst, arith}
use Rattle.std.proofs.lemmas.List.{map-append, take_all}
use Rattle.shelf_access.specs.Got.{IsWithin, got_copy}
use Rattle.shelf_access.proofs.RunLemmas.{each_run, run_fits, run_taken}
use Rattle.shelf_access.proofs.shown.shown_rows.Goals as goal

pub add_run-requires : goal.add_run-requires
add_run-requires c = each_run (IsWithin c.args.schema.now) c.args.copies.now c.loop-at.at c.run_from-run.result.now c.requires c.run_from-run.ensures

pub overflow_add-at : goal.overflow_add-at
overflow_add-at c =
    let counted = c.loop-at.invariant.counted in
    let within = c.loop-at.invariant.within in
    let fits = run_fits c.args.copies.now c.loop-at.at c.run_from-run.result.now (omega arith) c.run_from-run.ensures in
    omega arith

pub loop-at-preserved : goal.loop-at-preserved
loop-at-preserved c =
    let counted = c.loop-at.invariant.counted in
    let within = c.loop-at.invariant.within in
    let run = c.run_from-run.result.now in
    let inside : c.loop-at.at ≤ length c.args.copies.now = omega arith in
    let fits = run_fits c.args.copies.now c.loop-at.at run inside c.run_from-run.ensures in
    let longer = run_taken c.args.copies.now c.loop-at.at run inside c.run_from-run.ensures in
    record {
      counted = counted;
      within = omega arith;
      so_far = c.in_ok-add_run.ensures ∙ (ap (λ front. front ++ map (got_copy c.args.schema.now c.args.subject.now.0) run) c.loop-at.invariant.so_far
          ∙ (sym (map-append (got_copy c.args.schema.now c.args.subject.now.0) (take c.loop-at.at c.args.copies.now) run) ∙ ap (map (got_copy c.args.schema.now c.args.subject.now.0)) (sym longer)));
    }

pub returns : goal.returns
returns c =
    let counted = c.loop-at.invariant.counted in
    c.loop-at.invariant.so_far ∙ ap (map (got_copy c.args.schema.now c.args.subject.now.0)) (take_all c.loop-at.at c.args.copies.now (subst (λ n. n ≤ c.loop-at.at) counted c.loop-at-test.false))
