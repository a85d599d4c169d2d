use Rattle.std.proofs.Common.{◌≡◌, ◌≤◌, ◌+◌, ◌++◌, List, length, map, take, ap, sym, ◌∙◌, subst, arith}
use Rattle.std.specs.Prelude.{flat_map}
use Rattle.std.proofs.lemmas.List.{length-map, take_all}
use Rattle.own_base.specs.declared.row_name.RowName.{RowName}
use Rattle.own_base.specs.declared.row_name.Subject.{Subject}
use Rattle.own_model.specs.Db.{Db}
use Rattle.shelf_model.specs.Seen.{seen}
use Rattle.shelf_access.specs.Sights.{sight_of}
use Rattle.shelf_access.proofs.RunLemmas.{run_fits, run_taken}
use Rattle.shelf_access.proofs.SightLemmas.{sights-run, sights-seen}
use Rattle.shelf_access.proofs.sights.sights_of.Goals as goal

pub overflow_add-at : goal.overflow_add-at
overflow_add-at g c =
    let all = seen (g.V.Shelves.shelved c.args.view.now) c.args.subject.now.0 in
    let run = c.seen_from-run.result.now in
    let counted = c.loop-at.invariant.counted in
    let within = c.loop-at.invariant.within in
    let fits = run_fits all c.loop-at.at (map (λ (filed : Subject × RowName). filed.1) run) (omega arith) c.seen_from-run.ensures in
    omega (arith, length-map run (λ (filed : Subject × RowName). filed.1))

pub loop-at-preserved : goal.loop-at-preserved
loop-at-preserved g c =
    let db = g.V.StoreView.db c.args.view.now in
    let all = seen (g.V.Shelves.shelved c.args.view.now) c.args.subject.now.0 in
    let run = c.seen_from-run.result.now in
    let names : List RowName = map (λ (filed : Subject × RowName). filed.1) run in
    let counted = c.loop-at.invariant.counted in
    let within = c.loop-at.invariant.within in
    let inside : c.loop-at.at ≤ length all = omega arith in
    let same : length names ≡ length run = length-map run (λ (filed : Subject × RowName). filed.1) in
    let fits = run_fits all c.loop-at.at names inside c.seen_from-run.ensures in
    let longer : take (c.loop-at.at + length run) all ≡ take c.loop-at.at all ++ names =
    ap (λ n. take (c.loop-at.at + n) all) (sym same) ∙ run_taken all c.loop-at.at names inside c.seen_from-run.ensures in
    record {
      counted = counted;
      within = omega arith;
      so_far = sights-run db c.args.subject.now.0 (take c.loop-at.at all) run c.loop-at.copies c.add_run.new.copies c.loop-at.invariant.so_far c.in_ok-add_run.ensures ∙ ap (flat_map (sight_of db c.args.subject.now.0)) (sym longer);
    }

pub returns : goal.returns
returns g c =
    let db = g.V.StoreView.db c.args.view.now in
    let all = seen (g.V.Shelves.shelved c.args.view.now) c.args.subject.now.0 in
    let counted = c.loop-at.invariant.counted in
    let past : length all ≤ c.loop-at.at = subst (λ n. n ≤ c.loop-at.at) counted c.loop-at-test.false in
    c.loop-at.invariant.so_far ∙ (ap (flat_map (sight_of db c.args.subject.now.0)) (take_all c.loop-at.at all past)
    ∙ (ap (λ (of : Db). flat_map (sight_of db c.args.subject.now.0) (seen of c.args.subject.now.0)) c.requires.one ∙ sights-seen db c.args.subject.now.0 (g.met.V.StoreView.ordered c.args.view.now)))
