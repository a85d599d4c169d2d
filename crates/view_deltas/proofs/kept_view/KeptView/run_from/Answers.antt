use Rattle.std.proofs.Common.{map, subst, sym}
use Rattle.page_model.specs.Rising.{IsRising}
use Rattle.page_model.specs.Run.{IsRunFrom}
use Rattle.view_deltas.specs.Kept.{entries_of}
use Rattle.view_deltas.specs.Place.{place_cmp}
use Rattle.view_deltas.specs.declared.kept_view.KeptView.{KeptView}
use Rattle.view_deltas.proofs.EntryLemmas.{place_of}
use Rattle.view_deltas.proofs.RunLemmas.{groups_rise, groups_run, run_map}
use Rattle.view_deltas.proofs.kept_view.KeptView.run_from.Goals as goal

pub returns-in-Plain-clause-run : goal.returns-in-Plain-clause-run
returns-in-Plain-clause-run c =
    let run = c.run_from.result.now in
    subst (λ (kept : KeptView). IsRunFrom (map (λ entry. entry.1) (entries_of kept)) c.args.at (map (λ entry. entry.1) run)) (sym c.in-Plain.is)
    (run_map (λ entry. entry.1) c.in-Plain.entries c.args.at run c.run_from.ensures.run)

pub returns-in-Grouped-clause-run : goal.returns-in-Grouped-clause-run
returns-in-Grouped-clause-run c =
    let run = c.run_from-in-Grouped.result.now in
    subst (λ (kept : KeptView). IsRunFrom (map (λ entry. entry.1) (entries_of kept)) c.args.at (map (λ group. group.1.1) run)) (sym c.in-Grouped.is)
    (groups_run c.in-Grouped.groups.groups run c.args.at c.run_from-in-Grouped.ensures.run)

pub returns-in-Grouped-clause-rising : goal.returns-in-Grouped-clause-rising
returns-in-Grouped-clause-rising c =
    subst (λ (kept : KeptView). IsRising place_of place_cmp (entries_of kept)) (sym c.in-Grouped.is) (groups_rise c.in-Grouped.groups.groups c.run_from-in-Grouped.ensures.rising)

pub returns-in-Joined-clause-run : goal.returns-in-Joined-clause-run
returns-in-Joined-clause-run c =
    let run = c.run_from-in-Joined.result.now in
    subst (λ (kept : KeptView). IsRunFrom (map (λ entry. entry.1) (entries_of kept)) c.args.at (map (λ entry. entry.1) run)) (sym c.in-Joined.is)
    (run_map (λ entry. entry.1) c.in-Joined.joined.entries c.args.at run c.run_from-in-Joined.ensures.run)
