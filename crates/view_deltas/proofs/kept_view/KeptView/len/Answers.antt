use Rattle.std.proofs.Common.{subst, sym}
use Rattle.page_model.specs.Rising.{IsRising}
use Rattle.view_deltas.specs.Kept.{entries_of}
use Rattle.view_deltas.specs.Place.{place_cmp}
use Rattle.view_deltas.specs.declared.kept_view.KeptView.{KeptView}
use Rattle.view_deltas.proofs.EntryLemmas.{place_of}
use Rattle.view_deltas.proofs.RunLemmas.{groups_rise}
use Rattle.view_deltas.proofs.kept_view.KeptView.len.Goals as goal

pub returns-in-Grouped-clause-rising : goal.returns-in-Grouped-clause-rising
returns-in-Grouped-clause-rising c =
    subst (λ (kept : KeptView). IsRising place_of place_cmp (entries_of kept)) (sym c.in-Grouped.is) (groups_rise c.in-Grouped.groups.groups c.len-in-Grouped.ensures.rising)
