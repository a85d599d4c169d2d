use Rattle.std.proofs.Common.{◌∙◌, refl, ap, subst, sym, List, length}
use Rattle.std.specs.Prelude.{slice_get}
use Rattle.std.proofs.lemmas.Option.{slice_get_past, slice_get_read}
use Rattle.own_model.specs.Db.{Row}
use Rattle.page_model.specs.Rising.{IsRising}
use Rattle.view_deltas.specs.Kept.{entries_of}
use Rattle.view_deltas.specs.declared.kept_view.KeptView.{KeptView}
use Rattle.view_deltas.specs.Place.{Place, place_cmp}
use Rattle.view_deltas.proofs.EntryLemmas.{place_of}
use Rattle.view_deltas.proofs.ViewRows.{count_rows, no_view, shown_rows}
use Rattle.view_deltas.proofs.views.Views.view_count.Goals as goal

pub returns-in-Some : goal.returns-in-Some
returns-in-Some c = λ db ordered stored views stands.
    let all = c.deref.result.now in
    let here = slice_get_read all (length all) c.args.view.0 c.in-Some.kept.now refl c.in-Some.ensures.lookup.3.0 c.in-Some.ensures.lookup.1 in
    c.len.ensures.count
    ∙ (count_rows (entries_of c.in-Some.kept.now) _
    (shown_rows db ordered stored views c.args.self.now stands c.args.view c.in-Some.kept.now
    (ap (λ (kept : List KeptView). slice_get kept c.args.view.0) (sym (c.deref.ensures.value ∙ c.self.view_is)) ∙ here)
    c.len.ensures.rising))

pub returns-in-None : goal.returns-in-None
returns-in-None c = λ db ordered stored views stands. ap length (sym (no_view db ordered stored views c.args.self.now stands c.args.view
    (ap (λ (kept : List KeptView). slice_get kept c.args.view.0) (sym (c.deref.ensures.value ∙ c.self.view_is)) ∙ slice_get_past c.deref.result.now c.args.view.0 c.in-None.ensures.lookup.3)))
