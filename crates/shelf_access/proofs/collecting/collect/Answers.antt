use Rattle.std.proofs.Common.{◌≡◌, List, map, sym, ◌∙◌, subst}
use Rattle.std.specs.List.{AllByRecursion}
use Rattle.own_model.specs.declared.schema.Schema.{Schema}
use Rattle.shelf_model.specs.declared.shelved.Shelved.{Shelved}
use Rattle.subject_access.proofs.GetLemmas.{got-shown}
use Rattle.shelf_access.specs.Got.{IsWithin, got_copy}
use Rattle.shelf_access.proofs.GotLemmas.{got-reached, reached-within}
use Rattle.shelf_access.proofs.ReachedLemmas.{gathered-all, reached}
use Rattle.shelf_access.proofs.collecting.collect.Goals as goal

-- what is gathered are copies of the rows that the subject reaches
pub shown_rows-requires : goal.shown_rows-requires
shown_rows-requires g c =
    let db = g.S.Shelves.shelved c.args.shelves.now in
    let subject = c.args.subject.now.0 in
    let are : c.add_all.new.self ≡ reached db subject =
    gathered-all db subject c.new-copies.result c.add_shelf.new.self c.add_all.new.self c.args.seen.now c.requires.ordered c.requires.owner c.new-copies.ensures c.requires.seen c.in_ok-add_shelf.ensures c.in_ok-add_all.ensures c.len-count.ensures.rising in
    subst (λ (copies : List Shelved). AllByRecursion (IsWithin c.args.schema.now) copies) (sym are)
    (subst (λ (schema : Schema). AllByRecursion (IsWithin schema) (reached db subject)) (sym c.requires.schema) (reached-within db subject c.requires.ordered c.requires.limits c.requires.rows))

pub returns : goal.returns
returns g c =
    let db = g.S.Shelves.shelved c.args.shelves.now in
    let subject = c.args.subject.now.0 in
    let are : c.add_all.new.self ≡ reached db subject =
    gathered-all db subject c.new-copies.result c.add_shelf.new.self c.add_all.new.self c.args.seen.now c.requires.ordered c.requires.owner c.new-copies.ensures c.requires.seen c.in_ok-add_shelf.ensures c.in_ok-add_all.ensures c.len-count.ensures.rising in
    let is : c.in_ok-shown.shown ≡ map (got_copy c.args.schema.now subject) c.add_all.new.self = c.in_ok-shown.ensures in
    got-shown db subject c.in_ok-shown.shown c.requires.there
    (is ∙ ((λ i. map (got_copy (c.requires.schema i) subject) (are i)) ∙ got-reached db subject))
