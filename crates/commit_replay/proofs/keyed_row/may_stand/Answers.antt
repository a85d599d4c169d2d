use Rattle.std.proofs.Common.{◌≡◌, ◌∙◌, true, false, refl, sym}
use Rattle.commit_replay.specs.Fitting.{AreFit}
use Rattle.commit_replay.proofs.FitLemmas.{row-stands, stands-fit, stands-keyed}
use Rattle.commit_replay.proofs.keyed_row.may_stand.Goals as goal

pub returns-then-are_fit : goal.returns-then-are_fit
returns-then-are_fit c =
    let fit : AreFit c.args.table.now.columns c.args.row.now = rw (c.items.ensures, c.values.ensures) at (c.if-are_fit.ensures.0 refl) in
    ((λ is. row-stands c.args.table.now c.args.row.now fit (sym c.is_keyed.ensures ∙ is)), λ stands. c.is_keyed.ensures ∙ stands-keyed c.args.table.now c.args.row.now stands)

pub returns-else-are_fit : goal.returns-else-are_fit
returns-else-are_fit c =
    ((λ is. let never : false ≡ true = sym c.if-are_fit.false ∙ is in absurd (cc)), λ stands. c.are_fit.ensures.1 (rw (c.items.ensures, c.values.ensures) (stands-fit c.args.table.now c.args.row.now stands)))
