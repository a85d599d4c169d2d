-- The first part that settles an AND or an OR.
use Rattle.std.proofs.Common.{◌≡◌, ℕ, ◌<◌, List, map, length, get_or, take, refl, sym, ap, ◌∙◌}
use Rattle.std.proofs.lemmas.List.Folds.{fold-map, fold_stuck}
use Rattle.own_model.specs.declared.bound.BoundCond.{BoundCond}
use Rattle.own_model.specs.declared.truth.Truth.{Truth as Answer}
use Rattle.own_model.specs.declared.truth.Truth.TheVariants.{True, False}
use Rattle.own_model.specs.Db.{Row}
use Rattle.query_model.specs.Truth.{greater, greatest, least, lesser, truth}

-- an AND with a part that is False is False
pub least_decided : (row : Row) (parts : List BoundCond) (i : ℕ) (part : BoundCond) (so_far : Answer) → i < length parts → part ≡ get_or parts i part
    → so_far ≡ least (map (truth row) (take i parts)) → lesser so_far (truth row part) ≡ False → False ≡ least (map (truth row) parts)
least_decided row parts i part so_far within is before false =
    let step : Answer → BoundCond → Answer = λ answer part. lesser answer (truth row part) in
    let here : step so_far (get_or parts i part) ≡ False = ap (step so_far) (sym is) ∙ false in
    let decided = rw (before, fold-map lesser (truth row) True (take i parts)) at here in
    fold_stuck step False (λ part. refl) True parts i part within decided ∙ sym (fold-map lesser (truth row) True parts)

-- an OR with a part that is True is True
pub greatest_decided : (row : Row) (parts : List BoundCond) (i : ℕ) (part : BoundCond) (so_far : Answer) → i < length parts → part ≡ get_or parts i part
    → so_far ≡ greatest (map (truth row) (take i parts)) → greater so_far (truth row part) ≡ True → True ≡ greatest (map (truth row) parts)
greatest_decided row parts i part so_far within is before true =
    let step : Answer → BoundCond → Answer = λ answer part. greater answer (truth row part) in
    let here : step so_far (get_or parts i part) ≡ True = ap (step so_far) (sym is) ∙ true in
    let decided = rw (before, fold-map greater (truth row) False (take i parts)) at here in
    fold_stuck step True (λ part. refl) False parts i part within decided ∙ sym (fold-map greater (truth row) False parts)
