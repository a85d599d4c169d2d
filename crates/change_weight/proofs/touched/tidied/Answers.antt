use Rattle.std.proofs.Common.{sym, subst}
use Rattle.std.specs.List.{dedup}
use Rattle.std.proofs.lemmas.List.Filters.{dedup_is}
use Rattle.std.proofs.lemmas.List.Kept.{Contains-dedup, Contains-from_dedup, IsStrictlySortedBy-dedup}
use Rattle.std.proofs.lemmas.List.Sorted.{Contains-permutation, IsPermutation-sym}
use Rattle.change_weight.specs.Touched.{AreTidied}
use Rattle.change_weight.proofs.DerivedNames.{derived_eq, derived_equal, derived_exact, derived_ties, derived_total, rising_by_name}
use Rattle.change_weight.proofs.touched.tidied.Goals as goal

-- the sort puts them in order, and equal ones then stand side by side
pub returns : goal.returns
returns c =
    let given = c.args.names.items in
    let sorted = c.sort_unstable.new.self.items in
    let moved = c.sort_unstable.ensures.permutation in
    let are : AreTidied given (dedup derived_eq sorted) = record {
      rising = rising_by_name (dedup derived_eq sorted) (IsStrictlySortedBy-dedup derived_total derived_ties sorted c.sort_unstable.ensures.sorted);
      same = λ name. (
        (λ among. Contains-permutation sorted given name (IsPermutation-sym given sorted moved) (Contains-from_dedup derived_eq sorted name among)),
        (λ among. Contains-dedup derived_equal derived_exact sorted name (Contains-permutation given sorted name moved among)),
      );
    } in
    subst (AreTidied given) (sym (dedup_is derived_eq sorted c.dedup.new.self.items c.dedup.ensures.filtered)) are
