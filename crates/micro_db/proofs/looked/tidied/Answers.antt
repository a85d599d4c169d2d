use Rattle.std.proofs.Common.{◌≡◌, List, sym, ◌∙◌, subst}
use Rattle.std.specs.List.{dedup}
use Rattle.std.proofs.lemmas.List.Filters.{dedup_is}
use Rattle.std.proofs.lemmas.List.Kept.{Contains-dedup, Contains-from_dedup, IsStrictlySortedBy-dedup}
use Rattle.std.proofs.lemmas.List.Sorted.{Contains-permutation, IsPermutation-sym}
use Rattle.own_base.specs.declared.row_name.RowName.{RowName}
use Rattle.owner_index.specs.Names.{AreTidied}
use Rattle.owner_index.proofs.DerivedNames.{derived_eq, derived_equal, derived_exact, derived_ties, derived_total, rising_by_name}
use Rattle.micro_db.proofs.looked.tidied.Goals as goal

-- the sort puts them in order, and equal ones then stand side by side
pub returns : goal.returns
returns c =
    let given = c.into_vec-names.result.items in
    let sorted = c.sort_unstable.new.self.items in
    let is : c.from_vec.result ≡ dedup derived_eq sorted = c.from_vec.ensures ∙ dedup_is derived_eq sorted c.dedup.new.self.items c.dedup.ensures.filtered in
    let moved = c.sort_unstable.ensures.permutation in
    let are : AreTidied given (dedup derived_eq sorted) = record {
      rising = rising_by_name (dedup derived_eq sorted) (IsStrictlySortedBy-dedup derived_total derived_ties sorted c.sort_unstable.ensures.sorted);
      same = λ name. (
        (λ among. Contains-permutation sorted given name (IsPermutation-sym given sorted moved) (Contains-from_dedup derived_eq sorted name among)),
        (λ among. Contains-dedup derived_equal derived_exact sorted name (Contains-permutation given sorted name moved among)),
      );
    } in
    subst (λ (names : List RowName). AreTidied names c.from_vec.result) c.into_vec-names.ensures (subst (AreTidied given) (sym is) are)
