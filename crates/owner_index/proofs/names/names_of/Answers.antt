use Rattle.std.proofs.Common.{List, ap, subst, ◌∙◌}
use Rattle.std.specs.Prelude.{filter}
use Rattle.std.specs.List.Sorted.{IsPermutation}
use Rattle.std.proofs.lemmas.List.{take_all}
use Rattle.own_base.specs.declared.row_name.RowName.{RowName}
use Rattle.owner_index.specs.Names.{is_of}
use Rattle.owner_index.proofs.NamesLemmas.{names-falling}
use Rattle.owner_index.proofs.names.names_of.Goals as goal

pub returns : goal.returns
returns c =
    let falling = c.reverse.new.self.items in
    names-falling (filter (is_of c.args.table) c.args.names.now) c.loop-name.own.items c.tidied.result falling c.from_vec.result c.tidied.ensures
    (c.loop-name.invariant ∙ ap (filter (is_of c.args.table)) (take_all c.loop-name.name-index c.args.names.now c.loop-name-test.false))
    (subst (λ (list : List RowName). IsPermutation list falling) c.into_vec-falling.ensures c.reverse.ensures.permutation) c.from_vec.ensures
