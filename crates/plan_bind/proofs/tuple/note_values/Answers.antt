use Rattle.std.proofs.Common.{◌∙◌, sym}
use Rattle.std.specs.Iterator.Adapters.{zip_first, zip_second}
use Rattle.std.specs.Slice.Iter.{iter_rest}
use Rattle.std.proofs.lemmas.Slice.Zip.{either_empty_from_Zip}
use Rattle.plan_bind.proofs.Pairs.{no_pairs}
use Rattle.plan_bind.proofs.tuple.note_values.Goals as goal

-- no pairs are left
pub returns : goal.returns
returns c = let none = no_pairs (iter_rest (zip_first c.loop-column.column-iterator)) (iter_rest (zip_second c.loop-column.column-iterator))
    (either_empty_from_Zip c.loop-column.column-iterator c.next.new.self c.next.result c.in-None.is c.next.ensures.steps) in
    sym (c.loop-column.invariant ∙ (rw none))
