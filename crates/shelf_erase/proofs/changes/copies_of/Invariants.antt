use Rattle.std.proofs.Common.{◌≡◌, ◌++◌}
use Rattle.page_model.specs.Paged.{items}
use Rattle.shelf_erase.proofs.changes.copies_of.Given as goal

-- the copies so far, and the changes that are left
abbrev pub invariant-loop-change : goal.invariant-loop-change
invariant-loop-change l = l.list ++ l.change-iterator ≡ items l.fn.pages
