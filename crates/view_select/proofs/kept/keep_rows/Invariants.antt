use Rattle.std.proofs.Common.{◌≡◌, ◌++◌, map, take}
use Rattle.std.specs.List.{filter}
use Rattle.std.specs.Option.{option_copied}
use Rattle.query_model.specs.Truth.{keeps}
use Rattle.view_select.proofs.kept.keep_rows.Given as goal

-- the rows so far that are kept
abbrev pub invariant-loop-entry : goal.invariant-loop-entry
invariant-loop-entry l = l.kept ≡ l.initial.kept ++ filter (keeps (option_copied l.cond)) (map (λ entry. entry.1) (take l.entry-index l.entries))
