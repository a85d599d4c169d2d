use Rattle.std.proofs.Common.{◌≡◌, ◌++◌, map, take}
use Rattle.shell_session.specs.Names.{names_of_view}
use Rattle.shell_session.proofs.naming.add_views.Given as goal

-- the views so far have their names
abbrev pub invariant-loop-view : goal.invariant-loop-view
invariant-loop-view l = l.names ≡ l.fn.names ++ map names_of_view (take l.view-index l.views)
