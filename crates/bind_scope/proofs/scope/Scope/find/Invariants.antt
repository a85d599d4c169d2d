use Rattle.std.proofs.Common.{◌≡◌, take, option_map}
use Rattle.std.specs.List.{filter}
use Rattle.std.specs.Option.{option_to_list}
use Rattle.query_model.specs.Scope.{is_meant}
use Rattle.bind_scope.specs.Lent.{named_of}
use Rattle.bind_scope.proofs.scope.Scope.find.Given as goal

-- what is found is the only one that is meant so far
abbrev pub invariant-loop-number : goal.invariant-loop-number
invariant-loop-number l = filter (is_meant l.reference) (take l.number l.self) ≡ option_to_list (option_map named_of l.found)
