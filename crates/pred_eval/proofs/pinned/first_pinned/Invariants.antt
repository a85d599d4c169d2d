use Rattle.std.proofs.Common.{◌≡◌, [], take}
use Rattle.std.specs.List.{filter_map}
use Rattle.pred_eval.specs.Pinned.{pinned_alone}
use Rattle.pred_eval.proofs.pinned.first_pinned.Given as goal

-- no part so far pins a key
abbrev pub invariant-loop-part : goal.invariant-loop-part
invariant-loop-part l = filter_map (pinned_alone l.key_column.0) (take l.part-index l.parts) ≡ []
