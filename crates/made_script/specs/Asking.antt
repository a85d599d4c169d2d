-- Calls that ask for texts.
use Rattle.std.specs.Prelude.{◌≡◌, ℕ, List, ◌++◌}
use Rattle.own_model.specs.declared.request.Request.{Request}
use Rattle.own_model.specs.declared.script.ScriptCall.{ScriptCall}
use Rattle.made_model.specs.Made.{AreRead, calls_asking}

-- the calls of the first session that ask for these texts, one after another
pub record AskFor (texts : List (List ℕ)) (calls : List ScriptCall) : Type 0 where
  pub requests : List Request
  pub read : AreRead texts requests
  pub calls_are : calls ≡ calls_asking requests

-- the calls that came to be these ask for these texts besides, behind all that they asked for before
pub record AskMore (old : List ScriptCall) (texts : List (List ℕ)) (new : List ScriptCall) : Type 0 where
  pub behind : (before : List (List ℕ)) → AskFor before old → AskFor (before ++ texts) new
