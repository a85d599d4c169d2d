-- The calls of a large script.
use Rattle.std.specs.Prelude.{◌≡◌, ℕ, List, [], ◌∷◌, ◌++◌, map}
use Rattle.own_model.specs.declared.request.Request.{Request}
use Rattle.own_model.specs.declared.request.Request.TheVariants.{End}
use Rattle.own_model.specs.declared.script.ScriptCall.{ScriptCall}
use Rattle.script_model.specs.Asked.{IsRead}
use Rattle.script_model.specs.Numbered.{Asking, numbered_after}
use Rattle.made_model.specs.MadeTexts.{made_texts}

-- each text asks for its request
abbrev pub AreRead : List (List ℕ) → List Request → Type 0
AreRead [] [] = Unit {0}
AreRead [] (request ∷ requests) = ⊥
AreRead (text ∷ texts) [] = ⊥
AreRead (text ∷ texts) (request ∷ requests) = IsRead text request × AreRead texts requests

-- it is asked for in the first session
abbrev pub in_one_session : Request → Asking
in_one_session request = record { session = 1; request = request }

-- the calls that ask for these, one after another
abbrev pub calls_asking : List Request → List ScriptCall
calls_asking requests = numbered_after [] (map in_one_session requests)

-- the calls of so many people and a seed, all of the first session, and its End
pub record IsMade (people seed : ℕ) (calls : List ScriptCall) : Type 0 where
  pub requests : List Request
  pub read : AreRead (made_texts people seed) requests
  pub calls_are : calls ≡ calls_asking (requests ++ End ∷ [])
