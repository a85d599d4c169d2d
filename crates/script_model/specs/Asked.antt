-- What the text of a call asks for.
use Rattle.std.specs.Prelude.{◌≡◌, ℕ, Bool, true, false, IsUtf8, List, [], ◌∷◌, length, nat_lt}
use Rattle.own_model.specs.declared.limit.LimitName.TheVariants as limit
use Rattle.own_model.specs.declared.limit.TheConstants.{STATEMENT_BYTES}
use Rattle.own_model.specs.declared.request.Request.{Request}
use Rattle.own_model.specs.declared.request.Request.TheVariants.{Syntax, Limit}
use Rattle.grammar_model.specs.Answer.{Answer, IsAnswer}
use Rattle.grammar_model.specs.Readable.{request_of}
use Rattle.script_model.specs.CallText.{CallText}

-- the request of a text that is read, which is UTF-8: what the grammar answers
pub record IsRead (bytes : List ℕ) (request : Request) : Type 0 where
  pub utf8 : IsUtf8 bytes
  pub answer : Answer
  pub answers : IsAnswer bytes answer
  pub gives : request ≡ request_of answer

-- the request of a text, by whether it is closed, and whether it is too long
abbrev pub IsAskedWhere : Bool → Bool → List ℕ → Request → Type 0
IsAskedWhere false long bytes request = request ≡ Syntax (length bytes)
IsAskedWhere true true bytes request = request ≡ Limit limit.Statement
IsAskedWhere true false bytes request = IsRead bytes request

-- A text that no semicolon closes is refused at its end; one of more than STATEMENT_BYTES bytes passes that limit; any
-- other is read.
abbrev pub IsAskedBy : CallText → Request → Type 0
IsAskedBy text request = IsAskedWhere text.closed (nat_lt STATEMENT_BYTES (length text.bytes)) text.bytes request

-- each text asks for its request
abbrev pub AreAskedBy : List CallText → List Request → Type 0
AreAskedBy [] [] = Unit {0}
AreAskedBy [] (request ∷ requests) = ⊥
AreAskedBy (text ∷ texts) [] = ⊥
AreAskedBy (text ∷ texts) (request ∷ requests) = IsAskedBy text request × AreAskedBy texts requests
