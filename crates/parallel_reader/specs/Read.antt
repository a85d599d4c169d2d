-- The texts of an input's calls, as they are read and numbered.
use Rattle.std.specs.Prelude.{◌≡◌, ◌<◌, ◌≤◌, ◌^◌, List, [], ◌∷◌, Some, IfSome, length, map, nat_lt}
use Rattle.own_base.specs.declared.number.SessionNo.{SessionNo}
use Rattle.own_model.specs.declared.limit.TheConstants.{SESSIONS, STATEMENT_BYTES}
use Rattle.own_model.specs.declared.request.Request.{Request}
use Rattle.own_model.specs.declared.script.ScriptCall.{ScriptCall}
use Rattle.script_model.specs.Asked.{IsAskedWhere}
use Rattle.script_model.specs.Numbered.{calls_of}
use Rattle.sql_reader.specs.scripts.Counts.{asking_of}
use Rattle.parallel_reader.specs.declared.unread.Unread.{Unread}

-- a text that can be read
abbrev pub IsShort : Unread → Type 0
IsShort unread = length unread.text.now < 2 ^ 32

-- a text of one of the sessions
abbrev pub IsOfOne : Unread → Type 0
IsOfOne unread = (1 ≤ unread.session.0) × (unread.session.0 ≤ SESSIONS)

-- the text was read, if memory wasn't refused, and is the same
pub record IsReadFrom (old new : Unread) : Type 0 where
  pub session : new.session ≡ old.session
  pub text : new.text ≡ old.text
  pub closed : new.closed ≡ old.closed
  pub asks : IfSome new.request (λ request. IsAskedWhere old.closed (nat_lt STATEMENT_BYTES (length old.text.now)) old.text.now request)

-- each of the texts was
abbrev pub AreReadFrom : List Unread → List Unread → Type 0
AreReadFrom [] [] = Unit {0}
AreReadFrom [] (new ∷ read) = ⊥
AreReadFrom (old ∷ unread) [] = ⊥
AreReadFrom (old ∷ unread) (new ∷ read) = IsReadFrom old new × AreReadFrom unread read

-- what a session asks for is what its text was read as
abbrev pub IsAsked : Unread → SessionNo × Request → Type 0
IsAsked unread asked = (asked.0 ≡ unread.session) × (unread.request ≡ Some asked.1)

abbrev pub AreAsked : List Unread → List (SessionNo × Request) → Type 0
AreAsked [] [] = Unit {0}
AreAsked [] (asked ∷ more) = ⊥
AreAsked (unread ∷ read) [] = ⊥
AreAsked (unread ∷ read) (asked ∷ more) = IsAsked unread asked × AreAsked read more

-- the calls are those that the texts were read as, numbered, with their Ends
pub record NumbersTexts (read : List Unread) (calls : List ScriptCall) : Type 0 where
  pub asked : List (SessionNo × Request)
  pub are_asked : AreAsked read asked
  pub numbered : calls ≡ calls_of (map asking_of asked)
