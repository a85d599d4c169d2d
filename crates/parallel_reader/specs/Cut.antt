-- The texts of an input's calls, as they are cut from it.
use Rattle.std.specs.Prelude.{◌≡◌, ◌≤◌, List, [], ◌∷◌, ◌++◌, length}
use Rattle.own_model.specs.declared.limit.TheConstants.{INPUT_BYTES, SESSIONS}
use Rattle.script_model.specs.CallText.{CallText, Part}
use Rattle.script_model.specs.Script.{faults_after, texts_in}
use Rattle.parallel_reader.specs.declared.unread.Unread.{Unread}

-- the text of a call was cut: its session, which is one of the sessions, its bytes, which are no more than an input may have, and
-- whether it is closed
pub record IsCut (text : CallText) (unread : Unread) : Type 0 where
  pub session : text.session ≡ unread.session.0
  pub some : 1 ≤ unread.session.0
  pub within : unread.session.0 ≤ SESSIONS
  pub bytes : text.bytes ≡ unread.text.now
  pub short : length unread.text.now ≤ INPUT_BYTES
  pub closed : text.closed ≡ unread.closed

-- each of the texts was
abbrev pub AreCut : List CallText → List Unread → Type 0
AreCut [] [] = Unit {0}
AreCut [] (unread ∷ more) = ⊥
AreCut (text ∷ texts) [] = ⊥
AreCut (text ∷ texts) (unread ∷ more) = IsCut text unread × AreCut texts more

-- Behind these, nothing is wrong with the parts, and their texts are added.
pub record Cuts (before : List Unread) (parts : List Part) (after : List Unread) : Type 0 where
  pub more : List Unread
  pub cut : AreCut (texts_in parts) more
  pub right : faults_after (length before) parts ≡ []
  pub added : after ≡ before ++ more
