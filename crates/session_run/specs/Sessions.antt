-- Sessions that are served side by side.
use Rattle.std.specs.Prelude.{◌≡◌, ◌≢◌, ◌≤◌, ℕ, List, [], ◌∷◌, map}
use Rattle.std.specs.List.{AllByRecursion}
use Rattle.own_model.specs.declared.limit.TheConstants.{SESSIONS}
use Rattle.own_model.specs.declared.script.SessionCalls.{SessionCalls}
use Rattle.commit_turn.specs.declared.pass.Pass.{Pass}
use Rattle.commit_turn.specs.Passes.{kept, seen}
use Rattle.session_run.specs.declared.replies.SessionReplies.{SessionReplies}
use Rattle.session_run.specs.Serving.{AreReadable, base_of}
use Rattle.session_run.specs.ToldCalls.{AreTold, places_told}

-- a number isn't among these
abbrev pub IsElsewhere : ℕ → List ℕ → Type 0
IsElsewhere session numbers = AllByRecursion (λ number. session ≢ number) numbers

-- each of these numbers stands once
abbrev pub StandOnce : List ℕ → Type 0
StandOnce [] = Unit {0}
StandOnce (number ∷ numbers) = IsElsewhere number numbers × StandOnce numbers

-- the numbers of sessions
abbrev pub numbers_of : List SessionCalls → List ℕ
numbers_of sessions = map (λ calls. calls.session.0) sessions

-- the numbers of a session's calls stand once
abbrev pub AreOwnNumbers : SessionCalls → Type 0
AreOwnNumbers own = StandOnce (map (λ asked. asked.0) own.calls)

-- calls that a session may make: it is one of the sessions that there are, and each call asks for what can be read
pub record IsServable (calls : SessionCalls) : Type 0 where
  pub first : 1 ≤ calls.session.0
  pub last : calls.session.0 ≤ SESSIONS
  pub readable : AreReadable calls.calls

-- A session's calls were made in their order, and each is told as the history has it that the lead has seen: the lead has
-- kept the places of those that were made, and these are all that the session has there.
pub record IsServed (lead : Pass) (calls : SessionCalls) (replies : SessionReplies) : Type 0 where
  pub session : replies.session ≡ calls.session
  pub told : AreTold (base_of lead) (seen lead) calls.session calls.calls replies.replies
  pub places : kept lead calls.session.0 ≡ places_told replies.replies

-- what is so of two lists, one by one
abbrev pub Pairwise : {X Y : Type 0} → (X → Y → Type 0) → List X → List Y → Type 0
Pairwise R [] [] = Unit {0}
Pairwise R [] (y ∷ ys) = ⊥
Pairwise R (x ∷ xs) [] = ⊥
Pairwise R (x ∷ xs) (y ∷ ys) = R x y × Pairwise R xs ys
