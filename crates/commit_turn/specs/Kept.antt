-- What the lead keeps of a session.
use Rattle.std.specs.Prelude.{ℕ, List, [], Bool, true, false}
use Rattle.commit_turn.specs.declared.view.Stage.{Stage}
use Rattle.commit_turn.specs.declared.view.Stage.TheVariants.{Fresh, Out, Joined}

-- the places of its joined pass, and none where none was joined
abbrev pub places_in : Stage → List ℕ
places_in Fresh = []
places_in Out = []
places_in (Joined places) = places

-- whether its pass is away
abbrev pub is_out : Stage → Bool
is_out Fresh = false
is_out Out = true
is_out (Joined places) = false
