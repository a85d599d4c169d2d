-- What has the turn, when its value was changed.
use Rattle.commit_turn.specs.declared.held.Held.{Held}

abbrev pub held_with : {T : Type 0} → Held T → T → Held T
held_with held value = record held { value = value }
