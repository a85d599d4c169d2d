-- Which call an entry of a history is of.
use Rattle.std.specs.Prelude.{ℕ, Bool, true, false}
use Rattle.own_model.specs.declared.history.Entry.{Entry}
use Rattle.history_model.specs.Made.{Called, Want, Spared, Unshown, Unmade}

-- a call's session, and its number in the session
abbrev pub CallName : Type 0
CallName = ℕ × ℕ

-- the call that an entry is of
abbrev pub entry_name : Entry → CallName
entry_name entry = (entry.session.0, entry.call)

abbrev pub called_name : Called → CallName
called_name called = (called.call.session.0, called.call.call)

abbrev pub spares : Want → Bool
spares Spared = true
spares Unshown = true
spares Unmade = false

-- whether a call was made: memory didn't refuse it
abbrev pub was_made : Called → Bool
was_made called = spares called.want
