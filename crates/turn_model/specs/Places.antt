-- At which places of a history a session's entries stand.
use Rattle.std.specs.Prelude.{ℕ, ◌+◌, List, [], ◌∷◌, ◌==◌, drop, if◌then◌else◌}
use Rattle.own_model.specs.declared.history.Entry.{Entry}

-- the places of a session's entries, in order, among entries that are numbered from here on
unfoldable pub places_from : ℕ → ℕ → List Entry → List ℕ
places_from place session [] = []
places_from place session (entry ∷ entries) =
    if entry.session.0 == session then place ∷ places_from (place + 1) session entries else places_from (place + 1) session entries

-- the same in a history, beyond so many of its entries
abbrev pub places_beyond : ℕ → ℕ → List Entry → List ℕ
places_beyond base session entries = places_from base session (drop base entries)
