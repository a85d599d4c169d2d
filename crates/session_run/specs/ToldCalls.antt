-- What is told of the calls of a session, by a history.
use Rattle.std.specs.Prelude.{◌≡◌, ◌≢◌, ℕ, List, [], ◌∷◌, Bool, false, Option, Some, IfSome, slice_get}
use Rattle.std.specs.List.{filter_map}
use Rattle.std.specs.Option.{option_map_or}
use Rattle.own_base.specs.declared.number.SessionNo.{SessionNo}
use Rattle.own_model.specs.declared.request.Request.{Request}
use Rattle.own_model.specs.declared.script.ScriptCall.{ScriptCall}
use Rattle.own_model.specs.Db.{Db}
use Rattle.history_model.specs.History.{History, is_disk, reply}
use Rattle.history_model.specs.Made.{Called, Unmade, entry_of, place_by}
use Rattle.transcript_model.specs.Printed.{lines_at}
use Rattle.session_run.specs.declared.replies.Told.{Told}
use Rattle.session_run.specs.Telling.{place_number}

-- a call of a session, by its number and what it asks for
abbrev pub call_in : SessionNo → ℕ × Request → ScriptCall
call_in session asked = record { session = session; call = asked.0; request = asked.1 }

-- whether the entry at a place, if a call has one, was answered with a fault of the disk
abbrev pub fails_at : Db → History → Option ℕ → Bool
fails_at base history place = option_map_or (λ place. option_map_or is_disk (reply base history place) false) place false

-- A call of a session was made over a database, and its entry stands in the history at its place, with what the disk said of
-- it; or memory kept it from being made, and it has no place. Its lines, where there was memory for them, are those that the
-- history gives it there.
pub record IsTold (base : Db) (history : History) (session : SessionNo) (asked : ℕ × Request) (told : Told) : Type 0 where
  pub called : Called
  pub at : ℕ
  pub call_is : called.call ≡ call_in session asked
  pub number : told.call ≡ asked.0
  pub place : place_number told.place ≡ place_by called.want at
  pub stands : called.want ≢ Unmade → slice_get history at ≡ Some (entry_of called.call called.verdict)
  pub failed : told.failed ≡ fails_at base history (place_number told.place)
  pub lines : IfSome told.lines (λ text. text ≡ lines_at base history called (place_number told.place))

-- each of these calls of a session, in their order
abbrev pub AreTold : Db → History → SessionNo → List (ℕ × Request) → List Told → Type 0
AreTold base history session [] [] = Unit {0}
AreTold base history session [] (told ∷ tolds) = ⊥
AreTold base history session (asked ∷ calls) [] = ⊥
AreTold base history session (asked ∷ calls) (told ∷ tolds) = IsTold base history session asked told × AreTold base history session calls tolds

-- the places of the calls that have one, in the order of the calls
abbrev pub places_told : List Told → List ℕ
places_told tolds = filter_map (λ told. place_number told.place) tolds
