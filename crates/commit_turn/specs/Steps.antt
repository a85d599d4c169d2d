-- What each step on the words of a turn tells, and what it makes of a view.
use Rattle.std.specs.Prelude.{◌≡◌, ◌≢◌, ◌⊎◌, ℕ, List, [], ◌∷◌, ◌++◌, true, false, ltb, Option, Some, length, slice_set, if◌then◌else◌}
use mathlib.Core.List.{IsPrefix}
use Rattle.own_model.specs.declared.history.Entry.{Entry}
use Rattle.turn_model.specs.Start.{Start, nothing}
use Rattle.atomic_table.specs.Table.{Me}
use Rattle.commit_turn.specs.declared.view.Stage.TheVariants.{Out, Joined}
use Rattle.commit_turn.specs.declared.view.View.{View}
use Rattle.commit_turn.specs.Rule.{none_given}

-- a view that has the turn, with the history that it found
abbrev pub holding : View → List Entry → View
holding view found = record view { holds = true; seen = found }

-- the place of an entry that is added behind those seen, where one is
abbrev pub added_place : List Entry → List Entry → List ℕ
added_place seen entries = if ltb (length seen) (length entries) then length seen ∷ [] else []

-- a view that has seen what it gives back
abbrev pub counted : View → List Entry → View
counted view entries = record view { seen = entries; places = view.places ++ added_place view.seen entries }

-- a view that has given the turn back
abbrev pub released : View → View
released view = record view { holds = false }

-- the lead when a pass of a session was split off, and that pass
abbrev pub lead_without : ℕ → View → View
lead_without session view = record view { stages = slice_set view.stages session Out }

abbrev pub split_off : ℕ → View → View
split_off session view = record view { lead = false; session = session; places = []; stages = none_given; was = []; heard = [] }

-- the longer of two histories
abbrev pub longer : List Entry → List Entry → List Entry
longer one other = if ltb (length one) (length other) then other else one

-- the lead when a pass was joined to it
abbrev pub lead_with : View → View → View
lead_with view done = record view {
  seen = longer view.seen done.seen;
  stages = slice_set view.stages done.session (Joined done.places);
  was = view.seen;
  heard = done.seen;
}

-- what is left of the pass
abbrev pub spent : View
spent = record {
  live = false;
  lead = false;
  holds = false;
  session = 0;
  seen = [];
  places = [];
  stages = [];
  was = [];
  heard = [];
  base = 0;
  start = nothing;
}

-- What may be given back: the entries that were found, or one more, of the view's session.
abbrev pub MayCount : View → List Entry → Type 0
MayCount view entries = (entries ≡ view.seen)
    ⊎ ((view.lead ≡ false) × ((entry : Entry) × (entry.session.0 ≡ view.session) × (entries ≡ view.seen ++ entry ∷ [])))

module _ {T : Type 0} (history : T → List Entry) where
  -- the turn was taken, with the value in the slot, whose entries begin with all that was seen
  abbrev pub HasTaken : (T → Start) → Me (Option T) View → Me (Option T) View → Type 0
  HasTaken start before after =
      (value : T) × (after ≡ (holding before.0 (history value), (0, Some value) ∷ [])) × IsPrefix before.0.seen (history value) × (start value ≡ before.0.start)

  -- it was taken where its word was 0
  abbrev pub Takes : (T → Start) → Me (Option T) View → ℕ → Me (Option T) View → Type 0
  Takes start before found after = (found ≡ 0 → HasTaken start before after) × (found ≢ 0 → after ≡ before)

  -- the entries of the value that is carried were counted
  abbrev pub Counts : Me (Option T) View → Me (Option T) View → Type 0
  Counts before after = (value : T) → before.1 ≡ (0, Some value) ∷ [] → after ≡ (counted before.0 (history value), before.1)

-- the turn was given back
abbrev pub Releases : {T : Type 0} → Me (Option T) View → Me (Option T) View → Type 0
Releases before after = after ≡ (released before.0, [])

-- what the lead has seen begins with what it and the joined pass had seen
abbrev pub Hears : {T : Type 0} → Me (Option T) View → Me (Option T) View → Type 0
Hears before after = (after ≡ before) × IsPrefix before.0.was before.0.seen × IsPrefix before.0.heard before.0.seen
