-- How subjects stand to a row by what is held, and which stand otherwise than before.
use Rattle.std.specs.Prelude.{◌≡◌, ◌≢◌, ◌↔◌, List, ◌++◌, Bool, true, false, not, Contains, if◌then◌else◌}
use Rattle.std.specs.List.{list_any}
use Rattle.std.specs.List.Sorted.{IsStrictlySortedBy}
use Rattle.own_base.specs.declared.row_name.RowName.{RowName}
use Rattle.own_base.specs.declared.row_name.Subject.{Subject}
use Rattle.subject_model.specs.Named.{is_name}
use Rattle.owner_sets.specs.SubjectOrder.{subject_cmp}
use Rattle.move_model.specs.declared.owner_move.OwnerMove.{OwnerMove}
use Rattle.move_model.specs.declared.owner_move.Standing.{Standing}
use Rattle.move_model.specs.declared.owner_move.Standing.TheVariants.{Nothing, Reaches, Owns}
use Rattle.move_model.specs.MoveOrder.{move_cmp}
use Rattle.owner_index.specs.Entry.{Entry}
use Rattle.owner_index.specs.Held.{owners_of, reach_of}

-- the subjects that are held rise, those of each row
pub record DoRise (entries : List Entry) : Type 0 where
  pub owners : (name : RowName) → IsStrictlySortedBy subject_cmp (owners_of entries name)
  pub reach : (name : RowName) → IsStrictlySortedBy subject_cmp (reach_of entries name)

-- whether a subject is one of these
abbrev pub is_among : Subject → List Subject → Bool
is_among subject subjects = list_any (λ other. is_name other.0 subject.0) subjects

-- how a subject stands to a row of which these are held
abbrev pub standing_in : List Subject → List Subject → Subject → Standing
standing_in owners reach subject = if is_among subject owners then Owns else if is_among subject reach then Reaches else Nothing

abbrev pub held_standing : List Entry → RowName → Subject → Standing
held_standing entries name subject = standing_in (owners_of entries name) (reach_of entries name) subject

-- whether two are the same
abbrev pub is_same : Standing → Standing → Bool
is_same Nothing Nothing = true
is_same Reaches Reaches = true
is_same Owns Owns = true
is_same _ _ = false

-- how a subject stood and stands to a row
abbrev pub move_at : List Entry → List Entry → RowName → Subject → OwnerMove
move_at old new name subject = record {
  name = name;
  subject = subject;
  before = held_standing old name subject;
  after = held_standing new name subject;
}

-- whether it stands otherwise than before
abbrev pub is_move : OwnerMove → Bool
is_move move = not (is_same move.before move.after)

-- all who reached a row or reach it
abbrev pub reachers : List Entry → List Entry → RowName → List Subject
reachers old new name = reach_of old name ++ reach_of new name

-- one of them stands otherwise than before
pub record IsHeldMove (old new : List Entry) (move : OwnerMove) : Type 0 where
  pub was : move.before ≡ held_standing old move.name move.subject
  pub is : move.after ≡ held_standing new move.name move.subject
  pub differ : move.before ≢ move.after
  pub reacher : Contains (reachers old new move.name) move.subject

-- the moves of one row come behind others
pub record AddsMoves (old new : List Entry) (name : RowName) (moves more : List OwnerMove) : Type 0 where
  pub own : List OwnerMove
  pub added : more ≡ moves ++ own
  pub told : (move : OwnerMove) → Contains own move ↔ ((move.name ≡ name) × IsHeldMove old new move)
  pub rise : IsStrictlySortedBy move_cmp own

-- the moves of some rows
pub record AreHeldMoves (old new : List Entry) (names : List RowName) (moves : List OwnerMove) : Type 0 where
  pub told : (move : OwnerMove) → Contains moves move ↔ (Contains names move.name × IsHeldMove old new move)
  pub rise : IsStrictlySortedBy move_cmp moves
