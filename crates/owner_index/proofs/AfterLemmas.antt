-- What is held after changes, and the moves.
use Rattle.std.proofs.Common.{◌≡◌, List, [], ◌∷◌, map, Bool, true, false, cond, refl, ap, sym, ◌∙◌, subst}
use Rattle.std.specs.Prelude.{◌||◌, Contains}
use Rattle.std.specs.List.{AllByRecursion}
use Rattle.std.specs.List.Sorted.{IsStrictlySortedBy}
use Rattle.std.specs.declared.cmp.Ordering.TheVariants.{Less}
use Rattle.std.proofs.lemmas.List.Elements.{Contains-append_left, Contains-append_right}
use Rattle.own_base.specs.declared.change.Change.{Change}
use Rattle.own_base.specs.declared.row_name.RowName.{RowName}
use Rattle.own_base.specs.declared.row_name.Subject.{Subject}
use Rattle.own_model.specs.Db.{Db, IsOrdered}
use Rattle.schema_model.specs.OwnerSchema.{IsOwnerSchema}
use Rattle.state_model.specs.LeadTo.{LeadTo}
use Rattle.subject_model.specs.NameOrder.{name_cmp}
use Rattle.owner_sets.specs.SubjectOrder.{subject_cmp}
use Rattle.subject_model.specs.Named.{is_name}
use Rattle.subject_model.specs.Owners.{Owns, owners, owns, reach, reaches}
use Rattle.subject_model.proofs.Members.{contains_map}
use Rattle.subject_model.proofs.OwnerLemmas.{owns_from, reaches_from}
use Rattle.subject_model.proofs.OwnerLists.{owners_rise, reach-iff_Reaches, reach_rise}
use Rattle.move_model.specs.declared.owner_move.OwnerMove.{OwnerMove}
use Rattle.move_model.specs.declared.owner_move.Standing.TheVariants.{Nothing, Reaches as ReachesAlone, Owns as OwnsIt}
use Rattle.move_model.specs.KeepsEdges.{KeepsEdges}
use Rattle.move_model.specs.Moves.{AreMovesOf, IsMoveOf}
use Rattle.move_model.specs.Standing.{standing}
use Rattle.move_model.proofs.StandingLemmas.{is_listed, listed_contains, not_listed, standing-by, standing_by}
use Rattle.link_model.specs.Whose.{as_subject}
use Rattle.owner_index.specs.Entry.{Entry}
use Rattle.owner_index.specs.declared.which.Which.TheVariants.{Owners, Reach}
use Rattle.owner_index.specs.Before.{IsBefore}
use Rattle.owner_index.specs.Held.{IsRight, StandsFor, owners_of, reach_of}
use Rattle.owner_index.specs.HeldMoves.{AreHeldMoves, DoRise, IsHeldMove, held_standing, is_among, reachers, standing_in}
use Rattle.owner_index.specs.Names.{AreTidied}
use Rattle.owner_index.specs.Settled.{SettlesAll}
use Rattle.owner_index.specs.UnderWay.{ComesFrom}
use Rattle.owner_index.proofs.TablesLemmas.{right_stands, stands_right}

-- a subject is one of these where its name is one of theirs
among_names : (subject : Subject) (names : List RowName) → is_among subject (map as_subject names) ≡ is_listed subject.0 names
among_names subject [] = refl
among_names subject (name ∷ names) = ap (λ b. is_name name subject.0 || b) (among_names subject names)

standing_names : (subject : Subject) (own all : List RowName) → standing_in (map as_subject own) (map as_subject all) subject ≡ standing_by own all subject.0
standing_names subject own all = λ i. cond (among_names subject own i) OwnsIt (cond (among_names subject all i) ReachesAlone Nothing)

-- by what is held a subject stands to a row as it does, where that is right
held_right : (db : Db) (entries : List Entry) (name : RowName) (subject : Subject) → IsOrdered db → IsOwnerSchema db.schema → IsRight db entries name → held_standing entries name subject ≡ standing db subject.0 name
held_right db entries name subject ordered owner right =
    (λ i. standing_in (right Owners i) (right Reach i) subject) ∙ (standing_names subject (owners db name) (reach db name) ∙ sym (standing-by db ordered owner subject.0 name))

-- who doesn't reach a row stands in no way to it
no_standing : (db : Db) (name subject : RowName) → IsOrdered db → IsOwnerSchema db.schema → ¬ (Contains (reach db name) subject) → standing db subject name ≡ Nothing
no_standing db name subject ordered owner absent = by (owns db subject name) refl (reaches db subject name) refl
  where
    by : (b : Bool) → owns db subject name ≡ b → (d : Bool) → reaches db subject name ≡ d → standing db subject name ≡ Nothing
    by true is d other =
        let own : Owns db subject name = owns_from db subject name is in
        absurd (absent ((reach-iff_Reaches db name subject ordered owner).1 (record { path = own.path; leads = own.leads })))
    by false is true other = absurd (absent ((reach-iff_Reaches db name subject ordered owner).1 (reaches_from db subject name other)))
    by false is false other = rw (is, other) refl

all_less : (first : RowName) (names : List RowName) → AllByRecursion (λ name. name_cmp first name ≡ Less) names → AllByRecursion (λ subject. subject_cmp (as_subject first) subject ≡ Less) (map as_subject names)
all_less first [] all = tt
all_less first (name ∷ names) all = (all.0, all_less first names all.1)

subjects_rise : (names : List RowName) → IsStrictlySortedBy name_cmp names → IsStrictlySortedBy subject_cmp (map as_subject names)
unfolding IsStrictlySortedBy
subjects_rise [] rising = tt
subjects_rise (name ∷ names) rising = (all_less name names rising.0, subjects_rise names rising.1)

-- what is right rises
pub right_rises : (db : Db) (entries : List Entry) → IsOrdered db → ((name : RowName) → IsRight db entries name) → DoRise entries
right_rises db entries ordered right =
    record {
      owners = λ name. subst (IsStrictlySortedBy subject_cmp) (sym (right name Owners)) (subjects_rise (owners db name) (owners_rise db name ordered));
      reach = λ name. subst (IsStrictlySortedBy subject_cmp) (sym (right name Reach)) (subjects_rise (reach db name) (reach_rise db name ordered));
    }

module _ (before after : Db) (ordered : IsOrdered before) (also : IsOrdered after) (owner : IsOwnerSchema after.schema) (schema : after.schema ≡ before.schema)
    (old new : List Entry) (was : (name : RowName) → IsRight before old name) (right : (name : RowName) → IsRight after new name) where
  had : IsOwnerSchema before.schema
  had = subst IsOwnerSchema schema owner

  stood : (move : OwnerMove) → held_standing old move.name move.subject ≡ standing before move.subject.0 move.name
  stood move = held_right before old move.name move.subject ordered had (was move.name)

  stands : (move : OwnerMove) → held_standing new move.name move.subject ≡ standing after move.subject.0 move.name
  stands move = held_right after new move.name move.subject also owner (right move.name)

  -- who stands otherwise than before reached the row or reaches it
  reacher_of : (move : OwnerMove) → IsMoveOf before after move → Contains (reachers old new move.name) move.subject
  reacher_of move is = by (is_listed move.subject.0 (reach before move.name)) refl (is_listed move.subject.0 (reach after move.name)) refl
    where
      listed_reach : (db : Db) (entries : List Entry) → IsRight db entries move.name → is_listed move.subject.0 (reach db move.name) ≡ true → Contains (reach_of entries move.name) move.subject
      listed_reach db entries holds listed =
          subst (λ list. Contains list move.subject) (sym (holds Reach)) (contains_map as_subject (reach db move.name) move.subject.0 (listed_contains move.subject.0 (reach db move.name) listed))

      by : (b : Bool) → is_listed move.subject.0 (reach before move.name) ≡ b → (d : Bool) → is_listed move.subject.0 (reach after move.name) ≡ d → Contains (reachers old new move.name) move.subject
      by true one d other = Contains-append_left (reach_of old move.name) (reach_of new move.name) move.subject (listed_reach before old (was move.name) one)
      by false one true other = Contains-append_right (reach_of old move.name) (reach_of new move.name) move.subject (listed_reach after new (right move.name) other)
      by false one false other =
          let none_before = no_standing before move.name move.subject.0 ordered had (not_listed move.subject.0 (reach before move.name) one) in
          let none_after = no_standing after move.name move.subject.0 also owner (not_listed move.subject.0 (reach after move.name) other) in
          absurd (is.differ (is.was ∙ (none_before ∙ sym (is.is ∙ none_after))))

  module _ (work names : List RowName) (moves : List OwnerMove) (tidied : AreTidied work names) (are : AreHeldMoves old new names moves)
      (same_owners : (name : RowName) → ¬ (Contains work name) → owners_of new name ≡ owners_of old name) (same_reach : (name : RowName) → ¬ (Contains work name) → reach_of new name ≡ reach_of old name) where
    to_moves : (move : OwnerMove) → Contains moves move → IsMoveOf before after move
    to_moves move among =
        let held : IsHeldMove old new move = ((are.told move).0 among).1 in
        record { was = held.was ∙ stood move; is = held.is ∙ stands move; differ = held.differ }

    -- a row whose subject stands otherwise is one of those that were looked at
    looked_at : (move : OwnerMove) → IsMoveOf before after move → Contains names move.name
    looked_at move is = by (is_listed move.name work) refl
      where
        by : (b : Bool) → is_listed move.name work ≡ b → Contains names move.name
        by true listed = (tidied.same move.name).1 (listed_contains move.name work listed)
        by false none =
            let absent = not_listed move.name work none in
            let same : held_standing new move.name move.subject ≡ held_standing old move.name move.subject = λ i. standing_in (same_owners move.name absent i) (same_reach move.name absent i) move.subject in
            absurd (is.differ (is.was ∙ (sym (stood move) ∙ (sym same ∙ (stands move ∙ sym is.is)))))

    of_moves : (move : OwnerMove) → IsMoveOf before after move → Contains moves move
    of_moves move is =
        (are.told move).1 (looked_at move is, record { was = is.was ∙ sym (stood move); is = is.is ∙ sym (stands move); differ = is.differ; reacher = reacher_of move is })

    -- the moves by what is held are all the moves
    pub held_moves : AreMovesOf before after moves
    held_moves = record { told = λ move. (to_moves move, of_moves move); rise = are.rise }

module _ (db : Db) (ordered : IsOrdered db) (owner : IsOwnerSchema db.schema) (changes : List Change) (old new : List Entry) (touched work : List RowName)
    (untouched : (before : Db) → db.schema ≡ before.schema → LeadTo before db changes → (name : RowName) → ¬ (Contains touched name) → KeepsEdges before db name)
    (settles : SettlesAll db old new touched work) where
  comes_from : (before : Db) → IsBefore before db changes old → ComesFrom before db old touched
  comes_from before is = record { ordered = is.ordered; schema = is.schema; stands = is.stands; untouched = untouched before is.schema is.leads }

  -- what is held stands for the state after the changes
  pub stands_after : (before : Db) → IsBefore before db changes old → StandsFor db new
  stands_after before is = right_stands db new (settles.right before (comes_from before is))

  -- and the moves are exact
  pub moves_after : (names : List RowName) (moves : List OwnerMove) → AreTidied work names → (DoRise old → DoRise new → AreHeldMoves old new names moves) → (before : Db) → IsBefore before db changes old → AreMovesOf before db moves
  moves_after names moves tidied are before is =
      held_moves before db is.ordered ordered owner is.schema old new (stands_right before old is.stands) (settles.right before (comes_from before is)) work names moves tidied
      (are (right_rises before old is.ordered (stands_right before old is.stands)) (right_rises db new ordered (settles.right before (comes_from before is))))
      (settles.rest Owners) (settles.rest Reach)
