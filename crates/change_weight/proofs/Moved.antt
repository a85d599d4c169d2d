-- A row that neither changed nor moved is kept.
use Rattle.std.proofs.Common.{◌≡◌, List, Bool, true, false, inl, inr, refl, sym, ◌∙◌, subst}
use Rattle.std.specs.Prelude.{◌≢◌, ◌⊎◌, ◌++◌, Contains, if◌then◌else◌}
use Rattle.std.specs.List.{list_any}
use Rattle.std.proofs.lemmas.List.Elements.{Contains-append_left, Contains-append_right}
use Rattle.own_base.specs.declared.change.Change.{Change}
use Rattle.own_base.specs.declared.row_name.RowName.{RowName}
use Rattle.own_model.specs.Db.{Db, IsOrdered}
use Rattle.owner_model.specs.Joins.{row_of}
use Rattle.subject_model.specs.Named.{is_name}
use Rattle.subject_model.specs.Owners.{owners, owns, reach, reaches, subjects}
use Rattle.subject_model.proofs.Members.{contains_any, contains_filter, contains_map, contains_of_filter}
use Rattle.subject_model.proofs.NamedLemmas.{one_name}
use Rattle.subject_model.proofs.OwnerLemmas.{owns_from, reaches_from}
use Rattle.subject_model.proofs.OwnerLists.{owners_rise, reach_rise, subject_row-ends, subjects_contain}
use Rattle.subject_model.proofs.RisingNames.{name_order, same_rising}
use Rattle.state_model.specs.LeadTo.{LeadTo}
use Rattle.state_model.specs.Weight.{weight}
use Rattle.state_model.proofs.OwnerCounts.{owner-reaches}
use Rattle.move_model.specs.declared.owner_move.OwnerMove.{OwnerMove}
use Rattle.move_model.specs.declared.owner_move.Standing.{Standing}
use Rattle.move_model.specs.declared.owner_move.Standing.TheVariants.{Nothing, Reaches, Owns}
use Rattle.move_model.specs.Moves.{AreMovesOf}
use Rattle.move_model.specs.Standing.{standing}
use Rattle.move_model.proofs.StandingLemmas.{is_listed, not_listed}
use Rattle.change_weight.specs.Touched.{AreTidied, changed_names, moved_names}
use Rattle.change_weight.specs.WeightAt.{names_weight}
use Rattle.change_weight.proofs.Exchange.{Exchanged, IsKept, exchanged}

-- two standings are one or differ
same_or_not : (one other : Standing) → (one ≡ other) ⊎ (one ≢ other)
same_or_not Nothing Nothing = inl refl
same_or_not Nothing Reaches = inr (λ is. cc)
same_or_not Nothing Owns = inr (λ is. cc)
same_or_not Reaches Nothing = inr (λ is. cc)
same_or_not Reaches Reaches = inl refl
same_or_not Reaches Owns = inr (λ is. cc)
same_or_not Owns Nothing = inr (λ is. cc)
same_or_not Owns Reaches = inr (λ is. cc)
same_or_not Owns Owns = inl refl

parts : (own reached owned all : Bool) → (own ≡ true → reached ≡ true) → (owned ≡ true → all ≡ true) → (if own then Owns else if reached then Reaches else Nothing) ≡ (if owned then Owns else if all then Reaches else Nothing)
    → (own ≡ owned) × (reached ≡ all)
parts true reached true all up ups is = (refl, up refl ∙ sym (ups refl))
parts true reached false true up ups is = let never : Owns ≡ Reaches = is in absurd (cc)
parts true reached false false up ups is = let never : Owns ≡ Nothing = is in absurd (cc)
parts false true true all up ups is = let never : Reaches ≡ Owns = is in absurd (cc)
parts false false true all up ups is = let never : Nothing ≡ Owns = is in absurd (cc)
parts false true false true up ups is = (refl, refl)
parts false true false false up ups is = let never : Reaches ≡ Nothing = is in absurd (cc)
parts false false false true up ups is = let never : Nothing ≡ Reaches = is in absurd (cc)
parts false false false false up ups is = (refl, refl)

-- who owns a row or reaches it is a subject
owner_listed : (db : Db) (subject name : RowName) → IsOrdered db → owns db subject name ≡ true → Contains (owners db name) subject
unfolding owners
owner_listed db subject name ordered is =
    let own = owns_from db subject name is in
    contains_filter (λ u. owns db u name) (subjects db) subject (subjects_contain db subject ordered (subject_row-ends db name own.path subject own.leads)) is

reacher_listed : (db : Db) (subject name : RowName) → IsOrdered db → reaches db subject name ≡ true → Contains (reach db name) subject
unfolding reach
reacher_listed db subject name ordered is =
    let own = reaches_from db subject name is in
    contains_filter (λ u. reaches db u name) (subjects db) subject (subjects_contain db subject ordered (subject_row-ends db name own.path subject own.leads)) is

listed_owner : (db : Db) (subject name : RowName) → Contains (owners db name) subject → owns db subject name ≡ true
unfolding owners
listed_owner db subject name among = (contains_of_filter (λ u. owns db u name) (subjects db) subject among).1

listed_reacher : (db : Db) (subject name : RowName) → Contains (reach db name) subject → reaches db subject name ≡ true
unfolding reach
listed_reacher db subject name among = (contains_of_filter (λ u. reaches db u name) (subjects db) subject among).1

module _ (before after : Db) (changes : List Change) (moves : List OwnerMove) (lead : LeadTo before after changes) (are : AreMovesOf before after moves)
    (names : List RowName) (touched : AreTidied (changed_names changes ++ moved_names moves) names) (name : RowName) (other : is_listed name names ≡ false) where
  not_gathered : Contains (changed_names changes ++ moved_names moves) name → ⊥
  not_gathered among = not_listed name names other ((touched.same name).1 among)

  unchanged : (b : Bool) → list_any (λ change. is_name change.name name) changes ≡ b → row_of before name ≡ row_of after name
  unchanged true some =
      let (change, among, passes) = contains_any (λ (change : Change). is_name change.name name) changes some in
      let its : change.name ≡ name = one_name change.name name passes in
      absurd (not_gathered (Contains-append_left (changed_names changes) (moved_names moves) name (subst (Contains (changed_names changes)) its (contains_map (λ (change : Change). change.name) changes change among))))
  unchanged false none = lead.others name none

  -- each subject stands to it as it did
  unmoved : (subject : RowName) → standing before subject name ≡ standing after subject name
  unmoved subject = by (same_or_not (standing before subject name) (standing after subject name))
    where
      by : (standing before subject name ≡ standing after subject name) ⊎ (standing before subject name ≢ standing after subject name) → standing before subject name ≡ standing after subject name
      by (inl same) = same
      by (inr differ) =
          let move : OwnerMove = record { name = name; subject = record { 0 = subject }; before = standing before subject name; after = standing after subject name } in
          let among : Contains moves move = (are.told move).1 (record { was = refl; is = refl; differ = differ }) in
          absurd (not_gathered (Contains-append_right (changed_names changes) (moved_names moves) name (contains_map (λ (move : OwnerMove). move.name) moves move among)))

  alike : (subject : RowName) → (owns before subject name ≡ owns after subject name) × (reaches before subject name ≡ reaches after subject name)
  alike subject =
      parts (owns before subject name) (reaches before subject name) (owns after subject name) (reaches after subject name) (owner-reaches before name subject) (owner-reaches after name subject) (unmoved subject)

  untouched_kept : IsOrdered before → IsOrdered after → IsKept before after name
  untouched_kept ordered orders =
      record {
        row = unchanged (list_any (λ change. is_name change.name name) changes) refl;
        owned = same_rising name_order (owners before name) (owners after name) (owners_rise before name ordered) (owners_rise after name orders) (λ subject. (
          (λ among. owner_listed after subject name orders (sym (alike subject).0 ∙ listed_owner before subject name among)),
          (λ among. owner_listed before subject name ordered ((alike subject).0 ∙ listed_owner after subject name among)),
        ));
        reached = same_rising name_order (reach before name) (reach after name) (reach_rise before name ordered) (reach_rise after name orders) (λ subject. (
          (λ among. reacher_listed after subject name orders (sym (alike subject).1 ∙ listed_reacher before subject name among)),
          (λ among. reacher_listed before subject name ordered ((alike subject).1 ∙ listed_reacher after subject name among)),
        ));
      }

-- The rows that changed and those that moved make the difference of what the two databases weigh.
pub moved_weight : (before after : Db) (changes : List Change) (moves : List OwnerMove) (names : List RowName) → after.schema ≡ before.schema → IsOrdered before → IsOrdered after
    → LeadTo before after changes → AreMovesOf before after moves → AreTidied (changed_names changes ++ moved_names moves) names
    → Exchanged (weight before) (weight after) (names_weight before names) (names_weight after names)
moved_weight before after changes moves names schema ordered orders lead are touched =
    exchanged before after schema ordered orders names touched.rising (λ name other. untouched_kept before after changes moves lead are names touched name other ordered orders)
