-- Sessions that a FORGET dooms, one after another.
use Rattle.std.proofs.Common.{◌≡◌, ◌≢◌, ◌==◌, ◌∙◌, ◌+◌, ◌<◌, ◌≤◌, ℕ, List, [], Bool, true, false, ap, arith, inl, inr, refl, subst, sym}
use Rattle.std.specs.Prelude.{◌⊎◌, if◌then◌else◌}
use Rattle.std.proofs.lemmas.Bool.{eqb-false, eqb-true}
use Rattle.own_base.specs.declared.number.Place.{Place}
use Rattle.own_base.specs.declared.row_name.RowName.{RowName}
use Rattle.own_model.specs.declared.footprint.FootItem.{FootItem}
use Rattle.history_model.specs.History.{lie_on}
use Rattle.row_locks.specs.SessionItems.{items_by as held_by}
use Rattle.row_locks.specs.RepresentsItems.{AreHeld, RepresentsItems}
use Rattle.txn_core.specs.declared.session_state.SessionState.{SessionState}
use Rattle.txn_core.specs.SessionStates.{once_doomed}
use Rattle.txn_core.specs.Transactions.{AreOthersSame, IsSameOf, IsDoomedIf, Transactions}

-- each session below a number is as the FORGET leaves it, and the others are as they were
pub record AreDoomedBelow (number : ℕ) (names : List RowName) (place : Place) (before after : Transactions) : Type 0 where
  pub doomed : (held : ℕ → List FootItem) → AreHeld before.held held → (session : ℕ) → 1 ≤ session → session < number → IsDoomedIf (lie_on names (held session)) place session before after
  pub others : (session : ℕ) → (session ≡ 0) ⊎ (number ≤ session) → IsSameOf session before after

pub none_doomed : (names : List RowName) (place : Place) (before : Transactions) → AreDoomedBelow 1 names place before before
none_doomed names place before = record { doomed = λ held are session from below. absurd (omega arith); others = λ session outside. (refl, refl) }

outside_apart : (number session : ℕ) → 1 ≤ number → (session ≡ 0) ⊎ (number + 1 ≤ session) → session ≢ number
outside_apart number session from (inl none) = λ is. omega arith
outside_apart number session from (inr above) = λ is. omega arith

outside_before : (number session : ℕ) → (session ≡ 0) ⊎ (number + 1 ≤ session) → (session ≡ 0) ⊎ (number ≤ session)
outside_before number session (inl none) = inl none
outside_before number session (inr above) = inr (omega arith)

-- the session of the number is once_doomed next
module _ (names : List RowName) (place : Place) (before mid after : Transactions) (number : ℕ) (from : 1 ≤ number) (below : AreDoomedBelow number names place before mid)
    (dooms : (items : List FootItem) → RepresentsItems (held_by mid.held number) items → IsDoomedIf (lie_on names items) place number mid after)
    (others : AreOthersSame number mid after) where
  here : (held : ℕ → List FootItem) → AreHeld before.held held → IsDoomedIf (lie_on names (held number)) place number before after
  here held are =
      let same : IsSameOf number before mid = below.others number (inr (omega arith)) in
      let stands : RepresentsItems (held_by mid.held number) (held number) = subst (λ some. RepresentsItems some (held number)) (sym same.1) (are number) in
      let gives : IsDoomedIf (lie_on names (held number)) place number mid after = dooms (held number) stands in (
        gives.0 ∙ ap (λ (one : SessionState). if lie_on names (held number) then once_doomed place one else one) same.0,
        gives.1 ∙ ap (λ (items : List FootItem). if lie_on names (held number) then [] else items) same.1,
      )

  doomed_by : (held : ℕ → List FootItem) → AreHeld before.held held → (session : ℕ) → 1 ≤ session → session < number + 1 → (own : Bool) → (session == number) ≡ own
      → IsDoomedIf (lie_on names (held session)) place session before after
  doomed_by held are session first within true own = subst (λ one. IsDoomedIf (lie_on names (held one)) place one before after) (sym (eqb-true session number own)) (here held are)
  doomed_by held are session first within false apart =
      let other : session ≢ number = eqb-false session number apart in
      let under : session < number = omega arith in
      let gives : IsDoomedIf (lie_on names (held session)) place session before mid = below.doomed held are session first under in
      (others.states session other ∙ gives.0, others.held session other ∙ gives.1)

  pub next_doomed : AreDoomedBelow (number + 1) names place before after
  next_doomed = record {
    doomed = λ held are session first within. doomed_by held are session first within (session == number) refl;
    others = λ session outside.
        let other : session ≢ number = outside_apart number session from outside in
        let same : IsSameOf session before mid = below.others session (outside_before number session outside) in
        (others.states session other ∙ same.0, others.held session other ∙ same.1);
  }
