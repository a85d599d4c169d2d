-- The lead of a turn of whose value no call was made.
use Rattle.std.proofs.Common.{◌≡◌, ◌∙◌, ℕ, zero, suc, List, [], ◌∷◌, map, get_or, refl, ap}
use Rattle.std.specs.Prelude.{replicate}
use Rattle.std.specs.List.{AllByRecursion}
use Rattle.own_model.specs.declared.script.SessionCalls.{SessionCalls}
use Rattle.atomic_table.specs.Seated.{TableId}
use Rattle.commit_turn.specs.declared.pass.Pass.{Pass}
use Rattle.commit_turn.specs.declared.view.Stage.TheVariants.{Fresh}
use Rattle.commit_turn.specs.declared.view.View.{View}
use Rattle.commit_turn.specs.Flags.{raised}
use Rattle.commit_turn.specs.Kept.{is_out, places_in}
use Rattle.commit_turn.specs.Passes.{IsFresh, IsPassOf, base, count_out, kept, seen, start_of, view_of}
use Rattle.commit_turn.specs.Rule.{first, stage_of}

get_or_same : {X : Type 0} (x : X) (count at : ℕ) → get_or (replicate count x) at x ≡ x
get_or_same x zero at = refl
get_or_same x (suc count) zero = refl
get_or_same x (suc count) (suc at) = get_or_same x count at

module _ (lead : Pass) (begun : view_of lead ≡ first [] (start_of lead)) where
  -- it has given out no session's pass
  first_fresh : (session : ℕ) → IsFresh lead session
  first_fresh session = ap (λ view. stage_of view session) begun ∙ get_or_same Fresh 17 session

  pub all-fresh : (sessions : List SessionCalls) → AllByRecursion (λ own. IsFresh lead own.session.0) sessions
  all-fresh [] = tt
  all-fresh (own ∷ sessions) = (first_fresh own.session.0, all-fresh sessions)

  -- so it keeps nothing, and none is away
  pub kept-none : (session : ℕ) → kept lead session ≡ []
  kept-none session = ap places_in (first_fresh session)

  pub none-out : (turn : TableId) → IsPassOf turn lead → count_out lead ≡ 0
  none-out turn pass = ap raised (pass.out ∙ ap (λ (view : View). map is_out view.stages) begun)

  -- and has seen nothing
  pub seen-none : seen lead ≡ []
  seen-none = ap (λ (view : View). view.seen) begun

  pub base-none : base lead ≡ 0
  base-none = ap (λ (view : View). view.base) begun
