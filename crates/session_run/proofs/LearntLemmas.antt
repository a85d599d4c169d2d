-- What a worker has learnt of the schema stays so as the history grows, and what is bound over that is bound ahead.
use Rattle.std.proofs.Common.{◌≡◌, ◌∙◌, ◌⊎◌, ⊎_elim, Option, None, Some, ap, refl, subst, sym}
use Rattle.std.specs.Prelude.{IfSome}
use mathlib.Core.List.{IsPrefix}
use Rattle.own_model.specs.declared.history.Entry.{Entry}
use Rattle.own_model.specs.declared.request.Request.{Request}
use Rattle.own_model.specs.Db.{Db}
use Rattle.query_model.specs.BoundStatement.{bound_statement}
use Rattle.history_model.specs.History.{History, flat}
use Rattle.serve_model.specs.Ahead.{IsBoundAhead}
use Rattle.serve_model.specs.declared.ahead.Ahead.{Ahead}
use Rattle.serve_model.specs.declared.step.Step.{Step}
use Rattle.serve_model.specs.declared.step.Step.TheVariants.{Answered, Look, NoMemory}
use Rattle.serve_model.specs.Steps.{Steps}
use Rattle.commit_turn.specs.declared.pass.Pass.{Pass}
use Rattle.commit_turn.specs.Passes.{seen}
use Rattle.commit_turn.proofs.Prefixes.{prefix_trans}
use Rattle.session_run.specs.declared.learning.Learnt.{Learnt}
use Rattle.session_run.specs.Learning.{IsBoundOver, IsLearnt, IsSchemaOf, IsWithin, LearnsBy}
use Rattle.session_run.specs.Serving.{MakesByPass, base_of}
use Rattle.session_run.proofs.PassLemmas.{left_begins}

-- what is known is so behind more entries
module _ (base : Db) (history more : History) (grows : IsPrefix history more) where
  pub ahead-grows : (request : Request) (ahead : Option Ahead) → IfSome ahead (IsBoundAhead base history request) → IfSome ahead (IsBoundAhead base more request)
  ahead-grows request None bound = tt
  ahead-grows request (Some ahead) bound = record {
    before = bound.before;
    asked = bound.asked;
    begins = prefix_trans bound.before history more bound.begins grows;
    creates = bound.creates;
    asks = bound.asks;
    means = bound.means;
  }

  learnt-grows : (learnt : Option Learnt) → IfSome learnt (IsLearnt base history) → IfSome learnt (IsLearnt base more)
  learnt-grows None known = tt
  learnt-grows (Some learnt) known = record { before = known.before; begins = prefix_trans known.before history more known.begins grows; is_of = known.is_of }

-- statements may be bound over it
pub learnt-within : (base : Db) (history : History) (learnt : Option Learnt) → IfSome learnt (IsLearnt base history) → IfSome learnt IsWithin
learnt-within base history None known = tt
learnt-within base history (Some learnt) known = known.is_of.within

-- what is bound over it is bound ahead
pub bound-over : (base : Db) (history : History) (learnt : Option Learnt) (request : Request) (ahead : Option Ahead) → IfSome learnt (IsLearnt base history)
    → IfSome ahead (λ ahead. (known : Learnt) × (learnt ≡ Some known) × IsBoundOver known request ahead) → IfSome ahead (IsBoundAhead base history request)
bound-over base history learnt request None known over = tt
bound-over base history learnt request (Some ahead) known over =
    let is : IsLearnt base history over.0 = subst (λ learnt. IfSome learnt (IsLearnt base history)) over.1 known in
    let bound : IsBoundOver over.0 request ahead = over.2 in
    record {
      before = is.before;
      asked = bound.asked;
      begins = is.begins;
      creates = bound.creates ∙ is.is_of.creates_are;
      asks = bound.asks;
      means = ap (λ schema. bound_statement schema bound.asked) (sym is.is_of.schema_is) ∙ bound.means;
    }

module _ {S : Type 0} (shows : S → Db) (base : Db) (found left : History) (call : Entry) where
  shown_learnt : (shown : Db) → shown ≡ flat base found → IsPrefix found left → (later : Option Learnt) → IfSome later (IsSchemaOf shown) → IfSome later (IsLearnt base left)
  shown_learnt shown same begins None of = tt
  shown_learnt shown same begins (Some known) of = record { before = found; begins = begins; is_of = subst (λ db. IsSchemaOf db known) same of }

  -- what a call came to is learnt of
  step_learnt : (step : Step S) → Steps shows base found left call step → (learnt later : Option Learnt) → LearnsBy shows step learnt later
      → IfSome learnt (IsLearnt base left) → IfSome later (IsLearnt base left)
  step_learnt (Answered place told) steps learnt later is known = subst (λ learnt. IfSome learnt (IsLearnt base left)) (sym is) known
  step_learnt (Look place shown bound) steps learnt later is known =
      ⊎_elim (λ same. subst (λ learnt. IfSome learnt (IsLearnt base left)) (sym same) known)
      (λ of. shown_learnt (shows shown) steps.same (left_begins shows base found left call (Look place shown bound) steps) later of) is
  step_learnt NoMemory steps learnt later is known = subst (λ learnt. IfSome learnt (IsLearnt base left)) (sym is) known

-- and behind a call that a pass made
pub learnt-by : {S : Type 0} (shows : S → Db) (old new : Pass) (call : Entry) (step : Step S) (learnt later : Option Learnt) → MakesByPass shows old new call step
    → LearnsBy shows step learnt later → IfSome learnt (IsLearnt (base_of old) (seen old)) → IfSome later (IsLearnt (base_of new) (seen new))
learnt-by shows old new call step learnt later made learns known =
    let after : seen new ≡ made.left = ap (λ view. view.seen) made.view in
    let base_is : base_of new ≡ base_of old = ap (λ view. view.start.base) made.view in
    let grows = prefix_trans (seen old) made.found made.left made.begins (left_begins shows (base_of old) made.found made.left call step made.steps) in
    let is = step_learnt shows (base_of old) made.found made.left call step made.steps learnt later learns (learnt-grows (base_of old) (seen old) made.left grows learnt known) in
    subst (λ base. IfSome later (IsLearnt base (seen new))) (sym base_is) (subst (λ history. IfSome later (IsLearnt (base_of old) history)) (sym after) is)
