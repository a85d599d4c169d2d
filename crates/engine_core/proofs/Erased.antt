-- The rows that a GDPR FORGET names as erased are those that it removes or changes.
use Rattle.std.proofs.Common.{◌≡◌, ◌∙◌, ◌||◌, List, [], ◌∷◌, ◌++◌, Bool, true, false, not, ap, filter, map, refl, subst, sym}
use Rattle.std.specs.Prelude.{◌&&◌, cond, is_some}
use Rattle.std.specs.List.{list_any}
use Rattle.std.proofs.lemmas.List.Folds.{list_any-append}
use Rattle.std.proofs.Math.Bool.{or_assoc}
use Rattle.own_base.specs.declared.change.Change.{Change}
use Rattle.own_base.specs.declared.row_name.RowName.{RowName}
use Rattle.own_base.specs.declared.row_name.Subject.{Subject}
use Rattle.own_model.specs.declared.bound.Bound.TheVariants.{Forget}
use Rattle.own_model.specs.declared.footprint.FootItem.{FootItem}
use Rattle.own_model.specs.declared.history.Verdict.{Verdict}
use Rattle.own_model.specs.declared.history.Verdict.TheVariants.{Took}
use Rattle.own_model.specs.declared.refusal.Refusal.{Refusal}
use Rattle.own_model.specs.declared.reply.Reply.{Reply}
use Rattle.own_model.specs.declared.reply.Reply.TheVariants.{Refused}
use Rattle.own_model.specs.Db.{Db}
use Rattle.run_model.specs.Agree.{lies_on}
use Rattle.run_model.specs.Run.{forget_subject}
use Rattle.subject_model.specs.Forget.{changed, removed}
use Rattle.subject_model.specs.Named.{is_there}
use Rattle.subject_erase.specs.Plan.{IsPlan, leaves_row, plan_of}
use Rattle.history_model.specs.History.{lie_on}
use Rattle.history_model.specs.Reply.{forget_reply, is_refusal}
use Rattle.engine_core.specs.declared.answer.Answer.{Answer}
use Rattle.crash_model.specs.Room.{Written}
use Rattle.engine_core.specs.Answered.{ErasesBound, IsDecided, IsWrittenAs, MayBeLeft, Tells, left}

-- one of some is among those of one kind or those of the other
abbrev names : List Change → List RowName
names changes = map (λ change. change.name) changes

aside : (here some others : Bool) → (here || (some || others)) ≡ (some || (here || others))
aside true true others = refl
aside true false others = refl
aside false some others = refl

split : (test : RowName → Bool) (leaves : Change → Bool) (changes : List Change)
    → list_any test (names changes) ≡ (list_any test (names (filter (λ change. not (leaves change)) changes)) || list_any test (names (filter leaves changes)))
split test leaves [] = refl
split test leaves (change ∷ changes) = by (leaves change) (split test leaves changes)
  where
    by : (b : Bool) → list_any test (names changes) ≡ (list_any test (names (filter (λ change. not (leaves change)) changes)) || list_any test (names (filter leaves changes)))
        → (test change.name || list_any test (names changes))
        ≡ (list_any test (names (cond (not b) (change ∷ filter (λ change. not (leaves change)) changes) (filter (λ change. not (leaves change)) changes)))
        || list_any test (names (cond b (change ∷ filter leaves changes) (filter leaves changes))))
    by true more =
        ap (λ rest. test change.name || rest) more
        ∙ aside (test change.name) (list_any test (names (filter (λ change. not (leaves change)) changes))) (list_any test (names (filter leaves changes)))
    by false more =
        ap (λ rest. test change.name || rest) more
        ∙ sym (or_assoc (test change.name) (list_any test (names (filter (λ change. not (leaves change)) changes))) (list_any test (names (filter leaves changes))))

module _ (db : Db) (subject : RowName) (changes : List Change) (plan : IsPlan db subject (plan_of changes)) (items : List FootItem) where
  abbrev lies : RowName → Bool
  lies name = list_any (lies_on name) items

  lies_erased : lie_on (names changes) items ≡ lie_on (removed db subject ++ changed db subject) items
  lies_erased =
      split lies leaves_row changes
      ∙ ((λ i. list_any lies (plan.removed i) || list_any lies (plan.changed i)) ∙ sym (list_any-append lies (removed db subject) (changed db subject)))

-- where it is accepted
pub erases-forgotten : (db : Db) (subject : Subject) (changes : List Change) (named : List RowName) (answer : Answer) → IsPlan db subject.0 (plan_of changes)
    → named ≡ map (λ change. change.name) changes → answer.erased ≡ named → is_refusal answer.reply ≡ false → ErasesBound db (Forget subject) answer
erases-forgotten db subject changes named answer plan are erased accepted = λ items.
    ap (λ some. lie_on some items) (erased ∙ are) ∙ (lies_erased db subject.0 changes plan items ∙ sym (rw accepted refl))

-- and where there is no such subject none
absent_step : (db : Db) (subject : Subject) (reply : Reply) (items : List FootItem) → is_refusal reply ≡ true
    → (not (is_refusal reply) && lie_on (removed db subject.0 ++ changed db subject.0) items) ≡ false
absent_step db subject reply items refused = rw refused refl

pub erases-absent : (db : Db) (subject : Subject) (why : Refusal) (answer : Answer) → answer.reply ≡ Refused why → answer.erased ≡ [] → ErasesBound db (Forget subject) answer
erases-absent db subject why answer told none = λ items.
    ap (λ some. lie_on some items) none ∙ sym (absent_step db subject answer.reply items (ap is_refusal told))

-- an answer that names more rows as erased tells the same
pub tells-erasing : {written : Written} (db : Db) (creates : Bool) (given : Verdict → Reply) (behind : Db) (answer other : Answer) → other.reply ≡ answer.reply → other.next ≡ answer.next
    → Tells db creates written given behind answer → Tells db creates written given behind other
tells-erasing {written} db creates given behind answer other reply next tells = record {
  told = reply ∙ tells.told;
  leaves = ap (left db) next ∙ tells.leaves;
  may = subst (MayBeLeft db) (sym next) tells.may;
  writes = subst (IsWrittenAs written) (sym next) tells.writes;
  decided = subst (IsDecided given) (sym next) tells.decided;
  counted = ap is_some next ∙ tells.counted;
}

-- a FORGET of a subject who is there is accepted
forgot_step : (db : Db) (subject : RowName) → is_there db subject ≡ true → is_refusal (forget_reply Took (forget_subject db subject)) ≡ false
unfolding forget_subject
forgot_step db subject there = rw there refl

pub forgot-accepted : {written : Written} (db behind : Db) (subject : RowName) (answer : Answer) → is_there db subject ≡ true
    → Tells db false written (λ verdict. forget_reply verdict (forget_subject db subject)) behind answer → is_refusal answer.reply ≡ false
forgot-accepted db behind subject answer there tells = ap is_refusal tells.told ∙ forgot_step db subject there
