-- What a GDPR FORGET is answered.
use Rattle.std.proofs.Common.{Bor, ◌≡◌, ◌∙◌, ℕ, ◌+◌, ◌<◌, ◌≤◌, ◌^◌, List, [], ◌∷◌, Bool, true, false, not, ap, arith, filter, length, map, refl, subst, sym}
use Rattle.std.specs.Prelude.{Option, None, Some, IfOk, Result, Ok, Err, ◌&&◌, IsTrue, count_by, is_some, sum_by}
use Rattle.std.specs.Option.{option_copied}
use Rattle.std.proofs.lemmas.List.{length-append, length-map}
use Rattle.std.proofs.lemmas.List.Filters.{length-filter_both}
use Rattle.std.proofs.lemmas.List.Sums.{count_by-le-length, length-filter, sum_by-cons}
use Rattle.own_base.specs.declared.change.Change.{Change}
use Rattle.own_base.specs.declared.row_name.RowName.{RowName}
use Rattle.own_model.specs.declared.refusal.Refusal.{Refusal}
use Rattle.own_model.specs.declared.reply.Reply.{Reply}
use Rattle.own_model.specs.declared.reply.Reply.TheVariants.{Forgot, Refused}
use Rattle.own_model.specs.declared.schema.TableDef.{TableDef}
use Rattle.schema_model.specs.Tables.{is_subject}
use Rattle.own_model.specs.Db.{Db, Row}
use Rattle.own_model.specs.Stored.{row_named}
use Rattle.schema_model.specs.OwnerSchema.{IsOwnerSchema}
use Rattle.state_model.specs.Fault.{fault}
use Rattle.state_model.specs.Weight.{weight}
use Rattle.state_model.specs.Put.{put}
use Rattle.state_model.specs.Sound.{Sound}
use Rattle.state_model.proofs.CreatedSchema.{owner_schema-created}
use Rattle.state_model.proofs.Faultless.{few_rows}
use Rattle.state_model.proofs.ForgetSound.{sound-forget}
use Rattle.subject_model.specs.Forget.{changed, forget, is_changed, removed}
use Rattle.subject_model.specs.Named.{NamedRow, is_there, name_of, named_rows, rows_from, rows_in}
use Rattle.subject_model.specs.Stays.{stays}
use Rattle.subject_model.proofs.ForgetRows.{is_there-forget, schema-forget}
use Rattle.subject_model.proofs.NamedLemmas.{name_is}
use Rattle.subject_erase.specs.Plan.{IsPlan, leaves_row, plan_of}
use Rattle.owner_model.specs.Joins.{row_of}
use Rattle.check_image.specs.Gated.{IsGatedImage}
use Rattle.crash_model.specs.Room.{LaidAnew, Written}
use Rattle.run_model.specs.Run.{Outcome, forget_subject}
use Rattle.history_model.specs.Reply.{changes, forget_reply}
use Rattle.engine_core.specs.declared.answer.Answer.{Answer}
use Rattle.engine_core.specs.declared.prepared.NextState.TheVariants.{Anew}
use Rattle.engine_core.specs.Answered.{IsLaidBy, Tells}
use Rattle.engine_core.proofs.Commits.{tells-kept, tells-refused}
use Rattle.engine_core.proofs.Nets.{rows-unchanged}

-- no more rows have a name than there are
named-few : (number : ℕ) (tables : List TableDef) (rows : List (List Row)) → length (rows_from number tables rows) ≤ sum_by length rows
unfolding rows_from
named-few number [] rows = omega arith
named-few number (table ∷ tables) [] = omega arith
named-few number (table ∷ tables) (one ∷ rest) =
    let here : length (rows_in number table one) ≡ length one = length-map one (λ row. record { name = name_of number table row; row = row }) in
    let both : length (rows_from number (table ∷ tables) (one ∷ rest)) ≡ length (rows_in number table one) + length (rows_from (number + 1) tables rest) =
    length-append (rows_in number table one) (rows_from (number + 1) tables rest) in
    let more = named-few (number + 1) tables rest in
    let sum = sum_by-cons length one rest in
    omega arith

-- so an erasure makes few changes
pub few-erased : (db : Db) (subject : RowName) (changes : List Change) → fault db ≡ None → IsPlan db subject (plan_of changes) → length changes < 2 ^ 32
unfolding removed changed
few-erased db subject changes none plan =
    let rows = few_rows db none in
    let named = named-few 0 db.schema.tables db.rows in
    let all = named_rows db in
    let goes : NamedRow → Bool = λ named. not (stays db subject named.name) in
    let loses : NamedRow → Bool = λ named. stays db subject named.name && is_changed db subject named in
    let gone : length (filter (λ change. not (leaves_row change)) changes) ≤ length all =
    (let is : length (map (λ (change : Change). change.name) (filter (λ change. not (leaves_row change)) changes)) ≡ length (map (λ (named : NamedRow). named.name) (filter goes all)) = ap length plan.removed in
    let left = length-map (filter (λ change. not (leaves_row change)) changes) (λ (change : Change). change.name) in
    let right = length-map (filter goes all) (λ (named : NamedRow). named.name) in
    let counted = length-filter goes all in
    let most = count_by-le-length goes all in
    omega arith) in
    let lost : length (filter leaves_row changes) ≤ length all =
    (let is : length (map (λ (change : Change). change.name) (filter leaves_row changes)) ≡ length (map (λ (named : NamedRow). named.name) (filter loses all)) = ap length plan.changed in
    let left = length-map (filter leaves_row changes) (λ (change : Change). change.name) in
    let right = length-map (filter loses all) (λ (named : NamedRow). named.name) in
    let counted = length-filter loses all in
    let most = count_by-le-length loses all in
    omega arith) in
    let both = length-filter_both leaves_row (λ change. not (leaves_row change)) (λ change. refl) changes in
    omega arith

-- there is no such subject
pub forget-absent : {written : Written} (db : Db) (subject : RowName) (why : Refusal) (answer : Answer) → is_there db subject ≡ false → (forget_subject db subject).reply ≡ Refused why
    → answer.reply ≡ Refused why → answer.next ≡ None → Tells db false written (λ verdict. forget_reply verdict (forget_subject db subject)) (forget_subject db subject).db answer
forget-absent db subject why answer absent is told stays = tells-refused db (forget_subject db subject).db false _ why answer (λ verdict. rw is refl) told stays

-- how many rows the changes of an erasure remove, and how many they leave without some values
pub counts-planned : (changes : List Change)
    → Forgot (count_by (λ change. not (leaves_row change)) changes) (count_by leaves_row changes) ≡ Forgot (length (plan_of changes).removed) (length (plan_of changes).changed)
counts-planned changes =
    let goes = filter (λ change. not (leaves_row change)) changes in
    let removed : count_by (λ change. not (leaves_row change)) changes ≡ length (plan_of changes).removed =
    sym (length-filter (λ change. not (leaves_row change)) changes) ∙ sym (length-map goes (λ (change : Change). change.name)) in
    let changed : count_by leaves_row changes ≡ length (plan_of changes).changed = sym (length-filter leaves_row changes) in
    λ i. Forgot (removed i) (changed i)

-- with what an erasure leaves nothing is wrong
pub erased-sound : (db next : Db) (subject : RowName) → IsTrue (is_subject db.schema subject.table.0) → Sound db → next ≡ forget db subject → Sound next
erased-sound db next subject of sound is = subst Sound (sym is) (sound-forget db subject of sound)

-- the row of the subject goes
stays_own : (db : Db) (subject : RowName) → stays db subject subject ≡ false
unfolding stays
stays_own db subject = rw (name_is subject subject refl) refl

gone : (db : Db) (subject : RowName) → IsOwnerSchema db.schema → is_there db subject ≡ true → is_there (forget db subject) subject ≡ false
gone db subject owner there = is_there-forget db subject subject owner ∙ (rw (there, stays_own db subject) refl)

-- so rows change
changes_step : (db : Db) (subject : RowName) (b : Bool) → changes db (forget db subject) ≡ b → Sound db → Sound (forget db subject) → is_there db subject ≡ true → changes db (forget db subject) ≡ true
changes_step db subject true is sound sound_next there = is
changes_step db subject false is sound sound_next there =
    let schema = schema-forget db subject in
    let rows = rows-unchanged db (forget db subject) sound.well_formed.ordered sound_next.well_formed.ordered schema is in
    let here : is_there (forget db subject) subject ≡ is_there db subject = λ i. is_some (row_named (schema i) (rows i) subject) in
    let away = gone db subject (owner_schema-created db sound.well_formed.created) there in
    absurd (cc)

pub changes-forgotten : (db next : Db) (subject : RowName) → Sound db → Sound next → next ≡ forget db subject → is_there db subject ≡ true → changes db next ≡ true
changes-forgotten db next subject sound sound_next is there =
    ap (changes db) is ∙ changes_step db subject (changes db (forget db subject)) refl sound (subst Sound is sound_next) there

-- it is told with its counts, and nothing refuses it
forgotten-made : (db : Db) (subject : RowName) → is_there db subject ≡ true
    → forget_subject db subject ≡ record { db = forget db subject; reply = Forgot (length (removed db subject)) (length (changed db subject)) }
unfolding forget_subject
forgotten-made db subject there = rw there refl

counted-as : (db : Db) (subject : RowName) (changes : List Change) (reply : Reply) → IsPlan db subject (plan_of changes)
    → reply ≡ Forgot (count_by (λ change. not (leaves_row change)) changes) (count_by leaves_row changes) → reply ≡ Forgot (length (removed db subject)) (length (changed db subject))
counted-as db subject changes reply plan counted =
    counted
    ∙ (counts-planned changes ∙ (λ i. Forgot (length (plan.removed i)) ((sym (length-map (plan_of changes).changed (λ (change : Change). change.name)) ∙ ap length plan.changed) i)))

module _ (db next : Db) (subject : RowName) (changes : List Change) (reply : Reply) (weighs number : ℕ) (answer : Answer)
    (sound : Sound db) (sound_next : Sound next) (there : is_there db subject ≡ true) (is : next ≡ forget db subject) (weight_is : weighs ≡ weight next) (plan : IsPlan db subject (plan_of changes))
    (counted : reply ≡ Forgot (count_by (λ change. not (leaves_row change)) changes) (count_by leaves_row changes)) where
  pub tells-forgotten : {E : Type 0} (image : Result (List ℕ) E) → IfOk image (IsGatedImage next number) → IsLaidBy next weighs reply image answer
      → Tells db false (LaidAnew number) (λ verdict. forget_reply verdict (forget_subject db subject)) (forget_subject db subject).db answer
  tells-forgotten (Ok gated) image_is laid =
      let forgot = Forgot (length (removed db subject)) (length (changed db subject)) in
      let made : forget_subject db subject ≡ record { db = next; reply = forgot } = forgotten-made db subject there ∙ ap (λ (db : Db). record { db = db; reply = forgot }) (sym is) in
      subst (λ (outcome : Outcome). Tells db false (LaidAnew number) (λ verdict. forget_reply verdict outcome) outcome.db answer) (sym made)
      (tells-kept db (Anew next) false (LaidAnew number) _ forgot weighs gated answer refl (λ verdict. refl) (changes-forgotten db next subject sound sound_next is there) (sym weight_is) sound_next
      image_is tt (laid.0 ∙ counted-as db subject changes reply plan counted) laid.1)
  tells-forgotten (Err refused) image_is laid = absurd laid

-- a row that is lent is there
pub lent-there : (db : Db) (name : RowName) (row : Option (Bor Row)) → option_copied row ≡ row_of db name → is_some row ≡ true → is_there db name ≡ true
lent-there db name None lent some = let never : false ≡ true = some in absurd (cc)
lent-there db name (Some row) lent some = sym (ap is_some lent)

-- the next database, into which the changes of an erasure are put, is what it leaves
pub planned-next : (db next : Db) (subject : RowName) (given changes : List Change) → next ≡ put db given → given ≡ changes → put db changes ≡ forget db subject → next ≡ forget db subject
planned-next db next subject given changes is lent gives = is ∙ (ap (put db) lent ∙ gives)
