-- What a GET answers, by what it shows or refuses.
use Rattle.std.proofs.Common.{◌≡◌, List, Bool, true, false, Bor, refl, ap, sym, ◌∙◌}
use Rattle.std.specs.Prelude.{Option, Some, None, is_some, not}
use Rattle.std.specs.Option.{option_copied}
use Rattle.own_base.specs.declared.row_name.RowName.{RowName}
use Rattle.own_model.specs.declared.refusal.Refusal.{Refusal}
use Rattle.own_model.specs.declared.refusal.Refusal.TheVariants.{NoSubject}
use Rattle.own_model.specs.declared.reply.GotRow.{GotRow}
use Rattle.own_model.specs.declared.reply.Reply.TheVariants.{Got, Refused}
use Rattle.own_model.specs.Db.{Db}
use Rattle.own_model.specs.Stored.{row_named}
use Rattle.run_model.specs.Run.{show_subject}
use Rattle.subject_model.specs.Get.{get, table_name}

-- a row is found exactly where one is lent
copied-some : {T : Type 0} (lent : Option (Bor T)) → is_some (option_copied lent) ≡ is_some lent
copied-some None = refl
copied-some (Some row) = refl

pub found-lent : {T : Type 0} (lent : Option (Bor T)) (found : Option T) (none other : Bool) → option_copied lent ≡ found → is_some lent ≡ not none → none ≡ other → is_some found ≡ not other
found-lent lent found none other is told same = ap is_some (sym is) ∙ (copied-some lent ∙ (told ∙ ap not same))

module _ (db : Db) (subject : RowName) where
  -- where the subject is there
  pub got-shown : (shown : List GotRow) → is_some (row_named db.schema db.rows subject) ≡ true → shown ≡ get db subject → Got shown ≡ (show_subject db subject).reply
  unfolding show_subject
  got-shown shown there is = rw there (ap Got is)

  -- and where it isn't
  pub refused-absent : (why : Refusal) → is_some (row_named db.schema db.rows subject) ≡ false → why ≡ NoSubject (table_name db.schema subject.table.0) subject.key
      → Refused why ≡ (show_subject db subject).reply
  unfolding show_subject
  refused-absent why absent is = rw absent (ap Refused is)
