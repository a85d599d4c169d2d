use Rattle.subject_model.proofs.ForgetNames.{changed-iff_altered, changed_rise, removed-iff_erased, removed_rise, there-iff_stays}
use Rattle.subject_model.proofs.laws.forget_removes_and_changes_what_it_names.Goals as goal

pub returns-clause-there : goal.returns-clause-there
returns-clause-there c db subject name ordered owner = there-iff_stays db subject ordered owner name

pub returns-clause-removed : goal.returns-clause-removed
returns-clause-removed c db subject name ordered owner = removed-iff_erased db subject ordered owner name

pub returns-clause-changed : goal.returns-clause-changed
returns-clause-changed c db subject name ordered owner = changed-iff_altered db subject ordered owner name

pub returns-clause-in_order : goal.returns-clause-in_order
returns-clause-in_order c db subject ordered = (removed_rise db subject ordered, changed_rise db subject ordered)
