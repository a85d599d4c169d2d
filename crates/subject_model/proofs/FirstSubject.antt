-- A path ends at the first subject row that it enters.
use Rattle.std.proofs.Common.{◌≡◌, [], ◌∷◌, ◌++◌, true, false, refl, sym, ◌∙◌}
use Rattle.std.specs.Prelude.{◌↔◌}
use Rattle.std.proofs.lemmas.Bool.{false_from_ne_true}
use Rattle.own_base.specs.declared.row_name.RowName.{RowName}
use Rattle.own_model.specs.Db.{Db}
use Rattle.subject_model.specs.FirstSubject.{EndsAtFirstSubject}
use Rattle.subject_model.specs.Owners.{Owns, Reaches}
use Rattle.subject_model.specs.Paths.{IsPath, Path, Step, is_subject_row}

not_empty : (front : Path) (last : Step) → front ++ last ∷ [] ≡ [] → ⊥
not_empty [] last none = cc
not_empty (step ∷ front) last none = cc

pub first_from_path : (db : Db) (from : RowName) (front : Path) (last : Step) (subject : RowName) → IsPath db from (front ++ last ∷ []) subject → EndsAtFirstSubject db from front last subject
first_from_path db from [] last subject is = record { joined = (is.0, tt); before = tt; ends = is.1.1.0; is = is.1.1.1 }
first_from_path db from (step ∷ front) last subject is =
    let rest = first_from_path db step.upper front last subject is.1.1 in
    record {
      joined = (is.0, rest.joined);
      before = (false_from_ne_true (is_subject_row db step.upper) (λ yes. not_empty front last (is.1.0 yes)), rest.before);
      ends = rest.ends;
      is = rest.is;
    }

pub path_from_first : (db : Db) (from : RowName) (front : Path) (last : Step) (subject : RowName) → EndsAtFirstSubject db from front last subject → IsPath db from (front ++ last ∷ []) subject
path_from_first db from [] last subject first = (first.joined.0, ((λ yes. refl), (first.ends, first.is)))
path_from_first db from (step ∷ front) last subject first =
    let rest : EndsAtFirstSubject db step.upper front last subject = record { joined = first.joined.1; before = first.before.1; ends = first.ends; is = first.is } in
    (first.joined.0, ((λ yes. let never : true ≡ false = sym yes ∙ first.before.0 in cc), path_from_first db step.upper front last subject rest))

-- a path of a step or more is one that ends at the first subject row that it enters
pub path-iff_first : (db : Db) (from : RowName) (front : Path) (last : Step) (subject : RowName) → IsPath db from (front ++ last ∷ []) subject ↔ EndsAtFirstSubject db from front last subject
path-iff_first db from front last subject = (first_from_path db from front last subject, path_from_first db from front last subject)

-- a subject row owns itself, and reaches itself
pub owns_itself : (db : Db) (name : RowName) → is_subject_row db name ≡ true → Owns db name name
owns_itself db name is = record { path = []; leads = (is, refl); owner = tt }

pub reaches_itself : (db : Db) (name : RowName) → is_subject_row db name ≡ true → Reaches db name name
reaches_itself db name is = record { path = []; leads = (is, refl) }
