-- A FORGET leaves a row no more owners, and no more subjects that reach it.
use Rattle.std.proofs.Common.{◌≡◌, ◌+◌, ◌≤◌, List, length, map, Bool, true, ◌∙◌, ap, arith}
use Rattle.std.specs.Prelude.{◌&&◌, filter}
use Rattle.std.proofs.lemmas.Bool.{and_from, and_parts}
use Rattle.own_base.specs.declared.row_name.RowName.{RowName}
use Rattle.own_model.specs.Db.{Db}
use Rattle.schema_model.specs.OwnerSchema.{IsOwnerSchema}
use Rattle.subject_model.specs.Forget.{forget}
use Rattle.subject_model.specs.Named.{named_rows}
use Rattle.subject_model.specs.Owners.{owners, owns, reaches, subjects}
use Rattle.subject_model.specs.Paths.{is_subject_row}
use Rattle.subject_model.specs.Stays.{stays}
use Rattle.state_model.specs.Weight.{seers}
use Rattle.state_model.proofs.Counts.{fewer, filter-twice}
use Rattle.state_model.proofs.ForgetNamed.{names-forget}
use Rattle.state_model.proofs.OwnerCounts.{seers-owners}

module _ (db : Db) (subject : RowName) (owner : IsOwnerSchema db.schema) where
  abbrev left : Db
  left = forget db subject

  abbrev names : List RowName
  names = map (λ named. named.name) (named_rows db)

  -- the subjects that pass a test, among all names before
  passing_before : (test : RowName → Bool) → filter test (subjects db) ≡ filter (λ name. is_subject_row db name && test name) names
  passing_before test = filter-twice test (is_subject_row db) names

  passing_after : (test : RowName → Bool) → filter test (subjects left) ≡ filter (λ name. stays db subject name && (is_subject_row left name && test name)) names
  passing_after test =
      filter-twice test (is_subject_row left) (map (λ named. named.name) (named_rows left))
      ∙ (ap (filter (λ name. is_subject_row left name && test name)) (names-forget db subject owner)
      ∙ filter-twice (λ name. is_subject_row left name && test name) (stays db subject) names)

  module _ (still : (name : RowName) → is_subject_row left name ≡ true → is_subject_row db name ≡ true) where
    -- where who passes one test after it passed another before, no more pass
    fewer-subjects : (now before : RowName → Bool) → ((name : RowName) → now name ≡ true → before name ≡ true) → length (filter now (subjects left)) ≤ length (filter before (subjects db))
    fewer-subjects now before passed =
        rw (passing_after now, passing_before before) (fewer _ _ weaker names)
      where
        weaker : (name : RowName) → (stays db subject name && (is_subject_row left name && now name)) ≡ true → (is_subject_row db name && before name) ≡ true
        weaker name is =
            let both = and_parts (is_subject_row left name) (now name) (and_parts (stays db subject name) (is_subject_row left name && now name) is).1 in
            and_from _ _ (still name both.0) (passed name both.1)

    -- no more own a row
    pub fewer-owners : ((other name : RowName) → owns left other name ≡ true → owns db other name ≡ true) → (name : RowName)
        → length (owners left name) ≤ length (owners db name)
    unfolding owners
    fewer-owners owned name = fewer-subjects (λ other. owns left other name) (λ other. owns db other name) (λ other is. owned other name is)

    -- and no more reach it
    pub fewer-reach : ((other name : RowName) → reaches left other name ≡ true → reaches db other name ≡ true) → (name : RowName)
        → length (owners left name) + seers left name ≤ length (owners db name) + seers db name
    fewer-reach reached name =
        let now = seers-owners left name in
        let before = seers-owners db name in
        let all = fewer-subjects (λ other. reaches left other name) (λ other. reaches db other name) (λ other is. reached other name is) in
        omega arith
