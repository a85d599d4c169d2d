-- The rows of the work that are of a table.
use Rattle.std.proofs.Common.{◌≡◌, List, ap, eq-eqb, subst, sym}
use Rattle.std.specs.Prelude.{filter}
use Rattle.std.specs.List.Sorted.{IsPermutation}
use Rattle.std.proofs.lemmas.List.Sorted.{Contains-permutation, IsPermutation-sym}
use Rattle.std.proofs.lemmas.Bool.{eqb-true}
use Rattle.own_base.specs.declared.number.TableNo.{TableNo}
use Rattle.own_base.specs.declared.row_name.RowName.{RowName}
use Rattle.subject_model.proofs.JoinsLemmas.{same_table}
use Rattle.subject_model.proofs.Members.{contains_filter, contains_of_filter}
use Rattle.owner_index.specs.Names.{AreTidied, HasSame, is_of}
use Rattle.owner_index.specs.Settled.{AreNamesOf}

-- those of a table are its names
pub names-of : (table : TableNo) (work names : List RowName) → HasSame (filter (is_of table) work) names → AreNamesOf table work names
names-of table work names same =
    record {
      same = λ name. (
        (λ among.
            let kept = contains_of_filter (is_of table) work name ((same name).0 among) in
            (same_table name.table table (eqb-true name.table.0 table.0 kept.1), kept.0)),
        (λ both. (same name).1 (contains_filter (is_of table) work name both.1 (eq-eqb name.table.0 table.0 (ap (λ (t : TableNo). t.0) both.0)))),
      );
    }

-- and so are the same ones put in order and turned round
pub names-falling : (given own rising falling names : List RowName) → AreTidied own rising → own ≡ given → IsPermutation rising falling → names ≡ falling → HasSame given names
names-falling given own rising falling names are is moved same =
    let turned : HasSame own falling = λ name. (
      (λ among. (are.same name).0 (Contains-permutation falling rising name (IsPermutation-sym rising falling moved) among)),
      (λ among. Contains-permutation rising falling name moved ((are.same name).1 among)),
    ) in
    subst (HasSame given) (sym same) (subst (λ (list : List RowName). HasSame list falling) is turned)
