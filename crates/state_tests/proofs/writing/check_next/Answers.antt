use Rattle.std.proofs.Common.{◌≡◌, ◌∙◌, ◌==◌, List, length, true, false, ap, subst, sym}
use Rattle.own_base.specs.declared.change.Change.{Change}
use Rattle.own_model.specs.Db.{Db}
use Rattle.commit_check.specs.Judged.{IsJudged}
use Rattle.state_model.specs.Net.{net}
use Rattle.state_tests.proofs.writing.check_next.Goals as goal

-- a net that leads to no fault, and isn't empty
pub record_of_changes-requires : goal.record_of_changes-requires
record_of_changes-requires g c =
    let before = c.args.version.now in
    let next = c.args.next.now in
    let judged = subst (IsJudged next) c.weight_in-whole.ensures c.judged.ensures in
    record {
      before = before;
      after = next;
      is = record {
        sound_before = c.requires.sound;
        sound_after = record { well_formed = c.requires.well_formed; faultless = judged.0 };
        schema = ap (λ (db : Db). db.schema) c.requires.next;
        creates = ap (λ (db : Db). db.creates) c.requires.next;
        is = c.requires.net ∙ ap (net before) (sym c.requires.next);
        some = λ none.
            let empty : (length c.args.changes.now == 0) ≡ false = sym c.is_empty.ensures ∙ c.if-is_empty.false in
            let full : (length c.args.changes.now == 0) ≡ true = ap (λ (changes : List Change). length changes == 0) none in
            cc;
      };
    }
