use Rattle.std.proofs.Common.{◌≡◌, ◌-◌, length, take, drop, ◌∙◌, append_assoc, take_all}
use Rattle.std.proofs.lemmas.List.{take_rest}
use Rattle.text_model.specs.Condition.{written}
use Rattle.sql_print.specs.Within.{part_words, separator_of}
use Rattle.sql_print.proofs.Conditions.{words-Not}
use Rattle.sql_print.proofs.Spaced.{after_spaces-separated}
use Rattle.sql_print.proofs.condition.+condition.Goals as goal

-- the first part, and then the others
pub push_parts-returns-after-loop-part : goal.push_parts-returns-after-loop-part
push_parts-returns-after-loop-part t c =
    let parts = c.args.parts.now in
    let all : take c.loop-part.part-index (take (length parts - 1) (drop 1 parts)) ≡ drop 1 parts = take_all c.loop-part.part-index _ c.loop-part-test.false ∙ take_rest parts 1 in
    rw (
      after_spaces-separated (separator_of c.args.within) (λ part. part_words c.args.within (written part)) parts c.first-item.result c.in-len1-up.len_at_least c.first-item.is,
      c.loop-part.invariant,
      all,
      c.in_ok-push_part-in-len1-up.ensures,
    )
    (simp append_assoc)

-- NOT, and then the part
pub push_condition-returns-in_ok-push_part-in-Not : goal.push_condition-returns-in_ok-push_part-in-Not
push_condition-returns-in_ok-push_part-in-Not t c = rw (c.in-Not.is, words-Not c.in-Not.part, c.in_ok-push_part-in-Not.ensures, c.get.ensures, c.in_ok-push-in-Not.ensures, append_assoc)
