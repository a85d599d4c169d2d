use Rattle.std.proofs.Common.{◌≡◌, ap, ◌∙◌, arith}
use Rattle.std.specs.Prelude.{unwrap_or}
use Rattle.commit_check.specs.ValueCounts.{count_at, value_of}
use Rattle.commit_check.proofs.CountLemmas.{added}
use Rattle.commit_check.proofs.LentOrder.{looked_up}
use Rattle.commit_check.proofs.value_counts.count_value.Goals as goal

pub overflow_add-had : goal.overflow_add-had
overflow_add-had c =
    let had : c.unwrap_or-had.result ≡ count_at c.args.counts.now.entries (value_of c.in-Some.value) =
    c.unwrap_or-had.ensures ∙ (ap (λ found. unwrap_or found 0) (c.copied.ensures ∙ c.get.ensures.value) ∙ looked_up c.in-Some.value c.args.counts.now.entries) in
    let few = c.requires c.in-Some.value in
    omega (arith, had, few)

pub returns-in_ok-insert-in-Some : goal.returns-in_ok-insert-in-Some
returns-in_ok-insert-in-Some c = λ other.
    let had : c.unwrap_or-had.result ≡ count_at c.args.counts.now.entries (value_of c.in-Some.value) =
    c.unwrap_or-had.ensures ∙ (ap (λ found. unwrap_or found 0) (c.copied.ensures ∙ c.get.ensures.value) ∙ looked_up c.in-Some.value c.args.counts.now.entries) in
    rw c.in-Some.is (added c.args.counts.now c.insert.new.self c.in-Some.value c.unwrap_or-had.result had c.in_ok-insert-in-Some.ensures.updates other)
