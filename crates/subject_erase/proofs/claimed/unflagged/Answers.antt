use Rattle.std.proofs.Common.{◌≡◌, ℕ, Bool, false, not, ap, ◌∙◌, arith}
use Rattle.std.specs.Prelude.{◌&&◌, slice_index_or}
use Rattle.std.proofs.lemmas.List.FromFn.{map-range_with_len_more}
use Rattle.subject_erase.proofs.claimed.unflagged.Goals as goal

-- one place more
pub loop-at-preserved : goal.loop-at-preserved
loop-at-preserved c =
    let f : ℕ → Bool = λ place. slice_index_or c.args.marks.now place false && not (slice_index_or c.args.flags.now place false) in
    let own : c.without.result ≡ f c.loop-at.at =
    c.without.ensures ∙ (ap (λ b. b && not c.flag-in-loop-at.result) c.flag.ensures ∙ ap (λ b. slice_index_or c.args.marks.now c.loop-at.at false && not b) c.flag-in-loop-at.ensures) in
    rw (map-range_with_len_more f 0 c.loop-at.at c.loop-at.at (omega arith), ← c.loop-at.invariant, ← own) c.in_ok-add.ensures.added
