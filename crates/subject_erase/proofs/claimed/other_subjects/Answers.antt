use Rattle.std.proofs.Common.{◌≡◌, ℕ, Bool, false, not, ap, ◌∙◌, arith}
use Rattle.std.specs.Prelude.{◌&&◌, slice_index_or}
use Rattle.std.proofs.lemmas.List.FromFn.{map-range_with_len_more}
use Rattle.own_model.specs.declared.schema.Schema.{Schema}
use Rattle.schema_model.specs.Tables.{is_subject}
use Rattle.subject_erase.specs.Staying.{is_other_subject}
use Rattle.subject_erase.proofs.claimed.other_subjects.Goals as goal

-- one row more
pub loop-at-preserved : goal.loop-at-preserved
loop-at-preserved g c =
    let schema = (g.V.StoreView.db c.args.view.now).schema in
    let f : ℕ → Bool = λ place. is_other_subject schema c.args.table.0 (slice_index_or c.args.owned.now place false) in
    let subjects : c.is_subject-subjects.result ≡ is_subject schema c.args.table.0 = c.is_subject-subjects.ensures ∙ ap (λ (s : Schema). is_subject s c.args.table.0) c.schema.ensures in
    let own : c.without.result ≡ f c.loop-at.at =
    c.without.ensures ∙ (ap (λ b. b && not c.flag.result) subjects ∙ ap (λ b. is_subject schema c.args.table.0 && not b) c.flag.ensures) in
    rw (map-range_with_len_more f 0 c.loop-at.at c.loop-at.at (omega arith), ← c.loop-at.invariant, ← own) c.in_ok-push.ensures.items
