use Rattle.std.proofs.Common.{◌≡◌, ℕ, Bool, not, ap, ◌∙◌, arith}
use Rattle.std.specs.Prelude.{◌&&◌, ◌||◌}
use Rattle.std.proofs.lemmas.List.FromFn.{map-range_with_len_more}
use Rattle.own_model.specs.declared.schema.Schema.{Schema}
use Rattle.schema_model.specs.Tables.{is_private, is_subject}
use Rattle.subject_erase.specs.Flags.{flag_at}
use Rattle.subject_erase.specs.Staying.{stays_by}
use Rattle.subject_erase.proofs.staying.table_staying.Goals as goal

-- one row more
pub loop-at-preserved : goal.loop-at-preserved
loop-at-preserved g c =
    let schema = (g.V.StoreView.db c.args.view.now).schema in
    let f : ℕ → Bool = λ place. stays_by schema c.args.table.0 (flag_at c.args.owned.now c.args.table.0 place) (flag_at c.args.claimed.now c.args.table.0 place) in
    let subjects : c.is_subject-subjects.result ≡ is_subject schema c.args.table.0 = c.is_subject-subjects.ensures ∙ ap (λ (s : Schema). is_subject s c.args.table.0) c.schema.ensures in
    let private : c.is_private-private.result ≡ is_private schema c.args.table.0 = c.is_private-private.ensures ∙ ap (λ (s : Schema). is_private s c.args.table.0) c.schema-2.ensures in
    let own : c.stays.result ≡ f c.loop-at.at =
    c.stays.ensures
    ∙ (ap (λ b. not (b && c.flag_at-owned.result) && (not c.is_private-private.result || c.flag_at-claimed.result)) subjects
    ∙ (ap (λ b. not (is_subject schema c.args.table.0 && c.flag_at-owned.result) && (not b || c.flag_at-claimed.result)) private
    ∙ (ap (λ b. stays_by schema c.args.table.0 b c.flag_at-claimed.result) c.flag_at-owned.ensures
    ∙ ap (λ b. stays_by schema c.args.table.0 (flag_at c.args.owned.now c.args.table.0 c.loop-at.at) b) c.flag_at-claimed.ensures))) in
    rw (map-range_with_len_more f 0 c.loop-at.at c.loop-at.at (omega arith), ← c.loop-at.invariant, ← own) c.in_ok-add.ensures.added
