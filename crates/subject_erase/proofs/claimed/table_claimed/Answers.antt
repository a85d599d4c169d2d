use Rattle.std.proofs.Common.{◌≡◌, ℕ, List, [], length, map, Bool, false, not, get_or, ap, ◌∙◌, arith}
use Rattle.std.specs.Prelude.{◌==◌, ◌&&◌, Contains, filter}
use Rattle.std.specs.List.{range_with_len}
use Rattle.std.proofs.lemmas.List.FromFn.{get_or-map-range_with_len, length-map-range_with_len}
use Rattle.std.proofs.lemmas.Result.{IfOk-weaker}
use Rattle.own_base.specs.declared.row_name.RowName.{RowName}
use Rattle.own_model.specs.declared.schema.Edge.{Edge}
use Rattle.own_model.specs.Stored.{rows_at}
use Rattle.owner_sets.specs.Gathered.{IsWithin}
use Rattle.owner_sets.proofs.GatheredLemmas.{edge_within}
use Rattle.subject_model.specs.Owners.{owns}
use Rattle.subject_model.specs.Stays.{struck}
use Rattle.subject_model.proofs.Members.{all_from_contained, contains_of_filter}
use Rattle.subject_erase.specs.Flags.{AreFlagsOf, AreFlagsOfTable}
use Rattle.subject_erase.specs.Staying.{is_claimed, is_other_subject}
use Rattle.subject_erase.proofs.ClaimedMarks.{marks-claimed}
use Rattle.subject_erase.proofs.claimed.table_claimed.Goals as goal

pub mark-requires : goal.mark-requires
mark-requires g c = record {
  within =
      let schema = (g.V.StoreView.db c.args.view.now).schema in
      rw (c.requires.edges)
      (all_from_contained (IsWithin schema) (filter (λ edge. edge.lower.0 == c.args.table.0) schema.edges)
      (λ edge among. edge_within schema edge c.requires.owner (contains_of_filter (λ (e : Edge). e.lower.0 == c.args.table.0) schema.edges edge among).0));
}

-- the marks without those of struck rows are the flags of rows that are claimed
pub returns : goal.returns
returns g c =
    let db = g.V.StoreView.db c.args.view.now in
    let count = length (rows_at db.rows c.args.table.0) in
    let owned = c.args.owned.now in
    let others = c.in_ok-marks.marks.items in
    let marks = c.mark.new.marks.items in
    let own : ℕ → Bool = λ place. is_other_subject db.schema c.args.table.0 (get_or (get_or owned c.args.table.0 []) place false) in
    let others_are : others ≡ map own (range_with_len 0 count) =
    c.in_ok-marks.ensures ∙ ap (λ (flags : List Bool). map (λ place. is_other_subject db.schema c.args.table.0 (get_or flags place false)) (range_with_len 0 count)) c.flags_of.ensures in
    let left : List Bool → List Bool → ℕ → Bool = λ marked flags place. get_or marked place false && not (get_or flags place false) in
    IfOk-weaker c.unflagged.result
    (λ flags. flags ≡ map (left c.deref.result.now c.flags_of-2.result.now) (range_with_len 0 c.count.result))
    (λ flags. (subject : RowName) → AreFlagsOf db (owns db subject) owned → AreFlagsOf db (struck db subject) c.args.struck.now
    → ((edge : Edge) → Contains c.args.edges.now edge → AreFlagsOfTable db (is_claimed db subject) edge.upper.0 (get_or c.args.claimed.now edge.upper.0 []))
    → AreFlagsOfTable db (is_claimed db subject) c.args.table.0 flags)
    (λ flags is subject owned_are struck_are above.
    let flags_are : flags ≡ map (left marks (get_or c.args.struck.now c.args.table.0 [])) (range_with_len 0 count) =
    is
    ∙ (ap (λ (marked : List Bool). map (left marked c.flags_of-2.result.now) (range_with_len 0 c.count.result)) c.deref.ensures.value
    ∙ (ap (λ (struck : List Bool). map (left marks struck) (range_with_len 0 c.count.result)) c.flags_of-2.ensures
    ∙ ap (λ n. map (left marks (get_or c.args.struck.now c.args.table.0 [])) (range_with_len 0 n)) c.count.ensures)) in
    marks-claimed db subject (g.met.V.StoreView.ordered c.args.view.now) c.requires.owner c.args.table c.args.edges.now c.requires.edges c.args.claimed.now above owned c.args.struck.now others marks flags owned_are struck_are
    (ap length others_are ∙ length-map-range_with_len own 0 count)
    (λ place within. ap (λ all. get_or all place false) others_are ∙ get_or-map-range_with_len own 0 count place place false within (omega arith))
    c.in_ok-mark.ensures
    (λ place within. ap (λ all. get_or all place false) flags_are ∙ get_or-map-range_with_len (left marks (get_or c.args.struck.now c.args.table.0 [])) 0 count place place false within (omega arith)))
    c.unflagged.ensures
