-- The reply to a SELECT that isn't grouped.
use Rattle.std.proofs.Common.{◌≡◌, ◌<◌, ◌≤◌, ◌+◌, List, Some, map, length, refl, sym, ap, ◌∙◌, subst, arith, length-append}
use Rattle.std.specs.Prelude.{Bool, Option, nat_lt, true, false}
use Rattle.std.proofs.lemmas.Bool.{le-ltb, lt-ltb}
use Rattle.std.proofs.lemmas.Bool.Decides.{nat_tests}
use Rattle.std.proofs.lemmas.List.{length-map}
use Rattle.own_base.specs.declared.number.ColNo.{ColNo}
use Rattle.own_model.specs.declared.bound.BoundItem.{BoundItem}
use Rattle.own_model.specs.declared.limit.LimitName.TheVariants as limit
use Rattle.own_model.specs.declared.limit.TheConstants.{REPLY_ROWS}
use Rattle.own_model.specs.declared.refusal.Refusal.TheVariants.{Limit}
use Rattle.own_model.specs.declared.reply.Reply.TheVariants.{Refused, Rows}
use Rattle.own_model.specs.Db.{Row}
use Rattle.query_model.specs.Query.{in_order, projected, reply_of}
use Rattle.query_model.proofs.RowOrder.{length-in_order}
use Rattle.query_eval.specs.Enough.{IsEnough, is_past}
use Rattle.query_eval.proofs.EnoughLemmas.{few_all}

module _ (items : List BoundItem) (order : Option (ColNo × Bool)) (rows kept : List Row) (enough : IsEnough (Some REPLY_ROWS) rows kept) where
  -- what is shown of some rows
  abbrev shown : List Row → List Row
  shown rows = map (projected items) (in_order order rows)

  -- as many rows are shown as there are
  length-shown : length (shown rows) ≡ length rows
  length-shown = length-map (in_order order rows) (projected items) ∙ length-in_order order rows

  -- too many rows
  pub too_many_kept : is_past (Some REPLY_ROWS) kept ≡ true → Refused (Limit limit.Reply) ≡ reply_of (shown rows)
  too_many_kept past =
      let many : REPLY_ROWS < length kept = grind (arith, nat_tests) in
      let all : length rows ≡ length kept + length enough.rest = ap length enough.first ∙ length-append kept enough.rest in
      let more : REPLY_ROWS < length (shown rows) = omega (arith, length-shown) in
      let is : nat_lt REPLY_ROWS (length (shown rows)) ≡ true = lt-ltb _ _ more in
      rw is refl

  -- no more than a reply has
  pub few_kept : is_past (Some REPLY_ROWS) kept ≡ false → Rows (shown kept) ≡ reply_of (shown rows)
  few_kept few =
      let same : kept ≡ rows = few_all (Some REPLY_ROWS) rows kept enough few in
      let is : nat_lt REPLY_ROWS (length (shown rows)) ≡ false = ap (nat_lt REPLY_ROWS) (length-shown ∙ ap length (sym same)) ∙ few in
      rw is (ap (λ rows. Rows (shown rows)) same)

module _ (order : Option (ColNo × Bool)) (rows : List Row) where
  -- too many rows in order
  pub too_many_ordered : REPLY_ROWS < length rows → Refused (Limit limit.Reply) ≡ reply_of (in_order order rows)
  too_many_ordered many =
      let is : nat_lt REPLY_ROWS (length (in_order order rows)) ≡ true = lt-ltb _ _ (subst (λ n. REPLY_ROWS < n) (sym (length-in_order order rows)) many) in
      rw is refl

  -- no more than a reply has
  pub few_ordered : length rows ≤ REPLY_ROWS → Rows (in_order order rows) ≡ reply_of (in_order order rows)
  few_ordered few =
      let is : nat_lt REPLY_ROWS (length (in_order order rows)) ≡ false = le-ltb _ _ (subst (λ n. n ≤ REPLY_ROWS) (sym (length-in_order order rows)) few) in
      rw is refl
