use Rattle.std.proofs.Common.{◌≡◌, ◌<◌, ◌∙◌, ◌∷◌, ap, sym, subst, length, take, drop, arith}
use Rattle.std.specs.Prelude.{false}
use Rattle.std.specs.List.{AllByRecursion as Each}
use Rattle.std.specs.Ordering.{is_lt}
use Rattle.std.specs.declared.cmp.Ordering.TheVariants.{Less}
use Rattle.std.proofs.lemmas.List.{drop_more}
use Rattle.std.proofs.lemmas.Result.{on_ok_weaker}
use Rattle.page_model.specs.Changed.{AreKeyed}
use Rattle.page_model.specs.Rising.{IsRising}
use Rattle.page_model.proofs.ChangedLemmas.{length_with_changes}
use Rattle.page_model.proofs.KeptLemmas.{adds_parts}
use Rattle.page_model.proofs.RisingLemmas.{each_back, each_front, rising_back, rising_front}
use Rattle.page_tree.proofs.change.+fill.Goals as goal

-- A page's items and as many changes are no more than two pages' items.
pub push_pages-requires-clause-items : goal.push_pages-requires-clause-items
push_pages-requires-clause-items g t c =
    let made = c.in_ok-merged.ensures in
    let most = length_with_changes (g.By.KeyOf.key_of c.args.by) g.met.By.KeyOf.total g.C.ChangeOf.changed g.C.ChangeOf.put c.args.changes.now c.args.items.now in
    let long = ap length made in
    omega arith

-- Half of the changes are fewer, and rise as all do.
pub fill-requires : goal.fill-requires
fill-requires g t c κs within =
    let key_of = g.By.KeyOf.key_of c.args.by in
    let cmp = g.By.KeyOf.key_cmp in
    let changes = c.split_at.ensures in
    let items = c.split_at-2.ensures in
    let rising = subst (IsRising key_of cmp) items.by_index.0 c.requires.rising in
    let rises = subst (IsRising g.C.ChangeOf.changed cmp) changes.by_index.0 c.requires.changes in
    let keyed = subst (AreKeyed key_of g.C.ChangeOf.changed g.C.ChangeOf.put) changes.by_index.0 c.requires.keyed in (
      omega (arith, changes.front_len),
      (
        within.0,
        (
          within.1.0,
          (
            within.1.1.0,
            (
              within.1.1.1,
              (
                omega (arith, items.back_len),
                (
                  rising_front key_of cmp c.split_at-2.result.0.now c.split_at-2.result.1.now rising,
                  (rising_front g.C.ChangeOf.changed cmp c.split_at.result.0.now c.split_at.result.1.now rises, each_front _ c.split_at.result.0.now c.split_at.result.1.now keyed),
                ),
              ),
            ),
          ),
        ),
      ),
    )

pub fill-requires-2 : goal.fill-requires-2
fill-requires-2 g t c κs within =
    let key_of = g.By.KeyOf.key_of c.args.by in
    let cmp = g.By.KeyOf.key_cmp in
    let changes = c.split_at.ensures in
    let items = c.split_at-2.ensures in
    let rising = subst (IsRising key_of cmp) items.by_index.0 c.requires.rising in
    let rises = subst (IsRising g.C.ChangeOf.changed cmp) changes.by_index.0 c.requires.changes in
    let keyed = subst (AreKeyed key_of g.C.ChangeOf.changed g.C.ChangeOf.put) changes.by_index.0 c.requires.keyed in (
      omega (arith, changes.back_len),
      (
        within.0,
        (
          within.1.0,
          (
            within.1.1.0,
            (
              within.1.1.1,
              (
                omega (arith, items.back_len),
                (
                  rising_back key_of cmp c.split_at-2.result.0.now c.split_at-2.result.1.now rising,
                  (rising_back g.C.ChangeOf.changed cmp c.split_at.result.0.now c.split_at.result.1.now rises, each_back _ c.split_at.result.0.now c.split_at.result.1.now keyed),
                ),
              ),
            ),
          ),
        ),
      ),
    )

-- The parts keep apart.
pub returns : goal.returns
returns g t c =
    let key_of = g.By.KeyOf.key_of c.args.by in
    let cmp = g.By.KeyOf.key_cmp in
    let first = c.index-others-0.result in
    let some : 0 < length c.split_at.result.1.now = omega (arith, c.split_at.ensures.back_len) in
    let starts : c.split_at.result.1.now ≡ first ∷ drop 1 c.split_at.result.1.now = drop_more c.split_at.result.1.now 0 first some ∙ ap (λ x. x ∷ drop 1 c.split_at.result.1.now) (sym c.index-others-0.is) in
    let left : Each (λ x. cmp (key_of x) (g.C.ChangeOf.changed first) ≡ Less) c.split_at-2.result.0.now =
    subst (Each (λ x. cmp (key_of x) (g.C.ChangeOf.changed first) ≡ Less)) (sym c.split_at-2.ensures.front)
    (subst (λ k. Each (λ x. cmp (key_of x) k ≡ Less) (take c.place_of.result c.args.items.now)) c.key.ensures c.place_of.ensures.before) in
    let right : Each (λ x. is_lt (cmp (key_of x) (g.C.ChangeOf.changed first)) ≡ false) c.split_at-2.result.1.now =
    subst (Each (λ x. is_lt (cmp (key_of x) (g.C.ChangeOf.changed first)) ≡ false)) (sym c.split_at-2.ensures.back)
    (subst (λ k. Each (λ x. is_lt (cmp (key_of x) k) ≡ false) (drop c.place_of.result c.args.items.now)) c.key.ensures c.place_of.ensures.behind) in
    let front = c.in_ok-fill.ensures in
    on_ok_weaker c.fill-2.result
    (λ back. adds_parts key_of g.met.By.KeyOf.total g.C.ChangeOf.changed g.C.ChangeOf.put c.args.items.now c.split_at-2.result.0.now c.split_at-2.result.1.now
    c.args.changes.now c.split_at.result.0.now c.split_at.result.1.now first (drop 1 c.split_at.result.1.now) _ _ _
    c.split_at-2.ensures.by_index.0 c.split_at.ensures.by_index.0 starts c.requires.changes c.requires.keyed left right front back)
    c.fill-2.ensures
