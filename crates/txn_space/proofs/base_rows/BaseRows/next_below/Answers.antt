use Rattle.std.proofs.Common.{◌≡◌, ◌∷◌, ◌++◌, List, ap, drop, refl, sym, subst, ◌∙◌, false}
use Rattle.std.specs.Ordering.{is_eq, is_lt}
use Rattle.own_base.specs.Key.{key_cmp}
use Rattle.own_model.specs.Db.{Row, key_of}
use Rattle.own_model.specs.Stored.{rows_at}
use Rattle.page_model.specs.Changed.{above_key}
use Rattle.page_model.specs.Rising.{IsRising}
use Rattle.page_model.proofs.RisingLemmas.{rising_tail}
use Rattle.txn_space.proofs.BelowLemmas.{above_all, above_own, none_below}
use Rattle.txn_space.proofs.RunsLeft.{first_left}
use Rattle.txn_space.proofs.base_rows.BaseRows.next_below.Goals as goal

-- The row was the first of those that are left.
pub returns-in-Less-clause-rising : goal.returns-in-Less-clause-rising
returns-in-Less-clause-rising g c =
    let tail = drop c.refill.new.self.behind (rows_at (g.V.StoreView.db c.refill.new.self.base.now).rows c.refill.new.self.table.0) in
    let rest : List Row = c.in_ok-row.others.now ++ tail in
    let whole : c.args.self.now ≡ c.in_ok-row.row.now ∷ rest =
    first_left c.args.self.now _ c.refill.new.self.run.now c.in_ok-row.others.now tail _ c.in_ok-row.row.now c.self.view_is c.refill.ensures.same c.in_ok-row.ensures.cases.0 (rw (c.refill.ensures.base, c.refill.ensures.table) refl) in
    let rising = subst (IsRising (key_of c.args.definition.now) key_cmp) whole c.requires in
    rising_tail (key_of c.args.definition.now) key_cmp c.in_ok-row.row.now rest rising

pub returns-in-Equal-clause-rising : goal.returns-in-Equal-clause-rising
returns-in-Equal-clause-rising g c =
    let tail = drop c.refill.new.self.behind (rows_at (g.V.StoreView.db c.refill.new.self.base.now).rows c.refill.new.self.table.0) in
    let rest : List Row = c.in_ok-row.others.now ++ tail in
    let whole : c.args.self.now ≡ c.in_ok-row.row.now ∷ rest =
    first_left c.args.self.now _ c.refill.new.self.run.now c.in_ok-row.others.now tail _ c.in_ok-row.row.now c.self.view_is c.refill.ensures.same c.in_ok-row.ensures.cases.0 (rw (c.refill.ensures.base, c.refill.ensures.table) refl) in
    let rising = subst (IsRising (key_of c.args.definition.now) key_cmp) whole c.requires in
    rising_tail (key_of c.args.definition.now) key_cmp c.in_ok-row.row.now rest rising

-- It is not below the key, so none is.
pub returns-in-Equal-clause-below : goal.returns-in-Equal-clause-below
returns-in-Equal-clause-below g c =
    let tail = drop c.refill.new.self.behind (rows_at (g.V.StoreView.db c.refill.new.self.base.now).rows c.refill.new.self.table.0) in
    let rest : List Row = c.in_ok-row.others.now ++ tail in
    let whole : c.args.self.now ≡ c.in_ok-row.row.now ∷ rest =
    first_left c.args.self.now _ c.refill.new.self.run.now c.in_ok-row.others.now tail _ c.in_ok-row.row.now c.self.view_is c.refill.ensures.same c.in_ok-row.ensures.cases.0 (rw (c.refill.ensures.base, c.refill.ensures.table) refl) in
    let rising = subst (IsRising (key_of c.args.definition.now) key_cmp) whole c.requires in
    let upto : is_lt (key_cmp (key_of c.args.definition.now c.in_ok-row.row.now) c.args.key.now) ≡ false = ap is_lt (sym c.compare_key.ensures ∙ c.in-Equal.is) in
    rw whole (none_below c.args.definition.now c.args.key.now c.in_ok-row.row.now rest rising upto)

pub returns-in-Equal-clause-above : goal.returns-in-Equal-clause-above
returns-in-Equal-clause-above g c =
    let tail = drop c.refill.new.self.behind (rows_at (g.V.StoreView.db c.refill.new.self.base.now).rows c.refill.new.self.table.0) in
    let rest : List Row = c.in_ok-row.others.now ++ tail in
    let whole : c.args.self.now ≡ c.in_ok-row.row.now ∷ rest =
    first_left c.args.self.now _ c.refill.new.self.run.now c.in_ok-row.others.now tail _ c.in_ok-row.row.now c.self.view_is c.refill.ensures.same c.in_ok-row.ensures.cases.0 (rw (c.refill.ensures.base, c.refill.ensures.table) refl) in
    let rising = subst (IsRising (key_of c.args.definition.now) key_cmp) whole c.requires in
    let upto : is_lt (key_cmp (key_of c.args.definition.now c.in_ok-row.row.now) c.args.key.now) ≡ false = ap is_lt (sym c.compare_key.ensures ∙ c.in-Equal.is) in
    rw whole (sym (above_own c.args.definition.now c.args.key.now c.in_ok-row.row.now rest rising upto (ap is_eq (sym c.compare_key.ensures ∙ c.in-Equal.is))))

pub returns-in-Greater-clause-below : goal.returns-in-Greater-clause-below
returns-in-Greater-clause-below g c =
    let tail = drop c.refill.new.self.behind (rows_at (g.V.StoreView.db c.refill.new.self.base.now).rows c.refill.new.self.table.0) in
    let rest : List Row = c.in_ok-row.others.now ++ tail in
    let whole : c.args.self.now ≡ c.in_ok-row.row.now ∷ rest =
    first_left c.args.self.now _ c.refill.new.self.run.now c.in_ok-row.others.now tail _ c.in_ok-row.row.now c.self.view_is c.refill.ensures.same c.in_ok-row.ensures.cases.0 (rw (c.refill.ensures.base, c.refill.ensures.table) refl) in
    let rising = subst (IsRising (key_of c.args.definition.now) key_cmp) whole c.requires in
    let upto : is_lt (key_cmp (key_of c.args.definition.now c.in_ok-row.row.now) c.args.key.now) ≡ false = ap is_lt (sym c.compare_key.ensures ∙ c.in-Greater.is) in
    rw whole (none_below c.args.definition.now c.args.key.now c.in_ok-row.row.now rest rising upto)

pub returns-in-Greater-clause-above : goal.returns-in-Greater-clause-above
returns-in-Greater-clause-above g c =
    let tail = drop c.refill.new.self.behind (rows_at (g.V.StoreView.db c.refill.new.self.base.now).rows c.refill.new.self.table.0) in
    let rest : List Row = c.in_ok-row.others.now ++ tail in
    let whole : c.args.self.now ≡ c.in_ok-row.row.now ∷ rest =
    first_left c.args.self.now _ c.refill.new.self.run.now c.in_ok-row.others.now tail _ c.in_ok-row.row.now c.self.view_is c.refill.ensures.same c.in_ok-row.ensures.cases.0 (rw (c.refill.ensures.base, c.refill.ensures.table) refl) in
    let rising = subst (IsRising (key_of c.args.definition.now) key_cmp) whole c.requires in
    let upto : is_lt (key_cmp (key_of c.args.definition.now c.in_ok-row.row.now) c.args.key.now) ≡ false = ap is_lt (sym c.compare_key.ensures ∙ c.in-Greater.is) in
    ap (λ (run : List Row). run ++ tail) c.in_ok-row.ensures.cases.0
    ∙ sym (ap (above_key (key_of c.args.definition.now) key_cmp c.args.key.now) whole
    ∙ above_all c.args.definition.now c.args.key.now c.in_ok-row.row.now rest rising upto (ap is_eq (sym c.compare_key.ensures ∙ c.in-Greater.is)))
