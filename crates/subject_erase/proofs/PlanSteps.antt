-- A plan, change by change.
use Rattle.std.proofs.Common.{◌≡◌, List, [], ◌∷◌, ◌++◌, map, Bool, true, false, cond, not, refl, ap, sym, ◌∙◌, append_assoc, append-nil}
use Rattle.std.specs.Prelude.{filter, if◌then◌else◌}
use Rattle.own_base.specs.declared.change.Change.{Change}
use Rattle.subject_erase.specs.declared.plan.ErasePlan.{ErasePlan}
use Rattle.subject_erase.specs.Plan.{leaves_row, plan_of, plan_with}

-- two plans, one behind the other
abbrev joined : ErasePlan → ErasePlan → ErasePlan
joined one other = record { removed = one.removed ++ other.removed; changed = one.changed ++ other.changed }

-- the plan, with that of the changes that are left, is that of all
pub record Planning (all left : List Change) (plan : ErasePlan) : Type 0 where
  pub rest : joined plan (plan_of left) ≡ plan_of all

pub Planning-none : (all : List Change) → Planning all all (record { removed = []; changed = [] })
Planning-none all = record { rest = refl }

one_more : (plan : ErasePlan) (change : Change) (left : List Change) → (leaves : Bool)
    → joined (if leaves then record plan { changed = plan.changed ++ change ∷ [] } else record plan { removed = plan.removed ++ change.name ∷ [] }) (plan_of left)
    ≡ joined plan (record { removed = map (λ c. c.name) (cond (not leaves) (change ∷ filter (λ c. not (leaves_row c)) left) (filter (λ c. not (leaves_row c)) left)); changed = cond leaves (change ∷ filter leaves_row left) (filter leaves_row left) })
one_more plan change left true =
    ap (λ changes. record { removed = plan.removed ++ map (λ c. c.name) (filter (λ c. not (leaves_row c)) left); changed = changes }) (append_assoc plan.changed (change ∷ []) (filter leaves_row left))
one_more plan change left false =
    ap (λ names. record { removed = names; changed = plan.changed ++ filter leaves_row left }) (append_assoc plan.removed (change.name ∷ []) (map (λ c. c.name) (filter (λ c. not (leaves_row c)) left)))

-- one change more
pub Planning-more : (all left : List Change) (change : Change) (plan next : ErasePlan) → Planning all (change ∷ left) plan → next ≡ plan_with plan change → Planning all left next
Planning-more all left change plan next so_far is =
    record { rest = ap (λ p. joined p (plan_of left)) is ∙ (one_more plan change left (leaves_row change) ∙ so_far.rest) }

-- and all of them
pub Planning-end : (all left : List Change) (plan : ErasePlan) → Planning all left plan → left ≡ [] → plan ≡ plan_of all
Planning-end all left plan so_far none =
    let whole : joined plan (plan_of []) ≡ plan =
    ap (λ names. record { removed = names; changed = plan.changed ++ [] }) (append-nil plan.removed) ∙ ap (λ changes. record { removed = plan.removed; changed = changes }) (append-nil plan.changed) in
    sym whole ∙ (ap (λ changes. joined plan (plan_of changes)) (sym none) ∙ so_far.rest)
