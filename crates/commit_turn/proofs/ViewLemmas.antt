-- Facts of all views, when one is set or one comes.
use Rattle.std.proofs.Common.{◌≡◌, ℕ, ◌<◌, ◌≢◌, ◌⊎◌, inl, inr, zero, suc, List, [], ◌∷◌, ◌++◌, length, set, sym, refl, ap, ◌∙◌, subst, ⊎_elim, arith}
use Rattle.std.specs.Prelude.{true, false}
use mathlib.Core.Option.{some, some-injective, some-ne-none}
use mathlib.Core.Logic.{dite}
use native.Mathlib.Decide.{ℕ_discrete}
use lib.ListN.{get_elem?}
use Rattle.atomic_table.proofs.Lists.{at_set, set_here, set_else, at_longer}
use Rattle.commit_turn.specs.declared.view.View.{View}

pub inside_of : {A : Type 0} → (l : List A) (i : ℕ) (a : A) → get_elem? l i ≡ some a → i < length l
inside_of [] i a e = absurd (some-ne-none a (sym e))
inside_of (x ∷ xs) zero a e = omega arith
inside_of (x ∷ xs) (suc i) a e = let m = inside_of xs i a e in omega arith

pub one_there : {A : Type 0} → (l : List A) (i : ℕ) (a b : A) → get_elem? l i ≡ some a → get_elem? l i ≡ some b → a ≡ b
one_there l i a b p q = some-injective a b (sym p ∙ q)

-- what stands in a list with one more
pub at_more : {A : Type 0} → (l : List A) (a b : A) (j : ℕ) → get_elem? (l ++ a ∷ []) j ≡ some b → (get_elem? l j ≡ some b) ⊎ ((j ≡ length l) × (a ≡ b))
at_more [] a b zero e = inr (refl, some-injective a b e)
at_more [] a b (suc j) e = absurd (some-ne-none b (sym e))
at_more (x ∷ xs) a b zero e = inl e
at_more (x ∷ xs) a b (suc j) e = ⊎_elim (λ t. inl t) (λ t. inr (ap suc t.0, t.1)) (at_more xs a b j e)

-- what holds of the view that is set, and of all others
pub each : (P : ℕ → View → Type 0) (views : List View) (id : ℕ) (w : View) → P id w → ((i : ℕ) (v : View) → i ≢ id → get_elem? views i ≡ some v → P i v)
    → (i : ℕ) (v : View) → get_elem? (set views id w) i ≡ some v → P i v
each P views id w mine others i v e =
    ⊎_elim (λ (t : (i ≡ id) × (w ≡ v)). subst (λ (x : ℕ × View). P x.0 x.1) (λ k. (sym t.0 k, t.1 k)) mine)
    (λ (t : (i ≢ id) × (get_elem? views i ≡ some v)). others i v t.0 t.1) (at_set views id i w v e)

-- and where one more comes
pub each_more : (P : ℕ → View → Type 0) (views : List View) (w : View) → P (length views) w → ((i : ℕ) (v : View) → get_elem? views i ≡ some v → P i v)
    → (i : ℕ) (v : View) → get_elem? (views ++ w ∷ []) i ≡ some v → P i v
each_more P views w mine others i v e =
    ⊎_elim (λ (t : get_elem? views i ≡ some v). others i v t) (λ (t : (i ≡ length views) × (w ≡ v)). subst (λ (x : ℕ × View). P x.0 x.1) (λ k. (sym t.0 k, t.1 k)) mine) (at_more views w v i e)

-- a live view has seen so many entries
abbrev pub Whole : List View → ℕ → Type 0
Whole views n = (seat : ℕ) × (view : View) × (get_elem? views seat ≡ some view) × (view.live ≡ true) × (length view.seen ≡ n)

pub whole_set : (views : List View) (id : ℕ) (v w : View) (n : ℕ) → get_elem? views id ≡ some v → w.live ≡ true → (length v.seen ≡ n → length w.seen ≡ n) → Whole views n → Whole (set views id w) n
whole_set views id v w n mine live long whole = dite (ℕ_discrete whole.0 id)
    (λ here.
    let same : whole.1 ≡ v = one_there views id whole.1 v (subst (λ k. get_elem? views k ≡ some whole.1) here whole.2) mine in
    (id, w, set_here views id w (inside_of views id v mine), live, long (ap (λ (u : View). length u.seen) (sym same) ∙ whole.4)))
    (λ else. (whole.0, whole.1, set_else views id whole.0 w else ∙ whole.2, whole.3, whole.4))

pub whole_more : (views : List View) (w : View) (n : ℕ) → Whole views n → Whole (views ++ w ∷ []) n
whole_more views w n whole = (whole.0, whole.1, at_longer views (w ∷ []) whole.0 whole.1 whole.2, whole.3, whole.4)

-- the view of this seat has the turn
abbrev pub Holder : List View → ℕ → Type 0
Holder views seat = (view : View) × (get_elem? views seat ≡ some view) × (view.live ≡ true) × (view.holds ≡ true)

pub holder_set : (views : List View) (id seat : ℕ) (v w : View) → get_elem? views id ≡ some v → v.holds ≡ false → Holder views seat → Holder (set views id w) seat
holder_set views id seat v w mine idle holder =
    let other : seat ≢ id = (λ here.
    let same : holder.0 ≡ v = one_there views id holder.0 v (subst (λ k. get_elem? views k ≡ some holder.0) here holder.1) mine in
    let never : ⊥ = (let a : holder.0.holds ≡ false = ap (λ (u : View). u.holds) same ∙ idle in let b = holder.3 in cc) in absurd never) in
    (holder.0, set_else views id seat w other ∙ holder.1, holder.2, holder.3)

pub holder_more : (views : List View) (seat : ℕ) (w : View) → Holder views seat → Holder (views ++ w ∷ []) seat
holder_more views seat w holder = (holder.0, at_longer views (w ∷ []) seat holder.0 holder.1, holder.2, holder.3)
