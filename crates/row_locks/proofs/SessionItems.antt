-- What each session holds, where one session more is there or one is changed.
use Rattle.std.proofs.Common.{◌≡◌, ◌≢◌, ℕ, zero, suc, ◌<◌, ◌≤◌, List, [], ◌∷◌, ◌++◌, length, get_or, refl, sym, ap, ◌∙◌, arith}
use Rattle.std.specs.Prelude.{slice_set}
use Rattle.row_locks.specs.declared.session_locks.SessionLocks.{SessionLocks}
use Rattle.row_locks.specs.SessionItems.{all_items, items_by, items_of}

pub items_got : (sessions : List SessionLocks) (place : ℕ) (old : SessionLocks) → place < length sessions → old ≡ get_or sessions place old → items_by (all_items sessions) place ≡ items_of old
items_got [] place old within is = absurd (omega arith)
items_got (first ∷ sessions) zero old within is = ap items_of (sym is)
items_got (first ∷ sessions) (suc place) old within is = items_got sessions place old (omega arith) is

pub items_past : (sessions : List SessionLocks) (place : ℕ) → length sessions ≤ place → items_by (all_items sessions) place ≡ []
items_past [] place past = refl
items_past (first ∷ sessions) zero past = absurd (omega arith)
items_past (first ∷ sessions) (suc place) past = items_past sessions place (omega arith)

pub items_own : (sessions : List SessionLocks) (place : ℕ) (new : SessionLocks) → place < length sessions → items_by (all_items (slice_set sessions place new)) place ≡ items_of new
items_own [] place new within = absurd (omega arith)
items_own (first ∷ sessions) zero new within = refl
items_own (first ∷ sessions) (suc place) new within = items_own sessions place new (omega arith)

pub items_other : (sessions : List SessionLocks) (place other : ℕ) (new : SessionLocks) → other ≢ place → items_by (all_items (slice_set sessions place new)) other ≡ items_by (all_items sessions) other
items_other [] place other new apart = refl
items_other (first ∷ sessions) zero zero new apart = absurd (apart refl)
items_other (first ∷ sessions) zero (suc other) new apart = refl
items_other (first ∷ sessions) (suc place) zero new apart = refl
items_other (first ∷ sessions) (suc place) (suc other) new apart = items_other sessions place other new (λ same. apart (ap suc same))

pub items_same : (sessions : List SessionLocks) (place : ℕ) (old new : SessionLocks) → old ≡ get_or sessions place old → items_of new ≡ items_of old
    → (other : ℕ) → items_by (all_items (slice_set sessions place new)) other ≡ items_by (all_items sessions) other
items_same [] place old new is same other = refl
items_same (first ∷ sessions) zero old new is same zero = same ∙ ap items_of is
items_same (first ∷ sessions) zero old new is same (suc other) = refl
items_same (first ∷ sessions) (suc place) old new is same zero = refl
items_same (first ∷ sessions) (suc place) old new is same (suc other) = items_same sessions place old new is same other

-- a session more, which holds nothing
pub items_more : (sessions : List SessionLocks) (new : SessionLocks) → items_of new ≡ [] → (other : ℕ) → items_by (all_items (sessions ++ new ∷ [])) other ≡ items_by (all_items sessions) other
items_more [] new nothing zero = nothing
items_more [] new nothing (suc other) = refl
items_more (first ∷ sessions) new nothing zero = refl
items_more (first ∷ sessions) new nothing (suc other) = items_more sessions new nothing other
