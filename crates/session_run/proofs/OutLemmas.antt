-- How many passes are away, when those that were sent out are back.
use Rattle.std.proofs.Common.{◌≡◌, ℕ, zero, suc, ◌<◌, ◌≢◌, List, [], ◌∷◌, length, map, get_or, refl, ap, sym, ◌∙◌, subst, arith, inl, inr}
use Rattle.std.specs.Prelude.{◌⊎◌, Bool, false}
use Rattle.std.specs.List.{AllByRecursion}
use mathlib.Core.Logic.{dite}
use native.Mathlib.Decide.{ℕ_discrete}
use Rattle.commit_turn.specs.declared.view.Stage.{Stage}
use Rattle.commit_turn.specs.declared.view.Stage.TheVariants.{Fresh}
use Rattle.commit_turn.specs.Kept.{is_out}
use Rattle.session_run.specs.Sessions.{IsElsewhere}

-- lists of one length that agree at each index are one
same_lists : (xs ys : List Bool) → length xs ≡ length ys → ((i : ℕ) → i < length xs → get_or xs i false ≡ get_or ys i false) → xs ≡ ys
same_lists [] [] long each = refl
same_lists [] (y ∷ ys) long each = absurd (omega arith)
same_lists (x ∷ xs) [] long each = absurd (omega arith)
same_lists (x ∷ xs) (y ∷ ys) long each =
    let first : x ≡ y = each 0 (omega arith) in
    let rest : xs ≡ ys = same_lists xs ys (omega arith) (λ i inside. each (suc i) (omega arith)) in
    (λ k. first k ∷ rest k)

-- as many flags as stages
flags_long : (stages : List Stage) → length (map is_out stages) ≡ length stages
flags_long [] = refl
flags_long (stage ∷ stages) = let rest = flags_long stages in omega arith

-- a flag by its stage
flag_at : (stages : List Stage) (i : ℕ) → get_or (map is_out stages) i false ≡ is_out (get_or stages i Fresh)
flag_at [] i = refl
flag_at (stage ∷ stages) zero = refl
flag_at (stage ∷ stages) (suc i) = flag_at stages i

-- a number is among these or isn't
among : (number : ℕ) (numbers : List ℕ) (P : ℕ → Type 0) → AllByRecursion P numbers → IsElsewhere number numbers ⊎ P number
among number [] P all = inl tt
among number (first ∷ numbers) P all = dite (ℕ_discrete number first)
    (λ same. inr (subst P (sym same) all.0))
    (λ apart. by apart (among number numbers P all.1))
  where
    by : number ≢ first → IsElsewhere number numbers ⊎ P number → IsElsewhere number (first ∷ numbers) ⊎ P number
    by apart (inl elsewhere) = inl (apart, elsewhere)
    by apart (inr is) = inr is

-- where no session's pass is away that was not, and the others' stages stay, the flags are as they were
pub flags-back : (old new : List Stage) (numbers : List ℕ) → length new ≡ length old
    → ((session : ℕ) → IsElsewhere session numbers → get_or new session Fresh ≡ get_or old session Fresh)
    → AllByRecursion (λ session. is_out (get_or new session Fresh) ≡ is_out (get_or old session Fresh)) numbers
    → map is_out new ≡ map is_out old
flags-back old new numbers long others back = same_lists (map is_out new) (map is_out old)
    (flags_long new ∙ (long ∙ sym (flags_long old)))
    (λ i inside. flag_at new i ∙ (by i (among i numbers _ back) ∙ sym (flag_at old i)))
  where
    by : (i : ℕ) → IsElsewhere i numbers ⊎ (is_out (get_or new i Fresh) ≡ is_out (get_or old i Fresh)) → is_out (get_or new i Fresh) ≡ is_out (get_or old i Fresh)
    by i (inl elsewhere) = ap is_out (others i elsewhere)
    by i (inr same) = same
