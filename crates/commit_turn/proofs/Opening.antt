-- A turn that is made keeps the rule.
use Rattle.std.proofs.Common.{◌≡◌, ℕ, zero, suc, List, [], ◌∷◌, length, get_or, replicate, sym, refl, ap, subst, arith}
use Rattle.std.specs.Prelude.{false, Some}
use mathlib.Core.Option.{some, some-injective, some-ne-none}
use lib.ListN.{get_elem?}
use Rattle.own_model.specs.declared.history.Entry.{Entry}
use Rattle.turn_model.specs.Start.{Start}
use Rattle.atomic_table.specs.Table.{opening}
use Rattle.commit_turn.specs.declared.view.Stage.{Stage}
use Rattle.commit_turn.specs.declared.view.Stage.TheVariants.{Fresh}
use Rattle.commit_turn.specs.declared.view.View.{View}
use Rattle.commit_turn.specs.Rule.{Rule, Fits, Knows, Nobody, first}
use Rattle.commit_turn.proofs.PlaceLemmas.{places-none}
use Rattle.commit_turn.proofs.Prefixes.{prefix_refl}

only : (f v : View) (i : ℕ) → get_elem? (f ∷ []) i ≡ some v → (i ≡ 0) × (f ≡ v)
only f v zero e = (refl, some-injective f v e)
only f v (suc i) e = absurd (some-ne-none v (sym e))

all_fresh : (n i : ℕ) → get_or (replicate n Fresh) i Fresh ≡ Fresh
all_fresh zero i = refl
all_fresh (suc n) zero = refl
all_fresh (suc n) (suc i) = all_fresh n i

module _ {T : Type 0} (history : T → List Entry) (start : T → Start) (value : T) where
  abbrev base : List Entry
  base = history value

  abbrev from : Start
  from = start value

  mine : Fits base base from (λ session. Nobody) 0 (first base from)
  mine = record {
    seen = prefix_refl base;
    more = omega arith;
    was = (base, refl);
    heard = (base, refl);
    number = refl;
    start = refl;
    plays = (refl, refl, λ session. subst (λ (s : Stage). Knows s Nobody) (sym (all_fresh 17 session)) refl);
  }

  pub opens : Rule history start base from (opening (0 ∷ length base ∷ []) (Some value ∷ []) (first base from))
  opens = record {
    log = base;
    at = λ session. Nobody;
    turn = 0;
    holder = 0;
    begins = prefix_refl base;
    words = refl;
    bit = omega arith;
    home = λ free. (value, refl, refl, refl);
    away = λ held. absurd (held refl);
    held = λ seat view there live holds.
        let is : first base from ≡ view = (only (first base from) view seat there).1 in
        let idle : view.holds ≡ false = ap (λ (v : View). v.holds) (sym is) in
        let never : ⊥ = cc in absurd never;
    whole = (0, first base from, refl, refl, refl);
    fits = λ seat view there live.
        let is = only (first base from) view seat there in
        subst (λ (x : ℕ × View). Fits base base from (λ session. Nobody) x.0 x.1) (λ i. (sym is.0 i, is.1 i)) mine;
    stand = λ session. places-none base session;
  }
