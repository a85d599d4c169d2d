-- A turn of which no pass is out leaves its value, whose entries are those that the lead has seen.
use Rattle.std.proofs.Common.{◌≡◌, ℕ, ◌+◌, zero, suc, List, [], ◌∷◌, map, length, get_or, sym, refl, ap, ◌∙◌, subst, arith}
use Rattle.std.proofs.lemmas.List.Sums.{sum_by-cons}
use Rattle.std.specs.Prelude.{cond, Bool, true, false, Option, Some}
use mathlib.Core.Logic.{dite}
use mathlib.Core.Option.{Option as Perhaps, some}
use native.Mathlib.Decide.{ℕ_discrete}
use lib.ListN.{get_elem?}
use Rattle.own_model.specs.declared.history.Entry.{Entry}
use Rattle.turn_model.specs.Places.{places_beyond}
use Rattle.turn_model.specs.Start.{Start}
use Rattle.atomic_table.specs.Table.{State, Final, Seen}
use Rattle.commit_turn.specs.declared.view.Stage.{Stage}
use Rattle.commit_turn.specs.declared.view.Stage.TheVariants.{Fresh, Out, Joined}
use Rattle.commit_turn.specs.declared.view.View.{View}
use Rattle.commit_turn.specs.Flags.{raised}
use Rattle.commit_turn.specs.Kept.{is_out, places_in}
use Rattle.commit_turn.specs.Rule.{Rule, Fits, Knows, Plays, StandAt, Whereabouts, AtSeat, stage_of}
use Rattle.commit_turn.proofs.Prefixes.{prefix_whole}
use Rattle.commit_turn.proofs.ViewLemmas.{one_there}

quiet_parts : (flag : Bool) (flags : List Bool) → raised (flag ∷ flags) ≡ 0 → (flag ≡ false) × (raised flags ≡ 0)
quiet_parts true flags none = absurd (let e : raised (true ∷ flags) ≡ 1 + raised flags = sum_by-cons (λ flag. cond flag 1 0) true flags in omega arith)
quiet_parts false flags none = (refl, (let e : raised (false ∷ flags) ≡ 0 + raised flags = sum_by-cons (λ flag. cond flag 1 0) false flags in omega arith))

-- where no flag is raised no session is out
pub none_out : (stages : List Stage) → raised (map is_out stages) ≡ 0 → (session : ℕ) → is_out (get_or stages session Fresh) ≡ false
none_out [] none session = refl
none_out (s ∷ stages) none zero = (quiet_parts (is_out s) (map is_out stages) none).0
none_out (s ∷ stages) none (suc session) = none_out stages (quiet_parts (is_out s) (map is_out stages) none).1 session

module _ {T : Type 0} (history : T → List Entry) (start : T → Start) (base : List Entry) (from : Start) where
  abbrev Law : State (Option T) View → Type 0
  Law = Rule history start base from

  -- a session that isn't out is where its entries stand
  stands_in : (stage : Stage) (at : Whereabouts) (places : List ℕ) → is_out stage ≡ false → Knows stage at → StandAt places at → places ≡ places_in stage
  stands_in Fresh at places quiet knows stand = subst (StandAt places) knows stand
  stands_in Out at places quiet knows stand = let never : ⊥ = cc in absurd never
  stands_in (Joined kept) at places quiet knows stand = subst (StandAt places) knows stand

  seated_out : (stage : Stage) (seat : ℕ) → Knows stage (AtSeat seat) → is_out stage ≡ false → ⊥
  seated_out Fresh seat knows quiet = cc
  seated_out Out seat knows quiet = cc
  seated_out (Joined kept) seat knows quiet = cc

  module _ (id : ℕ) (v : View) (live : v.live ≡ true) (lead : v.lead ≡ true) (idle : v.holds ≡ false) (quiet : (session : ℕ) → is_out (stage_of v session) ≡ false)
      (s : State (Option T) View) (r : Law s) (mine : get_elem? s.views id ≡ some v) where
    fit : Fits base r.log from r.at id v
    fit = r.fits id v mine live

    plays : Plays base r.log r.at id v true
    plays = subst (Plays base r.log r.at id v) lead fit.plays

    -- no other view is live
    alone : (i : ℕ) (u : View) → get_elem? s.views i ≡ some u → u.live ≡ true → u ≡ v
    alone i u there alive = by u.lead (r.fits i u there alive).plays
      where
        by : (b : Bool) → Plays base r.log r.at i u b → u ≡ v
        by true p = one_there s.views id u v (subst (λ k. get_elem? s.views k ≡ some u) (p.0 ∙ sym plays.0) there) mine
        by false p = absurd (seated_out (stage_of v u.session) i (subst (Knows (stage_of v u.session)) p.0 (plays.2 u.session)) (quiet u.session))

    free : r.turn ≡ 0
    free = dite (ℕ_discrete r.turn 0) (λ e. e) (λ taken.
        let h = r.away taken in
        let same : h.0 ≡ v = alone r.holder h.0 h.1 h.2 in
        let is : h.0.holds ≡ false = ap (λ (u : View). u.holds) same ∙ idle in
        let never : ⊥ = (let b = h.3 in cc) in absurd never)

    all : v.seen ≡ r.log
    all = let w = r.whole in let same : w.1 ≡ v = alone w.0 w.1 w.2 w.3 in
        prefix_whole v.seen r.log fit.seen (ap (λ (u : View). length u.seen) (sym same) ∙ w.4)

    -- the value at home is that of the slot
    pub leaves : (slots : List (Option T)) (slot : Option T) → get_elem? slots 0 ≡ some slot → ((k : ℕ) (y : Option T) → get_elem? s.homes k ≡ some (some y) → get_elem? slots k ≡ some y)
        → (value : T) × (slot ≡ Some value) × (history value ≡ v.seen) × (start value ≡ v.start)
        × ((session : ℕ) → places_beyond v.base session v.seen ≡ places_in (stage_of v session))
    leaves slots slot there have = let h = r.home free in (
      h.0,
      one_there slots 0 slot (Some h.0) there (have 0 (Some h.0) (ap (λ (hs : List (Perhaps (Option T))). get_elem? hs 0) h.1)),
      h.2 ∙ sym all,
      h.3 ∙ sym fit.start,
      λ session. subst (λ (x : ℕ × List Entry). places_beyond x.0 session x.1 ≡ places_in (stage_of v session)) (λ i. (sym fit.number i, sym all i))
          (stands_in (stage_of v session) (r.at session) (places_beyond (length base) session r.log) (quiet session) (plays.2 session) (r.stand session)),
    )

  -- So it is at the end of the table, and the lead's view is that of its pass.
  pub closes : (id : ℕ) (v : View) (words : List ℕ) (slots : List (Option T)) (slot : Option T) → v.live ≡ true → v.lead ≡ true → v.holds ≡ false → raised (map is_out v.stages) ≡ 0
      → Final (Seen Law id v) words slots → get_elem? slots 0 ≡ some slot
      → (value : T) × (slot ≡ Some value) × (history value ≡ v.seen) × (start value ≡ v.start)
      × ((session : ℕ) → places_beyond v.base session v.seen ≡ places_in (stage_of v session))
  closes id v words slots slot live lead idle none final there =
      leaves id v live lead idle (none_out v.stages none) final.0 final.1.0 final.1.1 slots slot there final.4

  -- whatever is taken out of the slot is that value
  pub closes_with : (id : ℕ) (v : View) (words : List ℕ) (slots : List (Option T)) (slot : Option T) (value : T) → v.live ≡ true → v.lead ≡ true → v.holds ≡ false → raised (map is_out v.stages) ≡ 0
      → Final (Seen Law id v) words slots → get_elem? slots 0 ≡ some slot → slot ≡ Some value
      → (history value ≡ v.seen) × (start value ≡ v.start) × ((session : ℕ) → places_beyond v.base session (history value) ≡ places_in (stage_of v session))
  closes_with id v words slots slot value live lead idle none final there is =
      let all = closes id v words slots slot live lead idle none final there in
      let some_is : Some all.0 ≡ Some value = sym all.1 ∙ is in
      let same : all.0 ≡ value = cc in (
        ap history (sym same) ∙ all.2,
        ap start (sym same) ∙ all.3,
        λ session. ap (places_beyond v.base session) (ap history (sym same) ∙ all.2) ∙ all.4 session,
      )
