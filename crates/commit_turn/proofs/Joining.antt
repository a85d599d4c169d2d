-- A seat that is joined to the lead's keeps the rule.
use Rattle.std.proofs.Common.{◌≡◌, ℕ, ◌<◌, ◌≤◌, ◌≢◌, ◌⊎◌, inl, inr, List, length, set, sym, refl, ap, ◌∙◌, subst, ⊎_elim, arith}
use Rattle.std.specs.Prelude.{Bool, true, false, Option}
use mathlib.Core.List.{IsPrefix}
use mathlib.Core.Logic.{dite}
use mathlib.Core.Option.{some}
use native.Mathlib.Decide.{ℕ_discrete}
use lib.ListN.{get_elem?}
use Rattle.own_model.specs.declared.history.Entry.{Entry}
use Rattle.turn_model.specs.Places.{places_beyond}
use Rattle.turn_model.specs.Start.{Start}
use Rattle.atomic_table.specs.Table.{State, Joins}
use Rattle.atomic_table.proofs.Lists.{set_here, set_else}
use Rattle.commit_turn.specs.declared.view.Stage.TheVariants.{Joined}
use Rattle.commit_turn.specs.declared.view.View.{View}
use Rattle.commit_turn.specs.Rule.{Rule, Fits, Knows, Plays, Whereabouts, AtSeat, Home, stage_of}
use Rattle.commit_turn.specs.Steps.{lead_with, longer, spent}
use Rattle.commit_turn.proofs.Prefixes.{prefix_refl, prefix_length, prefix_both, longer_is}
use Rattle.commit_turn.proofs.ViewLemmas.{Whole, each, holder_set, inside_of, one_there}
use Rattle.commit_turn.proofs.Whereabout.{known_inside, knows_moved, moved, moved_else, plays_else, stand_moved}

-- of two beginnings of a history the longer is as long as the history, where one of them is
longer_whole : (one other : List Entry) (n : ℕ) → length one ≤ n → length other ≤ n → (length one ≡ n) ⊎ (length other ≡ n) → length (longer one other) ≡ n
longer_whole one other n a b is =
    ⊎_elim (λ (t : (length one < length other) × (longer one other ≡ other)). rw t.1 (⊎_elim (λ (e : length one ≡ n). absurd (let l = t.0 in omega arith)) (λ e. e) is))
    (λ (t : (length other ≤ length one) × (longer one other ≡ one)). rw t.1 (⊎_elim (λ e. e) (λ (e : length other ≡ n). let l = t.0 in omega arith) is)) (longer_is one other)

-- and both begin the longer
longer_has : (one other log : List Entry) → IsPrefix one log → IsPrefix other log → IsPrefix one (longer one other) × IsPrefix other (longer one other) × IsPrefix (longer one other) log
longer_has one other log p q =
    ⊎_elim (λ (t : (length one < length other) × (longer one other ≡ other)). subst (λ l. IsPrefix one l × IsPrefix other l × IsPrefix l log) (sym t.1) (prefix_both one other log p q (let l = t.0 in omega arith), prefix_refl other, q))
    (λ (t : (length other ≤ length one) × (longer one other ≡ one)). subst (λ l. IsPrefix one l × IsPrefix other l × IsPrefix l log) (sym t.1) (prefix_refl one, prefix_both other one log q p t.0, p)) (longer_is one other)

module _ {T : Type 0} (history : T → List Entry) (start : T → Start) (base : List Entry) (from : Start) where
  abbrev Law : State (Option T) View → Type 0
  Law = Rule history start base from

  module _ (id other : ℕ) (v w : View) (live : v.live ≡ true) (lead : v.lead ≡ true) (idle : v.holds ≡ false) (alive : w.live ≡ true) (guest : w.lead ≡ false) (done : w.holds ≡ false)
      (s : State (Option T) View) (r : Law s) (mine : get_elem? s.views id ≡ some v) (apart : other ≢ id) (theirs : get_elem? s.views other ≡ some w) where
    abbrev both : View
    both = lead_with v w

    abbrev at : ℕ → Whereabouts
    at = moved r.at w.session (Home w.places)

    fit : Fits base r.log from r.at id v
    fit = r.fits id v mine live

    plays : Plays base r.log r.at id v true
    plays = subst (Plays base r.log r.at id v) lead fit.plays

    guest_fit : Fits base r.log from r.at other w
    guest_fit = r.fits other w theirs alive

    guest_plays : Plays base r.log r.at other w false
    guest_plays = subst (Plays base r.log r.at other w) guest guest_fit.plays

    inside : w.session < length v.stages
    inside = known_inside v.stages w.session other (subst (λ (x : Whereabouts). Knows (stage_of v w.session) x) guest_plays.0 (plays.2 w.session))

    has : IsPrefix v.seen both.seen × IsPrefix w.seen both.seen × IsPrefix both.seen r.log
    has = longer_has v.seen w.seen r.log fit.seen guest_fit.seen

    both_fits : Fits base r.log from at id both
    both_fits = record {
      seen = has.2;
      more = (let a = fit.more in let b = prefix_length v.seen both.seen has.0 in omega arith);
      was = has.0;
      heard = has.1;
      number = fit.number;
      start = fit.start;
      plays = subst (Plays base r.log at id both) (sym lead)
          (plays.0, plays.1, knows_moved v.stages r.at w.session (Joined w.places) (Home w.places) inside refl plays.2);
    }

    others : (i : ℕ) (u : View) → i ≢ id → i ≢ other → get_elem? s.views i ≡ some u → u.live ≡ true → Fits base r.log from at i u
    others i u not_lead not_done there alive = let f = r.fits i u there alive in record {
      seen = f.seen;
      more = f.more;
      was = f.was;
      heard = f.heard;
      number = f.number;
      start = f.start;
      plays = plays_else base r.log r.log r.at at i u (λ zero_is. not_lead (zero_is ∙ sym plays.0))
          (λ seated. moved_else r.at w.session (Home w.places) u.session (λ same.
          let is : AtSeat i ≡ AtSeat other = sym seated ∙ (ap r.at same ∙ guest_plays.0) in not_done (let e : i ≡ other = cc in e)))
          (λ seated. refl) u.lead f.plays;
    }

    abbrev set_both : List View
    set_both = set s.views id both

    theirs_still : get_elem? set_both other ≡ some w
    theirs_still = set_else s.views id other both apart ∙ theirs

    whole_still : Whole (set set_both other spent) (length r.log)
    whole_still =
        let n = length r.log in let one = prefix_length v.seen r.log fit.seen in let two = prefix_length w.seen r.log guest_fit.seen in
        let by_both : (length v.seen ≡ n) ⊎ (length w.seen ≡ n) → Whole (set set_both other spent) n = (λ is.
        (id, both, set_else set_both other id spent (λ e. apart (sym e)) ∙ set_here s.views id both (inside_of s.views id v mine), live, longer_whole v.seen w.seen n one two is)) in
        dite (ℕ_discrete r.whole.0 id)
        (λ here. by_both (inl (
        let same : r.whole.1 ≡ v = one_there s.views id r.whole.1 v (subst (λ k. get_elem? s.views k ≡ some r.whole.1) here r.whole.2) mine in
        ap (λ (u : View). length u.seen) (sym same) ∙ r.whole.4)))
        (λ not_lead. dite (ℕ_discrete r.whole.0 other)
        (λ here. by_both (inr (
        let same : r.whole.1 ≡ w = one_there s.views other r.whole.1 w (subst (λ k. get_elem? s.views k ≡ some r.whole.1) here r.whole.2) theirs in
        ap (λ (u : View). length u.seen) (sym same) ∙ r.whole.4)))
        (λ not_done. (r.whole.0, r.whole.1, set_else set_both other r.whole.0 spent not_done ∙ (set_else s.views id r.whole.0 both not_lead ∙ r.whole.2), r.whole.3, r.whole.4)))

    pub joins_to : Law record { words = s.words; homes = s.homes; views = set (set s.views id (lead_with v w)) other spent }
    joins_to = record {
      log = r.log;
      at = at;
      turn = r.turn;
      holder = r.holder;
      begins = r.begins;
      words = r.words;
      bit = r.bit;
      home = r.home;
      away = λ taken. holder_set set_both other r.holder w spent theirs_still done (holder_set s.views id r.holder v both mine idle (r.away taken));
      held = each (λ i u. u.live ≡ true → u.holds ≡ true → (r.turn ≢ 0) × (i ≡ r.holder) × (u.seen ≡ r.log)) set_both other spent
          (λ alive holds. let never : ⊥ = cc in absurd never)
          (λ i u not_done. each (λ i u. u.live ≡ true → u.holds ≡ true → (r.turn ≢ 0) × (i ≡ r.holder) × (u.seen ≡ r.log)) s.views id both
          (λ alive holds. let never : ⊥ = cc in absurd never) (λ i u not_lead there. r.held i u there) i u);
      whole = whole_still;
      fits = each (λ i u. u.live ≡ true → Fits base r.log from at i u) set_both other spent
          (λ alive. let never : ⊥ = cc in absurd never)
          (λ i u not_done there_is. each (λ i u. i ≢ other → u.live ≡ true → Fits base r.log from at i u) s.views id both
          (λ _ alive. both_fits) (λ i u not_lead there not_done alive. others i u not_lead not_done there alive) i u there_is not_done);
      stand = stand_moved (λ x. places_beyond (length base) x r.log) r.at w.session (Home w.places) (sym guest_plays.1) r.stand;
    }

  -- the other isn't the lead, whose seat is the first
  guest_of : (id other : ℕ) (v w : View) → v.live ≡ true → v.lead ≡ true → w.live ≡ true → (s : State (Option T) View) → (r : Law s) → get_elem? s.views id ≡ some v → other ≢ id → get_elem? s.views other ≡ some w
      → w.lead ≡ false
  guest_of id other v w live lead alive s r mine apart theirs = by w.lead refl (r.fits other w theirs alive).plays
    where
      by : (b : Bool) → w.lead ≡ b → Plays base r.log r.at other w b → w.lead ≡ false
      by true is plays = let first_seat : Plays base r.log r.at id v true = subst (Plays base r.log r.at id v) lead (r.fits id v mine live).plays in
          absurd (apart (plays.0 ∙ sym first_seat.0))
      by false is plays = is

  pub joins : (id other : ℕ) (v w : View) → v.live ≡ true → v.lead ≡ true → v.holds ≡ false → w.live ≡ true → w.holds ≡ false
      → Joins Law id v other w (lead_with v w) spent
  joins id other v w live lead idle alive done s r mine apart found =
      let theirs : get_elem? s.views other ≡ some w = sym (set_else s.views id other (lead_with v w) apart) ∙ found in
      joins_to id other v w live lead idle alive (guest_of id other v w live lead alive s r mine apart theirs) done s r mine apart theirs
