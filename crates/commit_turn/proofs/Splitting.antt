-- A seat that is split off the lead's keeps the rule.
use Rattle.std.proofs.Common.{◌≡◌, ℕ, ◌<◌, ◌≢◌, List, [], ◌∷◌, ◌++◌, length, set, sym, refl, ap, ◌∙◌, subst, length-set}
use Rattle.std.specs.Prelude.{true, false, Option}
use mathlib.Core.Option.{some}
use lib.ListN.{get_elem?}
use Rattle.own_model.specs.declared.history.Entry.{Entry}
use Rattle.turn_model.specs.Places.{places_beyond}
use Rattle.turn_model.specs.Start.{Start}
use Rattle.atomic_table.specs.Table.{State, Splits}
use Rattle.commit_turn.specs.declared.view.Stage.{Stage}
use Rattle.commit_turn.specs.declared.view.Stage.TheVariants.{Fresh, Out}
use Rattle.commit_turn.specs.declared.view.View.{View}
use Rattle.commit_turn.specs.Rule.{Rule, Fits, Knows, Plays, StandAt, Whereabouts, Nobody, AtSeat, stage_of}
use Rattle.commit_turn.specs.Steps.{lead_without, split_off}
use Rattle.commit_turn.proofs.ViewLemmas.{each, each_more, holder_more, holder_set, whole_more, whole_set}
use Rattle.commit_turn.proofs.Whereabout.{knows_moved, moved, moved_else, moved_here, plays_else, stand_moved}

module _ {T : Type 0} (history : T → List Entry) (start : T → Start) (base : List Entry) (from : Start) where
  abbrev Law : State (Option T) View → Type 0
  Law = Rule history start base from

  module _ (id session : ℕ) (v : View) (live : v.live ≡ true) (lead : v.lead ≡ true) (idle : v.holds ≡ false) (fresh : stage_of v session ≡ Fresh) (inside : session < length v.stages)
      (s : State (Option T) View) (r : Law s) (mine : get_elem? s.views id ≡ some v) where
    abbrev n : ℕ
    n = length s.views

    abbrev left : View
    left = lead_without session v

    abbrev right : View
    right = split_off session v

    abbrev at : ℕ → Whereabouts
    at = moved r.at session (AtSeat n)

    fit : Fits base r.log from r.at id v
    fit = r.fits id v mine live

    plays : Plays base r.log r.at id v true
    plays = subst (Plays base r.log r.at id v) lead fit.plays

    nobody : r.at session ≡ Nobody
    nobody = subst (λ (x : Stage). Knows x (r.at session)) fresh (plays.2 session)

    left_fits : Fits base r.log from at id left
    left_fits = record {
      seen = fit.seen;
      more = fit.more;
      was = fit.was;
      heard = fit.heard;
      number = fit.number;
      start = fit.start;
      plays = subst (Plays base r.log at id left) (sym lead) (plays.0, plays.1, knows_moved v.stages r.at session Out (AtSeat n) inside (n, refl) plays.2);
    }

    right_fits : Fits base r.log from at n right
    right_fits = record {
      seen = fit.seen;
      more = fit.more;
      was = (v.seen, refl);
      heard = (v.seen, refl);
      number = fit.number;
      start = fit.start;
      plays = (moved_here r.at session (AtSeat n), sym (subst (StandAt (places_beyond (length base) session r.log)) nobody (r.stand session)));
    }

    others : (i : ℕ) (u : View) → i ≢ id → get_elem? s.views i ≡ some u → u.live ≡ true → Fits base r.log from at i u
    others i u apart there alive = let f = r.fits i u there alive in record {
      seen = f.seen;
      more = f.more;
      was = f.was;
      heard = f.heard;
      number = f.number;
      start = f.start;
      plays = plays_else base r.log r.log r.at at i u (λ zero_is. apart (zero_is ∙ sym plays.0))
          (λ seated. moved_else r.at session (AtSeat n) u.session (λ same.
          let is : AtSeat i ≡ Nobody = sym seated ∙ (ap r.at same ∙ nobody) in let never : ⊥ = cc in absurd never))
          (λ seated. refl) u.lead f.plays;
    }

    pub splits_to : Law record { words = s.words; homes = s.homes; views = set s.views id left ++ right ∷ [] }
    splits_to = record {
      log = r.log;
      at = at;
      turn = r.turn;
      holder = r.holder;
      begins = r.begins;
      words = r.words;
      bit = r.bit;
      home = r.home;
      away = λ taken. holder_more (set s.views id left) r.holder right (holder_set s.views id r.holder v left mine idle (r.away taken));
      held = each_more (λ i u. u.live ≡ true → u.holds ≡ true → (r.turn ≢ 0) × (i ≡ r.holder) × (u.seen ≡ r.log)) (set s.views id left) right
          (λ alive holds. let never : ⊥ = cc in absurd never)
          (each (λ i u. u.live ≡ true → u.holds ≡ true → (r.turn ≢ 0) × (i ≡ r.holder) × (u.seen ≡ r.log)) s.views id left
          (λ alive holds. let never : ⊥ = cc in absurd never) (λ i u apart there. r.held i u there));
      whole = whole_more (set s.views id left) right (length r.log) (whole_set s.views id v left (length r.log) mine live (λ e. e) r.whole);
      fits = each_more (λ i u. u.live ≡ true → Fits base r.log from at i u) (set s.views id left) right
          (λ alive. subst (λ k. Fits base r.log from at k right) (sym (length-set s.views id left)) right_fits)
          (each (λ i u. u.live ≡ true → Fits base r.log from at i u) s.views id left (λ alive. left_fits) others);
      stand = stand_moved (λ x. places_beyond (length base) x r.log) r.at session (AtSeat n) tt r.stand;
    }

  pub splits : (id session : ℕ) (v : View) → v.live ≡ true → v.lead ≡ true → v.holds ≡ false → stage_of v session ≡ Fresh → session < length v.stages
      → Splits Law id v (lead_without session v) (split_off session v)
  splits id session v live lead idle fresh inside s r mine = splits_to id session v live lead idle fresh inside s r mine
