-- The entries of the value that is given back are counted, and the history has them: it keeps the rule.
use Rattle.std.proofs.Common.{◌≡◌, ℕ, ◌<◌, ◌≤◌, ◌≢◌, ◌⊎◌, inl, inr, List, [], ◌∷◌, ◌++◌, length, set, sym, refl, ap, ◌∙◌, subst, ⊎_elim, arith, append-nil, length-append}
use Rattle.std.specs.Prelude.{Bool, true, false, ltb, Option, Some}
use mathlib.Core.List.{IsPrefix}
use mathlib.Core.Logic.{dite}
use mathlib.Core.Option.{some}
use native.Mathlib.Decide.{ℕ_discrete}
use lib.ListN.{get_elem?}
use Rattle.own_model.specs.declared.history.Entry.{Entry}
use Rattle.turn_model.specs.Places.{places_beyond, places_from}
use Rattle.turn_model.specs.Start.{Start}
use Rattle.atomic_table.specs.Table.{State, Me, keeps, stepped, Allows}
use Rattle.atomic_table.proofs.Lists.{set_here}
use Rattle.commit_turn.specs.declared.view.View.{View}
use Rattle.commit_turn.specs.Rule.{Rule, Fits, Plays, StandAt, AtSeat}
use Rattle.commit_turn.specs.Steps.{Counts, MayCount, added_place, counted}
use Rattle.commit_turn.proofs.PlaceLemmas.{places-more, place-own, place-other, place-nothing}
use Rattle.commit_turn.proofs.Prefixes.{prefix_refl, prefix_trans, prefix_length}
use Rattle.commit_turn.proofs.ViewLemmas.{Holder, each, inside_of}

-- the lead's own entries are none
added_none : (seen : List Entry) → added_place seen seen ≡ []
added_none seen = let e : ltb (length seen) (length seen) ≡ false = grind arith in rw e refl

added_one : (seen : List Entry) (entry : Entry) → added_place seen (seen ++ entry ∷ []) ≡ length seen ∷ []
added_one seen entry = let l = length-append seen (entry ∷ []) in let e : ltb (length seen) (length (seen ++ entry ∷ [])) ≡ true = (let m : length seen < length (seen ++ entry ∷ []) = omega arith in grind arith) in rw e refl

module _ {T : Type 0} (history : T → List Entry) (start : T → Start) (base : List Entry) (from : Start) where
  abbrev Law : State (Option T) View → Type 0
  Law = Rule history start base from

  abbrev Here : Type 0
  Here = Me (Option T) View

  -- What is added: nothing by the lead, and else entries of the session whose places are those that the view gets.
  abbrev Adds : View → List Entry → Bool → Type 0
  Adds view added true = added ≡ []
  Adds view added false = (other : ℕ) → (other ≡ view.session) ⊎ (places_from (length view.seen) other added ≡ [])

  module _ (id : ℕ) (me : Here) (entries added : List Entry) (live : me.0.live ≡ true) (holds : me.0.holds ≡ true) (more : entries ≡ me.0.seen ++ added)
      (adds : Adds me.0 added me.0.lead) (placed : added_place me.0.seen entries ≡ places_from (length me.0.seen) me.0.session added)
      (s : State (Option T) View) (r : Law s) (mine : get_elem? s.views id ≡ some me.0) where
    abbrev w : View
    w = counted me.0 entries

    fit : Fits base r.log from r.at id me.0
    fit = r.fits id me.0 mine live

    all : me.0.seen ≡ r.log
    all = (r.held id me.0 mine live holds).2

    grown : entries ≡ r.log ++ added
    grown = more ∙ ap (λ l. l ++ added) all

    longer_log : IsPrefix r.log entries
    longer_log = (added, sym grown)

    wide : length base ≤ length r.log
    wide = prefix_length base r.log r.begins

    -- the places of a session: those it had, and those of what was added
    places_now : (other : ℕ) → places_beyond (length base) other entries ≡ places_beyond (length base) other r.log ++ places_from (length me.0.seen) other added
    places_now other = ap (places_beyond (length base) other) grown ∙ (places-more (length base) other r.log added wide ∙ ap (λ n. places_beyond (length base) other r.log ++ places_from n other added) (ap length (sym all)))

    still : (other : ℕ) → places_from (length me.0.seen) other added ≡ [] → places_beyond (length base) other entries ≡ places_beyond (length base) other r.log
    still other none = places_now other ∙ (ap (λ l. places_beyond (length base) other r.log ++ l) none ∙ append-nil (places_beyond (length base) other r.log))

    -- another session's places stay
    others_stay : (other : ℕ) → (me.0.lead ≡ false → other ≢ me.0.session) → places_beyond (length base) other entries ≡ places_beyond (length base) other r.log
    others_stay other apart = by me.0.lead refl
      where
        by : (b : Bool) → me.0.lead ≡ b → places_beyond (length base) other entries ≡ places_beyond (length base) other r.log
        by true is = let none : added ≡ [] = subst (Adds me.0 added) is adds in still other (ap (places_from (length me.0.seen) other) none ∙ place-nothing (length me.0.seen) other)
        by false is = let none : (x : ℕ) → (x ≡ me.0.session) ⊎ (places_from (length me.0.seen) x added ≡ []) = subst (Adds me.0 added) is adds in
            ⊎_elim (λ (e : other ≡ me.0.session). absurd (apart is e)) (λ (e : places_from (length me.0.seen) other added ≡ []). still other e) (none other)

    -- the part of the view
    plays_now : (b : Bool) → me.0.lead ≡ b → Plays base r.log r.at id me.0 b → Plays base entries r.at id w b
    plays_now true is plays = (
      plays.0,
      (
          let none : added ≡ [] = subst (Adds me.0 added) is adds in
          let no_place : added_place me.0.seen entries ≡ [] = placed ∙ (ap (places_from (length me.0.seen) me.0.session) none ∙ place-nothing (length me.0.seen) me.0.session) in
          ap (λ l. l ++ added_place me.0.seen entries) plays.1 ∙ no_place),
      plays.2,
    )
    plays_now false is plays = (
      plays.0,
      ap (λ l. l ++ added_place me.0.seen entries) plays.1
          ∙ (ap (λ l. places_beyond (length base) me.0.session r.log ++ l) placed ∙ sym (places_now me.0.session)),
    )

    own : Fits base entries from r.at id w
    own = record {
      seen = prefix_refl entries;
      more = (let a = prefix_length r.log entries longer_log in let b = wide in omega arith);
      was = prefix_trans me.0.was me.0.seen entries fit.was (subst (λ l. IsPrefix l entries) (sym all) longer_log);
      heard = prefix_trans me.0.heard me.0.seen entries fit.heard (subst (λ l. IsPrefix l entries) (sym all) longer_log);
      number = fit.number;
      start = fit.start;
      plays = plays_now me.0.lead refl fit.plays;
    }

    seat_apart : (b : Bool) → me.0.lead ≡ b → (i : ℕ) (u : View) → i ≢ id → r.at u.session ≡ AtSeat i → me.0.lead ≡ false → u.session ≢ me.0.session
    seat_apart b is i u apart seated guest same =
        let plays : Plays base r.log r.at id me.0 false = subst (Plays base r.log r.at id me.0) guest fit.plays in
        let one : AtSeat i ≡ AtSeat id = sym seated ∙ (ap r.at same ∙ plays.0) in apart (let e : i ≡ id = cc in e)

    -- another view's part: its session isn't the one that added
    part_of : (i : ℕ) (u : View) → i ≢ id → (b : Bool) → Plays base r.log r.at i u b → Plays base entries r.at i u b
    part_of i u apart true plays = plays
    part_of i u apart false plays = (plays.0, plays.1 ∙ sym (others_stay u.session (seat_apart me.0.lead refl i u apart plays.0)))

    others : (i : ℕ) (u : View) → i ≢ id → get_elem? s.views i ≡ some u → u.live ≡ true → Fits base entries from r.at i u
    others i u apart there alive = let f = r.fits i u there alive in record {
      seen = prefix_trans u.seen r.log entries f.seen longer_log;
      more = f.more;
      was = f.was;
      heard = f.heard;
      number = f.number;
      start = f.start;
      plays = part_of i u apart u.lead f.plays;
    }

    -- where a session is that isn't the one that added, its entries stand as before
    stand_now : (other : ℕ) → StandAt (places_beyond (length base) other entries) (r.at other)
    stand_now other = by me.0.lead refl
      where
        by : (b : Bool) → me.0.lead ≡ b → StandAt (places_beyond (length base) other entries) (r.at other)
        by true is = subst (λ l. StandAt l (r.at other)) (sym (others_stay other (λ guest. let never : ⊥ = cc in absurd never))) (r.stand other)
        by false is = dite (ℕ_discrete other me.0.session)
            (λ same.
            let plays : Plays base r.log r.at id me.0 false = subst (Plays base r.log r.at id me.0) is fit.plays in
            subst (StandAt (places_beyond (length base) other entries)) (sym (ap r.at same ∙ plays.0)) tt)
            (λ apart. subst (λ l. StandAt l (r.at other)) (sym (others_stay other (λ _. apart))) (r.stand other))

    pub counted_to : (n : ℕ) (c : List (ℕ × Option T)) → n ≡ length entries → Law (stepped s 1 n id c w keeps)
    counted_to n c is = let known = r.held id me.0 mine live holds in record {
      log = entries;
      at = r.at;
      turn = r.turn;
      holder = r.holder;
      begins = prefix_trans base r.log entries r.begins longer_log;
      words = ap (λ (ws : List ℕ). set ws 1 n) r.words ∙ ap (λ (k : ℕ). r.turn ∷ k ∷ []) is;
      bit = r.bit;
      home = λ free. absurd (known.0 free);
      away = λ _. subst (λ k. Holder (set s.views id w) k) known.1 (w, set_here s.views id w (inside_of s.views id me.0 mine), live, holds);
      held = each (λ i u. u.live ≡ true → u.holds ≡ true → (r.turn ≢ 0) × (i ≡ r.holder) × (u.seen ≡ entries)) s.views id w (λ _ _. (known.0, known.1, refl))
          (λ i u apart there alive holds_too. absurd (apart ((r.held i u there alive holds_too).1 ∙ sym known.1)));
      whole = (id, w, set_here s.views id w (inside_of s.views id me.0 mine), live, refl);
      fits = each (λ i u. u.live ≡ true → Fits base entries from r.at i u) s.views id w (λ alive. own) others;
      stand = stand_now;
    }

  pub counts : (slots id : ℕ) (me : Here) (value : T) (n : ℕ) → me.1 ≡ (0, Some value) ∷ [] → me.0.live ≡ true → me.0.holds ≡ true → MayCount me.0 (history value)
      → n ≡ length (history value) → Allows Law slots id me 1 (λ _. n) (λ _ m. Counts history me m)
  counts slots id me value n carries live holds may is s r wide mine small =
      let entries = history value in (
        counted me.0 entries,
        keeps,
        tt,
        ⊎_elim
            (λ (same : entries ≡ me.0.seen). counted_to id me entries [] live holds (same ∙ sym (append-nil me.0.seen)) (nothing me.0.lead)
            (ap (added_place me.0.seen) same ∙ (added_none me.0.seen ∙ sym (place-nothing (length me.0.seen) me.0.session))) s r mine n me.1 is)
            (λ (one : (me.0.lead ≡ false) × ((entry : Entry) × (entry.session.0 ≡ me.0.session) × (entries ≡ me.0.seen ++ entry ∷ []))).
            let e = one.1.0 in counted_to id me entries (e ∷ []) live holds one.1.2 (subst (Adds me.0 (e ∷ [])) (sym one.0) (single e one.1.1))
            (ap (added_place me.0.seen) one.1.2 ∙ (added_one me.0.seen e ∙ sym (place-own (length me.0.seen) me.0.session e one.1.1))) s r mine n me.1 is)
            may,
        λ v same. ap (λ (x : T). (counted me.0 (history x), me.1)) (let both : (0, Some value) ∷ [] ≡ (0, Some v) ∷ [] = sym carries ∙ same in let e : value ≡ v = grind arith in e),
      )
    where
      nothing : (b : Bool) → Adds me.0 [] b
      nothing true = refl
      nothing false = λ other. inr (place-nothing (length me.0.seen) other)

      single : (e : Entry) → e.session.0 ≡ me.0.session → (other : ℕ) → (other ≡ me.0.session) ⊎ (places_from (length me.0.seen) other (e ∷ []) ≡ [])
      single e own other = dite (ℕ_discrete other me.0.session) (λ same. inl same) (λ apart. inr (place-other (length me.0.seen) other e (λ is. apart (sym is ∙ own))))
