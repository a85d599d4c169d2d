-- The steps that change no history keep the rule: the turn is taken, given back, or looked at.
use Rattle.std.proofs.Common.{◌≡◌, ℕ, ◌≢◌, eqb, List, [], ◌∷◌, length, set, get_or, sym, refl, ap, ◌∙◌, subst, arith, eq-eqb, ne_eqb}
use Rattle.std.specs.Prelude.{Bool, true, false, Option, Some}
use mathlib.Core.List.{IsPrefix}
use mathlib.Core.Logic.{dite}
use mathlib.Core.Option.{Option as Perhaps, some}
use native.Mathlib.Decide.{ℕ_discrete}
use lib.ListN.{get_elem?}
use lib.Seq.{set-get_or}
use prog.Atomic.{either}
use Rattle.own_model.specs.declared.history.Entry.{Entry}
use Rattle.turn_model.specs.Start.{Start}
use Rattle.atomic_table.specs.Table.{State, Me, takes, keeps, gives, carried_after, stepped, Allows}
use Rattle.atomic_table.proofs.Lists.{set_here, set_again}
use Rattle.commit_turn.specs.declared.view.View.{View}
use Rattle.commit_turn.specs.Rule.{Rule, Fits, Whereabouts}
use Rattle.commit_turn.specs.Steps.{HasTaken, Hears, Releases, Takes, holding, released}
use Rattle.commit_turn.proofs.Prefixes.{prefix_refl, prefix_trans, prefix_length}
use Rattle.commit_turn.proofs.ViewLemmas.{each, inside_of, whole_set}

module _ {T : Type 0} (history : T → List Entry) (start : T → Start) (base : List Entry) (from : Start) where
  abbrev Law : State (Option T) View → Type 0
  Law = Rule history start base from

  abbrev Here : Type 0
  Here = Me (Option T) View

  -- the word of the turn
  word_is : (s : State (Option T) View) (r : Law s) → get_or s.words 0 0 ≡ r.turn
  word_is s r = ap (λ (ws : List ℕ). get_or ws 0 0) r.words

  -- a step that changes nothing
  unmoved : (s : State (Option T) View) (r : Law s) (i id : ℕ) (c : List (ℕ × Option T)) (v : View) → get_elem? s.views id ≡ some v → Law (stepped s i (get_or s.words i 0) id c v keeps)
  unmoved s r i id c v mine = subst (λ (x : List ℕ × List View). Law record { words = x.0; homes = s.homes; views = x.1 })
      (λ k. (sym (set-get_or s.words i 0) k, sym (set_again s.views id v mine) k)) r

  -- a view whose history is another now
  sees : (log : List Entry) (at : ℕ → Whereabouts) (id : ℕ) (v : View) (holds : Bool) (entries : List Entry) → Fits base log from at id v → entries ≡ log
      → Fits base log from at id (record v { holds = holds; seen = entries })
  sees log at id v holds entries fit is = record {
    seen = subst (λ l. IsPrefix l log) (sym is) (prefix_refl log);
    more = (let a = fit.more in let b = prefix_length v.seen log fit.seen in let c = ap length is in omega arith);
    was = prefix_trans v.was v.seen entries fit.was (subst (IsPrefix v.seen) (sym is) fit.seen);
    heard = prefix_trans v.heard v.seen entries fit.heard (subst (IsPrefix v.seen) (sym is) fit.seen);
    number = fit.number;
    start = fit.start;
    plays = fit.plays;
  }

  module _ (id : ℕ) (me : Here) (none : me.1 ≡ []) (live : me.0.live ≡ true) (idle : me.0.holds ≡ false) (s : State (Option T) View) (r : Law s) (mine : get_elem? s.views id ≡ some me.0) where
    abbrev HeldAt : ℕ → ℕ → List Entry → ℕ → View → Type 0
    HeldAt turn holder log i u = u.live ≡ true → u.holds ≡ true → (turn ≢ 0) × (i ≡ holder) × (u.seen ≡ log)

    module _ (free : r.turn ≡ 0) (value : T) (homes : s.homes ≡ some (Some value) ∷ []) (is : history value ≡ r.log) (begun : start value ≡ from) where
      abbrev w : View
      w = holding me.0 (history value)

      taken : Law (stepped s 0 1 id me.1 w (takes 0 (Some value)))
      taken = record {
        log = r.log;
        at = r.at;
        turn = 1;
        holder = id;
        begins = r.begins;
        words = ap (λ (ws : List ℕ). set ws 0 1) r.words;
        bit = omega arith;
        home = λ no. absurd (omega arith);
        away = λ held. (w, set_here s.views id w (inside_of s.views id me.0 mine), live, refl);
        held = each (HeldAt 1 id r.log) s.views id w (λ _ _. ((λ no. omega arith), refl, is))
            (λ i u apart there alive holds. absurd ((r.held i u there alive holds).0 free));
        whole = (id, w, set_here s.views id w (inside_of s.views id me.0 mine), live, ap length is);
        fits = each (λ i u. u.live ≡ true → Fits base r.log from r.at i u) s.views id w (λ alive. sees r.log r.at id me.0 true (history value) (r.fits id me.0 mine live) is) (λ i u apart there. r.fits i u there);
        stand = r.stand;
      }

      told : HasTaken history start me (w, carried_after me.1 (takes 0 (Some value)))
      told = (value, (λ k. (w, (0, Some value) ∷ none k)), subst (IsPrefix me.0.seen) (sym is) (r.fits id me.0 mine live).seen, begun ∙ sym (r.fits id me.0 mine live).start)

  pub takes_turn : (slots id : ℕ) (me : Here) → me.1 ≡ [] → me.0.live ≡ true → me.0.holds ≡ false
      → Allows Law slots id me 0 (λ n. either (eqb n 0) 1 n) (λ n m. Takes history start me n m)
  takes_turn slots id me none live idle s r wide mine small = let n : ℕ = get_or s.words 0 0 in dite (ℕ_discrete n 0)
      (λ hit.
      let free : r.turn ≡ 0 = sym (word_is s r) ∙ hit in
      let h = r.home free in
      let w = holding me.0 (history h.0) in (
        w,
        takes 0 (Some h.0),
        ap (λ (hs : List (Perhaps (Option T))). get_elem? hs 0) h.1,
        subst (λ b. Law (stepped s 0 (either b 1 n) id me.1 w (takes 0 (Some h.0)))) (sym (eq-eqb n 0 hit)) (taken id me none live idle s r mine free h.0 h.1 h.2 h.3),
        ((λ _. told id me none live idle s r mine free h.0 h.1 h.2 h.3), (λ miss. absurd (miss hit))),
      ))
      (λ miss. (
        me.0,
        keeps,
        tt,
        subst (λ b. Law (stepped s 0 (either b 1 n) id me.1 me.0 keeps)) (sym (ne_eqb n 0 miss)) (unmoved s r 0 id me.1 me.0 mine),
        ((λ hit. absurd (miss hit)), (λ _. refl)),
      ))

  -- a look at the turn's word
  pub hears : (slots id : ℕ) (me : Here) → me.0.live ≡ true → Allows Law slots id me 0 (λ n. n) (λ n m. Hears me m)
  hears slots id me live s r wide mine small = (me.0, keeps, tt, unmoved s r 0 id me.1 me.0 mine, (refl, (r.fits id me.0 mine live).was, (r.fits id me.0 mine live).heard))

  one_home : (hs : List (Perhaps (Option T))) (h : Perhaps (Option T)) → length hs ≡ 1 → set hs 0 h ≡ h ∷ []
  one_home [] h e = absurd (omega arith)
  one_home (x ∷ []) h e = refl
  one_home (x ∷ y ∷ hs) h e = absurd (omega arith)

  module _ (id : ℕ) (me : Here) (value : T) (carries : me.1 ≡ (0, Some value) ∷ []) (live : me.0.live ≡ true) (holds : me.0.holds ≡ true)
      (is : history value ≡ me.0.seen) (begun : start value ≡ me.0.start) (s : State (Option T) View) (r : Law s) (wide : length s.homes ≡ 1) (mine : get_elem? s.views id ≡ some me.0) where
    abbrev back : View
    back = released me.0

    given : Law record { words = set s.words 0 0; homes = set s.homes 0 (some (Some value)); views = set s.views id back }
    given = let known = r.held id me.0 mine live holds in record {
      log = r.log;
      at = r.at;
      turn = 0;
      holder = id;
      begins = r.begins;
      words = ap (λ (ws : List ℕ). set ws 0 0) r.words;
      bit = omega arith;
      home = λ _. (value, one_home s.homes (some (Some value)) wide, is ∙ known.2, begun ∙ (r.fits id me.0 mine live).start);
      away = λ held. absurd (held refl);
      held = each (λ i u. u.live ≡ true → u.holds ≡ true → (0 ≢ 0) × (i ≡ id) × (u.seen ≡ r.log)) s.views id back
          (λ alive holding_still. let never : ⊥ = cc in absurd never)
          (λ i u apart there alive holds_too. absurd (apart ((r.held i u there alive holds_too).1 ∙ sym known.1)));
      whole = whole_set s.views id me.0 back (length r.log) mine live (λ e. e) r.whole;
      fits = each (λ i u. u.live ≡ true → Fits base r.log from r.at i u) s.views id back (λ alive. sees r.log r.at id me.0 false me.0.seen (r.fits id me.0 mine live) known.2) (λ i u apart there. r.fits i u there);
      stand = r.stand;
    }

  pub releases : (slots id : ℕ) (me : Here) (value : T) → slots ≡ 1 → me.1 ≡ (0, Some value) ∷ [] → me.0.live ≡ true → me.0.holds ≡ true
      → history value ≡ me.0.seen → start value ≡ me.0.start → Allows Law slots id me 0 (λ _. 0) (λ _ m. Releases me m)
  releases slots id me value one carries live holds is begun s r wide mine small = (
    released me.0,
    gives,
    tt,
    subst (λ (c : List (ℕ × Option T)). Law (stepped s 0 0 id c (released me.0) gives)) (sym carries) (given id me value carries live holds is begun s r (wide ∙ one) mine),
    ap (λ (c : List (ℕ × Option T)). (released me.0, carried_after c gives)) carries,
  )
