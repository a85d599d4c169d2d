-- A walk back from a table over the edges marks the tables that lead to it.
use Rattle.std.proofs.Common.{◌≡◌, ℕ, zero, suc, ◌<◌, List, [], ◌∷◌, ◌++◌, Bool, true, false, refl, sym, ap, ◌∙◌, subst, inl, inr, arith, eq-eqb, length, get_or, cond, not, replicate}
use Rattle.std.specs.Prelude.{◌==◌, ◌&&◌, ◌||◌, ◌⊎◌, Contains}
use Rattle.std.specs.List.{AllByRecursion}
use Rattle.std.proofs.lemmas.Bool.{and_parts, cases_Bool, cases_eq, cases_lt, eqb-true, false_from_ne_true, ne_eqb, or_cases, or_from, or_left, or_parts, or_right}
use Rattle.std.proofs.lemmas.List.{get_or_past, get_or-replicate, length-replicate}
use Rattle.own_base.specs.declared.number.TableNo.{TableNo}
use Rattle.own_model.specs.declared.schema.Edge.{Edge}
use Rattle.owner_model.specs.Leads.{leads}
use Rattle.owner_model.specs.Walk.{IsWalk}
use Rattle.owner_model.proofs.LeadsLemmas.{leads-edge, leads-on, walk_from_leads}
use Rattle.owner_model.proofs.WalkLemmas.{contains_more}
use Rattle.owner_graph.specs.declared.end.End.TheVariants.{Upper}
use Rattle.owner_graph.specs.declared.marks.Marks.{Marks}
use Rattle.owner_graph.specs.Ends.{edges_at}
use Rattle.owner_graph.specs.Marking.{MarksMore, is_lower, is_marked}
use Rattle.owner_graph.specs.TopologicalSort.{is_among}
use Rattle.owner_graph.proofs.PlacedLemmas.{is_among-push}

-- a table lies below another: an edge leads from the one to the other
pub record LiesBelow (edges : List Edge) (lower upper : ℕ) : Type 0 where
  pub edge : Edge
  pub among : Contains edges edge
  pub from : edge.lower.0 ≡ lower
  pub to : edge.upper.0 ≡ upper

below_more : (edge : Edge) (edges : List Edge) (lower upper : ℕ) → LiesBelow edges lower upper → LiesBelow (edge ∷ edges) lower upper
below_more edge edges lower upper below = record { edge = below.edge; among = contains_more edge edges below.edge below.among; from = below.from; to = below.to }

below_by : (edge : Edge) (edges : List Edge) (lower upper : ℕ) (b : Bool) → (edge.upper.0 == upper) ≡ b → (is_lower (edges_at Upper edges upper) lower ≡ true → LiesBelow edges lower upper)
    → is_lower (cond b (edge ∷ edges_at Upper edges upper) (edges_at Upper edges upper)) lower ≡ true → LiesBelow (edge ∷ edges) lower upper
below_by edge edges lower upper true here later found =
    elim (or_cases (edge.lower.0 == lower) _ found) [
      | inl first ↦ record { edge = edge; among = (0, omega arith, refl); from = eqb-true edge.lower.0 lower first; to = eqb-true edge.upper.0 upper here }
      | inr rest ↦ below_more edge edges lower upper (later rest)
    ]
below_by edge edges lower upper false here later found = below_more edge edges lower upper (later found)

-- the lower tables of the edges into a table are those that lie below it
pub is_lower_below : (edges : List Edge) (lower upper : ℕ) → is_lower (edges_at Upper edges upper) lower ≡ true → LiesBelow edges lower upper
is_lower_below [] lower upper is = let never : false ≡ true = is in cc
is_lower_below (edge ∷ edges) lower upper is = below_by edge edges lower upper (edge.upper.0 == upper) refl (is_lower_below edges lower upper) is

-- and each of these is found
pub below_is_lower : (edges : List Edge) (edge : Edge) → Contains edges edge → is_lower (edges_at Upper edges edge.upper.0) edge.lower.0 ≡ true
below_is_lower edges edge (place, inside, is) = at edges place inside is
  where
    first : (head : Edge) (rest : List Edge) → head ≡ edge → is_lower (edges_at Upper (head ∷ rest) edge.upper.0) edge.lower.0 ≡ true
    first head rest same =
        ap (λ b. is_lower (cond b (head ∷ edges_at Upper rest edge.upper.0) (edges_at Upper rest edge.upper.0)) edge.lower.0) (eq-eqb head.upper.0 edge.upper.0 (ap (λ e. e.upper.0) same))
        ∙ or_left _ _ (eq-eqb head.lower.0 edge.lower.0 (ap (λ e. e.lower.0) same))

    later : (head : Edge) (rest : List Edge) (b : Bool) → (head.upper.0 == edge.upper.0) ≡ b → is_lower (edges_at Upper rest edge.upper.0) edge.lower.0 ≡ true
        → is_lower (edges_at Upper (head ∷ rest) edge.upper.0) edge.lower.0 ≡ true
    later head rest true here found = ap (λ b. is_lower (cond b (head ∷ edges_at Upper rest edge.upper.0) (edges_at Upper rest edge.upper.0)) edge.lower.0) here ∙ or_right _ _ found
    later head rest false here found = ap (λ b. is_lower (cond b (head ∷ edges_at Upper rest edge.upper.0) (edges_at Upper rest edge.upper.0)) edge.lower.0) here ∙ found

    at : (list : List Edge) (n : ℕ) → n < length list → get_or list n edge ≡ edge → is_lower (edges_at Upper list edge.upper.0) edge.lower.0 ≡ true
    at [] n within same = absurd (omega arith)
    at (head ∷ rest) zero within same = first head rest same
    at (head ∷ rest) (suc n) within same = later head rest _ refl (at rest n (omega arith) same)

-- The marked tables lead to the table. Those below it are marked, and those below a marked one that isn't pending.
pub record WalkedBack (edges : List Edge) (table : ℕ) (marks : Marks) : Type 0 where
  pub sound : (from : ℕ) → is_marked marks.marked.items from ≡ true → leads edges from table ≡ true
  pub first : (edge : Edge) → Contains edges edge → edge.upper.0 ≡ table → is_marked marks.marked.items edge.lower.0 ≡ true
  pub further : (edge : Edge) → Contains edges edge → is_marked marks.marked.items edge.upper.0 ≡ true → is_among marks.pending.items edge.upper.0 ≡ false
      → is_marked marks.marked.items edge.lower.0 ≡ true
  pub reached : (number : ℕ) → is_among marks.pending.items number ≡ true → is_marked marks.marked.items number ≡ true

-- what lies below a table leads to it
below_leads : (edges : List Edge) (lower upper : ℕ) → LiesBelow edges lower upper → leads edges lower upper ≡ true
below_leads edges lower upper below =
    subst (λ n. leads edges n upper ≡ true) below.from (subst (λ n. leads edges below.edge.lower.0 n ≡ true) below.to (leads-edge edges below.edge below.among))

-- what was marked stays marked
stays : (found : ℕ → Bool) (old new : Marks) → MarksMore found old new → (n : ℕ) → is_marked old.marked.items n ≡ true → is_marked new.marked.items n ≡ true
stays found old new more n was = more.marked n ∙ or_left _ _ was

-- what was found is marked
is_found : (found : ℕ → Bool) (old new : Marks) → MarksMore found old new → (n : ℕ) → found n ≡ true → is_marked new.marked.items n ≡ true
is_found found old new more n now = more.marked n ∙ or_right _ _ now

-- what is pending was, or is marked now
pending_cases : (found : ℕ → Bool) (old new : Marks) → MarksMore found old new → (n : ℕ) → is_among new.pending.items n ≡ true → (is_among old.pending.items n ≡ true) ⊎ (is_marked new.marked.items n ≡ true)
pending_cases found old new more n now =
    elim (or_cases (is_among old.pending.items n) (is_marked new.marked.items n && not (is_marked old.marked.items n)) (sym (more.pending n) ∙ now)) [
      | inl was ↦ inl was
      | inr is_new ↦ inr (and_parts (is_marked new.marked.items n) (not (is_marked old.marked.items n)) is_new).0
    ]

-- what is marked and not pending wasn't pending, and was marked before
marked_before : (found : ℕ → Bool) (old new : Marks) → MarksMore found old new → (n : ℕ) → is_marked new.marked.items n ≡ true → is_among new.pending.items n ≡ false
    → (is_marked old.marked.items n ≡ true) × (is_among old.pending.items n ≡ false)
marked_before found old new more n now released =
    let both = or_parts (is_among old.pending.items n) (is_marked new.marked.items n && not (is_marked old.marked.items n)) (sym (more.pending n) ∙ released) in
    let was : (b : Bool) → (is_marked new.marked.items n && not b) ≡ false → b ≡ true =
    (λ b. elim b as (λ v. (is_marked new.marked.items n && not v) ≡ false → v ≡ true) [
      | true ↦ λ _. refl
      | false ↦ λ no. let never : true ≡ false = sym (ap (λ v. v && true) now) ∙ no in cc
    ]) in
    (was (is_marked old.marked.items n) both.1, both.0)

-- what lies before the last of a list isn't among it where the list hasn't it
not_popped : (pending rest : List TableNo) (next : TableNo) (n : ℕ) → pending ≡ rest ++ next ∷ [] → (next.0 ≡ n → ⊥) → is_among rest n ≡ false → is_among pending n ≡ false
not_popped pending rest next n last other none = ap (λ l. is_among l n) last ∙ is_among-push rest next n ∙ or_from _ _ none (ne_eqb next.0 n other)

module _ (edges : List Edge) (table : ℕ) where
  -- from the table itself
  pub WalkedBack-first : (old new : Marks) → ((n : ℕ) → is_marked old.marked.items n ≡ false) → old.pending.items ≡ [] → MarksMore (is_lower (edges_at Upper edges table)) old new
      → WalkedBack edges table new
  WalkedBack-first old new none empty more =
      let all : (n : ℕ) → is_marked new.marked.items n ≡ is_lower (edges_at Upper edges table) n = (λ n. more.marked n ∙ ap (λ b. b || is_lower (edges_at Upper edges table) n) (none n)) in
      let nothing : (n : ℕ) → is_among old.pending.items n ≡ false = (λ n. ap (λ l. is_among l n) empty) in
      record {
        sound = λ from is. below_leads edges from table (is_lower_below edges from table (sym (all from) ∙ is));
        first = λ edge among is. all edge.lower.0 ∙ ap (λ n. is_lower (edges_at Upper edges n) edge.lower.0) (sym is) ∙ below_is_lower edges edge among;
        further = λ edge among is released.
            let before = (marked_before (is_lower (edges_at Upper edges table)) old new more edge.upper.0 is released).0 in
            let never : true ≡ false = sym before ∙ none edge.upper.0 in cc;
        reached = λ n is.
            elim (pending_cases (is_lower (edges_at Upper edges table)) old new more n is) [
              | inl was ↦ (let never : true ≡ false = sym was ∙ nothing n in cc)
              | inr now ↦ now
            ];
      }

  -- the last pending table is reached
  pub last_reached : (marks : Marks) (rest : List TableNo) (next : TableNo) → WalkedBack edges table marks → marks.pending.items ≡ rest ++ next ∷ [] → is_marked marks.marked.items next.0 ≡ true
  last_reached marks rest next walked last =
      walked.reached next.0 (ap (λ l. is_among l next.0) last ∙ is_among-push rest next next.0 ∙ or_right _ _ (eq-eqb next.0 next.0 refl))

  -- and on from one that is pending
  pub WalkedBack-more : (old popped new : Marks) (next : TableNo) → WalkedBack edges table old → popped.marked.items ≡ old.marked.items → old.pending.items ≡ popped.pending.items ++ next ∷ []
      → MarksMore (is_lower (edges_at Upper edges next.0)) popped new → WalkedBack edges table new
  WalkedBack-more old popped new next walked same last more =
      let found = is_lower (edges_at Upper edges next.0) in
      let kept : (n : ℕ) → is_marked old.marked.items n ≡ true → is_marked new.marked.items n ≡ true =
      (λ n was. stays found popped new more n (ap (λ l. is_marked l n) same ∙ was)) in
      let next_leads : leads edges next.0 table ≡ true = walked.sound next.0 (last_reached old popped.pending.items next walked last) in
      record {
        sound = λ from is.
            elim (or_cases (is_marked popped.marked.items from) (found from) (sym (more.marked from) ∙ is)) [
              | inl was ↦ walked.sound from (ap (λ l. is_marked l from) (sym same) ∙ was)
              | inr now ↦ leads-on edges from next.0 table (below_leads edges from next.0 (is_lower_below edges from next.0 now)) next_leads
            ];
        first = λ edge among is. kept edge.lower.0 (walked.first edge among is);
        further = λ edge among is released.
            let before = marked_before found popped new more edge.upper.0 is released in
            elim (cases_eq next.0 edge.upper.0) [
              | inl here ↦ is_found found popped new more edge.lower.0 (ap (λ n. is_lower (edges_at Upper edges n) edge.lower.0) here ∙ below_is_lower edges edge among)
              | inr other ↦
                  kept edge.lower.0
                  (walked.further edge among (ap (λ l. is_marked l edge.upper.0) (sym same) ∙ before.0) (not_popped old.pending.items popped.pending.items next edge.upper.0 last other before.1))
            ];
        reached = λ n is.
            elim (pending_cases found popped new more n is) [
              | inl was ↦ kept n (walked.reached n (ap (λ l. is_among l n) last ∙ is_among-push popped.pending.items next n ∙ or_left _ _ was))
              | inr now ↦ now
            ];
      }

  all_on_walk : (marks : Marks) → WalkedBack edges table marks → marks.pending.items ≡ [] → (first : Edge) (rest : List Edge) → AllByRecursion (Contains edges) (first ∷ rest)
      → IsWalk first.upper.0 rest table → is_marked marks.marked.items first.lower.0 ≡ true
  all_on_walk marks walked empty first [] among walk = walked.first first among.0 walk
  all_on_walk marks walked empty first (next ∷ rest) among walk =
      walked.further first among.0 (subst (λ n. is_marked marks.marked.items n ≡ true) walk.0 (all_on_walk marks walked empty next rest among.1 walk.1))
      (ap (λ l. is_among l first.upper.0) empty)

  -- until none is pending
  pub WalkedBack-all : (marks : Marks) → WalkedBack edges table marks → marks.pending.items ≡ [] → (from : ℕ) → is_marked marks.marked.items from ≡ leads edges from table
  WalkedBack-all marks walked empty from =
      let marked : leads edges from table ≡ true → is_marked marks.marked.items from ≡ true =
      (λ is. let walk = walk_from_leads edges from table is in
      subst (λ n. is_marked marks.marked.items n ≡ true) walk.walk.0 (all_on_walk marks walked empty walk.first walk.rest walk.among walk.walk.1)) in
      elim (cases_Bool (leads edges from table)) [
        | inl is ↦ marked is ∙ sym is
        | inr none ↦ false_from_ne_true (is_marked marks.marked.items from) (λ is. let never : true ≡ false = sym (walked.sound from is) ∙ none in cc) ∙ sym none
      ]

-- no table is marked at first
pub none_marked : (tables : ℕ) (marks : List Bool) (n : ℕ) → marks ≡ replicate tables false → is_marked marks n ≡ false
none_marked tables marks n are =
    ap (λ l. is_marked l n) are
    ∙ elim (cases_lt n tables) [
      | inl inside ↦ get_or-replicate tables n false false inside
      | inr past ↦ get_or_past (replicate tables false) n false (omega (arith, length-replicate tables false))
    ]

-- what is marked is there
pub marked_within : (marks : List Bool) (n : ℕ) → is_marked marks n ≡ true → n < length marks
marked_within marks n is =
    elim (cases_lt n (length marks)) [
      | inl inside ↦ inside
      | inr past ↦ (let never : true ≡ false = sym is ∙ get_or_past marks n false past in cc)
    ]
