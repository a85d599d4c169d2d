-- The placed tables are those that wait for no edge, as tables are added and wait for less.
use Rattle.std.proofs.Common.{◌≡◌, ℕ, ◌+◌, ◌-◌, ◌<◌, ◌≤◌, List, [], ◌∷◌, ◌++◌, refl, sym, ap, ◌∙◌, subst, inl, inr, arith, length, get_or, set, cond, not}
use Rattle.std.specs.Prelude.{◌≢◌, ◌↔◌, ◌==◌, sum_by, slice_index}
use Rattle.std.proofs.lemmas.Bool.{cases_eq, cases_order, ne_eqb}
use Rattle.std.proofs.lemmas.List.{get_or_append_left, get_or_past, get_or_push, get_or_read, get_or-set_other, get_or-set_same, length-set, length_push}
use Rattle.std.proofs.lemmas.List.Sums.{sum_by-set, sum_by_push}
use Rattle.own_base.specs.declared.number.TableNo.{TableNo}
use Rattle.owner_model.specs.Placed.{IsPlaced}
use Rattle.owner_graph.specs.TopologicalSort.{IsTopologicalSort}
use Rattle.owner_graph.proofs.PlacedLemmas.{EachAtOnePlace-nil, EachAtOnePlace-push, IsPlaced-append, IsPlaced-last, IsPlaced-push_cases, get-within}

-- 1 where a table waits for edges, and else 0
abbrev waits : ℕ → ℕ
waits edges = cond (not (edges == 0)) 1 0

-- it waits
waits_for : (edges : ℕ) → edges ≢ 0 → waits edges ≡ 1
waits_for edges some = rw (ne_eqb edges 0 some) refl

-- a number names one table
same_table : (one two : TableNo) → one.0 ≡ two.0 → one ≡ two
same_table one two same = ap (λ n. record { 0 = n }) same

-- of no tables none is placed
pub IsTopologicalSort-nil : IsTopologicalSort [] []
IsTopologicalSort-nil =
    record {
      within = λ table placed. absurd (let inside = get-within [] placed.place table placed.at_place in omega arith);
      placed = λ table within. absurd (omega arith);
      once = EachAtOnePlace-nil;
      others = refl;
    }

module _ (order : List TableNo) (waiting : List ℕ) (is : IsTopologicalSort order waiting) where
  -- a table that isn't there isn't placed
  not_yet : (table : TableNo) → length waiting ≤ table.0 → IsPlaced order table → ⊥
  not_yet table past placed = omega (arith, is.within table placed)

  -- a table is placed where it waited for nothing before
  kept : (table : TableNo) (after : List ℕ) → table.0 < length waiting → slice_index after table.0 ≡ slice_index waiting table.0 → (IsPlaced order table) ↔ (slice_index after table.0 ≡ 0)
  kept table after within same = (λ placed. same ∙ (is.placed table within).0 placed, λ none. (is.placed table within).1 (sym same ∙ none))

  -- the same where another table is placed
  kept_behind : (last table : TableNo) (after : List ℕ) → last.0 ≢ table.0 → table.0 < length waiting → slice_index after table.0 ≡ slice_index waiting table.0
      → (IsPlaced (order ++ last ∷ []) table) ↔ (slice_index after table.0 ≡ 0)
  kept_behind last table after other within same =
      let before = kept table after within same in (
        λ placed. elim (IsPlaced-push_cases order last table placed) [ inl first ↦ before.0 first | inr here ↦ absurd (other (ap (λ t. t.0) here)) ],
        λ none. IsPlaced-append order (last ∷ []) table (before.1 none),
      )

  -- and for the table that is
  here_now : (last table : TableNo) (after : List ℕ) → last.0 ≡ table.0 → slice_index after table.0 ≡ 0 → (IsPlaced (order ++ last ∷ []) table) ↔ (slice_index after table.0 ≡ 0)
  here_now last table after same none = (λ placed. none, λ is_none. subst (IsPlaced (order ++ last ∷ [])) (same_table last table same) (IsPlaced-last order last))

  -- a table without edges is added, and placed
  pub IsTopologicalSort-add_placed : (table : TableNo) → table.0 ≡ length waiting → IsTopologicalSort (order ++ table ∷ []) (waiting ++ 0 ∷ [])
  IsTopologicalSort-add_placed table next =
      let long = length_push waiting 0 in
      record {
        within = λ other placed.
            elim (IsPlaced-push_cases order table other placed) [ inl before ↦ omega (arith, is.within other before) | inr here ↦ omega (arith, ap (λ t. t.0) here) ];
        placed = λ other within.
            elim (cases_order other.0 (length waiting)) [
              | inl last ↦ here_now table other (waiting ++ 0 ∷ []) (omega arith) (get_or_push waiting 0 0 other.0 (sym last))
              | inr (inl before) ↦ kept_behind table other (waiting ++ 0 ∷ []) (λ same. omega arith) before (get_or_append_left waiting (0 ∷ []) 0 other.0 before)
              | inr (inr past) ↦ absurd (omega arith)
            ];
        once = EachAtOnePlace-push order table is.once (not_yet table (omega arith));
        others = omega (arith, length_push order table, sum_by_push waits waiting 0, is.others);
      }

  -- a table with edges is added, and waits
  pub IsTopologicalSort-add_waiting : (edges : ℕ) → edges ≢ 0 → IsTopologicalSort order (waiting ++ edges ∷ [])
  IsTopologicalSort-add_waiting edges some =
      let long = length_push waiting edges in
      record {
        within = λ other placed. omega (arith, is.within other placed);
        placed = λ other within.
            elim (cases_order other.0 (length waiting)) [
              | inl last ↦ (λ placed. absurd (not_yet other (omega arith) placed), λ none. absurd (some (sym (get_or_push waiting edges 0 other.0 (sym last)) ∙ none)))
              | inr (inl before) ↦ kept other (waiting ++ edges ∷ []) before (get_or_append_left waiting (edges ∷ []) 0 other.0 before)
              | inr (inr past) ↦ absurd (omega arith)
            ];
        once = is.once;
        others = omega (arith, sum_by_push waits waiting edges, waits_for edges some, is.others);
      }

  -- what waits is there
  waits_within : (table : ℕ) → slice_index waiting table ≢ 0 → table < length waiting
  waits_within table some =
      elim (cases_order table (length waiting)) [
        | inl last ↦ absurd (some (get_or_past waiting table 0 (omega arith)))
        | inr (inl before) ↦ before
        | inr (inr past) ↦ absurd (some (get_or_past waiting table 0 (omega arith)))
      ]

  -- a table waits for its last edge no more, and is placed
  release_last : (table : TableNo) → slice_index waiting table.0 ≡ 1 → IsTopologicalSort (order ++ table ∷ []) (set waiting table.0 0)
  release_last table one =
      let some : slice_index waiting table.0 ≢ 0 = (λ none. omega arith) in
      let there : table.0 < length waiting = waits_within table.0 some in
      let long : length (set waiting table.0 0) ≡ length waiting = length-set waiting table.0 0 in
      let counted : sum_by waits (set waiting table.0 0) + waits (slice_index waiting table.0) ≡ sum_by waits waiting + waits 0 = sum_by-set waits waiting table.0 0 0 there in
      record {
        within = λ other placed.
            elim (IsPlaced-push_cases order table other placed) [ inl before ↦ omega (arith, is.within other before) | inr here ↦ omega (arith, ap (λ t. t.0) here) ];
        placed = λ other within.
            elim (cases_eq other.0 table.0) [
              | inl same ↦ here_now table other (set waiting table.0 0) (sym same) (ap (λ n. slice_index (set waiting table.0 0) n) same ∙ get_or-set_same waiting table.0 0 0 there)
              | inr different ↦ kept_behind table other (set waiting table.0 0) (λ same. different (sym same)) (omega arith) (get_or-set_other waiting table.0 other.0 0 0 different)
            ];
        once = EachAtOnePlace-push order table is.once (λ placed. some ((is.placed table there).0 placed));
        others = omega (arith, length_push order table, counted, ap waits one, is.others);
      }

  -- a table waits for one edge less, and for others still
  release_one : (table : TableNo) (edges : ℕ) → slice_index waiting table.0 ≢ 0 → edges ≢ 0 → IsTopologicalSort order (set waiting table.0 edges)
  release_one table edges before after =
      let there : table.0 < length waiting = waits_within table.0 before in
      let long : length (set waiting table.0 edges) ≡ length waiting = length-set waiting table.0 edges in
      let counted : sum_by waits (set waiting table.0 edges) + waits (slice_index waiting table.0) ≡ sum_by waits waiting + waits edges = sum_by-set waits waiting table.0 edges 0 there in
      record {
        within = λ other placed. omega (arith, is.within other placed);
        placed = λ other within.
            elim (cases_eq other.0 table.0) [
              | inl same ↦ (
                λ placed. absurd (before ((is.placed table there).0 (subst (IsPlaced order) (same_table other table same) placed))),
                λ none. absurd (after (sym (get_or-set_same waiting table.0 edges 0 there) ∙ ap (λ n. slice_index (set waiting table.0 edges) n) (sym same) ∙ none)),
              )
              | inr different ↦ kept other (set waiting table.0 edges) (omega arith) (get_or-set_other waiting table.0 other.0 edges 0 different)
            ];
        once = is.once;
        others = omega (arith, counted, waits_for edges after, waits_for (slice_index waiting table.0) before, is.others);
      }

  -- what is read there is what it waits for
  read_waits : (table edges : ℕ) → 0 < slice_index waiting table → edges ≡ get_or waiting table edges → edges ≡ slice_index waiting table
  read_waits table edges some read = get_or_read waiting table edges (waits_within table (λ none. omega arith)) read 0

  -- both, as a step that reads how many there are
  pub IsTopologicalSort-release_last : (table : TableNo) (edges : ℕ) → 0 < slice_index waiting table.0 → edges ≡ get_or waiting table.0 edges → edges - 1 ≡ 0
      → IsTopologicalSort (order ++ table ∷ []) (set waiting table.0 (edges - 1))
  IsTopologicalSort-release_last table edges some read last =
      let is : edges ≡ slice_index waiting table.0 = read_waits table.0 edges some read in
      rw last (release_last table (omega arith))

  pub IsTopologicalSort-release : (table : TableNo) (edges : ℕ) → 0 < slice_index waiting table.0 → edges - 1 ≢ 0 → IsTopologicalSort order (set waiting table.0 (edges - 1))
  IsTopologicalSort-release table edges some more = release_one table (edges - 1) (λ none. omega arith) more
