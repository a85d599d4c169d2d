-- What a change adds to what a crash may leave of an area.
use Rattle.std.proofs.Common.{◌≡◌, inl, inr, ℕ, ◌+◌, ◌-◌, ◌≤◌, ◌<◌, List, ◌++◌, length, take, drop, min, max, get_or, refl, sym, ◌∙◌, ap, arith, length-take, length-drop, length-append}
use Rattle.std.specs.Prelude.{All, if◌then◌else◌, nat_lt}
use Rattle.std.proofs.lemmas.List.{ext_get_or, get_or-take, get_or-drop, get_or_append_left, get_or-append_right}
use Rattle.std.proofs.lemmas.List.Elements.{All-nil, All-cons}
use Rattle.std.proofs.lemmas.Bool.{cases_lt}
use Rattle.std.proofs.lemmas.Bool.Decides.{nat_tests}
use Rattle.outer_world.specs.Overwritten.{overwritten}
use Rattle.outer_world.specs.Torn.{Torn}
use Rattle.outer_world.specs.TornCut.{TornCut}
use Rattle.outer_world.specs.Stretch.{Stretch, IsOutside}
use Rattle.outer_world.specs.AreaState.{AreaState, synced_area}
use Rattle.outer_world.specs.MayLeave.{MayLeave}
use Rattle.outer_world.specs.AfterCall.{changed_area}
use Rattle.outer_world.specs.MemDiskLaws.{IsBetween}
use Rattle.outer_world.specs.declared.change.Change.TheVariants.{Write, Cut}
use Rattle.outer_world.proofs.Tabulated.{tabulated, length-tabulated, get_or-tabulated, same_front, same_behind}

-- after a sync a crash leaves what a read gives
pub left_synced : (state : AreaState) (bytes : List ℕ) → MayLeave (synced_area state.seen) bytes → bytes ≡ state.seen
left_synced state bytes left =
    ext_get_or 0 bytes state.seen (omega (arith, left.no_shorter, left.no_longer)) (λ place within.
    left.stays place (omega (arith, left.no_longer)) (All-nil _))

-- one function between two places, and another before and after them
abbrev between : ℕ → ℕ → (ℕ → ℕ) → (ℕ → ℕ) → ℕ → ℕ
between start end inner outer place = if nat_lt place start then outer place else (if nat_lt place end then inner place else outer place)

between_front : (start end : ℕ) (inner outer : ℕ → ℕ) (place : ℕ) → place < start → between start end inner outer place ≡ outer place
between_front start end inner outer place before = grind (arith, nat_tests)

between_inside : (start end : ℕ) (inner outer : ℕ → ℕ) (place : ℕ) → start ≤ place → place < end → between start end inner outer place ≡ inner place
between_inside start end inner outer place from before = grind (arith, nat_tests)

between_behind : (start end : ℕ) (inner outer : ℕ → ℕ) (place : ℕ) → start ≤ end → end ≤ place → between start end inner outer place ≡ outer place
between_behind start end inner outer place order from = grind (arith, nat_tests)

length-overwritten : (old : List ℕ) (place : ℕ) (bytes : List ℕ) → place ≤ length old → length (overwritten old place bytes) ≡ max (length old) (place + length bytes)
length-overwritten old place bytes within =
    omega (arith, length-append (take place old ++ bytes) (drop (place + length bytes) old), length-append (take place old) bytes, length-take place old, length-drop (place + length bytes) old)

overwritten_front : (old : List ℕ) (place : ℕ) (bytes : List ℕ) (at : ℕ) → place ≤ length old → at < place → get_or (overwritten old place bytes) at 0 ≡ get_or old at 0
overwritten_front old place bytes at within before =
    let long : length (take place old) ≡ place = omega (arith, length-take place old) in
    get_or_append_left (take place old ++ bytes) (drop (place + length bytes) old) 0 at (omega (arith, length-append (take place old) bytes))
    ∙ get_or_append_left (take place old) bytes 0 at (omega arith) ∙ get_or-take place old at 0 before

overwritten_behind : (old : List ℕ) (place : ℕ) (bytes : List ℕ) (at : ℕ) → place ≤ length old → place + length bytes ≤ at → get_or (overwritten old place bytes) at 0 ≡ get_or old at 0
overwritten_behind old place bytes at within from =
    let long : length (take place old ++ bytes) ≡ place + length bytes = omega (arith, length-append (take place old) bytes, length-take place old) in
    let rest : place + length bytes + (at - (place + length bytes)) ≡ at = omega arith in
    get_or-append_right (take place old ++ bytes) (drop (place + length bytes) old) (place + length bytes) at 0 long from
    ∙ get_or-drop (place + length bytes) old (at - (place + length bytes)) 0 ∙ ap (λ (n : ℕ). get_or old n 0) rest

-- after a write a crash leaves what it might leave before, torn
pub torn_write : (state : AreaState) → IsBetween state → (place : ℕ) (piece : List ℕ) → place ≤ length state.seen
    → (bytes : List ℕ) → MayLeave (changed_area state (Write place piece)) bytes
    → (before : List ℕ) × MayLeave state before × Torn place (length piece) before bytes
torn_write state is_between place piece within bytes left =
    let end = place + length piece in
    let stretch : Stretch = record { start = place; end = end } in
    let count = min (length bytes) state.greatest in
    let byte = between place end (λ p. get_or state.seen p 0) (λ p. get_or bytes p 0) in
    let before = tabulated byte count in
    let least_seen = is_between.least in
    let seen_greatest = is_between.greatest in
    let long : length before ≡ count = length-tabulated byte count in
    let whole : length (overwritten state.seen place piece) ≡ max (length state.seen) end = length-overwritten state.seen place piece within in
    let least : state.least ≤ length bytes = omega (arith, left.no_shorter) in
    let most : length bytes ≤ max state.greatest end = omega (arith, left.no_longer) in
    let at : (p : ℕ) → p < count → get_or before p 0 ≡ byte p = λ p below. get_or-tabulated byte count p below in
    let in_front : (p : ℕ) → p < count → p < place → get_or before p 0 ≡ get_or bytes p 0 = λ p below front. at p below ∙ between_front place end (λ q. get_or state.seen q 0) (λ q. get_or bytes q 0) p front in
    let in_behind : (p : ℕ) → p < count → end ≤ p → get_or before p 0 ≡ get_or bytes p 0 = λ p below behind. at p below ∙ between_behind place end (λ q. get_or state.seen q 0) (λ q. get_or bytes q 0) p (omega arith) behind in (
      before,
      record {
        no_shorter = omega arith;
        no_longer = omega arith;
        stays = λ p below outside. elim (cases_lt p place) [
          | inl front ↦ in_front p (omega arith) front ∙ left.stays p (omega arith) (All-cons (IsOutside p) stretch state.written (inl front) outside) ∙ overwritten_front state.seen place piece p within front
          | inr from ↦ elim (cases_lt p end) [
            | inl inside ↦ at p (omega arith) ∙ between_inside place end (λ q. get_or state.seen q 0) (λ q. get_or bytes q 0) p from inside
            | inr behind ↦ in_behind p (omega arith) behind ∙ left.stays p (omega arith) (All-cons (IsOutside p) stretch state.written (inr behind) outside) ∙ overwritten_behind state.seen place piece p within behind
          ]
        ];
      },
      record {
        front = same_front bytes before place (omega arith) (λ p front below. sym (in_front p (omega arith) front));
        behind = same_behind bytes before end (omega arith) (λ p behind below. sym (in_behind p (omega arith) behind));
        no_shorter = omega arith;
      },
    )

-- after a cut too
pub torn_cut : (state : AreaState) → IsBetween state → (len : ℕ) → len ≤ length state.seen
    → (bytes : List ℕ) → MayLeave (changed_area state (Cut len)) bytes
    → (before : List ℕ) × MayLeave state before × TornCut len before bytes
torn_cut state is_between len within bytes left =
    let least_seen = is_between.least in
    let seen_greatest = is_between.greatest in
    let cut : length (take len state.seen) ≡ len = omega (arith, length-take len state.seen) in
    let least : min state.least len ≤ length bytes = omega (arith, left.no_shorter) in
    let most : length bytes ≤ state.greatest = omega (arith, left.no_longer) in
    let stays : (p : ℕ) → p < state.least → p < len → All (IsOutside p) state.written → get_or bytes p 0 ≡ get_or state.seen p 0 =
    λ p below front outside. left.stays p (omega arith) outside ∙ get_or-take len state.seen p 0 front in
    elim (cases_lt (length bytes) len) [
      | inl short ↦ (
        bytes,
        record {
          no_shorter = omega arith;
          no_longer = most;
          stays = λ p below outside. stays p below (omega arith) outside;
        },
        record { front = refl; no_longer = omega arith },
      )
      | inr long ↦
          let count = max (length bytes) (length state.seen) in
          let byte = between 0 len (λ p. get_or bytes p 0) (λ p. get_or state.seen p 0) in
          let before = tabulated byte count in
          let many : length before ≡ count = length-tabulated byte count in
          let in_front : (p : ℕ) → p < len → get_or before p 0 ≡ get_or bytes p 0 = λ p front.
          get_or-tabulated byte count p (omega arith) ∙ between_inside 0 len (λ q. get_or bytes q 0) (λ q. get_or state.seen q 0) p (omega arith) front in (
            before,
            record {
              no_shorter = omega arith;
              no_longer = omega arith;
              stays = λ p below outside. elim (cases_lt p len) [
                | inl front ↦ in_front p front ∙ stays p below front outside
                | inr behind ↦ get_or-tabulated byte count p (omega arith) ∙ between_behind 0 len (λ q. get_or bytes q 0) (λ q. get_or state.seen q 0) p (omega arith) behind
              ];
            },
            record {
              front = same_front bytes before len (omega arith) (λ p front below. sym (in_front p front));
              no_longer = omega arith;
            },
          )
    ]
