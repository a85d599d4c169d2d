-- Pages that stay, and pages after changes.
use Rattle.std.proofs.Common.{◌≡◌, refl, sym, ◌∙◌, ap, subst, inl, inr, List, [], ◌∷◌, ◌++◌, ℕ, zero, suc, ◌+◌, ◌<◌, length, Option, Some, None, append_assoc, append-nil, arith}
use Rattle.std.specs.Prelude.{◌≢◌, ◌⊎◌, ◌||◌, Bool, true, false, not, slice_get}
use Rattle.std.specs.Cmp.{IsTotalOrder}
use Rattle.std.specs.List.{AllByRecursion as Each, Contains, list_any}
use Rattle.std.specs.Ordering.{is_gt, is_lt}
use Rattle.std.specs.declared.cmp.Ordering.{Ordering}
use Rattle.std.specs.declared.cmp.Ordering.TheVariants.{Less, Equal, Greater}
use Rattle.std.proofs.lemmas.Grind.{flat_map-append}
use Rattle.std.proofs.lemmas.List.Elements.{Contains-append_left, Contains-append_right}
use Rattle.page_model.specs.Changed.{AreKeyed, with_changes}
use Rattle.page_model.specs.ChangedPages.{AddsChanged, AddsPages}
use Rattle.page_model.specs.Kept.{KeepsPages}
use Rattle.page_model.specs.Page.{ArePages, IsPage, joined}
use Rattle.page_model.specs.PageOf.{page_of, starts_by}
use Rattle.page_model.specs.Rising.{IsRising}
use Rattle.page_model.proofs.ChangedLemmas.{changes_apart}
use Rattle.page_model.proofs.Ordered.{above_from_below, below_from_above, below_other}
use Rattle.page_model.proofs.RisingLemmas.{each_append, each_back, each_front, each_weaker, none_below, rising_before, rising_back}

-- a page of two lists of pages is one of the first, or one of the other
page_cases : {X : Type 0} (xs ys : List X) (n : ℕ) (x : X) → slice_get (xs ++ ys) n ≡ Some x → (slice_get xs n ≡ Some x) ⊎ ((m : ℕ) × (n ≡ length xs + m) × (slice_get ys m ≡ Some x))
page_cases [] ys n x is = inr (n, omega arith, is)
page_cases (y ∷ xs) ys zero x is = inl is
page_cases (y ∷ xs) ys (suc n) x is = elim (page_cases xs ys n x is) [
  | inl first ↦ inl first
  | inr (m, same, other) ↦ inr (m, omega arith, other)
]

page_there : {X : Type 0} (xs : List X) (n : ℕ) (x : X) → slice_get xs n ≡ Some x → Contains xs x
page_there [] n x is = cc
page_there (y ∷ xs) zero x is = (0, omega arith, cc)
page_there (y ∷ xs) (suc n) x is = let there = page_there xs n x is in (suc there.0, omega arith, there.2)

or_true : (a b : Bool) → b ≡ true → (a || b) ≡ true
or_true true b is = refl
or_true false b is = is

any_append : {X : Type 0} (p : X → Bool) (xs ys : List X) → list_any p ys ≡ true → list_any p (xs ++ ys) ≡ true
any_append p [] ys is = is
any_append p (x ∷ xs) ys is = or_true (p x) _ (any_append p xs ys is)

or_false : (a b : Bool) → (a || b) ≡ false → b ≡ false
or_false true b is = cc
or_false false b is = is

any_front : {X : Type 0} (p : X → Bool) (xs ys : List X) → list_any p ys ≡ false → list_any p (xs ++ ys) ≡ list_any p xs
any_front p [] ys is = is
any_front p (x ∷ xs) ys is = ap (λ b. p x || b) (any_front p xs ys is)

each_two : {X : Type 0} (P Q R : X → Type 0) → ((x : X) → P x → Q x → R x) → (xs : List X) → Each P xs → Each Q xs → Each R xs
each_two P Q R f [] h i = tt
each_two P Q R f (x ∷ xs) h i = (f x h.0 i.0, each_two P Q R f xs h.1 i.1)

module _ {T K C : Type 0} (key_of : T → K) {cmp : K → K → Ordering} (order : IsTotalOrder cmp) (changed : C → K) (put : C → Option T) where
  -- a key by which none of these pages starts falls into none of them
  page_of_none : (key : K) (pages : List (List T)) → list_any (starts_by key_of cmp key) pages ≡ false → page_of key_of cmp key pages ≡ 0
  unfolding page_of
  page_of_none key [] none = refl
  page_of_none key (page ∷ behind) none = rw (or_false (starts_by key_of cmp key page) (list_any (starts_by key_of cmp key) behind) none) refl

  page_of_front : (key : K) (front back : List (List T)) → list_any (starts_by key_of cmp key) back ≡ false → page_of key_of cmp key (front ++ back) ≡ page_of key_of cmp key front
  unfolding page_of
  page_of_front key [] back none = page_of_none key back none
  page_of_front key (page ∷ front) back none = rw (any_front _ front back none, page_of_front key front back none) refl

  -- a key by which one of these starts falls into one of them
  page_of_back : (key : K) (front back : List (List T)) → list_any (starts_by key_of cmp key) back ≡ true → page_of key_of cmp key (front ++ back) ≡ length front + page_of key_of cmp key back
  unfolding page_of
  page_of_back key [] back some = omega arith
  page_of_back key (page ∷ front) back some = rw (any_append _ front back some) (omega (arith, page_of_back key front back some))

  -- a page of items that aren't below a key doesn't start by a key below it
  not_starting : (key bound : K) (page : List T) → cmp key bound ≡ Less → Each (λ x. is_lt (cmp (key_of x) bound) ≡ false) page → starts_by key_of cmp key page ≡ false
  not_starting key bound [] below is = refl
  not_starting key bound (x ∷ page) below is = ap (λ o. not (is_gt o)) (above_from_below order _ _ (below_other order key (key_of x) bound below is.0))

  none_starts : (key bound : K) (pages : List (List T)) → cmp key bound ≡ Less → Each (λ x. is_lt (cmp (key_of x) bound) ≡ false) (joined pages) → list_any (starts_by key_of cmp key) pages ≡ false
  none_starts key bound [] below is = refl
  none_starts key bound (page ∷ pages) below is =
      rw (not_starting key bound page below (each_front _ page (joined pages) is)) (none_starts key bound pages below (each_back _ page (joined pages) is))

  not_greater : (x y : K) (o : Ordering) → cmp x y ≡ o → is_lt (cmp y x) ≡ false → not (is_gt o) ≡ true
  not_greater x y Less is upto = refl
  not_greater x y Equal is upto = refl
  not_greater x y Greater is upto = absurd (let below = below_from_above order x y is in cc)

  first_starts : (key : K) (x : T) (page : List T) → is_lt (cmp key (key_of x)) ≡ false → starts_by key_of cmp key (x ∷ page) ≡ true
  first_starts key x page upto = not_greater (key_of x) key _ refl upto

  -- pages that stay, in front and behind
  pub keeps_apart : (front back new_front new_back : List (List T)) (below above : List C)
      → Each (λ change. list_any (starts_by key_of cmp (changed change)) back ≡ false) below
      → Each (λ change. list_any (starts_by key_of cmp (changed change)) back ≡ true) above
      → KeepsPages key_of cmp changed front below new_front → KeepsPages key_of cmp changed back above new_back
      → KeepsPages key_of cmp changed (front ++ back) (below ++ above) (new_front ++ new_back)
  keeps_apart front back new_front new_back below above none some in_front behind number page is untouched = elim (page_cases front back number page is) [
    | inl first ↦ Contains-append_left new_front new_back page (in_front number page first
        (each_two _ _ _ (λ change other starts. subst (λ n. n ≢ number) (page_of_front (changed change) front back starts) other) below (each_front _ below above untouched) none))
    | inr (m, same, other) ↦ Contains-append_right new_front new_back page (behind m page other
        (each_two _ _ _ (λ change away starts here. away (page_of_back (changed change) front back starts ∙ (ap (λ n. length front + n) here ∙ sym same))) above (each_back _ below above untouched) some))
  ]

  -- old pages in front and behind, each with the changes that fall there
  pub adds_both : (front back : List (List T)) (first : T) (more : List T) (others : List (List T)) (below above : List C) (before middle after : List (List T))
      → back ≡ (first ∷ more) ∷ others → IsRising key_of cmp (joined (front ++ back)) → AreKeyed key_of changed put below
      → Each (λ change. cmp (changed change) (key_of first) ≡ Less) below → Each (λ change. is_lt (cmp (changed change) (key_of first)) ≡ false) above
      → AddsChanged key_of cmp changed put front below before middle → AddsChanged key_of cmp changed put back above middle after
      → AddsChanged key_of cmp changed put (front ++ back) (below ++ above) before after
  adds_both front back first more others below above before middle after is rising keyed below_is above_is in_front behind =
      let starts : joined back ≡ first ∷ (more ++ joined others) = ap joined is in
      let both : joined (front ++ back) ≡ joined front ++ joined back = flat_map-append (λ page. page) front back in
      let parts : joined (front ++ back) ≡ joined front ++ first ∷ (more ++ joined others) = both ∙ ap (λ xs. joined front ++ xs) starts in
      let rises = subst (IsRising key_of cmp) parts rising in
      let left = rising_before key_of cmp (joined front) first (more ++ joined others) rises in
      let right = subst (Each (λ x. is_lt (cmp (key_of x) (key_of first)) ≡ false)) (sym starts)
      (none_below key_of cmp order first (more ++ joined others) (rising_back key_of cmp (joined front) (first ∷ (more ++ joined others)) rises)) in
      record {
        new = in_front.new ++ behind.new;
        behind = behind.behind ∙ (ap (λ ps. ps ++ behind.new) in_front.behind ∙ append_assoc before in_front.new behind.new);
        pages = each_append IsPage in_front.new behind.new in_front.pages behind.pages;
        items = flat_map-append (λ page. page) in_front.new behind.new
            ∙ (ap (λ xs. xs ++ joined behind.new) in_front.items
            ∙ (ap (λ xs. with_changes key_of cmp changed put below (joined front) ++ xs) behind.items
            ∙ (sym (changes_apart key_of order changed put (key_of first) (joined front) (joined back) below above left right below_is above_is keyed)
            ∙ ap (with_changes key_of cmp changed put (below ++ above)) (sym both))));
        kept = keeps_apart front back in_front.new behind.new below above
            (each_weaker _ _ (λ change less. none_starts (changed change) (key_of first) back less right) below below_is)
            (each_weaker _ _ (λ change upto. subst (λ ps. list_any (starts_by key_of cmp (changed change)) ps ≡ true) (sym is)
            (ap (λ b. b || list_any (starts_by key_of cmp (changed change)) others) (first_starts (changed change) first more upto))) above above_is)
            in_front.kept behind.kept;
      }

  -- without a change pages come as they are
  pub adds_same : (old before after : List (List T)) → ArePages old → after ≡ before ++ old → AddsChanged key_of cmp changed put old [] before after
  unfolding with_changes
  adds_same old before after pages is = record { new = old; behind = is; pages = pages; items = refl; kept = λ number page there _. page_there old number page there }

  -- of one page, or none, no page has to stay where there is a change
  one_page : (key : K) (page : List T) → page_of key_of cmp key (page ∷ []) ≡ 0
  unfolding page_of
  one_page key page = refl

  pub adds_page : (page : List T) (change : C) (changes : List C) (before after : List (List T))
      → AddsPages (with_changes key_of cmp changed put (change ∷ changes) page) before after → AddsChanged key_of cmp changed put (page ∷ []) (change ∷ changes) before after
  adds_page page change changes before after adds =
      record {
        new = adds.new;
        behind = adds.behind;
        pages = adds.pages;
        items = adds.items ∙ ap (with_changes key_of cmp changed put (change ∷ changes)) (sym (append-nil page));
        kept = λ number other there untouched. elim number as (λ n. slice_get (page ∷ []) n ≡ Some other → page_of key_of cmp (changed change) (page ∷ []) ≢ n → Contains adds.new other) [
          | zero ↦ λ _ away. absurd (away (one_page (changed change) page))
          | suc n ↦ λ is _. let none : slice_get (page ∷ []) (suc n) ≡ None = refl in cc
        ] there untouched.0;
      }

  pub adds_first : (changes : List C) (before after : List (List T)) → AddsPages (with_changes key_of cmp changed put changes []) before after → AddsChanged key_of cmp changed put [] changes before after
  adds_first changes before after adds =
      record { new = adds.new; behind = adds.behind; pages = adds.pages; items = adds.items; kept = λ number other there _. let none : slice_get {X = List T} [] number ≡ None = refl in cc }

  -- the same of changes that are some
  pub adds_leaf : (page : List T) (changes : List C) (before after : List (List T)) → 0 < length changes
      → AddsPages (with_changes key_of cmp changed put changes page) before after → AddsChanged key_of cmp changed put (page ∷ []) changes before after
  adds_leaf page [] before after some adds = absurd (omega arith)
  adds_leaf page (change ∷ changes) before after some adds = adds_page page change changes before after adds

  -- what comes behind nothing comes behind others
  pub adds_moved : (old : List (List T)) (changes : List C) (before middle after : List (List T)) → after ≡ before ++ middle
      → AddsChanged key_of cmp changed put old changes [] middle → AddsChanged key_of cmp changed put old changes before after
  adds_moved old changes before middle after is adds =
      record { new = adds.new; behind = is ∙ ap (λ pages. before ++ pages) adds.behind; pages = adds.pages; items = adds.items; kept = adds.kept }

  -- pages of the items below a change's key, and of the others, each with its changes
  pub adds_parts : (items front back : List T) (changes below others : List C) (first : C) (rest : List C) (before middle after : List (List T))
      → items ≡ front ++ back → changes ≡ below ++ others → others ≡ first ∷ rest → IsRising changed cmp changes → AreKeyed key_of changed put changes
      → Each (λ x. cmp (key_of x) (changed first) ≡ Less) front → Each (λ x. is_lt (cmp (key_of x) (changed first)) ≡ false) back
      → AddsPages (with_changes key_of cmp changed put below front) before middle → AddsPages (with_changes key_of cmp changed put others back) middle after
      → AddsPages (with_changes key_of cmp changed put changes items) before after
  adds_parts items front back changes below others first rest before middle after parts split starts rising keyed left right in_front behind =
      let rises = subst (IsRising changed cmp) (split ∙ ap (λ cs. below ++ cs) starts) rising in
      let below_is = rising_before changed cmp below first rest rises in
      let others_are = subst (Each (λ change. is_lt (cmp (changed change) (changed first)) ≡ false)) (sym starts) (none_below changed cmp order first rest (rising_back changed cmp below (first ∷ rest) rises)) in
      let keys = each_front _ below others (subst (AreKeyed key_of changed put) split keyed) in
      record {
        new = in_front.new ++ behind.new;
        behind = behind.behind ∙ (ap (λ ps. ps ++ behind.new) in_front.behind ∙ append_assoc before in_front.new behind.new);
        pages = each_append IsPage in_front.new behind.new in_front.pages behind.pages;
        items = flat_map-append (λ page. page) in_front.new behind.new
            ∙ (ap (λ xs. xs ++ joined behind.new) in_front.items
            ∙ (ap (λ xs. with_changes key_of cmp changed put below front ++ xs) behind.items
            ∙ (sym (changes_apart key_of order changed put (changed first) front back below others left right below_is others_are keys)
            ∙ (ap (λ cs. with_changes key_of cmp changed put cs (front ++ back)) (sym split) ∙ ap (with_changes key_of cmp changed put changes) (sym parts)))));
      }

  -- behind nothing stand the new pages alone
  pub adds_all : (old : List (List T)) (changes : List C) (after : List (List T)) → AddsChanged key_of cmp changed put old changes [] after
      → ArePages after × (joined after ≡ with_changes key_of cmp changed put changes (joined old)) × KeepsPages key_of cmp changed old changes after
  adds_all old changes after adds =
      (subst ArePages (sym adds.behind) adds.pages, ap joined adds.behind ∙ adds.items, subst (KeepsPages key_of cmp changed old changes) (sym adds.behind) adds.kept)
