-- What is made of some of a database's rows, looked up by name.
use Rattle.std.proofs.Common.{◌≡◌, ℕ, List, [], ◌∷◌, map, Bool, true, false, cond, inl, inr, refl, ap, sym, ◌∙◌, subst}
use Rattle.std.specs.Prelude.{◌⊎◌, Contains, Option, Some, None, filter, find, if◌then◌else◌}
use Rattle.std.specs.List.{AllByRecursion as Each}
use Rattle.std.specs.List.Sorted.{IsStrictlySortedBy}
use Rattle.std.specs.Option.{option_and_then}
use Rattle.std.specs.Cmp.{IsTotalOrder}
use Rattle.std.specs.Ordering.{is_eq, nat_cmp, ordering_then}
use Rattle.std.specs.declared.cmp.Ordering.{Ordering}
use Rattle.std.specs.declared.cmp.Ordering.TheVariants.{Less, Equal, Greater}
use Rattle.std.proofs.lemmas.Cmp.{tied_itself}
use Rattle.std.proofs.lemmas.Map.Lookups.{exact_unsigned}
use Rattle.own_base.specs.Key.{key_cmp}
use Rattle.own_base.specs.declared.row_name.RowName.{RowName}
use Rattle.own_base.specs.declared.value.Key.{Key}
use Rattle.own_model.specs.Db.{Db, IsOrdered, Row}
use Rattle.own_model.specs.Stored.{is_equal}
use Rattle.page_model.specs.Found.{found}
use Rattle.page_model.specs.Rising.{IsRising}
use Rattle.page_model.proofs.Ordered.{above_from_below, equal_from}
use Rattle.page_model.proofs.RisingLemmas.{each_mapped, each_weaker, rising_behind, rising_tail}
use Rattle.owner_model.specs.Joins.{row_of}
use Rattle.subject_model.specs.NameOrder.{name_cmp}
use Rattle.subject_model.specs.Named.{NamedRow, named_rows}
use Rattle.subject_model.proofs.Members.{all_contained, contains_cases, contains_here, contains_later, contains_none}
use Rattle.subject_model.proofs.NameOrderLemmas.{named_rows_rise}
use Rattle.subject_model.proofs.NamedLemmas.{named-row_of, one_key, row_of-named}
use Rattle.subject_model.proofs.RisingNames.{name_order}

tied_parts : (first second : Ordering) → is_eq (ordering_then first second) ≡ true → (first ≡ Equal) × (is_equal second ≡ true)
tied_parts Less second is = let never : false ≡ true = is in cc
tied_parts Equal Less is = let never : false ≡ true = is in cc
tied_parts Equal Equal is = (refl, refl)
tied_parts Equal Greater is = let never : false ≡ true = is in cc
tied_parts Greater second is = let never : false ≡ true = is in cc

-- names that tie are one
pub one_name : (one other : RowName) → is_eq (name_cmp one other) ≡ true → one ≡ other
one_name one other is =
    let both = tied_parts (nat_cmp one.table.0 other.table.0) (key_cmp one.key other.key) is in
    let table : one.table.0 ≡ other.table.0 = exact_unsigned one.table.0 other.table.0 both.0 in
    let key : one.key ≡ other.key = one_key one.key other.key both.1 in
    let made : ℕ → Key → RowName = λ n k. record { table = record { 0 = n }; key = k } in
    ap (λ n. made n one.key) table ∙ ap (made other.table.0) key

pub name_tied : (one other : RowName) → one ≡ other → is_eq (name_cmp one other) ≡ true
name_tied one other same = subst (λ n. is_eq (name_cmp one n) ≡ true) same (ap is_eq (tied_itself name_order one))

-- two names are one or don't tie
pub name_cases : (one other : RowName) → (one ≡ other) ⊎ (is_eq (name_cmp one other) ≡ false)
name_cases one other = by (is_eq (name_cmp one other)) refl
  where
    by : (b : Bool) → is_eq (name_cmp one other) ≡ b → (one ≡ other) ⊎ (is_eq (name_cmp one other) ≡ false)
    by true is = inl (one_name one other is)
    by false is = inr is

module _ {T K : Type 0} (key_of : T → K) {cmp : K → K → Ordering} (order : IsTotalOrder cmp) where
  -- none above a key has it
  none_above : (key : K) (xs : List T) → Each (λ x. cmp key (key_of x) ≡ Less) xs → found key_of cmp key xs ≡ None
  unfolding found
  none_above key [] above = refl
  none_above key (x ∷ xs) above = rw (above_from_below order key (key_of x) above.0) (none_above key xs above.1)

  -- none behind the first has its key
  pub none_behind : (key : K) (x : T) (xs : List T) → cmp (key_of x) key ≡ Equal → IsRising key_of cmp (x ∷ xs) → found key_of cmp key xs ≡ None
  none_behind key x xs equal rising =
      none_above key xs (each_weaker _ _ (λ z less. sym (order.congr (key_of x) key (key_of z) equal) ∙ less) xs (rising_behind key_of cmp x xs rising))

  -- what stands among items that rise is found by its key
  pub contained_found : (xs : List T) (x : T) → IsRising key_of cmp xs → Contains xs x → found key_of cmp (key_of x) xs ≡ Some x
  unfolding found
  contained_found [] x rising among = absurd (contains_none x among)
  contained_found (y ∷ ys) x rising among = by (contained_found ys x (rising_tail key_of cmp y ys rising)) (contains_cases y ys x among)
    where
      by : (Contains ys x → find (λ item. is_eq (cmp (key_of item) (key_of x))) ys ≡ Some x) → (y ≡ x) ⊎ Contains ys x → find (λ item. is_eq (cmp (key_of item) (key_of x))) (y ∷ ys) ≡ Some x
      by more (inl here) =
          let own : is_eq (cmp (key_of y) (key_of x)) ≡ true = subst (λ z. is_eq (cmp (key_of y) (key_of z)) ≡ true) here (ap is_eq (tied_itself order (key_of y))) in
          rw own (ap Some here)
      by more (inr later) =
          let below : cmp (key_of y) (key_of x) ≡ Less = all_contained (λ z. cmp (key_of y) (key_of z) ≡ Less) ys x (rising_behind key_of cmp y ys rising) later in
          rw below (more later)

-- what is found stands there, and has the key
pub found_contained : {T K : Type 0} (key_of : T → K) (cmp : K → K → Ordering) (key : K) (xs : List T) (x : T) → found key_of cmp key xs ≡ Some x → Contains xs x × (is_eq (cmp (key_of x) key) ≡ true)
unfolding found
found_contained {T} key_of cmp key [] x is = let never : ◌≡◌ {A = Option T} None (Some x) = is in cc
found_contained key_of cmp key (y ∷ ys) x is = by (found_contained key_of cmp key ys x) (is_eq (cmp (key_of y) key)) refl is
  where
    by : (find (λ item. is_eq (cmp (key_of item) key)) ys ≡ Some x → Contains ys x × (is_eq (cmp (key_of x) key) ≡ true)) → (b : Bool) → is_eq (cmp (key_of y) key) ≡ b
        → cond b (Some y) (find (λ item. is_eq (cmp (key_of item) key)) ys) ≡ Some x → Contains (y ∷ ys) x × (is_eq (cmp (key_of x) key) ≡ true)
    by more true tied here = let same : y ≡ x = cc in (subst (Contains (y ∷ ys)) same (contains_here y ys), subst (λ z. is_eq (cmp (key_of z) key) ≡ true) same tied)
    by more false apart there = let later = more there in (contains_later y ys x later.0, later.1)

each_filter : {X : Type 0} (p : X → Bool) (P : X → Type 0) (xs : List X) → Each P xs → Each P (filter p xs)
each_filter p P [] all = tt
each_filter p P (x ∷ xs) all = by (p x) (each_filter p P xs all.1)
  where
    by : (b : Bool) → Each P (filter p xs) → Each P (cond b (x ∷ filter p xs) (filter p xs))
    by true more = (all.0, more)
    by false more = more

-- the name of a named row
abbrev pub called : NamedRow → RowName
called named = named.name

-- the named row of a row
abbrev pub as_named : RowName → Row → NamedRow
as_named name row = record { name = name; row = row }

module _ {T : Type 0} (key_of : T → RowName) (make : NamedRow → T) (keyed : (named : NamedRow) → key_of (make named) ≡ named.name) (kept : NamedRow → Bool) where
  -- what is made of a row that passes, if it does
  abbrev pub made_of : NamedRow → Option T
  made_of named = if kept named then Some (make named) else None

  found_kept : (name : RowName) (xs : List NamedRow) → IsRising called name_cmp xs → found key_of name_cmp name (map make (filter kept xs)) ≡ option_and_then made_of (found called name_cmp name xs)
  unfolding found
  found_kept name [] rising = refl
  found_kept name (x ∷ xs) rising = by (found_kept name xs (rising_tail called name_cmp x xs rising)) (kept x) (is_eq (name_cmp x.name name)) refl refl
    where
      by : find (λ made. is_eq (name_cmp (key_of made) name)) (map make (filter kept xs)) ≡ option_and_then made_of (find (λ named. is_eq (name_cmp named.name name)) xs)
          → (b c : Bool) → kept x ≡ b → is_eq (name_cmp x.name name) ≡ c
          → find (λ made. is_eq (name_cmp (key_of made) name)) (map make (cond b (x ∷ filter kept xs) (filter kept xs))) ≡ option_and_then made_of (cond c (Some x) (find (λ named. is_eq (name_cmp named.name name)) xs))
      by more true true passes here = rw (keyed x, here, passes) refl
      by more true false passes other = rw (keyed x, other) more
      by more false true fails here =
          let none : find (λ (named : NamedRow). is_eq (name_cmp named.name name)) xs ≡ None = none_behind called name_order name x xs (equal_from _ here) rising in
          rw fails (more ∙ ap (option_and_then made_of) none)
      by more false false fails other = more

  -- each row that is there is found, and nothing else
  found_named : (db : Db) (name : RowName) → IsOrdered db → found called name_cmp name (named_rows db) ≡ option_and_then (λ row. Some (as_named name row)) (row_of db name)
  found_named db name ordered = by (row_of db name) refl (found called name_cmp name (named_rows db)) refl
    where
      by : (o : Option Row) → row_of db name ≡ o → (f : Option NamedRow) → found called name_cmp name (named_rows db) ≡ f → found called name_cmp name (named_rows db) ≡ option_and_then (λ row. Some (as_named name row)) o
      by (Some row) is f was = contained_found called name_order (named_rows db) (as_named name row) (named_rows_rise db ordered) (named-row_of db (as_named name row) ordered is)
      by None is None was = was
      by None is (Some named) was =
          let (among, tied) = found_contained called name_cmp name (named_rows db) named was in
          let same : named.name ≡ name = one_name named.name name tied in
          let never : None ≡ Some named.row = sym is ∙ (ap (row_of db) (sym same) ∙ row_of-named db named ordered among) in
          cc

  -- so what is made of the rows that pass is found by their names
  pub found_made : (db : Db) (name : RowName) → IsOrdered db
      → found key_of name_cmp name (map make (filter kept (named_rows db))) ≡ option_and_then (λ row. made_of (as_named name row)) (row_of db name)
  found_made db name ordered = found_kept name (named_rows db) (named_rows_rise db ordered) ∙ (ap (option_and_then made_of) (found_named db name ordered) ∙ joined (row_of db name))
    where
      joined : (o : Option Row) → option_and_then made_of (option_and_then (λ row. Some (as_named name row)) o) ≡ option_and_then (λ row. made_of (as_named name row)) o
      joined None = refl
      joined (Some row) = refl

  names_kept : (xs : List NamedRow) → map key_of (map make xs) ≡ map called xs
  names_kept [] = refl
  names_kept (x ∷ xs) = rw (keyed x, names_kept xs) refl

  names_filtered : (xs : List NamedRow) → IsRising called name_cmp xs → IsRising called name_cmp (filter kept xs)
  unfolding IsStrictlySortedBy
  names_filtered [] rising = tt
  names_filtered (x ∷ xs) rising = by (names_filtered xs rising.1) (kept x)
    where
      by : IsRising called name_cmp (filter kept xs) → (b : Bool) → IsRising called name_cmp (cond b (x ∷ filter kept xs) (filter kept xs))
      by more true = (each_mapped _ called (filter kept xs) (each_filter kept (λ y. name_cmp x.name y.name ≡ Less) xs (rising_behind called name_cmp x xs rising)), more)
      by more false = more

  -- and it rises as they do
  pub made_rise : (db : Db) → IsOrdered db → IsRising key_of name_cmp (map make (filter kept (named_rows db)))
  made_rise db ordered = subst (IsStrictlySortedBy name_cmp) (sym (names_kept (filter kept (named_rows db)))) (names_filtered (named_rows db) (named_rows_rise db ordered))
