-- One rule and then another.
use Rattle.std.proofs.Common.{◌≡◌, ◌≤◌, ◌<◌, Bool, true, false, List, [], ◌∷◌, ◌++◌, length, Ok, Err, refl, sym, ap, ◌∙◌, subst, inl, inr, append_assoc, arith}
use Rattle.std.specs.Prelude.{◌&&◌, if◌then◌else◌}
use Rattle.std.proofs.lemmas.Bool.{false≢true}
use Rattle.own_model.specs.declared.limit.LimitName.{LimitName}
use Rattle.sql_reader.specs.declared.fault.RuleFault.TheVariants.{Syntax, Limit, Memory}
use Rattle.grammar_model.specs.Terminal.{Terminals}
use Rattle.sql_reader.specs.reading.Reader.{Reading, Reader, then_read}
use Rattle.grammar_model.specs.Language.{Language, ◌>>=◌}
use Rattle.sql_reader.proofs.Heads.{Head, apart, NoneNext, OneNext, none-append, one-append-left, one-append-right, one-none}
use Rattle.sql_reader.proofs.ReaderRight.{next_of, stop_of, Means, Goes, Beyond, Lifted, Begins, Right, Spells, reads_both, real_after}

-- after the same terminals, the same terminal comes first
pub next-append : (front rest other : Terminals) → next_of rest ≡ next_of other → next_of (front ++ rest) ≡ next_of (front ++ other)
next-append [] rest other same = same
next-append (terminal ∷ front) rest other same = refl

-- one text after another
spells-both : {A B : Type 0} (language : Language A) (behind : A → Language B) (value : A) (found : B) (front back : Terminals) → Spells language value front → Spells (behind value) found back → Spells (language >>= behind) found (front ++ back)
spells-both language behind value found front back one two = λ ending.
    (value, back ++ ending, subst (λ l. language value l (back ++ ending)) (sym (append_assoc front back ending)) (one (back ++ ending)), two ending)

goes_on : {A B : Type 0} (reader : Reader A) (next : A → Reader B) (language : Language A) (behind : A → Language B) → ((value : A) (terminals : Terminals) → Goes (next value) (behind value) terminals (next value terminals))
    → ((value : A) → (found : B) × (terminals : Terminals) × Spells (behind value) found terminals)
    → (terminals : Terminals) (outcome : Reading A) → Goes reader language terminals outcome → Goes (reads_both reader next) (language >>= behind) terminals (then_read outcome next)
goes_on {B = B} reader next language behind goes some terminals (Ok (value, middle)) first = joined (next value middle) (goes value middle)
  where
    meant : (back : Terminals) (outcome : Reading B) → Means (behind value) back outcome → Means (language >>= behind) (first.front ++ back) outcome
    meant back (Ok (found, rest)) means = spells-both language behind value found first.front back first.means means
    meant back (Err fault) means =
        (means.0, means.1, subst (Spells (language >>= behind) means.0) (sym (append_assoc first.front back means.1)) (spells-both language behind value means.0 first.front (back ++ means.1) first.means means.2))

    joined : (outcome : Reading B) → Goes (next value) (behind value) middle outcome → Goes (reads_both reader next) (language >>= behind) terminals outcome
    joined outcome second =
        record {
          front = first.front ++ second.front;
          is = first.is ∙ ap (λ l. first.front ++ l) second.is ∙ sym (append_assoc first.front second.front (stop_of outcome));
          local = λ other same.
              ap (λ l. then_read (reader l) next) (append_assoc first.front second.front other)
              ∙ ap (λ o. then_read o next) (first.local (second.front ++ other) (ap next_of second.is ∙ next-append second.front (stop_of outcome) other same))
              ∙ second.local other same;
          means = meant second.front outcome second.means;
        }
goes_on {B = B} reader next language behind goes some terminals (Err (fault, rest)) first =
    record {
      front = first.front;
      is = first.is;
      local = λ other same. ap (λ o. then_read o next) (first.local other same);
      means = begun (some first.means.0);
    }
  where
    begun : (found : B) × (back : Terminals) × Spells (behind first.means.0) found back → Means (language >>= behind) first.front (Err (fault, rest))
    begun word =
        (word.0, first.means.1 ++ word.1, subst (Spells (language >>= behind) word.0) (append_assoc first.front first.means.1 word.1) (spells-both language behind first.means.0 word.0 (first.front ++ first.means.1) word.1 first.means.2 word.2))

-- what follows a rule and then another
abbrev pub joined : Bool → List Head → List Head → List Head
joined empty one other = if empty then one ++ other else one

begins_on : (first second : List Head) (empty blank : Bool) (terminals middle rest : Terminals) → Begins first empty terminals middle → Begins second blank middle rest → Begins (joined empty first second) (empty && blank) terminals rest
begins_on first second true blank terminals middle rest (inl here) (inl there) = inl (there.0, here.1 ∙ there.1)
begins_on first second true blank terminals middle rest (inl here) (inr there) = inr (one-append-right first second terminals (subst (OneNext second) (sym here.1) there.0), subst (λ l. length rest < length l) (sym here.1) there.1)
begins_on first second true blank terminals middle rest (inr here) (inl there) = inr (one-append-left first second terminals here.0, subst (λ l. length l < length terminals) there.1 here.1)
begins_on first second true blank terminals middle rest (inr here) (inr there) = inr (one-append-left first second terminals here.0, shorter here.1 there.1)
  where
    shorter : length middle < length terminals → length rest < length middle → length rest < length terminals
    shorter one two = omega arith
begins_on first second false blank terminals middle rest (inl here) there = absurd (false≢true here.0)
begins_on first second false blank terminals middle rest (inr here) (inl there) = inr (here.0, subst (λ l. length l < length terminals) there.1 here.1)
begins_on first second false blank terminals middle rest (inr here) (inr there) = inr (here.0, shorter here.1 there.1)
  where
    shorter : length middle < length terminals → length rest < length middle → length rest < length terminals
    shorter one two = omega arith

-- the first rule stops where the second begins
stops_at : (follow second behind : List Head) (blank : Bool) (middle rest : Terminals) → apart second follow ≡ true → Begins second blank middle rest → NoneNext (joined blank behind follow) rest → NoneNext follow middle
stops_at follow second behind true middle rest distinct (inl there) none = subst (NoneNext follow) (sym there.1) (none-append behind follow rest none).1
stops_at follow second behind false middle rest distinct (inl there) none = absurd (false≢true there.0)
stops_at follow second behind blank middle rest distinct (inr there) none = one-none second follow middle distinct there.0

-- nor does the second go on
stops_after : (follow behind : List Head) (blank : Bool) (rest : Terminals) → NoneNext (joined blank behind follow) rest → NoneNext behind rest
stops_after follow behind true rest none = (none-append behind follow rest none).0
stops_after follow behind false rest none = none

pub lifted_on : {A B : Type 0} (lifts : LimitName → Bool) (next wider : A → Reader B) → ((value : A) (terminals : Terminals) → length (stop_of (wider value terminals)) ≤ length terminals)
    → (outcome other : Reading A) → ((value : A) (middle : Terminals) → outcome ≡ Ok (value, middle) → Lifted lifts (next value middle) (wider value middle)) → Lifted lifts outcome other → Lifted lifts (then_read outcome next) (then_read other wider)
lifted_on lifts next wider within (Ok (value, middle)) other lifted same = subst (λ o. Lifted lifts (next value middle) (then_read o wider)) (sym same) (lifted value middle refl)
lifted_on lifts next wider within (Err (Syntax, rest)) other lifted same = ap (λ o. then_read o wider) same
lifted_on lifts next wider within (Err (Memory, rest)) other lifted same = ap (λ o. then_read o wider) same
lifted_on lifts next wider within (Err (Limit which, rest)) other lifted (inr kept) = inr (kept.0, ap (λ o. then_read o wider) kept.1)
lifted_on {A = A} {B = B} lifts next wider within (Err (Limit which, rest)) other lifted (inl gone) = inl (gone.0, beyond gone.1)
  where
    further : (outcome : Reading A) → length (stop_of outcome) < length rest → length (stop_of (then_read outcome wider)) < length rest
    further (Ok (value, middle)) less = let more = within value middle in omega arith
    further (Err fault) less = less

    beyond : Beyond lifts which rest other → Beyond lifts which rest (then_read other wider)
    beyond (inl less) = inl (further other less)
    beyond (inr named) = inr (named.0, named.1, ap (λ o. then_read o wider) named.2)

pub within_on : {A B : Type 0} (wider : A → Reader B) → ((value : A) (terminals : Terminals) → length (stop_of (wider value terminals)) ≤ length terminals) → (terminals : Terminals) (other : Reading A) → length (stop_of other) ≤ length terminals → length (stop_of (then_read other wider)) ≤ length terminals
within_on wider within terminals (Ok (value, middle)) less = let more = within value middle in omega arith
within_on wider within terminals (Err fault) less = less

-- one rule and then another, which may hang on what the first read
pub and_then : {A B : Type 0} {lifts : LimitName → Bool} {reader other : Reader A} {language : Language A} {first : List Head} {empty : Bool} {follow : List Head} {next wider : A → Reader B} {behind : A → Language B} {second : List Head} {blank : Bool} {after : List Head}
    → Right lifts reader other language first empty follow → ((value : A) → Right lifts (next value) (wider value) (behind value) second blank after) → apart second follow ≡ true
    → Right lifts (reads_both reader next) (reads_both other wider) (language >>= behind) (joined empty first second) (empty && blank) (joined blank after follow)
and_then {lifts = lifts} {reader = reader} {other = other} {language = language} {first = first} {empty = empty} {follow = follow} {next = next} {wider = wider} {behind = behind} {second = second} {blank = blank} {after = after} one two distinct =
    record {
      goes = λ terminals. goes_on reader next language behind (λ value terminals. (two value).goes terminals) (λ value. (two value).some) terminals (reader terminals) (one.goes terminals);
      reads = λ value terminals rest word none.
          ap (λ o. then_read o next) (one.reads word.0 terminals word.1 word.2 (stops_at follow second after blank word.1 rest distinct ((two word.0).begins value word.1 rest word.3) none))
          ∙ (two word.0).reads value word.1 rest word.3 (stops_after follow after blank rest none);
      begins = λ value terminals rest word. begins_on first second empty blank terminals word.1 rest (one.begins word.0 terminals word.1 word.2) ((two word.0).begins value word.1 rest word.3);
      some = ((two one.some.0).some.0, one.some.1 ++ (two one.some.0).some.1, spells-both language behind one.some.0 (two one.some.0).some.0 one.some.1 (two one.some.0).some.1 one.some.2 (two one.some.0).some.2);
      lifted = λ terminals real. lifted_on lifts next wider (λ value terminals. (two value).within terminals) (reader terminals) (other terminals) (λ value middle is. (two value).lifted middle (real_after lifts (one.goes terminals) real value middle is)) (one.lifted terminals real);
      within = λ terminals. within_on wider (λ value terminals. (two value).within terminals) terminals (other terminals) (one.within terminals);
    }
