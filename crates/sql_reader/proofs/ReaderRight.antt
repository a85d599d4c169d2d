-- A reader is right for a language.
use Rattle.std.proofs.Common.{◌≡◌, ◌≤◌, ◌<◌, Bool, true, false, List, [], ◌∷◌, ◌++◌, length, Ok, Err, ap, ◌∙◌, subst}
use Rattle.std.specs.Prelude.{◌⊎◌, Option, None, Some}
use Rattle.own_model.specs.declared.limit.LimitName.{LimitName}
use Rattle.own_model.specs.declared.limit.LimitName.TheVariants as limit
use Rattle.sql_reader.specs.declared.fault.RuleFault.TheVariants.{Syntax, Limit, Memory}
use Rattle.grammar_model.specs.Terminal.{Terminals}
use Rattle.sql_reader.specs.reading.Reader.{Reading, Reader, then_read}
use Rattle.grammar_model.specs.Terminal.{Terminal}
use Rattle.sql_reader.proofs.Heads.{is_slot}
use Rattle.grammar_model.specs.Language.{Language}
use Rattle.sql_reader.proofs.Heads.{Head, NoneNext, OneNext}

-- the first of the terminals
abbrev pub next_of : Terminals → Option Terminal
next_of [] = None
next_of (terminal ∷ terminals) = Some terminal

-- the terminals at which reading stops
abbrev pub stop_of : {A : Type 0} → Reading A → Terminals
stop_of (Ok (value, rest)) = rest
stop_of (Err (fault, rest)) = rest

-- the same outcome at other terminals
abbrev pub moved_to : {A : Type 0} → Reading A → Terminals → Reading A
moved_to (Ok (value, rest)) other = Ok (value, other)
moved_to (Err (fault, rest)) other = Err (fault, other)

-- one rule and then another
abbrev pub reads_both : {A B : Type 0} → Reader A → (A → Reader B) → Reader B
reads_both reader next terminals = then_read (reader terminals) next

-- these terminals are the value, whatever comes after
abbrev pub Spells : {A : Type 0} → Language A → A → Terminals → Type 0
Spells language value terminals = (ending : Terminals) → language value (terminals ++ ending) ending

-- What the terminals up to the stop mean: with Ok, they are the value; with a fault, some value begins with them.
abbrev pub Means : {A : Type 0} → Language A → Terminals → Reading A → Type 0
Means language front (Ok (value, rest)) = Spells language value front
Means {A = A} language front (Err fault) = (value : A) × (more : Terminals) × Spells language value (front ++ more)

-- the outcome hangs on the terminals up to the stop and on the one there alone
pub record Goes {A : Type 0} (reader : Reader A) (language : Language A) (terminals : Terminals) (outcome : Reading A) : Type 0 where
  pub front : Terminals
  pub is : terminals ≡ front ++ stop_of outcome
  pub local : (other : Terminals) → next_of (stop_of outcome) ≡ next_of other → reader (front ++ other) ≡ moved_to outcome other
  pub means : Means language front outcome

-- past the stop, or at it for a name too long in the place of an item too many
abbrev pub Beyond : {A : Type 0} → (LimitName → Bool) → LimitName → Terminals → Reading A → Type 0
Beyond lifts name stop outcome = (length (stop_of outcome) < length stop) ⊎ ((name ≡ limit.Items) × (lifts limit.Name ≡ false) × (outcome ≡ Err (Limit limit.Name, stop)))

-- what comes of an outcome where some limits are lifted: the same, but for a fault of such a limit
abbrev pub Lifted : {A : Type 0} → (LimitName → Bool) → Reading A → Reading A → Type 0
Lifted lifts (Ok (value, rest)) other = other ≡ Ok (value, rest)
Lifted lifts (Err (Syntax, rest)) other = other ≡ Err (Syntax, rest)
Lifted lifts (Err (Memory, rest)) other = other ≡ Err (Memory, rest)
Lifted lifts (Err (Limit name, rest)) other = (lifts name ≡ true × Beyond lifts name rest other) ⊎ (lifts name ≡ false × other ≡ Err (Limit name, rest))

-- none of them is a slot
abbrev pub NoSlot : Terminals → Type 0
NoSlot [] = Unit {0}
NoSlot (terminal ∷ terminals) = is_slot terminal ≡ false × NoSlot terminals

-- where the limit of items is lifted, none is a slot
abbrev pub Real : (LimitName → Bool) → Terminals → Type 0
Real lifts terminals = lifts limit.Items ≡ true → NoSlot terminals

-- how a text of the language begins: with one of these terminals, or, where it may be empty, with what follows it
abbrev pub Begins : List Head → Bool → Terminals → Terminals → Type 0
Begins first empty terminals rest = (empty ≡ true × terminals ≡ rest) ⊎ (OneNext first terminals × length rest < length terminals)

-- The reader is right for the language, where the other reader has some limits less: what begins a text of the
-- language, whether it may be empty, and which terminals after it might go on with it.
pub record Right {A : Type 0} (lifts : LimitName → Bool) (reader other : Reader A) (language : Language A) (first : List Head) (empty : Bool) (follow : List Head) : Type 0 where
  pub goes : (terminals : Terminals) → Goes reader language terminals (reader terminals)
  pub reads : (value : A) (terminals rest : Terminals) → language value terminals rest → NoneNext follow rest → reader terminals ≡ Ok (value, rest)
  pub begins : (value : A) (terminals rest : Terminals) → language value terminals rest → Begins first empty terminals rest
  pub some : (value : A) × (terminals : Terminals) × Spells language value terminals
  pub lifted : (terminals : Terminals) → Real lifts terminals → Lifted lifts (reader terminals) (other terminals)
  pub within : (terminals : Terminals) → length (stop_of (other terminals)) ≤ length terminals

no_slot-behind : (front rest : Terminals) → NoSlot (front ++ rest) → NoSlot rest
no_slot-behind [] rest none = none
no_slot-behind (terminal ∷ front) rest none = no_slot-behind front rest none.1

-- nor is one of them after what was read
pub real_after : {A : Type 0} (lifts : LimitName → Bool) {reader : Reader A} {language : Language A} {terminals : Terminals} {outcome : Reading A} → Goes reader language terminals outcome → Real lifts terminals → (value : A) (rest : Terminals) → outcome ≡ Ok (value, rest) → Real lifts rest
real_after lifts {outcome = outcome} went real value rest is = λ lifted. no_slot-behind went.front rest (subst NoSlot (went.is ∙ ap (λ o. went.front ++ stop_of o) is) (real lifted))
