-- An item after that many others, and the slot that represents one too many.
use Rattle.std.proofs.Common.{◌≡◌, ◌≤◌, ◌+◌, ℕ, zero, suc, Bool, true, false, List, [], ◌∷◌, length, map, Result, Ok, Err, refl, sym, ap, inl, inr, arith, codes}
use Rattle.std.specs.Prelude.{if◌then◌else◌, Option, None}
use Rattle.std.specs.Char.{to_ascii_lowercase}
use Rattle.std.proofs.lemmas.Bool.{false≢true}
use Rattle.own_base.specs.Name.{is_spelled}
use Rattle.own_model.specs.declared.limit.LimitName.{LimitName}
use Rattle.own_model.specs.declared.limit.LimitName.TheVariants as limit
use Rattle.own_model.specs.declared.select.Item.{Item}
use Rattle.sql_lex.specs.declared.token.TokenKind.TheVariants.{Name, Keyword, Number, Quoted, Mark}
use Rattle.sql_reader.specs.declared.fault.RuleFault.{RuleFault}
use Rattle.sql_reader.specs.declared.fault.RuleFault.TheVariants.{Syntax, Limit}
use Rattle.grammar_model.specs.Grammar as grammar
use Rattle.grammar_model.specs.Language.{one, whether, many_from, ◌>>◌}
use Rattle.grammar_model.specs.Language as language
use Rattle.grammar_model.specs.Limits.{Limits, fits, no_limits}
use Rattle.grammar_model.specs.Terminal.{Terminals}
use Rattle.sql_reader.specs.reading.Reader.{Reading, Reader, accept, judged, next_is, then_read, pure}
use Rattle.sql_reader.specs.reading.Rules as rules
use Rattle.sql_reader.specs.reading.Select as select_rules
use Rattle.grammar_model.specs.Terminal.{Terminal, Written, Slot, is_mark}
use Rattle.sql_reader.specs.reading.Judges.{name_of}
use Rattle.grammar_model.specs.Values.{SlotIs}
use Rattle.sql_reader.proofs.Exactly.{slot_exactly}
use Rattle.sql_reader.proofs.OtherWords.{with_more, same_readers}
use Rattle.sql_reader.proofs.Choices.{LiftedJudge, one_terminal, mark_right, mark_tests, pure_right}
use Rattle.sql_reader.proofs.Heads.{Head, AWord, AMark, AName, ASlot, among}
use Rattle.sql_reader.proofs.Joins.{and_then}
use Rattle.sql_reader.proofs.Repeats.{up_from, as_often_from}
use Rattle.sql_reader.proofs.ReaderRight.{stop_of, Lifted, Beyond, Real, Right, reads_both}
use Rattle.sql_reader.proofs.Rules.Items.{what_behind_right, alias_right, item_right}
use Rattle.sql_reader.specs.reading.Judges.{barred, slot_of}
use Rattle.grammar_model.specs.Parts.{slot_item}
use Rattle.sql_reader.proofs.Lifts.{lift, Fair}

-- what may follow an item
abbrev pub after_item : List Head
after_item = AWord (codes "AS") ∷ AMark (codes ".") ∷ AMark (codes "(") ∷ []

barred-begins : (answer : Result (List ℕ) RuleFault) (value : Item) (terminal : Terminal) → barred answer ≡ Ok value → among (ASlot ∷ []) terminal ≡ true
barred-begins (Ok name) value terminal is = absurd (wrong is)
  where
    wrong : ◌≡◌ {A = Result Item RuleFault} (Err (Limit limit.Items)) (Ok value) → ⊥
    wrong same = cc
barred-begins (Err fault) value terminal is = absurd (wrong is)
  where
    wrong : ◌≡◌ {A = Result Item RuleFault} (Err Syntax) (Ok value) → ⊥
    wrong same = cc

slots-begin : (terminal : Terminal) (value : Item) → slot_of terminal ≡ Ok value → among (ASlot ∷ []) terminal ≡ true
slots-begin Slot value is = refl
slots-begin (Written kind text start) value is = barred-begins (name_of no_limits (Written kind text start)) value (Written kind text start) is

slots-kept : (lifts : LimitName → Bool) → lifts limit.Items ≡ false → (terminal : Terminal) → LiftedJudge lifts (slot_of terminal) (slot_of terminal)
slots-kept lifts kept Slot = refl
slots-kept lifts kept (Written kind text start) = by (name_of no_limits (Written kind text start))
  where
    by : (answer : Result (List ℕ) RuleFault) → LiftedJudge lifts (barred answer) (barred answer)
    by (Ok name) = inr (kept, refl)
    by (Err fault) = refl

-- where the limit is kept
slot_kept : (lifts : LimitName → Bool) → lifts limit.Items ≡ false → Right lifts (accept slot_of) (accept slot_of) (one SlotIs) (ASlot ∷ []) false []
slot_kept lifts kept = one_terminal SlotIs slot_of slot_of slot_exactly (ASlot ∷ []) slot_item Slot refl slots-begin (slots-kept lifts kept)

module _ (lifts : LimitName → Bool) (limits : Limits) (fair : Fair limits) where
  -- what comes after the first name of an item
  item_rest : List ℕ → Reader Item
  item_rest first = reads_both (select_rules.what_after (lift lifts limits) first) (λ found. reads_both (select_rules.alias (lift lifts limits)) (λ called. pure (record { what = found; alias = called })))

  rest-within : (first : List ℕ) (terminals : Terminals) → length (stop_of (item_rest first terminals)) ≤ length terminals
  unfolding item_rest
  rest-within first = (and_then (what_behind_right lifts limits fair first) (λ found. and_then (alias_right lifts limits fair) (λ called. pure_right (record { what = found; alias = called })) refl) refl).within

  -- a name that is barred above the limit begins an item where the limit is lifted
  named : lifts limit.Items ≡ true → (name : List ℕ) (terminal : Terminal) (rest : Terminals) (spelled : Bool)
      → Lifted lifts (judged (barred (if spelled then Ok name else Err Syntax)) terminal rest) (then_read (judged (if spelled then (if fits (lift lifts limits).name (length name) then Ok name else Err (Limit limit.Name)) else Err Syntax) terminal rest) item_rest)
  named free name terminal rest false = refl
  named free name terminal rest true = inl (free, by (fits (lift lifts limits).name (length name)) refl)
    where
      kept : (freed : Bool) → fits (if freed then None else limits.name) (length name) ≡ false → freed ≡ false
      kept true is = absurd (false≢true (sym is))
      kept false is = refl

      by : (answer : Bool) → fits (lift lifts limits).name (length name) ≡ answer → Beyond lifts limit.Items (terminal ∷ rest) (then_read (judged (if answer then Ok name else Err (Limit limit.Name)) terminal rest) item_rest)
      by true is = let less = rest-within name rest in inl (omega arith)
      by false is = inr (refl, kept (lifts limit.Name) is, refl)

  slots-lifted : lifts limit.Items ≡ true → (terminals : Terminals) → Real lifts terminals → Lifted lifts (accept slot_of terminals) (select_rules.item (lift lifts limits) terminals)
  unfolding select_rules.item rules.name item_rest
  slots-lifted free [] real = refl
  slots-lifted free (Slot ∷ rest) real = absurd (false≢true (sym (real free).0))
  slots-lifted free (Written Name text start ∷ rest) real = named free (map to_ascii_lowercase text) (Written Name text start) rest (is_spelled (map to_ascii_lowercase text))
  slots-lifted free (Written Keyword text start ∷ rest) real = refl
  slots-lifted free (Written Number text start ∷ rest) real = refl
  slots-lifted free (Written Quoted text start ∷ rest) real = refl
  slots-lifted free (Written Mark text start ∷ rest) real = refl

  -- where the limit is lifted
  slot_freed : lifts limit.Items ≡ true → Right lifts (accept slot_of) (select_rules.item (lift lifts limits)) (one SlotIs) (AName ∷ ASlot ∷ []) false after_item
  slot_freed free =
      let kept = with_more (AName ∷ ASlot ∷ []) false after_item (slot_kept (λ _. false) refl) refl (λ is. is) refl in
      record {
        goes = kept.goes;
        reads = kept.reads;
        begins = kept.begins;
        some = kept.some;
        lifted = slots-lifted free;
        within = (item_right lifts limits fair).within;
      }

  still_fits : (free : Bool) (most : Option ℕ) (count : ℕ) → fits most count ≡ true → fits (if free then None else most) count ≡ true
  still_fits true most count is = refl
  still_fits false most count is = is

  -- an item after that many others
  pub item_behind_right : (count : ℕ) →
      Right lifts (select_rules.item_after limits count) (select_rules.item_after (lift lifts limits) count)
      (grammar.item_after (grammar.gitem limits) limits count)
      (AName ∷ ASlot ∷ []) false after_item
  unfolding select_rules.item_after
  item_behind_right count = by_free (lifts limit.Items) refl
    where
      an_item : Right lifts (select_rules.item limits) (select_rules.item (lift lifts limits)) (grammar.gitem limits) (AName ∷ ASlot ∷ []) false after_item
      an_item = with_more (AName ∷ ASlot ∷ []) false after_item (item_right lifts limits fair) refl (λ is. is) refl

      by_free : (free : Bool) → lifts limit.Items ≡ free →
          Right lifts (if fits limits.items (count + 1) then select_rules.item limits else accept slot_of)
          (if fits (if free then None else limits.items) (count + 1) then select_rules.item (lift lifts limits) else accept slot_of)
          (whether (fits limits.items (count + 1)) (grammar.gitem limits) (one SlotIs))
          (AName ∷ ASlot ∷ []) false after_item
      by_free true is = by (fits limits.items (count + 1))
        where
          by : (answer : Bool) →
              Right lifts (if answer then select_rules.item limits else accept slot_of) (select_rules.item (lift lifts limits))
              (whether answer (grammar.gitem limits) (one SlotIs)) (AName ∷ ASlot ∷ []) false after_item
          by true = an_item
          by false = slot_freed is
      by_free false is = by (fits limits.items (count + 1))
        where
          by : (answer : Bool) →
              Right lifts (if answer then select_rules.item limits else accept slot_of) (if answer then select_rules.item (lift lifts limits) else accept slot_of)
              (whether answer (grammar.gitem limits) (one SlotIs)) (AName ∷ ASlot ∷ []) false after_item
          by true = an_item
          by false = with_more (AName ∷ ASlot ∷ []) false after_item (slot_kept lifts is) refl (λ is. is) refl

-- the loop over the items is the one over a list whose rule hangs on the place
items-from : (limits : Limits) (times count : ℕ) (terminals : Terminals) → up_from (is_mark (codes ",")) (λ count. reads_both (rules.mark (codes ",")) (λ _. select_rules.item_after limits count)) times count terminals ≡ select_rules.items_after times limits count terminals
unfolding select_rules.items_after
items-from limits zero count terminals = refl
items-from limits (suc times) count terminals = by (λ middle. items-from limits times (count + 1) middle) (next_is (is_mark (codes ",")) terminals)
  where
    each : ℕ → Reader Item
    each count = reads_both (rules.mark (codes ",")) (λ _. select_rules.item_after limits count)

    onward : ((middle : Terminals) → up_from (is_mark (codes ",")) each times (count + 1) middle ≡ select_rules.items_after times limits (count + 1) middle) → (outcome : Reading Item)
        → then_read outcome (λ value. reads_both (up_from (is_mark (codes ",")) each times (count + 1)) (λ more. pure (value ∷ more))) ≡ then_read outcome (λ value. reads_both (select_rules.items_after times limits (count + 1)) (λ more. pure (value ∷ more)))
    onward later (Ok (value, middle)) = ap (λ o. then_read o (λ more. pure (value ∷ more))) (later middle)
    onward later (Err fault) = refl

    comma : ((middle : Terminals) → up_from (is_mark (codes ",")) each times (count + 1) middle ≡ select_rules.items_after times limits (count + 1) middle) → (outcome : Reading (Unit {0}))
        → then_read (then_read outcome (λ _. select_rules.item_after limits count)) (λ value. reads_both (up_from (is_mark (codes ",")) each times (count + 1)) (λ more. pure (value ∷ more)))
        ≡ then_read outcome (λ _. reads_both (select_rules.item_after limits count) (λ value. reads_both (select_rules.items_after times limits (count + 1)) (λ more. pure (value ∷ more))))
    comma later (Ok (found, middle)) = onward later (select_rules.item_after limits count middle)
    comma later (Err fault) = refl

    by : ((middle : Terminals) → up_from (is_mark (codes ",")) each times (count + 1) middle ≡ select_rules.items_after times limits (count + 1) middle) → (answer : Bool)
        → (if answer then then_read (each count terminals) (λ value. reads_both (up_from (is_mark (codes ",")) each times (count + 1)) (λ more. pure (value ∷ more))) else Ok ([], terminals))
        ≡ (if answer then then_read (rules.mark (codes ",") terminals) (λ _. reads_both (select_rules.item_after limits count) (λ value. reads_both (select_rules.items_after times limits (count + 1)) (λ more. pure (value ∷ more)))) else Ok ([], terminals))
    by later true = comma later (rules.mark (codes ",") terminals)
    by later false = refl

-- {, gitem}
pub all_items_right : (lifts : LimitName → Bool) (limits : Limits) (fair : Fair limits) →
    Right lifts (select_rules.all_items_after limits 1) (select_rules.all_items_after (lift lifts limits) 1)
    (many_from (λ count. language.mark (codes ",") >> grammar.item_after (grammar.gitem limits) limits count) 1)
    (AMark (codes ",") ∷ []) true (AMark (codes ",") ∷ AWord (codes "AS") ∷ AMark (codes ".") ∷ AMark (codes "(") ∷ [])
all_items_right lifts limits fair =
    same_readers (select_rules.all_items_after limits 1) (select_rules.all_items_after (lift lifts limits) 1) (λ terminals. items-from limits (length terminals) 1 terminals) (λ terminals. items-from (lift lifts limits) (length terminals) 1 terminals)
    (as_often_from (is_mark (codes ",")) (λ count. reads_both (rules.mark (codes ",")) (λ _. select_rules.item_after limits count)) (λ count. reads_both (rules.mark (codes ",")) (λ _. select_rules.item_after (lift lifts limits) count))
    (λ count. language.mark (codes ",") >> grammar.item_after (grammar.gitem limits) limits count) (AMark (codes ",") ∷ []) after_item (mark_tests (codes ",")) (λ count. and_then (mark_right (codes ",")) (λ _. item_behind_right lifts limits fair count) refl) refl 1)
