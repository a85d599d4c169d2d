-- The rules of a select's items.
use Rattle.std.proofs.Common.{◌≡◌, ◌+◌, ℕ, Bool, true, false, List, [], ◌∷◌, refl, subst, codes}
use Rattle.std.specs.Prelude.{map}
use Rattle.std.specs.Char.{to_ascii_lowercase}
use Rattle.own_model.specs.declared.select.Item.{Item}
use Rattle.sql_lex.specs.declared.token.TokenKind.TheVariants.{Name}
use Rattle.sql_lex.specs.Keywords.{keywords}
use Rattle.sql_lex.specs.Tokens.{IsSpelled, marks}
use Rattle.grammar_model.specs.Grammar as grammar
use Rattle.grammar_model.specs.Language.{Language, ◌>>◌, ◌or◌, one, mark, whether}
use Rattle.grammar_model.specs.Limits.{Limits, fits}
use Rattle.grammar_model.specs.Terminal.{Terminals, Written}
use Rattle.grammar_model.specs.Values.{SlotIs}
use Rattle.text_model.specs.Canonical.{what_words, item_words}
use Rattle.text_model.specs.Words.{Words, words_of, listed}
use Rattle.sql_print.proofs.Spelling.{Single, AreSound, IsSound, writes-piece}
use Rattle.sql_print.proofs.Rewriting.{Rewrites, whole, either, ending, then_next, then_made, then_rule, perhaps}
use Rattle.sql_print.proofs.WrittenLists.{as_often_from}
use Rattle.sql_print.proofs.WrittenTokens.{key, sign, name}
use Rattle.sql_print.proofs.WrittenValues.{col}

-- no slot stands in a text
no-slot : (value : Item) (terminals rest : Terminals) → AreSound terminals → one SlotIs value terminals rest → ⊥
no-slot value terminals rest sound (terminal, same, is) = subst IsSound is.is (subst AreSound same sound).0

-- where the limit lets no item stand, a text has none
item_whether : (allowed : Bool) {item : Language Item} {words : Item → Words} → Rewrites item item words → Rewrites (whether allowed item (one SlotIs)) (whether allowed item (one SlotIs)) words
item_whether true written = written
item_whether false written =
    record {
      writes = λ value terminals rest sound text. absurd (no-slot value terminals rest sound text);
      sound = λ value terminals rest sound text. absurd (no-slot value terminals rest sound text);
    }

module _ (limits : Limits) where
  -- an item at its place
  item_after : {item : Language Item} {words : Item → Words} → Rewrites item item words → (count : ℕ) → Rewrites (grammar.item_after item limits count) (grammar.item_after item limits count) words
  item_after written count = item_whether (fits limits.items (count + 1)) written

  -- item {, item}
  pub items : {item : Language Item} {words : Item → Words} → Rewrites item item words → Rewrites (grammar.items item limits) (grammar.items item limits) (listed words)
  unfolding grammar.items marks
  items {item = item} {words = words} written =
      whole (then_next (item_after written 0) (λ first.
      then_made (as_often_from (λ count. mark (codes ",") >> grammar.item_after item limits count) (λ count. mark (codes ",") >> grammar.item_after item limits count) (λ found. codes "," ∷ words found)
      (λ count. then_rule (sign (codes ",") refl) (item_after written count)) 1)
      (λ others. refl)))

  -- [AS name]
  alias : Rewrites (grammar.alias limits) (grammar.alias limits) (words_of (λ alias. codes "AS" ∷ alias ∷ []))
  unfolding grammar.alias keywords
  alias = perhaps (then_rule (key (codes "AS") (refl, refl)) (name limits))

  -- a function's name, in capitals
  called : (lower upper : List ℕ) → IsSpelled Name upper → lower ≡ map to_ascii_lowercase upper → Rewrites (grammar.function limits lower) (grammar.function limits lower) (λ _. upper ∷ [])
  unfolding grammar.name
  called lower upper spelled same =
      record {
        writes = λ value terminals rest sound (terminal, stands, is).
            writes-piece (Single Name upper) (grammar.function limits lower value) spelled
            (λ out behind (start, there). (Written Name upper start, there, record { bytes = upper; start = start; is = refl; lower = same; spelled = is.spelled; short = is.short }));
        sound = λ value terminals rest sound (terminal, stands, is). (subst AreSound stands sound).1;
      }

  -- col
  column : Rewrites (grammar.column limits) (grammar.column limits) what_words
  unfolding what_words
  column = whole (then_made (col limits) (λ _. refl))

  -- COUNT ( * )
  count : Rewrites (grammar.count limits) (grammar.count limits) what_words
  unfolding what_words marks keywords
  count =
      whole (then_next (called (codes "count") (codes "COUNT") (refl, refl) refl) (λ _.
      then_next (sign (codes "(") refl) (λ _. then_next (sign (codes "*") refl) (λ _. then_made (sign (codes ")") refl) (λ _. refl)))))

  -- SUM ( col )
  sum : Rewrites (grammar.sum limits) (grammar.sum limits) what_words
  unfolding what_words marks keywords
  sum =
      whole (then_next (called (codes "sum") (codes "SUM") (refl, refl) refl) (λ _.
      then_next (sign (codes "(") refl) (λ _. then_next (col limits) (λ found. then_made (sign (codes ")") refl) (λ _. refl)))))

  -- col [AS name]
  pub citem : Rewrites (grammar.citem limits) (grammar.citem limits) item_words
  unfolding grammar.citem item_words
  citem = whole (then_next column (λ found. then_made alias (λ _. refl)))

  -- col | COUNT ( * ) | SUM ( col )
  any_what : Rewrites (grammar.column limits or (grammar.count limits or grammar.sum limits)) (grammar.column limits or (grammar.count limits or grammar.sum limits)) what_words
  any_what = whole (either (ending column (λ _. refl)) (either (ending count (λ _. refl)) (ending sum (λ _. refl))))

  -- (col | COUNT ( * ) | SUM ( col )) [AS name]
  pub gitem : Rewrites (grammar.gitem limits) (grammar.gitem limits) item_words
  unfolding grammar.gitem item_words
  gitem = whole (then_next any_what (λ found. then_made alias (λ _. refl)))
