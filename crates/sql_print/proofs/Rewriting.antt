-- Rules of the grammar, and the words in which a text is written that holds what a text of the rule holds.
use Rattle.std.proofs.Common.{◌≡◌, [], ◌++◌, refl, sym, ap, ◌∙◌, subst, inl, inr}
use Rattle.std.specs.Prelude.{◌⊎◌}
use Rattle.grammar_model.specs.Language.{Language, ◌>>=◌, ◌>>◌, ◌or◌, pure, optional}
use Rattle.grammar_model.specs.Terminal.{Terminals}
use Rattle.text_model.specs.Words.{Words, words_of}
use Rattle.sql_print.proofs.Spelling.{Writes, AreSound, writes-then, writes-so, writes-nothing}

-- Where the first rule gives a value for terminals of a text, the second gives it for what these words spell.
pub record Rewrites {A : Type 0} (from to : Language A) (words : A → Words) : Type 0 where
  pub writes : (value : A) (terminals rest : Terminals) → AreSound terminals → from value terminals rest → Writes (words value) (to value)
  pub sound : (value : A) (terminals rest : Terminals) → AreSound terminals → from value terminals rest → AreSound rest

-- the words of a value are these words more than what was written before
pub record Goes {A : Type 0} (to : Language A) (before : Words → Words) (words : A → Words) (value : A) : Type 0 where
  pub written : Words
  pub same : words value ≡ before written
  pub writes : Writes written (to value)

-- The same where something was written before, and the words are those of all.
pub record Continues {A : Type 0} (from to : Language A) (before : Words → Words) (words : A → Words) : Type 0 where
  pub goes : (value : A) (terminals rest : Terminals) → AreSound terminals → from value terminals rest → Goes to before words value
  pub sound : (value : A) (terminals rest : Terminals) → AreSound terminals → from value terminals rest → AreSound rest

-- a rule before which nothing was written
pub whole : {A : Type 0} {from to : Language A} {words : A → Words} → Continues from to (λ more. more) words → Rewrites from to words
whole {to = to} continues =
    record {
      writes = λ value terminals rest sound text.
          let goes = continues.goes value terminals rest sound text in
          subst (λ l. Writes l (to value)) (sym goes.same) goes.writes;
      sound = continues.sound;
    }

-- a rule after which nothing comes
pub ending : {A : Type 0} {from to : Language A} {one : A → Words} {before : Words → Words} {words : A → Words} → Rewrites from to one → ((found : A) → words found ≡ before (one found)) → Continues from to before words
ending {one = one} rewrites same =
    record {
      goes = λ value terminals rest sound text. record { written = one value; same = same value; writes = rewrites.writes value terminals rest sound text };
      sound = rewrites.sound;
    }

-- one rule, and then another
pub then_next : {A B : Type 0} {from to : Language A} {one : A → Words} {next behind : A → Language B} {before : Words → Words} {words : B → Words}
    → Rewrites from to one → ((found : A) → Continues (next found) (behind found) (λ more. before (one found ++ more)) words) → Continues (from >>= next) (to >>= behind) before words
then_next {to = to} {one = one} {behind = behind} first later =
    record {
      goes = λ value terminals rest sound (found, middle, text, more).
          let goes = (later found).goes value middle rest (first.sound found terminals middle sound text) more in
          record {
            written = one found ++ goes.written;
            same = goes.same;
            writes = writes-then to behind found value (one found) goes.written (first.writes found terminals middle sound text) goes.writes;
          };
      sound = λ value terminals rest sound (found, middle, text, more). (later found).sound value middle rest (first.sound found terminals middle sound text) more;
    }

-- the last rule, of which a value is made
pub then_made : {A B : Type 0} {from to : Language A} {one : A → Words} {made : A → B} {before : Words → Words} {words : B → Words}
    → Rewrites from to one → ((found : A) → words (made found) ≡ before (one found)) → Continues (from >>= λ found. pure (made found)) (to >>= λ found. pure (made found)) before words
then_made {to = to} {one = one} {made = made} {words = words} first same =
    record {
      goes = λ value terminals rest sound (found, middle, text, (is, ends)).
          record {
            written = one found;
            same = ap words is ∙ same found;
            writes = writes-so (one found) (to found) ((to >>= λ other. pure (made other)) value) (λ out behind holds. (found, behind, holds, (is, refl))) (first.writes found terminals middle sound text);
          };
      sound = λ value terminals rest sound (found, middle, text, (is, ends)). subst AreSound ends (first.sound found terminals middle sound text);
    }

-- nothing more
pub then_pure : {A : Type 0} {made : A} {before : Words → Words} {words : A → Words} → words made ≡ before [] → Continues (pure made) (pure made) before words
then_pure {made = made} {words = words} same =
    record {
      goes = λ value terminals rest sound (is, ends). record { written = []; same = ap words is ∙ same; writes = writes-nothing (pure made value) (λ out. (is, refl)) };
      sound = λ value terminals rest sound (is, ends). subst AreSound ends sound;
    }

-- two alternatives, each written in the same rule
pub both_into : {A : Type 0} {from other to : Language A} {before : Words → Words} {words : A → Words} → Continues from to before words → Continues other to before words → Continues (from or other) to before words
both_into {from = from} {other = other} {to = to} {before = before} {words = words} one two =
    record { goes = λ value terminals rest sound text. by value terminals rest sound text; sound = λ value terminals rest sound text. after value terminals rest sound text }
  where
    by : (value : _) (terminals rest : Terminals) → AreSound terminals → from value terminals rest ⊎ other value terminals rest → Goes to before words value
    by value terminals rest sound (inl text) = one.goes value terminals rest sound text
    by value terminals rest sound (inr text) = two.goes value terminals rest sound text

    after : (value : _) (terminals rest : Terminals) → AreSound terminals → from value terminals rest ⊎ other value terminals rest → AreSound rest
    after value terminals rest sound (inl text) = one.sound value terminals rest sound text
    after value terminals rest sound (inr text) = two.sound value terminals rest sound text

-- a rule that is written in another holds in any that follows of it
pub into : {A : Type 0} {from to other : Language A} {before : Words → Words} {words : A → Words} → ((value : A) (out rest : Terminals) → to value out rest → other value out rest) → Continues from to before words → Continues from other before words
into {to = to} {other = other} so continues =
    record {
      goes = λ value terminals rest sound text.
          let goes = continues.goes value terminals rest sound text in
          record { written = goes.written; same = goes.same; writes = writes-so goes.written (to value) (other value) (so value) goes.writes };
      sound = continues.sound;
    }

-- two alternatives, each written as itself
pub either : {A : Type 0} {from other to behind : Language A} {before : Words → Words} {words : A → Words} → Continues from to before words → Continues other behind before words → Continues (from or other) (to or behind) before words
either one two = both_into (into (λ value out rest text. inl text) one) (into (λ value out rest text. inr text) two)

-- [x]
pub perhaps : {A : Type 0} {from to : Language A} {one : A → Words} → Rewrites from to one → Rewrites (optional from) (optional to) (words_of one)
perhaps first = whole (either (then_made first (λ found. refl)) (then_pure refl))

-- one rule and then another, where the words of the first are always the same
pub then_rule : {A B : Type 0} {from to : Language A} {ahead : Words} {next behind : Language B} {two : B → Words} → Rewrites from to (λ _. ahead) → Rewrites next behind two → Rewrites (from >> next) (to >> behind) (λ value. ahead ++ two value)
then_rule first second = whole (then_next first (λ _. ending second (λ found. refl)))

-- a rule of which nothing is written
pub then_skip : {A B : Type 0} {from other : Language A} {one : A → Words} {next : A → Language B} {to : Language B} {before : Words → Words} {words : B → Words} → Rewrites from other one → ((found : A) → Continues (next found) to before words) → Continues (from >>= next) to before words
then_skip first later =
    record {
      goes = λ value terminals rest sound (found, middle, text, more). (later found).goes value middle rest (first.sound found terminals middle sound text) more;
      sound = λ value terminals rest sound (found, middle, text, more). (later found).sound value middle rest (first.sound found terminals middle sound text) more;
    }

-- a value that is written so whatever the text was
pub always : {A : Type 0} {made : A} {to : Language A} {before : Words → Words} {words : A → Words} (written : Words) → words made ≡ before written → Writes written (to made) → Continues (pure made) to before words
always {to = to} {words = words} written same writes =
    record {
      goes = λ value terminals rest sound (is, ends). record { written = written; same = ap words is ∙ same; writes = subst (λ v. Writes written (to v)) (sym is) writes };
      sound = λ value terminals rest sound (is, ends). subst AreSound ends sound;
    }

-- the same in other words
pub reworded : {A : Type 0} {from to : Language A} {one words : A → Words} → Rewrites from to one → ((value : A) (terminals rest : Terminals) → from value terminals rest → one value ≡ words value) → Rewrites from to words
reworded {to = to} rewrites same =
    record {
      writes = λ value terminals rest sound text. subst (λ l. Writes l (to value)) (same value terminals rest text) (rewrites.writes value terminals rest sound text);
      sound = rewrites.sound;
    }
