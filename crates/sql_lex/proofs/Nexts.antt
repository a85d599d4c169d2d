-- From what `skip` and `scan` say of the bytes to the token of the text.
use Rattle.std.proofs.Common.{◌≡◌, ◌≤◌, ◌+◌, ◌-◌, ℕ, List, length, take, drop, sym, ap, ◌∙◌, subst, arith}
use Rattle.std.specs.Prelude.{slice_range}
use Rattle.std.proofs.lemmas.List.{drop-drop, length-drop}
use Rattle.sql_lex.specs.declared.token.Token.{Token}
use Rattle.sql_lex.specs.Filler.{Skips}
use Rattle.sql_lex.specs.Lexing.{Lexing, IsNext}
use Rattle.sql_lex.specs.Tokens.{Begins, Scans}

-- after what was skipped a token was found
pub IsNext-found : (lexing : Lexing) (token : Token) (before rest : List ℕ) (skipped len : ℕ) → before ≡ drop lexing.at lexing.text → skipped ≤ length before → Skips before (drop skipped before) → token.start ≡ lexing.at + skipped → rest ≡ drop token.start lexing.text → token.end ≡ token.start + len → token.start ≤ length lexing.text → Scans rest token.kind len → token.text.now ≡ slice_range lexing.text token.start token.end → IsNext lexing token
IsNext-found lexing token before rest skipped len before_is within skips start_is rest_is end_is start_within scans slice =
    record {
      stands = record {
        onward = omega arith;
        within = start_within;
        skips = subst (λ l. Skips l (drop token.start lexing.text)) before_is (subst (Skips before) behind skips);
      };
      onward = omega (arith, scans.some);
      within = omega (arith, scans.within, ap length rest_is, length-drop token.start lexing.text);
      slice = slice;
      begins = subst (λ l. Begins token.kind l token.text.now (drop token.end lexing.text)) rest_is
          (subst (λ l. Begins token.kind rest token.text.now l) after
          (subst (λ l. Begins token.kind rest l (drop len rest)) text scans.begins));
    }
  where
    behind : drop skipped before ≡ drop token.start lexing.text
    behind = ap (drop skipped) before_is ∙ drop-drop skipped lexing.at lexing.text ∙ ap (λ n. drop n lexing.text) (sym start_is)

    after : drop len rest ≡ drop token.end lexing.text
    after = ap (drop len) rest_is ∙ drop-drop len token.start lexing.text ∙ ap (λ n. drop n lexing.text) (sym end_is)

    long : token.end - token.start ≡ len
    long = omega arith

    text : take len rest ≡ token.text.now
    text = (λ i. take (sym long i) (rest_is i)) ∙ sym slice
