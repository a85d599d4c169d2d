-- White space and comments, one after another.
use Rattle.std.proofs.Common.{◌≡◌, ◌≢◌, ◌<◌, ◌+◌, ◌-◌, ℕ, true, List, [], ◌∷◌, ◌++◌, length, get_or, take, drop, All, refl, sym, ap, ◌∙◌, subst, arith}
use Rattle.std.specs.List.{starts_with}
use Rattle.std.specs.Prelude.{nat_eq}
use Rattle.std.proofs.lemmas.List.{drop-drop, take-append-drop, take_all, length-drop}
use Rattle.std.proofs.lemmas.Slice.Eq.{starts_is}
use Rattle.std.proofs.lemmas.Bool.Decides.{Decides-eqb}
use Rattle.sql_lex.specs.Bytes.{is_space}
use Rattle.sql_lex.specs.Filler.{Filler, Space, Comment, bytes_of, IsFiller, Fills, EndsLine, FrontFiller}

-- two dashes, and that many bytes of their line, are a comment
pub comment_at_front : (bytes rest : List ℕ) (len : ℕ) → starts_with nat_eq bytes (45 ∷ 45 ∷ []) ≡ true → rest ≡ drop 2 bytes → All (λ byte. byte ≢ 10) (take len rest) → EndsLine (drop len rest) → FrontFiller bytes (2 + len)
comment_at_front bytes rest len dashes same line_of ends_of =
    let line = subst (λ l. All (λ byte. byte ≢ 10) (take len l)) same line_of in
    let ends = subst (λ l. EndsLine (drop len l)) same ends_of in
    let behind : drop len (drop 2 bytes) ≡ drop (2 + len) bytes = drop-drop len 2 bytes in
    let split : bytes ≡ 45 ∷ 45 ∷ drop 2 bytes = (starts_is Decides-eqb bytes (45 ∷ 45 ∷ []) _ refl).0 dashes in (
      Comment (take len (drop 2 bytes)),
      split ∙ ap (λ l. 45 ∷ 45 ∷ l) (sym (take-append-drop len (drop 2 bytes)) ∙ ap (λ l. take len (drop 2 bytes) ++ l) behind),
      (line, subst EndsLine behind ends),
    )

-- what `&xs[n..]` holds
pub range_from_is : (n : ℕ) (xs : List ℕ) → take (length xs - n) (drop n xs) ≡ drop n xs
range_from_is n xs = take_all _ (drop n xs) (omega (arith, length-drop n xs))

-- a byte of white space is a filler
pub space_at_front : (bytes : List ℕ) → 0 < length bytes → is_space (get_or bytes 0 0) ≡ true → FrontFiller bytes 1
space_at_front [] some space = absurd (omega arith)
space_at_front (byte ∷ bytes) some space = (Space byte, refl, search space)

-- one filler more
pub Fills-push : (fillers : List Filler) (filler : Filler) (bytes middle after : List ℕ) → Fills fillers bytes middle → middle ≡ bytes_of filler ++ after → IsFiller filler after → Fills (fillers ++ filler ∷ []) bytes after
Fills-push [] filler bytes middle after before split fits = (after, before ∙ split, fits, refl)
Fills-push (first ∷ fillers) filler bytes middle after before split fits =
    (before.0, before.1, before.2, Fills-push fillers filler before.0 middle after before.3 split fits)

-- the bytes up to `at` are fillers
abbrev pub FillsTo : List ℕ → ℕ → Type 0
FillsTo bytes at = (fillers : List Filler) × Fills fillers bytes (drop at bytes)

pub FillsTo-more : (bytes : List ℕ) (at step : ℕ) → FillsTo bytes at → FrontFiller (drop at bytes) step → FillsTo bytes (at + step)
FillsTo-more bytes at step before front =
    let behind : drop step (drop at bytes) ≡ drop (at + step) bytes = drop-drop step at bytes in (
      before.0 ++ front.0 ∷ [],
      Fills-push before.0 front.0 bytes (drop at bytes) (drop (at + step) bytes) before.1 (front.1 ∙ ap (λ l. bytes_of front.0 ++ l) behind) (subst (IsFiller front.0) behind front.2),
    )
