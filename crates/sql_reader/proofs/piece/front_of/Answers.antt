use Rattle.std.proofs.Common.{◌+◌, ◌∷◌, ◌∙◌, get_or, refl, sym, ap, subst}
use Rattle.std.proofs.lemmas.List.{take_rest}
use Rattle.sql_reader.specs.scripts.Fronts.{IsEmptyFront, IsFront}
use Rattle.sql_reader.proofs.Scripts.FrontPieces.{first_and_rest, spaces_front, plain_byte}
use Rattle.sql_reader.proofs.piece.front_of.Goals as goal

pub returns-then-byte-eq39 : goal.returns-then-byte-eq39
returns-then-byte-eq39 c =
    let split = ap (λ l. 39 ∷ l) (take_rest c.args.bytes.now 1) ∙ sym (first_and_rest c.args.bytes.now 39 c.requires.some c.if-byte-eq39.true) in
    subst (λ l. IsFront c.args.begins l c.quoted.result) split (c.quoted.ensures c.args.begins)

pub returns-then-is_space : goal.returns-then-is_space
returns-then-is_space c =
    let bytes = c.args.bytes.now in
    let first = get_or bytes 0 0 in
    let spaces = c.spaces_len in
    let whole = ap (λ l. first ∷ l) (take_rest bytes 1) ∙ sym (first_and_rest bytes first c.requires.some refl) in
    subst (λ l. IsEmptyFront c.args.begins l (1 + spaces.result)) whole
    (spaces_front c.args.begins first _ spaces.result (sym c.is_space.ensures ∙ c.if-is_space.true) spaces.ensures.within spaces.ensures.spaces)

pub returns-else-is_space : goal.returns-else-is_space
returns-else-is_space c =
    let bytes = c.args.bytes.now in
    let first = get_or bytes 0 0 in
    let no_space = sym c.is_space.ensures ∙ c.if-is_space.false in
    let split = ap (λ l. first ∷ l) (take_rest bytes 1) ∙ sym (first_and_rest bytes first c.requires.some refl) in
    subst (λ l. IsFront c.args.begins l c.plain.result) split (c.plain.ensures c.args.begins first (plain_byte first c.if-byte-eq39.false c.if-byte-eq45.false c.if-byte-eq59.false no_space) no_space)
