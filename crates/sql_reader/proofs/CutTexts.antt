-- Terminals that a loop cuts off, one by one.
use Rattle.std.proofs.Common.{◌≡◌, ℕ, List, [], ◌∷◌, ◌++◌, inl, inr, Ok, Err, Some, None, refl, sym, ap, ◌∙◌, subst}
use Rattle.std.specs.Prelude.{map, slice_range, Option, Result}
use Rattle.std.proofs.lemmas.List.{append-nil, map-append}
use Rattle.sql_lex.specs.declared.token.SyntaxAt.{SyntaxAt}
use Rattle.sql_lex.specs.declared.token.Token as lexed
use Rattle.sql_lex.specs.Lexing.{Lexing, IsNext, IsAtEnd, IsNextAnswer, SameAnswer, IsSameToken}
use Rattle.grammar_model.specs.Terminals.{IsCutInto, IsLost, AreTerminals}
use Rattle.grammar_model.specs.Terminal.{Terminal, Written, terminal_of}

-- the answer is right, and any other that is says the same
pub record IsTheAnswer (lexing : Lexing) (answer : Result (Option lexed.Token) SyntaxAt) : Type 0 where
  pub right : IsNextAnswer lexing answer
  pub only : (other : Result (Option lexed.Token) SyntaxAt) → IsNextAnswer lexing other → SameAnswer answer other

-- from one place to another these tokens come, and no others
abbrev pub Chain : Lexing → List lexed.Token → Lexing → Type 0
Chain from [] to = from ≡ to
Chain from (token ∷ tokens) to = IsTheAnswer from (Ok (Some token)) × Chain (record from { at = token.end }) tokens to

-- one token more
pub Chain-push : (from : Lexing) (tokens : List lexed.Token) (to : Lexing) (token : lexed.Token) → Chain from tokens to → IsTheAnswer to (Ok (Some token)) → Chain from (tokens ++ token ∷ []) (record to { at = token.end })
Chain-push from [] to token same next = (subst (λ l. IsTheAnswer l (Ok (Some token))) (sym same) next, λ i. record (same i) { at = token.end })
Chain-push from (first ∷ tokens) to token chain next = (chain.0, Chain-push (record from { at = first.end }) tokens to token chain.1 next)

-- the end comes after them
pub Chain-end : (from : Lexing) (tokens : List lexed.Token) (to : Lexing) → Chain from tokens to → IsAtEnd to → IsCutInto from tokens
Chain-end from [] to same ends = subst IsAtEnd (sym same) ends
Chain-end from (first ∷ tokens) to chain ends = inl (chain.0.right, Chain-end (record from { at = first.end }) tokens to chain.1 ends)

-- no token begins after them
pub Chain-lost : (from : Lexing) (tokens : List lexed.Token) (to : Lexing) (token : lexed.Token) → Chain from tokens to → IsLost to token → IsCutInto from (tokens ++ token ∷ [])
Chain-lost from [] to token same lost = inr (subst (λ l. IsLost l token) (sym same) lost, refl)
Chain-lost from (first ∷ tokens) to token chain lost = inl (chain.0.right, Chain-lost (record from { at = first.end }) tokens to token chain.1 lost)

-- of two tokens with one kind and one place the grammar sees the same
terminal_of-same : (lexing : Lexing) (one other : lexed.Token) → IsNext lexing one → IsNext lexing other → IsSameToken one other → terminal_of one ≡ terminal_of other
terminal_of-same lexing one other first second same =
    let text : one.text.now ≡ other.text.now = first.slice ∙ (λ i. slice_range lexing.text (same.start i) (same.end i)) ∙ sym second.slice in
    (λ i. Written (same.kind i) (text i) (same.start i))

-- of two lost tokens at one place the grammar sees the same
terminal_of-lost : (lexing : Lexing) (one other : lexed.Token) → IsLost lexing one → IsLost lexing other → one.start ≡ other.start → terminal_of one ≡ terminal_of other
terminal_of-lost lexing one other first second same =
    let kind : one.kind ≡ other.kind = first.kind ∙ sym second.kind in
    let text : one.text.now ≡ other.text.now = first.bytes ∙ sym second.bytes in
    (λ i. Written (kind i) (text i) (same i))

-- where a token comes next, each cut begins with it
Cut-next : (lexing : Lexing) (token : lexed.Token) (others : List lexed.Token) → IsTheAnswer lexing (Ok (Some token)) → IsCutInto lexing others → (rest : List lexed.Token) × (map terminal_of others ≡ terminal_of token ∷ map terminal_of rest) × IsCutInto (record lexing { at = token.end }) rest
Cut-next lexing token [] next cut = absurd (next.only (Ok None) cut)
Cut-next lexing token (other ∷ others) next (inl found) =
    let same : IsSameToken token other = next.only (Ok (Some other)) found.0 in (
      others,
      ap (λ t. t ∷ map terminal_of others) (sym (terminal_of-same lexing token other next.right found.0 same)),
      subst (λ n. IsCutInto (record lexing { at = n }) others) (sym same.end) found.1,
    )
Cut-next lexing token (other ∷ others) next (inr lost) = absurd (next.only (Err (record { 0 = other.start })) lost.0.fault)

-- where the end comes next, no cut has a token
Cut-end : (lexing : Lexing) (others : List lexed.Token) → IsTheAnswer lexing (Ok None) → IsCutInto lexing others → map terminal_of others ≡ []
Cut-end lexing [] ends cut = refl
Cut-end lexing (other ∷ others) ends (inl found) = absurd (ends.only (Ok (Some other)) found.0)
Cut-end lexing (other ∷ others) ends (inr lost) = absurd (ends.only (Err (record { 0 = other.start })) lost.0.fault)

-- where no token begins, each cut is the lost token
Cut-lost : (lexing : Lexing) (token : lexed.Token) (others : List lexed.Token) → IsLost lexing token → IsTheAnswer lexing (Err (record { 0 = token.start })) → IsCutInto lexing others → map terminal_of others ≡ terminal_of token ∷ []
Cut-lost lexing token [] lost fault cut = absurd (fault.only (Ok None) cut)
Cut-lost lexing token (other ∷ others) lost fault (inl found) = absurd (fault.only (Ok (Some other)) found.0)
Cut-lost lexing token (other ∷ others) lost fault (inr loses) =
    let same : token.start ≡ other.start = fault.only (Err (record { 0 = other.start })) loses.0.fault in
    (λ i. sym (terminal_of-lost lexing token other lost loses.0 same) i ∷ map terminal_of (loses.1 i))

-- each cut is these tokens, and then a cut of what comes after them
Cut-behind : (from : Lexing) (tokens : List lexed.Token) (to : Lexing) (others : List lexed.Token) → Chain from tokens to → IsCutInto from others → (rest : List lexed.Token) × (map terminal_of others ≡ map terminal_of tokens ++ map terminal_of rest) × IsCutInto to rest
Cut-behind from [] to others same cut = (others, refl, subst (λ l. IsCutInto l others) same cut)
Cut-behind from (token ∷ tokens) to others chain cut =
    let next = Cut-next from token others chain.0 cut in
    let behind = Cut-behind (record from { at = token.end }) tokens to next.0 chain.1 next.2 in
    (behind.0, next.1 ∙ ap (λ l. terminal_of token ∷ l) behind.1, behind.2)

-- where the end comes after them, the text has no other tokens
pub AreTerminals-end : (text : List ℕ) (tokens : List lexed.Token) (to : Lexing) → Chain (record { text = text; at = 0 }) tokens to → IsTheAnswer to (Ok None) → (other : List Terminal) → AreTerminals text other → other ≡ map terminal_of tokens
AreTerminals-end text tokens to chain ends other are =
    let behind = Cut-behind (record { text = text; at = 0 }) tokens to are.0 chain are.1 in
    are.2 ∙ behind.1 ∙ ap (λ l. map terminal_of tokens ++ l) (Cut-end to behind.0 ends behind.2) ∙ append-nil (map terminal_of tokens)

-- where no token begins after them, the text has no others but the lost one
pub AreTerminals-lost : (text : List ℕ) (tokens : List lexed.Token) (to : Lexing) (token : lexed.Token) → Chain (record { text = text; at = 0 }) tokens to → IsLost to token → IsTheAnswer to (Err (record { 0 = token.start })) → (other : List Terminal) → AreTerminals text other → other ≡ map terminal_of (tokens ++ token ∷ [])
AreTerminals-lost text tokens to token chain lost fault other are =
    let behind = Cut-behind (record { text = text; at = 0 }) tokens to are.0 chain are.1 in
    are.2 ∙ behind.1 ∙ ap (λ l. map terminal_of tokens ++ l) (Cut-lost to token behind.0 lost fault behind.2) ∙ sym (map-append terminal_of tokens (token ∷ []))
