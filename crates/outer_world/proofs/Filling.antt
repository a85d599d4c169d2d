-- A list whose front is filled by reads, one after the other.
use Rattle.std.proofs.Common.{◌≡◌, ℕ, ◌+◌, ◌≤◌, List, ◌++◌, length, take, ap, ◌∙◌, append_assoc, sym}
use Rattle.std.proofs.Math.Seq.{take-append-add, take-take}
use Rattle.std.proofs.lemmas.List.{take-append-le}

-- the filled front and the first bytes of the part after it are the new filled front
pub take-filled : (front part others rest : List ℕ) (filled count len : ℕ) → length front ≡ filled → count ≤ length part → filled + count ≤ len
    → take (filled + count) (take len ((front ++ (part ++ others)) ++ rest)) ≡ front ++ take count part
take-filled front part others rest filled count len front_is fits within =
    take-take (filled + count) len _ within
    ∙ ap (λ n. take (n + count) ((front ++ (part ++ others)) ++ rest)) (sym front_is)
    ∙ ap (take (length front + count)) (append_assoc front (part ++ others) rest ∙ ap (λ l. front ++ l) (append_assoc part others rest))
    ∙ take-append-add front (part ++ (others ++ rest)) count
    ∙ ap (λ l. front ++ l) (take-append-le count part (others ++ rest) fits)
