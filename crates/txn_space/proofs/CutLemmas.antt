-- A run that is cut where an entry's key falls.
use Rattle.std.proofs.Common.{◌≡◌, refl, sym, ◌∙◌, ap, ℕ, zero, suc, ◌+◌, ◌-◌, ◌<◌, List, [], ◌∷◌, ◌++◌, length, take, drop, arith}
use Rattle.std.proofs.lemmas.List.{drop-take}
use Rattle.own_model.specs.Db.{Row}
use Rattle.txn_space.specs.Passed.{IsPartFrom}
use Rattle.txn_space.proofs.WalkLemmas.{part_within}

-- the front of a list in two parts begins with that of the first part
took : {X : Type 0} (m : ℕ) (run rest : List X) → (others : List X) × (take m (run ++ rest) ≡ take m run ++ others)
took zero run rest = ([], refl)
took (suc m) [] rest = (take (suc m) rest, refl)
took (suc m) (x ∷ run) rest = let more = took m run rest in (more.0, ap (λ xs. x ∷ xs) more.1)

some_taken : {X : Type 0} (m : ℕ) (run : List X) → 0 < m → 0 < length run → 0 < length (take m run)
some_taken zero run some long = absurd (omega arith)
some_taken (suc m) [] some long = absurd (omega arith)
some_taken (suc m) (x ∷ run) some long = omega arith

-- rows from a place on, and no more than up to where others begin
pub cut_part : (rows others run rest : List Row) (count place : ℕ) → place < count → drop place rows ≡ run ++ rest → 0 < length run → IsPartFrom (take count rows ++ others) place (take (count - place) run)
cut_part rows others run rest count place before follow some =
    let sums : place + (count - place) ≡ count = omega arith in
    let taken = took (count - place) run rest in
    let long : 0 < length (take (count - place) run) = some_taken (count - place) run (omega arith) some in
    let front : drop place (take count rows) ≡ take (count - place) run ++ taken.0 =
    ap (λ n. drop place (take n rows)) (sym sums) ∙ (drop-take place (count - place) rows ∙ (ap (take (count - place)) follow ∙ taken.1)) in
    record { rest = taken.0 ++ others; follow = part_within (take count rows) others place (take (count - place) run) taken.0 front long; some = long }
