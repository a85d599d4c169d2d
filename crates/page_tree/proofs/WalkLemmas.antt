-- Pages and runs of items one after another.
use Rattle.std.proofs.Common.{◌≡◌, sym, ◌∙◌, ap, List, [], ◌∷◌, ◌++◌, ℕ, zero, suc, ◌+◌, ◌-◌, ◌<◌, ◌≤◌, length, drop, get_or, append_assoc, add-one, arith, Some}
use Rattle.std.specs.Prelude.{slice_get}
use Rattle.std.specs.declared.sync.Arc.{Arc}
use Rattle.std.proofs.lemmas.List.{drop-append-le}
use Rattle.page_model.specs.Page.{joined}
use Rattle.page_model.specs.Run.{IsRunFrom}
use Rattle.page_tree.specs.Body.{pages_of}
use Rattle.page_tree.specs.Branch.{Branch}
use Rattle.page_tree.proofs.NodeLemmas.{items_from}

-- the items from a page on are its own and those behind it
from_page : {T : Type 0} (pages : List (List T)) (number : ℕ) (page : List T) → slice_get pages number ≡ Some page → joined (drop number pages) ≡ page ++ joined (drop (suc number) pages)
from_page [] number page is = cc
from_page (first ∷ pages) zero page is = let same : first ≡ page = cc in ap (λ items. items ++ joined pages) same
from_page (first ∷ pages) (suc number) page is = from_page pages number page is

pub items_from_page : {T : Type 0} (pages : List (List T)) (number : ℕ) (page : List T) → slice_get pages number ≡ Some page → joined (drop number pages) ≡ page ++ joined (drop (number + 1) pages)
items_from_page pages number page is = rw add-one (from_page pages number page is)

drop_behind : {X : Type 0} (n : ℕ) (xs ys : List X) → length xs ≤ n → drop n (xs ++ ys) ≡ drop (n - length xs) ys
drop_behind n [] ys within = ap (λ m. drop m ys) (let same : n ≡ n - 0 = omega arith in same)
drop_behind zero (x ∷ xs) ys within = absurd (omega arith)
drop_behind (suc n) (x ∷ xs) ys within = drop_behind n xs ys (omega arith) ∙ ap (λ m. drop m ys) (let same : n - length xs ≡ suc n - suc (length xs) = omega arith in same)

module _ {T Z : Type 0} where
  -- a run that begins within a node, and one behind it
  pub run_here : (nodes : List (Arc (Branch T) Z)) (index left : ℕ) (node : Arc (Branch T) Z) (all : List T) (place : ℕ) (run : List T) → index < length nodes → node ≡ get_or nodes index node → left < length (joined node.value.pages)
      → drop left (joined (pages_of (drop index nodes))) ≡ drop place all → IsRunFrom (joined node.value.pages) left run → IsRunFrom all place run
  run_here nodes index left node all place run within is here same from =
      let others = joined (pages_of (drop (index + 1) nodes)) in
      record {
        rest = from.rest ++ others;
        follow = sym same ∙ (ap (drop left) (items_from nodes index node within is) ∙ (drop-append-le left (joined node.value.pages) others (omega arith) ∙ (ap (λ items. items ++ others) from.follow ∙ append_assoc run from.rest others)));
        some = λ _. from.some here;
      }

  pub run_later : (nodes : List (Arc (Branch T) Z)) (index left : ℕ) (node : Arc (Branch T) Z) → index < length nodes → node ≡ get_or nodes index node → length (joined node.value.pages) ≤ left
      → drop (left - length (joined node.value.pages)) (joined (pages_of (drop (index + 1) nodes))) ≡ drop left (joined (pages_of (drop index nodes)))
  run_later nodes index left node within is later = sym (ap (drop left) (items_from nodes index node within is) ∙ drop_behind left (joined node.value.pages) _ later)
