-- What two areas represent while one of them changes.
use Rattle.std.proofs.Common.{◌≡◌, ◌⊎◌, inl, inr, ℕ, ◌<◌, List, length, sym, subst, arith}
use Rattle.own_base.specs.declared.number.Area.{Area}
use Rattle.own_base.specs.declared.number.Area.TheVariants.{A, B}
use Rattle.outer_world.specs.OtherArea.{other_of, bytes_in}
use Rattle.disk_model.specs.Area.{IsBelow, IsChosen, IsOpened, Says, Represent, RepresentNothing, Stored, epoch_of, in_front, with_payload}
use Rattle.disk_model.specs.Records.{IsFramed, payload_of}
use Rattle.disk_model.proofs.AreaLaws.{says_epoch}
use Rattle.commit_journal.specs.AreaCalls.{IsAdding, OnlyIn}
use Rattle.commit_journal.specs.Filled.{IsFilling}
use Rattle.commit_journal.specs.JournalState.{RepresentAtMost, RepresentEither}
use Rattle.commit_journal.specs.Retired.{IsRetiring}
use Rattle.commit_journal.proofs.AreaBytes.{adding_says, below_retiring, not_retiring, represent_in, shut_below}

-- an area is filled beside the one that says something
filling_chosen : (stored new : Stored) (stood one other : List ℕ) → Says stood stored → stored.epoch < new.epoch → one ≡ stood → IsFilling new other → IsChosen stored one other ⊎ IsChosen new other one
filling_chosen stored new stood one other says lower same filling =
    let here : Says one stored = subst (λ l. Says l stored) (sym same) says in
    let epoch : epoch_of one ≡ stored.epoch = says_epoch one stored here in
    elim filling [
      | inl shut ↦ inl (record { says = here; below = shut_below other stored.epoch shut })
      | inr full ↦ inr (record { says = full; below = λ _. omega arith })
    ]

pub filling_represents : (area : Area) (stored new : Stored) (stood a b : List ℕ) → Says stood stored → stored.epoch < new.epoch → OnlyIn (other_of area) (IsFilling new) stood a b → RepresentEither stored new a b
filling_represents A stored new stood a b says lower only = elim (filling_chosen stored new stood a b says lower only.stays only.here) [
  | inl old ↦ inl (inl old)
  | inr now ↦ inr (inr now)
]
filling_represents B stored new stood a b says lower only = elim (filling_chosen stored new stood b a says lower only.stays only.here) [
  | inl old ↦ inl (inr old)
  | inr now ↦ inr (inl now)
]

-- an area is retired beside the one that counts
pub retiring_represents : (area : Area) (new : Stored) (stood said a b : List ℕ) → Says said new → IsBelow stood new.epoch → OnlyIn area (IsRetiring stood) said a b → Represent a b new
retiring_represents A new stood said a b says below only =
    inr (record { says = subst (λ l. Says l new) (sym only.stays) says; below = below_retiring stood a new.epoch only.here below })
retiring_represents B new stood said a b says below only =
    inl (record { says = subst (λ l. Says l new) (sym only.stays) says; below = below_retiring stood b new.epoch only.here below })

-- a record is added
pub adding_represents : (area : Area) (stored : Stored) (stood : List ℕ) (end : ℕ) (framed apart a b : List ℕ) → Says stood stored → end ≡ length (in_front stored) → IsFramed framed
    → (¬ IsOpened apart) → OnlyIn area (IsAdding stood end framed) apart a b → RepresentEither stored (with_payload stored (payload_of framed)) a b
adding_represents area stored stood end framed apart a b says is_end is shut only =
    let beside : ¬ IsOpened (bytes_in (other_of area) a b) = subst (λ l. ¬ IsOpened l) (sym only.stays) shut in
    let below : IsBelow (bytes_in (other_of area) a b) stored.epoch = shut_below (bytes_in (other_of area) a b) stored.epoch beside in
    elim (adding_says stored stood says end is_end framed is (bytes_in area a b) only.here) [
      | inl old ↦ inl (represent_in area stored a b old below)
      | inr new ↦ inr (represent_in area (with_payload stored (payload_of framed)) a b new below)
    ]

-- ---- the first of a journal's areas

pub nothing_while_retiring : (stood apart a b : List ℕ) → (¬ IsOpened stood) → (¬ IsOpened apart) → OnlyIn A (IsRetiring stood) apart a b → RepresentNothing a b
nothing_while_retiring stood apart a b shut beside only = record {
  not_a = not_retiring stood a only.here shut;
  not_b = subst (λ l. ¬ IsOpened l) (sym only.stays) beside;
}

pub at_most_while_filling : (new : Stored) (apart a b : List ℕ) → (¬ IsOpened apart) → OnlyIn A (IsFilling new) apart a b → RepresentAtMost new a b
at_most_while_filling new apart a b beside only =
    let not_b : ¬ IsOpened b = subst (λ l. ¬ IsOpened l) (sym only.stays) beside in
    elim only.here [
      | inl shut ↦ inl (record { not_a = shut; not_b = not_b })
      | inr says ↦ inr (inl (record { says = says; below = shut_below b new.epoch not_b }))
    ]
