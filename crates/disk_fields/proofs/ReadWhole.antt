-- All of the bytes are what was read.
use Rattle.std.proofs.Common.{◌≡◌, ℕ, cond, eqb, List, [], length, refl, subst}
use Rattle.std.specs.Prelude.{Some, None}
use Rattle.std.proofs.lemmas.Bool.{eqb-true}
use Rattle.std.proofs.lemmas.List.{nil_from_length}
use Rattle.disk_model.specs.Number.{Format}
use Rattle.disk_fields.specs.Reading.{Found, all_of}
use Rattle.disk_fields.proofs.ReadNumbers.{AreBytes, IsReadBy, bind_some, let_through, some_is}

module _ {A : Type 0} (format : Format A) (reading : List ℕ → Found A) (read : IsReadBy format reading) where
  pub all-found : (bytes : List ℕ) (x : A) → AreBytes bytes → all_of (reading bytes) ≡ Some x → format x bytes []
  all-found bytes x all is =
      let found = bind_some (reading bytes) (λ x. cond (eqb (length x.1) 0) (Some x.0) None) x is in
      let through = let_through (eqb (length found.0.1) 0) (Some found.0.0) x found.2 in
      let own = read.found bytes found.0 all found.1 in
      let none : found.0.1 ≡ [] = nil_from_length found.0.1 (eqb-true (length found.0.1) 0 through.0) in
      subst (λ (x : A). format x bytes []) (some_is found.0.0 x through.1) (subst (λ (rest : List ℕ). format found.0.0 bytes rest) none own.0)

  pub all-only : (x : A) (bytes : List ℕ) → format x bytes [] → all_of (reading bytes) ≡ Some x
  all-only x bytes is = rw (read.only x bytes [] is) refl
