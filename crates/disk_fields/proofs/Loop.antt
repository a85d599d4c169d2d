-- Reading one item behind another, as a loop does.
use Rattle.std.proofs.Common.{◌≡◌, ℕ, suc, ◌-◌, ◌+◌, ◌≤◌, ◌<◌, List, [], ◌∷◌, ◌++◌, refl, sym, ap, ◌∙◌, append_assoc, arith}
use Rattle.std.specs.Prelude.{Some, None}
use Rattle.std.proofs.lemmas.List.{append-nil}
use Rattle.disk_fields.specs.declared.unread.Unread.{Unread}
use Rattle.disk_fields.specs.declared.unread.Unread.TheVariants.{Memory, Malformed}
use Rattle.disk_fields.specs.Reading.{◌>>=◌, Found, IsMissed, items_at}

-- what was read before, and what is still read
abbrev pub with_front : {A : Type 0} → List A → Found (List A) → Found (List A)
with_front front read = read >>= λ x. Some (front ++ x.0, x.1)

module _ {A : Type 0} (reading : List ℕ → Found A) where
  regroup : (front : List A) (item : A) (read : Found (List A)) → with_front front (read >>= λ x. Some (item ∷ x.0, x.1)) ≡ with_front (front ++ item ∷ []) read
  regroup front item (Some x) = ap (λ (items : List A). Some (items, x.1)) (simp append_assoc)
  regroup front item None = refl

  pub goes_on : (front : List A) (count i : ℕ) (bytes : List ℕ) (item : A) (after : List ℕ) (total : Found (List A)) → i < count → reading bytes ≡ Some (item, after)
      → with_front front (items_at reading (count - i) bytes) ≡ total → with_front (front ++ item ∷ []) (items_at reading (count - (i + 1)) after) ≡ total
  unfolding items_at
  goes_on front count i bytes item after total lt read so_far =
      let k : count - i ≡ suc (count - (i + 1)) = omega arith in
      let one : with_front front (items_at reading (count - i) bytes) ≡ with_front (front ++ item ∷ []) (items_at reading (count - (i + 1)) after) =
      rw (k, read) (regroup front item (items_at reading (count - (i + 1)) after)) in
      sym one ∙ so_far

  pub ends : (unread : Unread) (front : List A) (count i : ℕ) (bytes : List ℕ) (total : Found (List A)) → i < count → IsMissed unread (reading bytes)
      → with_front front (items_at reading (count - i) bytes) ≡ total → IsMissed unread total
  unfolding items_at
  ends Memory front count i bytes total lt read so_far = tt
  ends Malformed front count i bytes total lt read so_far =
      let k : count - i ≡ suc (count - (i + 1)) = omega arith in
      let one : with_front front (items_at reading (count - i) bytes) ≡ None = rw (k, read) refl in
      sym so_far ∙ one

  pub is_done : (front : List A) (count i : ℕ) (bytes : List ℕ) (total : Found (List A)) → count ≤ i → with_front front (items_at reading (count - i) bytes) ≡ total → total ≡ Some (front, bytes)
  unfolding items_at
  is_done front count i bytes total le so_far =
      let k : count - i ≡ 0 = omega arith in
      let one : with_front front (items_at reading (count - i) bytes) ≡ Some (front, bytes) = rw k (ap (λ (items : List A). Some (items, bytes)) (append-nil front)) in
      sym so_far ∙ one
