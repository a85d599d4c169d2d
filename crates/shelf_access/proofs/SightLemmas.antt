-- Copies of the rows that a subject sees, name by name.
use Rattle.std.proofs.Common.{◌≡◌, ℕ, ◌+◌, ◌<◌, List, [], ◌∷◌, ◌++◌, length, get_or, map, take, refl, ap, sym, ◌∙◌, append_assoc}
use Rattle.std.specs.Prelude.{Contains, Option, filter, flat_map}
use Rattle.std.specs.Option.{option_map_or}
use Rattle.std.proofs.lemmas.List.{append-nil, take_more}
use Rattle.own_base.specs.declared.row_name.RowName.{RowName}
use Rattle.own_model.specs.Db.{Db, IsOrdered, Row}
use Rattle.subject_model.specs.Named.{NamedRow, named_rows}
use Rattle.subject_model.proofs.Members.{contains_here, contains_later, contains_of_filter}
use Rattle.subject_model.proofs.NamedLemmas.{row_of-named}
use Rattle.shelf_model.specs.declared.shelved.Shelved.{Shelved}
use Rattle.shelf_model.specs.Seen.{seen, sees}
use Rattle.shelf_model.specs.Shelf.{shelved}
use Rattle.shelf_model.proofs.KeptRows.{as_named, called}
use Rattle.shelf_access.specs.Sights.{sight_of, sights}

module _ {X Y : Type 0} (f : X → List Y) where
  pub flat_append : (xs ys : List X) → flat_map f (xs ++ ys) ≡ flat_map f xs ++ flat_map f ys
  flat_append [] ys = refl
  flat_append (x ∷ xs) ys = ap (λ rest. f x ++ rest) (flat_append xs ys) ∙ sym (append_assoc (f x) (flat_map f xs) (flat_map f ys))

  -- one more of a list
  pub flat_more : (xs : List X) (count : ℕ) (x : X) (start old new : List Y) → count < length xs → x ≡ get_or xs count x → old ≡ start ++ flat_map f (take count xs) → new ≡ old ++ f x → new ≡ start ++ flat_map f (take (count + 1) xs)
  flat_more xs count x start old new within next so_far added =
      let longer : take (count + 1) xs ≡ take count xs ++ x ∷ [] = take_more xs count x within ∙ ap (λ y. take count xs ++ y ∷ []) (sym next) in
      added ∙ (ap (λ front. front ++ f x) so_far ∙ (append_assoc start (flat_map f (take count xs)) (f x)
      ∙ ap (λ back. start ++ back) (ap (λ last. flat_map f (take count xs) ++ last) (sym (append-nil (f x))) ∙ (sym (flat_append (take count xs) (x ∷ [])) ∙ ap (flat_map f) (sym longer)))))

each_sight : (db : Db) (subject : RowName) → IsOrdered db → (xs : List NamedRow) → ((named : NamedRow) → Contains xs named → Contains (named_rows db) named) → flat_map (sight_of db subject) (map called xs) ≡ map (shelved db subject) xs
each_sight db subject ordered [] among = refl
each_sight db subject ordered (x ∷ xs) among =
    let alone : sight_of db subject x.name ≡ shelved db subject x ∷ [] =
    ap (λ (o : Option Row). option_map_or (λ row. shelved db subject (as_named x.name row) ∷ []) o []) (row_of-named db x ordered (among x (contains_here x xs))) in
    ap (λ (front : List Shelved). front ++ flat_map (sight_of db subject) (map called xs)) alone
    ∙ ap (λ (rest : List Shelved). shelved db subject x ∷ rest) (each_sight db subject ordered xs (λ named later. among named (contains_later x xs named later)))

-- those of all that is seen
pub sights-seen : (db : Db) (subject : RowName) → IsOrdered db → flat_map (sight_of db subject) (seen db subject) ≡ sights db subject
unfolding seen sights
sights-seen db subject ordered =
    each_sight db subject ordered (filter (λ named. sees db subject named.name) (named_rows db))
    (λ named kept. (contains_of_filter (λ (n : NamedRow). sees db subject n.name) (named_rows db) named kept).0)

flat_mapped : {A : Type 0} (db : Db) (subject : RowName) (run : List (A × RowName)) → flat_map (λ filed. sight_of db subject filed.1) run ≡ flat_map (sight_of db subject) (map (λ filed. filed.1) run)
flat_mapped db subject [] = refl
flat_mapped db subject (filed ∷ run) = ap (λ (rest : List Shelved). sight_of db subject filed.1 ++ rest) (flat_mapped db subject run)

-- those of a run
pub sights-run : {A : Type 0} (db : Db) (subject : RowName) (front : List RowName) (run : List (A × RowName)) (old new : List Shelved) → old ≡ flat_map (sight_of db subject) front → new ≡ old ++ flat_map (λ filed. sight_of db subject filed.1) run
    → new ≡ flat_map (sight_of db subject) (front ++ map (λ filed. filed.1) run)
sights-run db subject front run old new so_far added =
    added ∙ ((λ i. so_far i ++ flat_mapped db subject run i) ∙ sym (flat_append (sight_of db subject) front (map (λ filed. filed.1) run)))
