-- The texts of a large script, by the number of its people and a seed.
use Rattle.std.specs.Prelude.{ℕ, ◌+◌, ◌*◌, ◌%◌, ◌==◌, List, [], ◌∷◌, ◌++◌, codes, filter, map}
use Rattle.std.specs.Fmt.{decimal}
use Rattle.std.specs.List.{flat_map, range_with_len}
use Rattle.made_model.specs.Draw.{draw}

-- the tables and the view
abbrev pub schema_texts : List (List ℕ)
schema_texts =
    codes "CREATE DATA_SUBJECT TABLE users (id INT PRIMARY KEY, name TEXT)"
    ∷ codes "CREATE TABLE notes (id INT PRIMARY KEY, a INT OWNED_BY users(id), b INT OWNED_BY users(id), n INT, ON GET b ANON (n), ON DEL a ANON (n))"
    ∷ codes "CREATE VIEW held AS SELECT a, COUNT(*), SUM(n) FROM notes GROUP BY a"
    ∷ []

-- a person, by number
unfoldable pub user_text : ℕ → List ℕ
user_text number = codes "INSERT INTO users VALUES (" ++ decimal number ++ codes ", 'u')"

-- a note, by its number, of two people and with a number
unfoldable pub noted_text : ℕ → ℕ → ℕ → ℕ → List ℕ
noted_text number a b n =
    codes "INSERT INTO notes VALUES (" ++ decimal number ++ codes ", " ++ decimal a ++ codes ", " ++ decimal b ++ codes ", " ++ decimal n ++ codes ")"

-- the note behind so many others, for which the people and the number are drawn
unfoldable pub note_text : ℕ → ℕ → ℕ → List ℕ
note_text people seed before =
    noted_text (before + 1) (1 + draw seed (3 * before) people) (1 + draw seed (3 * before + 1) people) (draw seed (3 * before + 2) 1000)

-- a note's number becomes smaller, and another's larger
unfoldable pub taken_text : ℕ → ℕ → List ℕ
taken_text amount note = codes "UPDATE notes SET n = n - " ++ decimal amount ++ codes " WHERE id = " ++ decimal note

unfoldable pub given_text : ℕ → ℕ → List ℕ
given_text amount note = codes "UPDATE notes SET n = n + " ++ decimal amount ++ codes " WHERE id = " ++ decimal note

-- a transfer between two drawn notes, behind so many draws
unfoldable pub transfer_texts : ℕ → ℕ → ℕ → List (List ℕ)
transfer_texts people seed draws =
    codes "BEGIN"
    ∷ taken_text (draw seed (draws + 2) 100) (1 + draw seed draws people)
    ∷ given_text (draw seed (draws + 2) 100) (1 + draw seed (draws + 1) people)
    ∷ codes "COMMIT"
    ∷ []

-- a person is shown what is held about it, and erased
unfoldable pub shown_text : ℕ → List ℕ
shown_text number = codes "GDPR GET users " ++ decimal number

unfoldable pub erased_text : ℕ → List ℕ
erased_text number = codes "GDPR FORGET users " ++ decimal number

unfoldable pub erasure_texts : ℕ → List (List ℕ)
erasure_texts number = shown_text number ∷ erased_text number ∷ []

-- every fourth person, from the first on
abbrev pub erased_people : ℕ → List ℕ
erased_people people = filter (λ number. number % 4 == 1) (range_with_len 1 people)

-- a note for each person, and a transfer for each; then every fourth person goes, and the view is shown
abbrev pub made_texts : ℕ → ℕ → List (List ℕ)
made_texts people seed =
    schema_texts
    ++ map user_text (range_with_len 1 people)
    ++ map (note_text people seed) (range_with_len 0 people)
    ++ flat_map (λ before. transfer_texts people seed (3 * people + 3 * before)) (range_with_len 0 people)
    ++ flat_map erasure_texts (erased_people people)
    ++ codes "SELECT * FROM held" ∷ []
