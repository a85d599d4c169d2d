-- The small stores of the cases, by the statements that make them.
use Rattle.std.specs.Prelude.{List, [], ◌∷◌}
use Rattle.own_model.specs.declared.statement.Statement.{Statement}
use Rattle.history_tests.specs.Told.{Asked, session}
use Rattle.history_tests.specs.Written.{accessed_by, begin, commit, counted, create, create_subject, create_view, del_row, id, insert, int, int_column, joined, not_null, null, on_del, on_get, owned_by, owns, plain, text, text_column, unique}

-- Two users and a message from one to the other. GET by the receiver hides its note; FORGET of the sender blanks it.
abbrev pub messages : List Statement
messages = create_subject "users" (id ∷ text_column "name" [] ∷ [])
    ∷ create "msgs" (id ∷ int_column "sender" (owned_by "users" ∷ []) ∷ int_column "receiver" (owned_by "users" ∷ [])
    ∷ text_column "body" [] ∷ text_column "note" [] ∷ on_get "receiver" "note" ∷ on_del "sender" "note" ∷ [])
    ∷ insert "users" ((int 5 ∷ text "Ann" ∷ []) ∷ (int 7 ∷ text "Bob" ∷ []) ∷ [])
    ∷ insert "msgs" ((int 9 ∷ int 5 ∷ int 7 ∷ text "hi" ∷ text "draft" ∷ []) ∷ [])
    ∷ []

-- A group is owned by its members.
abbrev pub groups : List Statement
groups = create_subject "users" (id ∷ [])
    ∷ create "groups" (id ∷ text_column "title" [] ∷ [])
    ∷ create "members" (id ∷ int_column "who" (owned_by "users" ∷ []) ∷ int_column "grp" (owns "groups" ∷ []) ∷ [])
    ∷ insert "users" ((int 5 ∷ []) ∷ [])
    ∷ []

-- A document of two users, which goes with either; one page of it alone, and one that is also in a folder.
abbrev pub pages : List Statement
pages = create_subject "users" (id ∷ [])
    ∷ create "folders" (id ∷ int_column "who" (owned_by "users" ∷ []) ∷ [])
    ∷ create "docs" (id ∷ int_column "a" (owned_by "users" ∷ []) ∷ int_column "b" (owned_by "users" ∷ []) ∷ del_row "a" ∷ del_row "b" ∷ [])
    ∷ create "pages" (id ∷ int_column "doc" (owned_by "docs" ∷ []) ∷ int_column "folder" (owned_by "folders" ∷ []) ∷ [])
    ∷ insert "users" ((int 5 ∷ []) ∷ (int 7 ∷ []) ∷ [])
    ∷ insert "folders" ((int 1 ∷ int 7 ∷ []) ∷ [])
    ∷ insert "docs" ((int 2 ∷ int 5 ∷ int 7 ∷ []) ∷ [])
    ∷ insert "pages" ((int 3 ∷ int 2 ∷ null ∷ []) ∷ (int 4 ∷ int 2 ∷ int 1 ∷ []) ∷ [])
    ∷ []

-- Users with profiles, circles of members, posts that a circle sees, comments on them, likes, and two views.
abbrev pub social : List Statement
social = create_subject "users" (id ∷ text_column "name" (not_null ∷ []) ∷ text_column "mail" (unique ∷ []) ∷ [])
    ∷ create "profiles" (id ∷ int_column "who" (not_null ∷ owned_by "users" ∷ []) ∷ text_column "bio" [] ∷ [])
    ∷ create "circles" (id ∷ text_column "title" [] ∷ [])
    ∷ create "members" (id ∷ int_column "who" (owned_by "users" ∷ []) ∷ int_column "circle" (owns "circles" ∷ []) ∷ [])
    ∷ create "posts" (id ∷ int_column "author" (owned_by "users" ∷ []) ∷ int_column "circle" (accessed_by "circles" ∷ []) ∷ text_column "body" [] ∷ [])
    ∷ create "comments" (id ∷ int_column "post" (accessed_by "posts" ∷ []) ∷ int_column "author" (owned_by "users" ∷ []) ∷ text_column "body" [] ∷ [])
    ∷ create "likes" (id ∷ int_column "post" (plain "posts" ∷ []) ∷ int_column "who" (owned_by "users" ∷ []) ∷ [])
    ∷ insert "users" ((int 1 ∷ text "Ada" ∷ text "a@x" ∷ []) ∷ (int 2 ∷ text "Ben" ∷ text "b@x" ∷ []) ∷ (int 3 ∷ text "Cy" ∷ null ∷ []) ∷ [])
    ∷ insert "profiles" ((int 1 ∷ int 1 ∷ text "hello" ∷ []) ∷ [])
    ∷ begin
    ∷ insert "circles" ((int 1 ∷ text "chess" ∷ []) ∷ [])
    ∷ insert "members" ((int 1 ∷ int 1 ∷ int 1 ∷ []) ∷ (int 2 ∷ int 2 ∷ int 1 ∷ []) ∷ [])
    ∷ commit
    ∷ insert "posts" ((int 1 ∷ int 1 ∷ int 1 ∷ text "first" ∷ []) ∷ [])
    ∷ insert "comments" ((int 1 ∷ int 1 ∷ int 2 ∷ text "nice" ∷ []) ∷ (int 2 ∷ int 1 ∷ int 3 ∷ text "late" ∷ []) ∷ [])
    ∷ insert "likes" ((int 1 ∷ int 1 ∷ int 2 ∷ []) ∷ [])
    ∷ create_view "per_post" (counted "post" "comments")
    ∷ create_view "shown" (joined "posts" "users" "author" "name")
    ∷ []

-- Accounts: a number that may not be NULL, and one that is.
abbrev pub accounts : List Statement
accounts = create "accounts" (id ∷ int_column "held" (not_null ∷ []) ∷ int_column "owed" [] ∷ [])
    ∷ insert "accounts" ((int 1 ∷ int 9223372036854775807 ∷ null ∷ []) ∷ (int 2 ∷ int 0 ∷ null ∷ []) ∷ [])
    ∷ []

abbrev pub after : List Statement → List Asked
after statements = session 1 statements
