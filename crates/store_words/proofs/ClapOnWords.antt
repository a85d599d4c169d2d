-- What clap's definitions say of words at the command whose subcommands are the modes.
use Rattle.std.proofs.Common.{◌≡◌, ◌∙◌, ◌⊎◌, inl, inr, ℕ, Bool, true, false, List, [], ◌∷◌, ◌++◌, Some, None, codes, refl, sym, ap, ap₂, subst, fold, true≢false}
use Rattle.std.specs.Prelude.{find, ◌||◌}
use Rattle.std.specs.List.{list_any}
use Rattle.std.specs.Str.{bytes_eq}
use Rattle.std.proofs.lemmas.List.{append-nil, append_assoc}
use Rattle.std.proofs.lemmas.Slice.Eq.{bytes_eq-Decides}
use Rattle.clap.specs.Words.{Kinds, Shape, Text, built, fault_of, is_simple, is_simple_and_free, subcommand_of}
use Rattle.clap.specs.Walk.{Held, Names, Rule, Walk, answers_to, arg_by_index, finished, idle, nothing_held, settled, to_positional, value, walk, walk_from, walked}
use Rattle.clap.specs.Kinds.{or_else}
use Rattle.clap.specs.Simple.{built_leaf, inherited, names_of, new_shape}
use Rattle.clap.specs.Faults.{check_fault, defaults_fault, entered_fault, level_fault, settle_fault, step_fault, stray_fault, turn_fault, walk_fault}
use Rattle.clap.specs.declared.error.kind.ErrorKind.TheVariants.{MissingRequiredArgument, MissingSubcommand}
use Rattle.clap.proofs.OnLiterals.{clap_on_literals}
use Rattle.store_words.specs.Command.{begins_with_dash, command_app, make_app, mode_matched}
use Rattle.store_words.specs.Words.{make_of, mode_of}

-- the command is one of which clap says exactly what it takes
pub command_is_simple : is_simple command_app ≡ true
command_is_simple = refl

-- and by what error it refuses the rest
pub command_is_simple_and_free : is_simple_and_free command_app ≡ true
command_is_simple_and_free = refl

-- the subcommands as clap has built them
abbrev step_shape : Shape
step_shape = built_leaf (inherited command_app.top (new_shape (codes "step")))

abbrev serve_shape : Shape
serve_shape = built_leaf (inherited command_app.top (new_shape (codes "serve")))

abbrev make_shape : Shape
make_shape = built_leaf (inherited command_app.top make_app.top)

-- the words of mode `step`
abbrev pub step_words : List Text
step_words = codes "step" ∷ []

-- and of `serve`
abbrev pub serve_words : List Text
serve_words = codes "serve" ∷ []

-- the words of mode `make` with these two
abbrev pub make_words : Text → Text → List Text
make_words people seed = codes "make" ∷ people ∷ seed ∷ []

-- the words are a mode's word with as many as it has
pub data IsOfAMode : List Text → Type 0 where
  of_step : IsOfAMode step_words
  of_serve : IsOfAMode serve_words
  of_make : (people seed : Text) → IsOfAMode (make_words people seed)

-- where neither of two steps of a parse fails, the first doesn't
or_else_first : (first next : Kinds) → or_else first next ≡ [] → first ≡ []
or_else_first [] next e = refl
or_else_first (kind ∷ kinds) next e = e

-- nor does the second
or_else_next : (first next : Kinds) → or_else first next ≡ [] → next ≡ []
or_else_next [] next e = e
or_else_next (kind ∷ kinds) next e = cc

-- where neither of two tests is true, each is false
neither : (first next : Bool) → (first || next) ≡ false → (first ≡ false) × (next ≡ false)
neither true next e = absurd (true≢false e)
neither false next e = (refl, e)

-- a word that nothing takes is a fault
stray_fails : (s : Shape) → stray_fault s ≡ [] → ⊥
stray_fails s e = go s.is_leaf refl
  where
    go : (leaf : Bool) → s.is_leaf ≡ leaf → ⊥
    go true is = let bad = rw is at e in cc
    go false is = let bad = rw is at e in cc

-- a walk between two words, where no option waits for a value
abbrev standing : Held → ℕ → Walk
standing h position = record { held = h; waiting = idle; position = position; is_trailing = false; stopped = None }

-- a word with no dash that names no subcommand is left to the positional whose turn it is
plain_turn : (s : Shape) (names : Names) (h : Held) (position : ℕ) (word : Text) → begins_with_dash word ≡ false → find (answers_to word) names ≡ None
    → turn_fault s names (standing h position) word ≡ step_fault s position h value
plain_turn s names h position [] dash unknown = rw unknown refl
plain_turn s names h position (byte ∷ bytes) dash unknown = rw (unknown, dash, dash) refl

-- and goes to it
plain_goes : (rules : List Rule) (h : Held) (position : ℕ) (word : Text) → begins_with_dash word ≡ false
    → walked rules [] (standing h position) word ≡ to_positional rules (arg_by_index rules position) word (standing h position) h
unfolding walked
plain_goes rules h position [] dash = refl
plain_goes rules h position (byte ∷ bytes) dash = rw (dash, dash) refl

-- where a first word passes, the walk fails as it does from there
walk_goes_on : (s : Shape) (names : Names) (w next : Walk) (word : Text) (rest : List Text) → turn_fault s names w word ≡ [] → walked s.rules names w word ≡ next
    → walk_fault s names w (word ∷ rest) ≡ walk_fault s names next rest
unfolding walk_fault
walk_goes_on s names w next word rest passes goes = ap₂ (λ kinds (v : Walk). or_else kinds (walk_fault s names v rest)) passes goes

-- at a word with no dash that names no subcommand, where no positional is left, the walk fails
walk_fails : (s : Shape) (names : Names) (h : Held) (position : ℕ) (word : Text) (rest : List Text) → begins_with_dash word ≡ false → find (answers_to word) names ≡ None
    → arg_by_index s.rules position ≡ None → walk_fault s names (standing h position) (word ∷ rest) ≡ [] → ⊥
unfolding walk_fault
walk_fails s names h position word rest dash unknown none e =
    let stray : step_fault s position h value ≡ stray_fault s = rw none refl in
    stray_fails s (sym stray ∙ sym (plain_turn s names h position word dash unknown) ∙ or_else_first _ _ e)

-- once a subcommand is met, the words after it are left to it
stop_stays : (rules : List Rule) (names : Names) (w : Walk) (name : Text) (taken rest : List Text) → w.stopped ≡ Some (name, taken)
    → (fold (walked rules names) w rest).stopped ≡ Some (name, taken ++ rest)
unfolding walked
stop_stays rules names w name taken [] stopped = stopped ∙ ap (λ words. Some (name, words)) (sym (append-nil taken))
stop_stays rules names w name taken (word ∷ rest) stopped =
    stop_stays rules names (walked rules names w word) name (taken ++ word ∷ []) rest (rw stopped refl)
    ∙ ap (λ words. Some (name, words)) (append_assoc taken (word ∷ []) rest)

-- ---- the words of `make`

-- where the walk stands after its first word, and after its second
abbrev after_people : Text → Walk
after_people people = to_positional make_shape.rules (arg_by_index make_shape.rules 1) people (walk_from nothing_held) nothing_held

abbrev after_both : Text → Text → Walk
after_both people seed =
    to_positional make_shape.rules (arg_by_index make_shape.rules 2) seed (after_people people) (after_people people).held

-- the words with no dash bring it there
walks_people : (people : Text) → begins_with_dash people ≡ false → walk make_shape.rules [] nothing_held (people ∷ []) ≡ after_people people
walks_people people plain = plain_goes make_shape.rules nothing_held 1 people plain

walks_both : (people seed : Text) → begins_with_dash people ≡ false → begins_with_dash seed ≡ false
    → walk make_shape.rules [] nothing_held (people ∷ seed ∷ []) ≡ after_both people seed
walks_both people seed plain plain_seed =
    ap (λ w. walked make_shape.rules [] w seed) (walks_people people plain) ∙ plain_goes make_shape.rules (after_people people).held 2 seed plain_seed

-- neither is a fault
people_passes : (people : Text) (rest : List Text) → begins_with_dash people ≡ false
    → walk_fault make_shape [] (walk_from nothing_held) (people ∷ rest) ≡ walk_fault make_shape [] (after_people people) rest
people_passes people rest plain =
    walk_goes_on make_shape [] (walk_from nothing_held) (after_people people) people rest (plain_turn make_shape [] nothing_held 1 people plain refl) (walks_people people plain)

both_pass : (people seed : Text) (rest : List Text) → begins_with_dash people ≡ false → begins_with_dash seed ≡ false
    → walk_fault make_shape [] (walk_from nothing_held) (people ∷ seed ∷ rest) ≡ walk_fault make_shape [] (after_both people seed) rest
both_pass people seed rest plain plain_seed =
    people_passes people (seed ∷ rest) plain
    ∙ walk_goes_on make_shape [] (after_people people) (after_both people seed) seed rest (plain_turn make_shape [] (after_people people).held 2 seed plain_seed refl)
    (plain_goes make_shape.rules (after_people people).held 2 seed plain_seed)

-- how a parse of the words of `make` fails, by what its walk fails by and where it ends
abbrev make_fault : Kinds → Walk → Kinds
make_fault walking w =
    or_else walking (or_else (settle_fault make_shape.rules false w.held)
    (or_else (defaults_fault (settled make_shape.rules w.held).rows make_shape.rules) (check_fault make_shape (finished make_shape.rules w.held) false)))

-- it fails at no word
no_word_fails : level_fault make_shape [] nothing_held [] false [] ≡ [] → ⊥
unfolding clap_on_literals
no_word_fails e = let bad : MissingRequiredArgument ∷ [] ≡ [] = e in cc

-- at one
one_word_fails : (people : Text) → begins_with_dash people ≡ false → level_fault make_shape [] nothing_held (people ∷ []) false [] ≡ [] → ⊥
unfolding clap_on_literals
one_word_fails people plain e =
    let bad : MissingRequiredArgument ∷ [] ≡ [] = sym (ap₂ make_fault (people_passes people [] plain) (walks_people people plain)) ∙ e in
    cc

-- and at three and more
third_word_fails : (people seed word : Text) (rest : List Text) → begins_with_dash people ≡ false → begins_with_dash seed ≡ false → begins_with_dash word ≡ false
    → level_fault make_shape [] nothing_held (people ∷ seed ∷ word ∷ rest) false [] ≡ [] → ⊥
third_word_fails people seed word rest plain plain_seed plain_word e =
    walk_fails make_shape [] (after_both people seed).held 3 word rest plain_word refl refl (sym (both_pass people seed (word ∷ rest) plain plain_seed) ∙ or_else_first _ _ e)

-- and not at two
two_words_pass : (people seed : Text) → begins_with_dash people ≡ false → begins_with_dash seed ≡ false
    → level_fault make_shape [] nothing_held (people ∷ seed ∷ []) false [] ≡ []
unfolding clap_on_literals
two_words_pass people seed plain plain_seed = ap₂ make_fault (both_pass people seed [] plain plain_seed) (walks_both people seed plain plain_seed)

-- ---- the words of the command

-- a word other than the modes' names no subcommand
unknown_name : (word : Text) → bytes_eq (codes "step") word ≡ false → bytes_eq (codes "serve") word ≡ false → bytes_eq (codes "make") word ≡ false
    → find (answers_to word) (names_of (built command_app)) ≡ None
unknown_name word no_step no_serve no_make = rw (no_step, no_serve, no_make) refl

-- the command fails where there is no word
none_fails : fault_of command_app [] ≡ [] → ⊥
unfolding clap_on_literals
none_fails e = let bad : MissingSubcommand ∷ [] ≡ [] = e in cc

-- at a first word that is no mode's
first_fails : (word : Text) (rest : List Text) → begins_with_dash word ≡ false → bytes_eq (codes "step") word ≡ false → bytes_eq (codes "serve") word ≡ false
    → bytes_eq (codes "make") word ≡ false → fault_of command_app (word ∷ rest) ≡ [] → ⊥
first_fails word rest dash no_step no_serve no_make e =
    walk_fails (built command_app).top (names_of (built command_app)) nothing_held 1 word rest dash (unknown_name word no_step no_serve no_make) refl (or_else_first _ _ e)

-- and after a mode's word where the mode does
within_step : (rest : List Text) → fault_of command_app (codes "step" ∷ rest) ≡ [] → level_fault step_shape [] nothing_held rest false [] ≡ []
unfolding clap_on_literals
within_step rest e =
    let met = walked [] (names_of (built command_app)) (walk_from nothing_held) (codes "step") in
    let stop = stop_stays [] (names_of (built command_app)) met (codes "step") [] rest refl in
    sym (ap (entered_fault (built command_app)) stop) ∙ or_else_first _ _ (or_else_next _ _ e)

within_serve : (rest : List Text) → fault_of command_app (codes "serve" ∷ rest) ≡ [] → level_fault serve_shape [] nothing_held rest false [] ≡ []
unfolding clap_on_literals
within_serve rest e =
    let met = walked [] (names_of (built command_app)) (walk_from nothing_held) (codes "serve") in
    let stop = stop_stays [] (names_of (built command_app)) met (codes "serve") [] rest refl in
    sym (ap (entered_fault (built command_app)) stop) ∙ or_else_first _ _ (or_else_next _ _ e)

within_make : (rest : List Text) → fault_of command_app (codes "make" ∷ rest) ≡ [] → level_fault make_shape [] nothing_held rest false [] ≡ []
unfolding clap_on_literals
within_make rest e =
    let met = walked [] (names_of (built command_app)) (walk_from nothing_held) (codes "make") in
    let stop = stop_stays [] (names_of (built command_app)) met (codes "make") [] rest refl in
    sym (ap (entered_fault (built command_app)) stop) ∙ or_else_first _ _ (or_else_next _ _ e)

-- so after `step` it takes no more words
only_step : (rest : List Text) → list_any begins_with_dash rest ≡ false → level_fault step_shape [] nothing_held rest false [] ≡ [] → IsOfAMode (codes "step" ∷ rest)
only_step [] plain e = of_step
only_step (word ∷ rest) plain e = absurd (walk_fails step_shape [] nothing_held 1 word rest (neither _ _ plain).0 refl refl (or_else_first _ _ e))

-- nor after `serve`
only_serve : (rest : List Text) → list_any begins_with_dash rest ≡ false → level_fault serve_shape [] nothing_held rest false [] ≡ [] → IsOfAMode (codes "serve" ∷ rest)
only_serve [] plain e = of_serve
only_serve (word ∷ rest) plain e = absurd (walk_fails serve_shape [] nothing_held 1 word rest (neither _ _ plain).0 refl refl (or_else_first _ _ e))

-- and after `make` two
only_make : (rest : List Text) → list_any begins_with_dash rest ≡ false → level_fault make_shape [] nothing_held rest false [] ≡ [] → IsOfAMode (codes "make" ∷ rest)
only_make [] plain e = absurd (no_word_fails e)
only_make (people ∷ []) plain e = absurd (one_word_fails people (neither _ _ plain).0 e)
only_make (people ∷ seed ∷ []) plain e = of_make people seed
only_make (people ∷ seed ∷ word ∷ rest) plain e =
    let after = neither _ _ (neither _ _ plain).1 in
    absurd (third_word_fails people seed word rest (neither _ _ plain).0 after.0 (neither _ _ after.1).0 e)

-- where no word begins with `-`, the command takes the words of modes alone
pub only_modes : (words : List Text) → list_any begins_with_dash words ≡ false → fault_of command_app words ≡ [] → IsOfAMode words
only_modes [] plain e = absurd (none_fails e)
only_modes (word ∷ rest) plain e = go (bytes_eq (codes "step") word) (bytes_eq (codes "serve") word) (bytes_eq (codes "make") word) refl refl refl
  where
    is : (name : Text) → bytes_eq name word ≡ true → name ≡ word
    is name same = (bytes_eq-Decides name word).0 same

    passes : (name : Text) → name ≡ word → fault_of command_app (name ∷ rest) ≡ []
    passes name same = ap (λ first. fault_of command_app (first ∷ rest)) same ∙ e

    go : (step serve make : Bool) → bytes_eq (codes "step") word ≡ step → bytes_eq (codes "serve") word ≡ serve → bytes_eq (codes "make") word ≡ make → IsOfAMode (word ∷ rest)
    go true serve make step_is serve_is make_is =
        subst (λ first. IsOfAMode (first ∷ rest)) (is _ step_is) (only_step rest (neither _ _ plain).1 (within_step rest (passes _ (is _ step_is))))
    go false true make step_is serve_is make_is =
        subst (λ first. IsOfAMode (first ∷ rest)) (is _ serve_is) (only_serve rest (neither _ _ plain).1 (within_serve rest (passes _ (is _ serve_is))))
    go false false true step_is serve_is make_is =
        subst (λ first. IsOfAMode (first ∷ rest)) (is _ make_is) (only_make rest (neither _ _ plain).1 (within_make rest (passes _ (is _ make_is))))
    go false false false step_is serve_is make_is = absurd (first_fails word rest (neither _ _ plain).0 step_is serve_is make_is e)

-- it takes those of `make`
takes_make : (people seed : Text) → begins_with_dash people ≡ false → begins_with_dash seed ≡ false → fault_of command_app (make_words people seed) ≡ []
unfolding clap_on_literals
takes_make people seed plain plain_seed = ap (λ kinds. or_else kinds []) (two_words_pass people seed plain plain_seed)

-- and those of `step`
takes_step : fault_of command_app step_words ≡ []
unfolding clap_on_literals
takes_step = refl

-- and those of `serve`
takes_serve : fault_of command_app serve_words ≡ []
unfolding clap_on_literals
takes_serve = refl

-- so of each mode
pub takes_modes : (words : List Text) → IsOfAMode words → list_any begins_with_dash words ≡ false → fault_of command_app words ≡ []
takes_modes _ of_step plain = takes_step
takes_modes _ of_serve plain = takes_serve
takes_modes _ (of_make people seed) plain = takes_make people seed (neither _ _ plain).0 (neither _ _ (neither _ _ plain).1).0

-- in those of `step` it finds that mode
finds_step : mode_matched (subcommand_of command_app step_words) ≡ mode_of step_words
unfolding clap_on_literals
finds_step = refl

-- and in those of `serve`
finds_serve : mode_matched (subcommand_of command_app serve_words) ≡ mode_of serve_words
unfolding clap_on_literals
finds_serve = refl

-- in those of `make` the one with the two words
finds_make : (people seed : Text) → begins_with_dash people ≡ false → begins_with_dash seed ≡ false
    → mode_matched (subcommand_of command_app (make_words people seed)) ≡ make_of people seed
unfolding clap_on_literals
finds_make people seed plain plain_seed =
    ap (λ (w : Walk). mode_matched (Some (codes "make", finished make_shape.rules w.held))) (walks_both people seed plain plain_seed)

-- so the mode that the words are
pub finds_modes : (words : List Text) → IsOfAMode words → list_any begins_with_dash words ≡ false → mode_matched (subcommand_of command_app words) ≡ mode_of words
finds_modes _ of_step plain = finds_step
finds_modes _ of_serve plain = finds_serve
finds_modes _ (of_make people seed) plain = finds_make people seed (neither _ _ plain).0 (neither _ _ (neither _ _ plain).1).0

-- words that are a mode's are of a mode
pub mode_or_none : (words : List Text) → (mode_of words ≡ None) ⊎ IsOfAMode words
mode_or_none [] = inl refl
mode_or_none (word ∷ []) = go (bytes_eq word (codes "step")) (bytes_eq word (codes "serve")) refl refl
  where
    is : (name : Text) → bytes_eq word name ≡ true → name ≡ word
    is name same = sym ((bytes_eq-Decides word name).0 same)

    go : (step serve : Bool) → bytes_eq word (codes "step") ≡ step → bytes_eq word (codes "serve") ≡ serve → (mode_of (word ∷ []) ≡ None) ⊎ IsOfAMode (word ∷ [])
    go true serve step_is serve_is = inr (subst (λ first. IsOfAMode (first ∷ [])) (is _ step_is) of_step)
    go false true step_is serve_is = inr (subst (λ first. IsOfAMode (first ∷ [])) (is _ serve_is) of_serve)
    go false false step_is serve_is = inl (rw (step_is, serve_is) refl)
mode_or_none (word ∷ people ∷ []) = inl refl
mode_or_none (word ∷ people ∷ seed ∷ []) = go (bytes_eq word (codes "make")) refl
  where
    go : (same : Bool) → bytes_eq word (codes "make") ≡ same → (mode_of (word ∷ people ∷ seed ∷ []) ≡ None) ⊎ IsOfAMode (word ∷ people ∷ seed ∷ [])
    go true same = inr (subst (λ first. IsOfAMode (first ∷ people ∷ seed ∷ [])) (sym ((bytes_eq-Decides word (codes "make")).0 same)) (of_make people seed))
    go false same = inl (rw same refl)
mode_or_none (word ∷ people ∷ seed ∷ next ∷ words) = inl refl
