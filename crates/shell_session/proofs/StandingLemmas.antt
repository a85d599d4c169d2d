-- Which sessions are in a transaction after a call more, and that these are marked.
use Rattle.std.proofs.Common.{◌≡◌, ℕ, ◌+◌, ◌-◌, ◌<◌, ◌≤◌, List, [], ◌∷◌, ◌++◌, Bool, true, false, length, arith, refl, sym, ap, subst, ◌∙◌, inl, inr, ⊎_elim}
use Rattle.std.specs.Prelude.{◌≢◌, ◌⊎◌, ◌==◌, cond, if◌then◌else◌, is_some, Option, None, Some, slice_index_or, slice_set}
use Rattle.std.specs.List.{list_any}
use Rattle.std.proofs.lemmas.Bool.{eq-eqb, eqb-false, eqb-true}
use Rattle.std.proofs.lemmas.List.{get_or-set_same, get_or-set_other}
use Rattle.std.proofs.lemmas.List.Folds.{list_any_at}
use Rattle.own_base.specs.declared.number.Place.{Place}
use Rattle.own_base.specs.declared.number.SessionNo.{SessionNo}
use Rattle.own_model.specs.declared.history.Entry.{Entry}
use Rattle.own_model.specs.declared.limit.TheConstants.{SESSIONS}
use Rattle.own_model.specs.declared.refusal.Refusal.TheVariants as refusal
use Rattle.own_model.specs.declared.reply.Reply.{Reply}
use Rattle.own_model.specs.declared.reply.Reply.TheVariants.{Refused}
use Rattle.own_model.specs.declared.request.Request.{Request}
use Rattle.own_model.specs.declared.request.Request.TheVariants.{Run, Syntax, Limit, End}
use Rattle.own_model.specs.declared.script.ScriptCall.{ScriptCall}
use Rattle.own_model.specs.declared.statement.Statement.{Statement}
use Rattle.own_model.specs.declared.statement.Statement.TheVariants as statement
use Rattle.own_model.specs.Db.{Db}
use Rattle.script_model.specs.Split.{IsOfASession}
use Rattle.history_model.specs.History.{History, after_request, after_stated, doomed_at, dooms, happens, is_conflict, is_doomed, is_failure, other_after, own_after, standing, world}
use Rattle.history_model.specs.Made.{entry_of}
use Rattle.history_model.specs.Reply.{answer}
use Rattle.history_model.specs.World.{Block, SessionStanding, Outside, Open, Doomed, World}
use Rattle.history_model.proofs.HistoryLemmas.{standing-append, standing-world, world-empty}
use Rattle.history_model.proofs.DoomTold.{told-doomed}
use Rattle.shell_session.specs.Kept.{IsMarked, effect_by, effect_of, marked}
use Rattle.shell_session.specs.declared.book.Effect.{Effect}
use Rattle.shell_session.specs.declared.book.Effect.TheVariants.{Opens, Closes, Leaves}

-- in a transaction
abbrev pub IsOpen : SessionStanding → Type 0
IsOpen stands = (begun : ℕ) × (block : Block) × (stands ≡ Open begun block)

-- before a request of its own that leaves it in one: it was in it, or begins it
abbrev pub IsOpenBy : SessionStanding → Effect → Type 0
IsOpenBy before Opens = Unit {0}
IsOpenBy before Closes = ⊥
IsOpenBy before Leaves = IsOpen before

stated-open : (place begun : ℕ) (block : Block) (asked : Statement) (conflicts : Bool) → IsOpen (after_stated place begun block asked conflicts) → IsOpenBy (Open begun block) (effect_of (Run asked))
stated-open place begun block (statement.Select select) conflicts opened = (begun, block, refl)
stated-open place begun block (statement.Insert table columns rows) conflicts opened = (begun, block, refl)
stated-open place begun block (statement.Update table sets cond) conflicts opened = (begun, block, refl)
stated-open place begun block (statement.Delete table cond) conflicts opened = (begun, block, refl)
stated-open place begun block (statement.CreateTable table) conflicts opened = (begun, block, refl)
stated-open place begun block (statement.CreateView view) conflicts opened = (begun, block, refl)
stated-open place begun block (statement.GdprGet table key) conflicts opened = (begun, block, refl)
stated-open place begun block (statement.GdprForget table key) conflicts opened = (begun, block, refl)
stated-open place begun block statement.Begin conflicts opened = tt
stated-open place begun block statement.Commit conflicts opened = let never : ◌≡◌ {A = SessionStanding} Outside (Open opened.0 opened.1) = opened.2 in cc
stated-open place begun block statement.Rollback conflicts opened = let never : ◌≡◌ {A = SessionStanding} Outside (Open opened.0 opened.1) = opened.2 in cc
stated-open place begun block statement.Checkpoint conflicts opened = (begun, block, refl)
stated-open place begun block statement.Explain conflicts opened = (begun, block, refl)

outside-open : (place : ℕ) (asked : Statement) (conflicts : Bool) → IsOpen (after_request place Outside (Run asked) conflicts) → IsOpenBy Outside (effect_of (Run asked))
outside-open place (statement.Select select) conflicts opened = cc
outside-open place (statement.Insert table columns rows) conflicts opened = cc
outside-open place (statement.Update table sets cond) conflicts opened = cc
outside-open place (statement.Delete table cond) conflicts opened = cc
outside-open place (statement.CreateTable table) conflicts opened = cc
outside-open place (statement.CreateView view) conflicts opened = cc
outside-open place (statement.GdprGet table key) conflicts opened = cc
outside-open place (statement.GdprForget table key) conflicts opened = cc
outside-open place statement.Begin conflicts opened = tt
outside-open place statement.Commit conflicts opened = cc
outside-open place statement.Rollback conflicts opened = cc
outside-open place statement.Checkpoint conflicts opened = cc
outside-open place statement.Explain conflicts opened = cc

request-open : (place : ℕ) (before : SessionStanding) (request : Request) (conflicts : Bool) → IsOpen (after_request place before request conflicts) → IsOpenBy before (effect_of request)
request-open place (Doomed by) request conflicts opened = let never : ◌≡◌ {A = SessionStanding} Outside (Open opened.0 opened.1) = opened.2 in cc
request-open place Outside (Run asked) conflicts opened = outside-open place asked conflicts opened
request-open place Outside (Syntax byte) conflicts opened = let never : ◌≡◌ {A = SessionStanding} Outside (Open opened.0 opened.1) = opened.2 in cc
request-open place Outside (Limit passed) conflicts opened = let never : ◌≡◌ {A = SessionStanding} Outside (Open opened.0 opened.1) = opened.2 in cc
request-open place Outside End conflicts opened = let never : ◌≡◌ {A = SessionStanding} Outside (Open opened.0 opened.1) = opened.2 in cc
request-open place (Open begun block) (Run asked) conflicts opened = stated-open place begun block asked conflicts opened
request-open place (Open begun block) (Syntax byte) conflicts opened = (begun, block, refl)
request-open place (Open begun block) (Limit passed) conflicts opened = (begun, block, refl)
request-open place (Open begun block) End conflicts opened = let never : ◌≡◌ {A = SessionStanding} Outside (Open opened.0 opened.1) = opened.2 in cc

-- another session's call opens none
doomed-open : (place : ℕ) (before : SessionStanding) → IsOpen (doomed_at place before) → IsOpen before
doomed-open place Outside opened = opened
doomed-open place (Open begun block) opened = (begun, block, refl)
doomed-open place (Doomed by) opened = opened

other-open : (place : ℕ) (before : SessionStanding) (dooms_it : Bool) → IsOpen (if dooms_it then doomed_at place before else before) → IsOpen before
other-open place before true opened = doomed-open place before opened
other-open place before false opened = opened

-- the doom that a reply tells
doom_told : (told : Reply) → is_doomed told ≡ true → (place : Place) × (told ≡ Refused (refusal.Doomed place))
doom_told (Refused (refusal.Doomed place)) is = (place, refl)
doom_told _ is = let never : false ≡ true = is in cc

-- a session that is told its doom is in no transaction after it
module _ (place : ℕ) (before : SessionStanding) (request : Request) (conflicts : Bool) (told : Reply) (doomed : (by : Place) → told ≡ Refused (refusal.Doomed by) → before ≡ Doomed by.0)
    (opened : IsOpen (after_request place before request conflicts)) where
  told-open : IsOpenBy before (effect_by (effect_of request) told)
  told-open = by (is_doomed told) refl
    where
      by : (is : Bool) → is_doomed told ≡ is → IsOpenBy before (if is then Closes else effect_of request)
      by true is =
          let doom = doom_told told is in
          let after : IsOpen (after_request place (Doomed doom.0.0) request conflicts) = subst (λ stands. IsOpen (after_request place stands request conflicts)) (doomed doom.0 doom.1) opened in
          let never : ◌≡◌ {A = SessionStanding} Outside (Open after.0 after.1) = after.2 in cc
      by false is = request-open place before request conflicts opened

-- what a session of its own is after its entry, by whether the answer came for want of the disk
own-open : (place : ℕ) (before : SessionStanding) (request : Request) (told : Reply) → ((by : Place) → told ≡ Refused (refusal.Doomed by) → before ≡ Doomed by.0) → (conflicts fails : Bool)
    → IsOpen (if fails then before else after_request place before request conflicts)
    → ((fails ≡ true) × IsOpen before) ⊎ ((fails ≡ false) × IsOpenBy before (effect_by (effect_of request) told))
own-open place before request told doomed conflicts true opened = inl (refl, opened)
own-open place before request told doomed conflicts false opened = inr (refl, told-open place before request conflicts told doomed opened)

-- marks: that of another session stays,
mark-other : (marks : List Bool) (session by : ℕ) (effect : Effect) → 1 ≤ by → session ≢ by → IsMarked marks session → IsMarked (marked marks by effect) session
mark-other marks session by Opens from other is =
    let some = is.some in
    record {
      some = is.some;
      within = is.within;
      marked = get_or-set_other marks (by - 1) (session - 1) true false (λ same. other (omega (arith, same, some, from))) ∙ is.marked;
    }
mark-other marks session by Closes from other is =
    let some = is.some in
    record {
      some = is.some;
      within = is.within;
      marked = get_or-set_other marks (by - 1) (session - 1) false false (λ same. other (omega (arith, same, some, from))) ∙ is.marked;
    }
mark-other marks session by Leaves from other is = is

-- and one that begins a transaction is marked
mark-own : (marks : List Bool) (session : ℕ) (effect : Effect) (before : SessionStanding) → length marks ≡ 16 → 1 ≤ session → session ≤ SESSIONS → IsOpenBy before effect
    → (IsOpen before → IsMarked marks session) → IsMarked (marked marks session effect) session
mark-own marks session Opens before long from to opened was = record {
  some = from;
  within = to;
  marked = get_or-set_same marks (session - 1) true false (omega (arith, long, from, to));
}
mark-own marks session Closes before long from to opened was = absurd opened
mark-own marks session Leaves before long from to opened was = was opened

-- the marks after a call of a session: where it was answered for want of the disk, those before
abbrev pub marks_after : List Bool → ℕ → Effect → Bool → List Bool
marks_after marks session effect fails = if fails then marks else marked marks session effect

marks-own : (marks : List Bool) (session : ℕ) (effect : Effect) (before : SessionStanding) (fails : Bool) → length marks ≡ 16 → 1 ≤ session → session ≤ SESSIONS
    → ((fails ≡ true) × IsOpen before) ⊎ ((fails ≡ false) × IsOpenBy before effect) → (IsOpen before → IsMarked marks session)
    → IsMarked (marks_after marks session effect fails) session
marks-own marks session effect before true long from to (inl still) was = was still.1
marks-own marks session effect before true long from to (inr goes) was = let never = goes.0 in cc
marks-own marks session effect before false long from to (inl still) was = let never = still.0 in cc
marks-own marks session effect before false long from to (inr goes) was = mark-own marks session effect before long from to goes.1 was

marks-other : (marks : List Bool) (session by : ℕ) (effect : Effect) (fails : Bool) → 1 ≤ by → session ≢ by → IsMarked marks session → IsMarked (marks_after marks by effect fails) session
marks-other marks session by effect true from other is = is
marks-other marks session by effect false from other is = mark-other marks session by effect from other is

-- one of the two
same_or_not : (a b : ℕ) → (a ≡ b) ⊎ (((a == b) ≡ false) × (a ≢ b))
same_or_not a b = decided (a == b) refl
  where
    decided : (is : Bool) → (a == b) ≡ is → (a ≡ b) ⊎ (((a == b) ≡ false) × (a ≢ b))
    decided true is = inl (eqb-true a b is)
    decided false is = inr (is, eqb-false a b is)

module _ (base : Db) (before : History) (call : Entry) (told : Reply) (answered : answer (world base before) call ≡ told) where
  -- how sessions stand after the call
  stands-own : standing base (before ++ call ∷ []) call.session.0 ≡ own_after (world base before) call told
  stands-own =
      let now = world base before in
      let session = call.session.0 in
      standing-append base before call session
      ∙ (ap (λ is. if is then own_after now call (answer now call) else other_after now call (answer now call) session) (eq-eqb session session refl)
      ∙ ap (own_after now call) answered)

  stands-other : (session : ℕ) → (session == call.session.0) ≡ false → standing base (before ++ call ∷ []) session ≡ other_after (world base before) call told session
  stands-other session other =
      let now = world base before in
      standing-append base before call session
      ∙ (ap (λ is. if is then own_after now call (answer now call) else other_after now call (answer now call) session) other
      ∙ ap (λ told. other_after now call told session) answered)

  -- Each session that is in a transaction then is marked, where each was that was in one before.
  pub marks-made : (marks : List Bool) → length marks ≡ 16 → 1 ≤ call.session.0 → call.session.0 ≤ SESSIONS
      → ((session begun : ℕ) (block : Block) → standing base before session ≡ Open begun block → IsMarked marks session)
      → (session begun : ℕ) (block : Block) → standing base (before ++ call ∷ []) session ≡ Open begun block
      → IsMarked (marks_after marks call.session.0 (effect_by (effect_of call.request) told) (is_failure told)) session
  marks-made marks long from to kept session begun block opened =
      let was : (other : ℕ) → IsOpen ((world base before).standing other) → IsMarked marks other =
      λ other opened. kept other opened.0 opened.1 (standing-world base before other ∙ opened.2) in
      ⊎_elim
      (λ same. subst (IsMarked (marks_after marks call.session.0 (effect_by (effect_of call.request) told) (is_failure told))) (sym same)
      (marks-own marks call.session.0 (effect_by (effect_of call.request) told) ((world base before).standing call.session.0) (is_failure told) long from to
      (own-open (world base before).place ((world base before).standing call.session.0) call.request told (λ by is. told-doomed (world base before) call by.0 (answered ∙ is)) (is_conflict told) (is_failure told)
      (begun, block, sym stands-own ∙ (ap (standing base (before ++ call ∷ [])) (sym same) ∙ opened))) (was call.session.0)))
      (λ other. marks-other marks session call.session.0 (effect_by (effect_of call.request) told) (is_failure told) from other.1
      (was session (other-open (world base before).place ((world base before).standing session) (dooms (world base before) call told session)
      (begun, block, sym (stands-other session other.0) ∙ opened))))
      (same_or_not session call.session.0)

-- before any call no session is in one
pub none-open : (base : Db) (session begun : ℕ) (block : Block) → standing base [] session ≢ Open begun block
unfolding standing
none-open base session begun block opened = let outside = ap (λ w. w.standing session) (world-empty base) in let never : ◌≡◌ {A = SessionStanding} Outside (Open begun block) = sym outside ∙ opened in cc

-- where none is marked, none is in one
pub unmarked : (marks : List Bool) (session : ℕ) → length marks ≡ 16 → list_any (λ mark. mark) marks ≡ false → IsMarked marks session → ⊥
unmarked marks session long none is =
    let some = is.some in
    let within = is.within in
    let any = list_any_at (λ mark. mark) marks (session - 1) false (omega (arith, some, within, long)) is.marked in
    cc
