-- How a session stands, by what is kept of it.
use Rattle.std.proofs.Common.{◌≡◌, ◌∙◌, ℕ, true, false, None, Some, ap, refl, sym, subst}
use Rattle.own_base.specs.declared.number.Place.{Place}
use Rattle.own_model.specs.Db.{Db}
use Rattle.history_model.specs.World.{Block, SessionStanding, Outside, Open, Doomed}
use Rattle.txn_core.specs.declared.session_state.SessionState.{SessionState}
use Rattle.txn_core.specs.declared.session_state.SessionState.TheVariants as kept
use Rattle.txn_core.specs.declared.txn.Txn.{Txn}
use Rattle.txn_core.specs.SessionStates.{RepresentsSession, doom_of, is_open, told}

-- nothing is kept of a session that is outside
outside_by : (flat : Db) (stood : SessionStanding) → RepresentsSession flat kept.Nothing stood → stood ≡ Outside
outside_by flat Outside stands = refl
outside_by flat (Open begun block) stands = absurd stands
outside_by flat (Doomed by) stands = absurd stands

pub stood-outside : (flat : Db) (one : SessionState) (stood : SessionStanding) → RepresentsSession flat one stood → one ≡ kept.Nothing → stood ≡ Outside
stood-outside flat one stood stands is = outside_by flat stood (subst (λ one. RepresentsSession flat one stood) is stands)

-- a transaction is open, with what is kept of it
pub record IsOpenTxn (flat : Db) (one : SessionState) (stood : SessionStanding) : Type 0 where
  pub begun : ℕ
  pub block : Block
  pub txn : Txn
  pub stands : stood ≡ Open begun block
  pub is_kept : one ≡ kept.Open txn
  pub kept_as : RepresentsSession flat (kept.Open txn) (Open begun block)

pub stood-open : (flat : Db) (one : SessionState) (stood : SessionStanding) → RepresentsSession flat one stood → is_open one ≡ true → IsOpenTxn flat one stood
stood-open flat kept.Nothing stood stands opened = let never : false ≡ true = opened in absurd (cc)
stood-open flat (kept.Doomed place) stood stands opened = let never : false ≡ true = opened in absurd (cc)
stood-open flat (kept.Open txn) Outside stands opened = absurd stands
stood-open flat (kept.Open txn) (Doomed by) stands opened = absurd stands
stood-open flat (kept.Open txn) (Open begun block) stands opened =
    record { begun = begun; block = block; txn = txn; stands = refl; is_kept = refl; kept_as = stands }

-- a doom that is to be told
pub stood-doomed : (flat : Db) (one : SessionState) (stood : SessionStanding) (place : Place) → RepresentsSession flat one stood → doom_of one ≡ Some place → stood ≡ Doomed place.0
stood-doomed flat kept.Nothing stood place stands doom = absurd (cc)
stood-doomed flat (kept.Open txn) stood place stands doom = absurd (cc)
stood-doomed flat (kept.Doomed own) Outside place stands doom = absurd stands
stood-doomed flat (kept.Doomed own) (Open begun block) place stands doom = absurd stands
stood-doomed flat (kept.Doomed own) (Doomed by) place stands doom =
    let same : own ≡ place = cc in ap (λ (n : ℕ). Doomed n) (sym stands ∙ ap (λ (p : Place). p.0) same)

pub kept-doomed : (one : SessionState) (place : Place) → doom_of one ≡ Some place → told one ≡ kept.Nothing
kept-doomed kept.Nothing place doom = refl
kept-doomed (kept.Open txn) place doom = absurd (cc)
kept-doomed (kept.Doomed own) place doom = refl

-- where there is none, the same is kept once it was asked for
pub kept-undoomed : (one : SessionState) → doom_of one ≡ None → told one ≡ one
kept-undoomed kept.Nothing none = refl
kept-undoomed (kept.Open txn) none = refl
kept-undoomed (kept.Doomed place) none = absurd (cc)

-- a session that is neither doomed nor in a transaction
pub kept-outside : (one : SessionState) → doom_of one ≡ None → is_open one ≡ false → one ≡ kept.Nothing
kept-outside kept.Nothing none closed = refl
kept-outside (kept.Open txn) none closed = let never : true ≡ false = closed in absurd (cc)
kept-outside (kept.Doomed place) none closed = absurd (cc)

-- a session that isn't doomed
abbrev pub IsUndoomed : SessionStanding → Type 0
IsUndoomed Outside = Unit {0}
IsUndoomed (Open begun block) = Unit {0}
IsUndoomed (Doomed by) = ⊥

pub stood-undoomed : (flat : Db) (one : SessionState) (stood : SessionStanding) → RepresentsSession flat one stood → doom_of one ≡ None → IsUndoomed stood
stood-undoomed flat one Outside stands none = tt
stood-undoomed flat one (Open begun block) stands none = tt
stood-undoomed flat kept.Nothing (Doomed by) stands none = absurd stands
stood-undoomed flat (kept.Open txn) (Doomed by) stands none = absurd stands
stood-undoomed flat (kept.Doomed place) (Doomed by) stands none = absurd (cc)
