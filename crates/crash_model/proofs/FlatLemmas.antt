-- An entry that is no commit leaves the flat database as it was.
use Rattle.std.proofs.Common.{◌≡◌, ℕ, ◌+◌, List, [], ◌∷◌, ◌++◌, Bool, true, false, length, refl, ap, sym, subst, ◌∙◌, arith}
use Rattle.std.specs.Prelude.{◌==◌, ◌||◌, ◌&&◌, not, if◌then◌else◌}
use Rattle.std.specs.List.{AllByRecursion}
use Rattle.std.proofs.lemmas.Bool.{eqb-true, or_parts}
use Rattle.own_base.specs.declared.change.Change.{Change}
use Rattle.own_model.specs.declared.history.Entry.{Entry}
use Rattle.own_model.specs.declared.request.Request.{Request}
use Rattle.own_model.specs.declared.request.Request.TheVariants.{Run, Syntax, Limit, End}
use Rattle.own_model.specs.declared.schema.TableDef.{TableDef}
use Rattle.own_model.specs.declared.statement.Statement.{Statement}
use Rattle.own_model.specs.declared.statement.Statement.TheVariants as statement
use Rattle.own_model.specs.Db.{AreRising, Db, IsOrdered, Row}
use Rattle.page_model.specs.Changed.{with_changes}
use Rattle.state_model.specs.Net.{net}
use Rattle.state_model.specs.Put.{put_from, put_rows}
use Rattle.state_model.specs.Sound.{Sound}
use Rattle.state_model.proofs.NetLeads.{net_put}
use Rattle.run_model.proofs.Outcomes.{AddsNothing}
use Rattle.run_model.proofs.SameSchema.{IsSameSchema, same_schema-run}
use Rattle.history_model.specs.Commits.{is_commit, is_create}
use Rattle.history_model.specs.History.{History, flat, flat_after, left_by, world as world_of}
use Rattle.history_model.specs.Reply.{answer, changes, is_refusal}
use Rattle.history_model.specs.Serial.{IsHistory}
use Rattle.history_model.specs.World.{Block, SessionStanding, Outside, Open, Doomed, World}
use Rattle.history_model.proofs.BlockLemmas.{creates-block, schema-block}
use Rattle.history_model.proofs.EveryHistory.{serial-world}
use Rattle.history_model.proofs.HistoryLemmas.{flat-append}
use Rattle.history_model.proofs.Worlds.{IsStanding}

-- no change put into rows leaves them
put_none : (number : ℕ) (tables : List TableDef) (rows : List (List Row)) → AreRising tables rows → put_from number tables [] rows ≡ rows
unfolding put_from with_changes
put_none number [] [] rising = refl
put_none number [] (first ∷ rest) rising = absurd rising
put_none number (table ∷ tables) [] rising = absurd rising
put_none number (table ∷ tables) (first ∷ rest) rising = ap (λ rest. first ∷ rest) (put_none (number + 1) tables rest rising.1)

no_length : (list : List Change) → (length list == 0) ≡ true → list ≡ []
no_length [] is = refl
no_length (change ∷ list) is = let never = eqb-true (length (change ∷ list)) 0 is in absurd (omega arith)

not_false : (b : Bool) → not b ≡ false → b ≡ true
not_false true is = refl
not_false false is = sym is

-- two databases of one schema and the same creates are one, where nothing changes from the one to the other
same_db : (db other : Db) → IsOrdered db → IsOrdered other → IsSameSchema db other → changes db other ≡ false → other ≡ db
same_db db other ordered ordered_other same none =
    let empty : net db other ≡ [] = no_length (net db other) (not_false _ none) in
    let rows : other.rows ≡ db.rows =
    sym (net_put db other ordered ordered_other same.schema)
    ∙ (ap (λ changes. put_rows db.schema.tables changes db.rows) empty ∙ put_none 0 db.schema.tables db.rows ordered.rising) in
    λ i. record { creates = same.creates i; schema = same.schema i; rows = rows i }

-- what an accepted request that creates nothing leaves is of the same schema and the same creates
adds_nothing : (asked : Statement) → is_create (Run asked) ≡ false → AddsNothing asked
adds_nothing (statement.CreateTable table) none = absurd (cc)
adds_nothing (statement.CreateView view) none = absurd (cc)
adds_nothing _ none = tt

same_itself : (db : Db) → IsSameSchema db db
same_itself db = record { schema = refl; creates = refl }

module _ (base : Db) (history : History) (db : Db) (session : ℕ) where
  same_inside : (begun : ℕ) (block : Block) → IsStanding base history db session (Open begun block) → (asked : Statement)
      → IsSameSchema db (left_by db (Open begun block) (Run asked))
  same_inside begun block stands statement.Commit =
      record { schema = schema-block (length history) db block stands.stated; creates = creates-block (length history) db block stands.stated }
  same_inside begun block stands _ = same_itself db

  -- nor does what a session leaves by a request that is no create alter the schema or the creates
  pub same_left : (standing : SessionStanding) → IsStanding base history db session standing → (request : Request) → is_create request ≡ false
      → IsSameSchema db (left_by db standing request)
  same_left Outside stands (Run asked) none = same_schema-run db asked (adds_nothing asked none)
  same_left (Open begun block) stands (Run asked) none = same_inside begun block stands asked
  same_left (Doomed by) stands (Run asked) none = same_itself db
  same_left Outside stands (Syntax byte) none = same_itself db
  same_left Outside stands (Limit passed) none = same_itself db
  same_left Outside stands End none = same_itself db
  same_left (Open begun block) stands (Syntax byte) none = same_itself db
  same_left (Open begun block) stands (Limit passed) none = same_itself db
  same_left (Open begun block) stands End none = same_itself db
  same_left (Doomed by) stands (Syntax byte) none = same_itself db
  same_left (Doomed by) stands (Limit passed) none = same_itself db
  same_left (Doomed by) stands End none = same_itself db

-- what an entry leaves that is no commit: by whether it is refused
unless_commit : (refused creates : Bool) (db left : Db) → (not refused && (creates || changes db (if refused then db else left))) ≡ false
    → (refused ≡ false → creates ≡ false → changes db left ≡ false → left ≡ db) → (if refused then db else left) ≡ db
unless_commit true creates db left none same = refl
unless_commit false creates db left none same = let parts = or_parts _ _ none in same refl parts.0 parts.1

-- a history up to its last entries
all_front : {X : Type 0} (P : X → Type 0) (xs ys : List X) → AllByRecursion P (xs ++ ys) → AllByRecursion P xs
all_front P [] ys all = tt
all_front P (x ∷ xs) ys all = (all.0, all_front P xs ys all.1)

pub history-front : (history more : History) → IsHistory (history ++ more) → IsHistory history
history-front history more entered = all_front _ history more entered

module _ (base : Db) (history : History) (entry : Entry) (sound : Sound base) (entered : IsHistory (history ++ entry ∷ [])) where
  abbrev now : World
  now = world_of base history

  ordered_after : IsOrdered (flat_after now entry (answer now entry))
  unfolding flat
  ordered_after =
      let next = serial-world base (history ++ entry ∷ []) sound entered in
      subst IsOrdered (flat-append base history entry) next.sound.well_formed.ordered

  ordered_now : IsOrdered now.flat
  ordered_now = (serial-world base history sound (history-front history (entry ∷ []) entered)).sound.well_formed.ordered

  abbrev left : Db
  left = left_by now.flat (now.standing entry.session.0) entry.request

  accepted_same : is_refusal (answer now entry) ≡ false → is_create entry.request ≡ false → changes now.flat left ≡ false → left ≡ now.flat
  accepted_same accepted creates_none none =
      let goes : flat_after now entry (answer now entry) ≡ left = ap (λ refused. if refused then now.flat else left) accepted in
      let stands = (serial-world base history sound (history-front history (entry ∷ []) entered)).stands entry.session.0 in
      let same = same_left base history now.flat entry.session.0 (now.standing entry.session.0) stands entry.request creates_none in
      same_db now.flat left ordered_now (subst IsOrdered goes ordered_after) same none

  pub flat-same : is_commit now entry (answer now entry) ≡ false → flat base (history ++ entry ∷ []) ≡ flat base history
  unfolding flat
  flat-same none = flat-append base history entry ∙ unless_commit _ _ now.flat left none accepted_same
