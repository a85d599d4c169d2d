-- Histories as calls session by session, and the lines of what is replied.
use Prim.Native.String.{String}
use Rattle.std.specs.Prelude.{ℕ, ◌+◌, pos, List, [], ◌∷◌, ◌++◌, ◌==◌, Some, codes, filter, flat_map, length, map}
use Rattle.own_base.specs.declared.change.Change.{Change}
use Rattle.own_base.specs.declared.row_name.RowName.{RowName}
use Rattle.own_base.specs.declared.value.Key.TheVariants as key
use Rattle.own_model.specs.declared.history.Verdict.{Verdict}
use Rattle.own_model.specs.declared.history.Verdict.TheVariants.{Took}
use Rattle.own_model.specs.declared.request.Request.{Request}
use Rattle.own_model.specs.declared.request.Request.TheVariants.{Run}
use Rattle.own_model.specs.declared.statement.Statement.{Statement}
use Rattle.own_model.specs.Db.{Db, empty}
use Rattle.text_model.specs.Canonical.{canonical}
use Rattle.text_model.specs.Lines.{reply_lines}
use Rattle.history_model.specs.History.{History, flat, happens, world}
use Rattle.history_model.specs.Reply.{answer}
use Rattle.history_model.specs.World.{World}

-- what a session asks, and how the disk takes it
pub record Asked : Type 0 where
  pub session : ℕ
  pub request : Request
  pub verdict : Verdict

-- one request, or statements one after another, which the disk takes
abbrev pub request : ℕ → Request → List Asked
request number asked = record { session = number; request = asked; verdict = Took } ∷ []

abbrev pub session : ℕ → List Statement → List Asked
session number statements = flat_map (λ statement. request number (Run statement)) statements

-- a statement, and how the disk takes it
abbrev pub meeting : Verdict → ℕ → Statement → List Asked
meeting verdict number statement = record { session = number; request = Run statement; verdict = verdict } ∷ []

-- how many of these a session asks
abbrev pub asked_by : ℕ → List Asked → ℕ
asked_by number asked = length (filter (λ one. one.session == number) asked)

-- the entries of what is asked behind other calls: each call has its number in its session
unfoldable pub entries : List Asked → List Asked → History
entries before [] = []
entries before (one ∷ rest) = record {
  session = record { 0 = one.session };
  call = asked_by one.session before + 1;
  request = one.request;
  verdict = one.verdict;
} ∷ entries (before ++ one ∷ []) rest

-- the lines of the replies to entries, from a world on
unfoldable pub told_from : World → History → List ℕ
told_from world [] = []
told_from world (entry ∷ rest) =
    reply_lines (Some world.place) entry.session.0 entry.call (answer world entry) ++ told_from (happens world entry) rest

-- The lines of the replies to calls that come behind others, over the empty database; and to all calls of a history.
abbrev pub told_behind : List Asked → List Asked → List ℕ
told_behind before asked = told_from (world empty (entries [] before)) (entries before asked)

abbrev pub told : List Asked → List ℕ
told asked = told_behind [] asked

-- the canonical texts of statements, a line each
abbrev pub texts : List Statement → List ℕ
texts statements = flat_map (λ statement. canonical statement ++ 10 ∷ []) statements

-- lines that are written out
abbrev pub lines : List String → List ℕ
lines written = flat_map (λ line. codes line ++ 10 ∷ []) written

-- the database that calls leave, over the empty one
abbrev pub left_by : List Asked → Db
left_by asked = flat empty (entries [] asked)

-- the rows that changes are of
abbrev pub names_in : List Change → List RowName
names_in changes = map (λ change. change.name) changes

abbrev pub named : ℕ → ℕ → RowName
named table number = record { table = record { 0 = table }; key = key.Int (pos number) }
