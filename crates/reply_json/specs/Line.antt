-- A reply as JSON.
use Rattle.std.specs.Prelude.{ℕ, List, Option, None, Some, codes, map}
use Rattle.serde_json.specs.Data.{Data, Members, null, array, object, string, put, no_members}
use Rattle.serde_json.specs.View.{items_of}
use Rattle.own_model.specs.declared.reply.Reply.{Reply}
use Rattle.own_model.specs.declared.reply.Reply.TheVariants.{Done, Counted, Rows, Got, Forgot, Graph, Ended, Refused}
use Rattle.reply_json.specs.Refused.{count_data, refused_data}
use Rattle.reply_json.specs.Rows.{got_data, row_data}
use Rattle.reply_json.specs.declared.columns.TableNames.{TableNames}

-- a place, or none
abbrev pub place_data : Option ℕ → Data
place_data None = null
place_data (Some place) = count_data place

-- which call the reply is to: its place, session and number, and the line of the input
unfoldable pub call_members : Option ℕ → ℕ → ℕ → ℕ → Members
call_members place session call line = put (codes "line") (count_data line) (put (codes "call") (count_data call)
    (put (codes "session") (count_data session) (put (codes "place") (place_data place) no_members)))

-- with the kind of a reply
abbrev pub with_kind : List ℕ → Members → Members
with_kind kind members = put (codes "kind") (string kind) members

-- texts in an array
abbrev pub texts_data : List (List ℕ) → Data
texts_data texts = array (items_of (map (λ text. string text) texts))

-- with what the reply says
abbrev pub with_reply : List (List ℕ) → List TableNames → Reply → Members → Members
with_reply columns tables Done members = with_kind (codes "ok") members
with_reply columns tables (Counted count) members = put (codes "count") (count_data count) (with_kind (codes "counted") members)
with_reply columns tables (Rows rows) members = put (codes "rows") (array (items_of (map row_data rows)))
    (put (codes "columns") (texts_data columns) (with_kind (codes "rows") members))
with_reply columns tables (Got rows) members = put (codes "rows") (array (items_of (map (got_data tables) rows))) (with_kind (codes "got") members)
with_reply columns tables (Forgot removed changed) members =
    put (codes "changed") (count_data changed) (put (codes "removed") (count_data removed) (with_kind (codes "forgot") members))
with_reply columns tables (Graph lines) members = put (codes "lines") (texts_data lines) (with_kind (codes "graph") members)
with_reply columns tables Ended members = with_kind (codes "end") members
with_reply columns tables (Refused refusal) members = put (codes "refused") (refused_data refusal) (with_kind (codes "refused") members)

-- The reply to a call, with the names of a SELECT's columns and those of each table.
unfoldable pub reply_data : Option ℕ → ℕ → ℕ → ℕ → List (List ℕ) → List TableNames → Reply → Data
reply_data place session call line columns tables reply = object (with_reply columns tables reply (call_members place session call line))
