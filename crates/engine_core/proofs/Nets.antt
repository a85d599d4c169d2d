-- Changes that there are, and that there are not.
use Rattle.std.proofs.Common.{◌≡◌, ℕ, ◌+◌, List, [], ◌∷◌, ◌++◌, length, Bool, true, false, not, refl, ap, sym, ◌∙◌, subst, arith}
use Rattle.std.specs.Prelude.{◌≢◌, ◌==◌, Option, None, filter_map, find}
use Rattle.std.proofs.lemmas.Bool.{eqb-true, ne_eqb}
use Rattle.own_base.specs.declared.change.Change.{Change}
use Rattle.own_model.specs.declared.history.Verdict.{Verdict}
use Rattle.own_model.specs.declared.reply.Reply.{Reply}
use Rattle.own_model.specs.declared.schema.TableDef.{TableDef}
use Rattle.own_model.specs.Db.{AreRising, Db, IsOrdered, Row}
use Rattle.own_model.specs.Stored.{has_key}
use Rattle.page_model.specs.Changed.{with_changes}
use Rattle.ref_index.specs.Tells.{Tell}
use Rattle.ref_index.proofs.TellLemmas.{net_tells}
use Rattle.state_model.specs.LeadTo.{LeadTo}
use Rattle.state_model.specs.Net.{change_at, keys_in, net, net_from, net_in}
use Rattle.state_model.proofs.NetLeads.{net_leads, net_put}
use Rattle.state_model.proofs.SameLemmas.{state_same}
use Rattle.state_model.specs.Payload.{payload_bytes}
use Rattle.state_model.specs.CommitRefusal.{commit_refusal}
use Rattle.state_model.specs.Put.{put, put_from, put_rows}
use Rattle.state_model.specs.Sound.{Sound}
use Rattle.history_model.specs.Reply.{changes, committing, is_refusal}

-- ---- whether there are any

-- no row of a database differs from itself
none_given : {X Y : Type 0} (give : X → Option Y) → ((x : X) → give x ≡ None) → (xs : List X) → filter_map give xs ≡ []
none_given give none [] = refl
none_given give none (x ∷ xs) = rw (none x) (none_given give none xs)

net_in-same : (number : ℕ) (table : TableDef) (rows : List Row) → net_in number table rows rows ≡ []
net_in-same number table rows = none_given (change_at number table rows rows) (λ key. rw (state_same (find (has_key table key) rows)) refl) (keys_in table (rows ++ rows))

net_from-same : (number : ℕ) (tables : List TableDef) (rows : List (List Row)) → net_from number tables rows rows ≡ []
unfolding net_from
net_from-same number [] rows = refl
net_from-same number (table ∷ tables) [] = refl
net_from-same number (table ∷ tables) (one ∷ rows) = rw (net_in-same number table one) (net_from-same (number + 1) tables rows)

net-same : (db : Db) → net db db ≡ []
unfolding net
net-same db = net_from-same 0 db.schema.tables db.rows

-- so nothing changes
pub changes-same : (db : Db) → changes db db ≡ false
changes-same db = rw (net-same db) refl

-- where there are some, something does
some-counted : (list : List Change) → list ≢ [] → not (length list == 0) ≡ true
some-counted [] some = absurd (some refl)
some-counted (change ∷ list) some = ap not (ne_eqb (length (change ∷ list)) 0 (λ none. absurd (omega arith)))

pub changes-some : (before after : Db) (list : List Change) → list ≡ net before after → list ≢ [] → changes before after ≡ true
changes-some before after list is some = ap (λ (list : List Change). not (length list == 0)) (sym is) ∙ some-counted list some

-- no change leaves the rows
put-none : (number : ℕ) (tables : List TableDef) (rows : List (List Row)) → AreRising tables rows → put_from number tables [] rows ≡ rows
unfolding put_from with_changes
put-none number [] [] rising = refl
put-none number [] (first ∷ rest) rising = absurd rising
put-none number (table ∷ tables) [] rising = absurd rising
put-none number (table ∷ tables) (first ∷ rest) rising = ap (λ rest. first ∷ rest) (put-none (number + 1) tables rest rising.1)

none-counted : (list : List Change) → not (length list == 0) ≡ false → list ≡ []
none-counted [] none = refl
none-counted (change ∷ list) none = let never : false ≡ true = sym none ∙ some-counted (change ∷ list) (λ is. let none : length (change ∷ list) ≡ 0 = ap length is in absurd (omega arith)) in absurd (cc)

-- where nothing changes the rows are the same
pub rows-unchanged : (before after : Db) → IsOrdered before → IsOrdered after → after.schema ≡ before.schema → changes before after ≡ false → after.rows ≡ before.rows
rows-unchanged before after ordered_before ordered_after schema unchanged =
    let none = none-counted (net before after) unchanged in
    sym (net_put before after ordered_before ordered_after schema)
    ∙ (ap (λ list. put_rows before.schema.tables list before.rows) none ∙ put-none 0 before.schema.tables before.rows ordered_before.rising)

pub none-of : (list : List Change) → (length list == 0) ≡ true → list ≡ []
none-of [] is = refl
none-of (change ∷ list) is = let never = eqb-true (length (change ∷ list)) 0 is in absurd (omega arith)

-- a net leads to what it is put into
pub lead-net : (db next : Db) (list : List Change) → IsOrdered db → IsOrdered (put db list) → next ≡ put db list → list ≡ net db (put db list) → LeadTo db next list
lead-net db next list before after next_is is =
    subst (λ next. LeadTo db next list) (sym next_is) (subst (LeadTo db (put db list)) (sym is) (net_leads db (put db list) before after refl))

-- a net tells what stands
pub tells-net : (db : Db) (list : List Change) → IsOrdered db → IsOrdered (put db list) → list ≡ net db (put db list) → Tell db list
tells-net db list before after is = subst (Tell db) (sym is) (net_tells db (put db list) before after refl)

-- ---- a commit of none

module _ (db : Db) (sound : Sound db) where
  changed-none : put db [] ≡ db
  changed-none = ap (λ rows. record db { rows = rows }) (put-none 0 db.schema.tables db.rows sound.well_formed.ordered.rising)

  -- leaves the database
  pub left-none : (list : List Change) → list ≡ [] → put db list ≡ db
  left-none list none = ap (put db) none ∙ changed-none

  accepts : commit_refusal db db ≡ None
  unfolding commit_refusal payload_bytes
  accepts = rw (sound.faultless, net-same db) refl

  step : (refused : Bool) (verdict : Verdict) (reply : Reply) → is_refusal reply ≡ refused → committing verdict false None reply ≡ reply
  step true verdict reply is = rw is refl
  step false verdict reply is = rw is refl

  -- and is told as it ran, whatever the disk says
  pub told-none : (verdict : Verdict) (list : List Change) (reply : Reply) → list ≡ [] → committing verdict (changes db (put db list)) (commit_refusal db (put db list)) reply ≡ reply
  told-none verdict list reply none =
      let same = left-none list none in
      rw (same, changes-same db, accepts) (step (is_refusal reply) verdict reply refl)
