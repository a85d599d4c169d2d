-- Answers by what the disk says of them, and calls that don't ask it.
use Rattle.std.proofs.Common.{◌≡◌, ◌≢◌, ◌∙◌, ℕ, Bool, true, false, None, Some, ap, inl, inr, refl, subst, sym}
use Rattle.std.specs.Prelude.{◌⊎◌, ◌+◌, ◌++◌, ◌∷◌, ◌&&◌, ◌||◌, List, [], Ok, Option, filter_map, find, is_some, not, if◌then◌else◌}
use Rattle.std.proofs.lemmas.Bool.{or_parts}
use Rattle.own_base.specs.declared.number.Area.{Area}
use Rattle.own_base.specs.declared.number.Area.TheVariants.{A, B}
use Rattle.own_model.specs.declared.history.Entry.{Entry}
use Rattle.own_model.specs.declared.history.Verdict.{Verdict}
use Rattle.own_model.specs.declared.history.Verdict.TheVariants.{Took, DiskFault}
use Rattle.own_model.specs.declared.refusal.Refusal.TheVariants.{Disk}
use Rattle.own_model.specs.declared.reply.Reply.{Reply}
use Rattle.own_model.specs.declared.reply.Reply.TheVariants.{Refused}
use Rattle.own_model.specs.declared.schema.TableDef.{TableDef}
use Rattle.own_model.specs.Db.{Db, Row}
use Rattle.own_model.specs.Stored.{has_key}
use Rattle.state_model.specs.Net.{change_at, keys_in, net, net_from, net_in}
use Rattle.state_model.proofs.SameLemmas.{state_same}
use Rattle.history_model.specs.AsksDisk.{asks_disk, under}
use Rattle.history_model.specs.Commits.{is_commit, is_create}
use Rattle.history_model.specs.History.{History, flat_after, happens, is_disk, left_by, world}
use Rattle.history_model.specs.Reply.{answer, by_verdict, changes, is_refusal}
use Rattle.history_model.specs.World.{World}
use Rattle.history_model.proofs.Working.{answer-works}
use Rattle.store_disk.specs.declared.store_disk.StoreDisk.{StoreDisk}
use Rattle.crash_model.specs.Room.{bytes_written, lays_anew}
use Rattle.engine_core.specs.Answered.{IsDecided, commits}
use Rattle.engine_core.specs.RepresentsWorld.{IsEvent, RepresentsWorld, Serves, ServesAlone}
use Rattle.engine_core.specs.Stored.{Carries, IsUp}
use Rattle.engine_core.specs.declared.prepared.Prepared.{Prepared}
use Rattle.engine_core.specs.declared.state.State.{State}
use Rattle.engine_core.proofs.Carried.{carries-same}

-- an entry that the disk took is itself as one that the disk took
pub under-took : (entry : Entry) → entry.verdict ≡ Took → under Took entry ≡ entry
under-took entry took = λ i. record entry { verdict = sym took i }

-- it may come behind the same histories, whatever the disk said of it
abbrev pub event-under : (history : History) (entry : Entry) (before : State) (verdict : Verdict) → IsEvent before history entry → IsEvent before history (under verdict entry)
event-under history entry before verdict event = record {
  entries = event.entries;
  begun = event.begun;
  stands = event.stands;
  up = event.up;
  is_entry = record { readable = event.is_entry.readable; first = event.is_entry.first; last = event.is_entry.last };
}

-- where something is prepared, the reply is by what the disk said of that
pub decided-by : (given : Verdict → Reply) (next : Option Prepared) → IsDecided given next → next ≢ None → (verdict : Verdict) → given verdict ≡ by_verdict verdict (given Took)
decided-by given None decided some verdict = absurd (some refl)
decided-by given (Some prepared) decided some verdict = decided verdict

-- and the disk is asked just there
pub disk-decided : (given : Verdict → Reply) (next : Option Prepared) → IsDecided given next → is_disk (given Took) ≡ false → is_disk (given DiskFault) ≡ is_some next
disk-decided given None decided works = ap is_disk (decided DiskFault) ∙ works
disk-decided given (Some prepared) decided works = ap is_disk (decided DiskFault)

-- a database differs from itself in no row
none_given : {X Y : Type 0} (give : X → Option Y) → ((x : X) → give x ≡ None) → (xs : List X) → filter_map give xs ≡ []
none_given give none [] = refl
none_given give none (x ∷ xs) = rw (none x) (none_given give none xs)

net_in-same : (number : ℕ) (table : TableDef) (rows : List Row) → net_in number table rows rows ≡ []
net_in-same number table rows = none_given (change_at number table rows rows) (λ key. rw (state_same (find (has_key table key) rows)) refl) (keys_in table (rows ++ rows))

net_from-same : (number : ℕ) (tables : List TableDef) (rows : List (List Row)) → net_from number tables rows rows ≡ []
unfolding net_from
net_from-same number [] rows = refl
net_from-same number (table ∷ tables) [] = refl
net_from-same number (table ∷ tables) (one ∷ rows) = rw (net_in-same number table one) (net_from-same (number + 1) tables rows)

net_same : (db : Db) → net db db ≡ []
unfolding net
net_same db = net_from-same 0 db.schema.tables db.rows

pub unchanged-same : (db : Db) → changes db db ≡ false
unchanged-same db = rw (net_same db) refl

module _ (now : World) (entry : Entry) where
  -- what is answered where the disk took it is no fault of the disk
  pub took-works : entry.verdict ≡ Took → now.down ≡ None → is_disk (answer now entry) ≡ false
  took-works took up = (or_parts _ _ (answer-works now entry took up)).0

  -- the disk is asked where its fault would be the answer
  pub asks-is : (reply : Reply) → answer now (under DiskFault entry) ≡ reply → asks_disk now entry ≡ is_disk reply
  unfolding asks_disk
  asks-is reply is = ap is_disk is

  commit_by : (refused creates : Bool) (behind left : Db) → left ≡ behind → is_create entry.request ≡ creates
      → (not refused && (is_create entry.request || changes now.flat (if refused then now.flat else left))) ≡ (not refused && (creates || changes now.flat behind))
  commit_by true creates behind left same is = refl
  commit_by false creates behind left same is = rw (same, is) refl

  -- whether an entry commits is whether its reply leaves another database as a commit does
  pub commit-is : (told : Reply) (creates : Bool) (behind : Db) → left_by now.flat (now.standing entry.session.0) entry.request ≡ behind → is_create entry.request ≡ creates
      → is_commit now entry told ≡ commits creates now.flat behind told
  commit-is told creates behind left is = commit_by (is_refusal told) creates behind _ left is

  -- one that is refused doesn't, nor one that creates nothing and leaves the database
  pub commit-none : (told : Reply) → flat_after now entry told ≡ now.flat → (is_refusal told ≡ true) ⊎ (is_create entry.request ≡ false) → is_commit now entry told ≡ false
  commit-none told same (inl refused) = rw refused refl
  commit-none told same (inr none) = rw (none, same, unchanged-same now.flat) (by (is_refusal told))
    where
      by : (b : Bool) → (not b && false) ≡ false
      by true = refl
      by false = refl

module _ (history : History) (entry : Entry) (before after : State) (event : IsEvent before history entry) where
  abbrev now : World
  now = world before.opened history

  -- the disk failed, whatever the state is then
  pub serves-fault : answer (world before.opened history) (under DiskFault entry) ≡ Refused Disk → Serves {E = ℕ} before.opened after history entry (Ok (DiskFault, Refused Disk))
  serves-fault told = (told, λ other. absurd (other refl), refl)

  -- an entry that is answered so whatever the disk says
  module _ (reply : Reply) (serves : (verdict : Verdict) → ServesAlone {E = ℕ} before.opened after history (under verdict entry) (Ok reply)) (works : is_disk reply ≡ false) where
    pub serves-alone : Serves {E = ℕ} before.opened after history entry (Ok (Took, reply))
    serves-alone = ((serves Took).0, λ other. (serves Took).1, works)

    -- doesn't ask it, and where it leaves the database it leaves the disk
    module _ (took : entry.verdict ≡ Took) (version : after.version ≡ before.version) (none : (is_refusal reply ≡ true) ⊎ (is_create entry.request ≡ false)) where
      told : answer now entry ≡ reply
      told = ap (answer now) (sym (under-took entry took)) ∙ (serves Took).0

      stands : RepresentsWorld after (happens now entry)
      stands = subst (λ entry. RepresentsWorld after (happens now entry)) (under-took entry took) (serves Took).1

      flat_same : (happens now entry).flat ≡ now.flat
      flat_same = sym stands.flat ∙ (version ∙ event.stands.flat)

      refused_or : (is_refusal reply ≡ true) ⊎ (is_create entry.request ≡ false) → (is_refusal (answer now entry) ≡ true) ⊎ (is_create entry.request ≡ false)
      refused_or (inl refused) = inl (ap is_refusal told ∙ refused)
      refused_or (inr creates) = inr creates

      pub stores-alone : {D : Type 0} (holds : D → Area → List ℕ) (leaves : D → Area → List ℕ → Type 0) (moment : D → ℕ) (might_have_left : D → ℕ → List ℕ → List ℕ → Type 0)
          → ((disk : D) (a b : List ℕ) → might_have_left disk (moment disk) a b → leaves disk A a × leaves disk B b) → (honest : D → Bool) (faults : D → ℕ) (store : StoreDisk D)
          → IsUp holds leaves honest store before.version
          → Carries holds leaves moment might_have_left honest faults (world before.opened history).flat (happens (world before.opened history) entry).flat (asks_disk (world before.opened history) entry)
          (is_commit (world before.opened history) entry (answer (world before.opened history) entry))
          (lays_anew entry.request) (bytes_written (world before.opened history) entry store.commits) store Took store
      stores-alone holds leaves moment might_have_left only_now honest faults store up =
          let unasked = asks-is now entry reply (serves DiskFault).0 ∙ works in
          carries-same holds leaves moment might_have_left only_now honest faults store now.flat (happens now entry).flat (asks_disk now entry) (is_commit now entry (answer now entry))
          (subst (λ db. IsUp holds leaves honest store db) event.stands.flat up) flat_same unasked (commit-none now entry (answer now entry) flat_same (refused_or none))

-- an entry that was answered so where the disk took it
pub serves-took : (base : Db) (after : State) (history : History) (entry : Entry) (reply : Reply) → entry.verdict ≡ Took → (world base history).down ≡ None → ServesAlone {E = ℕ} base after history entry (Ok reply)
    → Serves {E = ℕ} base after history entry (Ok (Took, reply))
serves-took base after history entry reply took up served =
    let same = subst (λ entry. ServesAlone {E = ℕ} base after history entry (Ok reply)) (sym (under-took entry took)) served in
    (same.0, λ other. same.1, sym (ap is_disk served.0) ∙ took-works (world base history) entry took up)
