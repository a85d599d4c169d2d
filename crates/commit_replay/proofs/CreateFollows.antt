-- When a CREATE follows, and what it leaves.
use Rattle.std.proofs.Common.{◌≡◌, ℕ, ◌+◌, List, [], ◌∷◌, ◌++◌, Bool, true, false, refl, sym, ap, subst, ◌∙◌}
use Rattle.std.specs.Prelude.{Option, None, Some, Ok, Err, nat_lt, if◌then◌else◌}
use Rattle.own_model.specs.declared.create.CreateTable.{CreateTable as TableCreate}
use Rattle.own_model.specs.declared.create.CreateView.{CreateView as ViewCreate}
use Rattle.own_model.specs.declared.limit.LimitName.TheVariants as limit
use Rattle.own_model.specs.declared.limit.TheConstants.{STORE_WEIGHT}
use Rattle.own_model.specs.declared.refusal.Refusal.{Refusal}
use Rattle.own_model.specs.declared.refusal.Refusal.TheVariants.{Limit}
use Rattle.own_model.specs.declared.schema.CreateText.{CreateText}
use Rattle.own_model.specs.declared.schema.Edge.{Edge}
use Rattle.own_model.specs.declared.schema.TableDef.{TableDef}
use Rattle.own_model.specs.declared.schema.ViewDef.{ViewDef}
use Rattle.own_model.specs.Db.{Db}
use Rattle.own_model.specs.Stored.{holds_rows}
use Rattle.schema_model.specs.NewEdges.{new_edges}
use Rattle.schema_model.specs.NewTable.{new_table}
use Rattle.schema_model.specs.Refusal.{refusal_of}
use Rattle.schema_model.specs.WithTable.{with_table}
use Rattle.query_model.specs.BoundView.{bound_view, new_view, view_faults}
use Rattle.query_model.specs.Refused.{lowest}
use Rattle.query_model.proofs.ViewFaults.{view-given, view-told}
use Rattle.state_model.specs.Create.{create, create_view, kept_text, kept_view_text, with_view}
use Rattle.state_model.specs.Created.{Create, IsAdmitted, OfTable, OfView}
use Rattle.state_model.specs.Fault.{fault}
use Rattle.state_model.specs.Sound.{Sound}
use Rattle.state_model.specs.Weight.{view_weight, weight}
use Rattle.state_model.proofs.TableSound.{weighs-create}
use Rattle.state_model.proofs.ViewSound.{fault-create_view, weight-create_view}
use Rattle.disk_model.specs.Follows.{CreatesTable, CreatesView, Follows}
use Rattle.disk_model.specs.TextOf.{IsTextOf}
use Rattle.commit_replay.specs.Created.{AreWithoutRows}
use Rattle.commit_replay.specs.Creates.{commit_of}
use Rattle.commit_replay.proofs.CreatedSound.{sound-table}
use Rattle.commit_replay.proofs.OneCreate.{one-create}
use Rattle.commit_replay.proofs.WithoutRows.{holds-none, no-view_weight, no-weight}

-- the text that a CREATE has as a table's, and as a view's
abbrev pub IsTableText : TableCreate → List ℕ → Type 0
IsTableText table text = IsTextOf (OfTable table) (record { view = false; text = text })

abbrev pub IsViewText : ViewCreate → List ℕ → Type 0
IsViewText view text = IsTextOf (OfView view) (record { view = true; text = text })

never_both : (told : Option Refusal) (why : Refusal) → told ≡ Some why → told ≡ None → ⊥
never_both told why is none = cc

-- ---- tables

one_table : (one other : TableCreate) → OfTable one ≡ OfTable other → one ≡ other
one_table one other is = cc

-- the table and its edges at the end, with its text
pub table-made : (db : Db) (table : TableCreate) (made : TableDef) (edges : List Edge) (text : List ℕ) → made ≡ new_table db.schema table → edges ≡ new_edges db.schema table → IsTableText table text
    → record {
      creates = db.creates ++ record { view = false; text = text } ∷ [];
      schema = record { tables = db.schema.tables ++ made ∷ []; views = db.schema.views; edges = db.schema.edges ++ edges };
      rows = db.rows ++ [] ∷ [];
    } ≡ create db table
unfolding create with_table
table-made db table made edges text made_is edges_is is = λ i. record {
  creates = db.creates ++ is.canonical i ∷ [];
  schema = record { tables = db.schema.tables ++ made_is i ∷ []; views = db.schema.views; edges = db.schema.edges ++ edges_is i };
  rows = db.rows ++ [] ∷ [];
}

-- a table that is admitted follows, and weighs nothing
pub table-follows : (db next : Db) (table : TableCreate) (text : List ℕ) (weighs : ℕ) → Sound db → weight db ≡ weighs → IsTableText table text → refusal_of db.schema (holds_rows db.rows) table ≡ None
    → next ≡ create db table → CreatesTable db text next × (weight next ≡ weighs)
table-follows db next table text weighs sound weighs_is is none next_is =
    let after = sound-table db table _ sound is none in (
      record { table = table; text_of = is; admitted = none; after_is = next_is; faultless = ap fault next_is ∙ after.faultless },
      ap weight next_is ∙ weighs-create db table sound.well_formed none ∙ weighs_is,
    )

-- a table that is refused doesn't follow
pub table-refused : (db after : Db) (table : TableCreate) (text : List ℕ) (why : Refusal) → IsTableText table text → refusal_of db.schema (holds_rows db.rows) table ≡ Some why
    → ¬ CreatesTable db text after
table-refused db after table text why is refused made =
    let same = one_table made.table table (one-create (OfTable made.table) (OfTable table) _ made.text_of is) in
    never_both _ why refused (subst (λ (table : TableCreate). refusal_of db.schema (holds_rows db.rows) table ≡ None) same made.admitted)

-- ---- views

one_view : (one other : ViewCreate) → OfView one ≡ OfView other → one ≡ other
one_view one other is = cc

-- the view at the end, with its text
pub view-made : (db : Db) (view : ViewCreate) (definition : ViewDef) (text : List ℕ) → new_view db.schema view ≡ definition → IsViewText view text
    → record {
      creates = db.creates ++ record { view = true; text = text } ∷ [];
      schema = record { tables = db.schema.tables; views = db.schema.views ++ definition ∷ []; edges = db.schema.edges };
      rows = db.rows;
    } ≡ create_view db view
unfolding create_view with_view
view-made db view definition text is text_is = λ i. record {
  creates = db.creates ++ text_is.canonical i ∷ [];
  schema = record { tables = db.schema.tables; views = db.schema.views ++ sym is i ∷ []; edges = db.schema.edges };
  rows = db.rows;
}

-- what a view that is bound leaves weighs
whole-weight : (db : Db) (view : ViewCreate) (definition : ViewDef) (weighs : ℕ) → weight db ≡ weighs → new_view db.schema view ≡ definition
    → weight db + view_weight db (new_view db.schema view) ≡ weighs + view_weight db definition
whole-weight db view definition weighs weighs_is is = λ i. weighs_is i + view_weight db (is i)

-- that it is too much is all that can be wrong with it
judged : (db : Db) (view : ViewCreate) (definition : ViewDef) (weighs : ℕ) (heavy : Bool) → Sound db → weight db ≡ weighs → new_view db.schema view ≡ definition
    → nat_lt STORE_WEIGHT (weighs + view_weight db definition) ≡ heavy → fault (create_view db view) ≡ (if heavy then Some (Limit limit.Weight) else None)
judged db view definition weighs heavy sound weighs_is is heavy_is =
    fault-create_view db view sound ∙ ap (λ weight. if nat_lt STORE_WEIGHT weight then Some (Limit limit.Weight) else None) (whole-weight db view definition weighs weighs_is is)
    ∙ ap (λ (heavy : Bool). if heavy then Some (Limit limit.Weight) else None) heavy_is

-- a view that is bound follows where it doesn't weigh too much
pub view-follows : (db next : Db) (view : ViewCreate) (text : List ℕ) (definition : ViewDef) (weighs size : ℕ) → Sound db → weight db ≡ weighs → IsViewText view text
    → bound_view db.schema view ≡ Ok definition → nat_lt STORE_WEIGHT (weighs + view_weight db definition) ≡ false → weighs + view_weight db definition ≡ size
    → next ≡ create_view db view → CreatesView db text next × (weight next ≡ size)
view-follows db next view text definition weighs size sound weighs_is text_is is light size_is next_is =
    let by = view-given db.schema view definition is in (
      record {
        view = view;
        text_of = text_is;
        admitted = by.0;
        after_is = next_is;
        faultless = ap fault next_is ∙ judged db view definition weighs false sound weighs_is by.1 light;
      },
      ap weight next_is ∙ weight-create_view db view sound.well_formed ∙ whole-weight db view definition weighs weighs_is by.1 ∙ size_is,
    )

-- and not where it does
pub view-heavy : (db after : Db) (view : ViewCreate) (text : List ℕ) (definition : ViewDef) (weighs : ℕ) → Sound db → weight db ≡ weighs → IsViewText view text
    → bound_view db.schema view ≡ Ok definition → nat_lt STORE_WEIGHT (weighs + view_weight db definition) ≡ true → ¬ CreatesView db text after
view-heavy db after view text definition weighs sound weighs_is text_is is heavy made =
    let same = one_view made.view view (one-create (OfView made.view) (OfView view) _ made.text_of text_is) in
    let after_is = made.after_is ∙ ap (create_view db) same in
    never_both _ _ (judged db view definition weighs true sound weighs_is (view-given db.schema view definition is).1 heavy) (sym (ap fault after_is) ∙ made.faultless)

-- a view that is refused doesn't follow
pub view-refused : (db after : Db) (view : ViewCreate) (text : List ℕ) (why : Refusal) → IsViewText view text → bound_view db.schema view ≡ Err why → ¬ CreatesView db text after
view-refused db after view text why text_is is made =
    let same = one_view made.view view (one-create (OfView made.view) (OfView view) _ made.text_of text_is) in
    never_both _ why (view-told db.schema view why is)
    (subst (λ (view : ViewCreate). lowest (view_faults db.schema view) ≡ None) same made.admitted)

-- ---- without rows

-- over no rows a table that is admitted follows
table-admitted : (db : Db) (table : TableCreate) (text : List ℕ) → Sound db → AreWithoutRows db.rows → IsTableText table text → IsAdmitted db.schema (OfTable table)
    → (after : Db) × CreatesTable db text after
table-admitted db table text sound rows is admitted =
    let none = subst (λ (holds : ℕ → Bool). refusal_of db.schema holds table ≡ None) (sym (holds-none db.rows rows)) admitted in
    (create db table, (table-follows db (create db table) table text (weight db) sound refl is none refl).0)

-- and so does a view, which weighs nothing
view-admitted : (db : Db) (view : ViewCreate) (text : List ℕ) → Sound db → AreWithoutRows db.rows → IsViewText view text → IsAdmitted db.schema (OfView view)
    → (after : Db) × CreatesView db text after
view-admitted db view text sound rows is admitted =
    let definition = new_view db.schema view in
    let whole : weight db + view_weight db definition ≡ 0 = λ i. no-weight db rows i + no-view_weight db definition rows i in
    let light : nat_lt STORE_WEIGHT (weight db + view_weight db definition) ≡ false = rw whole refl in
    let faultless = judged db view definition (weight db) false sound refl refl light in
    (create_view db view, record { view = view; text_of = is; admitted = admitted; after_is = refl; faultless = faultless })

-- so does a CREATE
pub admitted-follows : (db : Db) (made : Create) (text : CreateText) → Sound db → AreWithoutRows db.rows → IsTextOf made text → IsAdmitted db.schema made
    → (after : Db) × Follows db (commit_of text.view text.text) after
admitted-follows db (OfTable table) text sound rows is admitted =
    let follows = table-admitted db table (kept_text table).text sound rows (subst (IsTextOf (OfTable table)) is.canonical is) admitted in
    subst (λ (text : CreateText). (after : Db) × Follows db (commit_of text.view text.text) after) (sym is.canonical) follows
admitted-follows db (OfView view) text sound rows is admitted =
    let follows = view-admitted db view (kept_view_text view).text sound rows (subst (IsTextOf (OfView view)) is.canonical is) admitted in
    subst (λ (text : CreateText). (after : Db) × Follows db (commit_of text.view text.text) after) (sym is.canonical) follows
