-- Two areas are judged in one way.
use Rattle.std.proofs.Common.{◌≡◌, inl, inr, ℕ, ◌+◌, List, [], ◌∷◌, length, refl, sym, ap, subst, ◌∙◌, arith}
use Rattle.std.specs.Prelude.{false, true}
use Rattle.own_base.specs.declared.number.Area.{Area}
use Rattle.own_base.specs.declared.number.Area.TheVariants.{A, B}
use Rattle.own_model.specs.declared.create.CreateTable.{CreateTable as TableCreate}
use Rattle.own_model.specs.declared.create.CreateView.{CreateView as ViewCreate}
use Rattle.own_model.specs.declared.limit.TheConstants.{NESTING_LEVELS}
use Rattle.own_model.specs.declared.schema.CreateText.{CreateText}
use Rattle.own_model.specs.declared.schema.Schema.{Schema}
use Rattle.own_model.specs.declared.statement.Statement.{Statement}
use Rattle.own_model.specs.declared.statement.Statement.TheVariants as statement
use Rattle.own_model.specs.Db.{Db, Row}
use Rattle.grammar_model.specs.Answer.{IsAnswer, GivesStatement}
use Rattle.grammar_model.specs.Grammar as grammar
use Rattle.grammar_model.specs.Limits.{store_limits}
use Rattle.grammar_model.specs.Terminal.{Terminals}
use Rattle.state_model.specs.Create.{create, create_view}
use Rattle.state_model.specs.Created.{Create, OfTable, OfView, schema_after, statement_of}
use Rattle.disk_model.specs.declared.commit.Commit.{Commit}
use Rattle.disk_model.specs.declared.commit.Commit.TheVariants.{CreateTable, CreateView, Changes, Forget}
use Rattle.disk_model.specs.declared.image.Image.{Image}
use Rattle.disk_model.specs.Follows.{Follows}
use Rattle.disk_model.specs.Judged.{IsDatabaseOf, IsJudged}
use Rattle.disk_model.specs.JudgedArea.{Damaged, HasEpoch, IsAreaJudged, IsImageJudged, IsLawfulBegin, IsLengthJudged, Judged, Nothing, Store, judged_as}
use Rattle.disk_model.specs.JudgedRecords.{AreRecords, Broken, Closed, End, IsBroken, IsEnd, IsLawful, IsMeasured, IsRecord}
use Rattle.disk_model.specs.Lawful.{IsLawfulImage}
use Rattle.disk_model.specs.StoreOf.{AreFollowed, IsStoreOf}
use Rattle.disk_model.specs.TextOf.{AreTextsOf, IsTextOf}
use Rattle.disk_model.proofs.OneValue.{front_same, image, number, payload}

-- ---- creates

-- a text is read as one statement
one-statement : (text : List ℕ) (one other : Statement) → IsAnswer text (GivesStatement one) → IsAnswer text (GivesStatement other) → one ≡ other
one-statement text one other first second =
    let same = first.only second.terminals second.cut in
    second.answers.1 one (subst (λ (terminals : Terminals). grammar.statement store_limits NESTING_LEVELS one terminals []) (sym same) first.answers.0)

table_is : (a b : TableCreate) → statement.CreateTable a ≡ statement.CreateTable b → a ≡ b
table_is a b same = cc

view_is : (a b : ViewCreate) → statement.CreateView a ≡ statement.CreateView b → a ≡ b
view_is a b same = cc

abbrev MakesTable : Statement → Type 0
MakesTable (statement.CreateTable table) = Unit {0}
MakesTable _ = ⊥

create_is : (one other : Create) → statement_of one ≡ statement_of other → one ≡ other
create_is (OfTable a) (OfTable b) same = ap OfTable (table_is a b same)
create_is (OfTable a) (OfView b) same = absurd (subst MakesTable same tt)
create_is (OfView a) (OfTable b) same = absurd (subst MakesTable (sym same) tt)
create_is (OfView a) (OfView b) same = ap OfView (view_is a b same)

pub one-create : (text : CreateText) (one other : Create) → IsTextOf one text → IsTextOf other text → one ≡ other
one-create text one other first second = create_is one other (one-statement text.text (statement_of one) (statement_of other) first.read second.read)

one-creates : (texts : List CreateText) (one other : List Create) → AreTextsOf one texts → AreTextsOf other texts → one ≡ other
one-creates [] [] [] first second = refl
one-creates [] [] (y ∷ ys) first second = absurd second
one-creates [] (x ∷ xs) other first second = absurd first
one-creates (text ∷ texts) [] other first second = absurd first
one-creates (text ∷ texts) (x ∷ xs) [] first second = absurd second
one-creates (text ∷ texts) (x ∷ xs) (y ∷ ys) first second =
    ap (λ (x : Create). x ∷ xs) (one-create text x y first.0 second.0) ∙ ap (λ (xs : List Create). y ∷ xs) (one-creates texts xs ys first.1 second.1)

-- ---- databases

abbrev db_of : List CreateText → Schema → List (List Row) → Db
db_of creates schema rows = record { creates = creates; schema = schema; rows = rows }

-- an image is of one database
one-image : (image : Image) (one other : Db) → IsLawfulImage image one → IsLawfulImage image other → one ≡ other
one-image image one other first second =
    let creates = first.creates ∙ sym second.creates in
    let made = one-creates image.creates first.made_by second.made_by first.texts second.texts in
    let schema = first.schema ∙ ap schema_after made ∙ sym second.schema in
    let rows = first.rows ∙ sym second.rows in
    ap (λ (creates : List CreateText). db_of creates one.schema one.rows) creates ∙ ap (λ (schema : Schema). db_of other.creates schema one.rows) schema
    ∙ ap (db_of other.creates other.schema) rows

made_table : (c d : Create) (a b : TableCreate) → c ≡ OfTable a → d ≡ OfTable b → c ≡ d → a ≡ b
made_table c d a b is_c is_d same = cc

made_view : (c d : Create) (a b : ViewCreate) → c ≡ OfView a → d ≡ OfView b → c ≡ d → a ≡ b
made_view c d a b is_c is_d same = cc

-- a commit leaves one database
one-after : (db : Db) (commit : Commit) (one other : Db) → Follows db commit one → Follows db commit other → one ≡ other
one-after db (CreateTable text) one other first second =
    let same = one-create (record { view = false; text = text }) (OfTable first.table) (OfTable second.table) first.text_of second.text_of in
    first.after_is ∙ ap (create db) (made_table (OfTable first.table) (OfTable second.table) first.table second.table refl refl same) ∙ sym second.after_is
one-after db (CreateView text) one other first second =
    let same = one-create (record { view = true; text = text }) (OfView first.view) (OfView second.view) first.text_of second.text_of in
    first.after_is ∙ ap (create_view db) (made_view (OfView first.view) (OfView second.view) first.view second.view refl refl same) ∙ sym second.after_is
one-after db (Changes puts) one other first second = first.after_is ∙ sym second.after_is
one-after db (Forget name) one other first second = first.after_is ∙ sym second.after_is

one-followed : (db : Db) (commits : List Commit) (one other : Db) → AreFollowed db commits one → AreFollowed db commits other → one ≡ other
one-followed db [] one other first second = first ∙ sym second
one-followed db (commit ∷ commits) one other first second =
    one-followed first.0 commits one other first.2
    (subst (λ (next : Db). AreFollowed next commits other) (sym (one-after db commit first.0 second.0 first.1 second.1)) second.2)

-- an image and commits represent one database
one-store : (image : Image) (commits : List Commit) (one other : Db) (n m : ℕ) → IsStoreOf image commits one n → IsStoreOf image commits other m → (one ≡ other) × (n ≡ m)
one-store image commits one other n m first second = (
  one-followed first.begin commits one other first.followed
      (subst (λ (begin : Db). AreFollowed begin commits other) (sym (one-image image first.begin second.begin first.lawful second.lawful)) second.followed),
  first.number_is ∙ sym second.number_is,
)

-- ---- records

measured : (count : ℕ) (x y bytes rest more : List ℕ) → IsMeasured count x bytes rest → IsMeasured count y bytes more → (x ≡ y) × (rest ≡ more)
measured count x y bytes rest more first second =
    let long = number count (length x) (length y) bytes first.0 second.0 first.1 second.1 in
    front_same x y rest more long.0 (sym first.2 ∙ long.1 ∙ second.2)

one-record : (x y bytes rest more : List ℕ) → IsRecord x bytes rest → IsRecord y bytes more → (x ≡ y) × (rest ≡ more)
one-record x y bytes rest more first second = measured 4 x y bytes rest more first.1 second.1

one-broken : (db : Db) (at : ℕ) (bytes : List ℕ) (one other : ℕ) → IsBroken db at bytes one → IsBroken db at bytes other → one ≡ other
one-broken db at bytes one other (inl first) (inl second) = first.1 ∙ sym second.1
one-broken db at bytes one other (inl first) (inr second) = absurd (first.0 second.0 second.1 second.2)
one-broken db at bytes one other (inr first) (inl second) = absurd (second.0 first.0 first.1 first.2)
one-broken db at bytes one other (inr first) (inr second) = first.4 ∙ sym second.4

one-end : (db : Db) (at gate : ℕ) (bytes : List ℕ) (one other : End) → IsEnd db at gate bytes one → IsEnd db at gate bytes other → one ≡ other
one-end db at gate bytes Closed Closed first second = refl
one-end db at gate bytes Closed (Broken b) first second = absurd (first second.0)
one-end db at gate bytes (Broken a) Closed first second = absurd (second first.0)
one-end db at gate bytes (Broken a) (Broken b) first second = ap Broken (one-broken db at bytes a b first.1 second.1)

-- where a lawful record stands, nothing ends
not_broken : (db : Db) (at : ℕ) (bytes : List ℕ) (offset : ℕ) (content rest : List ℕ) (commit : Commit) (after : Db) → IsBroken db at bytes offset → IsRecord content bytes rest → IsLawful db content commit after → ⊥
not_broken db at bytes offset content rest commit after (inl broken) is lawful = broken.0 content rest is
not_broken db at bytes offset content rest commit after (inr broken) is lawful =
    let same = one-record content broken.0 bytes rest broken.1 is broken.2 in
    broken.3 commit after (subst (λ (content : List ℕ). IsLawful db content commit after) same.0 lawful)

not_ended : (db : Db) (at gate : ℕ) (bytes : List ℕ) (end : End) (content rest : List ℕ) (commit : Commit) (after : Db) → IsEnd db at gate bytes end → gate ≡ 1 → IsRecord content bytes rest → IsLawful db content commit after → ⊥
not_ended db at gate bytes Closed content rest commit after ended opened is lawful = ended opened
not_ended db at gate bytes (Broken offset) content rest commit after ended opened is lawful = not_broken db at bytes offset content rest commit after ended.1 is lawful

one-lawful : (db : Db) (content : List ℕ) (one other : Commit) (left right : Db) → IsLawful db content one left → IsLawful db content other right → (one ≡ other) × (left ≡ right)
one-lawful db content one other left right first second =
    let same = payload one other content first.is_payload second.is_payload in
    (same, one-after db other left right (subst (λ (commit : Commit). Follows db commit left) same first.follows) second.follows)

abbrev IsBehind : List Commit → End → List Commit → End → Type 0
IsBehind commits end others other = (commits ≡ others) × (end ≡ other)

one-records : (db : Db) (at : ℕ) (bytes : List ℕ) (commits others : List Commit) (end other : End) → AreRecords db at bytes commits end → AreRecords db at bytes others other → IsBehind commits end others other
one-records db at [] commits others end other first second = absurd first
one-records db at (gate ∷ bytes) [] [] end other first second = (refl, one-end db at gate bytes end other first second)
one-records db at (gate ∷ bytes) [] (y ∷ ys) end other first second = absurd (not_ended db at gate bytes end second.1 second.2 y second.3 first second.0 second.4 second.5)
one-records db at (gate ∷ bytes) (x ∷ xs) [] end other first second = absurd (not_ended db at gate bytes other first.1 first.2 x first.3 second first.0 first.4 first.5)
one-records db at (gate ∷ bytes) (x ∷ xs) (y ∷ ys) end other first second =
    let record_is = one-record first.1 second.1 bytes first.2 second.2 first.4 second.4 in
    let lawful = one-lawful db second.1 x y first.3 second.3 (subst (λ (content : List ℕ). IsLawful db content x first.3) record_is.0 first.5) second.5 in
    let moved : AreRecords second.3 (at + 5 + length second.1) second.2 xs end =
    subst (λ (after : Db). AreRecords after (at + 5 + length second.1) second.2 xs end) lawful.1
    (subst (λ (rest : List ℕ). AreRecords first.3 (at + 5 + length second.1) rest xs end) record_is.1
    (subst (λ (content : List ℕ). AreRecords first.3 (at + 5 + length content) first.2 xs end) record_is.0 first.6)) in
    let later = one-records second.3 (at + 5 + length second.1) second.2 xs ys end other moved second.6 in
    (ap (λ (x : Commit). x ∷ xs) lawful.0 ∙ ap (λ (xs : List Commit). y ∷ xs) later.0, later.1)

-- ---- an area

one-begin : (bytes : List ℕ) (one other : Image) (left right : Db) → IsLawfulBegin bytes one left → IsLawfulBegin bytes other right → (one ≡ other) × (left ≡ right)
one-begin bytes one other left right first second =
    let same = image one other bytes first.is_image second.is_image in
    (same, one-image other left right (subst (λ (image : Image). IsLawfulImage image left) same first.lawful) second.lawful)

one-image-judged : (area : Area) (content rest : List ℕ) (one other : Judged) → IsImageJudged area content rest one → IsImageJudged area content rest other → one ≡ other
one-image-judged area content rest one other (inl first) (inl second) =
    let begin = one-begin content first.0 second.0 first.1 second.1 first.4 second.4 in
    let moved : AreRecords second.1 (17 + length content) rest first.2 first.3 = subst (λ (db : Db). AreRecords db (17 + length content) rest first.2 first.3) begin.1 first.5 in
    let later = one-records second.1 (17 + length content) rest first.2 second.2 first.3 second.3 moved second.5 in
    first.6 ∙ ap (λ (image : Image). judged_as area image first.2 first.3) begin.0 ∙ ap (λ (commits : List Commit). judged_as area second.0 commits first.3) later.0
    ∙ ap (judged_as area second.0 second.2) later.1 ∙ sym second.6
one-image-judged area content rest one other (inl first) (inr second) = absurd (second.0 first.0 first.1 first.4)
one-image-judged area content rest one other (inr first) (inl second) = absurd (first.0 second.0 second.1 second.4)
one-image-judged area content rest one other (inr first) (inr second) = first.1 ∙ sym second.1

one-length-judged : (area : Area) (bytes : List ℕ) (one other : Judged) → IsLengthJudged area bytes one → IsLengthJudged area bytes other → one ≡ other
one-length-judged area bytes one other (inl first) (inl second) =
    let same = measured 8 first.0 second.0 bytes first.1 second.1 first.2 second.2 in
    one-image-judged area second.0 second.1 one other
    (subst (λ (rest : List ℕ). IsImageJudged area second.0 rest one) same.1 (subst (λ (content : List ℕ). IsImageJudged area content first.1 one) same.0 first.3)) second.3
one-length-judged area bytes one other (inl first) (inr second) = absurd (second.0 first.0 first.1 first.2)
one-length-judged area bytes one other (inr first) (inl second) = absurd (first.0 second.0 second.1 second.2)
one-length-judged area bytes one other (inr first) (inr second) = first.1 ∙ sym second.1

one-epoch : (bytes rest more : List ℕ) → HasEpoch bytes rest → HasEpoch bytes more → rest ≡ more
one-epoch [] rest more first second = absurd first
one-epoch (gate ∷ bytes) rest more first second = (number 8 first.0 second.0 bytes rest more first.1 second.1).1

one-area-judged : (area : Area) (bytes : List ℕ) (one other : Judged) → IsAreaJudged area bytes one → IsAreaJudged area bytes other → one ≡ other
one-area-judged area bytes one other (inl first) (inl second) =
    one-length-judged area second.0 one other (subst (λ (rest : List ℕ). IsLengthJudged area rest one) (one-epoch bytes first.0 second.0 first.1 second.1) first.2) second.2
one-area-judged area bytes one other (inl first) (inr second) = absurd (second.0 first.0 first.1)
one-area-judged area bytes one other (inr first) (inl second) = absurd (first.0 second.0 second.1)
one-area-judged area bytes one other (inr first) (inr second) = first.1 ∙ sym second.1

-- ---- two areas

pub judged-once : (a b : List ℕ) (one other : Judged) → IsJudged a b one → IsJudged a b other → one ≡ other
judged-once a b one other (inl x) (inl y) = x.1 ∙ sym y.1
judged-once a b one other (inl x) (inr (inl y)) = absurd (x.0.not_a y.0)
judged-once a b one other (inl x) (inr (inr (inl y))) = absurd (x.0.not_b y.0)
judged-once a b one other (inl x) (inr (inr (inr y))) = absurd (x.0.not_a y.0)
judged-once a b one other (inr (inl x)) (inl y) = absurd (y.0.not_a x.0)
judged-once a b one other (inr (inl x)) (inr (inl y)) = one-area-judged A a one other x.2 y.2
judged-once a b one other (inr (inl x)) (inr (inr (inl y))) = let up = x.1 y.0 in let down = y.1 x.0 in absurd (omega arith)
judged-once a b one other (inr (inl x)) (inr (inr (inr y))) = let up = x.1 y.1 in let same = y.2 in absurd (omega arith)
judged-once a b one other (inr (inr (inl x))) (inl y) = absurd (y.0.not_b x.0)
judged-once a b one other (inr (inr (inl x))) (inr (inl y)) = let up = x.1 y.0 in let down = y.1 x.0 in absurd (omega arith)
judged-once a b one other (inr (inr (inl x))) (inr (inr (inl y))) = one-area-judged B b one other x.2 y.2
judged-once a b one other (inr (inr (inl x))) (inr (inr (inr y))) = let up = x.1 y.0 in let same = y.2 in absurd (omega arith)
judged-once a b one other (inr (inr (inr x))) (inl y) = absurd (y.0.not_a x.0)
judged-once a b one other (inr (inr (inr x))) (inr (inl y)) = let up = y.1 x.1 in let same = x.2 in absurd (omega arith)
judged-once a b one other (inr (inr (inr x))) (inr (inr (inl y))) = let up = y.1 x.0 in let same = x.2 in absurd (omega arith)
judged-once a b one other (inr (inr (inr x))) (inr (inr (inr y))) = x.3 ∙ sym y.3

-- and tell of one database
pub one-database : (judged : Judged) (one other : Db) (n m : ℕ) → IsDatabaseOf judged one n → IsDatabaseOf judged other m → (one ≡ other) × (n ≡ m)
one-database Nothing one other n m first second = (first.0 ∙ sym second.0, first.1 ∙ sym second.1)
one-database (Store image commits) one other n m first second = one-store image commits one other n m first second
one-database (Damaged area offset) one other n m first second = absurd first
