-- The rules of CREATE TABLE.
use Rattle.std.proofs.Common.{List, ◌≡◌, Bool, true, false, [], ◌∷◌, refl, ap, codes}
use Rattle.std.specs.Prelude.{◌||◌}
use Rattle.own_model.specs.declared.create.Attr.TheVariants as Attr
use Rattle.own_model.specs.declared.create.Part.TheVariants as Part
use Rattle.own_model.specs.declared.limit.LimitName.{LimitName}
use Rattle.own_model.specs.declared.schema.Kind.TheVariants as Kind
use Rattle.own_model.specs.declared.schema.RefKind.TheVariants as RefKind
use Rattle.own_model.specs.declared.create.CreateTable.{CreateTable}
use Rattle.sql_reader.specs.reading.Create.{begins_attr}
use Rattle.grammar_model.specs.Grammar as grammar
use Rattle.grammar_model.specs.Language as language
use Rattle.grammar_model.specs.Language.{Language, ◌>>=◌, ◌>>◌, ◌or◌}
use Rattle.grammar_model.specs.Limits.{Limits}
use Rattle.sql_reader.specs.reading.Create as create_rules
use Rattle.grammar_model.specs.Terminal.{Terminal, is_word}
use Rattle.sql_reader.proofs.OtherWords.{as_often, with_more}
use Rattle.sql_reader.proofs.Choices.{or_else, or_nothing, word_right, mark_right, pure_right, word_tests, mark_tests, name_tests, or_none}
use Rattle.sql_reader.proofs.Heads.{Head, AWord, AMark, AName, among}
use Rattle.sql_reader.proofs.Joins.{and_then}
use Rattle.sql_reader.proofs.Leaves.{name_right}
use Rattle.sql_reader.proofs.ReaderRight.{Right}
use Rattle.sql_reader.proofs.Rules.Values.{one_name_right, bracketed_names_right}
use Rattle.grammar_model.specs.Parts.{is_there}
use Rattle.sql_reader.proofs.Lifts.{lift, Fair}

-- [DATA_SUBJECT] TABLE name ( part {, part} ), after CREATE
abbrev pub table_after : Limits → Language CreateTable
table_after limits = do
  subject ← language.optional (language.word (codes "DATA_SUBJECT"))
  language.word (codes "TABLE")
  found ← grammar.name limits
  all ← language.bracketed (language.listed (grammar.part limits))
  language.pure (record { name = found; subject = is_there subject; parts = all })

-- the terminals at which an attribute begins
abbrev attr_heads : List Head
attr_heads =
    AWord (codes "PRIMARY") ∷ AWord (codes "NOT") ∷ AWord (codes "UNIQUE")
    ∷ AWord (codes "REFERENCES") ∷ AWord (codes "OWNED_BY") ∷ AWord (codes "OWNS") ∷ AWord (codes "ACCESSED_BY") ∷ AWord (codes "ACCESSES") ∷ []

module _ (lifts : LimitName → Bool) (limits : Limits) (fair : Fair limits) where
  or_last : (a b : Bool) → (a || b) ≡ (a || (b || false))
  or_last true b = refl
  or_last false b = or_none b

  -- what tests the terminal at which an attribute begins
  attr_tests : (terminal : Terminal) → begins_attr terminal ≡ among attr_heads terminal
  attr_tests terminal =
      ap (λ b. is_word (codes "PRIMARY") terminal || (is_word (codes "NOT") terminal || (is_word (codes "UNIQUE") terminal || (is_word (codes "REFERENCES") terminal || (is_word (codes "OWNED_BY") terminal || (is_word (codes "OWNS") terminal || b))))))
      (or_last (is_word (codes "ACCESSED_BY") terminal) (is_word (codes "ACCESSES") terminal))

  -- REFERENCES [ONLY] | OWNED_BY | OWNS | ACCESSED_BY | ACCESSES
  pub ref_kind_right :
      Right lifts create_rules.ref_kind create_rules.ref_kind
      grammar.ref_kind
      (AWord (codes "REFERENCES") ∷ AWord (codes "OWNED_BY") ∷ AWord (codes "OWNS") ∷ AWord (codes "ACCESSED_BY") ∷ AWord (codes "ACCESSES") ∷ []) false (AWord (codes "ONLY") ∷ [])
  unfolding create_rules.ref_kind grammar.ref_kind
  ref_kind_right =
      or_else (word_tests (codes "REFERENCES"))
      (and_then (
      and_then (word_right (codes "REFERENCES")) (λ _. or_nothing (word_tests (codes "ONLY")) (word_right (codes "ONLY"))) refl) (λ _.
      pure_right RefKind.Plain) refl)
      (or_else (word_tests (codes "OWNED_BY"))
      (and_then (word_right (codes "OWNED_BY")) (λ _. pure_right RefKind.OwnedBy) refl)
      (or_else (word_tests (codes "OWNS"))
      (and_then (word_right (codes "OWNS")) (λ _. pure_right RefKind.Owns) refl)
      (or_else (word_tests (codes "ACCESSED_BY"))
      (and_then (word_right (codes "ACCESSED_BY")) (λ _. pure_right RefKind.AccessedBy) refl)
      (and_then (word_right (codes "ACCESSES")) (λ _. pure_right RefKind.Accesses) refl) refl) refl) refl) refl

  -- a reference
  pub refers_right :
      Right lifts (create_rules.refers limits) (create_rules.refers (lift lifts limits))
      (grammar.refers limits)
      (AWord (codes "REFERENCES") ∷ AWord (codes "OWNED_BY") ∷ AWord (codes "OWNS") ∷ AWord (codes "ACCESSED_BY") ∷ AWord (codes "ACCESSES") ∷ []) false []
  unfolding create_rules.refers grammar.refers
  refers_right =
      and_then ref_kind_right (λ found.
      and_then (name_right lifts limits fair) (λ table.
      and_then (one_name_right lifts limits fair) (λ column. pure_right (record { kind = found; table = table; column = column })) refl) refl) refl

  -- PRIMARY KEY | NOT NULL | UNIQUE | refers
  pub attr_rule_right :
      Right lifts (create_rules.attr_rule limits) (create_rules.attr_rule (lift lifts limits))
      (grammar.attr limits)
      attr_heads false []
  unfolding create_rules.attr_rule grammar.attr
  attr_rule_right =
      or_else (word_tests (codes "PRIMARY"))
      (and_then (and_then (word_right (codes "PRIMARY")) (λ _. word_right (codes "KEY")) refl) (λ _. pure_right Attr.Key) refl)
      (or_else (word_tests (codes "NOT"))
      (and_then (and_then (word_right (codes "NOT")) (λ _. word_right (codes "NULL")) refl) (λ _. pure_right Attr.NotNull) refl)
      (or_else (word_tests (codes "UNIQUE"))
      (and_then (word_right (codes "UNIQUE")) (λ _. pure_right Attr.Unique) refl)
      (and_then refers_right (λ found. pure_right (Attr.Refers found)) refl) refl) refl) refl

  -- {attr}
  pub attrs_right :
      Right lifts (create_rules.attrs limits) (create_rules.attrs (lift lifts limits))
      (language.many (grammar.attr limits))
      attr_heads true attr_heads
  unfolding create_rules.attrs
  attrs_right = as_often attr_tests attr_rule_right refl

  -- INT | TEXT
  pub kind_rule_right :
      Right lifts create_rules.kind_rule create_rules.kind_rule
      grammar.kind
      (AWord (codes "INT") ∷ AWord (codes "TEXT") ∷ []) false []
  unfolding create_rules.kind_rule grammar.kind
  kind_rule_right =
      or_else (word_tests (codes "INT"))
      (and_then (word_right (codes "INT")) (λ _. pure_right Kind.Int) refl)
      (and_then (word_right (codes "TEXT")) (λ _. pure_right Kind.Text) refl) refl

  -- name (INT | TEXT) {attr}
  pub column_part_right :
      Right lifts (create_rules.column_part limits) (create_rules.column_part (lift lifts limits))
      (grammar.column_part limits)
      (AName ∷ []) false attr_heads
  unfolding create_rules.column_part grammar.column_part
  column_part_right =
      and_then (name_right lifts limits fair) (λ column.
      and_then kind_rule_right (λ found.
      and_then attrs_right (λ all. pure_right (Part.Column (record { name = column; kind = found; attrs = all }))) refl) refl) refl

  -- FOREIGN KEY ( name ) refers
  pub foreign_part_right :
      Right lifts (create_rules.foreign_part limits) (create_rules.foreign_part (lift lifts limits))
      (grammar.foreign_part limits)
      (AWord (codes "FOREIGN") ∷ []) false []
  unfolding create_rules.foreign_part grammar.foreign_part
  foreign_part_right =
      and_then (word_right (codes "FOREIGN")) (λ _.
      and_then (word_right (codes "KEY")) (λ _.
      and_then (one_name_right lifts limits fair) (λ column. and_then refers_right (λ found. pure_right (Part.Foreign column found)) refl) refl) refl) refl

  -- GET name ANON ( names )
  pub get_part_right :
      Right lifts (create_rules.get_part limits) (create_rules.get_part (lift lifts limits))
      (grammar.get_part limits)
      (AWord (codes "GET") ∷ []) false []
  unfolding create_rules.get_part grammar.get_part
  get_part_right =
      and_then (word_right (codes "GET")) (λ _.
      and_then (name_right lifts limits fair) (λ column.
      and_then (word_right (codes "ANON")) (λ _.
      and_then (bracketed_names_right lifts limits fair) (λ hidden. pure_right (Part.Get column hidden)) refl) refl) refl) refl

  -- DEL name ANON ( names ) | DEL name DELETE_ROW
  pub del_part_right :
      Right lifts (create_rules.del_part limits) (create_rules.del_part (lift lifts limits))
      (grammar.del_part limits)
      (AWord (codes "DEL") ∷ []) false []
  unfolding create_rules.del_part grammar.del_part
  del_part_right =
      and_then (word_right (codes "DEL")) (λ _.
      and_then (name_right lifts limits fair) (λ column.
      or_else (word_tests (codes "ANON"))
      (and_then (and_then (word_right (codes "ANON")) (λ _. (bracketed_names_right lifts limits fair)) refl) (λ ruled.
      pure_right (Part.Del column ruled)) refl)
      (and_then (word_right (codes "DELETE_ROW")) (λ _. pure_right (Part.DelRow column)) refl) refl) refl) refl

  -- a part of a CREATE TABLE
  pub part_rule_right :
      Right lifts (create_rules.part_rule limits) (create_rules.part_rule (lift lifts limits))
      (grammar.part limits)
      (AName ∷ AWord (codes "PRIMARY") ∷ AWord (codes "UNIQUE") ∷ AWord (codes "FOREIGN") ∷ AWord (codes "ON") ∷ []) false attr_heads
  unfolding create_rules.part_rule grammar.part
  part_rule_right =
      or_else name_tests column_part_right
      (or_else (word_tests (codes "PRIMARY"))
      (and_then (
      and_then (and_then (word_right (codes "PRIMARY")) (λ _. word_right (codes "KEY")) refl) (λ _.
      (one_name_right lifts limits fair)) refl) (λ column.
      pure_right (Part.Key column)) refl)
      (or_else (word_tests (codes "UNIQUE"))
      (and_then (and_then (word_right (codes "UNIQUE")) (λ _. (one_name_right lifts limits fair)) refl) (λ column.
      pure_right (Part.Unique column)) refl)
      (or_else (word_tests (codes "FOREIGN")) foreign_part_right
      (and_then (word_right (codes "ON")) (λ _. or_else (word_tests (codes "GET")) get_part_right del_part_right refl) refl) refl) refl) refl) refl

  -- part {, part}
  pub listed_parts_right :
      Right lifts (create_rules.listed_parts limits) (create_rules.listed_parts (lift lifts limits))
      (language.listed (grammar.part limits))
      (AName ∷ AWord (codes "PRIMARY") ∷ AWord (codes "UNIQUE") ∷ AWord (codes "FOREIGN") ∷ AWord (codes "ON") ∷ []) false (AMark (codes ",") ∷ AWord (codes "PRIMARY") ∷ AWord (codes "NOT") ∷ AWord (codes "UNIQUE") ∷ AWord (codes "REFERENCES") ∷ AWord (codes "OWNED_BY") ∷ AWord (codes "OWNS") ∷ AWord (codes "ACCESSED_BY") ∷ AWord (codes "ACCESSES") ∷ [])
  unfolding create_rules.listed_parts
  listed_parts_right =
      with_more (AName ∷ AWord (codes "PRIMARY") ∷ AWord (codes "UNIQUE") ∷ AWord (codes "FOREIGN") ∷ AWord (codes "ON") ∷ []) false (AMark (codes ",") ∷ AWord (codes "PRIMARY") ∷ AWord (codes "NOT") ∷ AWord (codes "UNIQUE") ∷ AWord (codes "REFERENCES") ∷ AWord (codes "OWNED_BY") ∷ AWord (codes "OWNS") ∷ AWord (codes "ACCESSED_BY") ∷ AWord (codes "ACCESSES") ∷ [])
      (and_then part_rule_right (λ first.
      and_then (as_often (mark_tests (codes ",")) (and_then (mark_right (codes ",")) (λ _. part_rule_right) refl) refl) (λ others.
      pure_right (first ∷ others)) refl) refl) refl (λ is. is) refl

  -- ( part {, part} )
  pub parts_right :
      Right lifts (create_rules.parts limits) (create_rules.parts (lift lifts limits))
      (language.bracketed (language.listed (grammar.part limits)))
      (AMark (codes "(") ∷ []) false []
  unfolding create_rules.parts
  parts_right =
      and_then (mark_right (codes "(")) (λ _.
      and_then listed_parts_right (λ found. and_then (mark_right (codes ")")) (λ _. pure_right found) refl) refl) refl

  -- [DATA_SUBJECT] TABLE name ( part {, part} )
  pub table_right :
      Right lifts (create_rules.table limits) (create_rules.table (lift lifts limits))
      (table_after limits)
      (AWord (codes "DATA_SUBJECT") ∷ AWord (codes "TABLE") ∷ []) false []
  unfolding create_rules.table
  table_right =
      and_then (or_nothing (word_tests (codes "DATA_SUBJECT")) (word_right (codes "DATA_SUBJECT"))) (λ subject.
      and_then (word_right (codes "TABLE")) (λ _.
      and_then (name_right lifts limits fair) (λ found.
      and_then parts_right (λ all. pure_right (record { name = found; subject = is_there subject; parts = all })) refl) refl) refl) refl
