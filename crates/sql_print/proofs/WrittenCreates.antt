-- The rules of CREATE.
use Rattle.std.proofs.Common.{ℕ, [], ◌∷◌, refl, codes}
use Rattle.sql_lex.specs.Keywords.{keywords}
use Rattle.grammar_model.specs.Grammar as grammar
use Rattle.grammar_model.specs.Limits.{Limits}
use Rattle.text_model.specs.Canonical.{kind_word, ref_kind_word, refers_words, attr_words, column_def_words, part_words, create_words, view_words, statement_words}
use Rattle.sql_print.proofs.Rewriting.{Rewrites, whole, either, then_next, then_made, then_rule}
use Rattle.sql_print.proofs.WrittenLists.{as_often, with_commas, in_brackets}
use Rattle.sql_print.proofs.WrittenSelects.{unordered}
use Rattle.sql_print.proofs.WrittenTokens.{key, present, left_out, name}
use Rattle.sql_print.proofs.WrittenValues.{names}

-- (REFERENCES [ONLY] | OWNED_BY | OWNS | ACCESSED_BY | ACCESSES)
ref_kind : Rewrites grammar.ref_kind grammar.ref_kind (λ found. ref_kind_word found ∷ [])
unfolding grammar.ref_kind ref_kind_word keywords
ref_kind =
    whole
    (either (left_out (codes "REFERENCES") (codes "ONLY") (refl, refl) (refl, refl) refl)
    (either (then_made (key (codes "OWNED_BY") (refl, refl)) (λ _. refl))
    (either (then_made (key (codes "OWNS") (refl, refl)) (λ _. refl))
    (either (then_made (key (codes "ACCESSED_BY") (refl, refl)) (λ _. refl))
    (then_made (key (codes "ACCESSES") (refl, refl)) (λ _. refl))))))

-- INT | TEXT
kind : Rewrites grammar.kind grammar.kind (λ found. kind_word found ∷ [])
unfolding grammar.kind kind_word keywords
kind = whole (either (then_made (key (codes "INT") (refl, refl)) (λ _. refl)) (then_made (key (codes "TEXT") (refl, refl)) (λ _. refl)))

module _ (limits : Limits) where
  -- (REFERENCES [ONLY] | OWNED_BY | OWNS | ACCESSED_BY | ACCESSES) name ( name )
  refers : Rewrites (grammar.refers limits) (grammar.refers limits) refers_words
  unfolding grammar.refers refers_words
  refers = whole (then_next ref_kind (λ found. then_next (name limits) (λ table. then_made (in_brackets (name limits)) (λ column. refl))))

  -- PRIMARY KEY | NOT NULL | UNIQUE | refers
  attr : Rewrites (grammar.attr limits) (grammar.attr limits) attr_words
  unfolding grammar.attr attr_words keywords
  attr =
      whole
      (either (then_made (then_rule (key (codes "PRIMARY") (refl, refl)) (key (codes "KEY") (refl, refl))) (λ _. refl))
      (either (then_made (then_rule (key (codes "NOT") (refl, refl)) (key (codes "NULL") (refl, refl))) (λ _. refl))
      (either (then_made (key (codes "UNIQUE") (refl, refl)) (λ _. refl))
      (then_made refers (λ _. refl)))))

  -- part of a CREATE TABLE
  part : Rewrites (grammar.part limits) (grammar.part limits) part_words
  unfolding grammar.part grammar.column_part grammar.foreign_part grammar.get_part grammar.del_part part_words column_def_words keywords
  part =
      whole
      (either (then_next (name limits) (λ column. then_next kind (λ found. then_made (as_often attr) (λ attrs. refl))))
      (either (then_made (then_rule (then_rule (key (codes "PRIMARY") (refl, refl)) (key (codes "KEY") (refl, refl))) (in_brackets (name limits))) (λ column. refl))
      (either (then_made (then_rule (key (codes "UNIQUE") (refl, refl)) (in_brackets (name limits))) (λ column. refl))
      (either (then_next (key (codes "FOREIGN") (refl, refl)) (λ _. then_next (key (codes "KEY") (refl, refl)) (λ _. then_next (in_brackets (name limits)) (λ column. then_made refers (λ found. refl)))))
      (then_next (key (codes "ON") (refl, refl)) (λ _.
      either
      (then_next (key (codes "GET") (refl, refl)) (λ _. then_next (name limits) (λ column. then_next (key (codes "ANON") (refl, refl)) (λ _. then_made (in_brackets (names limits)) (λ hidden. refl)))))
      (then_next (key (codes "DEL") (refl, refl)) (λ _. then_next (name limits) (λ column.
      either
      (then_made (then_rule (key (codes "ANON") (refl, refl)) (in_brackets (names limits))) (λ ruled. refl))
      (then_made (key (codes "DELETE_ROW") (refl, refl)) (λ _. refl)))))))))))

  -- CREATE [DATA_SUBJECT] TABLE name ( part {, part} )
  pub create : Rewrites (grammar.create limits) (grammar.create limits) statement_words
  unfolding grammar.create statement_words create_words keywords
  create =
      whole (then_next (key (codes "CREATE") (refl, refl)) (λ _. then_next (present (codes "DATA_SUBJECT") (refl, refl)) (λ subject.
      then_next (key (codes "TABLE") (refl, refl)) (λ _. then_next (name limits) (λ found. then_made (in_brackets (with_commas part)) (λ parts. refl))))))

  -- CREATE VIEW name AS (plain | grouped)
  pub view : (levels : ℕ) → Rewrites (grammar.view limits levels) (grammar.view limits levels) statement_words
  unfolding grammar.view statement_words view_words keywords
  view levels =
      whole (then_next (key (codes "CREATE") (refl, refl)) (λ _. then_next (key (codes "VIEW") (refl, refl)) (λ _.
      then_next (name limits) (λ found. then_next (key (codes "AS") (refl, refl)) (λ _. then_made (unordered limits levels) (λ select. refl))))))
