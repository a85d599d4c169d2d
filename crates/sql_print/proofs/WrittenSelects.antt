-- The rules of selects.
use Rattle.std.proofs.Common.{◌≡◌, ℕ, false, [], ◌∷◌, ◌++◌, refl, sym, ap, ◌∙◌, inl, inr, codes, append_assoc}
use Rattle.std.specs.Prelude.{Option, None, if◌then◌else◌}
use Rattle.std.proofs.lemmas.List.{append-nil}
use Rattle.own_model.specs.declared.select.Items.TheVariants as Items
use Rattle.own_model.specs.declared.select.Order.{Order}
use Rattle.own_model.specs.declared.select.Select.{Select}
use Rattle.sql_lex.specs.Keywords.{keywords}
use Rattle.sql_lex.specs.Tokens.{marks}
use Rattle.grammar_model.specs.Grammar as grammar
use Rattle.grammar_model.specs.Language.{◌>>=◌, ◌>>◌, ◌or◌, mark, pure, word}
use Rattle.grammar_model.specs.Limits.{Limits}
use Rattle.grammar_model.specs.Terminal.{Terminals}
use Rattle.text_model.specs.Canonical.{items_words, join_words, order_words, select_words, where_words}
use Rattle.text_model.specs.Words.{Words, words_of, column_words}
use Rattle.sql_print.proofs.Spelling.{writes-nothing}
use Rattle.sql_print.proofs.Rewriting.{Rewrites, whole, either, both_into, into, ending, then_next, then_made, then_pure, then_rule, then_skip, always, perhaps, reworded}
use Rattle.sql_print.proofs.NestedConditions.{condition}
use Rattle.sql_print.proofs.WrittenItems.{items, citem, gitem}
use Rattle.sql_print.proofs.WrittenTokens.{key, sign, name}
use Rattle.sql_print.proofs.WrittenValues.{col}

-- the words of a select without its order
abbrev front_words : Select → Words
front_words select = codes "SELECT" ∷ (items_words select.items ++ codes "FROM" ∷ select.from ∷ (words_of join_words select.join
    ++ (where_words select.cond ++ words_of (λ column. codes "GROUP" ∷ codes "BY" ∷ column_words column) select.group)))

-- [ASC | DESC]
direction : Rewrites grammar.direction grammar.direction (λ down. if down then codes "DESC" ∷ [] else [])
unfolding grammar.direction keywords
direction =
    whole
    (both_into (then_skip (key (codes "ASC") (refl, refl)) (λ _. always [] refl (writes-nothing (grammar.direction false) (λ out. inr (inr (refl, refl))))))
    (into (λ value out rest text. inr text) (either (then_made (key (codes "DESC") (refl, refl)) (λ _. refl)) (then_pure refl))))

module _ (limits : Limits) (levels : ℕ) where
  -- ORDER BY col [ASC | DESC]
  order : Rewrites (grammar.order limits) (grammar.order limits) order_words
  unfolding grammar.order order_words keywords
  order =
      whole (then_next (key (codes "ORDER") (refl, refl)) (λ _. then_next (key (codes "BY") (refl, refl)) (λ _.
      then_next (col limits) (λ column. then_made direction (λ down. refl)))))

  -- GROUP BY col
  group : Rewrites (word (codes "GROUP") >> word (codes "BY") >> grammar.col limits) (word (codes "GROUP") >> word (codes "BY") >> grammar.col limits) (λ column. codes "GROUP" ∷ codes "BY" ∷ column_words column)
  unfolding keywords
  group = then_rule (then_rule (key (codes "GROUP") (refl, refl)) (key (codes "BY") (refl, refl))) (col limits)

  -- [INNER] JOIN name ON col = col
  join : Rewrites (grammar.join limits) (grammar.join limits) join_words
  unfolding grammar.join join_words keywords marks
  join =
      whole (then_skip (perhaps (key (codes "INNER") (refl, refl))) (λ _.
      into (λ value out rest text. (None, out, inr (refl, refl), text))
      (then_next (key (codes "JOIN") (refl, refl)) (λ _. then_next (name limits) (λ table. then_next (key (codes "ON") (refl, refl)) (λ _.
      then_next (col limits) (λ left. then_next (sign (codes "=") refl) (λ _. then_made (col limits) (λ right. refl)))))))))

  -- what a plain select shows
  shown : Rewrites ((mark (codes "*") >> pure Items.Star) or (grammar.items (grammar.citem limits) limits >>= λ listed. pure (Items.Listed listed)))
      ((mark (codes "*") >> pure Items.Star) or (grammar.items (grammar.citem limits) limits >>= λ listed. pure (Items.Listed listed))) items_words
  unfolding items_words marks
  shown = whole (either (then_made (sign (codes "*") refl) (λ _. refl)) (then_made (items limits (citem limits)) (λ _. refl)))

  -- SELECT (* | citem {, citem}) FROM name [[INNER] JOIN name ON col = col] [WHERE cond]
  plain : Rewrites (grammar.plain limits levels) (grammar.plain limits levels) front_words
  unfolding grammar.plain keywords
  plain =
      whole (then_next (key (codes "SELECT") (refl, refl)) (λ _. then_next shown (λ found. then_next (key (codes "FROM") (refl, refl)) (λ _.
      then_next (name limits) (λ from. then_next (perhaps join) (λ joined. then_next (condition limits levels) (λ cond. then_pure refl)))))))

  -- SELECT gitem {, gitem} FROM name [WHERE cond] [GROUP BY col]
  grouped : Rewrites (grammar.grouped limits levels) (grammar.grouped limits levels) front_words
  unfolding grammar.grouped items_words keywords
  grouped =
      whole (then_next (key (codes "SELECT") (refl, refl)) (λ _. then_next (items limits (gitem limits)) (λ found. then_next (key (codes "FROM") (refl, refl)) (λ _.
      then_next (name limits) (λ from. then_next (condition limits levels) (λ cond. then_made (perhaps group) (λ grouping. refl)))))))

  -- a select without its order
  front : Rewrites (grammar.plain limits levels or grammar.grouped limits levels) (grammar.plain limits levels or grammar.grouped limits levels) front_words
  front = whole (either (ending plain (λ _. refl)) (ending grouped (λ _. refl)))

  -- the words of a select are those without its order, and then its order's
  ordered_words : (found : Select) (ordered : Option Order) → select_words (record found { order = ordered }) ≡ front_words found ++ words_of order_words ordered
  unfolding select_words
  ordered_words found ordered =
      let items = codes "SELECT" ∷ items_words found.items in
      let joined = words_of join_words found.join in
      let kept = where_words found.cond in
      let grouping = words_of (λ column. codes "GROUP" ∷ codes "BY" ∷ column_words column) found.group in
      let last = words_of order_words ordered in
      sym
      (append_assoc items (codes "FROM" ∷ found.from ∷ (joined ++ (kept ++ grouping))) last
      ∙ ap (λ l. items ++ codes "FROM" ∷ found.from ∷ l) (append_assoc joined (kept ++ grouping) last ∙ ap (λ l. joined ++ l) (append_assoc kept grouping last)))

  -- (plain | grouped) [ORDER BY col [ASC | DESC]]
  pub select : Rewrites (grammar.select limits levels) (grammar.select limits levels) select_words
  unfolding grammar.select
  select = whole (then_next front (λ found. then_made (perhaps order) (λ ordered. ordered_words found ordered)))

  -- these have no order
  no-order : (value : Select) (terminals rest : Terminals) → (grammar.plain limits levels or grammar.grouped limits levels) value terminals rest → value.order ≡ None
  unfolding grammar.plain grammar.grouped
  no-order value terminals rest (inl (_, a, _, (_, b, _, (_, c, _, (_, d, _, (_, e, _, (_, f, _, (is, ends)))))))) = ap (λ s. s.order) is
  no-order value terminals rest (inr (_, a, _, (_, b, _, (_, c, _, (_, d, _, (_, e, _, (_, f, _, (is, ends)))))))) = ap (λ s. s.order) is

  -- a view's select
  pub unordered : Rewrites (grammar.plain limits levels or grammar.grouped limits levels) (grammar.plain limits levels or grammar.grouped limits levels) select_words
  unordered =
      reworded front (λ value terminals rest text.
      sym (append-nil (front_words value)) ∙ sym (ordered_words value None) ∙ ap (λ o. select_words (record value { order = o })) (sym (no-order value terminals rest text)))
