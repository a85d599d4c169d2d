use Rattle.std.proofs.Common.{◌≡◌, ap, [], ◌∷◌, ◌++◌, codes}
use Rattle.own_model.specs.declared.condition.Cmp.TheVariants.{Eq}
use Rattle.own_model.specs.declared.condition.Operand.TheVariants.{Literal}
use Rattle.text_model.specs.Words.{spaced}
use Rattle.history_tests.specs.Told.{lines, texts}
use Rattle.history_tests.specs.Written.{constant, here, int, select_key, update}
use Rattle.history_tests.proofs.Computing.{history}
use Rattle.history_tests.proofs.Texts.{written_as_compared}
use Rattle.history_tests.proofs.keyed.calls_by_key_are_these_texts.Goals as goal

select_is : texts (select_key "users" 5 ∷ []) ≡ lines ("SELECT * FROM users WHERE id = 5" ∷ [])
unfolding history
select_is = ap (λ found. (spaced (codes "SELECT" ∷ codes "*" ∷ codes "FROM" ∷ codes "users" ∷ codes "WHERE" ∷ (found.words ++ [])) ++ 10 ∷ []) ++ []) (written_as_compared (here "id") Eq (Literal (int 5)))

update_is : texts (update "comments" "author" (constant (int 2)) 2 ∷ []) ≡ lines ("UPDATE comments SET author = 2 WHERE id = 2" ∷ [])
unfolding history
update_is = ap (λ found. (spaced (codes "UPDATE" ∷ codes "comments" ∷ codes "SET" ∷ codes "author" ∷ codes "=" ∷ codes "2" ∷ codes "WHERE" ∷ found.words) ++ 10 ∷ []) ++ []) (written_as_compared (here "id") Eq (Literal (int 2)))

pub returns : goal.returns
returns c = record { select = select_is; update = update_is }
