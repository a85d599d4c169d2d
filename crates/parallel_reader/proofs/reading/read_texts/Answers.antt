use Rattle.std.proofs.Common.{◌≡◌, subst}
use Rattle.turn_model.proofs.Sent.{passed_send}
use Rattle.parallel_reader.specs.declared.unread.Unread.{Unread}
use Rattle.parallel_reader.specs.Read.{IsReadFrom}
use Rattle.parallel_reader.proofs.ReadTexts.{read-from_places}
use Rattle.parallel_reader.proofs.SentTexts.{unread_send}
use Rattle.parallel_reader.proofs.reading.read_texts.Goals as goal

-- what is so of two texts is so of those that they are
along : (x y u v : Unread) → x ≡ u → y ≡ v → IsReadFrom x y → IsReadFrom u v
along x y u v p q is = subst (λ y. IsReadFrom u y) q (subst (λ x. IsReadFrom x y) p is)

pub returns : goal.returns
returns g c = read-from_places _ _ c.for_each_mut.auto.s (λ i d inside. let at = (c.for_each_mut.ensures i d inside).1 in along _ _ _ _ at.argument_is at.left at.call)

-- a text may be sent to the thread that reads it
pub for_each_mut-requires-send-T : goal.for_each_mut-requires-send-T
for_each_mut-requires-send-T g c κs within = passed_send _ _ _ (unread_send _)
