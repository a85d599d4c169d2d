use Rattle.std.proofs.Common.{◌≡◌, ◌∙◌, ℕ, List, [], ◌++◌, length, take, drop, append-nil, arith, ap, sym}
use Rattle.std.proofs.Math.ListN.{drop_of_length-le}
use Rattle.std.proofs.Math.Seq.{take-length}
use Rattle.parallel_reader.specs.declared.unread.Unread.{Unread}
use Rattle.parallel_reader.specs.Read.{AreReadFrom}
use Rattle.parallel_reader.proofs.ReadTexts.{read-length}
use Rattle.parallel_reader.proofs.reading.read_all.Goals as goal

-- the texts that were read are all that lie in the list where they were
all_of : (count : ℕ) (unread read : List Unread) → count ≡ length unread → AreReadFrom unread read → take count (read ++ drop (length read) unread) ≡ read
all_of count unread read counts from =
    let long = read-length unread read from in
    let rest : drop (length read) unread ≡ [] = drop_of_length-le unread (omega arith) in
    ap (λ l. take count (read ++ l)) rest ∙ (ap (take count) (append-nil read) ∙ (ap (λ n. take n read) (counts ∙ sym long) ∙ take-length read))

pub read_texts-requires-clause-short : goal.read_texts-requires-clause-short
read_texts-requires-clause-short g c κs within = rw c.as_mut_slice.ensures.value c.requires.short

pub returns : goal.returns
returns g c =
    let from : AreReadFrom c.args.unread.items c.read_texts.new.unread = rw (← c.as_mut_slice.ensures.value) c.read_texts.ensures in
    rw (all_of c.args.unread.len c.args.unread.items c.read_texts.new.unread (omega (arith, c.args.unread.ok)) from) from
