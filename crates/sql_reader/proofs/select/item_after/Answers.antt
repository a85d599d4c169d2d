use Rattle.std.proofs.Common.{Err}
use Rattle.grammar_model.specs.Limits.{store_limits}
use Rattle.sql_reader.specs.reading.Reader.{accept}
use Rattle.sql_reader.specs.reading.Select.{item_after}
use Rattle.sql_reader.specs.reading.Judges.{slot_of}
use Rattle.sql_reader.proofs.SameReading.{Does-same, Does-fault, item_after-full}
use Rattle.sql_reader.proofs.select.item_after.Goals as goal

pub returns : goal.returns
returns c =
    Does-same (item_after store_limits c.args.count) (accept slot_of) c.args.cursor.now (Err c.no_item.result) c.args.cursor.now (item_after-full c.args.count c.args.cursor.now c.if-count-lt-SELECT_ITEMS.false)
    (Does-fault (accept slot_of) c.args.cursor.now c.no_item.result c.args.cursor.now c.no_item.ensures)
