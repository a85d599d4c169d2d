-- What a commit keeps of a change.
use Rattle.std.specs.Prelude.{List, map}
use Rattle.own_base.specs.declared.change.Change.{Change}
use Rattle.disk_model.specs.declared.commit.Put.{Put}

-- which row, and what it is afterwards
abbrev pub put_of : Change → Put
put_of change = record { name = change.name; after = change.after }

abbrev pub puts_of : List Change → List Put
puts_of changes = map put_of changes
