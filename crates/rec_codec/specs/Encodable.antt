-- Which commits may be given to the encoder.
use Rattle.disk_model.specs.declared.commit.Commit.{Commit}
use Rattle.disk_model.specs.declared.commit.Commit.TheVariants.{CreateTable, CreateView, Changes, Forget}
use Rattle.disk_model.specs.Bounds.{IsBounded}

-- One that has a payload, but for a text, which may be of any length: a long one is too big.
abbrev pub IsEncodable : Commit → Type 0
IsEncodable (CreateTable text) = Unit {0}
IsEncodable (CreateView text) = Unit {0}
IsEncodable (Changes puts) = IsBounded (Changes puts)
IsEncodable (Forget name) = IsBounded (Forget name)
