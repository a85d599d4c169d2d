-- The entry of a session's end, as its call of a number.
use Rattle.std.specs.Prelude.{ℕ}
use Rattle.own_base.specs.declared.number.SessionNo.{SessionNo}
use Rattle.own_model.specs.declared.history.Entry.{Entry}
use Rattle.own_model.specs.declared.history.Verdict.TheVariants.{Took}
use Rattle.own_model.specs.declared.request.Request.TheVariants.{End}

abbrev pub end_of : SessionNo → ℕ → Entry
end_of session call = record { session = session; call = call; request = End; verdict = Took }
