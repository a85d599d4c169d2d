-- What is asked for can be read, and by a session.
use Rattle.std.proofs.Common.{◌≡◌, ◌≤◌, ◌+◌, ℕ, Bool, true, false, List, [], ◌∷◌, length, refl, sym, subst, arith}
use Rattle.std.specs.Prelude.{Option, None, Some, nat_lt, if◌then◌else◌}
use Rattle.std.specs.List.{AllByRecursion}
use Rattle.std.proofs.lemmas.Bool.{ltb-false}
use Rattle.own_model.specs.declared.limit.TheConstants.{SESSIONS, STATEMENT_BYTES}
use Rattle.own_model.specs.declared.request.Request.{Request}
use Rattle.own_model.specs.declared.request.Request.TheVariants.{End}
use Rattle.grammar_model.specs.Readable.{IsReadable}
use Rattle.grammar_model.proofs.Requests.{answer_readable}
use Rattle.script_model.specs.Asked.{IsAskedWhere}
use Rattle.call_stream.specs.Stretches.{IsCallIn, IsCallOf}
use Rattle.call_stream.specs.Taken.{IsPlain, IsPlainCall, ends_at}
use Rattle.call_stream.specs.declared.call.StreamCall.{StreamCall}

-- a text asks for what can be read
readable : (text : List ℕ) (request : Request) (closed long : Bool) → nat_lt STATEMENT_BYTES (length text) ≡ long → IsAskedWhere closed long text request → IsReadable request
readable text request false long is asked = subst IsReadable (sym asked) tt
readable text request true true is asked = subst IsReadable (sym asked) tt
readable text request true false is asked =
    let short = ltb-false STATEMENT_BYTES (length text) is in
    subst IsReadable (sym asked.gives) (answer_readable text asked.answer (omega arith) asked.utf8 asked.answers)

pub call_plain : (text : List ℕ) (line session count : ℕ) (closed : Bool) (shown : StreamCall) → 1 ≤ session → session ≤ SESSIONS → IsCallOf text line session count closed shown → IsPlainCall shown.call
call_plain text line session count closed shown some within call =
    subst IsPlainCall (sym call.call_is) (readable text call.request closed _ refl call.asked, (some, within))

pub found_plain : (bytes : List ℕ) (start end lines session count : ℕ) (closed : Bool) (call : Option StreamCall) → 1 ≤ session → session ≤ SESSIONS → IsCallIn bytes start end lines session count closed call → IsPlain call
found_plain bytes start end lines session count closed None some within is = tt
found_plain bytes start end lines session count closed (Some shown) some within is = call_plain _ _ session count closed shown some within is.2

pub end_plain : (session count : ℕ) → 1 ≤ session → session ≤ SESSIONS → AllByRecursion IsPlainCall (ends_at session count)
end_plain session count some within = by (nat_lt 0 count)
  where
    by : (more : Bool) → AllByRecursion IsPlainCall (if more then record { session = record { 0 = session }; call = count + 1; request = End } ∷ [] else [])
    by true = ((tt, (some, within)), tt)
    by false = tt
