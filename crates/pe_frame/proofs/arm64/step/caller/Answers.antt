use Rattle.std.proofs.Common.{ℕ, List, drop, Some, None, subst}
use Rattle.pe_frame.proofs.Cited.{info_view, CodesThen, AreOver}
use Rattle.pe_frame.proofs.Arm64Places.{read_codes, step_by, step_ran}
use Rattle.pe_frame.proofs.arm64.step.caller.Goals as goal

pub returns-in-Some : goal.returns-in-Some
returns-in-Some g c =
    let i = info_view c.args.info.now in
    let read = read_codes c.code_bytes-codes.result.now c.require_codes.result c.in_ok-require_codes.field-0 c.require_codes.ensures c.in_ok-require_codes.was in
    let are : CodesThen AreOver i.codes read.0 = subst (λ (b : List ℕ). CodesThen AreOver b read.0) c.code_bytes-codes.ensures read.1 in
    step_by (g.M.Memory.word c.args.memory.now) i c.args.place c.prolog_length-length.result read.0 (Some c.in-Some.epilog) c.epilog_after.result c.args.registers c.caller_after.result are
    (c.prolog_length-length.ensures read.0 read.1) c.epilog_after.ensures c.in-Some.is (c.caller_after.ensures read.0 are)

pub returns-in-None : goal.returns-in-None
returns-in-None g c =
    let m = g.M.Memory.word c.args.memory.now in
    let i = info_view c.args.info.now in
    let read = read_codes c.code_bytes-codes.result.now c.require_codes.result c.in_ok-require_codes.field-0 c.require_codes.ensures c.in_ok-require_codes.was in
    let are : CodesThen AreOver i.codes read.0 = subst (λ (b : List ℕ). CodesThen AreOver b read.0) c.code_bytes-codes.ensures read.1 in
    step_by m i c.args.place c.prolog_length-length.result read.0 None c.epilog_after.result c.args.registers c.caller_by_codes.result are
    (c.prolog_length-length.ensures read.0 read.1) c.epilog_after.ensures c.in-None.is
    (step_ran m i c.args.place c.prolog_length-length.result c.saturating_sub.result read.0 c.args.registers c.caller_by_codes.result (c.prolog_length-length.ensures read.0 read.1) c.saturating_sub.ensures
    (c.caller_by_codes.ensures (drop c.saturating_sub.result read.0) (c.after_codes-left.ensures read.0 read.1)))
