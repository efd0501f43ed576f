use Rattle.std.proofs.Common.{◌≡◌, ◌-◌, ◌∙◌, ℕ, List, drop, ap, sym, subst, arith}
use Rattle.pe_frame.proofs.Cited.{Arm64UnwindCode, info_view, caller_by_codes, CodesThen, AreOver}
use Rattle.pe_frame.proofs.Arm64Places.{read_codes, left_yes, left_no, step_in}
use Rattle.pe_frame.proofs.arm64.step.caller_after.Goals as goal

pub returns-then-is_in_epilog : goal.returns-then-is_in_epilog
returns-then-is_in_epilog g c cs are =
    let m = g.M.Memory.word c.args.memory.now in
    let i = info_view c.args.info.now in
    let e = c.args.epilog in
    let read = read_codes c.codes_from-rest.result.now c.require_codes.result c.in_ok-require_codes.field-0 c.require_codes.ensures c.in_ok-require_codes.was in
    let rest : c.codes_from-rest.result.now ≡ drop e.index i.codes = c.codes_from-rest.ensures ∙ ap (drop e.index) c.code_bytes-codes.ensures in
    let length = c.prolog_length-length.ensures read.0 read.1 in
    let start = c.epilog_start-start.result in
    let left : drop c.saturating_sub.result read.0 ≡ drop (c.args.place - start) read.0 = ap (λ (n : ℕ). drop n read.0) c.saturating_sub.ensures in
    step_in m i c.args.place cs read.0 e c.args.registers _ c.prolog_length-length.result start c.caller_by_codes.result
    (subst (λ (b : List ℕ). CodesThen AreOver b read.0) rest read.1) length (omega (arith, c.function_length-count.ensures)) c.epilog_start-start.ensures
    (c.caller_by_codes.ensures (drop c.saturating_sub.result read.0) (c.after_codes-left.ensures read.0 read.1)
    ∙ ap (λ (ds : List Arm64UnwindCode). caller_by_codes m ds c.args.registers) (left ∙ sym (left_yes c.args.place start c.prolog_length-length.result read.0 cs length (sym c.if-is_in_epilog.ensures))))

pub returns : goal.returns
returns g c cs are =
    let m = g.M.Memory.word c.args.memory.now in
    let i = info_view c.args.info.now in
    let e = c.args.epilog in
    let read = read_codes c.codes_from-rest.result.now c.require_codes.result c.in_ok-require_codes.field-0 c.require_codes.ensures c.in_ok-require_codes.was in
    let rest : c.codes_from-rest.result.now ≡ drop e.index i.codes = c.codes_from-rest.ensures ∙ ap (drop e.index) c.code_bytes-codes.ensures in
    let length = c.prolog_length-length.ensures read.0 read.1 in
    let start = c.epilog_start-start.result in
    step_in m i c.args.place cs read.0 e c.args.registers _ c.prolog_length-length.result start c.caller_by_codes-2.result
    (subst (λ (b : List ℕ). CodesThen AreOver b read.0) rest read.1) length (omega (arith, c.function_length-count.ensures)) c.epilog_start-start.ensures
    (c.caller_by_codes-2.ensures cs (subst (λ (b : List ℕ). CodesThen AreOver b cs) (sym c.code_bytes-codes.ensures) are)
    ∙ ap (λ (ds : List Arm64UnwindCode). caller_by_codes m ds c.args.registers) (sym (left_no c.args.place start c.prolog_length-length.result read.0 cs length (sym c.if-is_in_epilog.ensures))))
