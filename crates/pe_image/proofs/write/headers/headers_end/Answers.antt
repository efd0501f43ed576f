use Rattle.std.proofs.Common.{rules, arith}
use Rattle.pe_image.proofs.Cited.{err_from_is_err_and}
use Rattle.pe_image.proofs.Ends.{impossible, stub_within}
use Rattle.pe_image.proofs.write.headers.headers_end.Goals as goal

pub returns-in_err-stub : goal.returns-in_err-stub
returns-in_err-stub c = search (rules, arith, err_from_is_err_and, impossible, stub_within)
