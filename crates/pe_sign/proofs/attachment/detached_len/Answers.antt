use Rattle.std.proofs.Common.{rules, arith}
use Rattle.pe_sign.proofs.Tests.{detached_value, length_value}
use Rattle.pe_sign.proofs.Writes.{length-detached}
use Rattle.pe_sign.proofs.attachment.detached_len.Goals as goal

pub returns : goal.returns
returns c = search (rules, arith, length_value, detached_value, length-detached)
