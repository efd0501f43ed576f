use Rattle.pe_sign.proofs.Cited.{header_view, ranges_view}
use Rattle.pe_sign.proofs.WrittenHeaders.{attached_digest_parsed, attached_keeps}
use Rattle.pe_sign.proofs.WrittenImages.{attached_from}
use Rattle.pe_sign.proofs.laws.calls.digest_stays.Goals as goal

pub returns : goal.returns
returns c =
    let a = c.args.call in
    let h = header_view a.header.now in
    let l = attached_from a.placement a.bytes.now h a.certificate.now a.file.now c.requires.attached in
    attached_digest_parsed c.args.mode a.placement a.bytes.now h (header_view c.args.read.now) a.certificate.now a.file.now l.0 (ranges_view c.args.old) (ranges_view c.args.new) c.requires.parsed l.1 c.requires.attached
    (attached_keeps a.placement a.bytes.now h a.certificate.now a.file.now l.0 l.1 c.requires.attached c.requires.ends) c.requires.again c.requires.old c.requires.new
