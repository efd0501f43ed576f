use Rattle.std.proofs.Common.{◌≡◌, Ok, subst}
use Rattle.pe_sign.proofs.Cited.{HeaderView, header_at, header_view, attached_of}
use Rattle.pe_sign.proofs.DetachedAgain.{is_detached}
use Rattle.pe_sign.proofs.WrittenHeaders.{same_ok}
use Rattle.pe_sign.proofs.laws.calls.attached_is_detached.Goals as goal

pub returns : goal.returns
returns c = λ h l e i ends.
    let a = c.args.call in
    let same : header_view a.header.now ≡ h = same_ok (header_at a.bytes.now c.args.mode) (header_view a.header.now) h c.requires.parsed e in
    let at : attached_of a.placement a.bytes.now h a.certificate.now ≡ Ok a.file.now = subst (λ (k : HeaderView). attached_of a.placement a.bytes.now k a.certificate.now ≡ Ok a.file.now) same c.requires.attached in
    is_detached c.args.mode a.placement a.bytes.now h (header_view c.args.read.now) a.certificate.now a.file.now l e i at ends c.requires.again
