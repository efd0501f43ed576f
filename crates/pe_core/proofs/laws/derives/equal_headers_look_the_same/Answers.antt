use Rattle.pe_core.proofs.FieldEquality.{headers_equal}
use Rattle.pe_core.proofs.laws.derives.equal_headers_look_the_same.Goals as goal

pub returns : goal.returns
returns c x y =
    let records = c.equal_records_are_the_same.ensures in
    headers_equal _ _ _ records.dos_header records.coff_header c.equal_optional_headers_look_the_same.ensures x y
