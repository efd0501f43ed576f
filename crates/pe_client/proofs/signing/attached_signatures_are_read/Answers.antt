use Rattle.pe_client.proofs.signing.attached_signatures_are_read.Goals as goal

pub returns-clause-after : goal.returns-clause-after
returns-clause-after c = λ b h certificate f l p n parts attached signed le.
    c.signatures_are_read_where_they_stand.ensures.part f certificate _ p n (c.written_tables_have_the_certificate.ensures.after b h certificate f l parts attached signed).stands le

pub returns-clause-first : goal.returns-clause-first
returns-clause-first c = λ b h certificate f l p n parts attached signed le.
    c.signatures_are_read_where_they_stand.ensures.part f certificate _ p n (c.written_tables_have_the_certificate.ensures.first b h certificate f l parts attached signed).stands le

pub returns-clause-in_place : goal.returns-clause-in_place
returns-clause-in_place c = λ b h certificate f l p n parts attached le.
    c.signatures_are_read_where_they_stand.ensures.part f certificate _ p n (c.written_tables_have_the_certificate.ensures.in_place b h certificate f l parts attached).stands le
