use Rattle.pe_core.specs.Header.{header_view}
use Rattle.pe_image.proofs.Requests.{no_sections}
use Rattle.pe_image.proofs.core_image.sections.Goals as goal

pub returns-then-header-eq0-clause-sections : goal.returns-then-header-eq0-clause-sections
returns-then-header-eq0-clause-sections g c = no_sections c.args.bytes.now (header_view c.args.header.now) _ c.if-header-eq0.true c.new.ensures.items
