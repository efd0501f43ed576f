-- A room without sections of a TE image.
use Rattle.std.proofs.Common.{◌≡◌, ℕ, List, length, arith}
use Rattle.std.specs.Prelude.{nat_le}
use Rattle.std.proofs.lemmas.Bool.Decides.{nat_tests}
use Rattle.calls_base.proofs.Rooms.{by_room}
use Rattle.pe_core.specs.Rows.{each}
use Rattle.pe_core.specs.declared.section_table.SectionTable.{SectionTable}
use Rattle.calls_headers.specs.Headers.{PutsTeSections}
use Rattle.calls_headers.specs.declared.te.TeImage.{TeImage}

pub no_te_sections : (b : List ℕ) (te : TeImage) (room : List SectionTable) → te.number_of_sections ≡ 0 → PutsTeSections b te 0 room room
unfolding each
no_te_sections b te room e = rw e (by_room (nat_le 0 (length room)) room (grind (arith, nat_tests)))
