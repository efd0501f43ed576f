use Rattle.std.proofs.Common.{◌-◌, length}
use Rattle.pe_directories.proofs.LoadedImages.{LaidOut}
use Rattle.pe_directories.specs.LoadedImages.{loaded_byte}
use Rattle.pe_directories.proofs.loaded_image.lay_out.Given as goal

-- the image is laid out up to the RVA
abbrev pub invariant-loop-rva : goal.invariant-loop-rva
invariant-loop-rva g l = LaidOut (λ x. loaded_byte l.fn.bytes l.fn.size_of_headers x (g.R.Runs.to_offset l.fn.runs x)) l.fn.image l.image l.rva

-- fewer RVAs are left
abbrev pub decreases-loop-rva : goal.decreases-loop-rva
decreases-loop-rva g l = length l.image - l.rva
