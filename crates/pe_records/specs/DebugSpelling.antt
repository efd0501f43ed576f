-- Debug records as bytes: each field in its width, in the order of the fields.
use Rattle.std.specs.Prelude.{ℕ, ◌+◌, List, [], ◌++◌}
use Rattle.pe_core.specs.Bytes.{bytes_of}
use Rattle.pe_records.specs.DebugRecords.{Pdb70, Pdb20, Pogo, Repro, Stamp, Buffer}
use Rattle.pe_records.specs.declared.debug.records.VCFeatureInfo.{VCFeatureInfo}

unfoldable pub spell_pdb70 : Pdb70 → List ℕ
spell_pdb70 r = bytes_of 4 r.codeview_signature ++ r.signature ++ bytes_of 4 r.age ++ r.filename

unfoldable pub spell_pdb20 : Pdb20 → List ℕ
spell_pdb20 r = bytes_of 4 r.codeview_signature ++ bytes_of 4 r.codeview_offset ++ bytes_of 4 r.signature ++ bytes_of 4 r.age ++ r.filename

-- 20 bytes
unfoldable pub spell_features : VCFeatureInfo → List ℕ
spell_features r = bytes_of 4 r.pre_vc_plusplus_count ++ bytes_of 4 r.c_and_cplusplus_count ++ bytes_of 4 r.guard_stack_count
    ++ bytes_of 4 r.sdl_count ++ bytes_of 4 r.guard_count

unfoldable pub spell_pogo : Pogo → List ℕ
spell_pogo r = bytes_of 4 r.signature ++ r.bytes

-- a time stamp has no bytes of its own
unfoldable pub spell_repro : Repro → List ℕ
spell_repro (Stamp stamp) = []
spell_repro (Buffer count bytes) = bytes_of 4 count ++ bytes

-- how many bytes that is
abbrev pub size_of_repro : Repro → ℕ
size_of_repro (Stamp stamp) = 0
size_of_repro (Buffer count bytes) = 4 + count
