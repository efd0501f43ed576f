-- Why a debug record is refused: by the refusal of the call that reads the record of an entry, with the numbers by its bytes.
use Rattle.std.specs.Prelude.{ℕ, ◌+◌, ◌==◌, ◌&&◌, ◌||◌, List, Option, None, if◌then◌else◌}
use Rattle.pe_core.specs.Bytes.{holds}
use Rattle.pe_core.specs.Refusals.{Short, BadMagic, DebugSize, DebugData, PogoSize}
use Rattle.pe_records.specs.DebugRecords.{record_offset}
use Rattle.pe_records.specs.declared.debug.ImageDebugDirectory.{ImageDebugDirectory}
use Rattle.calls_headers.specs.Debug.{characteristics_of, checksum_of, embedded_of, features_of, key_of, pdb20_of, pogo_of, repro_of}
use Rattle.calls_base.specs.FailureNumbers.{needed_at, no_numbers, number_there, numbers, refused, refused_value}
use Rattle.calls_base.specs.HandsOut.{result_number}
use Rattle.calls_base.specs.Modes.{resolves}
use Rattle.calls_base.specs.declared.numbers.ErrorNumbers.{ErrorNumbers}

-- what refuses the record of an entry that is read as a record of this kind, PE_C_RECORD_..
unfoldable pub record_refusal : ℕ → List ℕ → ℕ → ImageDebugDirectory → Option ℕ
record_refusal kind b mode e =
    if kind == 0 then refused (key_of b mode e)
    else if kind == 1 then refused (pdb20_of b mode e)
    else if kind == 2 then refused (features_of b mode e)
    else if kind == 3 then refused (characteristics_of b mode e)
    else if kind == 4 then refused (repro_of b mode e)
    else if kind == 5 then refused (pogo_of b mode e)
    else if kind == 6 then refused (embedded_of b mode e)
    else if kind == 7 then refused (checksum_of b mode e)
    else None

-- what is truncated of a record of this kind at offset p: the rest of the header of PDB 7.0 or 2.0 after its signature, 24 or 16
-- bytes together; five counts; the header of an embedded PDB; of any other kind its first 4 bytes, a signature, flags or a length
unfoldable pub head_needed : ℕ → List ℕ → ℕ → ErrorNumbers
head_needed kind b p =
    if kind == 0 && holds b p 4 then needed_at (p + 4) 20
    else if kind == 1 && holds b p 4 then needed_at (p + 4) 12
    else if kind == 2 then needed_at p 20
    else if kind == 6 then needed_at p 8
    else needed_at p 4

-- how many bytes a record of this kind at offset p has in the file: of Repro the hash, whose length is in the first 4 bytes; of
-- any other kind the size in the entry
abbrev pub data_needed : ℕ → List ℕ → ℕ → ImageDebugDirectory → ℕ
data_needed kind b p e = if kind == 4 then number_there b p 4 else e.size_of_data

-- the numbers of the failure of that record: the size is that in the entry, the signature the first 4 bytes
unfoldable pub record_numbers : ℕ → List ℕ → ℕ → ImageDebugDirectory → ℕ → ErrorNumbers
record_numbers kind b mode e n =
    let p = record_offset (resolves mode) e in
    if n == result_number Short then head_needed kind b p
    else if n == result_number BadMagic then refused_value (number_there b p 4)
    else if n == result_number DebugSize || n == result_number PogoSize then refused_value e.size_of_data
    else if n == result_number DebugData then numbers 0 (data_needed kind b p e) 0
    else no_numbers
