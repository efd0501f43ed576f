-- Numbers and their halves.
use Rattle.std.proofs.Common.{◌≡◌, ℕ, ◌<◌, ◌^◌, arith}
use Rattle.pe_resource.proofs.Cited.{ResourceEntry, entry_of_number, number_of, version_of_halves, high_half, low_half}
use Rattle.pe_resource.specs.declared.version.VersionField.{VersionField}

pub number_back : (n : ℕ) → n < 2 ^ 64 → number_of (entry_of_number n) ≡ n
number_back n h = omega arith

pub entry_back : (e : ResourceEntry) → e.offset_to_data_or_directory < 2 ^ 32 → entry_of_number (number_of e) ≡ e
entry_back e h = grind arith

pub version_back : (v : VersionField) → v.minor < 2 ^ 16 → v.revision < 2 ^ 16 → version_of_halves (high_half v) (low_half v) ≡ v
version_back v h k = grind arith

pub high_back : (ms ls : ℕ) → high_half (version_of_halves ms ls) ≡ ms
high_back ms ls = omega arith

pub low_back : (ms ls : ℕ) → low_half (version_of_halves ms ls) ≡ ls
low_back ms ls = omega arith
