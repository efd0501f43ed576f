-- Version numbers, fixed file information, and the strings of a file. (This project's profile.)
use Rattle.std.specs.Prelude.{◌≡◌, ℕ, ◌+◌, ◌*◌, ◌/◌, ◌%◌, ◌^◌, ◌<◌, ◌++◌, List, length, Option, Some, None, Result, Ok, Err, String, string_bytes, codes}
use Rattle.std.specs.Fmt.{decimal}
use Rattle.std.specs.Option.{option_map}
use Rattle.pe_core.specs.Bytes.{le, record_at}
use Rattle.pe_core.specs.Refusals.{Refusal, ◌>>=◌}
use Rattle.pe_core.specs.declared.byte_range.ByteRange.{ByteRange}
use Rattle.pe_resource.specs.VersionStrings.{VersionString, strings, read, all_read, value_of, value_range, text}
use Rattle.pe_resource.specs.declared.version.StringFileInfo.{StringFileInfo}
use Rattle.pe_resource.specs.declared.version.VersionField.{VersionField}
use Rattle.pe_resource.specs.declared.version.VersionInfo.{VersionInfo}
use Rattle.pe_resource.specs.declared.version.VersionName.{VersionName}
use Rattle.pe_resource.specs.declared.version.VersionName.TheVariants as names
use Rattle.pe_resource.specs.declared.version.VsFixedFileInfo.{VsFixedFileInfo}

-- ---- version numbers

-- the version of two 32-bit numbers: major and minor are the halves of `ms`, build and revision those of `ls`
abbrev pub version_of_halves : ℕ → ℕ → VersionField
version_of_halves ms ls = record { major = ms / 2 ^ 16; minor = ms % 2 ^ 16; build = ls / 2 ^ 16; revision = ls % 2 ^ 16 }

-- the first number: major and minor
abbrev pub high_half : VersionField → ℕ
high_half v = v.major * 2 ^ 16 + v.minor

-- the second number: build and revision
abbrev pub low_half : VersionField → ℕ
low_half v = v.build * 2 ^ 16 + v.revision

-- both numbers as one 64-bit number
abbrev pub whole_number : VersionField → ℕ
whole_number v = high_half v * 2 ^ 32 + low_half v

-- each part fits into 16 bits
abbrev pub HasParts : VersionField → Type 0
HasParts v = (v.major < 2 ^ 16) × (v.minor < 2 ^ 16) × (v.build < 2 ^ 16) × (v.revision < 2 ^ 16)

-- the four parts in decimal digits, joined by dots
abbrev pub version_text : VersionField → List ℕ
version_text v = decimal v.major ++ codes "." ++ decimal v.minor ++ codes "." ++ decimal v.build ++ codes "." ++ decimal v.revision

-- ---- fixed file information

-- the fixed file information at p, 52 bytes
unfoldable pub fixed_info_at : List ℕ → ℕ → VsFixedFileInfo
fixed_info_at b p = record {
  signature = le b p 4;
  struct_version = le b (p + 4) 4;
  file_version_ms = le b (p + 8) 4;
  file_version_ls = le b (p + 12) 4;
  product_version_ms = le b (p + 16) 4;
  product_version_ls = le b (p + 20) 4;
  file_flags_mask = le b (p + 24) 4;
  file_flags = le b (p + 28) 4;
  file_os = le b (p + 32) 4;
  file_type = le b (p + 36) 4;
  file_subtype = le b (p + 40) 4;
  file_date_ms = le b (p + 44) 4;
  file_date_ls = le b (p + 48) 4;
}

-- the fixed file information in a value, if there is a value
abbrev pub fixed_info_in : Option (List ℕ) → Result (Option VsFixedFileInfo) Refusal
fixed_info_in None = Ok None
fixed_info_in (Some v) = record_at v 0 52 (Some (fixed_info_at v 0))

-- the fixed file information in version information; refused if any string is refused
unfoldable pub fixed_info_of : List ℕ → Result (Option VsFixedFileInfo) Refusal
fixed_info_of b = all_read (strings b) >>= λ _. fixed_info_in (value_of (codes "VS_VERSION_INFO") (read (strings b)))

-- ---- the strings of a file

-- the characters of the twelve names
abbrev pub version_key : VersionName → List ℕ
version_key names.Comments = codes "Comments"
version_key names.CompanyName = codes "CompanyName"
version_key names.FileDescription = codes "FileDescription"
version_key names.FileVersion = codes "FileVersion"
version_key names.InternalName = codes "InternalName"
version_key names.LegalCopyright = codes "LegalCopyright"
version_key names.LegalTrademarks = codes "LegalTrademarks"
version_key names.OriginalFilename = codes "OriginalFilename"
version_key names.PrivateBuild = codes "PrivateBuild"
version_key names.ProductName = codes "ProductName"
version_key names.ProductVersion = codes "ProductVersion"
version_key names.SpecialBuild = codes "SpecialBuild"

-- the values of the twelve names
pub record FileStrings : Type 0 where
  pub comments : Option (List ℕ)
  pub company_name : Option (List ℕ)
  pub file_description : Option (List ℕ)
  pub file_version : Option (List ℕ)
  pub internal_name : Option (List ℕ)
  pub legal_copyright : Option (List ℕ)
  pub legal_trademarks : Option (List ℕ)
  pub original_filename : Option (List ℕ)
  pub private_build : Option (List ℕ)
  pub product_name : Option (List ℕ)
  pub product_version : Option (List ℕ)
  pub special_build : Option (List ℕ)

-- the value of a name
abbrev pub value_named : VersionName → FileStrings → Option (List ℕ)
value_named names.Comments s = s.comments
value_named names.CompanyName s = s.company_name
value_named names.FileDescription s = s.file_description
value_named names.FileVersion s = s.file_version
value_named names.InternalName s = s.internal_name
value_named names.LegalCopyright s = s.legal_copyright
value_named names.LegalTrademarks s = s.legal_trademarks
value_named names.OriginalFilename s = s.original_filename
value_named names.PrivateBuild s = s.private_build
value_named names.ProductName s = s.product_name
value_named names.ProductVersion s = s.product_version
value_named names.SpecialBuild s = s.special_build

-- the values of the twelve names in these strings
abbrev pub file_strings : List VersionString → FileStrings
file_strings ss = record {
  comments = value_of (codes "Comments") ss;
  company_name = value_of (codes "CompanyName") ss;
  file_description = value_of (codes "FileDescription") ss;
  file_version = value_of (codes "FileVersion") ss;
  internal_name = value_of (codes "InternalName") ss;
  legal_copyright = value_of (codes "LegalCopyright") ss;
  legal_trademarks = value_of (codes "LegalTrademarks") ss;
  original_filename = value_of (codes "OriginalFilename") ss;
  private_build = value_of (codes "PrivateBuild") ss;
  product_name = value_of (codes "ProductName") ss;
  product_version = value_of (codes "ProductVersion") ss;
  special_build = value_of (codes "SpecialBuild") ss;
}

-- the view of these values
abbrev pub file_strings_view : StringFileInfo → FileStrings
file_strings_view i = record {
  comments = option_map (λ v. v.now) i.comments;
  company_name = option_map (λ v. v.now) i.company_name;
  file_description = option_map (λ v. v.now) i.file_description;
  file_version = option_map (λ v. v.now) i.file_version;
  internal_name = option_map (λ v. v.now) i.internal_name;
  legal_copyright = option_map (λ v. v.now) i.legal_copyright;
  legal_trademarks = option_map (λ v. v.now) i.legal_trademarks;
  original_filename = option_map (λ v. v.now) i.original_filename;
  private_build = option_map (λ v. v.now) i.private_build;
  product_name = option_map (λ v. v.now) i.product_name;
  product_version = option_map (λ v. v.now) i.product_version;
  special_build = option_map (λ v. v.now) i.special_build;
}

-- the text of a value, if there is a value and it is a text
abbrev pub text_in : Option (List ℕ) → Option (List ℕ)
text_in None = None
text_in (Some v) = text v

-- there is a value with an even number of bytes, so it may be a text
abbrev pub MayBeText : Option (List ℕ) → Type 0
MayBeText None = ⊥
MayBeText (Some v) = length v % 2 ≡ 0

-- the result of reading a value as a text; memory runs out only if the value may be a text
abbrev pub ReturnsText : {Y Z : Type 0} → Result (Option (String Z)) Y → Option (List ℕ) → Type 0
ReturnsText (Ok s) value = option_map string_bytes s ≡ text_in value
ReturnsText (Err e) value = MayBeText value

-- ---- both together

-- version information, independent of where its bytes lie in memory
pub record VersionView : Type 0 where
  pub fixed_info : Option VsFixedFileInfo
  pub strings : FileStrings

-- the view of version information
abbrev pub version_view : VersionInfo → VersionView
version_view v = record { fixed_info = v.fixed_info; strings = file_strings_view v.string_info }

-- the version information of these bytes
unfoldable pub version_in : List ℕ → Result VersionView Refusal
version_in b = fixed_info_of b >>= λ f. Ok (record { fixed_info = f; strings = file_strings (read (strings b)) })

-- the range of the value of a name in version information; refused if the version information is
unfoldable pub value_range_in : VersionName → List ℕ → Result (Option ByteRange) Refusal
value_range_in name b = fixed_info_of b >>= λ _. Ok (value_range (version_key name) 0 (read (strings b)))
