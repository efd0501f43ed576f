-- What the calls return decides the resources of an image.
use Rattle.std.proofs.Common.{◌≡◌, ℕ, Bool, true, false, List, Option, Some, None, Result, Ok, Err, sym, ap, subst, ◌∙◌, arith}
use Rattle.pe_core.proofs.Steps.{one_ok}
use Rattle.pe_core.specs.Refusals.{Refusal}
use Rattle.pe_core.specs.declared.byte_range.ByteRange.{ByteRange}
use Rattle.pe_core.specs.declared.data_directories.DataDirectory.{DataDirectory}
use Rattle.pe_core.specs.declared.options.ParseOptions.{ParseOptions}
use Rattle.pe_core.specs.declared.section_table.SectionTable.{SectionTable}
use Rattle.pe_resource.specs.Resources.{IsResourceRange, ResourceView}
use Rattle.pe_resource.specs.VersionFields.{FileStrings, VersionView, value_named}
use Rattle.pe_resource.specs.declared.version.VersionName.{VersionName}
use Rattle.pe_resource.specs.declared.version.VersionName.TheVariants as names
use Rattle.pe_resource.specs.declared.version.VsFixedFileInfo.{VsFixedFileInfo}
use Rattle.calls_failures.proofs.OneParts.{one_range}
use Rattle.calls_failures.proofs.OneRun.{one_option}
use Rattle.calls_directories.specs.DirectoryTables.{root_at}
use Rattle.calls_failures.specs.ImageParts.{AreResources, AreResourcesBy, AreResourcesUnless, AreStrings, HasOption, IsVersionAt, IsVersionBy, is_left_out}
use Rattle.calls_base.specs.Images.{directory, is_absent, resource_directory}
use Rattle.calls_base.specs.Modes.{options_of}
use Rattle.calls_base.specs.Ranges.{IsRange, range_of}
use Rattle.calls_directories.specs.Versions.{IsContentBy, IsContentOf, fixed_in, text_in}
use Rattle.calls_directories.specs.declared.directories.tables.ResourceDirectory.{ResourceDirectory}
use Rattle.calls_base.specs.declared.image.Image.{Image}
use Rattle.calls_base.specs.declared.ranges.Range.{Range}

-- the law of pe_resource that the range of a resource is one
abbrev pub OneContent : Type 0
OneContent = (o : ParseOptions) (f : List ℕ) (d : DataDirectory) (id : ℕ) (sections : List SectionTable) (alignment : ℕ) (r s : Result (Option ByteRange) Refusal) → IsResourceRange o f d id sections alignment r → IsResourceRange o f d id sections alignment s → r ≡ s

one_content_by : OneContent → (o : ParseOptions) (b : List ℕ) (image : Image) (sections : List SectionTable) (id : ℕ) (absent : Bool) (r s : Result (Option ByteRange) Refusal) →
    IsContentBy absent o b image (λ _. sections) id r → IsContentBy absent o b image (λ _. sections) id s → r ≡ s
one_content_by law o b image sections id true r s g h = g ∙ sym h
one_content_by law o b image sections id false r s g h = law o b (resource_directory image) id sections image.file_alignment r s g h

one_content : OneContent → (b : List ℕ) (image : Image) (sections : List SectionTable) (id : ℕ) (r s : Result (Option ByteRange) Refusal) → IsContentOf b image (λ _. sections) image.mode id r → IsContentOf b image (λ _. sections) image.mode id s → r ≡ s
one_content law b image sections id r s g h = one_content_by law (options_of image.mode) b image sections id (is_absent (resource_directory image)) r s g h

-- ---- version information

same_strings : (s t : FileStrings) → ((name : VersionName) → value_named name s ≡ value_named name t) → s ≡ t
same_strings s t same =
    ap (λ (v : Option (List ℕ)). record s { comments = v }) (same names.Comments)
    ∙ ap (λ (v : Option (List ℕ)). record s { comments = t.comments; company_name = v }) (same names.CompanyName)
    ∙ ap (λ (v : Option (List ℕ)). record s { comments = t.comments; company_name = t.company_name; file_description = v }) (same names.FileDescription)
    ∙ ap (λ (v : Option (List ℕ)). record s { comments = t.comments; company_name = t.company_name; file_description = t.file_description; file_version = v }) (same names.FileVersion)
    ∙ ap (λ (v : Option (List ℕ)). record s { comments = t.comments; company_name = t.company_name; file_description = t.file_description; file_version = t.file_version; internal_name = v }) (same names.InternalName)
    ∙ ap (λ (v : Option (List ℕ)). record s { comments = t.comments; company_name = t.company_name; file_description = t.file_description; file_version = t.file_version; internal_name = t.internal_name; legal_copyright = v }) (same names.LegalCopyright)
    ∙ ap (λ (v : Option (List ℕ)). record s { comments = t.comments; company_name = t.company_name; file_description = t.file_description; file_version = t.file_version; internal_name = t.internal_name; legal_copyright = t.legal_copyright; legal_trademarks = v }) (same names.LegalTrademarks)
    ∙ ap (λ (v : Option (List ℕ)). record s { comments = t.comments; company_name = t.company_name; file_description = t.file_description; file_version = t.file_version; internal_name = t.internal_name; legal_copyright = t.legal_copyright; legal_trademarks = t.legal_trademarks; original_filename = v }) (same names.OriginalFilename)
    ∙ ap (λ (v : Option (List ℕ)). record s { comments = t.comments; company_name = t.company_name; file_description = t.file_description; file_version = t.file_version; internal_name = t.internal_name; legal_copyright = t.legal_copyright; legal_trademarks = t.legal_trademarks; original_filename = t.original_filename; private_build = v }) (same names.PrivateBuild)
    ∙ ap (λ (v : Option (List ℕ)). record s { comments = t.comments; company_name = t.company_name; file_description = t.file_description; file_version = t.file_version; internal_name = t.internal_name; legal_copyright = t.legal_copyright; legal_trademarks = t.legal_trademarks; original_filename = t.original_filename; private_build = t.private_build; product_name = v }) (same names.ProductName)
    ∙ ap (λ (v : Option (List ℕ)). record s { comments = t.comments; company_name = t.company_name; file_description = t.file_description; file_version = t.file_version; internal_name = t.internal_name; legal_copyright = t.legal_copyright; legal_trademarks = t.legal_trademarks; original_filename = t.original_filename; private_build = t.private_build; product_name = t.product_name; product_version = v }) (same names.ProductVersion)
    ∙ ap (λ (v : Option (List ℕ)). record s { comments = t.comments; company_name = t.company_name; file_description = t.file_description; file_version = t.file_version; internal_name = t.internal_name; legal_copyright = t.legal_copyright; legal_trademarks = t.legal_trademarks; original_filename = t.original_filename; private_build = t.private_build; product_name = t.product_name; product_version = t.product_version; special_build = v }) (same names.SpecialBuild)

one_strings : (b : List ℕ) (content : Range) (s t : FileStrings) → AreStrings b content s → AreStrings b content t → s ≡ t
one_strings b content s t g h = same_strings s t (λ name.
    let a = g name in
    let c = h name in
    let same : a.0 ≡ c.0 = one_ok (text_in b content (Some name)) a.0 c.0 a.1 c.1 in
    one_option (IsRange b) (one_range b) a.0 (value_named name s) (value_named name t) a.2 (subst (λ (v : Option Range). HasOption (IsRange b) v (value_named name t)) (sym same) c.2))

one_version_by : (b : List ℕ) (content : Range) (fixed : Result (Option VsFixedFileInfo) Refusal) (x y : Result (Option VersionView) Refusal) → IsVersionBy b content fixed x → IsVersionBy b content fixed y → x ≡ y
one_version_by b content (Err e) x y g h = g ∙ sym h
one_version_by b content (Ok fixed) x y g h = g.2 ∙ ap (λ (s : FileStrings). Ok (Some (record { fixed_info = fixed; strings = s }))) (one_strings b content g.0 h.0 g.1 h.1) ∙ sym h.2

one_version : (b : List ℕ) (content : Result (Option ByteRange) Refusal) (x y : Result (Option VersionView) Refusal) → IsVersionAt b content x → IsVersionAt b content y → x ≡ y
one_version b (Err e) x y g h = g ∙ sym h
one_version b (Ok None) x y g h = g ∙ sym h
one_version b (Ok (Some c)) x y g h = one_version_by b (range_of c) (fixed_in b (range_of c)) x y g h

-- ---- all of them

one_by : OneContent → (b : List ℕ) (image : Image) (sections : List SectionTable) (start : Result (Option ResourceDirectory) Refusal) (x y : Result (Option ResourceView) Refusal) →
    AreResourcesBy b image sections start x → AreResourcesBy b image sections start y → x ≡ y
one_by law b image sections (Err e) x y g h = g ∙ sym h
one_by law b image sections (Ok None) x y g h = g ∙ sym h
one_by law b image sections (Ok (Some root)) x y g h = grind (arith, one_content, one_version)

one_unless : OneContent → (b : List ℕ) (image : Image) (sections : List SectionTable) (absent : Bool) (x y : Result (Option ResourceView) Refusal) → AreResourcesUnless absent b image sections x → AreResourcesUnless absent b image sections y → x ≡ y
one_unless law b image sections true x y g h = g ∙ sym h
one_unless law b image sections false x y g h = one_by law b image sections (root_at b image sections) x y g h

pub one_resources : OneContent → (wanted : Bool) (b : List ℕ) (image : Image) (sections : List SectionTable) (x y : Result (Option ResourceView) Refusal) → AreResources wanted b image sections x → AreResources wanted b image sections y → x ≡ y
one_resources law wanted b image sections x y g h = one_unless law b image sections (is_left_out wanted (directory image 2)) x y g h
