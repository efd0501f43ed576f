-- No definition of resources is ever refused as out of memory.
use Rattle.std.proofs.Common.{ℕ, zero, suc, ◌==◌, Bool, List, [], length, Option, Some, None, Result, Ok, Err, if◌then◌else◌, sym, subst, arith}
use Rattle.pe_resource.proofs.Cited.{codes, bytes_in, Refusal, DataDirectory, ParseOptions, SectionTable, Lacks, outcome_lacks, then_lacks}
use Rattle.pe_resource.proofs.Cited.{if_lacks, one_test_lacks, ImageResourceDirectory, ResourceEntry, map_of, IsLeaf, file_range}
use Rattle.pe_resource.proofs.Cited.{file_bytes, named_range, range_in, IsContent, version_of_content, IsVersion, VersionView, version_in}
use Rattle.pe_resource.proofs.Cited.{fixed_info_of, fixed_info_in, VersionString, version_string_at, whole_string_at, then_more, strings_in}
use Rattle.pe_resource.proofs.Cited.{strings, read, all_read, value_of}
use Rattle.pe_core.specs.SectionMap.{section_map}
use Rattle.pe_core.specs.declared.options.ParseMode.{ParseMode}
use Rattle.pe_resource.specs.Directories.{directory_at, directory_at_offset}
use Rattle.pe_resource.specs.Resources.{ResourceView, no_resources, first_entries_in, FirstDirectoryView, first_directory, IsOfFirst, AreResources, IsResource}

-- ---- contents

leaf_lacks : (b : List ℕ) (o : Option ResourceEntry) (r : Result (Option ℕ) Refusal) → IsLeaf b o r → Lacks r
leaf_lacks b o r h = grind (arith, then_lacks)

file_range_lacks : (f : List ℕ) (size : ℕ) (o : Option ℕ) → Lacks (file_range f size o)
file_range_lacks f size o = grind (arith, one_test_lacks)

file_bytes_lacks : (f : List ℕ) (size : ℕ) (o : Option ℕ) → Lacks (file_bytes f size o)
file_bytes_lacks f size o = then_lacks (file_range f size o) (λ r. Ok (bytes_in f r)) (file_range_lacks f size o) (λ r. tt)

named_lacks : (map : ℕ → Option ℕ) (f b : List ℕ) (p : ℕ) → Lacks (named_range map f b p)
unfolding named_range
named_lacks map f b p = grind (arith, then_lacks, one_test_lacks, file_range_lacks)

range_in_lacks : (map : ℕ → Option ℕ) (f b : List ℕ) (o : Option ℕ) → Lacks (range_in map f b o)
range_in_lacks map f b o = grind (arith, then_lacks, named_lacks)

pub content_lacks : (map : ℕ → Option ℕ) (f b : List ℕ) (es : List ResourceEntry) (id : ℕ) (r : Result (Option (List ℕ)) Refusal) → IsContent map f b es id r → Lacks r
content_lacks map f b es id r h = grind (arith, then_lacks, leaf_lacks, range_in_lacks)

-- ---- version information

string_lacks : (b : List ℕ) → Lacks (version_string_at b 0)
unfolding whole_string_at
string_lacks b = grind (arith, if_lacks, outcome_lacks)

more_lacks : (rest : List ℕ → List (Result VersionString Refusal)) (b : List ℕ) (r : Result (Option VersionString × ℕ) Refusal) → Lacks r → ((c : List ℕ) → Lacks (all_read (rest c))) → Lacks (all_read (then_more rest b r))
more_lacks rest b r h k = grind arith

or_nothing : (t : Bool) (xs : List (Result VersionString Refusal)) → Lacks (all_read xs) → Lacks (all_read (if t then [] else xs))
or_nothing t xs h = grind arith

strings_in_lacks : (n : ℕ) (b : List ℕ) → Lacks (all_read (strings_in n b))
strings_in_lacks zero b = tt
strings_in_lacks (suc n) b = or_nothing (length b == 0) (then_more (strings_in n) b (version_string_at b 0)) (more_lacks (strings_in n) b (version_string_at b 0) (string_lacks b) (strings_in_lacks n))

fixed_lacks : (o : Option (List ℕ)) → Lacks (fixed_info_in o)
fixed_lacks o = grind (arith, one_test_lacks)

fixed_info_lacks : (b : List ℕ) → Lacks (fixed_info_of b)
unfolding fixed_info_of strings
fixed_info_lacks b =
    then_lacks (all_read (strings b)) _ (strings_in_lacks (length b) b)
    (λ u. fixed_lacks (value_of (codes "VS_VERSION_INFO") (read (strings b))))

version_of_lacks : (o : Option (List ℕ)) → Lacks (version_of_content o)
unfolding version_in
version_of_lacks None = tt
version_of_lacks (Some c) =
    then_lacks (version_in c) (λ v. Ok (Some v)) (then_lacks (fixed_info_of c) _ (fixed_info_lacks c) (λ f. tt)) (λ v. tt)

pub version_lacks : (map : ℕ → Option ℕ) (f b : List ℕ) (es : List ResourceEntry) (r : Result (Option VersionView) Refusal) → IsVersion map f b es r → Lacks r
version_lacks map f b es r h =
    subst Lacks (sym h.2) (then_lacks h.0 version_of_content (content_lacks map f b es 16 h.0 h.1) version_of_lacks)

-- ---- resources

directory_lacks : (b : List ℕ) (o : Option ℕ) → Lacks (directory_at_offset b o)
directory_lacks b o = grind (arith, one_test_lacks)

first_entries_lacks : (mode : ParseMode) (body : List ℕ) (d : ImageResourceDirectory) → Lacks (first_entries_in mode body d)
unfolding first_entries_in
first_entries_lacks mode body d = grind (arith, if_lacks)

first_directory_lacks : (o : ParseOptions) (f : List ℕ) (data_directory : DataDirectory) (sections : List SectionTable) (alignment : ℕ) → Lacks (first_directory o f data_directory sections alignment)
unfolding first_directory directory_at
first_directory_lacks o f data_directory sections alignment =
    then_lacks (directory_at o f data_directory sections alignment) _
    (directory_lacks f (section_map o sections alignment data_directory.virtual_address))
    (λ d. then_lacks (file_bytes f data_directory.size (map_of o sections alignment data_directory.virtual_address)) _ (file_bytes_lacks f data_directory.size (map_of o sections alignment data_directory.virtual_address))
    (λ bytes. then_lacks (first_entries_in o.parse_mode bytes d) _ (first_entries_lacks o.parse_mode bytes d) (λ t. tt)))

resources_lacks : (map : ℕ → Option ℕ) (f : List ℕ) (d : FirstDirectoryView) (r : Result ResourceView Refusal) → AreResources map f d r → Lacks r
resources_lacks map f d r h =
    subst Lacks (sym h.4)
    (then_lacks h.0 _ (version_lacks map f d.bytes d.entries h.0 h.2) (λ v. then_lacks h.1 _ (content_lacks map f d.bytes d.entries 24 h.1 h.3) (λ m. tt)))

of_first_lacks : (map : ℕ → Option ℕ) (f : List ℕ) (q : Result (Option FirstDirectoryView) Refusal) (r : Result ResourceView Refusal) → Lacks q → IsOfFirst no_resources (AreResources map f) q r → Lacks r
of_first_lacks map f (Err e) r q_lacks h = subst Lacks (sym h) q_lacks
of_first_lacks map f (Ok None) r q_lacks h = subst Lacks (sym h) tt
of_first_lacks map f (Ok (Some d)) r q_lacks h = resources_lacks map f d r h

pub resource_lacks : (o : ParseOptions) (f : List ℕ) (data_directory : DataDirectory) (sections : List SectionTable) (alignment : ℕ) (r : Result ResourceView Refusal) → IsResource o f data_directory sections alignment r → Lacks r
resource_lacks o f data_directory sections alignment r h = grind (arith, of_first_lacks, first_directory_lacks)
