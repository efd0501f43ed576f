-- A leaf that is looked for by its type, name and language, as Windows does: in each directory the entry with a key.
use Rattle.std.specs.Prelude.{ℕ, ◌&&◌, ◌==◌, Bool, false, List, [], Option, Some, None, Result, Ok, Err}
use Rattle.std.specs.List.{find}
use Rattle.pe_core.specs.Refusals.{Refusal}
use Rattle.pe_resource.specs.declared.entry.ResourceEntry.{ResourceEntry}
use Rattle.pe_resource.specs.Leaves.{TreeRefusal, leaf_of, table_below}
use Rattle.pe_resource.specs.ResourceEntries.{entries, with_id}
use Rattle.pe_edit.specs.Reread.{LeafRefusal, first_entries, read_item, read_key}
use Rattle.pe_edit.specs.Written.{Key, Leaf, key_eq}

-- the entry has this key
abbrev pub is_key : Key → Result Key Refusal → Bool
is_key k (Ok own) = key_eq own k
is_key k (Err r) = false

abbrev pub has_key : List ℕ → Key → ResourceEntry → Bool
has_key b k e = is_key k (read_key b e)

-- the first entry with this key
abbrev pub with_key : List ℕ → Key → List ResourceEntry → Option ResourceEntry
with_key b k es = find (has_key b k) es

-- the entries of the directory that an entry leads to, none of one that is not read
abbrev pub entries_of : Result (List ℕ) TreeRefusal → List ResourceEntry
entries_of (Ok table) = entries table
entries_of (Err r) = []

abbrev pub entries_below : List ℕ → ResourceEntry → List ResourceEntry
entries_below b e = entries_of (table_below b e)

-- the leaf with these keys in a section at an RVA: by the entry of its type, in whose directory by that of its name, in whose
-- directory by that of its language
abbrev pub found_language : List ℕ → ℕ → ResourceEntry → ResourceEntry → Option ResourceEntry → Option (Result Leaf LeafRefusal)
found_language b rva t n None = None
found_language b rva t n (Some l) = Some (read_item b rva (leaf_of b t n l))

abbrev pub found_name : List ℕ → ℕ → ℕ → ResourceEntry → Option ResourceEntry → Option (Result Leaf LeafRefusal)
found_name b rva language t None = None
found_name b rva language t (Some n) = found_language b rva t n (with_id language (entries_below b n))

abbrev pub found_type : List ℕ → ℕ → Key → ℕ → Option ResourceEntry → Option (Result Leaf LeafRefusal)
found_type b rva name language None = None
found_type b rva name language (Some t) = found_name b rva language t (with_key b name (entries_below b t))

unfoldable pub found_leaf : List ℕ → ℕ → Key → Key → ℕ → Option (Result Leaf LeafRefusal)
found_leaf b rva resource_type name language =
    found_type b rva name language (with_key b resource_type (first_entries b))

-- the leaf has this type, name and language
abbrev pub has_keys : Key → Key → ℕ → Leaf → Bool
has_keys resource_type name language x =
    key_eq x.resource_type resource_type && (key_eq x.name name && x.language == language)

-- the first leaf with them
abbrev pub with_keys : Key → Key → ℕ → List Leaf → Option Leaf
with_keys resource_type name language xs = find (has_keys resource_type name language) xs

abbrev pub as_read : Option Leaf → Option (Result Leaf LeafRefusal)
as_read None = None
as_read (Some x) = Some (Ok x)
