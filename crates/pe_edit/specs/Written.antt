-- The bytes of a resource section that has these leaves. (PE format: the .rsrc section. The order of its parts is this
-- project's choice: directories level by level, data entries, names, contents. Linkers that write the levels one after the
-- other do the same.)
use Rattle.std.specs.Prelude.{◌≡◌, ℕ, ◌+◌, ◌-◌, ◌*◌, ◌/◌, ◌%◌, ◌<◌, ◌&&◌, ◌==◌, Bool, true, false, List, [], ◌∷◌, ◌++◌, length, replicate, nat_lt, if◌then◌else◌}
use Rattle.std.specs.List.{flat_map}
use Rattle.std.specs.Str.{bytes_eq}
use Rattle.pe_core.specs.Bytes.{bytes_of}
use Rattle.pe_core.specs.SectionMap.{rounded_up}
use Rattle.pe_edit.specs.declared.layout.Layout.{Layout}
use Rattle.pe_edit.specs.Runs.{elements, runs}

-- ---- leaves

-- what a type or a resource is called: an id, or a name, whose code units have two bytes each
pub data Key : Type 0 where
  Id : ℕ → Key
  Name : List ℕ → Key

-- a resource in one language
pub record Leaf : Type 0 where
  pub resource_type : Key
  pub name : Key
  pub language : ℕ
  pub code_page : ℕ
  pub content : List ℕ

-- ---- lists

-- the sum of these numbers
unfoldable pub total : {X : Type 0} → (X → ℕ) → List X → ℕ
total f [] = 0
total f (x ∷ xs) = f x + total f xs

-- this is true of each
abbrev pub Each : {X : Type 0} → (X → Type 0) → List X → Type 0
Each P [] = Unit {0}
Each P (x ∷ xs) = P x × Each P xs

-- ---- names

-- the bytes of a name: the number of its code units, and the code units; none of an id
abbrev pub name_bytes : Key → List ℕ
name_bytes (Id n) = []
name_bytes (Name u) = bytes_of 2 (length u / 2) ++ u

abbrev pub name_size : Key → ℕ
name_size (Id n) = 0
name_size (Name u) = 2 + length u

-- 1 for a name, and 1 for an id
abbrev pub named : Key → ℕ
named (Id n) = 0
named (Name u) = 1

abbrev pub unnamed : Key → ℕ
unnamed (Id n) = 1
unnamed (Name u) = 0

-- the bytes of the names, one after the other
abbrev pub names : {X : Type 0} → (X → Key) → List X → List ℕ
names key xs = flat_map (λ x. name_bytes (key x)) xs

-- ---- one directory

-- the first number of an entry: the id, or the offset s of the name with bit 31
abbrev pub key_number : ℕ → Key → ℕ
key_number s (Id n) = n
key_number s (Name u) = 2147483648 + s

-- the entries that lead to parts of these sizes one after the other, the first at p; s is where the first name is
unfoldable pub entries_to : {X : Type 0} → (X → Key) → (X → ℕ) → ℕ → ℕ → List X → List ℕ
entries_to key size s p [] = []
entries_to key size s p (x ∷ xs) =
    bytes_of 4 (key_number s (key x)) ++ (bytes_of 4 p ++ entries_to key size (s + name_size (key x)) (p + size x) xs)

-- the directory with these entries
unfoldable pub directory_to : {X : Type 0} → (X → Key) → (X → ℕ) → ℕ → ℕ → List X → List ℕ
directory_to key size s p xs =
    replicate 12 0 ++ (bytes_of 2 (total (λ x. named (key x)) xs) ++ (bytes_of 2 (total (λ x. unnamed (key x)) xs) ++ entries_to key size s p xs))

-- ---- the three levels

abbrev pub key_eq : Key → Key → Bool
key_eq (Id m) (Id n) = m == n
key_eq (Id m) (Name v) = false
key_eq (Name u) (Id n) = false
key_eq (Name u) (Name v) = bytes_eq u v

abbrev pub type_key : Leaf × List Leaf → Key
type_key r = r.0.resource_type

abbrev pub name_key : Leaf × List Leaf → Key
name_key r = r.0.name

abbrev pub language_key : Leaf → Key
language_key x = Id x.language

abbrev pub same_type : Leaf → Leaf → Bool
same_type x y = key_eq x.resource_type y.resource_type

abbrev pub same_resource : Leaf → Leaf → Bool
same_resource x y = same_type x y && key_eq x.name y.name

-- the types, each with its leaves; the resources, each with its leaves, which differ in their languages
unfoldable pub types_of : List Leaf → List (Leaf × List Leaf)
types_of xs = runs same_type xs

unfoldable pub resources_of : List Leaf → List (Leaf × List Leaf)
resources_of xs = runs same_resource xs

-- the size of the directory of a type, of that of a resource
abbrev pub type_size : Leaf × List Leaf → ℕ
type_size t = 16 + 8 * length (resources_of (elements t))

abbrev pub resource_size : Leaf × List Leaf → ℕ
resource_size n = 16 + 8 * length (elements n)

-- the size of the directories of these resources, of their names
abbrev pub below_size : List (Leaf × List Leaf) → ℕ
below_size ns = total resource_size ns

abbrev pub names_size : List (Leaf × List Leaf) → ℕ
names_size ns = total (λ n. name_size (name_key n)) ns

abbrev pub entry_size : Leaf → ℕ
entry_size x = 16

-- the directories of these types; the first name of a resource is at s, the first directory of languages at p with bit 31
unfoldable pub type_tables : ℕ → ℕ → List (Leaf × List Leaf) → List ℕ
type_tables s p [] = []
type_tables s p (t ∷ ts) =
    let ns = resources_of (elements t) in
    directory_to name_key resource_size s p ns ++ type_tables (s + names_size ns) (p + below_size ns) ts

-- the directories of the languages of these resources; the first data entry is at p
unfoldable pub resource_tables : ℕ → List (Leaf × List Leaf) → List ℕ
resource_tables p [] = []
resource_tables p (n ∷ ns) = directory_to language_key entry_size 0 p (elements n) ++ resource_tables (p + 16 * length (elements n)) ns

-- ---- data

-- the size of a content of n bytes with its zeros: a multiple of eight, and not 0, since the RVA of an empty content at the end
-- of the section would be that of its end, which no section maps
abbrev pub padded_length : ℕ → ℕ
padded_length n = if n == 0 then 8 else rounded_up n 8

abbrev pub padded_size : Leaf → ℕ
padded_size x = padded_length (length x.content)

-- a content with its zeros
abbrev pub padded_content : List ℕ → List ℕ
padded_content c = c ++ replicate (padded_length (length c) - length c) 0

-- a data entry: the RVA, the size and the code page of a content
abbrev pub data_entry : ℕ → ℕ → ℕ → List ℕ
data_entry a size page = bytes_of 4 a ++ (bytes_of 4 size ++ (bytes_of 4 page ++ bytes_of 4 0))

-- the data entries, of which the first has its content at the RVA a
unfoldable pub data_entries : ℕ → List Leaf → List ℕ
data_entries a [] = []
data_entries a (x ∷ xs) =
    bytes_of 4 a ++ (bytes_of 4 (length x.content) ++ (bytes_of 4 x.code_page ++ (bytes_of 4 0 ++ data_entries (a + padded_size x) xs)))

-- the contents, each with its zeros
unfoldable pub contents : List Leaf → List ℕ
contents [] = []
contents (x ∷ xs) = padded_content x.content ++ contents xs

-- ---- the section

-- where the parts start
unfoldable pub layout_of : List Leaf → Layout
layout_of xs =
    let types = 16 + 8 * length (types_of xs) in
    let languages = types + total type_size (types_of xs) in
    let entries = languages + below_size (resources_of xs) in
    let type_names = entries + 16 * length xs in
    let names = type_names + total (λ t. name_size (type_key t)) (types_of xs) in
    let names_end = names + names_size (resources_of xs) in
    record { types = types; languages = languages; entries = entries; type_names = type_names; names = names; names_end = names_end; contents = rounded_up names_end 8 }

-- the bytes of the section with these leaves at an RVA, by the places of its parts
unfoldable pub section_at : Layout → ℕ → List Leaf → List ℕ
section_at l rva xs =
    directory_to type_key type_size l.type_names (2147483648 + l.types) (types_of xs)
    ++ (type_tables l.names (2147483648 + l.languages) (types_of xs)
    ++ (resource_tables l.entries (resources_of xs)
    ++ (data_entries (rva + l.contents) xs
    ++ (names type_key (types_of xs)
    ++ (names name_key (resources_of xs)
    ++ (replicate (l.contents - l.names_end) 0
    ++ contents xs))))))

unfoldable pub section : ℕ → List Leaf → List ℕ
section rva xs = section_at (layout_of xs) rva xs

-- its length
unfoldable pub section_length : List Leaf → ℕ
section_length xs = (layout_of xs).contents + total padded_size xs

-- ---- limits

-- a name has whole code units, at most 65,535 of them
abbrev pub name_fits : Key → Bool
name_fits (Id n) = true
name_fits (Name u) = length u % 2 == 0 && nat_lt (length u) 131072

abbrev pub names_fit : Leaf → Bool
names_fit x = name_fits x.resource_type && name_fits x.name

abbrev pub NameFits : Key → Type 0
NameFits (Id n) = Unit {0}
NameFits (Name u) = (length u % 2 ≡ 0) × (length u < 131072)

abbrev pub NamesFit : Leaf → Type 0
NamesFit x = NameFits x.resource_type × NameFits x.name

-- ids and languages have 16 bits, and code pages 32, as in the types of the code
abbrev pub KeyNumber : Key → Type 0
KeyNumber (Id n) = n < 65536
KeyNumber (Name u) = Unit {0}

pub record Numbers (x : Leaf) : Type 0 where
  pub resource_type : KeyNumber x.resource_type
  pub name : KeyNumber x.name
  pub language : x.language < 65536
  pub code_page : x.code_page < 4294967296

-- both
abbrev pub KeyFits : Key → Type 0
KeyFits (Id n) = n < 65536
KeyFits (Name u) = (length u % 2 ≡ 0) × (length u < 131072)

pub record LeafFits (x : Leaf) : Type 0 where
  pub resource_type : KeyFits x.resource_type
  pub name : KeyFits x.name
  pub language : x.language < 65536
  pub code_page : x.code_page < 4294967296

-- the leaves are accepted at an RVA: there are few, their names fit, the directories and names end below 2 GB, and the section
-- below 4 GB
pub record Accepted (rva : ℕ) (xs : List Leaf) : Type 0 where
  pub few : length xs < 65536
  pub names : Each NamesFit xs
  pub tables : (layout_of xs).contents < 2147483648
  pub end : rva + section_length xs < 4294967296

-- the same, and their numbers have as many bits as the fields of the format
pub record Fits (rva : ℕ) (xs : List Leaf) : Type 0 where
  pub few : length xs < 65536
  pub each : Each LeafFits xs
  pub tables : (layout_of xs).contents < 2147483648
  pub end : rva + section_length xs < 4294967296
