-- What `VersionInfo` finds by its names in version information that is written.
use Rattle.std.proofs.Common.{◌≡◌, ◌≢◌, ℕ, ◌+◌, ◌*◌, ◌%◌, ◌<◌, ◌==◌, ◌↔◌, Bool, true, false, List, [], ◌∷◌, ◌++◌, length, map, Option, Some, None, Result, Ok, IsTrue, if◌then◌else◌, refl, ap, sym, ◌∙◌, arith, rules}
use Rattle.pe_version.proofs.Cited.{codes, nat_lt, flat_map, list_all, nat_tests, append-nil, append_assoc, Refusal, Short, outcome}
use Rattle.pe_version.proofs.Cited.{VersionView, file_strings, fixed_info_in, fixed_info_of, value_named, version_in, version_key}
use Rattle.pe_version.proofs.Cited.{IsPlain, VersionString, all_read, before_zero, is_name, is_plain, key_length, read, text, units}
use Rattle.pe_version.proofs.Cited.{VsFixedFileInfo, flat, flat_blocks, flat_table, padded, text_with_name, texts_of, IsPair}
use Rattle.pe_version.proofs.Cited.{NumbersFit, TableValue, TablesHavePairs, TextValue, Value, fixed_bytes, four_digits, root_block}
use Rattle.pe_version.proofs.Cited.{strings_block, table_block, text_block, translation_block, utf16, variables_block, version_of}
use Rattle.pe_version.proofs.Cited.{BlockValue, NoZero}
use Rattle.std.specs.Option.{option_map}
use Rattle.std.specs.Str.{bytes_eq}
use Rattle.std.proofs.lemmas.Slice.Eq.{bytes_eq-Decides}
use Rattle.pe_resource.specs.VersionStrings.{value_of}
use Rattle.pe_resource.specs.declared.version.VersionName.{VersionName}
use Rattle.pe_core.proofs.Equality.{both}
use Rattle.pe_resource.proofs.Names.{name_whole}
use Rattle.pe_version.proofs.Blocks.{units_length}
use Rattle.pe_version.proofs.Flat.{strings_are}
use Rattle.pe_version.proofs.VersionsRead.{fixed_read, length-fixed, units_of}

-- ---- names

before_all : (us : List ℕ) → NoZero us → before_zero us ≡ us
before_all [] h = refl
before_all (u ∷ us) h = let t : (u == 0) ≡ false = grind (arith, nat_tests, h.0) in rw t (ap (λ (l : List ℕ). u ∷ l) (before_all us h.1))

named : (key name : List ℕ) (r : Bool) → length key % 2 ≡ 0 → NoZero (units key) → IsPlain name → (IsTrue r ↔ (units key ≡ name)) → is_name name (text key) ≡ r
named key name r even some plain h =
    let size : key_length key 0 ≡ length key = ap (λ (us : List ℕ). 2 * length us) (before_all (units key) some) ∙ units_length key even in
    sym (name_whole key name name r size plain refl h)

-- a key of ASCII characters
even_key : (cs : List ℕ) → length (utf16 cs) % 2 ≡ 0
even_key [] = refl
even_key (c ∷ cs) = omega (arith, even_key cs)

no_zeros : (cs : List ℕ) → NoZero cs → NoZero (units (utf16 cs))
no_zeros [] h = tt
no_zeros (c ∷ cs) h = (λ e. h.0 (omega (arith, e)), no_zeros cs h.1)

is_not : (t : Bool) → t ≡ false → IsTrue t → ⊥
is_not t e h = grind arith

other_key : (cs name : List ℕ) → NoZero cs → IsPlain name → bytes_eq cs name ≡ false → is_name name (text (utf16 cs)) ≡ false
other_key cs name some plain e =
    named (utf16 cs) name false (even_key cs) (no_zeros cs some) plain
    ((λ h. absurd (is_not false refl h)), (λ is. absurd (is_not (bytes_eq cs name) e ((bytes_eq-Decides cs name).1 (sym (units_of cs) ∙ is)))))

same_key : (cs : List ℕ) → NoZero cs → IsPlain cs → is_name cs (text (utf16 cs)) ≡ true
same_key cs some plain = named (utf16 cs) cs true (even_key cs) (no_zeros cs some) plain ((λ h. units_of cs), (λ is. refl))

from_plain : (cs : List ℕ) → IsPlain cs → NoZero cs
from_plain [] h = tt
from_plain (c ∷ cs) h =
    let p = both (is_plain c) (list_all is_plain cs) h in
    let q = both (nat_lt 0 c) (nat_lt c 128) p.0 in
    let some : 0 < c = grind (arith, nat_tests, q.0) in
    (λ e. absurd (omega (arith, some, e)), from_plain cs p.1)

-- ---- the twelve names are plain, and no keys of other blocks

plain_name : (n : VersionName) → IsPlain (version_key n)
plain_name n = grind arith

-- none of these is the name
abbrev NoneIs : VersionName → Type 0
NoneIs n =
    (bytes_eq (codes "VS_VERSION_INFO") (version_key n) ≡ false) × ((bytes_eq (codes "StringFileInfo") (version_key n) ≡ false)
    × ((bytes_eq (codes "VarFileInfo") (version_key n) ≡ false) × (bytes_eq (codes "Translation") (version_key n) ≡ false)))

-- texts that differ in length, or in their second character
other_by : (xs ys : List ℕ) (t : Bool) → bytes_eq xs ys ≡ t → (xs ≡ ys → ⊥) → t ≡ false
other_by xs ys t e ne = grind (arith, bytes_eq-Decides)

digit_by : (t : Bool) (d : ℕ) → d < 16 → ((if t then 48 + d else 55 + d) < 111) × ((if t then 48 + d else 55 + d) ≢ 0)
digit_by t d h = grind arith

table_other : (n : VersionName) (t : TableValue) → IsPair t.translation → is_name (version_key n) (text (table_block t).key) ≡ false
table_other n t p =
    other_key (four_digits t.translation.language ++ four_digits t.translation.code_page) (version_key n) (grind (arith, digit_by))
    (plain_name n) (search (rules, arith, other_by, digit_by))

-- ---- the first with a name

abbrev pub value_in : List ℕ → List BlockValue → Option (List ℕ)
value_in name ks = value_of name (map flat ks)

abbrev or_value : Option (List ℕ) → Option (List ℕ) → Option (List ℕ)
or_value None o = o
or_value (Some x) o = Some x

passed_by : (name : List ℕ) (k : BlockValue) (ks : List BlockValue) → is_name name (text k.key) ≡ false → value_in name (k ∷ ks) ≡ value_in name ks
passed_by name k ks e = rw e refl

texts_then : (name : List ℕ) (ss : List TextValue) (ks : List BlockValue) → value_in name (map text_block ss ++ ks) ≡ or_value (option_map padded (text_with_name name ss)) (value_in name ks)
texts_then name [] ks = refl
texts_then name (s ∷ ss) ks = grind (arith, texts_then name ss ks)

append_text : (name : List ℕ) (xs ys : List TextValue) (o : Option (List ℕ)) → or_value (option_map padded (text_with_name name (xs ++ ys))) o ≡ or_value (option_map padded (text_with_name name xs)) (or_value (option_map padded (text_with_name name ys)) o)
append_text name [] ys o = refl
append_text name (s ∷ xs) ys o = grind (arith, append_text name xs ys o)

tables_then : (n : VersionName) (ts : List TableValue) (ks : List BlockValue) → TablesHavePairs ts →
    value_in (version_key n) (flat_map flat_table ts ++ ks) ≡ or_value (option_map padded (text_with_name (version_key n) (flat_map (λ t. t.strings) ts))) (value_in (version_key n) ks)
tables_then n [] ks p = refl
tables_then n (t ∷ ts) ks p =
    let name : List ℕ = version_key n in
    let rest : List BlockValue = flat_map flat_table ts ++ ks in
    ap (value_in name) (append_assoc (flat_table t) (flat_map flat_table ts) ks)
    ∙ passed_by name (table_block t) (map text_block t.strings ++ rest) (table_other n t p.0)
    ∙ texts_then name t.strings rest
    ∙ ap (or_value (option_map padded (text_with_name name t.strings))) (tables_then n ts ks p.1)
    ∙ sym (append_text name t.strings (flat_map (λ u. u.strings) ts) (value_in name ks))

-- ---- all of it

plain_key : (cs : List ℕ) (n : VersionName) → NoZero cs → bytes_eq cs (version_key n) ≡ false → is_name (version_key n) (text (utf16 cs)) ≡ false
plain_key cs n some e = other_key cs (version_key n) some (plain_name n) e

value_found : (v : Value) (n : VersionName) → NumbersFit v → value_in (version_key n) (flat_blocks v) ≡ option_map padded (text_with_name (version_key n) (texts_of v))
unfolding flat_blocks root_block
value_found v n fit =
    let name : List ℕ = version_key n in
    let apart : NoneIs n = grind arith in
    let last : List BlockValue = variables_block v.translations ∷ translation_block v.translations ∷ [] in
    let none : value_in name last ≡ None =
    passed_by name (variables_block v.translations) (translation_block v.translations ∷ []) (plain_key (codes "VarFileInfo") n (from_plain (codes "VarFileInfo") refl) apart.1.1.0)
    ∙ passed_by name (translation_block v.translations) [] (plain_key (codes "Translation") n (from_plain (codes "Translation") refl) apart.1.1.1) in
    passed_by name (root_block v) (strings_block v.tables ∷ (flat_map flat_table v.tables ++ last)) (plain_key (codes "VS_VERSION_INFO") n (from_plain (codes "VS_VERSION_INFO") refl) apart.0)
    ∙ passed_by name (strings_block v.tables) (flat_map flat_table v.tables ++ last) (plain_key (codes "StringFileInfo") n (from_plain (codes "StringFileInfo") refl) apart.1.0)
    ∙ tables_then n v.tables last fit.tables ∙ ap (or_value (option_map padded (text_with_name name (texts_of v)))) none ∙ grind arith

read_all : (ks : List BlockValue) → read (map (λ k. Ok (flat k)) ks) ≡ map flat ks
read_all [] = refl
read_all (k ∷ ks) = ap (λ (l : List VersionString). flat k ∷ l) (read_all ks)

none_refused : (ks : List BlockValue) → all_read (map (λ k. Ok (flat k)) ks) ≡ Ok tt
none_refused [] = refl
none_refused (k ∷ ks) = none_refused ks

numbers_found : (v : Value) → value_in (codes "VS_VERSION_INFO") (flat_blocks v) ≡ Some (padded (fixed_bytes v.fixed))
unfolding flat_blocks root_block
numbers_found v = rw (same_key (codes "VS_VERSION_INFO") (from_plain (codes "VS_VERSION_INFO") refl) refl) refl

record_by : (t : Bool) (x y : VsFixedFileInfo) → t ≡ true → x ≡ y → ◌≡◌ {A = Result (Option VsFixedFileInfo) Refusal} (outcome ((t, Short) ∷ []) (Some x)) (Ok (Some y))
record_by t x y e i = rw (e, i) refl

numbers_read : (v : Value) → NumbersFit v → fixed_info_in (Some (padded (fixed_bytes v.fixed))) ≡ Ok (Some v.fixed)
numbers_read v fit = grind (arith, length-fixed, nat_tests, fixed_read, append-nil)

fixed_is : (v : Value) (s : List ℕ) → NumbersFit v → version_of v ≡ Ok s → fixed_info_of s ≡ Ok (Some v.fixed)
unfolding fixed_info_of
fixed_is v s fit e =
    grind (arith, strings_are v s e, none_refused (flat_blocks v), read_all (flat_blocks v), numbers_found v, numbers_read v fit)

pub version_is : (v : Value) (s : List ℕ) → NumbersFit v → version_of v ≡ Ok s → version_in s ≡ Ok (record { fixed_info = Some v.fixed; strings = file_strings (map flat (flat_blocks v)) })
unfolding version_in
version_is v s fit e = grind (arith, fixed_is v s fit e, strings_are v s e, read_all (flat_blocks v))

ok_same : (x y : VersionView) → ◌≡◌ {A = Result VersionView Refusal} (Ok x) (Ok y) → x ≡ y
ok_same x y e = cc

pub text_is : (v : Value) (s : List ℕ) (n : VersionName) (w : VersionView) → NumbersFit v → version_of v ≡ Ok s → version_in s ≡ Ok w → value_named n w.strings ≡ option_map padded (text_with_name (version_key n) (texts_of v))
text_is v s n w fit e is =
    ap (λ (x : VersionView). value_named n x.strings) (ok_same w (record { fixed_info = Some v.fixed; strings = file_strings (map flat (flat_blocks v)) }) (sym is ∙ version_is v s fit e))
    ∙ grind arith ∙ value_found v n fit
