-- What strict mode returns, permissive mode returns too.
use Rattle.std.proofs.Common.{◌≡◌, ℕ, List, Option, Result, Ok, Err, sym, subst, arith}
use Rattle.pe_resource.proofs.Cited.{option_map, Refusal, ◌>>=◌, DataDirectory, ParseOptions, SectionTable, ImageResourceDirectory, map_of}
use Rattle.pe_resource.proofs.Cited.{entries}
use Rattle.pe_core.specs.declared.options.ParseMode.TheVariants.{Strict, Permissive}
use Rattle.pe_resource.specs.Directories.{directory_at}
use Rattle.pe_resource.specs.Resources.{ResourceView, no_resources, first_entries_in, FirstDirectoryView, first_directory, IsOfFirst, AreResources, IsResource}

taken : (body : List ℕ) (d : ImageResourceDirectory) (z : Option (List ℕ)) → first_entries_in Strict body d ≡ Ok z → first_entries_in Permissive body d ≡ Ok z
unfolding first_entries_in
taken body d z e = grind arith

abbrev then_first : ImageResourceDirectory → List ℕ → Result (Option (List ℕ)) Refusal → Result (Option FirstDirectoryView) Refusal
then_first d bytes table = table >>= λ table. Ok (option_map (λ t. record { directory = d; bytes = bytes; entries = entries t }) table)

abbrev IsGiven : List ℕ → (ℕ → Option ℕ) → Result (Option FirstDirectoryView) Refusal → ResourceView → Type 0
IsGiven f map q x = IsOfFirst no_resources (AreResources map f) q (Ok x)

of_table : (map : ℕ → Option ℕ) (f : List ℕ) (d : ImageResourceDirectory) (bytes : List ℕ) (t : Result (Option (List ℕ)) Refusal) (x : ResourceView) → first_entries_in Strict bytes d ≡ t → IsGiven f map (then_first d bytes t) x → IsGiven f map (then_first d bytes (first_entries_in Permissive bytes d)) x
of_table map f d bytes (Err e) x is h = absurd cc
of_table map f d bytes (Ok z) x is h =
    subst (λ (t : Result (Option (List ℕ)) Refusal). IsGiven f map (then_first d bytes t) x) (sym (taken bytes d z is)) h

of_directory : (map : ℕ → Option ℕ) (f : List ℕ) (d : Result ImageResourceDirectory Refusal) (b : Result (List ℕ) Refusal) (x : ResourceView) → IsGiven f map (d >>= λ d. b >>= λ bytes. then_first d bytes (first_entries_in Strict bytes d)) x → IsGiven f map (d >>= λ d. b >>= λ bytes. then_first d bytes (first_entries_in Permissive bytes d)) x
of_directory map f d b x h = grind (arith, of_table)

pub strict_resource : (o : ParseOptions) (f : List ℕ) (d : DataDirectory) (sections : List SectionTable) (alignment : ℕ) (x : ResourceView) → IsResource (record o { parse_mode = Strict }) f d sections alignment (Ok x) → IsResource (record o { parse_mode = Permissive }) f d sections alignment (Ok x)
unfolding first_directory directory_at
strict_resource o f d sections alignment x h = of_directory (map_of o sections alignment) f _ _ x h
