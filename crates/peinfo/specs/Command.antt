-- What the arguments of the command line ask for.
use Rattle.std.specs.Prelude.{ℕ, ◌&&◌, List, [], ◌∷◌, length, Option, Some, None, codes, nat_le, if◌then◌else◌}
use Rattle.std.specs.Option.{option_map}
use Rattle.std.specs.Str.{bytes_eq}
use Rattle.pe_core.specs.HexDigits.{number_after}
use Rattle.pe_core.specs.declared.options.ParseMode.{ParseMode}
use Rattle.pe_core.specs.declared.options.ParseMode.TheVariants.{Strict, Permissive}
use Rattle.peinfo.specs.declared.command.Command.{Command}
use Rattle.peinfo.specs.declared.command.Command.TheVariants as commands

-- the image in a file in a mode; the function that covers an RVA of it; that function with its unwind records; or the
-- image written anew to another file
pub data Asked : Type 0 where
  ListOf : List ℕ → ParseMode → Asked
  FunctionAt : List ℕ → ℕ → Asked
  RecordsAt : List ℕ → ℕ → Asked
  RewriteTo : List ℕ → List ℕ → Asked

-- what a command asks for
abbrev pub asked_by : Command → Asked
asked_by (commands.List file mode) = ListOf file.now mode
asked_by (commands.At file rva) = FunctionAt file.now rva
asked_by (commands.ChainAt file rva) = RecordsAt file.now rva
asked_by (commands.Rewrite file out) = RewriteTo file.now out.now

-- the file that a command reads
abbrev pub file_of : Command → List ℕ
file_of (commands.List file mode) = file.now
file_of (commands.At file rva) = file.now
file_of (commands.ChainAt file rva) = file.now
file_of (commands.Rewrite file out) = file.now

-- no argument after the file, or `--permissive`
abbrev pub flag_mode : List (List ℕ) → Option ParseMode
flag_mode [] = Some Strict
flag_mode (argument ∷ []) = if bytes_eq argument (codes "--permissive") then Some Permissive else None
flag_mode (argument ∷ more ∷ rest) = None

-- the RVA of one to eight hexadecimal digits
abbrev pub rva_of : List ℕ → Option ℕ
rva_of argument = if nat_le 1 (length argument) && nat_le (length argument) 8 then number_after 0 argument else None

-- an RVA after the file, and nothing more or `--chain`
abbrev pub asked_at : List ℕ → List (List ℕ) → Option Asked
asked_at file [] = None
asked_at file (argument ∷ []) = option_map (λ rva. FunctionAt file rva) (rva_of argument)
asked_at file (argument ∷ flag ∷ []) = if bytes_eq flag (codes "--chain") then option_map (λ rva. RecordsAt file rva) (rva_of argument) else None
asked_at file (argument ∷ flag ∷ more ∷ rest) = None

-- the argument after the file, if it is the only one
abbrev pub one_argument : List (List ℕ) → Option (List ℕ)
one_argument [] = None
one_argument (argument ∷ []) = Some argument
one_argument (argument ∷ more ∷ rest) = None

-- `list FILE`, `list FILE --permissive`, `at FILE HEXRVA`, `at FILE HEXRVA --chain` or `rewrite FILE OUT`, and nothing
-- else
abbrev pub asked_of : List (List ℕ) → Option Asked
asked_of [] = None
asked_of (name ∷ []) = None
asked_of (name ∷ file ∷ rest) =
    if bytes_eq name (codes "list") then option_map (λ mode. ListOf file mode) (flag_mode rest)
    else (if bytes_eq name (codes "at") then asked_at file rest
    else (if bytes_eq name (codes "rewrite") then option_map (λ out. RewriteTo file out) (one_argument rest) else None))
