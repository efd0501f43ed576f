-- ARM64 records by the map of the sections are those of pe_unwind.
use Rattle.calls_unwind.proofs.Cited.{nat_tests}
use Rattle.calls_unwind.proofs.Cited.{section_map, SectionTable, ExceptionView, exception_at}
use Rattle.calls_unwind.proofs.Cited.{arm64_record_in, arm64_record_of, map_of_image, options_of, Image}
use Rattle.std.proofs.Common.{◌≡◌, ℕ, List, ap, sym, arith}
use Rattle.pe_unwind.specs.Arm64Unwinding.{info_by, info_of_function}
use Rattle.pe_unwind.specs.declared.arm64.function.Arm64RuntimeFunction.{Arm64RuntimeFunction}

pub records_of_sections : (b : List ℕ) (image : Image) (s : List SectionTable) (f : Arm64RuntimeFunction) →
    arm64_record_of (map_of_image image s) b image f ≡ arm64_record_in b image s f
unfolding exception_at
records_of_sections b image s f = grind (arith, nat_tests)

pub infos_of_sections : (v : ExceptionView) (image : Image) (s : List SectionTable) (f : Arm64RuntimeFunction) → v.alignment ≡ image.file_alignment →
    info_by (map_of_image image s) v.content f ≡ info_of_function v s (options_of image.mode) f
infos_of_sections v image s f same = ap (λ (n : ℕ). info_by (section_map (options_of image.mode) s n) v.content f) (sym same)
