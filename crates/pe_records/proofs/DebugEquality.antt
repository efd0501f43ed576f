-- Equality of debug data, field by field.
use Rattle.std.proofs.Common.{◌≡◌, ℕ, Bool, List, nat_eq, ◌&&◌, refl, ap, arith}
use Rattle.std.specs.Prelude.{Option}
use Rattle.std.specs.Option.{option_eq}
use Rattle.std.specs.Bool.{Decides}
use Rattle.std.proofs.lemmas.Bool.Decides.{Decides-and, Decides-like, Decides-eqb}
use Rattle.std.proofs.lemmas.Slice.Eq.{slice_eq-Decides}
use lib.Pointwise.{pointwise}
use Rattle.pe_core.proofs.FieldEquality.{next, options_compare}
use Rattle.pe_core.specs.Traits.{IsEquality, ComparesBy}
use Rattle.pe_records.specs.DebugRecords.{DebugFields, Pdb70, Pdb20, Repro, Pogo, pdb70_view, pdb20_view, repro_view, pogo_view, debug_view}
use Rattle.pe_records.specs.declared.debug.DebugData.{DebugData}
use Rattle.pe_records.specs.declared.debug.codeview.CodeviewPDB70DebugInfo.{CodeviewPDB70DebugInfo}
use Rattle.pe_records.specs.declared.debug.codeview.CodeviewPDB20DebugInfo.{CodeviewPDB20DebugInfo}
use Rattle.pe_records.specs.declared.debug.pogo.POGOInfo.{POGOInfo}
use Rattle.pe_records.specs.declared.debug.records.ExDllCharacteristicsInfo.{ExDllCharacteristicsInfo}
use Rattle.pe_records.specs.declared.debug.records.ReproInfo.{ReproInfo}
use Rattle.pe_records.specs.declared.debug.records.VCFeatureInfo.{VCFeatureInfo}

options_equal : {X : Type 0} (eq : X → X → Bool) → IsEquality eq → (a b : Option X) → Decides (option_eq eq a b) (a ≡ b)
options_equal eq e a b = grind arith

abbrev data_of : List ℕ → ℕ → Option Pdb70 → Option Pdb20 → Option VCFeatureInfo → Option ExDllCharacteristicsInfo → Option Repro → Option Pogo → DebugFields
data_of a0 a1 a2 a3 a4 a5 a6 a7 = record { table = a0; fixup = a1; pdb70 = a2; pdb20 = a3; features = a4; characteristics = a5; repro = a6; pogo = a7 }

abbrev SameFields : DebugFields → DebugFields → Type 0
SameFields x y = (x.table ≡ y.table) × ((x.fixup ≡ y.fixup) × ((x.pdb70 ≡ y.pdb70) × ((x.pdb20 ≡ y.pdb20) × ((x.features ≡ y.features) × ((x.characteristics ≡ y.characteristics) × ((x.repro ≡ y.repro) × (x.pogo ≡ y.pogo)))))))

same_data : (x y : DebugFields) → SameFields x y → x ≡ y
same_data x y h = next (next (next (next (next (next (next (next (refl {a = data_of}) h.0) h.1.0) h.1.1.0) h.1.1.1.0) h.1.1.1.1.0) h.1.1.1.1.1.0) h.1.1.1.1.1.1.0) h.1.1.1.1.1.1.1

pub data_equal : (pdb70 : CodeviewPDB70DebugInfo → CodeviewPDB70DebugInfo → Bool) (pdb20 : CodeviewPDB20DebugInfo → CodeviewPDB20DebugInfo → Bool) (features : VCFeatureInfo → VCFeatureInfo → Bool) (characteristics : ExDllCharacteristicsInfo → ExDllCharacteristicsInfo → Bool) (repro : ReproInfo → ReproInfo → Bool) (pogo : POGOInfo → POGOInfo → Bool) → ComparesBy pdb70_view pdb70 → ComparesBy pdb20_view pdb20 → IsEquality features → IsEquality characteristics → ComparesBy repro_view repro → ComparesBy pogo_view pogo → (x y : DebugData) → Decides (pointwise nat_eq x.table.now y.table.now && (nat_eq x.rva_offset y.rva_offset && (option_eq pdb70 x.codeview_pdb70_debug_info y.codeview_pdb70_debug_info && (option_eq pdb20 x.codeview_pdb20_debug_info y.codeview_pdb20_debug_info && (option_eq features x.vcfeature_info y.vcfeature_info && (option_eq characteristics x.ex_dll_characteristics_info y.ex_dll_characteristics_info && (option_eq repro x.repro_info y.repro_info && option_eq pogo x.pogo_info y.pogo_info))))))) (debug_view x ≡ debug_view y)
data_equal pdb70 pdb20 features characteristics repro pogo is_pdb70 is_pdb20 is_features is_characteristics is_repro is_pogo x y =
    Decides-like _ (same_data (debug_view x) (debug_view y)) (λ e. (ap (λ (d : DebugFields). d.table) e, (ap (λ (d : DebugFields). d.fixup) e, (ap (λ (d : DebugFields). d.pdb70) e, (ap (λ (d : DebugFields). d.pdb20) e, (ap (λ (d : DebugFields). d.features) e, (ap (λ (d : DebugFields). d.characteristics) e, (ap (λ (d : DebugFields). d.repro) e, ap (λ (d : DebugFields). d.pogo) e))))))))
    (Decides-and _ _ (slice_eq-Decides Decides-eqb x.table.now y.table.now _ refl) (Decides-and _ _ (Decides-eqb x.rva_offset y.rva_offset) (Decides-and _ _ (options_compare pdb70_view pdb70 is_pdb70 x.codeview_pdb70_debug_info y.codeview_pdb70_debug_info) (Decides-and _ _ (options_compare pdb20_view pdb20 is_pdb20 x.codeview_pdb20_debug_info y.codeview_pdb20_debug_info) (Decides-and _ _ (options_equal features is_features x.vcfeature_info y.vcfeature_info) (Decides-and _ _ (options_equal characteristics is_characteristics x.ex_dll_characteristics_info y.ex_dll_characteristics_info) (Decides-and _ _ (options_compare repro_view repro is_repro x.repro_info y.repro_info) (options_compare pogo_view pogo is_pogo x.pogo_info y.pogo_info))))))))
