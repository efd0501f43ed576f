-- The samples are frames of a running ARM64 program.
use Rattle.std.proofs.Common.{◌≡◌, ℕ, zero, suc, ◌^◌, ◌<◌, List, get_or, inl, inr, ◌∷◌, refl, rules, []}
use Rattle.pe_frame.proofs.Cited.{AllByRecursion, all_effects, CodesThen, AreOver, packed_codes, IsArm64Entered, IsArm64Prolog, IsArm64Body}
use Rattle.pe_frame.proofs.Cited.{effects_at, IsArm64Frame, sample_arm64_machine, chained_part, chained_bytes, signed_part, signed_bytes}
use Rattle.pe_frame.proofs.Cited.{packed_part, packed_data, stopped, arm64_registers_of, all_known_arm64}

pub chained_codes : CodesThen AreOver chained_bytes chained_part.codes
chained_codes = search rules

pub signed_codes : CodesThen AreOver signed_bytes signed_part.codes
signed_codes = search rules

small_at : (xs : List ℕ) (r : ℕ) → AllByRecursion (λ x. x < 2 ^ 64) xs → get_or xs r 0 < 2 ^ 64
small_at [] zero all = search rules
small_at [] (suc r) all = search rules
small_at (x ∷ xs) zero all = all.0
small_at (x ∷ xs) (suc r) all = small_at xs r all.1

entered : IsArm64Entered sample_arm64_machine
entered = record {
  count = refl;
  values = λ r. small_at sample_arm64_machine.general r (search rules);
  float_count = refl;
  float_values = λ r. small_at sample_arm64_machine.float r (search rules);
  stack = search rules;
}

chained_prolog : IsArm64Prolog (all_effects chained_part.operations) chained_part.entry
chained_prolog = (search rules, ((search rules, search rules), ((search rules, search rules, search rules, (inl (search rules), (inr (search rules), (inr (search rules), (inr (search rules), (inr (search rules), tt)))))), ((search rules, search rules, search rules, (inr (search rules), (inr (search rules), (inr (search rules), (inr (search rules), tt))))), (search rules, ((search rules, search rules, search rules, (inl (search rules), (inr (search rules), (inr (search rules), tt)))), ((search rules, search rules, search rules, (inr (search rules), (inr (search rules), tt))), (search rules, ((search rules, search rules, search rules, (inl (search rules), tt)), ((search rules, search rules, search rules, tt), (search rules, entered)))))))))))

signed_prolog : IsArm64Prolog (all_effects signed_part.operations) signed_part.entry
signed_prolog = ((search rules, search rules, search rules, (inl (search rules), (inr (search rules), (inr (search rules), (inr (search rules), (inr (search rules), tt)))))), ((search rules, search rules, search rules, (inr (search rules), (inr (search rules), (inr (search rules), (inr (search rules), tt))))), (search rules, ((search rules, search rules, search rules, (inl (search rules), (inr (search rules), (inr (search rules), tt)))), ((search rules, search rules, search rules, (inr (search rules), (inr (search rules), tt))), (search rules, ((search rules, search rules, search rules, (inl (search rules), tt)), ((search rules, search rules, search rules, tt), (search rules, ((search rules, search rules), entered))))))))))

chained_body : IsArm64Body (effects_at 5 chained_part) chained_part.entry (all_known_arm64 (stopped 5 chained_part)) (arm64_registers_of (stopped 5 chained_part))
chained_body = search rules

begun_body : IsArm64Body (effects_at 2 chained_part) chained_part.entry (all_known_arm64 (stopped 2 chained_part)) (arm64_registers_of (stopped 2 chained_part))
begun_body = search rules

signed_body : IsArm64Body (effects_at 4 signed_part) signed_part.entry (all_known_arm64 (stopped 4 signed_part)) (arm64_registers_of (stopped 4 signed_part))
signed_body = search rules

pub chained : IsArm64Frame chained_part 5 (all_known_arm64 (stopped 5 chained_part)) (arm64_registers_of (stopped 5 chained_part))
chained = record { known = refl; prolog = chained_prolog; body = chained_body }

pub begun : IsArm64Frame chained_part 2 (all_known_arm64 (stopped 2 chained_part)) (arm64_registers_of (stopped 2 chained_part))
begun = record { known = refl; prolog = chained_prolog; body = begun_body }

pub signed : IsArm64Frame signed_part 4 (all_known_arm64 (stopped 4 signed_part)) (arm64_registers_of (stopped 4 signed_part))
signed = record { known = refl; prolog = signed_prolog; body = signed_body }

pub packed_codes_are : packed_part.codes ≡ packed_codes packed_data
packed_codes_are = search rules

packed_prolog : IsArm64Prolog (all_effects packed_part.operations) packed_part.entry
packed_prolog = (search rules, ((search rules, search rules, search rules, (inr (search rules), (inr (search rules), tt))), (search rules, ((search rules, search rules, search rules, (inl (search rules), tt)), ((search rules, search rules, search rules, tt), (search rules, entered))))))

packed_body : IsArm64Body (effects_at 3 packed_part) packed_part.entry (all_known_arm64 (stopped 3 packed_part)) (arm64_registers_of (stopped 3 packed_part))
packed_body = search rules

pub packed : IsArm64Frame packed_part 3 (all_known_arm64 (stopped 3 packed_part)) (arm64_registers_of (stopped 3 packed_part))
packed = record { known = refl; prolog = packed_prolog; body = packed_body }
