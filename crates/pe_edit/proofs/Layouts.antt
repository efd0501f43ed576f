-- Where the parts of a section start, by what the entries of types and of resources come to.
use Rattle.std.proofs.Common.{◌≡◌, ℕ, ◌+◌, ◌*◌, List, [], ◌∷◌, length, refl, ap, ◌∙◌, arith, length-append}
use Rattle.pe_edit.proofs.Cited.{flat_map, rounded_up, Layout, Measure, measure_of, elements, Leaf, below_size, layout_of}
use Rattle.pe_edit.proofs.Cited.{name_size, names_size, resource_size, resources_of, same_resource, total, type_key, type_size}
use Rattle.pe_edit.proofs.Cited.{types_of}
use Rattle.pe_edit.specs.declared.level.Level.TheVariants as levels
use Rattle.pe_edit.proofs.DirectoryLoops.{resources_are, types_are}
use Rattle.pe_edit.proofs.Nested.{names_of, resources_in_types}
use Rattle.pe_edit.proofs.Runs.{runs_all}

length_flat : (ts : List (Leaf × List Leaf)) → length (flat_map names_of ts) ≡ total (λ t. length (names_of t)) ts
unfolding total
length_flat [] = refl
length_flat (t ∷ ts) = length-append (names_of t) (flat_map names_of ts) ∙ omega (arith, length_flat ts)

types_size_at : (ts : List (Leaf × List Leaf)) → total type_size ts ≡ 16 * length ts + 8 * total (λ t. length (names_of t)) ts
unfolding total
types_size_at [] = refl
types_size_at (t ∷ ts) = omega (arith, types_size_at ts)

below_size_at : (ns : List (Leaf × List Leaf)) → total resource_size ns ≡ 16 * length ns + 8 * length (flat_map elements ns)
unfolding total
below_size_at [] = refl
below_size_at (n ∷ ns) = omega (arith, below_size_at ns, length-append (elements n) (flat_map elements ns))

types_size : (xs : List Leaf) → total type_size (types_of xs) ≡ 16 * length (types_of xs) + 8 * length (resources_of xs)
types_size xs = omega (arith, types_size_at (types_of xs), length_flat (types_of xs), ap length (resources_in_types xs))

resources_size : (xs : List Leaf) → below_size (resources_of xs) ≡ 16 * length (resources_of xs) + 8 * length xs
unfolding resources_of
resources_size xs = omega (arith, below_size_at (resources_of xs), ap length (runs_all same_resource xs))

layout_by : (a b c d e f g h i j k l m n : ℕ) → a ≡ h → b ≡ i → c ≡ j → d ≡ k → e ≡ l → f ≡ m → g ≡ n →
    ◌≡◌ {A = Layout} (record { types = a; languages = b; entries = c; type_names = d; names = e; names_end = f; contents = g }) (record { types = h; languages = i; entries = j; type_names = k; names = l; names_end = m; contents = n })
layout_by a b c d e f g h i j k l m n p q r s t u v = rw (p, q, r, s, t, u, v) refl

pub layout_made : (xs : List Leaf) (x y : Measure) (count contents : ℕ) → x ≡ measure_of levels.Types xs → y ≡ measure_of levels.Names xs → count ≡ length xs →
    contents ≡ rounded_up (16 + 8 * x.entries + 16 * x.entries + 8 * y.entries + 16 * y.entries + 8 * count + 16 * count + x.names_size + y.names_size) 8 →
    ◌≡◌ {A = Layout} (record {
      types = 16 + 8 * x.entries;
      languages = 16 + 8 * x.entries + 16 * x.entries + 8 * y.entries;
      entries = 16 + 8 * x.entries + 16 * x.entries + 8 * y.entries + 16 * y.entries + 8 * count;
      type_names = 16 + 8 * x.entries + 16 * x.entries + 8 * y.entries + 16 * y.entries + 8 * count + 16 * count;
      names = 16 + 8 * x.entries + 16 * x.entries + 8 * y.entries + 16 * y.entries + 8 * count + 16 * count + x.names_size;
      names_end = 16 + 8 * x.entries + 16 * x.entries + 8 * y.entries + 16 * y.entries + 8 * count + 16 * count + x.names_size + y.names_size;
      contents = contents;
    }) (layout_of xs)
unfolding layout_of
layout_made xs x y count contents ex ey ec e =
    let t : x.entries ≡ length (types_of xs) = ap (λ (m : Measure). m.entries) ex ∙ ap length (types_are xs) in
    let n : y.entries ≡ length (resources_of xs) = ap (λ (m : Measure). m.entries) ey ∙ ap length (resources_are xs) in
    let a : x.names_size ≡ total (λ r. name_size (type_key r)) (types_of xs) = ap (λ (m : Measure). m.names_size) ex ∙ ap (total (λ r. name_size (type_key r))) (types_are xs) in
    let b : y.names_size ≡ names_size (resources_of xs) = ap (λ (m : Measure). m.names_size) ey ∙ ap names_size (resources_are xs) in
    let last : 16 + 8 * x.entries + 16 * x.entries + 8 * y.entries + 16 * y.entries + 8 * count + 16 * count + x.names_size + y.names_size ≡ 16 + 8 * length (types_of xs) + total type_size (types_of xs) + below_size (resources_of xs) + 16 * length xs + total (λ r. name_size (type_key r)) (types_of xs) + names_size (resources_of xs) =
    omega (arith, t, n, ec, a, b, types_size xs, resources_size xs) in
    layout_by _ _ _ _ _ _ _ _ _ _ _ _ _ _
    (omega (arith, t))
    (omega (arith, t, n, types_size xs))
    (omega (arith, t, n, ec, types_size xs, resources_size xs))
    (omega (arith, t, n, ec, types_size xs, resources_size xs))
    (omega (arith, t, n, ec, a, types_size xs, resources_size xs))
    last
    (e ∙ ap (λ (k : ℕ). rounded_up k 8) last)
