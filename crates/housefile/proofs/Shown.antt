-- A solid's file, and the solid of a file: both are a list of points and a list of facets, so a solid's file is a file of the grammar.
use mathlib.Core.Path.{◌≡◌, refl, sym, ap, ap₂, ◌∙◌, subst}
use mathlib.Core.List.{List, ◌++◌, flat_map}
use Prim.Native.Nat.{ℕ, ◌+◌, ◌*◌, ◌/◌, ◌%◌}
use native.Mathlib.Omega.{arith}
use lib.ListN.{length, get_or}
use lib.Ieee.{Float}
use Rattle.list_words.specs.Lists.{up_to}
use Rattle.list_words.proofs.Sums.{All, all-++, all_flat_map, all_of_flat_map}
use Rattle.list_words.proofs.UpTo.{all_up_to}
use Rattle.list_words.proofs.Threes.{in_threes, third_threes, rest_threes, flat_threes}
use Rattle.numbers.specs.Numbers.{Byte, F64}
use Rattle.points.specs.declared.Point.{Point}
use Rattle.points.specs.declared.Axis.TheVariants.{X, Y, Z}
use Rattle.points.specs.Points.{coordinate, coordinates, zero_number as O}
use Rattle.solids.specs.Refusals.{accepted}
use Rattle.solids.specs.Solids.{Solid, vertices, facets, vertex, corner}
use Rattle.solids.specs.Admission.{admission}
use Rattle.solids.proofs.Admitted.{Proper, Passed, passed}
use Rattle.solids.proofs.Laid.{laid_whole, laid_facets, each_laid}
use Rattle.housefile.specs.declared.Record.{Record}
use Rattle.housefile.specs.declared.Record.TheVariants.{Vx, Fc, En}
use Rattle.housefile.specs.Records.{encoded}
use Rattle.housefile.specs.Writer.{file}
use Rattle.housefile.proofs.Records.{Storable, all_encoded}
use Rattle.housefile.proofs.Grammar.{Three, corners_of, facet_record}
use Rattle.housefile.proofs.Files.{file_of, length_file_of}

abbrev c0 : Three → ℕ
c0 t = t.0

abbrev c1 : Three → ℕ
c1 t = t.1

abbrev c2 : Three → ℕ
c2 t = t.2

-- a record's bytes from its three parts
abbrev vx : Float → Float → Float → List ℕ
vx a b c = encoded (Vx (record { x = a; y = b; z = c }))

abbrev fc : ℕ → ℕ → ℕ → List ℕ
fc p q r = encoded (Fc p q r)

-- s is the solid with the vertices vs and the facets fs
pub record Shows (s : Solid) (vs : List Point) (fs : List Three) : Type 0 where
  pub points : s.points ≡ flat_map coordinates vs
  pub corners : s.corners ≡ flat_map corners_of fs

-- every solid whose lists are of whole threes is one
pub shown : (s : Solid) → length s.points % 3 ≡ 0 → length s.corners % 3 ≡ 0 → (vs : List Point) × (fs : List Three) × Shows s vs fs
unfolding flat_map
shown s p c =
    let (vs, e) = in_threes (coordinate X) (coordinate Y) (coordinate Z) (λ a b c. record { x = a; y = b; z = c }) (λ a b c. refl) s.points p in
    let (fs, f) = in_threes c0 c1 c2 (λ a b c. (a, b, c)) (λ a b c. refl) s.corners c in
    (vs, fs, record { points = e; corners = f })

module _ (s : Solid) (vs : List Point) (fs : List Three) (h : Shows s vs fs) where
  first : (i : ℕ) → 3 * i + 0 ≡ 3 * i
  first i = omega arith

  pub shown_vertices : vertices s ≡ length vs
  shown_vertices = ap (λ l. length l / 3) h.points ∙ third_threes (coordinate X) (coordinate Y) (coordinate Z) vs

  pub shown_facets : facets s ≡ length fs
  shown_facets = laid_facets c0 c1 c2 fs s h.corners

  pub shown_whole : (length s.points % 3 ≡ 0) × (length s.corners % 3 ≡ 0)
  shown_whole = (
    ap (λ l. length l % 3) h.points ∙ rest_threes (coordinate X) (coordinate Y) (coordinate Z) vs,
    laid_whole c0 c1 c2 fs s h.corners,
  )

  pub shown_file : file s ≡ file_of vs fs
  unfolding file
  shown_file = ap₂ (λ a b. a ++ (b ++ encoded En)) vertex_part facet_part
    where
      vertex_part : flat_map (λ i. encoded (Vx (vertex s i))) (up_to (vertices s)) ≡ flat_map (λ v. encoded (Vx v)) vs
      vertex_part =
          ap (λ l. flat_map (λ i. vx (get_or l (3 * i + 0) O) (get_or l (3 * i + 1) O) (get_or l (3 * i + 2) O)) (up_to (length l / 3))) h.points
          ∙ flat_threes (coordinate X) (coordinate Y) (coordinate Z) vs O (λ i. 3 * i + 0) first vx

      facet_part : flat_map (λ f. encoded (Fc (corner s f 0) (corner s f 1) (corner s f 2))) (up_to (facets s))
          ≡ flat_map (λ t. encoded (facet_record t)) fs
      facet_part =
          ap (λ l. flat_map (λ i. fc (get_or l (3 * i + 0) 0) (get_or l (3 * i + 1) 0) (get_or l (3 * i + 2) 0)) (up_to (length l / 3))) h.corners
          ∙ flat_threes c0 c1 c2 fs 0 (λ i. 3 * i + 0) first fc

-- ---- how long a solid's file is, and that it is bytes
pub length_file : (s : Solid) → length s.points % 3 ≡ 0 → length s.corners % 3 ≡ 0 → length (file s) ≡ 26 * vertices s + 14 * facets s + 2
length_file s p c =
    let (vs, fs, h) = shown s p c in
    ap length (shown_file s vs fs h) ∙ length_file_of vs fs
    ∙ ap₂ (λ n m. 26 * n + 14 * m + 2) (sym (shown_vertices s vs fs h)) (sym (shown_facets s vs fs h))

all_run : (r : ℕ → Record) (n : ℕ) (rest : List ℕ) → All Byte rest → All Byte (flat_map (λ i. encoded (r i)) (up_to n) ++ rest)
all_run r n rest a =
    all-++ Byte (flat_map (λ i. encoded (r i)) (up_to n)) rest
    (all_flat_map Byte (λ i. encoded (r i)) (up_to n) (all_up_to (λ i. All Byte (encoded (r i))) n (λ i l. all_encoded (r i)))) a

pub all_file : (s : Solid) → All Byte (file s)
unfolding file
all_file s = all_run (λ i. Vx (vertex s i)) (vertices s) facet_part (all_run facet (facets s) (encoded En) (all_encoded En))
  where
    facet : ℕ → Record
    facet f = Fc (corner s f 0) (corner s f 1) (corner s f 2)

    facet_part : List ℕ
    facet_part = flat_map (λ f. encoded (facet f)) (up_to (facets s)) ++ encoded En

-- ---- an admitted solid can be written
module _ (s : Solid) (vs : List Point) (fs : List Three) (h : Shows s vs fs) where
  pub storable_vertices : All F64 s.points → All (λ v. Storable (Vx v)) vs
  storable_vertices a = all_of_flat_map F64 coordinates vs (subst (All F64) h.points a)

  pub storable_facets : admission s ≡ accepted → All (λ t. Storable (facet_record t)) fs
  storable_facets e = each_laid c0 c1 c2 fs s h.corners (λ p q r. Storable (Fc p q r)) (λ f l. small (p.proper f l))
    where
      p : Passed s
      p = passed s e

      small : {a b c : ℕ} → Proper (vertices s) a b c → Storable (Fc a b c)
      small {a} {b} {c} w =
          let n = p.few_vertices in
          let x = w.below_p in
          let y = w.below_q in
          let z = w.below_r in
          (omega arith, (omega arith, (omega arith, tt)))
