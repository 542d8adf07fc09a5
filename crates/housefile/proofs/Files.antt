-- A file of the grammar byte by byte: its records' bytes, one after the other, and nothing that stands behind them.
use mathlib.Core.Path.{◌≡◌, sym, ap, ◌∙◌, subst}
use mathlib.Core.List.{List, [], ◌∷◌, ◌++◌, flat_map, append_assoc}
use Prim.Native.Nat.{ℕ, ◌+◌, ◌*◌, ◌≤◌}
use native.Mathlib.Omega.{arith}
use lib.ListN.{length, take}
use Rattle.list_words.proofs.Sums.{All, all_drop}
use Rattle.numbers.specs.Numbers.{Byte}
use Rattle.points.specs.declared.Point.{Point}
use Rattle.housefile.specs.declared.Record.TheVariants.{Vx, En}
use Rattle.housefile.specs.Records.{encoded}
use Rattle.housefile.proofs.Records.{Storable, Present, size_within, decoded_own, length_encoded, decoded_encoded, encoded_decoded, decoded_storable}
use Rattle.housefile.proofs.Following.{reach, written_again, record_alone, behind_alone, length_put, put_decoded, put_behind}
use Rattle.housefile.proofs.Grammar.{Three, facet_record, FacetsFollow, end, facet, Follows, facets, vertex}

abbrev pub facet_bytes : List Three → List ℕ
facet_bytes fs = flat_map (λ t. encoded (facet_record t)) fs ++ encoded En

abbrev pub file_of : List Point → List Three → List ℕ
file_of vs fs = flat_map (λ v. encoded (Vx v)) vs ++ facet_bytes fs

-- the first record's bytes, and the rest of the file
facet_first : (t : Three) (fs : List Three) → facet_bytes (t ∷ fs) ≡ encoded (facet_record t) ++ facet_bytes fs
unfolding flat_map
facet_first t fs = simp append_assoc

vertex_first : (v : Point) (vs : List Point) (fs : List Three) → file_of (v ∷ vs) fs ≡ encoded (Vx v) ++ file_of vs fs
unfolding flat_map
vertex_first v vs fs = simp append_assoc

-- ---- the bytes used are there
facets_within : {bs : List ℕ} {u : ℕ} {fs : List Three} → FacetsFollow bs u fs → u ≤ length bs
facets_within (end {bs = bs} e) = size_within bs En e
facets_within (facet {bs = bs} {u = u} t e f) = reach bs (facet_record t) e u (facets_within f)

pub follows_within : {bs : List ℕ} {u : ℕ} {vs : List Point} {fs : List Three} → Follows bs u vs fs → u ≤ length bs
follows_within (facets f) = facets_within f
follows_within (vertex {bs = bs} {u = u} v e f) = reach bs (Vx v) e u (follows_within f)

-- ---- and what stands behind them is not looked at
facets_alone : {bs : List ℕ} {u : ℕ} {fs : List Three} → FacetsFollow bs u fs → (rest : List ℕ) → FacetsFollow (take u bs ++ rest) u fs
facets_alone (end {bs = bs} e) rest = end (decoded_own bs En e rest)
facets_alone (facet {bs = bs} {u = u} {fs = fs} t e f) rest =
    let r = facet_record t in
    facet t (record_alone bs r e u rest) (subst (λ l. FacetsFollow l u fs) (sym (behind_alone bs r e u rest)) (facets_alone f rest))

pub follows_alone : {bs : List ℕ} {u : ℕ} {vs : List Point} {fs : List Three} → Follows bs u vs fs
    → (rest : List ℕ) → Follows (take u bs ++ rest) u vs fs
follows_alone (facets f) rest = facets (facets_alone f rest)
follows_alone (vertex {bs = bs} {u = u} {vs = vs} {fs = fs} v e f) rest =
    vertex v (record_alone bs (Vx v) e u rest) (subst (λ l. Follows l u vs fs) (sym (behind_alone bs (Vx v) e u rest)) (follows_alone f rest))

-- ---- the bytes used are the records' own
facets_bytes : {bs : List ℕ} {u : ℕ} {fs : List Three} → All Byte bs → FacetsFollow bs u fs → take u bs ≡ facet_bytes fs
unfolding flat_map
facets_bytes all (end {bs = bs} e) = encoded_decoded bs all En e tt
facets_bytes all (facet {bs = bs} {u = u} {fs = fs} t e f) =
    let r = facet_record t in
    written_again bs r e u all tt (facet_bytes fs) (facets_bytes (all_drop Byte 14 bs all) f) ∙ sym (facet_first t fs)

pub follows_bytes : {bs : List ℕ} {u : ℕ} {vs : List Point} {fs : List Three} → All Byte bs → All (λ v. Present (Vx v)) vs
    → Follows bs u vs fs → take u bs ≡ file_of vs fs
unfolding flat_map
follows_bytes all p (facets f) = facets_bytes all f
follows_bytes all p (vertex {bs = bs} {u = u} {vs = vs} {fs = fs} v e f) =
    written_again bs (Vx v) e u all p.0 (file_of vs fs) (follows_bytes (all_drop Byte 26 bs all) p.1 f) ∙ sym (vertex_first v vs fs)

-- ---- and can be written
facets_storable : {bs : List ℕ} {u : ℕ} {fs : List Three} → All Byte bs → FacetsFollow bs u fs → All (λ t. Storable (facet_record t)) fs
facets_storable all (end e) = tt
facets_storable all (facet {bs = bs} t e f) = (decoded_storable bs all (facet_record t) e, facets_storable (all_drop Byte 14 bs all) f)

pub follows_storable : {bs : List ℕ} {u : ℕ} {vs : List Point} {fs : List Three} → All Byte bs → Follows bs u vs fs
    → All (λ v. Storable (Vx v)) vs × All (λ t. Storable (facet_record t)) fs
follows_storable all (facets f) = (tt, facets_storable all f)
follows_storable all (vertex {bs = bs} v e f) =
    let (a, b) = follows_storable (all_drop Byte 26 bs all) f in ((decoded_storable bs all (Vx v) e, a), b)

-- ---- records written one after the other follow the grammar
facets_written : (fs : List Three) → All (λ t. Storable (facet_record t)) fs
    → (rest : List ℕ) → FacetsFollow (facet_bytes fs ++ rest) (length (facet_bytes fs)) fs
unfolding flat_map encoded
facets_written [] a rest = end (decoded_encoded En tt rest)
facets_written (t ∷ fs) a rest =
    let r = facet_record t in
    let l = facet_bytes fs in
    subst (λ k. FacetsFollow (k ++ rest) (length k) (t ∷ fs)) (sym (facet_first t fs))
    (subst (λ u. FacetsFollow ((encoded r ++ l) ++ rest) u (t ∷ fs)) (sym (length_put r l))
    (facet t (put_decoded r l rest a.0) (subst (λ k. FacetsFollow k (length l) fs) (sym (put_behind r l rest)) (facets_written fs a.1 rest))))

pub file_written : (vs : List Point) (fs : List Three) → All (λ v. Storable (Vx v)) vs → All (λ t. Storable (facet_record t)) fs
    → (rest : List ℕ) → Follows (file_of vs fs ++ rest) (length (file_of vs fs)) vs fs
unfolding flat_map
file_written [] fs a b rest = facets (facets_written fs b rest)
file_written (v ∷ vs) fs a b rest =
    let l = file_of vs fs in
    subst (λ k. Follows (k ++ rest) (length k) (v ∷ vs) fs) (sym (vertex_first v vs fs))
    (subst (λ u. Follows ((encoded (Vx v) ++ l) ++ rest) u (v ∷ vs) fs) (sym (length_put (Vx v) l))
    (vertex v (put_decoded (Vx v) l rest a.0)
    (subst (λ k. Follows k (length l) vs fs) (sym (put_behind (Vx v) l rest)) (file_written vs fs a.1 b rest))))

-- ---- how long a file is
length_facet_bytes : (fs : List Three) → length (facet_bytes fs) ≡ 14 * length fs + 2
unfolding flat_map
length_facet_bytes [] = length_encoded En
length_facet_bytes (t ∷ fs) = ap length (facet_first t fs) ∙ length_put (facet_record t) (facet_bytes fs) ∙ omega (arith, length_facet_bytes fs)

pub length_file_of : (vs : List Point) (fs : List Three) → length (file_of vs fs) ≡ 26 * length vs + 14 * length fs + 2
unfolding flat_map
length_file_of [] fs = length_facet_bytes fs ∙ omega arith
length_file_of (v ∷ vs) fs = ap length (vertex_first v vs fs) ∙ length_put (Vx v) (file_of vs fs) ∙ omega (arith, length_file_of vs fs)
