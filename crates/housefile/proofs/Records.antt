-- Records as bytes, there and back. What a record's decoding looks at, and that it looks at no byte behind the record.
use mathlib.Core.Path.{◌≡◌, refl, sym, ap, ◌∙◌, subst}
use mathlib.Core.Bool.{Bool, true, false, ◌&&◌}
use mathlib.Core.List.{List, [], ◌∷◌, ◌++◌, flat_map, append-nil, append_assoc}
use Prim.Native.Char.{code}
use Prim.Native.Nat.{ℕ, ◌+◌, ◌^◌, ◌<◌, ◌≤◌}
use native.Mathlib.Omega.{arith}
use lib.Dec.{leb, eqb, lit<}
use lib.ListN.{length, take, drop, length-append, take-append-drop}
use lib.Seq.{drop_at, take-add, length-take-le}
use lib.Ieee.{Float, is_nan}
use borrow.Author.Tests.{leb-true, eqb-true, le-leb, lt-leb, eq-eqb, ne_eqb}
use Rattle.std.specs.Prelude.{Option, Some, None}
use Rattle.list_words.proofs.Sums.{All, all-++, all_flat_map}
use Rattle.list_words.proofs.Tests.{and_true}
use Rattle.numbers.specs.Numbers.{Byte, F64, number, number_at, float_at, bytes, float_bytes}
use Rattle.numbers.proofs.Numbers.{length_bytes, all_bytes, all_float_bytes, number_front, float_front, number_at_lt, bytes_at, length_float_bytes, number_there, float_there, float_fits, float_bytes_at}
use Rattle.points.specs.declared.Point.{Point}
use Rattle.points.specs.Points.{coordinates}
use Rattle.housefile.specs.declared.Record.{Record}
use Rattle.housefile.specs.declared.Record.TheVariants.{Vx, Fc, En}
use Rattle.housefile.specs.Records.{mark_VX, mark_FC, mark_EN, size, decoded, encoded}

-- ---- "`VX`", "`FC`", "`EN`": the marks are these letters
pub letters : (mark_VX ≡ code "V" ∷ code "X" ∷ []) × (mark_FC ≡ code "F" ∷ code "C" ∷ []) × (mark_EN ≡ code "E" ∷ code "N" ∷ [])
letters = (refl, refl, refl)

-- ---- what a record may hold

-- what a record's bytes can say: f64 values, numbers of 4 bytes
abbrev pub Storable : Record → Type 0
Storable (Vx v) = All F64 (coordinates v)
Storable (Fc p q r) = All (λ k. k < 256 ^ 4) (p ∷ q ∷ r ∷ [])
Storable En = Unit {0}

-- no blank among its coordinates
abbrev pub Present : Record → Type 0
Present (Vx v) = All (λ x. is_nan x ≡ false) (coordinates v)
Present (Fc p q r) = Unit {0}
Present En = Unit {0}

-- ---- what decoding looks at
abbrev pub vertex_at : List ℕ → Point
vertex_at bs = record { x = float_at 2 bs; y = float_at 10 bs; z = float_at 18 bs }

-- do bs begin with a mark and have n bytes
abbrev pub marked : List ℕ → ℕ → List ℕ → Bool
marked mark n bs = eqb (number_at 0 2 bs) (number mark) && leb n (length bs)

abbrev pub Begins : List ℕ → Record → Type 0
Begins bs (Vx v) = (number_at 0 2 bs ≡ number mark_VX) × (26 ≤ length bs) × (v ≡ vertex_at bs)
Begins bs (Fc p q r) =
    (number_at 0 2 bs ≡ number mark_FC) × (14 ≤ length bs) × (p ≡ number_at 2 4 bs) × (q ≡ number_at 6 4 bs) × (r ≡ number_at 10 4 bs)
Begins bs En = (number_at 0 2 bs ≡ number mark_EN) × (2 ≤ length bs)

-- and the record, if any, that is told of bs
abbrev Told : List ℕ → Option Record → Type 0
Told bs (Some r) = Begins bs r
Told bs None = Unit {0}

module _ (bs : List ℕ) where
  is_marked : (mark : List ℕ) (n : ℕ) → marked mark n bs ≡ true → (number_at 0 2 bs ≡ number mark) × (n ≤ length bs)
  is_marked mark n e =
      let (a, b) = and_true (eqb (number_at 0 2 bs) (number mark)) (leb n (length bs)) e in
      (eqb-true _ _ a, leb-true _ _ b)

  begins : Told bs (decoded bs)
  unfolding decoded
  begins = go (marked mark_VX 26 bs) refl (marked mark_FC 14 bs) refl (marked mark_EN 2 bs) refl
    where
      go : (a : Bool) → marked mark_VX 26 bs ≡ a → (b : Bool) → marked mark_FC 14 bs ≡ b
          → (c : Bool) → marked mark_EN 2 bs ≡ c → Told bs (decoded bs)
      go true e b f c g = rw (e, decoded) (let (m, n) = is_marked mark_VX 26 e in (m, n, refl))
      go false e true f c g = rw (e, f, decoded) (let (m, n) = is_marked mark_FC 14 f in (m, n, refl, refl, refl))
      go false e false f true g = rw (e, f, g, decoded) (is_marked mark_EN 2 g)
      go false e false f false g = rw (e, f, g, decoded) tt

  -- a record that was decoded is one that the bytes begin with
  pub decoded_begins : (r : Record) → decoded bs ≡ Some r → Begins bs r
  decoded_begins r e = subst (Told bs) e begins

  -- and the other way round
  marked_is : (mark : List ℕ) (n : ℕ) → number_at 0 2 bs ≡ number mark → n ≤ length bs → marked mark n bs ≡ true
  marked_is mark n e h = rw (e, eq-eqb (number mark) (number mark) refl, le-leb n (length bs) h)

  pub marked_not : (mark other : List ℕ) (n : ℕ) → number_at 0 2 bs ≡ number mark → eqb (number mark) (number other) ≡ false → marked other n bs ≡ false
  marked_not mark other n e d = rw (e, d)

  pub too_few : (mark : List ℕ) (n : ℕ) → length bs < n → marked mark n bs ≡ false
  too_few mark n h = rw (lt-leb n (length bs) h) (and_false (eqb (number_at 0 2 bs) (number mark)))
    where
      and_false : (b : Bool) → b && false ≡ false
      and_false true = refl
      and_false false = refl

  pub other_mark : (mark : List ℕ) (n : ℕ) → (number_at 0 2 bs ≡ number mark → ⊥) → marked mark n bs ≡ false
  other_mark mark n d = rw (ne_eqb (number_at 0 2 bs) (number mark) d)

  pub unmarked : marked mark_VX 26 bs ≡ false → marked mark_FC 14 bs ≡ false → marked mark_EN 2 bs ≡ false → decoded bs ≡ None
  unfolding decoded
  unmarked a b c = rw (a, b, c, decoded)

  pub begins_decoded : (r : Record) → Begins bs r → decoded bs ≡ Some r
  unfolding decoded number
  begins_decoded (Vx v) b = rw (marked_is mark_VX 26 b.0 b.1, decoded) (ap (λ v. Some (Vx v)) (sym b.2))
  begins_decoded (Fc p q r) b =
      rw (marked_not mark_FC mark_VX 26 b.0 refl, marked_is mark_FC 14 b.0 b.1, b.2, b.3, b.4, decoded)
  begins_decoded En b =
      rw (marked_not mark_EN mark_VX 26 b.0 refl, marked_not mark_EN mark_FC 14 b.0 refl, marked_is mark_EN 2 b.0 b.1, decoded)

  -- ---- how far a record reaches
  pub size_within : (r : Record) → decoded bs ≡ Some r → size r ≤ length bs
  size_within r e = go r (decoded_begins r e)
    where
      go : (r : Record) → Begins bs r → size r ≤ length bs
      go (Vx v) b = b.1
      go (Fc p q r) b = b.1
      go En b = b.1

-- ---- a record is decoded from its own bytes alone
module _ (front tail rest : List ℕ) where
  number_other : (i n : ℕ) → i + n ≤ length front → number_at i n (front ++ tail) ≡ number_at i n (front ++ rest)
  number_other i n h = number_front i n front tail h ∙ sym (number_front i n front rest h)

  float_other : (i : ℕ) → i + 8 ≤ length front → float_at i (front ++ tail) ≡ float_at i (front ++ rest)
  float_other i h = float_front i front tail h ∙ sym (float_front i front rest h)

  longer : (n : ℕ) → n ≤ length front → n ≤ length (front ++ rest)
  longer n h = rw length-append (omega arith)

  begins_other : (r : Record) → size r ≤ length front → Begins (front ++ tail) r → Begins (front ++ rest) r
  begins_other (Vx v) h b = (
    sym (number_other 0 2 (omega arith)) ∙ b.0,
    longer 26 h,
    b.2 ∙ (λ i. record { x = float_other 2 (omega arith) i; y = float_other 10 (omega arith) i; z = float_other 18 (omega arith) i }),
  )
  begins_other (Fc p q r) h b = (
    sym (number_other 0 2 (omega arith)) ∙ b.0,
    longer 14 h,
    b.2 ∙ number_other 2 4 (omega arith),
    b.3 ∙ number_other 6 4 (omega arith),
    b.4 ∙ number_other 10 4 (omega arith),
  )
  begins_other En h b = (sym (number_other 0 2 (omega arith)) ∙ b.0, longer 2 h)

  decoded_other : (r : Record) → size r ≤ length front → decoded (front ++ tail) ≡ Some r → decoded (front ++ rest) ≡ Some r
  decoded_other r h e = begins_decoded (front ++ rest) r (begins_other r h (decoded_begins (front ++ tail) r e))

-- whatever stands behind those bytes
pub decoded_own : (bs : List ℕ) (r : Record) → decoded bs ≡ Some r → (rest : List ℕ) → decoded (take (size r) bs ++ rest) ≡ Some r
decoded_own bs r e rest =
    decoded_other (take (size r) bs) (drop (size r) bs) rest r
    (rw (length-take-le (size r) bs (size_within bs r e)) (omega arith))
    (ap decoded (take-append-drop (size r) bs) ∙ e)

-- ---- there
pub length_encoded : (r : Record) → length (encoded r) ≡ size r
unfolding encoded flat_map
length_encoded (Vx v) = simp (length-append, length_float_bytes)
length_encoded (Fc p q r) = simp (length-append, length_bytes)
length_encoded En = refl

pub all_encoded : (r : Record) → All Byte (encoded r)
unfolding encoded
all_encoded (Vx v) =
    (lit< tt, (lit< tt, all_flat_map Byte float_bytes (coordinates v) (all_float_bytes v.x, (all_float_bytes v.y, (all_float_bytes v.z, tt)))))
all_encoded (Fc p q r) =
    (lit< tt, (lit< tt, all-++ Byte (bytes 4 p) (bytes 4 q ++ bytes 4 r) (all_bytes 4 p) (all-++ Byte (bytes 4 q) (bytes 4 r) (all_bytes 4 q) (all_bytes 4 r))))
all_encoded En = (lit< tt, (lit< tt, tt))

pub behind_encoded : (r : Record) (rest : List ℕ) → drop (size r) (encoded r ++ rest) ≡ rest
behind_encoded r rest = drop_at (encoded r) rest (size r) (length_encoded r)

room : (r : Record) (rest : List ℕ) → size r ≤ length (encoded r ++ rest)
room r rest = rw (length-append, length_encoded r) (omega arith)

-- the bytes of a mark and three parts, and behind them the rest
pub vx_parts : (v : Point) → encoded (Vx v) ≡ mark_VX ++ (float_bytes v.x ++ (float_bytes v.y ++ float_bytes v.z))
unfolding encoded flat_map
vx_parts v = simp append-nil

vx_bytes : (v : Point) (rest : List ℕ)
    → encoded (Vx v) ++ rest ≡ mark_VX ++ (float_bytes v.x ++ (float_bytes v.y ++ (float_bytes v.z ++ rest)))
unfolding encoded flat_map
vx_bytes v rest = simp append_assoc

fc_bytes : (p q r : ℕ) (rest : List ℕ) → encoded (Fc p q r) ++ rest ≡ mark_FC ++ (bytes 4 p ++ (bytes 4 q ++ (bytes 4 r ++ rest)))
unfolding encoded
fc_bytes p q r rest = simp append_assoc

vx_there : (v : Point) → All F64 (coordinates v) → (rest : List ℕ) → vertex_at (encoded (Vx v) ++ rest) ≡ v
vx_there v (hx, (hy, (hz, end))) rest =
    let X = float_bytes v.x in
    let Y = float_bytes v.y in
    let Z = float_bytes v.z in
    let x = float_there 2 v.x mark_VX (Y ++ (Z ++ rest)) refl hx in
    let y = float_there 10 v.y (mark_VX ++ X) (Z ++ rest) (simp length_float_bytes) hy in
    let z = float_there 18 v.z (mark_VX ++ (X ++ Y)) rest (simp (length-append, length_float_bytes)) hz in
    let regroup = ap (λ l. float_at 18 (mark_VX ++ l)) (sym (append_assoc X Y (Z ++ rest))) in
    ap vertex_at (vx_bytes v rest) ∙ (λ i. record { x = x i; y = y i; z = (regroup ∙ z) i })

fc_there : (p q r : ℕ) → All (λ k. k < 256 ^ 4) (p ∷ q ∷ r ∷ []) → (rest : List ℕ)
    → let bs = encoded (Fc p q r) ++ rest in (number_at 2 4 bs ≡ p) × (number_at 6 4 bs ≡ q) × (number_at 10 4 bs ≡ r)
fc_there p q r (hp, (hq, (hr, end))) rest =
    let P = bytes 4 p in
    let Q = bytes 4 q in
    let R = bytes 4 r in
    let regroup = ap (λ l. number_at 10 4 (mark_FC ++ l)) (sym (append_assoc P Q (R ++ rest))) in
    rw (fc_bytes p q r rest) (
      number_there 2 4 p mark_FC (Q ++ (R ++ rest)) refl hp,
      number_there 6 4 q (mark_FC ++ P) (R ++ rest) (simp length_bytes) hq,
      regroup ∙ number_there 10 4 r (mark_FC ++ (P ++ Q)) rest (simp (length-append, length_bytes)) hr,
    )

encoded_begins : (r : Record) → Storable r → (rest : List ℕ) → Begins (encoded r ++ rest) r
unfolding encoded number_at
encoded_begins (Vx v) h rest = (refl, room (Vx v) rest, sym (vx_there v h rest))
encoded_begins (Fc p q r) h rest =
    let (ep, eq, er) = fc_there p q r h rest in
    (refl, room (Fc p q r) rest, sym ep, sym eq, sym er)
encoded_begins En h rest = (refl, room En rest)

pub decoded_encoded : (r : Record) → Storable r → (rest : List ℕ) → decoded (encoded r ++ rest) ≡ Some r
decoded_encoded r h rest = begins_decoded (encoded r ++ rest) r (encoded_begins r h rest)

-- ---- and back

-- a mark and three parts of k bytes
parts : (k : ℕ) (bs : List ℕ)
    → take (2 + k + k + k) bs ≡ take 2 bs ++ (take k (drop 2 bs) ++ (take k (drop (2 + k) bs) ++ take k (drop (2 + k + k) bs)))
parts k bs =
    take-add (2 + k + k) k bs
    ∙ ap (λ l. l ++ take k (drop (2 + k + k) bs)) (take-add (2 + k) k bs ∙ ap (λ l. l ++ take k (drop (2 + k) bs)) (take-add 2 k bs))
    ∙ simp append_assoc

module _ (bs : List ℕ) (all : All Byte bs) where
  -- the two bytes of a mark
  mark_at : (mark : List ℕ) → bytes 2 (number mark) ≡ mark → number_at 0 2 bs ≡ number mark → 2 ≤ length bs → take 2 bs ≡ mark
  mark_at mark m e h = sym (bytes_at 0 2 bs all h) ∙ ap (bytes 2) e ∙ m

  float_part : (i : ℕ) (x : Float) → is_nan x ≡ false → x ≡ float_at i bs → i + 8 ≤ length bs → take 8 (drop i bs) ≡ float_bytes x
  float_part i x h e n = sym (ap float_bytes e ∙ float_bytes_at i bs all n (ap is_nan (sym e) ∙ h))

  number_part : (i k : ℕ) → k ≡ number_at i 4 bs → i + 4 ≤ length bs → take 4 (drop i bs) ≡ bytes 4 k
  number_part i k e n = sym (ap (bytes 4) e ∙ bytes_at i 4 bs all n)

  vx_encoded : (v : Point) → All (λ x. is_nan x ≡ false) (coordinates v) → Begins bs (Vx v) → take 26 bs ≡ encoded (Vx v)
  unfolding encoded flat_map number bytes
  vx_encoded v (hx, (hy, (hz, end))) (m, n, e) =
      let mark = mark_at mark_VX refl m (omega arith) in
      let x = float_part 2 v.x hx (ap (λ w. w.x) e) (omega arith) in
      let y = float_part 10 v.y hy (ap (λ w. w.y) e) (omega arith) in
      let z = float_part 18 v.z hz (ap (λ w. w.z) e) (omega arith) ∙ sym (append-nil (float_bytes v.z)) in
      parts 8 bs ∙ (λ i. mark i ++ (x i ++ (y i ++ z i)))

  fc_encoded : (p q r : ℕ) → Begins bs (Fc p q r) → take 14 bs ≡ encoded (Fc p q r)
  unfolding encoded number bytes
  fc_encoded p q r (m, n, ep, eq, er) =
      let mark = mark_at mark_FC refl m (omega arith) in
      let p = number_part 2 p ep (omega arith) in
      let q = number_part 6 q eq (omega arith) in
      let r = number_part 10 r er (omega arith) in
      parts 4 bs ∙ (λ i. mark i ++ (p i ++ (q i ++ r i)))

  begins_encoded : (r : Record) → Present r → Begins bs r → take (size r) bs ≡ encoded r
  unfolding encoded number bytes
  begins_encoded (Vx v) h b = vx_encoded v h b
  begins_encoded (Fc p q r) h b = fc_encoded p q r b
  begins_encoded En h b = mark_at mark_EN refl b.0 b.1

  -- so an accepted record is written again as it stood
  pub encoded_decoded : (r : Record) → decoded bs ≡ Some r → Present r → take (size r) bs ≡ encoded r
  encoded_decoded r e h = begins_encoded r h (decoded_begins bs r e)

  -- and a record that was decoded can be written
  pub decoded_storable : (r : Record) → decoded bs ≡ Some r → Storable r
  decoded_storable r e = go r (decoded_begins bs r e)
    where
      small : (i k : ℕ) → i + 4 ≤ length bs → k ≡ number_at i 4 bs → k < 256 ^ 4
      small i k h e = subst (λ k. k < 256 ^ 4) (sym e) (number_at_lt i 4 bs all h)

      go : (r : Record) → Begins bs r → Storable r
      go (Vx v) b = subst (λ w. Storable (Vx w)) (sym b.2) (float_fits 2 bs, (float_fits 10 bs, (float_fits 18 bs, tt)))
      go (Fc p q r) b =
          let n : 14 ≤ length bs = b.1 in
          (small 2 p (omega arith) b.2, (small 6 q (omega arith) b.3, (small 10 r (omega arith) b.4, tt)))
      go En b = tt
