-- `count_facet` meets its contract: each half-edge in turn is one more in the table.
use mathlib.Core.Path.{◌≡◌, sym, subst}
use mathlib.Core.List.{List, [], ◌∷◌, ◌++◌, append_assoc}
use Prim.Native.Nat.{ℕ, ◌+◌, ◌*◌, ◌<◌, ◌≤◌, ◌/◌}
use native.Mathlib.Omega.{arith}
use native.Mathlib.Nat.{add-zero}
use lib.ListN.{length, get_or, set, length-append}
use Rattle.solids.specs.Solids.{Half}
use Rattle.solids.specs.Words.{Low, place, Tallied, counted}
use Rattle.solids.proofs.Tally.{tallied_next, tallied_few, counted_next, counted_length, low_at, low_first}
use Rattle.tally.proofs.count_facet.Goals as goal

-- Facet f of a list of corners, whose three corners find their rows.
module _ (cs : List ℕ) (f : ℕ) (low : Low cs) (below : f < length cs / 3) (short : length cs ≤ 768) where
  low_p : get_or cs (3 * f) 0 < 128
  low_p = low_first cs f low below

  low_q : get_or cs (3 * f + 1) 0 < 128
  low_q = low_at cs f 1 low below (omega arith)

  low_r : get_or cs (3 * f + 2) 0 < 128
  low_r = low_at cs f 2 low below (omega arith)

  abbrev pq : Half
  pq = (get_or cs (3 * f) 0, get_or cs (3 * f + 1) 0)

  abbrev qr : Half
  qr = (get_or cs (3 * f + 1) 0, get_or cs (3 * f + 2) 0)

  abbrev rp : Half
  rp = (get_or cs (3 * f + 2) 0, get_or cs (3 * f) 0)

  -- the half-edges that the table holds before the first, the second and the third call of `count`, and after it
  abbrev before : List Half
  before = counted cs f

  abbrev first : List Half
  first = before ++ (pq ∷ [])

  abbrev second : List Half
  second = first ++ (qr ∷ [])

  first_length : length first ≡ 3 * f + 1
  first_length = omega (arith, length-append before (pq ∷ []), counted_length cs f)

  second_length : length second ≡ 3 * f + 2
  second_length = omega (arith, length-append first (qr ∷ []), first_length)

  few : (table : List ℕ) (hs : List Half) (i : ℕ) → length hs ≤ 3 * f + 2 → i < 16384 → Tallied table hs → get_or table i 0 < 65535
  few table hs i m l t = omega (arith, tallied_few table hs i l t)

  few_before : (table : List ℕ) → Tallied table before → get_or table (place pq) 0 < 65535
  few_before table t = few table before (place pq) (omega (arith, counted_length cs f)) (omega (arith, low_p, low_q)) t

  few_first : (table : List ℕ) → Tallied table first → get_or table (place qr) 0 < 65535
  few_first table t = few table first (place qr) (omega (arith, first_length)) (omega (arith, low_q, low_r)) t

  few_second : (table : List ℕ) → Tallied table second → get_or table (place rp) 0 < 65535
  few_second table t = few table second (place rp) (omega (arith, second_length)) (omega (arith, low_r, low_p)) t

  to_first : (t u : List ℕ) → Tallied t before → u ≡ set t (place pq) (get_or t (place pq) 0 + 1) → Tallied u first
  to_first t u h e = subst (λ v. Tallied v first) (sym e) (tallied_next t before pq low_p low_q h)

  to_second : (t u : List ℕ) → Tallied t first → u ≡ set t (place qr) (get_or t (place qr) 0 + 1) → Tallied u second
  to_second t u h e = subst (λ v. Tallied v second) (sym e) (tallied_next t first qr low_q low_r h)

  next : second ++ (rp ∷ []) ≡ counted cs (f + 1)
  next = simp append_assoc (sym (simp add-zero at (counted_next cs f)))

  to_third : (t u : List ℕ) → Tallied t second → u ≡ set t (place rp) (get_or t (place rp) 0 + 1) → Tallied u (counted cs (f + 1))
  to_third t u h e = subst (λ v. Tallied v (counted cs (f + 1))) (sym e) (subst (Tallied _) next (tallied_next t second rp low_r low_p h))

pub count-requires : goal.count-requires
count-requires c =
    let cs = c.args.corners.now in
    let f = c.args.f in
    let (low, below, short) = c.requires.low in
    (low_p cs f low below short, low_q cs f low below short, few_before cs f low below short _ c.requires.tallied)

pub count-requires-2 : goal.count-requires-2
count-requires-2 c =
    let cs = c.args.corners.now in
    let f = c.args.f in
    let (low, below, short) = c.requires.low in
    (low_q cs f low below short, low_r cs f low below short, few_first cs f low below short _ (to_first cs f low below short _ _ c.requires.tallied c.count.ensures))

pub count-requires-3 : goal.count-requires-3
count-requires-3 c =
    let cs = c.args.corners.now in
    let f = c.args.f in
    let (low, below, short) = c.requires.low in
    (low_r cs f low below short, low_p cs f low below short, few_second cs f low below short _ (to_second cs f low below short _ _ (to_first cs f low below short _ _ c.requires.tallied c.count.ensures) c.count-2.ensures))

pub returns : goal.returns
returns c =
    let cs = c.args.corners.now in
    let f = c.args.f in
    let (low, below, short) = c.requires.low in
    to_third cs f low below short _ _ (to_second cs f low below short _ _ (to_first cs f low below short _ _ c.requires.tallied c.count.ensures) c.count-2.ensures) c.count-3.ensures
