-- Counted as the ends come: after all ends of a boundary, its pieces less the ends at the least vertex so far are its triangles.
use mathlib.Core.Path.{◌≡◌, refl, sym, ap, ◌∙◌, subst}
use mathlib.Core.Logic.{◌≢◌, inl, inr}
use mathlib.Core.Bool.{Bool, true, false, ◌||◌, cond}
use mathlib.Core.List.{List, [], ◌∷◌, ◌++◌, flat_map, append_assoc, append-nil, Memᴰ}
use Prim.Native.Nat.{ℕ, zero, suc, ◌+◌, ◌<◌, ◌≤◌}
use native.Mathlib.Nat.{le_antisymm}
use native.Mathlib.Omega.{arith}
use native.Mathlib.Decide.{dec_lt, ℕ_discrete}
use borrow.Author.Tests.{eq-eqb, ne_eqb, eqb-true, eqb-false, ltb-true, ltb-false}
use lib.Dec.{eqb, ltb}
use lib.IntN.{ℤ, pos, negsuc, nat_abs}
use lib.ListN.{length}
use Rattle.list_words.specs.Lists.{times, any, nonzero, below}
use Rattle.list_words.proofs.Integers.{abs_parts}
use Rattle.list_words.proofs.Sums.{All, all_at, all_mono, all-++}
use Rattle.list_words.proofs.Tests.{or_true, or-false, never}
use Rattle.results.specs.declared.End.{End}
use Rattle.results.specs.Triangles.{fan}
use Rattle.solids.specs.Solids.{Half}
use Rattle.fan_counts.specs.declared.Tally.{Tally}
use Rattle.fan_counts.specs.Words.{Composite, Joined, least_of, all_ends, piece_count, ends_at, summed, none_yet, told, tell, Near}
use Rattle.fan_counts.proofs.Shuffles.{mem_times, times_mem, least_in, least_below}
use Rattle.fan_counts.proofs.Counts.{times_flat, boundary_count}

-- ---- over two lists of ends
pub pieces_append : (es ds : List End) → piece_count (es ++ ds) ≡ piece_count es + piece_count ds
unfolding piece_count
pieces_append [] ds = omega arith
pieces_append (e ∷ es) ds = omega (arith, pieces_append es ds)

pub at_append : (v : ℕ) (es ds : List End) → ends_at v (es ++ ds) ≡ ends_at v es + ends_at v ds
unfolding ends_at
at_append v [] ds = omega arith
at_append v (e ∷ es) ds = omega (arith, at_append v es ds)

-- ---- ends one after the other
pub tell_append : (t : Tally) (es ds : List End) → tell t (es ++ ds) ≡ tell (tell t es) ds
tell_append t [] ds = refl
tell_append t (e ∷ es) ds = tell_append (told t e) es ds

-- what does not count tells nothing
told_none : (t : Tally) (e : End) → nonzero e.count ≡ false → told t e ≡ t
told_none t e q = rw q

pub tell_quiet : (t : Tally) (es : List End) → any (λ (e : End). nonzero e.count) es ≡ false → tell t es ≡ t
unfolding any
tell_quiet t [] h = refl
tell_quiet t (e ∷ es) h =
    let b = or-false (nonzero e.count) (any (λ (e : End). nonzero e.count) es) h in
    ap (λ s. tell s es) (told_none t e b.0) ∙ tell_quiet t es b.1

-- ---- no tally grows by more than its ends
pub near_self : (t : Tally) → Near t t 0
near_self t = record { pieces = omega arith; at = omega arith }

pub near_then : {r s t : Tally} {m n : ℕ} → Near r s m → Near s t n → Near r t (m + n)
near_then f g = record { pieces = omega (arith, f.pieces, g.pieces); at = omega (arith, f.at, g.at) }

pub near_less : {s t : Tally} {m n : ℕ} → Near s t m → m ≤ n → Near s t n
near_less f h = record { pieces = omega (arith, f.pieces); at = omega (arith, f.at) }

near_told : (t : Tally) (e : End) → Near t (told t e) (nat_abs e.count)
near_told t e = go (nonzero e.count) (eqb t.at 0 || ltb e.vertex t.least) (eqb t.least e.vertex)
  where
    go : (a b c : Bool) → Near t (cond a (cond b
        (record { pieces = t.pieces + below e.count; least = e.vertex; at = nat_abs e.count })
        (record { pieces = t.pieces + below e.count; least = t.least; at = t.at + cond c (nat_abs e.count) 0 })) t) (nat_abs e.count)
    go true true c = record { pieces = omega (arith, abs_parts e.count); at = omega arith }
    go true false true = record { pieces = omega (arith, abs_parts e.count); at = omega arith }
    go true false false = record { pieces = omega (arith, abs_parts e.count); at = omega arith }
    go false b c = record { pieces = omega arith; at = omega arith }

pub near_one : {s t r : Tally} {m n : ℕ} (e : End) → Near s t m → r ≡ told t e → nat_abs e.count ≤ n → Near s r (m + n)
near_one {s} {t} {r} {m} {n} e f q h =
    let g = near_told t e in
    record { pieces = omega (arith, ap (λ (t : Tally). t.pieces) q, f.pieces, g.pieces); at = omega (arith, ap (λ (t : Tally). t.at) q, f.at, g.at) }

-- ---- what a tally says of the ends so far
abbrev Counts : End → Type 0
Counts e = nonzero e.count ≡ true

pub record Tallied (es : List End) (t : Tally) : Type 0 where
  pub pieces : t.pieces ≡ piece_count es
  pub at : t.at ≡ ends_at t.least es
  pub low : All (λ e. Counts e → t.least ≤ e.vertex) es
  pub some : t.at ≡ 0 → All (λ (e : End). nonzero e.count ≡ false) es

zero_size : (n : ℤ) → nonzero n ≡ false → (nat_abs n ≡ 0) × (below n ≡ 0)
zero_size (pos zero) h = (refl, refl)
zero_size (pos (suc n)) h = absurd (never true refl h)
zero_size (negsuc n) h = absurd (never true refl h)

some_size : (n : ℤ) → nonzero n ≡ true → 0 < nat_abs n
some_size (pos zero) h = absurd (never false h refl)
some_size (pos (suc n)) h = omega arith
some_size (negsuc n) h = omega arith

-- no end at v, if none that counts has it
none_at : (v : ℕ) (es : List End) → All (λ e. Counts e → v ≢ e.vertex) es → ends_at v es ≡ 0
unfolding ends_at
none_at v [] a = refl
none_at v (e ∷ es) a = go (nonzero e.count) refl (none_at v es a.1)
  where
    quiet : (b : Bool) (n : ℕ) → n ≡ 0 → cond b n 0 ≡ 0
    quiet true n z = z
    quiet false n z = refl

    go : (b : Bool) → nonzero e.count ≡ b → ends_at v es ≡ 0 → cond (eqb v e.vertex) (nat_abs e.count) 0 + ends_at v es ≡ 0
    go true q ih = rw (ne_eqb v e.vertex (a.0 q)) (omega arith)
    go false q ih = omega (arith, quiet (eqb v e.vertex) (nat_abs e.count) (zero_size e.count q).0)

one_at : (v : ℕ) (e : End) → ends_at v (e ∷ []) ≡ cond (eqb v e.vertex) (nat_abs e.count) 0
unfolding ends_at
one_at v e = omega arith

one_piece : (e : End) → piece_count (e ∷ []) ≡ below e.count
unfolding piece_count
one_piece e = omega arith

module _ (es : List End) (t : Tally) (e : End) (h : Tallied es t) where
  pieces_next : t.pieces + below e.count ≡ piece_count (es ++ (e ∷ []))
  pieces_next = omega (arith, h.pieces, pieces_append es (e ∷ []), one_piece e)

  -- the end is at a new least vertex
  fresh : Counts e → All (λ d. Counts d → e.vertex < d.vertex) es → Tallied (es ++ (e ∷ [])) (record { pieces = t.pieces + below e.count; least = e.vertex; at = nat_abs e.count })
  fresh q away =
      record {
        pieces = pieces_next;
        at =
            let z = none_at e.vertex es (all_mono _ _ es (λ d f c k. omega (arith, f c)) away) in
            let o : ends_at e.vertex (e ∷ []) ≡ nat_abs e.count = one_at e.vertex e ∙ rw (eq-eqb e.vertex e.vertex refl) in
            omega (arith, at_append e.vertex es (e ∷ []), z, o);
        low = all-++ _ es (e ∷ []) (all_mono _ _ es (λ d f c. omega (arith, f c)) away) ((λ c. omega arith), tt);
        some = λ k. absurd (omega (arith, some_size e.count q));
      }

  -- the least vertex stays
  stays : Counts e → t.least ≤ e.vertex → (t.at ≡ 0 → ⊥) → Tallied (es ++ (e ∷ [])) (record { pieces = t.pieces + below e.count; least = t.least; at = t.at + cond (eqb t.least e.vertex) (nat_abs e.count) 0 })
  stays q l n =
      record {
        pieces = pieces_next;
        at = omega (arith, h.at, at_append t.least es (e ∷ []), one_at t.least e);
        low = all-++ _ es (e ∷ []) h.low ((λ c. l), tt);
        some = λ k. absurd (n (omega arith));
      }

  -- the end does not count
  passes : nonzero e.count ≡ false → Tallied (es ++ (e ∷ [])) t
  passes q =
      let z = zero_size e.count q in
      record {
        pieces = omega (arith, pieces_next, z.1);
        at = omega (arith, h.at, at_append t.least es (e ∷ []), none_at t.least (e ∷ []) ((λ c k. never (nonzero e.count) c q), tt));
        low = all-++ _ es (e ∷ []) h.low ((λ c. absurd (never (nonzero e.count) c q)), tt);
        some = λ k. all-++ _ es (e ∷ []) (h.some k) (q, tt);
      }

  pub told_more : Tallied (es ++ (e ∷ [])) (told t e)
  told_more = go (nonzero e.count) refl
    where
      new : (b : Bool) → (eqb t.at 0 || ltb e.vertex t.least) ≡ b → Counts e → Tallied (es ++ (e ∷ [])) (cond b
          (record { pieces = t.pieces + below e.count; least = e.vertex; at = nat_abs e.count })
          (record { pieces = t.pieces + below e.count; least = t.least; at = t.at + cond (eqb t.least e.vertex) (nat_abs e.count) 0 }))
      new true r q = fresh q (elim (or_true (eqb t.at 0) (ltb e.vertex t.least) r) [
        | inl z ↦ all_mono _ _ es (λ d f c. absurd (never (nonzero d.count) c f)) (h.some (eqb-true t.at 0 z))
        | inr z ↦ all_mono _ _ es (λ d f c. omega (arith, f c, ltb-true e.vertex t.least z)) h.low
      ])
      new false r q = let s = or-false (eqb t.at 0) (ltb e.vertex t.least) r in stays q (ltb-false e.vertex t.least s.1) (eqb-false t.at 0 s.0)

      go : (b : Bool) → nonzero e.count ≡ b → Tallied (es ++ (e ∷ [])) (cond b
          (cond (eqb t.at 0 || ltb e.vertex t.least)
          (record { pieces = t.pieces + below e.count; least = e.vertex; at = nat_abs e.count })
          (record { pieces = t.pieces + below e.count; least = t.least; at = t.at + cond (eqb t.least e.vertex) (nat_abs e.count) 0 })) t)
      go true q = new (eqb t.at 0 || ltb e.vertex t.least) refl q
      go false q = passes q

pub tell_more : (es ds : List End) (t : Tally) → Tallied es t → Tallied (es ++ ds) (tell t ds)
tell_more es [] t h = rw (append-nil es) h
tell_more es (d ∷ ds) t h = subst (λ l. Tallied l (tell (told t d) ds)) (append_assoc es (d ∷ []) ds) (tell_more (es ++ (d ∷ [])) ds (told t d) (told_more es t d h))

tallied_none : Tallied [] none_yet
unfolding piece_count ends_at
tallied_none = record { pieces = refl; at = refl; low = tt; some = λ k. tt }

-- ---- the least vertex
least_mem : (l : List ℕ) {v : ℕ} → Memᴰ v l → Memᴰ (least_of l) l
least_mem [] m = absurd (mathlib.Core.List.Memᴰ.not-nil m)
least_mem (x ∷ l) m = least_in x l

-- of any list in which each number stands as often as it has ends
module _ (es : List End) (t : Tally) (h : Tallied es t) (l : List ℕ) (same : (v : ℕ) → times eqb v l ≡ ends_at v es) where
  above_least : (v : ℕ) → Memᴰ v l → t.least ≤ v
  above_least v m = elim (dec_lt v t.least) [
    | yes k ↦
        let z = none_at v es (all_mono _ _ es (λ d f c q. omega (arith, f c)) h.low) in
        absurd (omega (arith, mem_times m, same v))
    | no n ↦ omega arith
  ]

  pub least_told : ends_at (least_of l) es ≡ t.at
  least_told = elim (ℕ_discrete t.at 0) [
    | yes z ↦ none_at (least_of l) es (all_mono _ _ es (λ d f c k. never (nonzero d.count) c f) (h.some z)) ∙ sym z
    | no n ↦
        let m : Memᴰ t.least l = times_mem t.least l (omega (arith, same t.least, h.at)) in
        let e : least_of l ≡ t.least = le_antisymm (all_at (λ v. least_of l ≤ v) m (least_below l)) (above_least (least_of l) (least_mem l m)) in
        ap (λ v. ends_at v es) e ∙ sym h.at
  ]

-- ---- a boundary
pieces_flat : {A : Type 0} (ends : A → List End) (l : List A) → piece_count (flat_map ends l) ≡ summed (λ x. piece_count (ends x)) l
unfolding flat_map summed piece_count
pieces_flat ends [] = refl
pieces_flat ends (x ∷ l) = omega (arith, pieces_append (ends x) (flat_map ends l), pieces_flat ends l)

at_flat : {A : Type 0} (v : ℕ) (ends : A → List End) (l : List A) → ends_at v (flat_map ends l) ≡ summed (λ x. ends_at v (ends x)) l
unfolding flat_map summed ends_at
at_flat v ends [] = refl
at_flat v ends (x ∷ l) = omega (arith, at_append v (ends x) (flat_map ends l), at_flat v ends l)

-- COUNTED WITHOUT JOINING: what all ends of a boundary tell
pub tally_count : {A : Type 0} (l : List A) (ends : A → List End) → All (λ x. Composite (ends x)) l → (p : A → List Half) → All (λ x. Joined (ends x) (p x)) l → (o : ℕ)
    → length (fan o (flat_map p l)) + (tell none_yet (flat_map ends l)).at ≡ (tell none_yet (flat_map ends l)).pieces
tally_count l ends c p j o =
    let h = tell_more [] (flat_map ends l) none_yet tallied_none in
    let m = flat_map (λ x. all_ends (ends x)) l in
    let at = least_told (flat_map ends l) (tell none_yet (flat_map ends l)) h m (λ v. times_flat v ends l ∙ sym (at_flat v ends l)) in
    omega (arith, boundary_count l ends c p j o, h.pieces, pieces_flat ends l, at, at_flat (least_of m) ends l)
