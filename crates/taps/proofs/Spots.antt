-- Laws of `spot_of` for either siting and any num and den: its part is below 1, its cells are there, in order, and beside the output's own cell.
-- Each goes by the cases of the definition (`by_spot`, `by_place`). The hard one is `spot_around`, of centred outputs, where the floor of u and the output's
-- own cell o / r are held against each other by the remainders of both divisions.
use Rattle.std.proofs.Common.{◌≡◌, subst, Bool, true, false, not, ℕ, suc, ◌+◌, ◌-◌, ◌*◌, ◌/◌, ◌%◌, ◌≤◌, ◌<◌, min, zero-le, le_refl, not-le_of_lt, le_of_suc-le-suc, le_of_mul-le-mul_right, div-one, le_trans, mod-lt, mul-le-mul_right, div-lt_iff_lt-mul, div-add-mod', arith, T, ltb, leb, eqb, ltb→lt, nltb→le, leb→le, eqb→eq, lit≤}
use lib.Dec.{nleb→lt}
use lib.Ieee.Nearest.{div_mono}
use Rattle.taps.specs.Taps.{Spot, pick_spot, on_cell, spot_at, sited_at, spot_of, tap_by}
use Rattle.taps.specs.Inner.Taps.{TapGiven}
use Rattle.taps.specs.declared.positions.Tap.{Tap}
use Rattle.laws.specs.declared.axes.Siting.{Siting}
use Rattle.laws.specs.declared.axes.Siting.TheVariants.{Centred, CoSited}
use Rattle.laws.specs.declared.axes.Axis.{Axis}

-- ---- by cases: on a cell, or between two

-- what holds on the cell that is picked and otherwise elsewhere, under the test's outcome
by_pick : (P : Spot → Type 0) (b : Bool) (s t : Spot) → (T b → P s) → (T (not b) → P t) → P (pick_spot b s t)
by_pick P true s t f g = f tt
by_pick P false s t f g = g tt

-- u = m / d before the last cell: floor(u), the next cell, and the rest of u
abbrev pub between : ℕ → ℕ → Spot
between m d = record { near = m / d; far = m / d + 1; k = m % d; d = d }

-- the two cases of a place: at or past the last cell, and before it
pub by_place : (P : Spot → Type 0) (m d len : ℕ) → (len - 1 ≤ m / d → P (on_cell (len - 1))) → (m / d < len - 1 → P (between m d)) → P (spot_at m d len)
unfolding spot_at
by_place P m d len f g = by_pick P (leb (len - 1) (m / d)) (on_cell (len - 1)) (between m d) (λ t. f (leb→le (len - 1) (m / d) t)) (λ t. g (nleb→lt (len - 1) (m / d) t))

-- the cases of an output that has fewer cells than outputs: below the first cell, and else at m / d, where d is den or its double
by_sited : (P : Spot → Type 0) (siting : Siting) (num den len o : ℕ) → P (on_cell 0) → ((m d : ℕ) → (0 < den → 0 < d) → d ≤ 2 * den → P (spot_at m d len)) → P (sited_at siting num den len o)
unfolding sited_at
by_sited P Centred num den len o g h =
    by_pick P (ltb ((2 * o + 1) * num) den) (on_cell 0) (spot_at ((2 * o + 1) * num - den) (2 * den) len) (λ _. g) (λ _. h ((2 * o + 1) * num - den) (2 * den) (λ (z : 0 < den). omega arith) (le_refl (2 * den)))
by_sited P CoSited num den len o g h = h (o * num) den (λ (z : 0 < den). z) (omega arith)

-- the cases of an output: one cell to each output, and else as it is sited
by_own : (P : Spot → Type 0) (siting : Siting) (num den len o : ℕ) → (num ≡ den → P (on_cell o)) → P (sited_at siting num den len o) → P (spot_of siting num den len o)
unfolding spot_of
by_own P siting num den len o f g = by_pick P (eqb num den) (on_cell o) (sited_at siting num den len o) (λ t. f (eqb→eq num den t)) (λ _. g)

-- both at once
by_spot : (P : Spot → Type 0) (siting : Siting) (num den len o : ℕ) → (num ≡ den → P (on_cell o)) → P (on_cell 0) → ((m d : ℕ) → (0 < den → 0 < d) → d ≤ 2 * den → P (spot_at m d len)) → P (spot_of siting num den len o)
by_spot P siting num den len o f g h = by_own P siting num den len o f (by_sited P siting num den len o g h)

-- ---- its part is below 1, and in eighths or coarser at ratios 1 to 4

-- the remainder of u is below 1, at any siting, num and den
pub spot_part : (siting : Siting) (num den len o : ℕ) → 0 < den → (spot_of siting num den len o).k < (spot_of siting num den len o).d
spot_part siting num den len o z =
    by_spot (λ (s : Spot). s.k < s.d) siting num den len o (λ _. lit≤ tt) (lit≤ tt)
    (λ m d p _. by_place (λ (s : Spot). s.k < s.d) m d len (λ _. lit≤ tt) (λ _. mod-lt m (p z)))

-- what the table of fractions asks of a spot
pub record Valid (s : Spot) : Type 0 where
  pub part : s.k < s.d
  pub small : s.d < 9

-- every spot of a pair that a layout has is in the table
pub spot_valid : (siting : Siting) (num den len o : ℕ) → (0 < den) × (den ≤ 4) → Valid (spot_of siting num den len o)
spot_valid siting num den len o l =
    record {
      part = spot_part siting num den len o l.0;
      small =
          by_spot (λ (s : Spot). s.d < 9) siting num den len o (λ _. lit≤ tt) (lit≤ tt)
          (λ m d _ k. by_place (λ (s : Spot). s.d < 9) m d len (λ _. lit≤ tt) (λ _. omega arith));
    }

-- ---- its cells are there
pub record Inside (s : Spot) (len : ℕ) : Type 0 where
  pub near : s.near < len
  pub far : s.far < len

pub spot_inside : (siting : Siting) (num den len o : ℕ) → 0 < len → (num ≡ den → o < len) → Inside (spot_of siting num den len o) len
spot_inside siting num den len o z h =
    by_spot (λ (s : Spot). Inside s len) siting num den len o (λ e. record { near = h e; far = h e }) (record { near = z; far = z })
    (λ m d _ _. by_place (λ (s : Spot). Inside s len) m d len (λ _. record { near = last; far = last }) (λ l. go (m / d) (m % d) d l))
  where
    last : len - 1 < len
    last = omega arith

    go : (q k d : ℕ) → q < len - 1 → Inside (record { near = q; far = q + 1; k = k; d = d }) len
    go q k d l = record { near = omega arith; far = omega arith }

-- ---- the far cell is the near one or the next
pub record Beside (s : Spot) : Type 0 where
  pub low : s.near ≤ s.far
  pub high : s.far ≤ s.near + 1

cell_beside : (i : ℕ) → Beside (on_cell i)
cell_beside i = record { low = le_refl i; high = omega arith }

pub spot_beside : (siting : Siting) (num den len o : ℕ) → Beside (spot_of siting num den len o)
spot_beside siting num den len o =
    by_spot Beside siting num den len o (λ _. cell_beside o) (cell_beside 0) (λ m d _ _. by_place Beside m d len (λ _. cell_beside (len - 1)) (λ _. go (m / d) (m % d) d))
  where
    go : (q k d : ℕ) → Beside (record { near = q; far = q + 1; k = k; d = d })
    go q k d = record { low = omega arith; high = le_refl (q + 1) }

-- ---- a later output takes no earlier cells
pub record Ordered (s t : Spot) : Type 0 where
  pub near : s.near ≤ t.near
  pub far : s.far ≤ t.far

-- the cells of `spot_at`, as the least of the last cell and the place
pub place_cells : (m d len : ℕ) → ((spot_at m d len).near ≡ min (len - 1) (m / d)) × ((spot_at m d len).far ≡ min (len - 1) (m / d + 1))
place_cells m d len =
    by_place (λ (s : Spot). (s.near ≡ min (len - 1) (m / d)) × (s.far ≡ min (len - 1) (m / d + 1))) m d len (λ h. past (m / d) (len - 1) h) (λ h. before (m / d) (len - 1) h)
  where
    past : (q l : ℕ) → l ≤ q → (l ≡ min l q) × (l ≡ min l (q + 1))
    past q l h = omega arith

    before : (q l : ℕ) → q < l → (q ≡ min l q) × (q + 1 ≡ min l (q + 1))
    before q l h = omega arith

place_ordered : (m m' d len : ℕ) → 0 < d → m ≤ m' → Ordered (spot_at m d len) (spot_at m' d len)
place_ordered m m' d len z h =
    go (spot_at m d len) (spot_at m' d len) (m / d) (m' / d) (len - 1) (place_cells m d len) (place_cells m' d len) (div_mono m d m' d z z (mul-le-mul_right d h))
  where
    go : (s t : Spot) (p q l : ℕ) → (s.near ≡ min l p) × (s.far ≡ min l (p + 1)) → (t.near ≡ min l q) × (t.far ≡ min l (q + 1)) → p ≤ q → Ordered s t
    go s t p q l e f h = omega arith

sited_ordered : (siting : Siting) (num den len o o' : ℕ) → 0 < den → o ≤ o' → Ordered (sited_at siting num den len o) (sited_at siting num den len o')
unfolding sited_at
sited_ordered CoSited num den len o o' z h = place_ordered (o * num) (o' * num) den len z (mul-le-mul_right num h)
sited_ordered Centred num den len o o' z h =
    by_pick (λ (s : Spot). Ordered s (rest o')) (ltb ((2 * o + 1) * num) den) (on_cell 0) (spot_at ((2 * o + 1) * num - den) (2 * den) len) (λ _. record { near = zero-le; far = zero-le })
    (λ t. later (nltb→le ((2 * o + 1) * num) den t))
  where
    rest : ℕ → Spot
    rest i = pick_spot (ltb ((2 * i + 1) * num) den) (on_cell 0) (spot_at ((2 * i + 1) * num - den) (2 * den) len)

    less : (2 * o + 1) * num ≤ (2 * o' + 1) * num
    less = mul-le-mul_right num (omega arith)

    fewer : (a b : ℕ) → a ≤ b → a - den ≤ b - den
    fewer a b h = omega arith

    later : den ≤ (2 * o + 1) * num → Ordered (spot_at ((2 * o + 1) * num - den) (2 * den) len) (rest o')
    later l =
        by_pick (λ (t : Spot). Ordered (spot_at ((2 * o + 1) * num - den) (2 * den) len) t) (ltb ((2 * o' + 1) * num) den) (on_cell 0) (spot_at ((2 * o' + 1) * num - den) (2 * den) len)
        (λ t. absurd (not-le_of_lt (ltb→lt ((2 * o' + 1) * num) den t) (le_trans l less)))
        (λ _. place_ordered ((2 * o + 1) * num - den) ((2 * o' + 1) * num - den) (2 * den) len (omega arith) (fewer ((2 * o + 1) * num) ((2 * o' + 1) * num) less))

pub spot_ordered : (siting : Siting) (num den len o o' : ℕ) → 0 < den → o ≤ o' → Ordered (spot_of siting num den len o) (spot_of siting num den len o')
unfolding spot_of
spot_ordered siting num den len o o' z h = go (eqb num den)
  where
    go : (b : Bool) → Ordered (pick_spot b (on_cell o) (sited_at siting num den len o)) (pick_spot b (on_cell o') (sited_at siting num den len o'))
    go true = record { near = h; far = h }
    go false = sited_ordered siting num den len o o' z h

-- ---- at ratio r the output's own cell is q = o / r, and its two cells are q - 1 and q, or q and q + 1, the last cell standing for those past it
pub record Around (s : Spot) (q : ℕ) : Type 0 where
  pub low : s.near ≤ q
  pub high : q ≤ s.near + 1
  pub far : q ≤ s.far

-- the cases of a centred output, with what is known in each
pub by_centred : (P : Spot → Type 0) (num den len o : ℕ) → (num ≡ den → P (on_cell o)) → ((2 * o + 1) * num < den → P (on_cell 0)) → (den ≤ (2 * o + 1) * num → P (spot_at ((2 * o + 1) * num - den) (2 * den) len)) → P (spot_of Centred num den len o)
unfolding sited_at
by_centred P num den len o f g h =
    by_own P Centred num den len o f
    (by_pick P (ltb ((2 * o + 1) * num) den) (on_cell 0) (spot_at ((2 * o + 1) * num - den) (2 * den) len) (λ t. g (ltb→lt ((2 * o + 1) * num) den t)) (λ t. h (nltb→le ((2 * o + 1) * num) den t)))

-- and of a co-sited one
pub by_co_sited : (P : Spot → Type 0) (num den len o : ℕ) → (num ≡ den → P (on_cell o)) → P (spot_at (o * num) den len) → P (spot_of CoSited num den len o)
unfolding sited_at
by_co_sited P num den len o f g = by_own P CoSited num den len o f g

pub spot_around : (r len o : ℕ) → 0 < r → o / r < len → Around (spot_of Centred 1 r len o) (o / r)
spot_around r len o z h =
    by_centred (λ (s : Spot). Around s (o / r)) 1 r len o
    (λ e. on o (subst (λ (x : ℕ). o / x ≡ o) e (div-one o)))
    (λ l. on 0 (le_zero ((div-lt_iff_lt-mul z).1 (omega arith))))
    (λ l. go (spot_at ((2 * o + 1) * 1 - r) (2 * r) len) (((2 * o + 1) * 1 - r) / (2 * r)) (o / r) (place_cells ((2 * o + 1) * 1 - r) (2 * r) len) h (below l) (above l))
  where
    on : (i : ℕ) {q : ℕ} → q ≡ i → Around (on_cell i) q
    on i e = omega arith

    le_zero : {q : ℕ} → q < 1 → q ≡ 0
    le_zero l = omega arith

    own : o < o / r * r + r
    own = omega (arith, div-add-mod' o r, mod-lt o z)

    place : (m d : ℕ) → 0 < d → m < m / d * d + d
    place m d z = omega (arith, div-add-mod' m d, mod-lt m z)

    below : r ≤ (2 * o + 1) * 1 → ((2 * o + 1) * 1 - r) / (2 * r) ≤ o / r
    below l = le_of_suc-le-suc ((div-lt_iff_lt-mul (omega arith)).1 (go (o / r) own))
      where
        go : (q : ℕ) → o < q * r + r → (2 * o + 1) * 1 - r < suc q * (2 * r)
        go q h = omega arith

    above : r ≤ (2 * o + 1) * 1 → o / r ≤ ((2 * o + 1) * 1 - r) / (2 * r) + 1
    above l = le_of_suc-le-suc ((div-lt_iff_lt-mul z).1 (go (((2 * o + 1) * 1 - r) / (2 * r)) (place ((2 * o + 1) * 1 - r) (2 * r) (omega arith))))
      where
        go : (p : ℕ) → (2 * o + 1) * 1 - r < p * (2 * r) + 2 * r → o < suc (p + 1) * r
        go p h = omega arith

    go : (s : Spot) (p q : ℕ) → (s.near ≡ min (len - 1) p) × (s.far ≡ min (len - 1) (p + 1)) → q < len → p ≤ q → q ≤ p + 1 → Around s q
    go s p q e h a b = omega arith

-- one cell to an output: output o of n has its own cell where the cells reach over the outputs
pub own_cell : (num r n len o : ℕ) → 0 < r → n * num ≤ len * r → o < n → num ≡ r → o < len
own_cell num r n len o z h l e = let k : n ≤ len = le_of_mul-le-mul_right (subst (λ (x : ℕ). n * x ≤ len * r) e h) z in le_trans l k

-- ---- a tap is its spot's: what `tap_at` promises of it
pub tap_given : (a : Axis) (r len o : ℕ) (t : Tap) → 0 < len → (a.num ≡ r → o < len) → t ≡ tap_by a r len o → TapGiven a r len o t
unfolding tap_by
tap_given a r len o t p h e =
    let i = spot_inside a.siting a.num r len o p h in
    record { is = e; i0_inside = rw e i.near; i1_inside = rw e i.far }
