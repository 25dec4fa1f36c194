-- Outputs between neighbouring cells: which cells and which fraction each has, shown once for any ratio and either siting.
-- The hard step is `centred_between`: output r / 2 + m lies between cells m / r and m / r + 1, by splitting m as (m / r) * r + m % r. Co-sited,
-- output m does by the definition.
use Rattle.std.proofs.Common.{◌≡◌, refl, sym, ap, ◌∙◌, List, ℕ, ◌+◌, ◌-◌, ◌*◌, ◌/◌, ◌%◌, ◌≤◌, ◌<◌, mul_comm, le_trans, div-add-mod', mod-lt, div-lt_iff_lt-mul, arith, Float, get_or, ne_eqb, le-ltb}
use lib.Arith.{digits_div, digits_mod}
use lib.Ieee.{nan}
use borrow.Author.Tests.{lt-leb}
use Rattle.laws.specs.Lists.{put}
use Rattle.laws.proofs.Lists.{put_same, put_after, put_chain}
use Rattle.laws.specs.declared.axes.Siting.{Siting}
use Rattle.laws.specs.declared.axes.Siting.TheVariants.{Centred, CoSited}
use Rattle.linear.specs.declared.rows.Row.{Row}
use Rattle.taps.specs.declared.positions.Tap.{Tap}
use Rattle.taps.specs.Taps.{lerp_of, spot_at, sited_at, spot_of, tap_on, tap_by}
use Rattle.linear.specs.Linear.{across_by}
use Rattle.linear.specs.Inner.AcrossRows.{head_of, part_of, parts_in, between_at, between_run, across_run}
use Rattle.image.specs.Scratch.{cell_at}

-- output j of pair i, as a loop that has read the pair's cells a and b stores it
pub between_is : (part : ℕ → Float) (r : ℕ) (s : List Float) (src i j m : ℕ) → j < r → m ≡ r * i + j → (a b v : Float) → a ≡ cell_at s src i → b ≡ cell_at s src (i + 1)
    → v ≡ lerp_of a b (part j) → v ≡ between_at part r s src m
between_is part r s src i j m h e a b v p q k =
    let x : m ≡ i * r + j = e ∙ ap (λ (z : ℕ). z + j) (mul_comm r i) in
    let d : m / r ≡ i = ap (λ (z : ℕ). z / r) x ∙ digits_div i h in
    let t : m % r ≡ j = ap (λ (z : ℕ). z % r) x ∙ digits_mod i h in
    rw (d, t, sym p, sym q) k

-- the outputs by an array of fractions are those by the siting
pub parts_run : (siting : Siting) (r : ℕ) (parts : List Float) → 0 < r → r ≤ 4 → ((k : ℕ) → k < 4 → parts_in parts k ≡ part_of siting r k)
    → (src n dst : ℕ) (s : List Float) → between_run (parts_in parts) r src n dst s ≡ between_run (part_of siting r) r src n dst s
unfolding between_run
parts_run siting r parts z l f src n dst s = put_same s dst (r * n) _ _ (λ i _. ap (λ (x : Float). lerp_of (cell_at s src (i / r)) (cell_at s src (i / r + 1)) x) (f (i % r) (le_trans (mod-lt i z) l)))

-- a pair's outputs, put behind those of the pairs before it, from cells that those left as they were
pub between_more : (part : ℕ → Float) (r : ℕ) (s₀ s : List Float) (src i : ℕ)
    → get_or s (src + i) nan ≡ cell_at s₀ src i → get_or s (src + i + 1) nan ≡ get_or s₀ (src + i + 1) nan
    → (k : ℕ) → k < r → lerp_of (get_or s (src + i) nan) (get_or s (src + i + 1) nan) (part k) ≡ between_at part r s₀ src (r * i + k)
between_more part r s₀ s src i p q k h =
    between_is part r s₀ src i k (r * i + k) h refl (get_or s (src + i) nan) (get_or s (src + i + 1) nan) _ p (q ∙ ap (λ (x : ℕ). get_or s₀ x nan) (next src i)) refl
  where
    next : (a i : ℕ) → a + i + 1 ≡ a + (i + 1)
    next a i = omega arith

-- over two lists whose cells are the same
pub between_same : (part : ℕ → Float) (r : ℕ) (s t : List Float) (src m : ℕ) → ((k : ℕ) → cell_at s src k ≡ cell_at t src k) → between_at part r s src m ≡ between_at part r t src m
between_same part r s t src m e = rw (e (m / r), e (m / r + 1)) refl

-- ---- the taps there

-- centred, o = r / 2 + m lies between cells m / r and m / r + 1, if there are such
centred_between : (r len m : ℕ) → 1 < r → m / r + 1 < len → spot_of Centred 1 r len (r / 2 + m) ≡ record { near = m / r; far = m / r + 1; k = 2 * (r / 2 + m % r) + 1 - r; d = 2 * r }
unfolding spot_of sited_at spot_at
centred_between r len m p h =
    let q = m / r in
    let j = m % r in
    let e : q * r + j ≡ m = div-add-mod' m r in
    let l : j < r = mod-lt m (omega arith) in
    let k : ℕ = 2 * (r / 2 + j) + 1 - r in
    let kl : k < 2 * r = small r j l in
    let x : (2 * (r / 2 + m) + 1) * 1 - r ≡ q * (2 * r) + k = whole r q j m e in
    let dv : ((2 * (r / 2 + m) + 1) * 1 - r) / (2 * r) ≡ q = ap (λ (z : ℕ). z / (2 * r)) x ∙ digits_div q kl in
    let md : ((2 * (r / 2 + m) + 1) * 1 - r) % (2 * r) ≡ k = ap (λ (z : ℕ). z % (2 * r)) x ∙ digits_mod q kl in
    rw (ne_eqb 1 r (λ (z : 1 ≡ r). omega arith), le-ltb ((2 * (r / 2 + m) + 1) * 1) r (omega arith), dv, md, lt-leb (len - 1) q (omega arith)) refl
  where
    small : (r j : ℕ) → j < r → 2 * (r / 2 + j) + 1 - r < 2 * r
    small r j l = omega arith

    whole : (r q j m : ℕ) → q * r + j ≡ m → (2 * (r / 2 + m) + 1) * 1 - r ≡ q * (2 * r) + (2 * (r / 2 + j) + 1 - r)
    whole r q j m e = omega arith

-- co-sited, o = m does
co_sited_between : (r len m : ℕ) → 1 < r → m / r + 1 < len → spot_of CoSited 1 r len (0 + m) ≡ record { near = m / r; far = m / r + 1; k = m % r; d = r }
unfolding spot_of sited_at spot_at
co_sited_between r len m p h =
    let e : (0 + m) * 1 ≡ m = omega arith in
    rw (ne_eqb 1 r (λ (z : 1 ≡ r). omega arith), e, lt-leb (len - 1) (m / r) (omega arith)) refl

between_tap : (siting : Siting) (r len m : ℕ) → 1 < r → m / r + 1 < len → tap_on (spot_of siting 1 r len (head_of siting r + m)) ≡ record { i0 = m / r; i1 = m / r + 1; f = part_of siting r (m % r) }
between_tap Centred r len m p h = ap tap_on (centred_between r len m p h)
between_tap CoSited r len m p h = ap tap_on (co_sited_between r len m p h)

-- one cell to r outputs: the outputs between n pairs of cells are those of the row behind its head
pub between_taps : (row : Row) (n : ℕ) (s : List Float) → row.axis.num ≡ 1 → 1 < row.r → n < row.cw
    → between_run (part_of row.axis.siting row.r) row.r row.src n (row.dst + head_of row.axis.siting row.r) s ≡ across_run row (head_of row.axis.siting row.r) (row.r * n) s
unfolding between_run across_run tap_by
between_taps row n s e p h =
    let r = row.r in
    let siting = row.axis.siting in
    put_same s (row.dst + head_of siting r) (r * n) _ _
    (λ i l. sym (ap (λ (t : Tap). across_by t (cell_at s row.src)) (ap (λ (num : ℕ). tap_on (spot_of siting num r row.cw (head_of siting r + i))) e ∙ between_tap siting r row.cw i p (pair i l))))
  where
    pair : (i : ℕ) → i < row.r * n → i / row.r + 1 < row.cw
    pair i l =
        let r = row.r in
        let z : 0 < r = omega arith in
        let k : i / r < n = (div-lt_iff_lt-mul z).1 (rw (mul_comm n r) l) in
        omega arith

-- ---- rows in parts

-- n outputs from `from` on and then m more are one run: the cells lie behind the row, so that the first part leaves them
pub across_chain : (row : Row) (from n m : ℕ) (s : List Float) → row.dst + from + n ≤ row.src → across_run row (from + n) m (across_run row from n s) ≡ across_run row from (n + m) s
unfolding across_run
across_chain row from n m s h =
    let tap : ℕ → Tap = tap_by row.axis row.r row.cw in
    let f : ℕ → Float = λ i. across_by (tap (from + i)) (cell_at s row.src) in
    let xs = put s (row.dst + from) n f in
    let same : (i : ℕ) → cell_at xs row.src i ≡ cell_at s row.src i = λ i. put_after s (row.dst + from) n f (row.src + i) nan (omega arith) in
    ap (λ (at : ℕ). put xs at m (λ i. across_by (tap (from + n + i)) (cell_at xs row.src))) (step row.dst from n)
    ∙ put_same xs (row.dst + from + n) m _ (λ i. f (n + i))
    (λ i l. alike (tap (from + n + i)) xs (same (tap (from + n + i)).i0) (same (tap (from + n + i)).i1) ∙ ap (λ (o : ℕ). across_by (tap o) (cell_at s row.src)) (sym (step from n i)))
    ∙ put_chain s (row.dst + from) n m f
  where
    step : (a b c : ℕ) → a + (b + c) ≡ a + b + c
    step a b c = omega arith

    alike : (t : Tap) (xs : List Float) → cell_at xs row.src t.i0 ≡ cell_at s row.src t.i0 → cell_at xs row.src t.i1 ≡ cell_at s row.src t.i1 → across_by t (cell_at xs row.src) ≡ across_by t (cell_at s row.src)
    alike t xs p q = rw (p, q) refl

-- head, pairs and what is left are the whole row
pub across_parts : (row : Row) (head pairs : ℕ) (s : List Float) → row.dst + row.w ≤ row.src → head + pairs ≤ row.w
    → across_run row (head + pairs) (row.w - (head + pairs)) (across_run row head pairs (across_run row 0 head s)) ≡ across_run row 0 row.w s
across_parts row head pairs s h k =
    let run : ℕ → ℕ → List Float → List Float = across_run row in
    let b = head + pairs in
    let rest = row.w - b in
    ap (run b rest) (ap (λ (f : ℕ). run f pairs (run 0 head s)) (zero head) ∙ across_chain row 0 head pairs s (omega arith))
    ∙ ap (λ (f : ℕ). run f rest (run 0 b s)) (zero b)
    ∙ across_chain row 0 b rest s (omega arith)
    ∙ ap (λ (n : ℕ). run 0 n s) (whole b row.w k)
  where
    zero : (n : ℕ) → n ≡ 0 + n
    zero n = omega arith

    whole : (b w : ℕ) → b ≤ w → b + (w - b) ≡ w
    whole b w k = omega arith
