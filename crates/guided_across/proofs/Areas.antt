-- The luma of cells: which pixels a cell has, and that none outside the picture is looked at.
-- `cell_is` and `luma_inside` follow the definition; the work is in `byte_cell`, where pairs of bytes at ratio 2 are the samples that `luma_of` sums, place by place.
use Rattle.std.proofs.Common.{◌≡◌, refl, sym, ap, ◌∙◌, List, ℕ, ◌+◌, ◌-◌, ◌*◌, ◌/◌, ◌≤◌, ◌<◌, min, add-one, false, mul-le-mul, arith, length, get_or, Float}
use Rattle.laws.specs.Floats.{f32, ◌⊘◌}
use Rattle.laws.specs.Lists.{put}
use Rattle.laws.proofs.Lists.{put_same, put_chain}
use Rattle.image.specs.declared.layout.Layout.{Layout}
use Rattle.image.specs.Samples.{Plane, plane_of, sample_of, sample_at}
use Rattle.image.specs.Inner.Tests.{Sound}
use Rattle.image.specs.Picture.{inside, short_plane}
use Rattle.image.proofs.Layouts.{begins}
use Rattle.image.proofs.Holding.{short_holds, sample_inside, row_inside}
use Rattle.image.proofs.Pictures.{inside_is}
use Rattle.laws.specs.Sums.{sum_to}
use Rattle.guided.specs.Guided.{luma_of}
use Rattle.guided_across.specs.Inner.Luma.{LumaPixels, row_sum, cell_sum, luma_run, luma_row}
use Rattle.guided_across.specs.Inner.ByteCells.{cell_mean, cell_run}
use Rattle.laws.proofs.Sums.{sum_same}
use Rattle.laws.proofs.Counts.{plus_none, none_plus, part_rest}

-- ---- the pixels of a cell

-- a sample inside the picture lies inside the plane
pub pixel_inside : (l : Layout) (plane : List ℕ) (stride x y : ℕ) → LumaPixels l (plane_of plane stride) → x < l.w → y < l.h → y * stride + x * l.sample_bytes + l.sample_bytes ≤ length plane
pixel_inside l plane stride x y o h k = sample_inside (short_holds l l.w l.h (plane_of plane stride) o.plane) x y h k

-- a cell's luma from its sum and the number of its pixels
pub cell_is : (l : Layout) (p : Plane) (j i nx ny sum : ℕ) (v : Float) → nx ≡ min l.rh (l.w - i * l.rh) → ny ≡ min l.rv (l.h - j * l.rv)
    → sum ≡ cell_sum l p (i * l.rh) (j * l.rv) nx ny → v ≡ f32 sum ⊘ f32 (nx * ny) → v ≡ luma_of l (sample_at l.sample_bytes p) j i
unfolding luma_of cell_sum row_sum
cell_is l p j i nx ny sum v a b e k = rw (sym a, sym b) (k ∙ ap (λ (s : ℕ). f32 s ⊘ f32 (nx * ny)) e)

-- no sample outside the picture is looked at, so that the picture's samples give what the plane's do
pub luma_inside : (l : Layout) (f : ℕ → ℕ → ℕ) (j i : ℕ) → luma_of l f j i ≡ luma_of l (inside l.w l.h f) j i
unfolding luma_of
luma_inside l f j i =
    let nx = min l.rh (l.w - i * l.rh) in
    let ny = min l.rv (l.h - j * l.rv) in
    ap (λ (s : ℕ). f32 s ⊘ f32 (nx * ny))
    (sum_same ny _ _ (λ dy q. sum_same nx _ _ (λ dx r. sym (inside_is l.w l.h f (i * l.rh + dx) (j * l.rv + dy) (omega arith) (omega arith)))))

-- ---- cells of bytes at ratio 2

-- a byte as a sample
corner : (p : Plane) (x y at : ℕ) → at ≡ y * p.stride + x * 1 → get_or p.bytes at 0 ≡ sample_at 1 p y x
unfolding sample_at sample_of
corner p x y at e = ap (λ (k : ℕ). get_or p.bytes k 0) e

-- the cell's pairs of bytes are its pixels
byte_cell : (l : Layout) (p : Plane) (j i m : ℕ) → l.rh ≡ 2 → l.sample_bytes ≡ 1 → min l.rv (l.h - j * l.rv) ≡ m → i < l.w / 2
    → cell_mean p.bytes (j * l.rv * p.stride) p.stride m i ≡ luma_of l (sample_at l.sample_bytes p) j i
unfolding luma_of sum_to
byte_cell l p j i m a e n k =
    let x : min 2 (l.w - i * 2) ≡ 2 = omega arith in
    let y = j * l.rv in
    rw (n, a, e, x)
    (ap (λ (s : ℕ). f32 s ⊘ f32 (2 * m))
    (sum_same m _ _ (λ dy q. sums _ _ (sample_at 1 p (y + dy) (i * 2 + 0)) (sample_at 1 p (y + dy) (i * 2 + 1)) (corner p (i * 2 + 0) (y + dy) _ (left y p.stride dy i)) (corner p (i * 2 + 1) (y + dy) _ (right y p.stride dy i)))))
  where
    left : (y t d i : ℕ) → y * t + d * t + 2 * i ≡ (y + d) * t + (i * 2 + 0) * 1
    left y t d i = omega arith

    right : (y t d i : ℕ) → y * t + d * t + (2 * i + 1) ≡ (y + d) * t + (i * 2 + 1) * 1
    right y t d i = omega arith

    sums : (a b a' b' : ℕ) → a ≡ a' → b ≡ b' → a + b ≡ 0 + a' + b'
    sums a b a' b' p q = omega arith

pub byte_cells : (l : Layout) (p : Plane) (j m dst : ℕ) (s : List Float) → l.rh ≡ 2 → l.sample_bytes ≡ 1 → min l.rv (l.h - j * l.rv) ≡ m
    → cell_run p.bytes (j * l.rv * p.stride) p.stride m (l.w / 2) dst s ≡ luma_run l p j dst 0 (l.w / 2) s
unfolding cell_run luma_run
byte_cells l p j m dst s a e n =
    put_same s dst (l.w / 2) _ _ (λ i k. byte_cell l p j i m a e n k ∙ ap (luma_of l (sample_at l.sample_bytes p) j) (sym (none_plus i)))
    ∙ ap (λ (a : ℕ). put s a (l.w / 2) (λ i. luma_of l (sample_at l.sample_bytes p) j (0 + i))) (sym (plus_none dst))

-- no cells leave scratch as it was
pub luma_none : (l : Layout) (p : Plane) (j dst : ℕ) (s : List Float) → s ≡ luma_run l p j dst 0 0 s
unfolding luma_run put
luma_none l p j dst s = refl

-- ---- a row in parts

pub luma_parts : (l : Layout) (p : Plane) (j dst n : ℕ) (s : List Float) → n ≤ l.cw → luma_run l p j dst n (l.cw - n) (luma_run l p j dst 0 n s) ≡ luma_row l p j dst s
unfolding luma_run luma_row
luma_parts l p j dst n s h =
    let f = luma_of l (sample_at l.sample_bytes p) j in
    ap (λ (xs : List Float). put xs (dst + n) (l.cw - n) (λ i. f (n + i)))
    (ap (λ (a : ℕ). put s a n (λ i. f (0 + i))) (plus_none dst) ∙ put_same s dst n _ _ (λ i k. ap f (none_plus i)))
    ∙ put_chain s dst n (l.cw - n) f ∙ ap (λ (k : ℕ). put s dst k f) (part_rest n l.cw h)

-- ---- sums, value by value

pub sum_next : (f : ℕ → ℕ) (n t v : ℕ) → t ≡ sum_to n f → v ≡ f n → t + v ≡ sum_to (n + 1) f
unfolding sum_to
sum_next f n t v e h = rw (add-one n, e, h) refl

-- ---- what the code asks

pub cell_right : (l : Layout) → Sound l → (i : ℕ) → i < l.cw → i * l.rh < l.w
cell_right l o i h = (begins l o 0 i o.ch_some h).across

pub cell_down : (l : Layout) → Sound l → (j : ℕ) → j < l.ch → j * l.rv < l.h
cell_down l o j h = (begins l o j 0 h o.cw_some).down

pub few_pixels : (l : Layout) → Sound l → (nx ny : ℕ) → nx ≤ l.rh → ny ≤ l.rv → nx * ny ≤ 16
few_pixels l o nx ny p q =
    let a = mul-le-mul p q in
    let b = mul-le-mul o.rh_most o.rv_most in
    omega arith

-- row j of a plane of w columns and h rows
pub row_within : (l : Layout) (plane : List ℕ) (stride w h j : ℕ) → short_plane l w h (plane_of plane stride) ≡ false → j < h → j * stride + w * l.sample_bytes ≤ length plane
row_within l plane stride w h j e k = row_inside (short_holds l w h (plane_of plane stride) e) j k

-- at ratio 2 the full cells are among the row's
pub full_cells : (l : Layout) → Sound l → l.rh ≡ 2 → l.w / 2 ≤ l.cw
full_cells l o e =
    let m : l.cw * l.rh ≡ l.cw * 2 = ap (λ (k : ℕ). l.cw * k) e in
    let c = o.cells in
    omega arith
