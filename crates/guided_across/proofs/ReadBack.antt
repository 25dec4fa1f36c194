-- Rows that scratch holds are read back as they were put, so that the code's steps are the definition's.
-- `Row` is what scratch holds at a place, and `row_kept` carries it over stores behind it. The hard step is `chroma_across_is`: products read luma's row, put before.
use Rattle.std.proofs.Common.{◌≡◌, refl, sym, ap, ◌∙◌, List, ℕ, ◌+◌, ◌*◌, ◌≤◌, ◌<◌, arith, lit<, length, Float}
use lib.Ieee.{nan}
use Rattle.laws.specs.Floats.{f32, ◌⊕◌, ◌⊗◌}
use Rattle.laws.specs.Lists.{put}
use Rattle.laws.proofs.Lists.{put_same, put_inside, put_before}
use Rattle.image.specs.declared.layout.Layout.{Layout}
use Rattle.image.specs.Samples.{Plane, sample_at}
use Rattle.image.specs.declared.chroma.Chroma.{Chroma}
use Rattle.image.specs.declared.chroma.Chroma.TheVariants.{Cb, Cr}
use Rattle.image.specs.Picture.{Picture, chroma_plane, picture_of, Planes}
use Rattle.image.proofs.Pictures.{inside_is}
use Rattle.image.specs.Scratch.{scratch_need, cell_at}
use Rattle.guided.specs.Guided.{three, luma_of, cell_luma, cell_of, across_val}
use Rattle.guided.specs.Scratch.{slot_at, first_of, chroma_parts, parts, across_over, horizontal}
use Rattle.guided_across.specs.Inner.Sums.{load_run, cells_at, products_at, three_row}
use Rattle.guided_across.specs.Inner.Luma.{luma_row}
use Rattle.guided_across.specs.Inner.Parts.{stat_rows, pair_rows, luma_part, chroma_part}
use Rattle.image.specs.declared.chroma.Components.TheVariants.{CbAlone, Both}
use Rattle.guided_window.specs.Inner.Lent.{components_of}
use Rattle.guided_across.proofs.Threes.{three_same}
use Rattle.guided_across.proofs.Areas.{luma_inside}
use Rattle.guided.proofs.Places.{Room, slot_fits, slot_order}

-- ---- a row that scratch holds

-- the n cells at `at` are f
pub record Row (s : List Float) (at n : ℕ) (f : ℕ → Float) : Type 0 where
  pub reads : (i : ℕ) → i < n → cell_at s at i ≡ f i

pub row_itself : (s : List Float) (at n : ℕ) → Row s at n (cell_at s at)
row_itself s at n = record { reads = λ i h. refl }

pub row_put : (s : List Float) (at n : ℕ) (f : ℕ → Float) → at + n ≤ length s → Row (put s at n f) at n f
row_put s at n f l = record { reads = λ i h. put_inside s at n f i nan h l }

-- what is put behind it leaves it
pub row_kept : {s : List Float} {at n : ℕ} {f : ℕ → Float} → Row s at n f → (dst m : ℕ) (g : ℕ → Float) → at + n ≤ dst → Row (put s dst m g) at n f
row_kept {s} {at} {n} o dst m g l = record { reads = λ i h. put_before s dst m g (at + i) nan (omega arith) ∙ o.reads i h }

-- sums of such rows
pub sums_are : {s : List Float} {src n : ℕ} {f : ℕ → Float} → Row s src n f → (dst : ℕ) → three_row (cells_at src) n dst s ≡ put s dst n (three ◌⊕◌ n f)
unfolding three_row
sums_are {s} {src} {n} {f} o dst = put_same s dst n _ _ (λ i h. three_same ◌⊕◌ n (cell_at s src) f i h o.reads)

alike : {x x' y y' : Float} → x ≡ x' → y ≡ y' → x ⊗ y ≡ x' ⊗ y'
alike p q = rw (p, q) refl

pub products_are : {s : List Float} {a b n : ℕ} {f g : ℕ → Float} → Row s a n f → Row s b n g → (dst : ℕ) → three_row (products_at a b) n dst s ≡ put s dst n (three ◌⊕◌ n (λ i. f i ⊗ g i))
unfolding three_row
products_are {s} {a} {b} {n} {f} {g} o p dst =
    put_same s dst n _ _ (λ i h. three_same ◌⊕◌ n (products_at a b s) (λ i. f i ⊗ g i) i h (λ k l. alike (o.reads k l) (p.reads k l)))

-- ---- luma's three buffers, and a component's two

pub luma_steps : (l : Layout) (p : Plane) (j y sums squares : ℕ) (s : List Float) → y ≡ slot_at l 0 j → sums ≡ slot_at l 1 j → squares ≡ slot_at l 2 j → l.cw ≤ l.w → scratch_need l ≤ length s
    → three_row (products_at y y) l.cw squares (three_row (cells_at y) l.cw sums (luma_row l p j y s)) ≡ luma_part l (sample_at l.sample_bytes p) j s
unfolding luma_row luma_part stat_rows
luma_steps l p j y sums squares s a b d c h =
    let f = luma_of l (sample_at l.sample_bytes p) j in
    let within = slot_fits l 0 j (lit< tt) c in
    let fits : y + l.cw ≤ length s = omega arith in
    let behind = slot_order l 0 1 j (omega arith) in
    let cells = row_put s y l.cw f fits in
    let kept = row_kept cells sums l.cw (three ◌⊕◌ l.cw f) (omega arith) in
    ap (three_row (products_at y y) l.cw squares) (sums_are cells sums) ∙ products_are kept kept squares
    ∙ rw (a, b, d) refl

-- the products read the row at y, which lies before the component's buffers
pub chroma_steps : (l : Layout) (p : Plane) (k : Chroma) (j n y c products : ℕ) (s : List Float) → n ≡ first_of k → y ≡ slot_at l 0 j → c ≡ slot_at l n j → products ≡ slot_at l (n + 1) j
    → y + l.cw ≤ c → c + l.cw ≤ length s
    → three_row (products_at y c) l.cw products (load_run p.bytes l.sample_bytes (j * p.stride) l.cw c s) ≡ chroma_part l (sample_at l.sample_bytes p) k j s
unfolding load_run chroma_part pair_rows sample_at
chroma_steps l p k j n y c products s e a b d before fits =
    let f : ℕ → Float = λ i. f32 (sample_at l.sample_bytes p j i) in
    products_are (row_kept (row_itself s y l.cw) c l.cw f before) (row_put s c l.cw f fits) products
    ∙ rw (d, b, a, e) refl

-- ---- the definition's rows

module _ (l : Layout) (j : ℕ) (s : List Float) where
  abbrev place : ℕ → ℕ
  place n = slot_at l n j

  stat_same : (f g : ℕ → Float) → ((i : ℕ) → i < l.cw → f i ≡ g i) → stat_rows l f j s ≡ stat_rows l g j s
  unfolding stat_rows
  stat_same f g p =
      let cw = l.cw in
      ap (λ (xs : List Float). put (put xs (place 1) cw (three ◌⊕◌ cw f)) (place 2) cw (three ◌⊕◌ cw (λ i. f i ⊗ f i))) (put_same s (place 0) cw f g p)
      ∙ ap (λ (xs : List Float). put xs (place 2) cw (three ◌⊕◌ cw (λ i. f i ⊗ f i))) (put_same (put s (place 0) cw g) (place 1) cw (three ◌⊕◌ cw f) (three ◌⊕◌ cw g) (λ i d. three_same ◌⊕◌ cw f g i d p))
      ∙ put_same (put (put s (place 0) cw g) (place 1) cw (three ◌⊕◌ cw g)) (place 2) cw (three ◌⊕◌ cw (λ i. f i ⊗ f i)) (three ◌⊕◌ cw (λ i. g i ⊗ g i))
      (λ i d. three_same ◌⊕◌ cw (λ i. f i ⊗ f i) (λ i. g i ⊗ g i) i d (λ q b. alike (p q b) (p q b)))

  pair_same : (k : Chroma) (f g h m : ℕ → Float) → ((i : ℕ) → i < l.cw → f i ≡ g i) → ((i : ℕ) → i < l.cw → h i ≡ m i) → pair_rows l k f h j s ≡ pair_rows l k g m j s
  unfolding pair_rows
  pair_same k f g h m p q =
      let cw = l.cw in
      ap (λ (xs : List Float). put xs (place (first_of k + 1)) cw (three ◌⊕◌ cw h)) (put_same s (place (first_of k)) cw f g p)
      ∙ put_same (put s (place (first_of k)) cw g) (place (first_of k + 1)) cw (three ◌⊕◌ cw h) (three ◌⊕◌ cw m) (λ i d. three_same ◌⊕◌ cw h m i d q)

  -- luma's cells are read back, and a component's rows behind them leave them
  stat_row : (f : ℕ → Float) → place 0 + l.cw ≤ length s → Row (stat_rows l f j s) (place 0) l.cw f
  unfolding stat_rows
  stat_row f d =
      row_kept (row_kept (row_put s (place 0) l.cw f d) (place 1) l.cw (three ◌⊕◌ l.cw f) (slot_order l 0 1 j (omega arith)))
      (place 2) l.cw (three ◌⊕◌ l.cw (λ i. f i ⊗ f i)) (slot_order l 0 2 j (omega arith))

  pair_kept : (k : Chroma) (f h g : ℕ → Float) → 0 < first_of k → Row s (place 0) l.cw g → Row (pair_rows l k f h j s) (place 0) l.cw g
  unfolding pair_rows
  pair_kept k f h g d o =
      row_kept (row_kept o (place (first_of k)) l.cw f (slot_order l 0 (first_of k) j d)) (place (first_of k + 1)) l.cw (three ◌⊕◌ l.cw h) (slot_order l 0 (first_of k + 1) j (omega arith))

-- a picture's rows across, as the definition puts them
module _ (l : Layout) (ps : Planes) (j : ℕ) where
  abbrev picture : Picture
  picture = picture_of l ps

  abbrev luma : ℕ → Float
  luma i = cell_luma picture j i

  luma_across : List Float → List Float
  luma_across = stat_rows l luma j

  chroma_across : Chroma → List Float → List Float
  chroma_across k = pair_rows l k (λ i. cell_of picture k j i) (λ i. luma i ⊗ cell_of picture k j i) j

  luma_across_is : (s : List Float) → luma_part l (sample_at l.sample_bytes ps.y) j s ≡ luma_across s
  unfolding luma_part luma_across cell_luma picture_of
  luma_across_is s =
      let f = sample_at l.sample_bytes ps.y in
      stat_same l j s (luma_of l f j) luma (λ i h. luma_inside l f j i)

  chroma_across_is : (k : Chroma) (s : List Float) → j < l.ch → Row s (slot_at l 0 j) l.cw luma → chroma_part l (sample_at l.sample_bytes (chroma_plane ps k)) k j s ≡ chroma_across k s
  unfolding chroma_part chroma_across cell_of picture_of
  chroma_across_is k s d o =
      let c = sample_at l.sample_bytes (chroma_plane ps k) in
      let same : (i : ℕ) → i < l.cw → f32 (c j i) ≡ cell_of picture k j i = λ i h. ap f32 (sym (inside_is l.cw l.ch c i j h d)) in
      pair_same l j s k (λ i. f32 (c j i)) (λ i. cell_of picture k j i) (λ i. cell_at s (slot_at l 0 j) i ⊗ f32 (c j i)) (λ i. luma i ⊗ cell_of picture k j i) same
      (λ i h. alike (o.reads i h) (same i h))

  -- luma's row is there for the components
  luma_row_is : (s : List Float) → Room l s → Row (luma_across s) (slot_at l 0 j) l.cw luma
  unfolding luma_across
  luma_row_is s h = stat_row l j s luma (let f = slot_fits l 0 j (lit< tt) h.1 in omega (arith, h.0))

  luma_kept : (s : List Float) → Row s (slot_at l 0 j) l.cw luma → Row (chroma_across Cb s) (slot_at l 0 j) l.cw luma
  unfolding chroma_across
  luma_kept s o = pair_kept l j s Cb (λ i. cell_of picture Cb j i) (λ i. luma i ⊗ cell_of picture Cb j i) luma (lit< tt) o

  one_is : (s : List Float) → chroma_across Cb (luma_across s) ≡ horizontal picture (components_of CbAlone) j s
  unfolding chroma_across luma_across stat_rows pair_rows horizontal parts chroma_parts across_over across_val picture_of
  one_is s = refl

  pub horizontal_one : (s : List Float) → j < l.ch → Room l s
      → chroma_part l (sample_at l.sample_bytes ps.cb) Cb j (luma_part l (sample_at l.sample_bytes ps.y) j s) ≡ horizontal picture (components_of CbAlone) j s
  horizontal_one s d h =
      ap (chroma_part l (sample_at l.sample_bytes ps.cb) Cb j) (luma_across_is s) ∙ chroma_across_is Cb (luma_across s) d (luma_row_is s h) ∙ one_is s

  both_is : (s : List Float) → chroma_across Cr (chroma_across Cb (luma_across s)) ≡ horizontal picture (components_of Both) j s
  unfolding chroma_across luma_across stat_rows pair_rows horizontal parts chroma_parts across_over across_val picture_of
  both_is s = refl

  pub horizontal_both : (s : List Float) → j < l.ch → Room l s
      → chroma_part l (sample_at l.sample_bytes ps.cr) Cr j (chroma_part l (sample_at l.sample_bytes ps.cb) Cb j (luma_part l (sample_at l.sample_bytes ps.y) j s))
      ≡ horizontal picture (components_of Both) j s
  horizontal_both s d h =
      ap (λ (xs : List Float). chroma_part l (sample_at l.sample_bytes ps.cr) Cr j (chroma_part l (sample_at l.sample_bytes ps.cb) Cb j xs)) (luma_across_is s)
      ∙ ap (chroma_part l (sample_at l.sample_bytes ps.cr) Cr j) (chroma_across_is Cb (luma_across s) d (luma_row_is s h))
      ∙ chroma_across_is Cr (chroma_across Cb (luma_across s)) d (luma_kept (luma_across s) (luma_row_is s h)) ∙ both_is s
