-- The finished rows of chroma that a step leaves in scratch are the definition's.
-- Linear chroma is a pair of rows read back from scratch; guided chroma is `rows_finished` of guided_rows. The hard step is `linear_same`: the
-- picture has 0 where a plane has padding, and the taps never look there.
use Rattle.std.proofs.Common.{◌≡◌, refl, sym, ap, ◌∙◌, inl, inr, List, [], ◌∷◌, ℕ, suc, ◌+◌, ◌*◌, ◌≤◌, ◌<◌, add-one, arith, length, Float}
use lib.Ieee.{nan}
use Rattle.laws.proofs.Lists.{put_before}
use Rattle.image.specs.declared.layout.Layout.{Layout}
use Rattle.image.specs.Inner.Tests.{Shaped}
use Rattle.image.specs.Samples.{sample_at}
use Rattle.image.specs.declared.chroma.Chroma.{Chroma}
use Rattle.image.specs.declared.chroma.Chroma.TheVariants.{Cb, Cr}
use Rattle.image.specs.Picture.{chroma_plane, inside, picture_of, Planes}
use Rattle.image.proofs.Pictures.{inside_is}
use Rattle.taps.specs.Taps.{tap_by}
use Rattle.taps.specs.Inner.Taps.{TapGiven}
use Rattle.linear.specs.Linear.{linear_down, linear_sample, linear_row}
use Rattle.image.specs.Scratch.{scratch_need, cell_at}
use Rattle.taps.proofs.Spots.{tap_given, own_cell}
use Rattle.linear.proofs.LinearRows.{length_row, row_read}
use Rattle.guided.specs.Scratch.{finished_at}
use Rattle.guided.proofs.Held.{Has}
use Rattle.guided_rows.specs.CatchingUp.{guided_step, guided_rows}
use Rattle.guided_rows.proofs.GuidedRows.{length_step, rows_finished}
use Rattle.fill.specs.declared.options.ChromaUpsampling.{ChromaUpsampling}
use Rattle.fill.specs.declared.options.ChromaUpsampling.TheVariants.{Linear, LumaGuided}
use Rattle.fill.specs.Fill.{chroma_by, linear_pair, linear_rows, fill_scratch}
use Rattle.fill.specs.Inner.Steps.{fill_step, ChromaLent}

-- ---- linear: a sample's cells lie inside the plane, so that the picture gives the same as the plane

module _ (l : Layout) (o : Shaped l) (c d : ℕ → ℕ → ℕ) (E : (i j : ℕ) → i < l.cw → j < l.ch → c j i ≡ d j i) where
  down_same : (y i : ℕ) → y < l.h → i < l.cw → linear_down l c y i ≡ linear_down l d y i
  unfolding linear_down
  down_same y i Y I =
      let t = tap_by l.down l.rv l.ch y in
      let n : TapGiven l.down l.rv l.ch y t = tap_given l.down l.rv l.ch y t o.ch_some (own_cell l.down.num l.rv l.h l.ch y o.rv_some o.lines Y) refl in
      rw (E i t.i0 I n.i0_inside, E i t.i1 I n.i1_inside) refl

  linear_same : (y x : ℕ) → y < l.h → x < l.w → linear_sample l c y x ≡ linear_sample l d y x
  unfolding linear_sample
  linear_same y x Y X =
      let t = tap_by l.across l.rh l.cw x in
      let n : TapGiven l.across l.rh l.cw x t = tap_given l.across l.rh l.cw x t o.cw_some (own_cell l.across.num l.rh l.w l.cw x o.rh_some o.cells X) refl in
      rw (down_same y t.i0 Y n.i0_inside, down_same y t.i1 Y n.i1_inside) refl

-- ---- the two rows of a linear pair

module _ (l : Layout) (ps : Planes) (y : ℕ) (s : List Float) (L : scratch_need l ≤ length s) (x : ℕ) (X : x < l.w) where
  room : 2 * l.w ≤ length s
  unfolding scratch_need
  room = omega arith

  pair_read : (k : Chroma) → cell_at (linear_pair l ps y s) (finished_at l k) x ≡ linear_sample l (sample_at l.sample_bytes (chroma_plane ps k)) y x
  unfolding linear_pair finished_at linear_row
  pair_read Cb =
      put_before _ l.w l.w _ (0 + x) nan (omega arith)
      ∙ put_before _ (2 * l.w) l.cw _ (0 + x) nan (omega arith)
      ∙ row_read l ps.cb 0 y s x X (let r = room in omega arith)
  pair_read Cr = row_read l ps.cr l.w y (linear_row l ps.cb 0 y s) x X (let r = room in let e = length_row l ps.cb 0 y s in omega arith)

-- ---- linear or guided

-- a step keeps scratch's length
pub length_fill : (up : ChromaUpsampling) (l : Layout) (ps : Planes) (a n : ℕ) (s : List Float) → length (fill_step up l ps a n s) ≡ length s
unfolding fill_step linear_pair
length_fill Linear l ps a n s = length_row l ps.cr l.w (a + n) _ ∙ length_row l ps.cb 0 (a + n) s
length_fill LumaGuided l ps a n s = length_step (picture_of l ps) (Cb ∷ Cr ∷ []) a n s

-- and is the next of the rows from a on
next : (up : ChromaUpsampling) (l : Layout) (ps : Planes) (a n : ℕ) (s : List Float) → fill_step up l ps a n (fill_scratch up l ps a n s) ≡ fill_scratch up l ps a (suc n) s
unfolding fill_step fill_scratch linear_rows guided_rows
next Linear l ps a n s = refl
next LumaGuided l ps a n s = refl

-- ---- the loop

-- scratch after rows a, .. a + n - 1
pub record Scratched (up : ChromaUpsampling) (l : Layout) (ps : Planes) (a n : ℕ) (before after : List Float) : Type 0 where
  pub len : length after ≡ length before
  pub eq : after ≡ fill_scratch up l ps a n before

pub scratched_none : (up : ChromaUpsampling) (l : Layout) (ps : Planes) (a : ℕ) (s : List Float) → Scratched up l ps a 0 s s
unfolding fill_scratch linear_rows guided_rows
scratched_none Linear l ps a s = record { len = refl; eq = refl }
scratched_none LumaGuided l ps a s = record { len = refl; eq = refl }

module _ {up : ChromaUpsampling} {l : Layout} {ps : Planes} {a n : ℕ} {before after : List Float} (w : Scratched up l ps a n before after) where
  pub scratched_more : (t : List Float) → t ≡ fill_step up l ps a n after → Scratched up l ps a (n + 1) before t
  scratched_more t e = record {
    len = ap length e ∙ length_fill up l ps a n after ∙ w.len;
    eq = rw (add-one n) (e ∙ ap (fill_step up l ps a n) w.eq ∙ next up l ps a n before);
  }

  pub scratched_end : (m : ℕ) → n ≤ m → m ≤ n → after ≡ fill_scratch up l ps a m before
  scratched_end m h k = let e : n ≡ m = omega arith in w.eq ∙ ap (λ (i : ℕ). fill_scratch up l ps a i before) e

-- the next row's finished rows are the chroma of that row
pub chroma_is : (up : ChromaUpsampling) (l : Layout) (ps : Planes) → ChromaLent up l ps → (a n : ℕ) (before after : List Float) → Scratched up l ps a n before after → scratch_need l ≤ length before → a + n < l.h
    → (k : Chroma) (x : ℕ) → x < l.w → cell_at (fill_step up l ps a n after) (finished_at l k) x ≡ chroma_by up (picture_of l ps) k (a + n) x
unfolding fill_step chroma_by picture_of fill_scratch
chroma_is Linear l ps o a n before after w L Y k x X =
    pair_read l ps (a + n) after (rw w.len L) x X k
    ∙ sym (linear_same l o.shaped (inside l.cw l.ch (sample_at l.sample_bytes (chroma_plane ps k))) (sample_at l.sample_bytes (chroma_plane ps k)) (λ i j I J. inside_is l.cw l.ch _ i j I J) (a + n) x Y X)
chroma_is LumaGuided l ps o a n before after w L Y k x X =
    ap (λ (z : List Float). cell_at (guided_step (picture_of l ps) (Cb ∷ Cr ∷ []) a n z) (finished_at l k) x) w.eq
    ∙ rows_finished (picture_of l ps) (Cb ∷ Cr ∷ []) (o.whole refl) a before L n Y k (has k) x X
  where
    has : (k : Chroma) → Has k (Cb ∷ Cr ∷ [])
    has Cb = inl refl
    has Cr = inr (inl refl)
