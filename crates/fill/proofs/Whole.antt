-- "If the old picture was the guided conversion before the change, the whole result equals the guided conversion afterwards."
-- Rows that aren't near are alike: a guided sample turns on nothing more than two cells from its own (guided-local), and what is that close wasn't changed (21).
use Rattle.std.proofs.Common.{◌≡◌, refl, sym, ap, ◌∙◌, true, false, List, ℕ, ◌/◌, ◌<◌, Float}
use Rattle.laws.specs.Refusals.{Answer, accepted}
use Rattle.laws.proofs.Refusals.{accepted_is}
use Rattle.image.specs.declared.layout.Layout.{Layout}
use Rattle.image.specs.declared.rectangle.Rectangle.{Rectangle}
use Rattle.image.specs.Inner.Tests.{Sound}
use Rattle.image.specs.Samples.{sample_at}
use Rattle.image.specs.declared.chroma.Chroma.{Chroma}
use Rattle.image.specs.declared.chroma.Chroma.TheVariants.{Cb, Cr}
use Rattle.image.specs.Picture.{chroma_plane, picture_of, SameButRange, Planes}
use Rattle.image.specs.Differences.{differs, differs_outside, other_change}
use Rattle.image.proofs.Layouts.{neither}
use Rattle.image.proofs.Pictures.{inside_is}
use Rattle.image.proofs.Blocks.{outside_alike, whole_alike}
use Rattle.guided.specs.Events.{AlikeNear}
use Rattle.guided.proofs.Locality.{guided_local}
use Rattle.kernels.specs.declared.kernel.YcbcrKernel.{YcbcrKernel}
use Rattle.fill.specs.declared.options.ChromaUpsampling.TheVariants.{LumaGuided}
use Rattle.fill.specs.Fill.{chroma_by, fill_colour, pixel_rows}
use Rattle.fill.specs.Refill.{RefillCall, RefillGiven, near_row, rows_where}
use Rattle.fill.proofs.Stored.{again}
use Rattle.fill.proofs.Near.{not_held}
use Rattle.fill.proofs.Taken.{taken}

module _ (l : Layout) (r : Rectangle) (old new : Planes) (o : Sound l) (c : other_change l r old new ≡ false) where
  luma_same : differs l l.w l.h old.y new.y ≡ false
  unfolding other_change
  luma_same = (neither (differs l l.w l.h old.y new.y) _ c).0

  chroma_same : (k : Chroma) → differs_outside l r (chroma_plane old k) (chroma_plane new k) ≡ false
  unfolding other_change
  chroma_same Cb = (neither (differs_outside l r old.cb new.cb) (differs_outside l r old.cr new.cr) (neither (differs l l.w l.h old.y new.y) _ c).1).0
  chroma_same Cr = (neither (differs_outside l r old.cb new.cb) (differs_outside l r old.cr new.cr) (neither (differs l l.w l.h old.y new.y) _ c).1).1

  luma_alike : (x y : ℕ) → x < l.w → y < l.h → (picture_of l old).luma y x ≡ (picture_of l new).luma y x
  unfolding picture_of
  luma_alike x y X Y =
      inside_is l.w l.h (sample_at l.sample_bytes old.y) x y X Y
      ∙ whole_alike l l.w l.h old.y new.y luma_same x y X Y
      ∙ sym (inside_is l.w l.h (sample_at l.sample_bytes new.y) x y X Y)

  module _ (y : ℕ) (Y : y < l.h) (n : near_row l r y ≡ false) where
    alike : (x : ℕ) → AlikeNear (picture_of l old) (picture_of l new) (y / l.rv) (x / l.rh)
    unfolding picture_of SameButRange
    alike x = record {
      layout = refl;
      luma = λ u v U W _ _. luma_alike u v U W;
      chroma = λ k i j I J _ b.
          inside_is l.cw l.ch (sample_at l.sample_bytes (chroma_plane old k)) i j I J
          ∙ outside_alike l r (chroma_plane old k) (chroma_plane new k) (chroma_same k) i j I J (not_held l r y i j n b.0 b.1)
          ∙ sym (inside_is l.cw l.ch (sample_at l.sample_bytes (chroma_plane new k)) i j I J);
    }

    -- a row that isn't near has the colours it had
    pub colour_same : (kernel : YcbcrKernel) (x : ℕ) → x < l.w → fill_colour LumaGuided kernel (picture_of l old) y x ≡ fill_colour LumaGuided kernel (picture_of l new) y x
    unfolding fill_colour chroma_by picture_of
    colour_same kernel x X =
        rw (luma_alike x y X Y, guided_local (picture_of l old) (picture_of l new) Cb y x o X Y (alike x), guided_local (picture_of l old) (picture_of l new) Cr y x o X Y (alike x)) refl

-- the whole picture
pub whole : (c : RefillCall) (answer : Answer) (scratch' : List Float) (out' : List ℕ) → RefillGiven c answer scratch' out' → accepted answer ≡ true
    → (base : List ℕ) → c.out ≡ pixel_rows c.layout.w c.size (fill_colour LumaGuided c.kernel (picture_of c.layout c.old)) 0 c.layout.h base
    → out' ≡ pixel_rows c.layout.w c.size (fill_colour LumaGuided c.kernel (picture_of c.layout c.new)) 0 c.layout.h base
whole c answer scratch' out' g a base e =
    let l = c.layout in
    let f = fill_colour LumaGuided c.kernel (picture_of l c.old) in
    let h = fill_colour LumaGuided c.kernel (picture_of l c.new) in
    let t = taken c (sym g.answers ∙ accepted_is answer a) in
    rw a at g.gives
    ∙ ap (λ (z : List ℕ). rows_where l.w c.size h (near_row l c.cells) l.h z) e
    ∙ again l.w c.size t.rest.lent.size_least f h (near_row l c.cells) l.h base (λ y Y n x X. colour_same l c.cells c.old c.new t.rest.planes.sound t.change y Y n c.kernel x X)
