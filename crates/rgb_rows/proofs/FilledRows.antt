-- The colours that a reader's row call leaves to the kernel are the guided exact fill's, over any list that keeps the premise.
-- Demand 3 says that the finished rows are the guided rows of the current picture; luma is the picture's since the planes show it. The hard
-- step is `kernel_gets`, from rows as lists to their cells.
use Rattle.std.proofs.Common.{◌≡◌, refl, sym, ap, ◌∙◌, subst, true, List, ℕ, ◌+◌, ◌*◌, ◌≤◌, ◌<◌, arith, T, length, get_or, take, replicate, Float}
use lib.ListN.{length-replicate}
use lib.Ieee.{nan}
use Rattle.laws.specs.Refusals.{Answer, accepted}
use Rattle.laws.specs.Lists.{put, table}
use Rattle.laws.proofs.Lists.{take_put, table_at}
use Rattle.image.specs.declared.layout.Layout.{Layout}
use Rattle.image.specs.declared.layout.Range.{Range}
use Rattle.image.specs.Samples.{sample_at}
use Rattle.image.specs.declared.chroma.Chroma.{Chroma}
use Rattle.image.specs.declared.chroma.Chroma.TheVariants.{Cb, Cr}
use Rattle.image.specs.Picture.{picture_of}
use Rattle.image.specs.Scratch.{cell_at}
use Rattle.kernel_blocks.specs.Stores.{pixels}
use Rattle.kernel_blocks.proofs.Puts.{pixels_same, pixels_channel}
use Rattle.kernels.specs.declared.kernel.YcbcrKernel.TheVariants.{Exact}
use Rattle.colour_rows.specs.Colours.{colour_in}
use Rattle.guided.specs.Guided.{guided_sample, guided_row}
use Rattle.guided.specs.declared.state.Reader.{Reader}
use Rattle.guided.specs.Calls.{Reply, reader_layout, row_out, OpenCall}
use Rattle.guided.specs.Scratch.{finished_at}
use Rattle.guided.specs.Events.{Event, Start, Gives, here, later, done, Run, picture_by, given, out_of}
use Rattle.guided.proofs.Acceptance.{all_failed}
use Rattle.guided.proofs.Runs.{Gave, gave}
use Rattle.fill.specs.declared.options.ChromaUpsampling.TheVariants.{LumaGuided}
use Rattle.fill.specs.Tests.{FillCall}
use Rattle.fill.specs.Fill.{FillGiven, chroma_by, fill_colour}
use Rattle.fill.proofs.Bytes.{byte_is}
use Rattle.rgb_rows.specs.RgbRows.{Side, RgbRowCall, RgbRowGiven, RgbRows, rgb_row_tests, row_of, side_scratch, side_colour, event_of, guided_colour}
use Rattle.rgb_rows.proofs.Handed.{rgb_row_handed}
use Rattle.rgb_rows.proofs.Counted.{pick, rgb_row_ran}

pub colours : {s t : Range} {d e v w : ℕ} {b f r g : Float} → s ≡ t → d ≡ e → v ≡ w → b ≡ f → r ≡ g → colour_in s Exact d v b r ≡ colour_in t Exact e w f g
colours z p q m n = rw (z, p, q, m, n) refl

layout_is : (o : OpenCall) → o.layout ≡ (picture_by o).layout
unfolding picture_of
layout_is o = refl

-- a row that is given over a list was accepted
pub given_done : (o : OpenCall) (s : Side) (y : ℕ) (a : Answer) (r : Reader) (xs : List Float) {t : _} {es : List Event} → Gives o (event_of s y a r xs) t es → T (accepted a)
unfolding done event_of
given_done o s y a r xs (here h q) = h
given_done o s y a r xs (later g) = given_done o s y a r xs g

module _ (s : Side) (y : ℕ) (a : Answer) (r : Reader) (xs : List Float) (o : OpenCall) (es : List Event) (run : Run o (event_of s y a r xs) es) where
  know : Gave o (event_of s y a r xs)
  know = gave o (event_of s y a r xs) Start es run.ran run.premise tt run.gives

  lay : reader_layout s.reader ≡ o.layout
  unfolding event_of row_of
  lay = know.layout

  -- the reader is as wide as the current picture
  pub wide : s.reader.geometry.w ≡ o.layout.w
  unfolding reader_layout
  wide = ap (λ (l : Layout). l.w) lay

  -- what the kernel gets of component k, as a list
  gets : (k : Chroma) → take o.layout.w (row_out (row_of s y) k (replicate s.reader.geometry.w nan)) ≡ guided_row (picture_by o) k y
  unfolding given out_of event_of row_of
  gets Cb = know.is Cb
  gets Cr = know.is Cr

  abbrev got : Chroma → ℕ → Float
  got k = cell_at (side_scratch s y) (finished_at (reader_layout s.reader) k)

  abbrev room : List Float
  room = replicate s.reader.geometry.w nan

  out_is : (k : Chroma) → row_out (row_of s y) k room ≡ put room 0 s.reader.geometry.w (got k)
  unfolding row_out row_of
  out_is k = refl

  tables : (k : Chroma) → table s.reader.geometry.w (got k) ≡ guided_row (picture_by o) k y
  tables k =
      sym (take_put room s.reader.geometry.w (got k) (rw (length-replicate s.reader.geometry.w nan) (omega arith)))
      ∙ ap (take s.reader.geometry.w) (sym (out_is k))
      ∙ ap (λ (n : ℕ). take n (row_out (row_of s y) k room)) wide
      ∙ gets k

  -- is the guided row
  kernel_gets : (k : Chroma) (x : ℕ) → x < o.layout.w → got k x ≡ guided_sample (picture_by o) k y x
  unfolding guided_row picture_of
  kernel_gets k x X =
      sym (table_at s.reader.geometry.w (got k) x nan (subst (λ (n : ℕ). x < n) (sym wide) X)) ∙ ap (λ (l : List Float). get_or l x nan) (tables k) ∙ table_at o.layout.w (guided_sample (picture_by o) k y) x nan X

  pub height : y < o.layout.h
  unfolding event_of row_of
  height = know.inside

  luma_is : (x : ℕ) → x < o.layout.w → sample_at (reader_layout s.reader).sample_bytes s.planes.y y x ≡ (picture_by o).luma y x
  unfolding event_of row_of picture_of
  luma_is x X = ap (λ (l : Layout). sample_at l.sample_bytes s.planes.y y x) lay ∙ know.shows.luma x y X height

  -- so the colour is the fill's
  pub colour_is : (x : ℕ) → x < o.layout.w → side_colour s y x ≡ guided_colour o y x
  unfolding side_colour guided_colour fill_colour chroma_by
  colour_is x X = colours (ap (λ (l : Layout). l.range) (lay ∙ layout_is o)) (ap (λ (l : Layout). l.maxval) (lay ∙ layout_is o)) (luma_is x X) (kernel_gets Cb x X) (kernel_gets Cr x X)

-- the theorem
pub rgb_rows : RgbRows
rgb_rows = record {
  counts = rgb_row_ran;
  rows = λ c r s out g o es run.
      let a = given_done o c.side c.y r.answer r.reader s run.gives in
      let e : c.side.reader.geometry.w ≡ o.layout.w = wide c.side c.y r.answer r.reader s o es run in
      g.gives ∙ pick (accepted r.answer) _ c.out a
      ∙ ap (pixels c.out 0 3 (side_colour c.side c.y)) e
      ∙ pixels_same c.out 0 3 (side_colour c.side c.y) (guided_colour o c.y) o.layout.w (colour_is c.side c.y r.answer r.reader s o es run);
}

-- ---- byte for byte what `fill` leaves

-- the guided exact fill of the picture that an open made current, three bytes a pixel
abbrev pub fill_of : OpenCall → List Float → List ℕ → FillCall
fill_of o scratch out = record { layout = o.layout; planes = o.planes; upsampling = LumaGuided; kernel = Exact; size = 3; scratch = scratch; out = out }

pub fill_row : (c : RgbRowCall) (r : Reply) (s : List Float) (out : List ℕ) → RgbRowGiven c r s out
    → (o : OpenCall) (es : List Event) → Run o (event_of c.side c.y r.answer r.reader s) es
    → (scratch : List Float) (room : List ℕ) (a : Answer) (scratch' : List Float) (picture : List ℕ) → FillGiven (fill_of o scratch room) a scratch' picture → accepted a ≡ true
    → (x i : ℕ) → x < o.layout.w → i < 3 → get_or out (x * 3 + i) 0 ≡ get_or picture (c.y * (o.layout.w * 3) + x * 3 + i) 0
unfolding guided_colour reader_layout
fill_row c r s out g o es run scratch room a scratch' picture f t x i X I =
    let d = given_done o c.side c.y r.answer r.reader s run.gives in
    let h = (rgb_row_handed c (all_failed (rgb_row_tests c) r.answer g.answers d)).output in
    let e : c.side.reader.geometry.w ≡ o.layout.w = wide c.side c.y r.answer r.reader s o es run in
    let z : x * 3 + i ≡ 0 + x * 3 + i = omega arith in
    let b : 0 + o.layout.w * 3 ≤ length c.out = omega (arith, e, h) in
    ap (λ (l : List ℕ). get_or l (x * 3 + i) 0) (rgb_rows.rows c r s out g o es run)
    ∙ ap (λ (j : ℕ). get_or (pixels c.out 0 3 (guided_colour o c.y) o.layout.w) j 0) z
    ∙ pixels_channel c.out 0 3 (guided_colour o c.y) o.layout.w x i X I (omega arith) b
    ∙ sym (byte_is (fill_of o scratch room) a scratch' picture f t x c.y i X (height c.side c.y r.answer r.reader s o es run) I)
