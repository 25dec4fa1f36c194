-- Laws of the picture: it is made of the samples inside the planes alone, and a sample is no more than its bytes hold.
use Rattle.std.proofs.Common.{◌≡◌, refl, Bool, true, false, ◌&&◌, cond, List, ℕ, ◌+◌, ◌*◌, ◌≤◌, ◌<◌, arith, ltb, eqb, get_or, lt-ltb, ltb-true}
use Rattle.image.specs.declared.layout.Layout.{Layout}
use Rattle.image.specs.Samples.{sample_of, sample_at}
use Rattle.image.specs.declared.chroma.Chroma.{Chroma}
use Rattle.image.specs.Picture.{Picture, chroma_plane, inside, picture_of, Planes}

-- inside the picture stands the sample itself
pub inside_is : (w h : ℕ) (f : ℕ → ℕ → ℕ) (x y : ℕ) → x < w → y < h → inside w h f y x ≡ f y x
unfolding inside
inside_is w h f x y k l = rw (lt-ltb x w k, lt-ltb y h l) refl

-- samples that agree inside the picture make the same picture, whatever stands in padding and surplus
pub inside_same : (w h : ℕ) (f g : ℕ → ℕ → ℕ) → ((x y : ℕ) → x < w → y < h → f y x ≡ g y x) → (x y : ℕ) → inside w h f y x ≡ inside w h g y x
unfolding inside
inside_same w h f g e x y = go (ltb x w) (ltb-true x w) (ltb y h) (ltb-true y h)
  where
    go : (a : Bool) → (a ≡ true → x < w) → (b : Bool) → (b ≡ true → y < h) → cond (a && b) (f y x) 0 ≡ cond (a && b) (g y x) 0
    go true k true l = e x y (k refl) (l refl)
    go true k false l = refl
    go false k b l = refl

-- planes that hold the same samples inside the picture, at whatever strides
pub record Agree (l : Layout) (ps qs : Planes) : Type 0 where
  pub luma : (x y : ℕ) → x < l.w → y < l.h → sample_at l.sample_bytes ps.y y x ≡ sample_at l.sample_bytes qs.y y x
  pub chroma : (k : Chroma) (x y : ℕ) → x < l.cw → y < l.ch → sample_at l.sample_bytes (chroma_plane ps k) y x ≡ sample_at l.sample_bytes (chroma_plane qs k) y x

pub record Alike (p q : Picture) : Type 0 where
  pub layout : p.layout ≡ q.layout
  pub luma : (x y : ℕ) → p.luma y x ≡ q.luma y x
  pub chroma : (k : Chroma) (x y : ℕ) → p.chroma k y x ≡ q.chroma k y x

pub padding_unseen : (l : Layout) (ps qs : Planes) → Agree l ps qs → Alike (picture_of l ps) (picture_of l qs)
unfolding picture_of
padding_unseen l ps qs e = record {
  layout = refl;
  luma = λ x y. inside_same l.w l.h (sample_at l.sample_bytes ps.y) (sample_at l.sample_bytes qs.y) e.luma x y;
  chroma = λ k x y. inside_same l.cw l.ch (sample_at l.sample_bytes (chroma_plane ps k)) (sample_at l.sample_bytes (chroma_plane qs k)) (e.chroma k) x y;
}

-- a sample of one or two bytes is at most 65,535
pub sample_small : (bytes : ℕ) (plane : List ℕ) (at : ℕ) → ((i : ℕ) → get_or plane i 0 < 256) → sample_of bytes plane at ≤ 65535
unfolding sample_of
sample_small bytes plane at b = go (eqb bytes 1) (b at) (b (at + 1))
  where
    go : (t : Bool) → get_or plane at 0 < 256 → get_or plane (at + 1) 0 < 256 → cond t (get_or plane at 0) (get_or plane at 0 + 256 * get_or plane (at + 1) 0) ≤ 65535
    go true p q = omega arith
    go false p q = omega arith
