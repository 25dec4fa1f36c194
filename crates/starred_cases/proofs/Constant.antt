-- "Guided with constant chroma returns that constant.": for every picture, at every ratio.
use Rattle.std.proofs.Common.{◌≡◌, refl, ap, ◌∙◌, Bool, true, false, cond, ℕ, ◌/◌, ◌<◌, T, Float}
use lib.Ieee.{lt}
use Rattle.laws.specs.Floats.{f32}
use Rattle.laws.proofs.Order.{lt_asym}
use Rattle.image.specs.declared.chroma.Chroma.{Chroma}
use Rattle.image.specs.Picture.{Picture}
use Rattle.fround.specs.Rounding.{fmin, fmax}
use Rattle.image.specs.Inner.Tests.{Sound}
use Rattle.guided.proofs.Congruence.{three_cong}
use Rattle.guided.proofs.Taken.{own_row, own_column}
use Rattle.guided.specs.Guided.{three, extreme_of, extreme, value_of, guided_sample}

either : (b : Bool) (a : Float) → cond b a a ≡ a
either true a = refl
either false a = refl

-- whatever v is, raised to a and lowered to a it is a
limited_is : (v a : Float) → fmin (fmax v a) a ≡ a
limited_is v a = go (lt a v) (lt_asym a v)
  where
    go : (b : Bool) → (T b → lt v a ≡ false) → fmin (cond b v a) a ≡ a
    go true h = rw (h tt) refl
    go false h = either (lt a a) a

three_alike : (op : Float → Float → Float) (n : ℕ) (f g : ℕ → Float) (i : ℕ) → i < n → ((q : ℕ) → q < n → f q ≡ g q) → three op n f i ≡ three op n g i
three_alike op n f g i h e = three_cong op n f g i h (λ q b. e q b.2)

-- three and nine of one value
three_is : (op : Float → Float → Float) (a : Float) → op a a ≡ a → (n i : ℕ) → three op n (λ q. a) i ≡ a
unfolding three
three_is op a e n i = rw (e, e) refl

module _ (p : Picture) (k : Chroma) (c : ℕ) (o : Sound p.layout) (same : (i j : ℕ) → i < p.layout.cw → j < p.layout.ch → p.chroma k j i ≡ c) where
  nine_is : (op : Float → Float → Float) → op (f32 c) (f32 c) ≡ f32 c → (i j : ℕ) → i < p.layout.cw → j < p.layout.ch → extreme p op k j i ≡ f32 c
  unfolding extreme extreme_of
  nine_is op e i j I J =
      let l = p.layout in
      three_alike op l.ch (λ r. three op l.cw (λ q. f32 (p.chroma k r q)) i) (λ r. f32 c) j J
      (λ r R. three_alike op l.cw (λ q. f32 (p.chroma k r q)) (λ q. f32 c) i I (λ q Q. ap f32 (same q r Q R)) ∙ three_is op (f32 c) e l.cw i)
      ∙ three_is op (f32 c) e l.ch j

  -- the sample in column x of row y
  pub constant_kept : (y x : ℕ) → y < p.layout.h → x < p.layout.w → guided_sample p k y x ≡ f32 c
  unfolding guided_sample value_of
  constant_kept y x Y X =
      let i = x / p.layout.rh in
      let j = y / p.layout.rv in
      rw (nine_is fmin (either (lt (f32 c) (f32 c)) (f32 c)) i j (own_column p.layout o x X) (own_row p.layout o y Y), nine_is fmax (either (lt (f32 c) (f32 c)) (f32 c)) i j (own_column p.layout o x X) (own_row p.layout o y Y))
      (limited_is _ (f32 c))
