-- The window of three chroma rows: which rows are held, from which counters on, and that the steps down to a picture row keep it so.
-- Rows go to slot r mod 3, so that a row put can overwrite only the row three before it, which `Win` no longer asks for. The hard step is
-- `win_down`: before a row is finished the counter across stands two past it or at the end of the plane, so that the rows above, of and below
-- it are held.
use Rattle.std.proofs.Common.{◌≡◌, refl, ◌∙◌, ◌⊎◌, inl, inr, List, ℕ, zero, suc, ◌+◌, ◌-◌, ◌≤◌, ◌<◌, min, max, add-zero, add-suc, eq-or-lt_of_le, le_of_suc-le-suc, arith, length, Float}
use Rattle.image.specs.declared.layout.Layout.{Layout}
use Rattle.image.specs.Inner.Tests.{Sound}
use Rattle.image.specs.declared.chroma.Chroma.{Chroma}
use Rattle.image.specs.Picture.{Picture}
use Rattle.guided.specs.Scratch.{horizontal, finish, across_rows, h_at, catch_up}
use Rattle.guided.specs.Calls.{top_of, last_of, fresh_h, fresh_f, done_h, done_f}
use Rattle.guided.proofs.Places.{Room}
use Rattle.guided.proofs.Taken.{taken, top_later, last_later}
use Rattle.guided.proofs.Steps.{HeldAcross, HeldDown, length_horizontal, horizontal_makes, horizontal_keeps, horizontal_down_parts, length_finish, finish_makes, finish_keeps, finish_across}

module _ (p : Picture) where
  -- `h_next` is never more than one past `f_next`, nor past the plane
  pub h_at_most : (h f n : ℕ) → h ≤ f + 1 → h ≤ p.layout.ch → (h_at p h f n ≤ f + n + 1) × (h_at p h f n ≤ p.layout.ch)
  unfolding h_at
  h_at_most h f zero A B = (omega arith, omega arith)
  h_at_most h f (suc n) A B = let ih = h_at_most h f n A B in (omega arith, omega arith)

  -- where it comes to after at least one row down
  pub h_at_end : (h f n : ℕ) → h ≤ f + 1 → h ≤ p.layout.ch → 0 < n → h_at p h f n ≡ min (f + n + 1) p.layout.ch
  unfolding h_at
  h_at_end h f zero A B N = absurd (omega arith)
  h_at_end h f (suc n) A B N = let b = h_at_most h f n A B in omega arith

module _ (p : Picture) (ks : List Chroma) where
  -- rows held: across from t - 1 up to h, the last three of them, and down from t up to f, the last two
  pub record Win (t h f : ℕ) (xs : List Float) : Type 0 where
    pub room : Room p.layout xs
    pub sums : (r : ℕ) → t ≤ r + 1 → r < h → h ≤ r + 3 → HeldAcross p ks xs r
    pub down_parts : (r : ℕ) → t ≤ r → r < f → f ≤ r + 2 → HeldDown p ks xs r

  -- after open or seek nothing is held, and nothing need be
  pub win_fresh : (t : ℕ) (xs : List Float) → Room p.layout xs → Win t (t - 1) t xs
  win_fresh t xs L = record { room = L; sums = λ r A B C. absurd (omega arith); down_parts = λ r A B C. absurd (omega arith) }

  -- a later row asks for less
  win_later : (t u h f : ℕ) (xs : List Float) → t ≤ u → Win t h f xs → Win u h f xs
  win_later t u h f xs l w = record { room = w.room; sums = λ r A B C. w.sums r (omega arith) B C; down_parts = λ r A B C. w.down_parts r (omega arith) B C }

  -- ---- rows across

  across_one : (t h f : ℕ) (xs : List Float) → Win t h f xs → Win t (suc h) f (horizontal p ks h xs)
  across_one t h f xs w = record {
    room = rw length_horizontal w.room;
    sums = λ r A B C. elim (eq-or-lt_of_le (le_of_suc-le-suc B)) [
      | inl e ↦ rw e (horizontal_makes p ks h xs w.room)
      | inr l ↦ horizontal_keeps p ks h xs r (omega arith) (w.sums r A l (omega arith))
    ];
    down_parts = λ r A B C. horizontal_down_parts p ks h xs r (w.down_parts r A B C);
  }

  win_across : (t h f n : ℕ) (xs : List Float) → Win t h f xs → Win t (h + n) f (across_rows p ks h n xs)
  unfolding across_rows
  win_across t h f zero xs w = rw add-zero w
  win_across t h f (suc n) xs w = rw add-suc (across_one t (h + n) f (across_rows p ks h n xs) (win_across t h f n xs w))

  -- ---- rows down

  down_one : (t h f : ℕ) (xs : List Float) → t ≤ f → f < p.layout.ch → h ≡ min (f + 2) p.layout.ch → Win t h f xs → Win t h (suc f) (finish p ks f xs)
  down_one t h f xs T F e w = record {
    room = rw length_finish w.room;
    sums = λ r A B C. finish_across p ks f xs r (w.sums r A B C);
    down_parts = λ r A B C. elim (eq-or-lt_of_le (le_of_suc-le-suc B)) [
      | inl d ↦ rw d (finish_makes p ks f xs w.room F (λ g b. w.sums g (omega arith) (omega arith) (omega arith)))
      | inr l ↦ finish_keeps p ks f xs r (omega arith) (w.down_parts r A l (omega arith))
    ];
  }

  win_down : (t h f n : ℕ) (xs : List Float) → t ≤ f → h ≤ f + 1 → h ≤ p.layout.ch → f + n ≤ p.layout.ch → Win t h f xs → Win t (h_at p h f n) (f + n) (catch_up p ks h f n xs)
  unfolding h_at catch_up
  win_down t h f zero xs T A B C w = rw add-zero w
  win_down t h f (suc n) xs T A B C w =
      let b = h_at_most p h f n A B in
      let k : ℕ = h_at p h f n in
      let m : ℕ = min (f + n + 2) p.layout.ch in
      let e : k + (m - k) ≡ max k m = omega arith in
      let g : k + (m - k) ≡ m = omega arith in
      rw (add-suc f n, ← e)
      (down_one t (k + (m - k)) (f + n) (across_rows p ks k (m - k) (catch_up p ks h f n xs)) (omega arith) (omega arith) g
      (win_across t k (f + n) (m - k) (catch_up p ks h f n xs) (win_down t h f n xs T A B (omega arith) w)))

  -- rows across, and rows down, keep the length
  pub length_across_rows : (j n : ℕ) (xs : List Float) → length (across_rows p ks j n xs) ≡ length xs
  unfolding across_rows
  length_across_rows j zero xs = refl
  length_across_rows j (suc n) xs = length_horizontal p ks (j + n) (across_rows p ks j n xs) ∙ length_across_rows j n xs

  pub length_catch_up : (h f n : ℕ) (xs : List Float) → length (catch_up p ks h f n xs) ≡ length xs
  unfolding catch_up
  length_catch_up h f zero xs = refl
  length_catch_up h f (suc n) xs = length_finish p ks (f + n) _ ∙ length_across_rows (h_at p h f n) _ _ ∙ length_catch_up h f n xs

-- ---- the counters

-- the counters are those that open or seek leaves at row y, or those that row leaves there
abbrev pub Counters : Layout → ℕ → ℕ → ℕ → Type 0
Counters l y h f = ((h ≡ fresh_h l y) × (f ≡ fresh_f l y)) ⊎ ((h ≡ done_h l y) × (f ≡ done_f l y))

-- what holds of them on the way from row z to row y
pub record Advance (l : Layout) (z h f y : ℕ) : Type 0 where
  pub low : top_of l z ≤ f
  pub lag : h ≤ f + 1
  pub cap : h ≤ l.ch
  pub meets : f + (done_f l y - f) ≡ done_f l y
  pub ends : done_f l y ≤ l.ch
  pub onward : top_of l z ≤ top_of l y

module _ (l : Layout) (s : Sound l) (z h f : ℕ) (Z : z < l.h) (c : Counters l z h f) (y : ℕ) (Y : y < l.h) (H : z ≤ y) where
  -- the counters go on
  pub advance : Advance l z h f y
  advance =
      let t = taken l s y Y in
      let u = taken l s z Z in
      let a = top_later l s z y H in
      let b = last_later l s z y H in
      elim c [
        | inl d ↦ record { low = omega arith; lag = omega arith; cap = omega (arith, u.order, u.inside); meets = omega (arith, t.order); ends = omega (arith, t.inside); onward = omega arith }
        | inr d ↦ record { low = omega (arith, u.order); lag = omega arith; cap = omega arith; meets = omega arith; ends = omega (arith, t.inside); onward = omega arith }
      ]

  -- with no row down, `h_next` is already there
  still : 0 ≡ done_f l y - f → h ≡ done_h l y
  still e =
      let t = taken l s y Y in
      let a = top_later l s z y H in
      let b = last_later l s z y H in
      elim c [ inl d ↦ absurd (omega (arith, t.order)) | inr d ↦ (let g : last_of l z ≡ last_of l y = omega arith in rw (← g) d.0) ]

-- where `h_next` comes to at row y
pub h_at_done : (p : Picture) → Sound p.layout → (z h f : ℕ) → z < p.layout.h → Counters p.layout z h f → (y : ℕ) → y < p.layout.h → z ≤ y → h_at p h f (done_f p.layout y - f) ≡ done_h p.layout y
unfolding h_at
h_at_done p s z h f Z c y Y H =
    let l = p.layout in
    let k = advance l s z h f Z c y Y H in
    elim (eq-or-lt_of_le (none (done_f l y - f))) [
      | inl e ↦ rw (← e) (still l s z h f Z c y Y H e)
      | inr n ↦ h_at_end p h f (done_f l y - f) k.lag k.cap n ∙ rw k.meets (omega arith)
    ]
  where
    none : (n : ℕ) → 0 ≤ n
    none n = omega arith

-- the window at row y with the counters that row leaves there
pub win_row : (p : Picture) (ks : List Chroma) → Sound p.layout → (z h f : ℕ) → z < p.layout.h → Counters p.layout z h f → (y : ℕ) → y < p.layout.h → z ≤ y → (xs : List Float) → Win p ks (top_of p.layout z) h f xs
    → Win p ks (top_of p.layout y) (done_h p.layout y) (done_f p.layout y) (catch_up p ks h f (done_f p.layout y - f) xs)
win_row p ks s z h f Z c y Y H xs w =
    let l = p.layout in
    let k = advance l s z h f Z c y Y H in
    win_later p ks (top_of l z) (top_of l y) (done_h l y) (done_f l y) (catch_up p ks h f (done_f l y - f) xs) k.onward
    (rw (h_at_done p s z h f Z c y Y H, k.meets) at (win_down p ks (top_of l z) h f (done_f l y - f) xs k.low k.lag k.cap (omega (arith, k.meets, k.ends)) w))
