-- Extremes in whole numbers are those in floats, and a row of them in parts.
-- `whole_is` rests on guided's law that whole samples order as floats do; the work is in `across_from`: an inner cell's neighbours are three samples in a row.
use Rattle.std.proofs.Common.{◌≡◌, refl, sym, ap, ◌∙◌, List, ℕ, ◌+◌, ◌-◌, ◌*◌, ◌≤◌, ◌<◌, min, arith, false, length, get_or, Float}
use Rattle.guided_down.specs.declared.picks.Pick.{Pick}
use Rattle.guided_down.specs.declared.picks.Pick.TheVariants.{Smaller, Greater}
use Rattle.laws.specs.Floats.{f32}
use Rattle.laws.specs.Lists.{put}
use Rattle.laws.proofs.Lists.{put_same, put_chain}
use Rattle.image.specs.declared.layout.Layout.{Layout}
use Rattle.image.specs.Samples.{Plane, plane_of, sample_of, sample_at}
use Rattle.image.specs.Picture.{short_plane}
use Rattle.image.proofs.Pictures.{sample_small}
use Rattle.guided.specs.Guided.{extreme_of}
use Rattle.guided.specs.Events.{three_n}
use Rattle.guided.proofs.Extremes.{least_of, greatest_of}
use Rattle.guided_down.specs.Inner.Extremes.{op_of, extreme_run, extreme_row, whole_extreme}
use Rattle.guided_down.specs.Inner.Nines.{whole_op, three_from, nine_from}
use Rattle.guided_window.specs.Inner.Buffers.{on}
use Rattle.guided_across.proofs.Areas.{row_within}
use Rattle.laws.proofs.Counts.{plus_plus}

-- the nine samples round a cell, as floats and as numbers
pub whole_is : (l : Layout) (p : Plane) (pick : Pick) → ((i : ℕ) → get_or p.bytes i 0 < 256) → (j i : ℕ)
    → extreme_of l (op_of pick) (sample_at l.sample_bytes p) j i ≡ f32 (whole_extreme l pick (sample_at l.sample_bytes p) j i)
unfolding whole_extreme sample_at
whole_is l p Greater small j i = greatest_of l _ j i (λ x y. sample_small l.sample_bytes p.bytes _ small)
whole_is l p Smaller small j i = least_of l _ j i (λ x y. sample_small l.sample_bytes p.bytes _ small)

steps_of : (op : ℕ → ℕ → ℕ) (a b c x y z : ℕ) → a ≡ x → b ≡ y → c ≡ z → op (op a b) c ≡ op (op x y) z
steps_of op a b c x y z p q r = rw (p, q, r) refl

module _ (l : Layout) (p : Plane) (pick : Pick) where
  -- the three cells round cell 1 + q of row r
  across_from : (r q : ℕ) → q + 2 < l.cw → three_n (whole_op pick) l.cw (λ i. sample_at l.sample_bytes p r i) (1 + q) ≡ three_from pick l.sample_bytes p.bytes (r * p.stride + q * l.sample_bytes)
  unfolding three_n three_from sample_at
  across_from r q h =
      let b = l.sample_bytes in
      let left : 1 + q - 1 ≡ q = omega arith in
      let right : min (1 + q + 1) (l.cw - 1) ≡ q + 2 = omega arith in
      let value : ℕ → ℕ = λ i. sample_of b p.bytes (r * p.stride + i * b) in
      steps_of (whole_op pick) _ _ _ _ _ _ (ap value left) (ap (sample_of b p.bytes) (place-one (r * p.stride) q b)) (ap value right ∙ ap (sample_of b p.bytes) (place-two (r * p.stride) q b))
    where
      place-one : (a q b : ℕ) → a + (1 + q) * b ≡ a + q * b + b
      place-one a q b = omega arith

      place-two : (a q b : ℕ) → a + (q + 2) * b ≡ a + q * b + 2 * b
      place-two a q b = omega arith

  -- the nine round cell 1 + q of row j
  pub inner_whole : ((i : ℕ) → get_or p.bytes i 0 < 256) → (j q : ℕ) → q + 2 < l.cw
      → extreme_of l (op_of pick) (sample_at l.sample_bytes p) j (1 + q)
      ≡ f32 (nine_from pick l.sample_bytes p.bytes (record { up = (j - 1) * p.stride + q * l.sample_bytes; at = j * p.stride + q * l.sample_bytes; down = min (j + 1) (l.ch - 1) * p.stride + q * l.sample_bytes }))
  unfolding nine_from whole_extreme three_n
  inner_whole small j q h =
      whole_is l p pick small j (1 + q) ∙ ap f32 (steps_of (whole_op pick) _ _ _ _ _ _ (across_from (j - 1) q h) (across_from j q h) (across_from (min (j + 1) (l.ch - 1)) q h))

nine_same : (pick : Pick) (plane : List ℕ) (b c u m d u' m' d' : ℕ) → b ≡ c → u ≡ u' → m ≡ m' → d ≡ d' → nine_from pick b plane (record { up = u; at = m; down = d }) ≡ nine_from pick c plane (record { up = u'; at = m'; down = d' })
nine_same pick plane b c u m d u' m' d' e p q r = rw (e, p, q, r) refl

-- a run of them between the first and the last cell; `step i` is how far cell i lies behind the first, in bytes
pub inner_are : (l : Layout) (p : Plane) (pick : Pick) (j dst b u m d : ℕ) (step : ℕ → ℕ) (s : List Float) → ((i : ℕ) → get_or p.bytes i 0 < 256) → l.sample_bytes ≡ b → ((i : ℕ) → step i ≡ i * b)
    → u ≡ (j - 1) * p.stride → m ≡ j * p.stride → d ≡ min (j + 1) (l.ch - 1) * p.stride
    → put s (dst + 1) (l.cw - 2) (λ i. f32 (nine_from pick b p.bytes (on (record { up = u; at = m; down = d }) (step i)))) ≡ extreme_run l p pick j dst 1 (l.cw - 2) s
unfolding extreme_run
inner_are l p pick j dst b u m d step s small e far x y z =
    put_same s (dst + 1) (l.cw - 2) _ _ (λ i h.
    ap f32 (nine_same pick p.bytes _ _ _ _ _ _ _ _ (sym e) (place i u _ x) (place i m _ y) (place i d _ z)) ∙ sym (inner_whole l p pick small j i (omega arith)))
  where
    place : (i a r : ℕ) → a ≡ r → a + step i ≡ r + i * l.sample_bytes
    place i a r h = rw (h, e, far i) refl

-- ---- a row in parts

module _ (l : Layout) (p : Plane) (pick : Pick) (j dst : ℕ) where
  run_chain : (from m k : ℕ) (s : List Float) → extreme_run l p pick j dst (from + m) k (extreme_run l p pick j dst from m s) ≡ extreme_run l p pick j dst from (m + k) s
  unfolding extreme_run
  run_chain from m k s =
      let f : ℕ → Float = extreme_of l (op_of pick) (sample_at l.sample_bytes p) j in
      let xs = put s (dst + from) m (λ i. f (from + i)) in
      ap (λ (a : ℕ). put xs a k (λ i. f (from + m + i))) (plus_plus dst from m)
      ∙ put_same xs (dst + from + m) k _ (λ i. f (from + (m + i))) (λ i h. ap f (sym (plus_plus from m i)))
      ∙ put_chain s (dst + from) m k (λ i. f (from + i))

  -- a whole row is the run from 0
  pub run_whole : (n : ℕ) (s : List Float) → n ≡ l.cw → extreme_run l p pick j dst 0 n s ≡ extreme_row l p pick j dst s
  unfolding extreme_run extreme_row
  run_whole n s e =
      let f : ℕ → Float = extreme_of l (op_of pick) (sample_at l.sample_bytes p) j in
      let none : dst + 0 ≡ dst = omega arith in
      ap (λ (a : ℕ). put s a n (λ i. f (0 + i))) none ∙ put_same s dst n _ f (λ i h. ap f (plus i)) ∙ ap (λ (k : ℕ). put s dst k f) e
    where
      plus : (i : ℕ) → 0 + i ≡ i
      plus i = omega arith

  -- the first cell, those between, the last
  pub run_parts : (s : List Float) → 2 ≤ l.cw
      → extreme_run l p pick j dst (l.cw - 1) 1 (extreme_run l p pick j dst 1 (l.cw - 2) (extreme_run l p pick j dst 0 1 s)) ≡ extreme_row l p pick j dst s
  run_parts s h =
      let run : ℕ → ℕ → List Float → List Float = extreme_run l p pick j dst in
      let m : 1 + (l.cw - 2) ≡ l.cw - 1 = omega arith in
      let k : 0 + (l.cw - 1) ≡ l.cw - 1 = omega arith in
      ap (run (l.cw - 1) 1) (run_chain 0 1 (l.cw - 2) s ∙ ap (λ (i : ℕ). run 0 i s) m)
      ∙ ap (λ (i : ℕ). run i 1 (run 0 (l.cw - 1) s)) (sym k)
      ∙ run_chain 0 (l.cw - 1) 1 s
      ∙ run_whole (l.cw - 1 + 1) s (omega arith)

-- the rows above, at and below chroma row j end within the plane, samples having b bytes
pub three_rows : (l : Layout) (plane : List ℕ) (stride j u d b : ℕ) → short_plane l l.cw l.ch (plane_of plane stride) ≡ false → j < l.ch → l.sample_bytes ≡ b → u ≡ j - 1 → d ≡ min (j + 1) (l.ch - 1)
    → (u * stride + l.cw * b ≤ length plane) × (j * stride + l.cw * b ≤ length plane) × (d * stride + l.cw * b ≤ length plane)
three_rows l plane stride j u d b e h q x y =
    rw (sym q) (row_within l plane stride l.cw l.ch u e (omega arith), row_within l plane stride l.cw l.ch j e h, row_within l plane stride l.cw l.ch d e (omega arith))
