-- A value on the grid has the bits of 2 ^ 23 and n, lane by lane: it is a number, and its bits less those of 2 ^ 23 are n.
use Rattle.std.proofs.Common.{◌≡◌, not, refl, sym, ap, subst, ◌∙◌, ℕ, ◌<◌, ◌+◌, ◌-◌, ◌%◌, T, get_or, List, arith, Float}
use Rattle.std.proofs.lemmas.Simd.{Each1-get_or}
use lib.Ieee.{nan, binary32, fits, is_nan, to_bits}
use lib.Lanes.{Each1}
use Rattle.laws.specs.Lists.{table}
use Rattle.laws.proofs.Lists.{table_same, table_at}
use Rattle.fround.specs.Rounding.{fmin, fmax}
use Rattle.fround.specs.Inner.Rounding.{origin, clamped, higher}
use Rattle.fround.proofs.Centring.{higher_no_nan, bits_less}
use Rattle.fround.proofs.EachLane.{each_lane, gathered}
use Rattle.fround.proofs.vectors.rounded.Goals as goal

pub float_to_bits-result : goal.float_to_bits-result
float_to_bits-result c =
    let v = c.args.v in
    let max = c.args.max in
    let g : ℕ → Float = λ k. get_or v k nan in
    let e : c.grid_lanes.result ≡ table 16 (λ k. higher (clamped max (g k)))
    = rw c.whole.ensures at (c.grid_lanes.ensures _ (c.clamp_lanes-c.ensures g (gathered 16 v g nan c.fits-v.0 (λ k h. refl)))) in
    let number : Float → Type 0 = λ x. T (not (is_nan x)) in
    subst (Each1 number) (sym e) (each_lane number nan 16 (λ k. higher (clamped max (g k))) (λ k h. higher_no_nan max (g k) (Each1-get_or _ v k nan (omega (arith, c.fits-v.0, h)) c.fits-v.1) c.requires))

pub returns : goal.returns
unfolding table
returns c =
    λ f p.
    let v = c.args.v in
    let max = c.args.max in
    let e : c.grid_lanes.result ≡ table 16 (λ k. higher (clamped max (f k))) = rw c.whole.ensures at (c.grid_lanes.ensures (λ k. fmin (fmax (f k) origin) c.whole.result) (c.clamp_lanes-c.ensures f p)) in
    let fit : (k : ℕ) → k < 16 → T (fits binary32 (f k)) = λ k h. subst (λ (x : Float). T (fits binary32 x)) (ap (λ (w : List Float). get_or w k nan) p ∙ table_at 16 f k nan h) (Each1-get_or _ v k nan (omega (arith, c.fits-v.0, h)) c.fits-v.1) in
    rw e (table_same 16 (λ k. (to_bits binary32 (higher (clamped max (f k))) + (4294967296 - 1258291200)) % 4294967296) _ (λ k h. bits_less max (f k) (fit k h) c.requires))
