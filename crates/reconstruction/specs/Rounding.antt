-- 'Rounding (src/jpeg/fround.rs)'.

-- "not-a-number and anything at or below 0 give 0, anything above the limit gives the limit, the rest goes to the nearest whole number, halves up"
pub use Rattle.fround.specs.Rounding.{round_clamped}
-- "The comparison forms of `fmin` and `fmax` (x86-64) are the reference."
pub use Rattle.fround.specs.Rounding.{fmin, fmax}
