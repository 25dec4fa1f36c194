-- 'Linear (`Linear`): lerp down by the tap, then across.'
pub use Rattle.linear.specs.Linear.{linear_sample, linear_plane, LinearGiven}
-- "Its float lies within 1/16 of the exact bilinear value, a fraction of whole numbers, for samples up to 65,535."
pub use Rattle.linear.specs.Bound.{Position, centred_at, co_sited_at, placed_at, exact_between, exact_num, exact_den, Sixteenth, LinearClaims}
-- W5: "When both ratios are 1, 2 or 4, the linear float equals the exact bilinear value"
pub use Rattle.linear.specs.Bound.{OneTwoFour, Equals}
