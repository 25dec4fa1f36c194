-- 'The chroma row': geometry, planes and scratch.

-- the picture: "sizes, ratios, sample bytes, maxval and the samples inside its planes, without padding or surplus"
pub use Rattle.image.specs.Samples.{Plane, plane_of, seen, sample_of, sample_at}
pub use Rattle.image.specs.Picture.{Picture, planes_seen, chroma_plane, picture_of}
pub use Rattle.image.specs.Picture.{Planes}
-- W7: "Reconstructed samples don't depend on the range"
pub use Rattle.image.specs.Picture.{ranged, picture_in, SameButRange}
-- part of a picture: chroma cells for a refill, pixels for the calls of crates above
pub use Rattle.image.specs.declared.rectangle.Rectangle.{Rectangle}
-- "A tap is two indices and a fraction."
pub use Rattle.taps.specs.Taps.{Spot, spot_of, tap_of}
-- W2: "a siting for each axis, centred or co-sited"
pub use Rattle.laws.specs.Axes.{plain}
pub use Rattle.taps.specs.Taps.{sited_at, tap_by}
-- "lerp(a,b,f) = a + f·(b−a), three roundings."
pub use Rattle.taps.specs.Taps.{lerp_of}
-- "The geometry keeps the phase fractions of its ratio, four at most."
pub use Rattle.taps.specs.Taps.{phase_of, phases_of}
-- the ten fractions one by one: "one for ratio 1, two for 2, three for 3, four for 4"
pub use Rattle.taps.specs.TenFractions.{ten_fractions, PhaseClaims}
-- "Scratch is lent f32, 32·cw + 8·w values"
pub use Rattle.image.specs.Scratch.{scratch_need}
