-- 'Triangular (`triangular`): whole numbers.'

-- "One axis: (3·near + far + b) >> 2 with b = 1 at even and 2 at odd positions."
pub use Rattle.upsample.specs.Weights.{far, weighed, one_axis}
-- "Both axes: vertical sums 3·near + far, then the same across with b = 8 and 7 and >> 4."
pub use Rattle.upsample.specs.Triangular.{both_axes, triangular_sample, triangular_plane, TriangularGiven}
