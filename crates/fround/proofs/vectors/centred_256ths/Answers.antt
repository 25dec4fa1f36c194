use Rattle.std.proofs.Common.{refl}
use lib.Ieee.{of_bits, of_int}
use Rattle.laws.specs.Floats.{f32, ◌⊗◌}
use Rattle.laws.specs.Lists.{table}
use Rattle.laws.proofs.Lists.{table_same}
use Rattle.fround.specs.Inner.Rounding.{clamped}
use Rattle.fround.proofs.Centring.{centred_of}
use Rattle.fround.proofs.vectors.centred_256ths.Goals as goal

pub returns : goal.returns
unfolding table of_bits of_int
returns c =
    λ f p. rw (c.grid_lanes.ensures (λ k. clamped 65536 (f k ⊗ f32 256)) (c.clamp_lanes-c.ensures (λ k. f k ⊗ f32 256) (rw p refl))) (table_same 16 _ _ (λ k h. centred_of (f k)))
