use lib.Ieee.{of_bits, of_int}
use Rattle.colour_rows.proofs.pixels.scaled_chroma.Goals as goal

pub returns : goal.returns
unfolding of_bits of_int
returns c =
    c.round_clamped_by_bits.ensures
