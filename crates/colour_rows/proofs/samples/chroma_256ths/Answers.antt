use lib.Ieee.{of_bits, of_int}
use Rattle.colour_rows.proofs.samples.chroma_256ths.Goals as goal

pub returns : goal.returns
unfolding of_bits of_int
returns c =
    c.round_clamped_by_grid.ensures
