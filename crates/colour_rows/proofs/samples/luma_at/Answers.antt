use Rattle.colour_rows.proofs.RowSamples.{sample_room}
use Rattle.colour_rows.proofs.samples.luma_at.Goals as goal

pub row_sample-requires : goal.row_sample-requires
row_sample-requires c =
    let s = c.args.lent.luma.shaped in (s.bytes_some, s.bytes_most, sample_room c.args.lent.luma c.args.x c.requires)
