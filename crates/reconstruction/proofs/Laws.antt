-- Laws about what the index names, for crates above: nothing but the names, each proved in its own crate.

-- a state that passes, and what an answer that is no refusal says of its tests
pub use Rattle.guided.proofs.Acceptance.{both, is_true, all_failed, fine}
-- a row of stored pixels: its length, its channels, what lies behind it
pub use Rattle.kernel_blocks.specs.Inner.Stores.{channel}
pub use Rattle.kernel_blocks.proofs.Puts.{length_pixels, pixels_same, after, pixels_channel}
-- a reader's row as colour: when it is accepted, how it counts in the reader's list, and whose colours it has
pub use Rattle.rgb_rows.proofs.Counted.{SideFine, pick, side_fine, side_passes, side_ran}
pub use Rattle.rgb_rows.proofs.Handed.{RgbRowHanded, rgb_row_handed}
pub use Rattle.rgb_rows.proofs.FilledRows.{given_done, wide, colour_is}
-- two pictures of one geometry and the colours of their row 1, for worked lists
pub use Rattle.rgb_rows.proofs.WorkedRows.{planes_c, open_c, open_c_answer, bytes_c, early_row, late_row}
