-- 'Reader': what open, seek and row are handed, what they answer and what they leave.
pub use Rattle.guided.specs.Calls.{OpenCall, open_call, SeekCall, seek_call, RowCall, row_call}
-- "After open or seek the place is that row, after a row call it is the row given."
pub use Rattle.guided.specs.Calls.{after_open, after_seek, after_row}
-- the promises
pub use Rattle.guided.specs.Calls.{Reply, reply, OpenGiven, SeekGiven, RowGiven}
-- the layout that a reader's picture was opened with
pub use Rattle.guided.specs.Calls.{reader_layout}
-- W14: "One call gives one row of RGB, guided and exact": a reader's row as colour, the reader "moved as by a row call"
pub use Rattle.rgb_rows.specs.RgbRows.{Side, side_of, RgbRowCall, rgb_row_call, side_reader, side_scratch, side_colour, RgbRowGiven}
