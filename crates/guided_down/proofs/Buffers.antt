-- Windows of the row buffers end within scratch and lie before every result.
use Rattle.std.proofs.Common.{ℕ, ◌+◌, ◌-◌, ◌≤◌, ◌<◌, min}
use Rattle.image.specs.declared.layout.Layout.{Layout}
use Rattle.image.specs.Scratch.{scratch_need}
use Rattle.guided.specs.Scratch.{slot_at, result_at}
use Rattle.guided_window.specs.declared.buffers.Window.{Window}
use Rattle.guided_down.specs.Inner.Slopes.{Inside, ClearOf}
use Rattle.guided.proofs.Places.{slot_fits, slot_result}

-- slot buffer n of the rows above, at and below chroma row j
abbrev pub slots : Layout → ℕ → ℕ → Window
slots l n j = record { up = slot_at l n (j - 1); at = slot_at l n j; down = slot_at l n (min (j + 1) (l.ch - 1)) }

-- its cells end within scratch
pub window_inside : (l : Layout) (n j : ℕ) → n < 7 → l.cw ≤ l.w → Inside (slots l n j) l.cw (scratch_need l)
window_inside l n j h c = record { up = slot_fits l n (j - 1) h c; at = slot_fits l n j h c; down = slot_fits l n (min (j + 1) (l.ch - 1)) h c }

-- and lie before any result
pub window_clear : (l : Layout) (m n j : ℕ) → m < 7 → ClearOf (slots l m j) (result_at l n j) l.cw
window_clear l m n j h = record { up = slot_result l m (j - 1) n j h; at = slot_result l m j n j h; down = slot_result l m (min (j + 1) (l.ch - 1)) n j h }
