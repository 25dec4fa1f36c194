-- Lent scratch. Definitions only.
use Rattle.std.specs.Prelude.{List, ℕ, ◌+◌, ◌*◌, Float, get_or}
use Rattle.std.specs.Float.{nan}
use Rattle.image.specs.declared.layout.Layout.{Layout}

-- "Scratch is lent f32, 32·cw + 8·w values, for open, row, fill and the linear and guided planes alike." That it is lent in full is said of the
-- slice and the layout, and not by a struct of both: each contract says what scratch held before and holds after, which would stand behind that
-- struct's field in each of them
unfoldable pub scratch_need : Layout → ℕ
scratch_need l = 32 * l.cw + 8 * l.w

-- cell i of the row that lies at src
abbrev pub cell_at : List Float → ℕ → ℕ → Float
cell_at s src i = get_or s (src + i) nan
