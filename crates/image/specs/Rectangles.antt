-- Rectangles of document 02: "left, top, width, height". W13 counts chroma cells with them. Definitions only.
use Rattle.std.specs.Prelude.{Bool, ◌&&◌, ◌||◌, not, ℕ, ◌+◌, leb, ltb, eqb}
use Rattle.image.specs.declared.layout.Layout.{Layout}
use Rattle.image.specs.declared.rectangle.Rectangle.{Rectangle}

-- it has no cell
unfoldable pub is_empty : Rectangle → Bool
is_empty r = eqb r.width 0 || eqb r.height 0

-- column i of row j lies in it
unfoldable pub holds_cell : Rectangle → ℕ → ℕ → Bool
holds_cell r i j = (leb r.left i && ltb i (r.left + r.width)) && (leb r.top j && ltb j (r.top + r.height))

-- 19: "A rectangle with a cell outside the chroma plane"
unfoldable pub past_cells : Layout → Rectangle → Bool
past_cells l r = not (is_empty r) && (ltb l.cw (r.left + r.width) || ltb l.ch (r.top + r.height))
