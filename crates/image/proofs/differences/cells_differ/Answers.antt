-- The rectangle is trimmed first, so that the four parts round it lie in the planes.
use Rattle.image.specs.declared.layout.Layout.{Layout}
use Rattle.image.specs.declared.rectangle.Rectangle.{Rectangle}
use Rattle.image.specs.Rectangles.{past_cells}
use Rattle.image.specs.Inner.Differences.{InCells, trimmed_of}
use Rattle.image.specs.Samples.{seen}
use Rattle.image.proofs.Blocks.{trimmed_in, parts_are, first_says, second_says}
use Rattle.std.proofs.Common.{◌≡◌, false}
use Rattle.image.proofs.differences.cells_differ.Goals as goal

inner : (l : Layout) (cells t : Rectangle) → past_cells l cells ≡ false → t ≡ trimmed_of cells → InCells l t
inner l cells t e q = rw q (trimmed_in l cells e)

pub rows_differ-rows-requires : goal.rows_differ-rows-requires
rows_differ-rows-requires c = (c.requires.0, c.requires.1, c.requires.2, inner _ _ _ c.requires.3 c.trimmed-inner.ensures)

pub sides_differ-sides-requires : goal.sides_differ-sides-requires
sides_differ-sides-requires c = (c.requires.0, c.requires.1, c.requires.2, inner _ _ _ c.requires.3 c.trimmed-inner.ensures)

pub returns-then-rows : goal.returns-then-rows
returns-then-rows c =
    let a = c.args in
    first_says _ _ _ c.if-rows.true (parts_are a.layout a.cells _ (seen a.p) (seen a.q) _ _ c.requires.3 c.trimmed-inner.ensures c.rows_differ-rows.ensures c.sides_differ-sides.ensures)

pub returns-else-rows : goal.returns-else-rows
returns-else-rows c =
    let a = c.args in
    second_says _ _ _ c.if-rows.false (parts_are a.layout a.cells _ (seen a.p) (seen a.q) _ _ c.requires.3 c.trimmed-inner.ensures c.rows_differ-rows.ensures c.sides_differ-sides.ensures)
