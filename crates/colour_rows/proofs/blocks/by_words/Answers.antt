-- Where a block lies, and what is stored with it, are laws over the pixel size (`block_place`, `block_stored`).
use Rattle.std.proofs.Common.{◌≡◌, ◌+◌, ◌*◌, ◌<◌, min, arith}
use Rattle.colour_rows.specs.Inner.Colours.{lent_row}
use Rattle.kernel_blocks.proofs.Stored.{stored_none, stored_end, block_stored}
use Rattle.colour_rows.proofs.blocks.by_words.Goals as goal

pub loop-i-init : goal.loop-i-init
loop-i-init g c = let z : min 0 c.args.lent.layout.w ≡ 0 = omega arith in rw z (stored_none _ _ _ _)

pub loop-i-preserved : goal.loop-i-preserved
loop-i-preserved g c =
    let x = c.min-x.result in
    let i = c.loop-i.i in
    let w = c.args.lent.layout.w in
    let left : i * 16 < w = omega arith in
    let e : x + 16 ≡ min ((i + 1) * 16) w = omega arith in
    let z = block_stored c.loop-i.invariant w x (omega arith) c.requires.0 (omega arith) c.requires.1 _ _ c.put_words.ensures (omega arith) c.pixels_at-rows.ensures.at in
    rw e at z.1

pub returns : goal.returns
unfolding lent_row
returns g c =
    stored_end c.loop-i.invariant _ (omega arith) (omega arith)
