use Rattle.guided_down.specs.Inner.Nines.{nine_from}
use Rattle.guided_down.proofs.Sixteens.{block_is}
use Rattle.guided_down.proofs.nines.put_nines.Goals as goal

pub returns : goal.returns
returns c =
    let a = c.args in
    block_is (nine_from a.pick 1 a.plane.now) a.t _ _ _ a.i _ c.put_bytes.ensures (rw c.on.ensures at c.byte_block.ensures)
