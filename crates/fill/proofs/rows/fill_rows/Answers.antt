use Rattle.std.proofs.Common.{◌∙◌, ◌+◌, ◌*◌, arith}
use Rattle.fill.proofs.Chroma.{scratched_none, scratched_more, scratched_end}
use Rattle.fill.proofs.Painted.{painted_none, painted_more, painted_end, row_is}
use Rattle.image.specs.Picture.{planes_seen}
use Rattle.fill.proofs.rows.fill_rows.Goals as goal

pub loop-n-init : goal.loop-n-init
loop-n-init c =
    (painted_none _ _ _ _ _, scratched_none _ _ _ _ _)

pub fill_row-requires : goal.fill_row-requires
fill_row-requires c =
    let l = c.loop-n in
    let p = c.requires in
    let f = p.fill_lent in
    record { fill_lent = record { lent = f.lent; size_least = f.size_least; size_most = f.size_most; scratch = rw l.invariant.1.len f.scratch; output = rw l.invariant.0.len f.output }; n_bound = omega arith }

pub loop-n-preserved : goal.loop-n-preserved
loop-n-preserved c =
    let q = c.args in
    let i = c.loop-n in
    let r = c.fill_row.ensures in
    let f = c.requires.fill_lent in (
      painted_more i.invariant.0 _ (r.out_after ∙ row_is q.upsampling q.kernel q.layout (planes_seen q.planes) f.lent q.a i.n q.s.now i.s i.invariant.1 f.scratch (omega arith) ((q.a + i.n) * (q.layout.w * q.size)) q.size i.out),
      scratched_more i.invariant.1 _ r.s_after,
    )

pub shape_of-s : goal.shape_of-s
shape_of-s c =
    c.loop-n.invariant.1.len

pub shape_of-out : goal.shape_of-out
shape_of-out c =
    c.loop-n.invariant.0.len

pub returns : goal.returns
returns c =
    let i = c.loop-n.invariant in
    record { out_after = painted_end i.0 _ (omega arith) (omega arith); s_after = scratched_end i.1 _ (omega arith) (omega arith) }
