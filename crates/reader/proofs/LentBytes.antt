-- The bytes of an open's planes are below 256: each lent plane keeps that.
use Rattle.std.proofs.Common.{List, Float}
use Rattle.image.specs.declared.layout.Layout.{Layout}
use Rattle.image.specs.declared.plane.Planes.{Planes}
use Rattle.image.specs.declared.chroma.Chroma.TheVariants.{Cb, Cr}
use Rattle.image.specs.Picture.{planes_seen}
use Rattle.guided.specs.declared.state.Reader.{Reader}
use Rattle.guided.specs.Calls.{open_call, Bytes}

pub lent_bytes : (l : Layout) (ps : Planes) (s : List Float) (r : Reader) → Bytes (open_call l (planes_seen ps) s r)
unfolding Bytes
lent_bytes l ps s r Cb i = ps.cb.fit i
lent_bytes l ps s r Cr i = ps.cr.fit i
