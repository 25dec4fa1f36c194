use Rattle.std.proofs.Common.{◌≡◌, ap, ◌∙◌, ℕ, ◌+◌, ◌<◌, refl, get_or, length, rules}
use Rattle.laws.specs.Floats.{f32}
use Rattle.laws.specs.Lists.{table}
use Rattle.image.specs.Samples.{sample_at, seen}
use Rattle.image.proofs.Holding.{short_holds, run_inside}
use Rattle.fround.proofs.EachLane.{gathered}
use Rattle.guided_pixels.proofs.details.Detail.lumas.Goals as goal

pub row_block-requires : goal.row_block-requires
row_block-requires c =
    let a = c.args in
    let p = c.requires.0 in
    (p.sound.bytes_some, p.sound.bytes_most, run_inside (short_holds a.layout a.layout.w a.layout.h (seen a.self.plane) p.plane) 16 a.x a.self.y c.requires.2 c.requires.1)

pub returns : goal.returns
unfolding table
returns c =
    let a = c.args in
    let y : ℕ → ℕ = λ k. sample_at a.layout.sample_bytes (seen a.self.plane) a.self.y (a.x + k) in
    let l : length c.row_block.result ≡ 16 = search rules in
    let v : c.row_block.result ≡ table 16 y = gathered 16 c.row_block.result y 0 l c.row_block.ensures in
    rw v refl
