-- What an accepted blend was handed: each side is fine for its row call, and both are equally wide, so that neither row call is refused.
use Rattle.std.proofs.Common.{◌≡◌, sym, ap, ◌∙◌, ℕ, ◌*◌, ◌≤◌, leb, ltb, length, ltb-false}
use Rattle.laws.proofs.Limits.{neither}
use Rattle.laws.proofs.Refusals.{Failed}
use Rattle.image.specs.Picture.{bad_planes}
use Rattle.image.specs.Scratch.{scratch_need}
use Rattle.guided.specs.Calls.{reader_layout, bad_state}
use Rattle.reconstruction.proofs.Laws.{SideFine}
use Rattle.colorimetry.specs.Blends.{BlendCall, blend_tests}
use Rattle.colorimetry.proofs.Settling.{same_sizes, like}

pub record BlendHanded (c : BlendCall) : Type 0 where
  pub early : SideFine c.early c.y
  pub late : SideFine c.late c.y
  pub light : c.weight ≤ 16
  pub output : c.early.reader.geometry.w * 3 ≤ length c.out
  pub wide : c.early.reader.geometry.w ≡ c.late.reader.geometry.w

pub blend_handed : (c : BlendCall) → Failed (blend_tests c) → BlendHanded c
unfolding blend_tests reader_layout
blend_handed c f =
    let e = c.early.reader in
    let l = c.late.reader in
    let n = neither (bad_state e) (bad_state l) f.0 in
    let m = like e.geometry l.geometry c.weight f.1.0 in
    let z = same_sizes e.geometry l.geometry m.0 in
    let p = neither (bad_planes (reader_layout e) c.early.planes) (bad_planes (reader_layout l) c.late.planes) f.1.1.0 in
    let k = neither (ltb (length c.early.scratch) (scratch_need (reader_layout e))) (ltb (length c.late.scratch) (scratch_need (reader_layout l))) f.1.1.1.0 in
    let d = neither (ltb c.y e.place) (ltb c.y l.place) f.1.1.1.1.1.1.0 in
    let i = f.1.1.1.1.1.0 in
    record {
      early = record { state = n.0; planes = p.0; room = k.0; inside = i; onward = d.0 };
      late = record { state = n.1; planes = p.1; room = k.1; inside = ap (λ (h : ℕ). leb h c.y) (sym z.1) ∙ i; onward = d.1 };
      light = ltb-false 16 c.weight m.1;
      output = ltb-false (length c.out) (e.geometry.w * 3) f.1.1.1.1.0;
      wide = z.0;
    }
