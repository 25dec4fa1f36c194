-- What follows of a layout that passes the tests of specs/Tests, gathered for the callers. Definitions only.
use Rattle.std.specs.Prelude.{◌≡◌, ◌*◌, ◌≤◌, ◌<◌}
use Rattle.image.specs.declared.layout.Layout.{Layout}
use Rattle.image.specs.Tests.{div_ceil}

-- what a layout is that passes them at any pair; the last six follow, and spare callers the laws of quotients
pub record Shaped (l : Layout) : Type 0 where
  pub w_some : 0 < l.w
  pub w_most : l.w ≤ 8192
  pub h_some : 0 < l.h
  pub h_most : l.h ≤ 8192
  pub rh_some : 0 < l.rh
  pub rh_most : l.rh ≤ 4
  pub rv_some : 0 < l.rv
  pub rv_most : l.rv ≤ 4
  pub across_some : 0 < l.across.num
  pub across_most : l.across.num ≤ l.rh
  pub down_some : 0 < l.down.num
  pub down_most : l.down.num ≤ l.rv
  pub bytes_some : 1 ≤ l.sample_bytes
  pub bytes_most : l.sample_bytes ≤ 2
  pub maxval_some : 0 < l.maxval
  pub maxval_most : l.maxval ≤ 65535
  pub cw_is : l.cw ≡ div_ceil (l.w * l.across.num) l.rh
  pub ch_is : l.ch ≡ div_ceil (l.h * l.down.num) l.rv
  pub cw_some : 0 < l.cw
  pub cw_most : l.cw ≤ l.w
  pub ch_some : 0 < l.ch
  pub ch_most : l.ch ≤ l.h
  pub cells : l.w * l.across.num ≤ l.cw * l.rh
  pub lines : l.h * l.down.num ≤ l.ch * l.rv

-- and at numerator 1. A fact in the contracts of 51 functions, and not a ghost field of a layout's own type: each of them would be two words
-- shorter, and some 240 places, which name a layout in those contracts or read a side in their code, would name that type's field besides
pub record Sound (l : Layout) : Type 0 where
  pub w_some : 0 < l.w
  pub w_most : l.w ≤ 8192
  pub h_some : 0 < l.h
  pub h_most : l.h ≤ 8192
  pub rh_some : 0 < l.rh
  pub rh_most : l.rh ≤ 4
  pub rv_some : 0 < l.rv
  pub rv_most : l.rv ≤ 4
  pub bytes_some : 1 ≤ l.sample_bytes
  pub bytes_most : l.sample_bytes ≤ 2
  pub maxval_some : 0 < l.maxval
  pub maxval_most : l.maxval ≤ 65535
  pub cw_is : l.cw ≡ div_ceil l.w l.rh
  pub ch_is : l.ch ≡ div_ceil l.h l.rv
  pub cw_some : 0 < l.cw
  pub cw_most : l.cw ≤ l.w
  pub ch_some : 0 < l.ch
  pub ch_most : l.ch ≤ l.h
  pub across_one : l.across.num ≡ 1
  pub down_one : l.down.num ≡ 1
  pub cells : l.w ≤ l.cw * l.rh
  pub lines : l.h ≤ l.ch * l.rv
