-- What `read` gives where it accepts an input: a centred layout that passes refusals 2 to 5, and three planes whose rows lie in a list, one plane
-- behind another. Definitions only.
use Rattle.std.specs.Prelude.{◌≡◌, false, List, ℕ, ◌+◌, ◌*◌, ◌≤◌, length, Ok}
use Rattle.laws.specs.Refusals.{first}
use Rattle.image.specs.Tests.{bad_siting, layout_tests}
use Rattle.netpbm.specs.declared.reading.Reading.{Reading}

-- the planes of what was read begin at its y, cb and cr in s, which is the input or as long as an input may be
pub record Taken (s : List ℕ) (r : Reading) : Type 0 where
  pub short : length s ≤ 49152
  pub passes : first (layout_tests false r.layout) ≡ Ok tt
  pub centred : bad_siting r.layout ≡ false
  pub width : r.layout.w ≤ 128
  pub y_rows : r.y + r.layout.w * r.layout.h * r.layout.sample_bytes ≤ r.cb
  pub cb_rows : r.cb + r.layout.cw * r.layout.ch * r.layout.sample_bytes ≤ r.cr
  pub cr_rows : r.cr + r.layout.cw * r.layout.ch * r.layout.sample_bytes ≤ length s
