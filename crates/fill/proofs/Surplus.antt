-- "Any lent slice may be longer; its surplus is untouched": scratch after `fill` and `refill`, behind what the call needs. Out's surplus is `kept_behind` of Bytes
-- and of RefillBytes.
use Rattle.std.proofs.Common.{◌≡◌, refl, sym, ◌∙◌, List, [], ◌∷◌, ℕ, zero, suc, ◌+◌, ◌-◌, ◌≤◌, zero-le, le_refl, get_or, Float}
use lib.Ieee.{nan}
use Rattle.laws.specs.Refusals.{Answer, accepted}
use Rattle.laws.proofs.Refusals.{accepted_is}
use Rattle.image.specs.declared.chroma.Chroma.TheVariants.{Cb, Cr}
use Rattle.image.specs.declared.layout.Layout.{Layout}
use Rattle.image.specs.Picture.{picture_of, Planes}
use Rattle.image.specs.Scratch.{scratch_need}
use Rattle.image.proofs.Surplus.{SameBehind, call_behind}
use Rattle.linear.proofs.Surplus.{linear_row_behind}
use Rattle.guided_rows.proofs.GuidedRows.{rows_behind}
use Rattle.fill.specs.declared.options.ChromaUpsampling.{ChromaUpsampling}
use Rattle.fill.specs.declared.options.ChromaUpsampling.TheVariants.{Linear, LumaGuided}
use Rattle.fill.specs.Fill.{linear_pair, linear_rows, fill_scratch, FillGiven}
use Rattle.fill.specs.Tests.{FillCall}
use Rattle.fill.specs.Refill.{RefillCall, RefillGiven, near_first, near_end}
use Rattle.fill.proofs.Acceptance.{ready}
use Rattle.fill.proofs.Taken.{taken}

pairs_behind : (l : Layout) (ps : Planes) (a n : ℕ) (s : List Float) → SameBehind l s (linear_rows l ps a n s)
unfolding linear_rows linear_pair
pairs_behind l ps a zero s i h = refl
pairs_behind l ps a (suc n) s i h =
    linear_row_behind l ps.cr l.w (a + n) _ (le_refl l.w) i h ∙ linear_row_behind l ps.cb 0 (a + n) _ zero-le i h ∙ pairs_behind l ps a n s i h

chroma_behind : (up : ChromaUpsampling) (l : Layout) → l.cw ≤ l.w → (ps : Planes) (a n : ℕ) (s : List Float) → SameBehind l s (fill_scratch up l ps a n s)
unfolding fill_scratch picture_of
chroma_behind Linear l h ps a n s = pairs_behind l ps a n s
chroma_behind LumaGuided l h ps a n s = rows_behind (picture_of l ps) h (Cb ∷ Cr ∷ []) a n s

pub fill_surplus : (c : FillCall) {answer : Answer} {scratch' : List Float} {out' : List ℕ} → FillGiven c answer scratch' out'
    → (i : ℕ) → scratch_need c.layout ≤ i → get_or scratch' i nan ≡ get_or c.scratch i nan
fill_surplus c {answer} {scratch'} g =
    call_behind c.layout (accepted answer) c.scratch _ scratch' g.scratches
    (λ e. chroma_behind c.upsampling c.layout (ready c (sym g.answers ∙ accepted_is answer e)).lent.shaped.cw_most c.planes 0 c.layout.h c.scratch)

pub refill_surplus : (c : RefillCall) {answer : Answer} {scratch' : List Float} {out' : List ℕ} → RefillGiven c answer scratch' out'
    → (i : ℕ) → scratch_need c.layout ≤ i → get_or scratch' i nan ≡ get_or c.scratch i nan
refill_surplus c {answer} {scratch'} g =
    let a = near_first c.layout c.cells in
    call_behind c.layout (accepted answer) c.scratch _ scratch' g.scratches
    (λ e. chroma_behind LumaGuided c.layout (taken c (sym g.answers ∙ accepted_is answer e)).rest.lent.lent.shaped.cw_most c.new a (near_end c.layout c.cells - a) c.scratch)
