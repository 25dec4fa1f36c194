-- 17 of document 02's request W6: "look at all samples inside the planes lent and turn the picture down if one exceeds maxval". Definitions only.
use Rattle.std.specs.Prelude.{Bool, false, ◌||◌, ℕ, zero, suc, ltb}
use Rattle.image.specs.declared.layout.Layout.{Layout}
use Rattle.image.specs.Samples.{Plane, sample_at}
use Rattle.image.specs.declared.chroma.Chroma.TheVariants.{Cb, Cr}
use Rattle.image.specs.Picture.{Picture, Planes}

-- some i below n passes
unfoldable pub any_of : ℕ → (ℕ → Bool) → Bool
any_of zero p = false
any_of (suc n) p = any_of n p || p n

-- 17 for one plane of w columns and h rows: "Padding between row end and stride is not looked at"
unfoldable pub above : Layout → ℕ → ℕ → Plane → Bool
above l w h p = any_of h (λ y. any_of w (λ x. ltb l.maxval (sample_at l.sample_bytes p y x)))

-- 17 for the three planes of a picture
unfoldable pub above_any : Layout → Planes → Bool
above_any l ps = above l l.w l.h ps.y || (above l l.cw l.ch ps.cb || above l l.cw l.ch ps.cr)

-- 17 for a picture, wherever its samples come from
unfoldable pub exceeds : Picture → Bool
exceeds p =
    let l = p.layout in
    any_of l.h (λ y. any_of l.w (λ x. ltb l.maxval (p.luma y x)))
    || (any_of l.ch (λ y. any_of l.cw (λ x. ltb l.maxval (p.chroma Cb y x)))
    || any_of l.ch (λ y. any_of l.cw (λ x. ltb l.maxval (p.chroma Cr y x))))
