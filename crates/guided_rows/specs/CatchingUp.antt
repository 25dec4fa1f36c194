-- What the papers leave free: what scratch holds after rows a, a + 1, .. of a picture, one after another, of the components ks. Definitions only.
use Rattle.std.specs.Prelude.{List, ℕ, zero, suc, ◌+◌, ◌-◌, Float}
use Rattle.image.specs.declared.layout.Layout.{Layout}
use Rattle.image.specs.declared.chroma.Chroma.{Chroma}
use Rattle.image.specs.Picture.{Picture}
use Rattle.guided.specs.Scratch.{row_steps}
use Rattle.guided.specs.Calls.{fresh_h, fresh_f, done_h, done_f}

-- the next chroma row to sum across, before row a + n: the one that seek leaves at a, then the one that the row before leaves
unfoldable pub before_h : Layout → ℕ → ℕ → ℕ
before_h l a zero = fresh_h l a
before_h l a (suc n) = done_h l (a + n)

-- the next chroma row to finish, before row a + n: the one that seek leaves at a, then the one that the row before leaves
unfoldable pub before_f : Layout → ℕ → ℕ → ℕ
before_f l a zero = fresh_f l a
before_f l a (suc n) = done_f l (a + n)

-- scratch after row a + n, from scratch before it
unfoldable pub guided_step : Picture → List Chroma → ℕ → ℕ → List Float → List Float
guided_step p ks a n s =
    let l = p.layout in
    row_steps p ks (before_h l a n) (before_f l a n) (done_f l (a + n) - before_f l a n) (a + n) s

-- scratch after rows a, .. a + n - 1
unfoldable pub guided_rows : Picture → List Chroma → ℕ → ℕ → List Float → List Float
guided_rows p ks a zero s = s
guided_rows p ks a (suc n) s = guided_step p ks a n (guided_rows p ks a n s)
