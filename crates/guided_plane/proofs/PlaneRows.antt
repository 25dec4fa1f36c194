-- A guided plane's rows, rounded out of scratch, and what an accepted call may rely on.
use Rattle.std.proofs.Common.{◌≡◌, refl, ap, ◌∙◌, inl, false, List, [], ◌∷◌, ℕ, ◌+◌, ◌*◌, ◌≤◌, ◌<◌, arith, length, Float, ltb-false, Ok}
use Rattle.laws.specs.Lists.{put}
use Rattle.laws.specs.Refusals.{first}
use Rattle.laws.proofs.Lists.{put_same}
use Rattle.laws.proofs.Refusals.{accepted_failed, failed_both}
use Rattle.image.specs.declared.chroma.Components.TheVariants.{CbAlone}
use Rattle.image.specs.declared.layout.Layout.{Layout}
use Rattle.image.specs.Tests.{layout_tests}
use Rattle.image.specs.Inner.Tests.{Sound}
use Rattle.image.specs.Samples.{Plane}
use Rattle.image.specs.declared.chroma.Chroma.TheVariants.{Cb}
use Rattle.image.specs.Picture.{Picture, short_plane}
use Rattle.image.proofs.Layouts.{neither, sound}
use Rattle.fround.specs.Rounding.{round_clamped}
use Rattle.image.specs.Scratch.{scratch_need}
use Rattle.linear.specs.Inner.Stores.{store_run}
use Rattle.guided.specs.Guided.{guided_sample}
use Rattle.guided.specs.Scratch.{finished_at}
use Rattle.guided_window.specs.Inner.Lent.{Lent}
use Rattle.guided_plane.specs.Plane.{planes_with, short_pair, guided_tests}
use Rattle.guided_rows.proofs.GuidedRows.{Advanced, advanced_row}
use Rattle.guided.proofs.Runs.{after}
use Rattle.guided_rows.specs.CatchingUp.{guided_step}

-- the next row, as it is rounded out of scratch
pub stored_is : (p : Picture) → Sound p.layout → (y at : ℕ) (before after : List Float) (out : List ℕ) → Advanced p (Cb ∷ []) 0 y before after → scratch_need p.layout ≤ length before → y < p.layout.h
    → store_run (guided_step p (Cb ∷ []) 0 y after) 0 p.layout.w p.layout.maxval at out ≡ put out at p.layout.w (λ x. round_clamped p.layout.maxval (guided_sample p Cb y x))
unfolding store_run finished_at
stored_is p s y at before after out w L Y =
    let e : 0 + y ≡ y = omega arith in
    put_same out at p.layout.w _ _ (λ x X. ap (round_clamped p.layout.maxval) (advanced_row w s L (omega arith) Cb (inl refl) x X ∙ ap (λ (n : ℕ). guided_sample p Cb n x) e))

-- ---- acceptance

-- what an accepted call may rely on
pub ready : (l : Layout) (y c : Plane) (space room : ℕ) → first (guided_tests l y c space room) ≡ Ok tt → Lent l (planes_with y c) CbAlone × ((scratch_need l ≤ space) × (l.w * l.h ≤ room))
unfolding guided_tests short_pair
ready l y c space room e =
    let f = failed_both (layout_tests false l) _ (accepted_failed (guided_tests l y c space room) e) in
    let n = neither (short_plane l l.w l.h y) (short_plane l l.cw l.ch c) f.1.1.0 in
    (record { sound = sound false l f.0; luma = n.0; cb = n.1; cr = λ _. n.1 }, (ltb-false space (scratch_need l) f.1.1.1.1.0, ltb-false room (l.w * l.h) f.1.1.1.1.1.0))
